use Rattle.std.proofs.Common.{sym}
use Rattle.ordered.proofs.Ordering.{found_nowhere}
use Rattle.ordered.proofs.Tabling.{record_here}
use Rattle.ordered.proofs.places.find.Goals as goal

pub returns-in-Ok : goal.returns-in-Ok
returns-in-Ok g c =
    record_here g.R.Keyed.place _ c.in-Ok.at c.args.records.now c.index-records-at.result c.in-Ok.ensures c.index-records-at.is

pub returns-in-Err : goal.returns-in-Err
returns-in-Err g c =
    λ h. sym (found_nowhere g.R.Keyed.place _ 0 c.in-Err.field-0 c.args.records.now h c.in-Err.ensures)
