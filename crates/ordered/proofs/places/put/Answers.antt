use Rattle.std.proofs.Common.{refl, arith}
use Rattle.ordered.proofs.Tabling.{put_full, put_over, put_between}
use Rattle.ordered.proofs.places.put.Goals as goal

pub returns-then-held-min : goal.returns-then-held-min
returns-then-held-min g c =
    (put_full g.R.Keyed.place c.args.item c.args.limit c.args.held c.args.places.now c.requires c.in-Err.at (rw c.key.ensures at c.in-Err.ensures) (omega (arith, c.min.ensures)), refl)

pub returns-in-Ok : goal.returns-in-Ok
returns-in-Ok g c =
    put_over g.R.Keyed.place c.args.item c.args.limit c.args.held c.args.places.now c.requires c.in-Ok.at c.replace.new.places (rw c.key.ensures at c.in-Ok.ensures) c.replace.ensures

pub returns-else-held-min : goal.returns-else-held-min
returns-else-held-min g c =
    let o = c.insert.ensures in
    put_between g.R.Keyed.place c.args.item c.args.limit c.args.held c.args.places.now c.requires c.in-Err.at c.insert.new.places (rw c.key.ensures at c.in-Err.ensures) (omega (arith, c.if-held-min.false, c.min.ensures)) c.insert.auto.places o.below o.here o.above o.rest
