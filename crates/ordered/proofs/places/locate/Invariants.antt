use Rattle.std.proofs.Common.{ℕ, ◌<◌, get_or}
use Rattle.ordered.proofs.places.locate.Given as goal

abbrev pub invariant-loop-i : goal.invariant-loop-i
invariant-loop-i g l = (k : ℕ) (d : g.row.R.Denot) → k < l.i → g.R.Keyed.place (get_or l.records k d) < g.R.Id.Key.rank l.key
