use Rattle.std.proofs.Common.{◌≡◌, ◌≤◌, ◌++◌, length, take, drop}
use Rattle.ordered.specs.Ranks.{without}
use Rattle.ordered.proofs.places.remove.Given as goal

abbrev pub invariant-loop-i : goal.invariant-loop-i
invariant-loop-i g l =
    (l.left ≡ length (without g.R.Keyed.place (g.R.Id.Key.rank l.first) (g.R.Id.Key.rank l.last) (take l.i l.initial.places))) × (l.left ≤ l.i) × (l.places ≡ without g.R.Keyed.place (g.R.Id.Key.rank l.first) (g.R.Id.Key.rank l.last) (take l.i l.initial.places) ++ drop l.left l.initial.places)
