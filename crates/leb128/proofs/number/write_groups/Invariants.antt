use Rattle.std.proofs.Common.{ℕ}
use Rattle.leb128.proofs.Writing.{Wrote}
use Rattle.leb128.proofs.number.write_groups.Given as goal

abbrev pub invariant-loop-left : goal.invariant-loop-left
invariant-loop-left l = (k : ℕ) × Wrote k l.left l.end l.at l.n l.initial.out l.out

abbrev pub decreases-loop-left : goal.decreases-loop-left
decreases-loop-left l = l.left
