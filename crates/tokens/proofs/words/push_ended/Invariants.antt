use Rattle.std.proofs.Common.{◌≡◌, ◌≤◌, ◌++◌, map, drop, vec_items}
use Rattle.std.specs.List.{between}
use Rattle.tokens.specs.Words.{gathered, words}
use Rattle.tokens.proofs.words.push_ended.Given as goal

abbrev pub invariant-loop-i : goal.invariant-loop-i
invariant-loop-i l = (l.start ≤ l.i) × (map (λ w. w.now) (vec_items l.words) ++ gathered (between l.start l.i l.line) (drop l.i l.line) ≡ words l.line)
