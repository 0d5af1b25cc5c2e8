use Rattle.std.proofs.Common.{◌≡◌, length, vec_items}
use Rattle.tokens.specs.Bytes.{pairs, behind}
use Rattle.tokens.proofs.bytes.push_pairs.Given as goal

abbrev pub invariant-loop-rest : goal.invariant-loop-rest
invariant-loop-rest l = behind (vec_items l.bytes) (pairs l.rest) ≡ behind (vec_items l.initial.bytes) (pairs l.word)

abbrev pub decreases-loop-rest : goal.decreases-loop-rest
decreases-loop-rest l = length l.rest
