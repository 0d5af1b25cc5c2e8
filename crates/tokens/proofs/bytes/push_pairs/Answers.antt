use Rattle.std.proofs.Common.{vec_items, arith}
use Rattle.std.proofs.lemmas.Bool.{ltb-false}
use Rattle.tokens.proofs.Pairing.{pushed_pair}
use Rattle.tokens.proofs.bytes.push_pairs.Goals as goal

pub loop-rest-preserved : goal.loop-rest-preserved
loop-rest-preserved c = pushed_pair (vec_items c.loop-rest.bytes) _ c.loop-rest.rest.now c.in-Some.byte _ (omega (arith, ltb-false)) c.in-Some.ensures c.in_ok-push.ensures.items c.loop-rest.invariant
