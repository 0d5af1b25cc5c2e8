use Rattle.std.proofs.Common.{sym, arith}
use Rattle.std.proofs.lemmas.Bool.{ltb-true}
use Rattle.std.proofs.lemmas.Option.{cond_some}
use Rattle.tokens.proofs.Spelling.{step_past}
use Rattle.tokens.proofs.numerals.read_digits.Goals as goal

pub returns-then-n-from : goal.returns-then-n-from
returns-then-n-from c =
    let l = c.loop-d in
    let q = cond_some _ _ _ (sym c.in_ok-value.ensures) in
    sym (step_past c.args.most c.args.base l.n l.d-index c.args.digits.now _ l.invariant.1 c.loop-d-test.true (ltb-true _ _ q.0) (omega arith) (rw q.1 (grind arith)))
