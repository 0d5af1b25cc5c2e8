use Rattle.std.proofs.Common.{rules}
use Rattle.std.proofs.lemmas.List.{drop_all, drop_more}
use Rattle.wire.specs.Bodies.{behind}
use Rattle.wire.proofs.Tripping.{packs_again}
use Rattle.wire.proofs.frame.accept.Goals as goal

pub returns-then-taken-rest : goal.returns-then-taken-rest
returns-then-taken-rest c =
    let good = c.in_ok-ended.was in
    let left = drop_more (behind 2 c.args.input.now) c.run-taken.result.0 0 c.if-taken-rest.true in
    search rules

pub returns : goal.returns
returns c =
    let good = c.in_ok-ended.was in
    let left = drop_all c.run-taken.result.0 (behind 2 c.args.input.now) c.if-taken-rest.false in
    (search rules, packs_again c.args.input.now (λ i. (c.type_inv.input i).fits))
