use Rattle.std.proofs.Common.{arith}
use Rattle.protocol.proofs.Texting.{text_length, text_told}
use Rattle.protocol.proofs.text.shown.Goals as goal

pub returns-then-bytes-ne30 : goal.returns-then-bytes-ne30
returns-then-bytes-ne30 c = λ t. omega (arith, text_length c.args.bytes.now t)

pub returns : goal.returns
returns c =
    rw c.then_some.ensures
    (text_told c.args.bytes.now c.count.result c.blank.result c.split_at.result.0 c.if-bytes-ne30.false (omega arith) c.count.ensures.before c.count.ensures.stops c.split_at.ensures.front (rw c.split_at.ensures.back at c.blank.ensures))
