use Rattle.std.proofs.Common.{arith}
use Rattle.wire.specs.Fields.{content}
use Rattle.look.proofs.Seeing.{seen_looked, seen_placed}
use Rattle.look.proofs.Look.read.Goals as goal

pub returns : goal.returns
returns c =
    let s = c.in_ok-read.ensures in
    rw c.ok_or.ensures.value
    record {
      looks = seen_looked c.args.body.now (content c.in_ok-read.field-0) c.seen.result (omega arith) s c.seen.ensures;
      place = seen_placed c.args.body.now (content c.in_ok-read.field-0) c.seen.result s c.seen.ensures;
    }
