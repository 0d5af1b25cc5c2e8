use Rattle.std.proofs.Common.{rules}
use Rattle.protocol.proofs.Recording.{read_none, read_unfiled, read_filed}
use Rattle.protocol.proofs.record.read_record.Goals as goal

pub returns-in_err-answer : goal.returns-in_err-answer
returns-in_err-answer c =
    rw c.from_residual.ensures
    (read_none c.args.selector c.command.result c.args.source c.args.bytes.now c.command.ensures c.in_err-answer.ensures)

pub returns-in_err-record : goal.returns-in_err-record
returns-in_err-record c =
    rw c.from_residual-in_err-record.ensures
    (read_unfiled c.args.selector c.command.result c.args.source c.args.bytes.now c.command.ensures c.in_ok-answer.answer c.in_ok-answer.ensures c.in_err-record.ensures)

pub returns : goal.returns
returns c =
    rw c.then_some.ensures
    (read_filed c.args.selector c.command.result c.args.source c.args.bytes.now c.command.ensures c.in_ok-answer.answer c.in_ok-answer.ensures c.in_ok-record.record c.in_ok-record.ensures c.eq.result (search rules) (search rules))
