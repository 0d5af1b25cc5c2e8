use Rattle.std.proofs.Common.{arith}
use Rattle.std.proofs.lemmas.Bool.{ltb-true, ltb-false}
use Rattle.script.proofs.Parsing.{no_words, a_remark}
use Rattle.script.proofs.reading.read_words.Goals as goal

pub returns-in_default : goal.returns-in_default
returns-in_default c = no_words c.args.words.now (omega (arith, ltb-true))

pub returns-then-is_remark : goal.returns-then-is_remark
returns-then-is_remark c = a_remark c.args.words.now (omega (arith, ltb-false)) c.if-is_remark.ensures
