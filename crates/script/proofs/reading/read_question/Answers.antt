use Rattle.std.proofs.Common.{arith}
use Rattle.std.proofs.lemmas.Bool.{ltb-true, ltb-false}
use Rattle.script.specs.Grammar.{ask}
use Rattle.script.proofs.Parsing.{wrong_count}
use Rattle.script.proofs.reading.read_question.Goals as goal

pub returns-in_default : goal.returns-in_default
returns-in_default c = (wrong_count ask.arguments c.args.args.now (λ e. omega (arith, ltb-true, ltb-false)))

pub returns-in_default-2 : goal.returns-in_default-2
returns-in_default-2 c = (wrong_count ask.arguments c.args.args.now (λ e. omega (arith, ltb-true, ltb-false)))
