-- What a question asks, and its data.
use Rattle.std.specs.Prelude.{◌≡◌, ℕ, List, [], ◌∷◌}
use Rattle.numbering.specs.declared.command.Command.{Command}
use Rattle.numbering.specs.declared.command.Command.TheVariants as command
use Rattle.asking.specs.declared.selector.Selector.{Selector}
use Rattle.asking.specs.declared.selector.Selector.TheVariants as selector
use Rattle.asking.specs.declared.question.Question.{Question}
use Rattle.asking.specs.declared.question.Question.TheVariants.{Read, Switch}
use Rattle.numbering.specs.Numbered.{command_number, energy_number, field_number, parameter_number, relay_number, position_number}
use Rattle.asking.specs.Selectors.{command_of}

abbrev pub question_command : Question → Command
question_command (Read s) = command_of s
question_command (Switch r p) = command.Relay

-- a ping has no data, any other reading question its selector's byte
abbrev pub selector_data : Selector → List ℕ
selector_data selector.Ping = []
selector_data (selector.Counter e) = energy_number e ∷ []
selector_data (selector.Text f) = field_number f ∷ []
selector_data (selector.Parameter p) = parameter_number p ∷ []

abbrev pub question_data : Question → List ℕ
question_data (Read s) = selector_data s
question_data (Switch r p) = relay_number r ∷ position_number p ∷ []

-- a frame with this command's number and these data asks this
pub record Asks (n : ℕ) (bs : List ℕ) (q : Question) : Type 0 where
  pub command : command_number (question_command q) ≡ n
  pub bytes : question_data q ≡ bs
