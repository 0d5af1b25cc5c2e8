-- What a body says, as text.
use Rattle.std.specs.Prelude.{◌≡◌, ℕ, List, [], ◌∷◌, ◌++◌, Ok, Err, codes, Result}
use Rattle.protocol.specs.declared.answer.Answer.{Answer}
use Rattle.protocol.specs.declared.answer.Answer.TheVariants as answer
use Rattle.protocol.specs.declared.counters.Counters.{Counters}
use Rattle.look.specs.declared.Look.{Look}
use Rattle.look.specs.declared.Look.TheVariants as look
use Rattle.look.specs.declared.Refusal.{Refusal}
use Rattle.asking.specs.declared.question.Question.{Question}
use Rattle.asking.specs.declared.question.Question.TheVariants as question
use Rattle.asking.specs.declared.selector.Selector.{Selector}
use Rattle.asking.specs.declared.selector.Selector.TheVariants as selector
use Rattle.look.specs.Looks.{Looked, refusal_number}
use Rattle.numbering.specs.Numbered.{command_number, energy_number, field_number, parameter_number, relay_number, position_number}
use Rattle.text.specs.Answers.{refusal, solid_pairs, trailing_numbers, text_word}

-- a word and numbers behind it
unfoldable pub counted : List ℕ → List ℕ → List ℕ
counted word numbers = word ++ trailing_numbers numbers

abbrev pub selector_text : Selector → List ℕ
selector_text selector.Ping = counted (codes " ping") []
selector_text (selector.Counter e) = counted (codes " counter") (energy_number e ∷ [])
selector_text (selector.Text f) = counted (codes " string") (field_number f ∷ [])
selector_text (selector.Parameter p) = counted (codes " parameter") (parameter_number p ∷ [])

abbrev pub question_text : Question → List ℕ
question_text (question.Read s) = selector_text s
question_text (question.Switch r p) = counted (codes " relay") (relay_number r ∷ position_number p ∷ [])

-- config, the two ratios, the two sums and the four tariffs
abbrev pub counters_numbers : Counters → List ℕ
counters_numbers c = c.config ∷ c.voltage_ratio ∷ c.current_ratio ∷ c.full ∷ c.in_use ∷ c.tariffs

abbrev pub answer_text : Answer → List ℕ
answer_text (answer.Ping v i) = counted (codes " ping") (v ∷ i ∷ [])
answer_text (answer.Counter e k) = counted (codes " counter") (energy_number e ∷ counters_numbers k)
answer_text (answer.Text f t) = counted (codes " string") (field_number f ∷ []) ++ 32 ∷ text_word t.now
answer_text (answer.Parameter p v) = counted (codes " parameter") (parameter_number p ∷ v ∷ [])
answer_text answer.Relay = counted (codes " relay") []

abbrev pub look_text : Look → List ℕ
look_text (look.Question d s password q) = counted (codes "question") (d ∷ s ∷ []) ++ (32 ∷ (solid_pairs password ++ question_text q))
look_text (look.Answer d s status x) = counted (codes "answer") (d ∷ s ∷ status) ++ answer_text x
look_text (look.Complaint d s c status) = counted (codes "complaint") (d ∷ s ∷ command_number c ∷ status)

abbrev pub looked_text : Result Look Refusal → List ℕ
looked_text (Ok x) = look_text x
looked_text (Err e) = refusal (refusal_number e)

-- the text of just what look answers for this body
abbrev pub LookText : List ℕ → List ℕ → Type 0
LookText body text = (r : Result Look Refusal) × Looked body r × (text ≡ looked_text r)
