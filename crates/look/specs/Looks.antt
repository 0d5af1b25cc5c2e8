-- What a whole body says.
use Rattle.std.specs.Prelude.{◌≡◌, ℕ, ◌≤◌, true, false, cond, List, [], ◌∷◌, ◌++◌, length, take, drop, Ok, Err, Result, ◌==◌, nat_lt, slice_index_or}
use Rattle.wire.specs.Bodies.{Content, verdict}
use Rattle.wire.specs.Bodies as bodies
use Rattle.wire.specs.Faults.{fault_number}
use Rattle.numbering.specs.declared.command.Command.{Command}
use Rattle.look.specs.declared.Look.{Look}
use Rattle.look.specs.declared.Look.TheVariants.{Question, Answer, Complaint}
use Rattle.look.specs.declared.Refusal.{Refusal}
use Rattle.look.specs.declared.Refusal.TheVariants.{Faulty, Unlawful}
use Rattle.protocol.specs.declared.answer.Answer as answers
use Rattle.protocol.specs.declared.answer.Answer.TheVariants as answer
use Rattle.asking.specs.declared.question.Question as questions
use Rattle.protocol.specs.Answers.{Means}
use Rattle.numbering.specs.Numbered.{command_number}
use Rattle.asking.specs.Questions.{Asks}

-- a request asks, whatever its password is
pub record QuestionOf (c : Content) (d s : ℕ) (p : List ℕ) (q : questions.Question) : Type 0 where
  pub request : c.request ≡ true
  pub destination : d ≡ c.destination
  pub source : s ≡ c.source
  pub password : p ≡ c.four
  pub asks : Asks c.command c.payload q

-- an answer whose fourth status is 0 means what its data say to its command
pub record AnswerOf (c : Content) (d s : ℕ) (t : List ℕ) (x : answers.Answer) : Type 0 where
  pub request : c.request ≡ false
  pub destination : d ≡ c.destination
  pub source : s ≡ c.source
  pub status : t ++ 0 ∷ [] ≡ c.four
  pub command : Command
  pub numbered : command_number command ≡ c.command
  pub means : Means command c.source c.payload x

-- an answer whose fourth status is not 0 complains, whatever its data are
pub record ComplaintOf (c : Content) (d s : ℕ) (k : Command) (t : List ℕ) : Type 0 where
  pub request : c.request ≡ false
  pub destination : d ≡ c.destination
  pub source : s ≡ c.source
  pub numbered : command_number k ≡ c.command
  pub status : t ≡ c.four
  pub refused : slice_index_or c.four 3 0 ≡ 0 → ⊥

-- the content of a frame shows this
abbrev pub Shows : Content → Look → Type 0
Shows c (Question d s p q) = QuestionOf c d s p q
Shows c (Answer d s t x) = AnswerOf c d s t x
Shows c (Complaint d s k t) = ComplaintOf c d s k t

-- a good body says a content that shows this
abbrev pub Seen : List ℕ → Look → Type 0
Seen body x = (c : Content) × bodies.Says body c × Shows c x

abbrev pub refusal_number : Refusal → ℕ
refusal_number (Faulty f) = fault_number f
refusal_number Unlawful = 39

-- the number of the refusal, if a body is refused: 32 over 43 bytes, else what is wrong with the body, else 39
abbrev pub refused_as : List ℕ → ℕ
refused_as body = cond (nat_lt 43 (length body)) 32 (cond (verdict body == 0) 39 (verdict body))

-- a body of at most 43 bytes is read to what it shows; else it is refused by its number, with 39 only where a good body shows nothing
abbrev pub Looked : List ℕ → Result Look Refusal → Type 0
Looked body (Ok x) = (length body ≤ 43) × Seen body x
Looked body (Err e) = (refusal_number e ≡ refused_as body) × (refusal_number e ≡ 39 → (x : Look) → Seen body x → ⊥)

-- a text that is shown is the part of the body behind the field's byte
abbrev pub TextPlaced : List ℕ → answers.Answer → Type 0
TextPlaced body (answer.Ping v i) = Unit {0}
TextPlaced body (answer.Counter e k) = Unit {0}
TextPlaced body (answer.Text f t) = t.now ≡ take (length t.now) (drop 12 body)
TextPlaced body (answer.Parameter p v) = Unit {0}
TextPlaced body answer.Relay = Unit {0}

abbrev pub Placed : List ℕ → Result Look Refusal → Type 0
Placed body (Ok (Question d s p q)) = Unit {0}
Placed body (Ok (Answer d s t x)) = TextPlaced body x
Placed body (Ok (Complaint d s k t)) = Unit {0}
Placed body (Err e) = Unit {0}
