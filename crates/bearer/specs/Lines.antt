-- What a bearer means: the bytes that wait to be read, the bytes sent and not yet fetched, and the room for more.
use Rattle.std.specs.Prelude.{◌≡◌, ℕ, ◌-◌, ◌<◌, ◌≤◌, List, [], ◌∷◌, ◌++◌, length, Some, None, Ok, Err, Option, Result}

pub record Line : Type 0 where
  pub waiting : List ℕ
  pub sent : List ℕ
  pub room : ℕ

-- the line with these bytes waiting in the place of those that wait
abbrev pub with_waiting : List ℕ → Line → Line
with_waiting bytes l = record { waiting = bytes; sent = l.sent; room = l.room }

-- next: none exactly when no byte waits, and then the line is as it was; otherwise the first byte goes, and nothing else changes
abbrev pub Takes : Line → Option ℕ → Line → Type 0
Takes before None after = (before.waiting ≡ []) × (after ≡ before)
Takes before (Some b) after = before ≡ with_waiting (b ∷ after.waiting) after

-- the line after bytes are sent, where so many bytes make the room fall by fall of their number
abbrev pub after_send : (ℕ → ℕ) → List ℕ → Line → Line
after_send fall bytes l = record { waiting = l.waiting; sent = l.sent ++ bytes; room = l.room - fall (length bytes) }

-- the room falls by the number of bytes sent
abbrev pub exact_fall : ℕ → ℕ
exact_fall n = n

-- send: refused exactly when the bytes exceed the room, and then the line is as it was
abbrev pub Sends : {E : Type 0} → (ℕ → ℕ) → List ℕ → Line → Result (Unit {0}) E → Line → Type 0
Sends fall bytes before (Ok done) after = (length bytes ≤ before.room) × (after ≡ after_send fall bytes before)
Sends fall bytes before (Err refusal) after = (before.room < length bytes) × (after ≡ before)
