-- What the steps of the reader answer: one byte, and a number in any spelling.
use Rattle.std.specs.Prelude.{◌≡◌, ℕ, ◌-◌, ◌≤◌, List, ◌∷◌, length, Ok, Err}
use Rattle.leb128.specs.Numbers.{most, groups_read, shortest, number_read}
use Rattle.leb128.specs.Reads.{bad, Answer}

-- the first byte may stand at this place of a number, or it is refused there
abbrev pub Group : List ℕ → ℕ → Answer ℕ → Type 0
Group bytes place (Ok p) = (p.0 ≤ most place) × (bytes ≡ p.0 ∷ p.1.now)
Group bytes place (Err cause) = groups_read place bytes ≡ bad cause

-- a number that was read in some spelling is still to be refused if that is not the shortest
abbrev pub Spelled : List ℕ → Answer ℕ → Type 0
Spelled bytes (Ok p) =
    (length p.1.now ≤ length bytes) × (number_read bytes ≡ shortest (length bytes - length p.1.now) p.0 p.1.now)
Spelled bytes (Err cause) = number_read bytes ≡ bad cause
