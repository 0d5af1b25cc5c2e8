-- What the examples show.
use Rattle.std.specs.Prelude.{◌≡◌, ℕ, ◌<◌, ◌≤◌, List, [], ◌∷◌, ◌++◌, length, drop, Some, Ok, Err, Option, Result}
use Rattle.wire.specs.declared.fault.Fault.{Fault}

-- the body of the question of a ping to the meter at address 5, and the frame around it
abbrev pub body : List ℕ
body = 0x20 ∷ 0x00 ∷ 0x05 ∷ 0x00 ∷ 0xFF ∷ 0xFF ∷ 0x01 ∷ 0x00 ∷ 0x00 ∷ 0x00 ∷ 0x00 ∷ 0xCA ∷ []

abbrev pub ping : List ℕ
ping = 0x73 ∷ 0x55 ∷ (body ++ 0x55 ∷ [])

-- a good frame is heard
abbrev pub Hears : Option (Result (Unit {0}) Fault) → Type 0
Hears r = r ≡ Some (Ok tt)

-- what the caller finds in the buffer when the tape is gone: the bytes at its front and the rest as it was, or all as it was
-- exactly when the bytes exceed it
abbrev pub Left : {E : Type 0} → List ℕ → List ℕ → Result (Unit {0}) E → List ℕ → Type 0
Left bytes was (Ok done) now = (length bytes ≤ length was) × (now ≡ bytes ++ drop (length bytes) was)
Left bytes was (Err e) now = (length was < length bytes) × (now ≡ was)
