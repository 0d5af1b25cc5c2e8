-- A frame's fields, the body that they make, and how a body is judged.
use Rattle.std.specs.Prelude.{◌≡◌, ℕ, ◌+◌, ◌-◌, ◌*◌, ◌/◌, ◌%◌, Bool, cond, List, [], ◌∷◌, ◌++◌, length, take, drop, ◌==◌, nat_le, nat_lt, slice_index}
use Rattle.wire.specs.Crc.{crc_of}

-- What a frame says: whether it is a request or an answer, to whom, from whom, the command, the four bytes (the password of a
-- request, Status 1 to 4 of an answer) and the data.
pub record Content : Type 0 where
  pub request : Bool
  pub destination : ℕ
  pub source : ℕ
  pub command : ℕ
  pub four : List ℕ
  pub payload : List ℕ

-- a number of two bytes, low byte first
abbrev pub two_bytes : ℕ → List ℕ
two_bytes n = n % 256 ∷ n / 256 ∷ []

-- the parameter byte: from bit 7 down C = 0, V0 = 0, D (1 in a request) and the number of data bytes in five bits
abbrev pub parameter_byte : Content → ℕ
parameter_byte c = cond c.request 32 0 + length c.payload

-- the body up to the CRC: the parameter byte, the reserve byte, destination, source, command, four bytes, data
abbrev pub uncrced : Content → List ℕ
uncrced c =
    parameter_byte c ∷ 0
    ∷ (two_bytes c.destination ++ (two_bytes c.source ++ (c.command ∷ (c.four ++ c.payload))))

-- the body: the CRC byte is the CRC of all the bytes before it
unfoldable pub body_of : Content → List ℕ
body_of c = uncrced c ++ crc_of (uncrced c) ∷ []

-- the bytes before a body's last, and its last
abbrev pub leading : List ℕ → List ℕ
leading body = take (length body - 1) body

abbrev pub final : List ℕ → ℕ
final body = slice_index body (length body - 1)

-- what stands behind the first k places
abbrev pub behind : ℕ → List ℕ → List ℕ
behind k bytes = take (length bytes - k) (drop k bytes)

-- the number of data bytes that a body states: the low five bits of its parameter byte
abbrev pub stated : List ℕ → ℕ
stated body = slice_index body 0 % 32

-- A body's judgement: 33 under 12 bytes, then 34 if its length is not 12 and the number of data bytes that it states, then 35 for a
-- wrong CRC, then 36 if C, V0 (the two top bits of the parameter byte) or the reserve byte is not 0; else 0, which is good.
abbrev pub verdict : List ℕ → ℕ
verdict body =
    cond (nat_lt (length body) 12) 33
    (cond (length body == 12 + stated body)
    (cond (final body == crc_of (leading body)) (cond (nat_lt (slice_index body 0) 64) (cond (slice_index body 1 == 0) 0 36) 36) 35) 34)

-- A good body says what stands in the places of its fields.
pub record Says (body : List ℕ) (c : Content) : Type 0 where
  pub good : verdict body ≡ 0
  pub request : c.request ≡ nat_le 32 (slice_index body 0)
  pub destination : c.destination ≡ slice_index body 2 + 256 * slice_index body 3
  pub source : c.source ≡ slice_index body 4 + 256 * slice_index body 5
  pub command : c.command ≡ slice_index body 6
  pub four : c.four ≡ slice_index body 7 ∷ slice_index body 8 ∷ slice_index body 9 ∷ slice_index body 10 ∷ []
  pub payload : c.payload ≡ leading (behind 11 body)
