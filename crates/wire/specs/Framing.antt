-- Stuffing and frames; what pack and unpack answer.
use Rattle.std.specs.Prelude.{◌≡◌, ℕ, ◌≤◌, Bool, cond, ◌&&◌, List, [], ◌∷◌, ◌++◌, length, take, drop, Ok, Err, Result, ◌==◌, nat_lt, slice_index}
use Rattle.wire.specs.Bodies.{Content, body_of, behind}
use Rattle.wire.specs.Receiving.{Outcome, Ran, inside, run, nothing, fault, good}

-- stuffing keeps 0x55 and 0x73 out of a body: 0x55 becomes 0x73 0x11, and 0x73 becomes 0x73 0x22
abbrev pub stuffed_byte : ℕ → List ℕ
stuffed_byte b = cond (b == 0x55) (0x73 ∷ 0x11 ∷ []) (cond (b == 0x73) (0x73 ∷ 0x22 ∷ []) (b ∷ []))

unfoldable pub stuffed : List ℕ → List ℕ
stuffed [] = []
stuffed (b ∷ bs) = stuffed_byte b ++ stuffed bs

-- a frame is 0x73 0x55, the stuffed body and 0x55
unfoldable pub framed : List ℕ → List ℕ
framed body = 0x73 ∷ 0x55 ∷ (stuffed body ++ 0x55 ∷ [])

abbrev pub frame_of : Content → List ℕ
frame_of c = framed (body_of c)

-- what is to be written at a buffer's front, or the number of the refusal
pub data Made : Type 0 where
  refused : ℕ → Made
  made : List ℕ → Made

-- pack, by the length of the buffer: 1 for more than 31 data bytes, then 2 if the buffer is shorter than the frame
abbrev pub packed : ℕ → Content → Made
packed room c =
    cond (nat_lt 31 (length c.payload)) (refused 1) (cond (nat_lt room (length (frame_of c))) (refused 2) (made (frame_of c)))

-- a run that began inside a frame: the first fault, 5 where the input ends before the frame does, 6 where bytes follow the frame
abbrev pub ended_by : Outcome → List ℕ → Made
ended_by nothing rest = refused 5
ended_by (fault n) rest = refused n
ended_by (good body) [] = made body
ended_by (good body) (b ∷ rest) = refused 6

abbrev pub ended : Ran → Made
ended ran = ended_by ran.outcome ran.left

abbrev pub begins : List ℕ → Bool
begins input = slice_index input 0 == 0x73 && slice_index input 1 == 0x55

-- the body of an input that is to be one whole frame: 4 unless it begins 0x73 0x55, then as the run from there ends
abbrev pub unframed : List ℕ → Made
unframed input = cond (begins input) (ended (run (inside []) (behind 2 input))) (refused 4)

-- unpack, by the length of the buffer: 3 under 43, then as the input has it
abbrev pub unpacked : ℕ → List ℕ → Made
unpacked room input = cond (nat_lt room 43) (refused 3) (unframed input)

-- The buffer holds what was made at its front, the answer is its length, and the other places are as they were; a refusal has its
-- number, and every place is as it was.
abbrev pub Writes : {E : Type 0} → (E → ℕ) → Made → Result ℕ E → List ℕ → List ℕ → Type 0
Writes number m (Ok n) was now = (m ≡ made (take n now)) × (n ≤ length was) × (drop n now ≡ drop n was)
Writes number m (Err e) was now = (m ≡ refused (number e)) × (now ≡ was)
