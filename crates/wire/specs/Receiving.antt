-- The receiver as a machine: where it stands, and what a byte does to it.
use Rattle.std.specs.Prelude.{ℕ, cond, List, [], ◌∷◌, ◌++◌, length, ◌==◌, nat_lt}
use Rattle.wire.specs.Bodies.{verdict}

-- A receiver hunts for a frame, stands behind a mark outside a frame, or is inside a frame or behind an escape byte in it, with the
-- body so far.
pub data Receiving : Type 0 where
  hunting : Receiving
  marked : Receiving
  inside : List ℕ → Receiving
  escaped : List ℕ → Receiving

-- What a byte brings about: nothing yet, a fault by its number, or a good frame by its body.
pub data Outcome : Type 0 where
  nothing : Outcome
  fault : ℕ → Outcome
  good : List ℕ → Outcome

-- a byte joins the body, but a 44th gives fault 32, and the receiver hunts
abbrev pub joined : List ℕ → ℕ → Receiving × Outcome
joined body b = cond (nat_lt (length body) 43) (inside (body ++ b ∷ []), nothing) (hunting, fault 32)

-- the frame ends: its body is judged, and the receiver hunts
abbrev pub closed : List ℕ → Receiving × Outcome
closed body = (hunting, cond (verdict body == 0) (good body) (fault (verdict body)))

-- 0x73 marks and 0x55 flags; inside a frame 0x73 0x11 stands for 0x55 and 0x73 0x22 for 0x73, and any other byte behind 0x73 is fault 31.
abbrev pub step : Receiving → ℕ → Receiving × Outcome
step hunting b = cond (b == 0x73) (marked, nothing) (hunting, nothing)
step marked b = cond (b == 0x55) (inside [], nothing) (cond (b == 0x73) (marked, nothing) (hunting, nothing))
step (inside body) b = cond (b == 0x55) (closed body) (cond (b == 0x73) (escaped body, nothing) (joined body b))
step (escaped body) b =
    cond (b == 0x11) (joined body 0x55)
    (cond (b == 0x22) (joined body 0x73)
    (cond (b == 0x55) (inside [], fault 31) (cond (b == 0x73) (marked, fault 31) (hunting, fault 31))))

-- A run takes bytes up to the first fault or good frame.
pub record Ran : Type 0 where
  pub receiver : Receiving
  pub outcome : Outcome
  pub left : List ℕ

abbrev pub then_on : Receiving × Outcome → List ℕ → (Receiving → Ran) → Ran
then_on (r, nothing) bs more = more r
then_on (r, fault n) bs more = record { receiver = r; outcome = fault n; left = bs }
then_on (r, good body) bs more = record { receiver = r; outcome = good body; left = bs }

abbrev pub run : Receiving → List ℕ → Ran
run r [] = record { receiver = r; outcome = nothing; left = [] }
run r (b ∷ bs) = then_on (step r b) bs (λ n. run n bs)
