-- Text: characters in 30 places, with zeros behind them.
use Rattle.std.specs.Prelude.{◌≡◌, ℕ, ◌-◌, ◌<◌, ◌≤◌, Bool, ◌&&◌, List, ◌++◌, length, replicate, Some, None, Option, nat_le, slice_index}
use Rattle.std.specs.Borrow.{Bor}

-- the bytes that text may hold
abbrev pub Character : ℕ → Type 0
Character b = (0x20 ≤ b) × (b ≤ 0x7E)

-- the same as a test
abbrev pub character : ℕ → Bool
character b = nat_le 0x20 b && nat_le b 0x7E

-- at most 30 bytes, each of them a character
pub record Characters (cs : List ℕ) : Type 0 where
  pub short : length cs ≤ 30
  pub each : (k : ℕ) → k < length cs → Character (slice_index cs k)

-- text with the zeros up to its end
abbrev pub padded : List ℕ → List ℕ
padded cs = cs ++ replicate (30 - length cs) 0

-- bytes that are a text with its zeros
abbrev pub IsText : List ℕ → Type 0
IsText bs = (cs : List ℕ) × Characters cs × (bs ≡ padded cs)

-- the characters of a text, or nothing where the bytes are no text
abbrev pub Shown : List ℕ → Option (Bor (List ℕ)) → Type 0
Shown bs (Some r) = Characters r.now × (bs ≡ padded r.now)
Shown bs None = IsText bs → ⊥
