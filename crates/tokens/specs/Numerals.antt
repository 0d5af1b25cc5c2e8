-- Numerals.
use Rattle.std.specs.Prelude.{ℕ, ◌+◌, ◌*◌, Bool, cond, ◌&&◌, List, [], ◌∷◌, drop, Some, None, Option, ◌==◌, nat_le, nat_lt, slice_index}
use Rattle.std.specs.Char.{digit_value}

-- the number that these digits make behind the digits of n
abbrev pub onward : ℕ → ℕ → List ℕ → Option ℕ
onward base n [] = Some n
onward base n (d ∷ ds) = cond (nat_lt (digit_value d) base) (onward base (n * base + digit_value d) ds) None

-- at least one digit of the base, and nothing else
abbrev pub digits_in : ℕ → List ℕ → Option ℕ
digits_in base [] = None
digits_in base (d ∷ ds) = onward base 0 (d ∷ ds)

-- the word begins with `0x`
abbrev pub hexed : List ℕ → Bool
hexed w = slice_index w 0 == 48 && slice_index w 1 == 120

-- a numeral is decimal, or hexadecimal behind `0x`
unfoldable pub numeral : List ℕ → Option ℕ
numeral w = cond (hexed w) (digits_in 16 (drop 2 w)) (digits_in 10 w)

-- a number up to `most`
abbrev pub up_to : ℕ → Option ℕ → Option ℕ
up_to most None = None
up_to most (Some n) = cond (nat_le n most) (Some n) None
