-- Bytes as pairs of hexadecimal digits.
use Rattle.std.specs.Prelude.{ℕ, ◌+◌, ◌*◌, cond, ◌&&◌, List, [], ◌∷◌, ◌++◌, length, Some, None, Option, ◌==◌, nat_lt}
use Rattle.std.specs.Char.{digit_value}

-- the byte that two hexadecimal digits write, in either case
abbrev pub pair : ℕ → ℕ → Option ℕ
pair high low = cond (nat_lt (digit_value high) 16 && nat_lt (digit_value low) 16) (Some (digit_value high * 16 + digit_value low)) None

-- a byte before others
abbrev pub before : Option ℕ → Option (List ℕ) → Option (List ℕ)
before None o = None
before (Some b) None = None
before (Some b) (Some bs) = Some (b ∷ bs)

-- the bytes of a word that is made of whole pairs
abbrev pub pairs : List ℕ → Option (List ℕ)
pairs [] = Some []
pairs (high ∷ []) = None
pairs (high ∷ low ∷ ds) = before (pair high low) (pairs ds)

-- bytes behind those of xs
abbrev pub behind : List ℕ → Option (List ℕ) → Option (List ℕ)
behind xs None = None
behind xs (Some ys) = Some (xs ++ ys)

-- the bytes of one word before those of the rest
abbrev pub joined_to : Option (List ℕ) → Option (List ℕ) → Option (List ℕ)
joined_to None o = None
joined_to (Some xs) o = behind xs o

-- the bytes of words that are each made of whole pairs
abbrev pub bytes_of : List (List ℕ) → Option (List ℕ)
bytes_of [] = Some []
bytes_of (w ∷ ws) = joined_to (pairs w) (bytes_of ws)

-- four bytes, as exactly eight digits
abbrev pub four_of : List ℕ → Option (List ℕ)
four_of w = cond (length w == 8) (pairs w) None
