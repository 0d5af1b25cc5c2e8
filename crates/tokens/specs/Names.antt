-- Names of 1 to 16 letters.
use Rattle.std.specs.Prelude.{ℕ, ◌-◌, Bool, true, cond, ◌&&◌, List, [], ◌∷◌, ◌++◌, length, replicate, Some, None, Option, nat_le, nat_lt}
use Rattle.tokens.specs.declared.names.Name.{Name}

-- a letter a to z
abbrev pub letter : ℕ → Bool
letter b = nat_le 97 b && nat_le b 122

abbrev pub all_letters : List ℕ → Bool
all_letters [] = true
all_letters (b ∷ bs) = letter b && all_letters bs

-- 1 to 16 letters, with zeros behind them up to 16 bytes
abbrev pub name_of : List ℕ → Option (List ℕ)
name_of w = cond (nat_lt 0 (length w) && nat_le (length w) 16) (cond (all_letters w) (Some (w ++ replicate (16 - length w) 0)) None) None

-- what a name holds: its letters, with zeros behind them
abbrev pub letters_of : Name → List ℕ
letters_of n = n.letters
