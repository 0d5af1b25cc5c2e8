-- How answers are written.
use Rattle.std.specs.Prelude.{ℕ, ◌+◌, ◌/◌, ◌%◌, cond, List, [], ◌∷◌, ◌++◌, codes, decimal, nat_lt}
use Rattle.std.specs.List.{flat_map}
use Rattle.text.specs.Phrases.{phrase}

-- a hexadecimal digit in upper case
abbrev pub hex_digit : ℕ → ℕ
hex_digit d = cond (nat_lt d 10) (48 + d) (55 + d)

-- a byte as two digits
abbrev pub two_digits : ℕ → List ℕ
two_digits b = hex_digit (b / 16) ∷ hex_digit (b % 16) ∷ []

-- bytes as pairs with nothing between them
abbrev pub solid_pairs : List ℕ → List ℕ
solid_pairs bs = flat_map two_digits bs

-- bytes as pairs, each behind a space
abbrev pub trailing_pairs : List ℕ → List ℕ
trailing_pairs bs = flat_map (λ b. 32 ∷ two_digits b) bs

-- numbers in decimal, each behind a space
abbrev pub trailing_numbers : List ℕ → List ℕ
trailing_numbers ns = flat_map (λ n. 32 ∷ decimal n) ns

-- a text of bytes as one word: its pairs, or `-` where it has none
abbrev pub text_word : List ℕ → List ℕ
text_word [] = 45 ∷ []
text_word (b ∷ bs) = solid_pairs (b ∷ bs)

-- `refused N (MEANING)`
abbrev pub refusal : ℕ → List ℕ
refusal n = codes "refused " ++ (decimal n ++ (codes " (" ++ (phrase n ++ codes ")")))
