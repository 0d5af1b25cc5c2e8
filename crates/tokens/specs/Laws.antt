-- Laws of what is read and what is written.
use Rattle.std.specs.Prelude.{◌≡◌, ℕ, ◌^◌, ◌<◌, true, false, ◌⊎◌, List, [], ◌∷◌, ◌++◌, map, length, Some, decimal}
use Rattle.std.specs.Str.Parse.{IsNumeral, digits_value}
use Rattle.std.specs.Char.{to_ascii_uppercase}
use Rattle.std.specs.List.{AllByRecursion}
use Rattle.std.specs.Int.Digits.{number_from_digits, AllBelowBase}
use Rattle.tokens.specs.Words.{blank, words}
use Rattle.tokens.specs.Numerals.{numeral}
use Rattle.tokens.specs.Bytes.{pairs, bytes_of}
use Rattle.text.specs.Answers.{hex_digit, solid_pairs, trailing_pairs}

-- the word w spells n: decimal digits, or `0x` and hexadecimal digits
abbrev pub Spelt : List ℕ → ℕ → Type 0
Spelt w n = (IsNumeral 10 w × (n ≡ digits_value 10 w)) ⊎ ((ds : List ℕ) × (w ≡ 48 ∷ 120 ∷ ds) × IsNumeral 16 ds × (n ≡ digits_value 16 ds))

-- a word is read as a number just where it spells it
abbrev pub NumeralsExact : Type 0
NumeralsExact = (w : List ℕ) (n : ℕ) → (numeral w ≡ Some n → Spelt w n) × (Spelt w n → numeral w ≡ Some n)

-- the decimal spelling of a number reads back
abbrev pub DecimalBack : Type 0
DecimalBack = (n : ℕ) → n < 2 ^ 64 → numeral (decimal n) ≡ Some n

-- hexadecimal digits behind `0x` read back as the number that they write
abbrev pub HexBack : Type 0
HexBack = (ds : List ℕ) → 0 < length ds → AllBelowBase 16 ds → numeral (48 ∷ 120 ∷ map hex_digit ds) ≡ Some (number_from_digits 16 ds)

-- bytes written as pairs, each behind a space, read back as the same bytes
abbrev pub BytesBack : Type 0
BytesBack = (bs : List ℕ) → AllByRecursion (λ b. b < 256) bs → bytes_of (words (trailing_pairs bs)) ≡ Some bs

-- a word is read as bytes just where, in upper case, it is their pairs
abbrev pub PairsExact : Type 0
PairsExact = (w bs : List ℕ) → (pairs w ≡ Some bs → (map to_ascii_uppercase w ≡ solid_pairs bs) × AllByRecursion (λ b. b < 256) bs) × (map to_ascii_uppercase w ≡ solid_pairs bs → AllByRecursion (λ b. b < 256) bs → pairs w ≡ Some bs)

-- no word goes on in what follows it
abbrev pub Stops : List ℕ → Type 0
Stops [] = Unit {0}
Stops (b ∷ bs) = blank b ≡ true

-- the line is these words, with any number of spaces and tabs before, between and behind them
pub data Parted : List ℕ → List (List ℕ) → Type 0 where
  nothing : Parted [] []
  gap : (b : ℕ) (line : List ℕ) (ws : List (List ℕ)) → blank b ≡ true → Parted line ws → Parted (b ∷ line) ws
  word : (w line : List ℕ) (ws : List (List ℕ)) → 0 < length w → AllByRecursion (λ b. blank b ≡ false) w → Stops line → Parted line ws → Parted (w ++ line) (w ∷ ws)

-- a line is cut into just the words that it consists of
abbrev pub WordsExact : Type 0
WordsExact = (line : List ℕ) (ws : List (List ℕ)) → (words line ≡ ws → Parted line ws) × (Parted line ws → words line ≡ ws)
