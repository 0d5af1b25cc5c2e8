-- The words for people of every refusal and outcome.
use Rattle.std.specs.Prelude.{ℕ, Bool, true, cond, not, ◌&&◌, List, [], ◌∷◌, codes, ◌==◌}
use Rattle.std.specs.Str.{bytes_eq}

-- a number with its words
pub record Entry : Type 0 where
  pub number : ℕ
  pub words : List ℕ

abbrev entry : ℕ → List ℕ → Entry
entry n w = record { number = n; words = w }

-- what each number says
abbrev pub entries : List Entry
entries =
    entry 0 (codes "done") ∷
    entry 1 (codes "more than 31 data bytes") ∷
    entry 2 (codes "the buffer is shorter than the frame") ∷
    entry 3 (codes "the buffer is under 43 bytes") ∷
    entry 4 (codes "the input does not begin with 73 55") ∷
    entry 5 (codes "the input ends before the frame does") ∷
    entry 6 (codes "bytes follow the frame") ∷
    entry 7 (codes "the bytes exceed the free places of the cable") ∷
    entry 10 (codes "address 0 or 65535 is no meter's") ∷
    entry 11 (codes "the meter is enrolled already") ∷
    entry 12 (codes "all meter places are taken") ∷
    entry 13 (codes "the meter is not enrolled") ∷
    entry 20 (codes "the buffer is too short") ∷
    entry 21 (codes "no slot has this command and selector") ∷
    entry 22 (codes "relay above 8 or position above 1") ∷
    entry 23 (codes "the frame exceeds the room") ∷
    entry 30 (codes "no byte waits") ∷
    entry 31 (codes "a wrong byte after the escape byte") ∷
    entry 32 (codes "a body of more than 43 bytes") ∷
    entry 33 (codes "a body of fewer than 12 bytes") ∷
    entry 34 (codes "the body's length is not the one that it states") ∷
    entry 35 (codes "wrong CRC") ∷
    entry 36 (codes "a coded or reserved bit or byte is set") ∷
    entry 37 (codes "not the answer to the question") ∷
    entry 38 (codes "the meter complains") ∷
    entry 39 (codes "an unknown command or data not lawful for it") ∷
    entry 40 (codes "no reading place is left") ∷
    entry 41 (codes "the list is too short") ∷
    entry 50 (codes "the buffer is shorter than the book") ∷
    entry 51 (codes "the book ends too early") ∷
    entry 52 (codes "a number is not spelt in the shortest way") ∷
    entry 53 (codes "a value breaks a rule") ∷
    entry 54 (codes "too few places") ∷
    entry 55 (codes "bytes follow the book") ∷
    []

-- the words of a number, and none where the table has none
abbrev pub words_in : List Entry → ℕ → List ℕ
words_in [] n = []
words_in (e ∷ es) n = cond (e.number == n) e.words (words_in es n)

abbrev pub phrase : ℕ → List ℕ
phrase n = words_in entries n

-- no words are those of an entry
abbrev pub unlike : List ℕ → List Entry → Bool
unlike w [] = true
unlike w (e ∷ es) = not (bytes_eq w e.words) && unlike w es

-- every number has words of its own, and no words are empty
abbrev pub apart : List Entry → Bool
apart [] = true
apart (e ∷ es) = not (bytes_eq [] e.words) && (unlike e.words es && apart es)
