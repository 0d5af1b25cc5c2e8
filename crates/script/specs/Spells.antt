-- What a word and a list of words spell, as relations.
use Rattle.std.specs.Prelude.{◌≡◌, ℕ, ◌-◌, ◌<◌, ◌≤◌, Bool, true, false, ◌⊎◌, List, [], ◌∷◌, ◌++◌, map, length, replicate, Some, codes, ◌≢◌}
use Rattle.std.specs.Char.{to_ascii_uppercase}
use Rattle.std.specs.List.{AllByRecursion}
use Rattle.text.specs.Answers.{solid_pairs}
use Rattle.tokens.specs.Bytes.{bytes_of}
use Rattle.script.specs.Grammar.{Kind, Value, Body, Form, Meaning, number, four, name, direction, num, raw, called, request, answer, body, said, silence, unreadable, command, call, body_of, commands, calls, meaning_of}
use Rattle.tokens.specs.Laws.{Spelt, Parted}
use Rattle.tokens.specs.Words.{words}

-- the word w spells the argument v of this kind
pub data Writes : Kind → List ℕ → Value → Type 0 where
  a_number : (most n : ℕ) (w : List ℕ) → Spelt w n → n ≤ most → Writes (number most) w (num n)
  four_bytes : (w bs : List ℕ) → length w ≡ 8 → map to_ascii_uppercase w ≡ solid_pairs bs → AllByRecursion (λ b. b < 256) bs → Writes four w (raw bs)
  a_name : (w : List ℕ) → 0 < length w → length w ≤ 16 → AllByRecursion (λ b. (97 ≤ b) × (b ≤ 122)) w → Writes name w (called (w ++ replicate (16 - length w) 0))
  a_request : Writes direction (codes "request") request
  an_answer : Writes direction (codes "answer") answer

-- the words spell these arguments one by one, and then bytes or nothing
pub data Follows : List Kind → Bool → List (List ℕ) → Body → Type 0 where
  no_more : Follows [] false [] (body [] [])
  the_bytes : (ws : List (List ℕ)) (bs : List ℕ) → bytes_of ws ≡ Some bs → Follows [] true ws (body [] bs)
  argument : (k : Kind) (w : List ℕ) (v : Value) (ks : List Kind) (b : Bool) (ws : List (List ℕ)) (vs : List Value) (bs : List ℕ) → Writes k w v → Follows ks b ws (body vs bs) → Follows (k ∷ ks) b (w ∷ ws) (body (v ∷ vs) bs)

-- words are read by a form just where they spell what is read
abbrev pub FormsExact : Type 0
FormsExact = (ks : List Kind) (b : Bool) (ws : List (List ℕ)) (y : Body) → (body_of ks b ws ≡ Some y → Follows ks b ws y) × (Follows ks b ws y → body_of ks b ws ≡ Some y)

-- a form of the table
abbrev pub In : Form → List Form → Type 0
In f [] = ⊥
In f (g ∷ gs) = (f ≡ g) ⊎ In f gs

-- the line says a command: its keyword and what follows it; or a call: a name that is no keyword of a command, the call's keyword and what follows it
pub data Says : List ℕ → Meaning → Type 0 where
  a_command : (line : List ℕ) (f : Form) (ws : List (List ℕ)) (y : Body) → In f commands → Parted line (f.keyword ∷ ws) → Follows f.arguments f.bytes ws y → Says line (command (said f.keyword y))
  a_call : (line w ls : List ℕ) (f : Form) (ws : List (List ℕ)) (y : Body) → Writes name w (called ls) → ((g : Form) → In g commands → g.keyword ≢ w) → In f calls → Parted line (w ∷ f.keyword ∷ ws) → Follows f.arguments f.bytes ws y → Says line (call ls (said f.keyword y))

-- a command or a call, and not silence or an unreadable line
abbrev pub Asks : Meaning → Type 0
Asks silence = ⊥
Asks unreadable = ⊥
Asks (command s) = Unit {0}
Asks (call n s) = Unit {0}

-- a line is read as a command or a call just where it says it
abbrev pub LinesExact : Type 0
LinesExact = (line : List ℕ) (m : Meaning) → (Asks m → meaning_of (words line) ≡ m → Says line m) × (Says line m → meaning_of (words line) ≡ m)
