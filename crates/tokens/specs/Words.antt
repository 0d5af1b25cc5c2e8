-- A line's words.
use Rattle.std.specs.Prelude.{◌≡◌, ℕ, ◌<◌, ◌≤◌, Bool, cond, ◌||◌, List, [], ◌∷◌, ◌++◌, map, length, ◌==◌}
use Rattle.std.specs.Borrow.{Bor}
use Rattle.std.specs.List.{between}

-- a space or a tab parts words
abbrev pub blank : ℕ → Bool
blank b = b == 32 || b == 9

-- a word that has ended, before the words that follow it: none where it has no character
abbrev pub ended : List ℕ → List (List ℕ) → List (List ℕ)
ended [] ws = ws
ended (b ∷ bs) ws = (b ∷ bs) ∷ ws

-- the words of what follows, where the word w has begun
abbrev pub gathered : List ℕ → List ℕ → List (List ℕ)
gathered w [] = ended w []
gathered w (b ∷ bs) = cond (blank b) (ended w (gathered [] bs)) (gathered (w ++ b ∷ []) bs)

-- the words of a line
unfoldable pub words : List ℕ → List (List ℕ)
words line = gathered [] line

-- ws are the line's words where nothing stands from `start` on, and otherwise all but the last, which begins there
abbrev pub Ended : List (Bor (List ℕ)) → ℕ → List ℕ → Type 0
Ended ws start line =
    (length line ≤ start → map (λ w. w.now) ws ≡ words line)
    × (start < length line → (vs : List (Bor (List ℕ))) (w : Bor (List ℕ)) → vs ≡ ws ++ w ∷ [] → w.now ≡ between start (length line) line → map (λ v. v.now) vs ≡ words line)
