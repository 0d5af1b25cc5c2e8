-- Lemmas on words.
use Rattle.std.proofs.Common.{◌≡◌, ℕ, ◌+◌, ◌<◌, ◌≤◌, true, false, List, [], ◌∷◌, ◌++◌, map, length, get_or, drop, sym, refl, ap, ◌∙◌, arith}
use Rattle.std.specs.List.{between}
use Rattle.std.proofs.lemmas.List.{drop_more, drop_all, append-nil, append_assoc, map_push}
use Rattle.std.proofs.lemmas.List.Edits.{between_more, between_none, length-between}
use Rattle.tokens.specs.Words.{blank, ended, gathered}

ended_some : (w : List ℕ) (ws : List (List ℕ)) → 0 < length w → ended w ws ≡ w ∷ ws
ended_some [] ws h = absurd (omega arith)
ended_some (b ∷ bs) ws h = refl

ended_none : (w : List ℕ) (ws : List (List ℕ)) → length w ≡ 0 → ended w ws ≡ ws
ended_none [] ws h = refl
ended_none (b ∷ bs) ws h = absurd (omega arith)

-- what the turn at i makes of the words, the first of which begins at `start`
module _ (start i : ℕ) (line : List ℕ) (so : start ≤ i) (h : i < length line) where
  at : gathered (between start i line) (drop i line) ≡ gathered (between start i line) (get_or line i 0 ∷ drop (i + 1) line)
  at = ap (gathered (between start i line)) (drop_more line i 0 h)

  fresh : gathered [] (drop (i + 1) line) ≡ gathered (between (i + 1) (i + 1) line) (drop (i + 1) line)
  fresh = ap (λ w. gathered w (drop (i + 1) line)) (sym (between_none line (i + 1)))

  pub goes_on : blank (get_or line i 0) ≡ false → gathered (between start i line) (drop i line) ≡ gathered (between start (i + 1) line) (drop (i + 1) line)
  goes_on b = at ∙ rw b (ap (λ w. gathered w (drop (i + 1) line)) (sym (between_more line start i 0 so h)))

  pub ends : blank (get_or line i 0) ≡ true → start < i → gathered (between start i line) (drop i line) ≡ between start i line ∷ gathered (between (i + 1) (i + 1) line) (drop (i + 1) line)
  ends b l = at ∙ rw b (ended_some (between start i line) _ (omega (arith, length-between line start i (omega arith))) ∙ ap (λ ws. between start i line ∷ ws) fresh)

  pub stays : blank (get_or line i 0) ≡ true → i ≤ start → gathered (between start i line) (drop i line) ≡ gathered (between (i + 1) (i + 1) line) (drop (i + 1) line)
  stays b l = at ∙ rw b (ended_none (between start i line) _ (omega (arith, length-between line start i (omega arith))) ∙ fresh)

-- the end of the line
module _ (start i : ℕ) (line : List ℕ) (e : i ≡ length line) where
  rest_gone : gathered (between start i line) (drop i line) ≡ ended (between start (length line) line) []
  rest_gone = ap (λ k. gathered (between start k line) (drop k line)) e ∙ ap (gathered (between start (length line) line)) (drop_all (length line) line (omega arith))

  pub last_word : start < length line → gathered (between start i line) (drop i line) ≡ between start (length line) line ∷ []
  last_word h = rest_gone ∙ ended_some (between start (length line) line) [] (omega (arith, length-between line start (length line) (omega arith)))

  pub no_word : length line ≤ start → gathered (between start i line) (drop i line) ≡ []
  no_word h = rest_gone ∙ ended_none (between start (length line) line) [] (omega (arith, length-between line start (length line) (omega arith)))

-- the words that were found, before the words to come
module _ {R : Type 0} (f : R → List ℕ) (ws vs : List R) where
  pub pushed : (x : R) (w : List ℕ) (rest all : List (List ℕ)) → vs ≡ ws ++ x ∷ [] → f x ≡ w → map f ws ++ (w ∷ rest) ≡ all → map f vs ++ rest ≡ all
  pushed x w rest all e q h =
      ap (λ l. map f l ++ rest) e ∙ ap (λ l. l ++ rest) (map_push f ws x) ∙ append_assoc (map f ws) (f x ∷ []) rest ∙ ap (λ y. map f ws ++ y ∷ rest) q ∙ h

  pub kept : (rest all : List (List ℕ)) → vs ≡ ws → map f ws ++ rest ≡ all → map f vs ++ rest ≡ all
  kept rest all e h = ap (λ l. map f l ++ rest) e ∙ h

  pub all_found : (all : List (List ℕ)) → map f vs ++ [] ≡ all → map f vs ≡ all
  all_found all h = sym (append-nil (map f vs)) ∙ h
