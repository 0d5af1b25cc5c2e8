-- Records in order: look-ups, a record put, records removed.
use Rattle.std.proofs.Common.{◌≡◌, ℕ, zero, suc, ◌+◌, ◌<◌, ◌≤◌, true, false, cond, eqb, ltb, leb, List, [], ◌∷◌, ◌++◌, length, get_or, set, is_some, Some, None, Ok, Err, refl, sym, ap, ◌∙◌, ⊎_elim, Ordering, Less, Equal, Greater, is_lt, true≢false, arith}
use Rattle.std.proofs.lemmas.Bool.Decides.{nat_tests}
use Rattle.std.proofs.lemmas.Bool.{lt-ltb, le-ltb, eq-eqb, ne_eqb, cases_order, cases_eq, cases_Bool, leb-true, le-leb, and_parts, and_from}
use Rattle.std.specs.List.{insert, AllByRecursion}
use Rattle.std.specs.Ordering.{MatchOrdering}
use Rattle.ordered.specs.Ranks.{rises, Rises, found, placed, within, without, Located}

module _ {X : Type 0} (place : X → ℕ) where
  -- a list in order is its first record and the others
  pub first_of : (low : ℕ) (x : X) (xs : List X) → rises place low (x ∷ xs) ≡ true → low ≤ place x
  first_of low x xs c = leb-true low (place x) (and_parts (leb low (place x)) (rises place (suc (place x)) xs) c).0

  pub others_of : (low : ℕ) (x : X) (xs : List X) → rises place low (x ∷ xs) ≡ true → rises place (suc (place x)) xs ≡ true
  others_of low x xs c = (and_parts (leb low (place x)) (rises place (suc (place x)) xs) c).1

  pub ahead : (low : ℕ) (x : X) (xs : List X) → low ≤ place x → rises place (suc (place x)) xs ≡ true → rises place low (x ∷ xs) ≡ true
  ahead low x xs h c = and_from (leb low (place x)) (rises place (suc (place x)) xs) (le-leb low (place x) h) c

  pub rises_lower : (low up : ℕ) (xs : List X) → low ≤ up → rises place up xs ≡ true → rises place low xs ≡ true
  rises_lower low up [] h c = refl
  rises_lower low up (x ∷ xs) h c = ahead low x xs (omega (arith, first_of up x xs c)) (others_of up x xs c)

  -- look-ups
  pub found_placed : (r : X) (k : ℕ) (xs : List X) → found place k (placed place r xs) ≡ cond (eqb (place r) k) (Some r) (found place k xs)
  found_placed r k [] = refl
  found_placed r k (x ∷ xs) = let ih = found_placed r k xs in grind (arith, nat_tests)

  pub found_without : (first last k : ℕ) (xs : List X) → found place k (without place first last xs) ≡ cond (within first last k) None (found place k xs)
  found_without first last k [] = grind (arith, nat_tests)
  found_without first last k (x ∷ xs) = let ih = found_without first last k xs in grind (arith, nat_tests)

  found_below : (k low : ℕ) (xs : List X) → k < low → rises place low xs ≡ true → found place k xs ≡ None
  found_below k low [] h c = refl
  found_below k low (x ∷ xs) h c =
      let l : low ≤ place x = first_of low x xs c in
      let u : eqb (place x) k ≡ false = ne_eqb (place x) k (λ e. omega arith) in
      rw u (found_below k (suc (place x)) xs (omega arith) (others_of low x xs c))

  -- order is kept
  rises_placed : (r : X) (low : ℕ) (xs : List X) → low ≤ place r → rises place low xs ≡ true → rises place low (placed place r xs) ≡ true
  rises_placed r low [] h c = ahead low r [] h refl
  rises_placed r low (x ∷ xs) h c =
      ⊎_elim
      (λ (e : place x ≡ place r).
      let t : ltb (place x) (place r) ≡ false = le-ltb (place x) (place r) (omega arith) in
      let u : eqb (place x) (place r) ≡ true = eq-eqb (place x) (place r) e in
      rw (t, u) (ahead low r xs h (rises_lower (suc (place r)) (suc (place x)) xs (omega arith) (others_of low x xs c))))
      (⊎_elim
      (λ (l : place x < place r).
      let t : ltb (place x) (place r) ≡ true = lt-ltb (place x) (place r) l in
      rw t (ahead low x (placed place r xs) (first_of low x xs c) (rises_placed r (suc (place x)) xs (omega arith) (others_of low x xs c))))
      (λ (g : place r < place x).
      let t : ltb (place x) (place r) ≡ false = le-ltb (place x) (place r) (omega arith) in
      let u : eqb (place x) (place r) ≡ false = ne_eqb (place x) (place r) (λ e. omega arith) in
      rw (t, u) (ahead low r (x ∷ xs) h (ahead (suc (place r)) x xs (omega arith) (others_of low x xs c)))))
      (cases_order (place x) (place r))

  pub placed_rises : (r : X) (xs : List X) → Rises place xs → Rises place (placed place r xs)
  placed_rises r xs c = rises_placed r 0 xs (omega arith) c

  rises_without : (first last low : ℕ) (xs : List X) → rises place low xs ≡ true → rises place low (without place first last xs) ≡ true
  rises_without first last low [] c = refl
  rises_without first last low (x ∷ xs) c =
      let l : low ≤ place x = first_of low x xs c in
      let t : rises place (suc (place x)) xs ≡ true = others_of low x xs c in
      ⊎_elim
      (λ (e : within first last (place x) ≡ true). rw e (rises_without first last low xs (rises_lower low (suc (place x)) xs (omega arith) t)))
      (λ (e : within first last (place x) ≡ false). rw e (ahead low x (without place first last xs) l (rises_without first last (suc (place x)) xs t)))
      (cases_Bool (within first last (place x)))

  pub without_rises : (first last : ℕ) (xs : List X) → Rises place xs → Rises place (without place first last xs)
  without_rises first last xs c = rises_without first last 0 xs c

  -- what the search has found
  pub found_here : (k low at : ℕ) (xs : List X) → rises place low xs ≡ true → Located place k xs (Ok at) → (d : X) → found place k xs ≡ Some (get_or xs at d)
  found_here k low at [] c l d = absurd (omega (arith, l.0))
  found_here k low zero (x ∷ xs) c l d = let u : eqb (place x) k ≡ true = eq-eqb (place x) k (l.2 x) in rw u
  found_here k low (suc at) (x ∷ xs) c l d =
      let b : place x < k = l.1 0 x (omega arith) in
      let u : eqb (place x) k ≡ false = ne_eqb (place x) k (λ q. omega arith) in
      rw u (found_here k (suc (place x)) at xs (others_of low x xs c) (omega (arith, l.0), (λ i y g. l.1 (suc i) y (omega arith)), l.2) d)

  pub found_nowhere : (k low at : ℕ) (xs : List X) → rises place low xs ≡ true → Located place k xs (Err at) → found place k xs ≡ None
  found_nowhere k low at [] c l = refl
  found_nowhere k low zero (x ∷ xs) c l =
      let g : k < place x = l.2 x (omega arith) in
      let u : eqb (place x) k ≡ false = ne_eqb (place x) k (λ q. omega arith) in
      rw u (found_below k (suc (place x)) xs (omega arith) (others_of low x xs c))
  found_nowhere k low (suc at) (x ∷ xs) c l =
      let b : place x < k = l.1 0 x (omega arith) in
      let u : eqb (place x) k ≡ false = ne_eqb (place x) k (λ q. omega arith) in
      rw u (found_nowhere k (suc (place x)) at xs (others_of low x xs c) (omega (arith, l.0), (λ i y g. l.1 (suc i) y (omega arith)), (λ y g. l.2 y (omega arith))))

  pub placed_over : (r : X) (at : ℕ) (xs : List X) → Located place (place r) xs (Ok at) → placed place r xs ≡ set xs at r
  placed_over r at [] l = absurd (omega (arith, l.0))
  placed_over r zero (x ∷ xs) l =
      let e : place x ≡ place r = l.2 x in
      let t : ltb (place x) (place r) ≡ false = le-ltb (place x) (place r) (omega arith) in
      let u : eqb (place x) (place r) ≡ true = eq-eqb (place x) (place r) e in
      rw (t, u)
  placed_over r (suc at) (x ∷ xs) l =
      let t : ltb (place x) (place r) ≡ true = lt-ltb (place x) (place r) (l.1 0 x (omega arith)) in
      rw t (ap (λ ys. x ∷ ys) (placed_over r at xs (omega (arith, l.0), (λ i y g. l.1 (suc i) y (omega arith)), l.2)))

  pub placed_between : (r : X) (at : ℕ) (xs : List X) → Located place (place r) xs (Err at) → placed place r xs ≡ insert xs at r
  placed_between r zero [] l = refl
  placed_between r (suc at) [] l = absurd (omega (arith, l.0))
  placed_between r zero (x ∷ xs) l =
      let g : place r < place x = l.2 x (omega arith) in
      let t : ltb (place x) (place r) ≡ false = le-ltb (place x) (place r) (omega arith) in
      let u : eqb (place x) (place r) ≡ false = ne_eqb (place x) (place r) (λ q. omega arith) in
      rw (t, u)
  placed_between r (suc at) (x ∷ xs) l =
      let t : ltb (place x) (place r) ≡ true = lt-ltb (place x) (place r) (l.1 0 x (omega arith)) in
      rw t (ap (λ ys. x ∷ ys) (placed_between r at xs (omega (arith, l.0), (λ i y g. l.1 (suc i) y (omega arith)), (λ y g. l.2 y (omega arith)))))

  pub placed_last : (r : X) (xs : List X) → AllByRecursion (λ x. place x < place r) xs → placed place r xs ≡ xs ++ r ∷ []
  placed_last r [] h = refl
  placed_last r (x ∷ xs) h = rw (lt-ltb (place x) (place r) h.0) (ap (λ ys. x ∷ ys) (placed_last r xs h.1))

  -- a key above the last is above all
  pub above_all : (k low : ℕ) (xs : List X) → rises place low xs ≡ true → ((n : ℕ) (d : X) → n + 1 ≡ length xs → place (get_or xs n d) < k) → (i : ℕ) (d : X) → i < length xs → place (get_or xs i d) < k
  above_all k low [] c h i d l = absurd (omega arith)
  above_all k low (x ∷ []) c h zero d l = h zero d refl
  above_all k low (x ∷ []) c h (suc i) d l = absurd (omega arith)
  above_all k low (x ∷ y ∷ ys) c h zero d l =
      let o = others_of low x (y ∷ ys) c in
      let f = first_of (suc (place x)) y ys o in
      let r = above_all k (suc (place x)) (y ∷ ys) o (λ n e q. h (suc n) e (omega arith)) zero d (omega arith) in
      omega arith
  above_all k low (x ∷ y ∷ ys) c h (suc i) d l = above_all k (suc (place x)) (y ∷ ys) (others_of low x (y ∷ ys) c) (λ n e q. h (suc n) e (omega arith)) i d (omega arith)

  -- records that are passed over one by one
  pub without_more : (first last : ℕ) (xs : List X) (x : X) → without place first last (xs ++ x ∷ []) ≡ without place first last xs ++ without place first last (x ∷ [])
  without_more first last [] x = refl
  without_more first last (y ∷ ys) x = let ih = without_more first last ys x in ⊎_elim
      (λ (e : within first last (place y) ≡ true). rw e ih)
      (λ (e : within first last (place y) ≡ false). rw e (ap (λ zs. y ∷ zs) ih))
      (cases_Bool (within first last (place y)))

  pub without_few : (first last : ℕ) (xs : List X) → length (without place first last xs) ≤ length xs
  without_few first last [] = omega arith
  without_few first last (x ∷ xs) = let ih = without_few first last xs in ⊎_elim
      (λ (e : within first last (place x) ≡ true). rw e (omega arith))
      (λ (e : within first last (place x) ≡ false). rw e (omega arith))
      (cases_Bool (within first last (place x)))

  -- fewer are left exactly when the key was held
  pub without_fewer : (k : ℕ) (xs : List X) → ltb (length (without place k k xs)) (length xs) ≡ is_some (found place k xs)
  without_fewer k [] = refl
  without_fewer k (x ∷ xs) =
      let ih = without_fewer k xs in
      let few = without_few k k xs in
      ⊎_elim
      (λ (e : place x ≡ k).
      let w : within k k (place x) ≡ true = grind (arith, nat_tests) in
      let u : eqb (place x) k ≡ true = eq-eqb (place x) k e in
      rw (w, u) (lt-ltb (length (without place k k xs)) (suc (length xs)) (omega arith)))
      (λ (e : place x ≡ k → ⊥).
      let w : within k k (place x) ≡ false = grind (arith, nat_tests) in
      let u : eqb (place x) k ≡ false = ne_eqb (place x) k e in
      let a = length (without place k k xs) in
      let s : ltb (suc a) (suc (length xs)) ≡ ltb a (length xs) = grind (arith, nat_tests) in
      rw (w, u) (s ∙ ih))
      (cases_eq (place x) k)

-- where the first is below the second, it is the one of the three that the order says of less
pub below_of : (A B C : Type 0) (o : Ordering) → MatchOrdering o A B C → is_lt o ≡ true → A
below_of A B C Less m e = m
below_of A B C Equal m e = absurd (true≢false (sym e))
below_of A B C Greater m e = absurd (true≢false (sym e))
