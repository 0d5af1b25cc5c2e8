-- Records at the front of places.
use Rattle.std.proofs.Common.{◌≡◌, ℕ, ◌+◌, ◌-◌, ◌<◌, ◌≤◌, min, true, false, cond, eqb, ltb, List, [], ◌∷◌, ◌++◌, length, get_or, take, drop, set, is_some, Some, Ok, Err, sym, refl, ap, ◌∙◌, subst, ⊎_elim, arith}
use Rattle.std.proofs.lemmas.Bool.{lt-ltb, le-ltb, cases_order, cases_lt, or_left, or_right, or_from}
use Rattle.std.specs.List.{insert}
use Rattle.std.proofs.lemmas.List.{append-nil, append_assoc, length-append, length-take-le, length-set, length-drop, get_or-take, get_or-drop, get_or_append_left, get_or-append_right, same_lists, drop_at, drop-drop, take-append-drop, take_at, take_more, drop_more, set-append_left, set-append_right}
use Rattle.std.proofs.lemmas.List.Edits.{length-insert, get_or-insert_below, get_or-insert_at, get_or-insert_above}
use Rattle.ordered.specs.Ranks.{Rises, found, placed, within, without, Located}
use Rattle.ordered.specs.Tables.{State, records, room, Sound, holding, finds_place}
use Rattle.ordered.specs.Filing.{lent, Kept}
use Rattle.ordered.proofs.Ordering.{found_placed, found_without, placed_rises, without_rises, found_here, found_nowhere, placed_over, placed_between, without_more, without_fewer}

-- a table that holds other records than before
pub records_holding : {X : Type 0} (xs : List X) (s : State X) → records (holding xs s) ≡ xs
records_holding xs s = take_at xs (drop (length xs) s.places) (length xs) refl

pub holding_again : {X : Type 0} (xs ys : List X) (s : State X) → length xs ≤ length ys → holding ys (holding xs s) ≡ holding ys s
holding_again xs ys s h =
    let n = length ys - length xs in
    let e : length xs + n ≡ length ys = omega arith in
    let d : drop (length ys) (xs ++ drop (length xs) s.places) ≡ drop (length ys) s.places =
    ap (λ k. drop k (xs ++ drop (length xs) s.places)) (sym e) ∙ sym (drop-drop n (length xs) (xs ++ drop (length xs) s.places)) ∙ ap (drop n) (drop_at xs (drop (length xs) s.places) (length xs) refl) ∙ drop-drop n (length xs) s.places ∙ ap (λ k. drop k s.places) e in
    ap (λ zs. record { places = ys ++ zs; limit = s.limit; held = length ys }) d

pub room_holding : {X : Type 0} (xs : List X) (s : State X) → length xs ≤ length s.places → room (holding xs s) ≡ room s
room_holding xs s h = ap (min s.limit) (length-append xs (drop (length xs) s.places) ∙ omega (arith, length-drop (length xs) s.places))

module _ {X : Type 0} (place : X → ℕ) where
  pub record_here : (k at : ℕ) (xs : List X) (x : X) → Located place k xs (Ok at) → x ≡ get_or xs at x → Rises place xs → Some x ≡ found place k xs
  record_here k at xs x l e c = ap Some e ∙ sym (found_here place k 0 at xs c l x)

  -- a record put
  module _ (r : X) (limit held : ℕ) (ps : List X) (s : Sound place (lent ps limit held)) where
    taken : length (take held ps) ≡ held
    taken = length-take-le held ps (omega (arith, s.fits))

    abbrev pub PutIn : ℕ → List X → Type 0
    PutIn n after =
        (finds_place place r (lent ps limit held) ≡ true) × (lent after limit n ≡ holding (placed place r (take held ps)) (lent ps limit held)) × Sound place (lent after limit n) × ((k : ℕ) → found place k (take n after) ≡ cond (eqb (place r) k) (Some r) (found place k (take held ps)))

    filed : (ys after : List X) (n : ℕ) → ys ≡ placed place r (take held ps) → n ≡ length ys → after ≡ ys ++ drop n ps → n ≤ min limit (length after) → finds_place place r (lent ps limit held) ≡ true → PutIn n after
    filed ys after n e c a f p =
        let t : take n after ≡ placed place r (take held ps) = ap (take n) a ∙ take_at ys (drop n ps) n (sym c) ∙ e in
        let m : n ≡ length (placed place r (take held ps)) = c ∙ ap length e in
        let b : after ≡ placed place r (take held ps) ++ drop (length (placed place r (take held ps))) ps = a ∙ ap (λ zs. zs ++ drop n ps) e ∙ ap (λ j. placed place r (take held ps) ++ drop j ps) m in
        let P : List X → Type 0 = λ zs. Rises place zs in (
          p,
          cc,
          record { fits = f; rising = subst P (sym t) (placed_rises place r (take held ps) s.rising) },
          λ k. ap (found place k) t ∙ found_placed place r k (take held ps),
        )

    pub put_full : (at : ℕ) → Located place (place r) (take held ps) (Err at) → min limit (length ps) ≤ held → finds_place place r (lent ps limit held) ≡ false
    put_full at l f =
        let n = found_nowhere place (place r) 0 at (take held ps) s.rising l in
        or_from _ _ (ap is_some n) (le-ltb (length (take held ps)) (min limit (length ps)) (omega (arith, taken)))

    pub put_over : (at : ℕ) (after : List X) → Located place (place r) (take held ps) (Ok at) → after ≡ set ps at r → PutIn held after
    put_over at after l a =
        let f = found_here place (place r) 0 at (take held ps) s.rising l r in
        let b : set ps at r ≡ set (take held ps) at r ++ drop held ps = ap (λ zs. set zs at r) (sym (take-append-drop held ps)) ∙ set-append_left (take held ps) (drop held ps) at r l.0 in
        filed (set (take held ps) at r) after held (sym (placed_over place r at (take held ps) l)) (sym (length-set (take held ps) at r ∙ taken)) (a ∙ b) (omega (arith, s.fits, ap length a, length-set ps at r)) (or_left _ _ (ap is_some f))

    pub put_between : (at : ℕ) (after : List X) → Located place (place r) (take held ps) (Err at) → held < min limit (length ps) → length after ≡ length ps → ((k : ℕ) (d : X) → k < at → get_or after k d ≡ get_or ps k d) → ((d : X) → get_or after at d ≡ r) → ((k : ℕ) (d : X) → at < k → k ≤ held → get_or after k d ≡ get_or ps (k - 1) d) → ((k : ℕ) (d : X) → held < k → get_or after k d ≡ get_or ps k d) → PutIn (held + 1) after
    put_between at after l f n low here up rest =
        let xs = take held ps in
        let le : at ≤ length xs = l.0 in
        let v : length (insert xs at r) ≡ held + 1 = length-insert xs at r le ∙ ap (λ j. j + 1) taken in
        let w : length (insert xs at r ++ drop (held + 1) ps) ≡ length ps = length-append (insert xs at r) (drop (held + 1) ps) ∙ omega (arith, v, length-drop (held + 1) ps) in
        let same : (k : ℕ) (d : X) → k < length after → get_or after k d ≡ get_or (insert xs at r ++ drop (held + 1) ps) k d =
        λ k d g. ⊎_elim
        (λ (q : k < held + 1).
        let t : get_or (insert xs at r ++ drop (held + 1) ps) k d ≡ get_or (insert xs at r) k d = get_or_append_left (insert xs at r) (drop (held + 1) ps) d k (omega arith) in
        ⊎_elim
        (λ (e : k ≡ at). ap (λ i. get_or after i d) e ∙ here d ∙ sym (get_or-insert_at xs at r d le) ∙ ap (λ i. get_or (insert xs at r) i d) (sym e) ∙ sym t)
        (⊎_elim
        (λ (e : k < at). low k d e ∙ sym (get_or-take held ps k d (omega (arith, taken))) ∙ sym (get_or-insert_below xs at r d k e le) ∙ sym t)
        (λ (e : at < k).
        let o : k - 1 + 1 ≡ k = omega arith in
        up k d e (omega arith) ∙ sym (get_or-take held ps (k - 1) d (omega arith)) ∙ sym (get_or-insert_above xs at r d (k - 1) (omega arith) le) ∙ ap (λ i. get_or (insert xs at r) i d) o ∙ sym t))
        (cases_order k at))
        (λ (q : held + 1 ≤ k).
        let o : held + 1 + (k - (held + 1)) ≡ k = omega arith in
        rest k d (omega arith) ∙ ap (λ i. get_or ps i d) (sym o) ∙ sym (get_or-drop (held + 1) ps (k - (held + 1)) d) ∙ sym (get_or-append_right (insert xs at r) (drop (held + 1) ps) (held + 1) k d v q))
        (cases_lt k (held + 1)) in
        filed (insert xs at r) after (held + 1) (sym (placed_between place r at xs l)) (sym v) (same_lists after (insert xs at r ++ drop (held + 1) ps) (n ∙ sym w) same) (omega (arith, n)) (or_right _ _ (lt-ltb (length xs) (min limit (length ps)) (omega (arith, taken))))

  -- records removed, one turn after another
  module _ (first last : ℕ) (ps : List X) where
    abbrev rest : ℕ → List X
    rest i = without place first last (take i ps)

    abbrev pub Turn : ℕ → ℕ → List X → Type 0
    Turn i left now = (left ≡ length (rest i)) × (left ≤ i) × (now ≡ rest i ++ drop left ps)

    read : (i left : ℕ) (now : List X) (x : X) → Turn i left now → i < length ps → x ≡ get_or now i x → x ≡ get_or ps i x
    read i left now x t h e =
        let o : left + (i - left) ≡ i = omega (arith, t.1) in
        e ∙ ap (λ zs. get_or zs i x) t.2 ∙ get_or-append_right (rest i) (drop left ps) left i x (sym t.0) t.1 ∙ get_or-drop left ps (i - left) x ∙ ap (λ j. get_or ps j x) o

    step : (i : ℕ) (x : X) → i < length ps → x ≡ get_or ps i x → rest (i + 1) ≡ rest i ++ without place first last (x ∷ [])
    step i x h e = ap (without place first last) (take_more ps i x h ∙ ap (λ y. take i ps ++ y ∷ []) (sym e)) ∙ without_more place first last (take i ps) x

    pub passed : (i left : ℕ) (now : List X) (x : X) → Turn i left now → i < length ps → x ≡ get_or now i x → within first last (place x) ≡ true → Turn (i + 1) left now
    passed i left now x t h e w =
        let u : without place first last (x ∷ []) ≡ [] = rw w in
        let r : rest (i + 1) ≡ rest i = step i x h (read i left now x t h e) ∙ ap (λ zs. rest i ++ zs) u ∙ append-nil (rest i) in
        (t.0 ∙ ap length (sym r), omega (arith, t.1), t.2 ∙ ap (λ zs. zs ++ drop left ps) (sym r))

    pub moved : (i left : ℕ) (now : List X) (x : X) → Turn i left now → i < length ps → x ≡ get_or now i x → within first last (place x) ≡ false → Turn (i + 1) (left + 1) (set now left x)
    moved i left now x t h e w =
        let u : without place first last (x ∷ []) ≡ x ∷ [] = rw w in
        let r : rest (i + 1) ≡ rest i ++ x ∷ [] = step i x h (read i left now x t h e) ∙ ap (λ zs. rest i ++ zs) u in
        let l : left < length ps = omega (arith, t.1) in
        let z : left - left ≡ 0 = omega arith in
        let a : set now left x ≡ rest i ++ x ∷ drop (left + 1) ps =
        ap (λ zs. set zs left x) t.2 ∙ set-append_right (rest i) (drop left ps) left left x (sym t.0) (omega arith) ∙ ap (λ j. rest i ++ set (drop left ps) j x) z ∙ ap (λ zs. rest i ++ set zs 0 x) (drop_more ps left x l) in (
          ap (λ n. n + 1) t.0 ∙ sym (ap length r ∙ length-append (rest i) (x ∷ [])),
          omega (arith, t.1),
          a ∙ sym (append_assoc (rest i) (x ∷ []) (drop (left + 1) ps)) ∙ ap (λ zs. zs ++ drop (left + 1) ps) (sym r),
        )

    pub kept : (held left : ℕ) (now : List X) → Turn held left now → Kept place first last held ps left now
    kept held left now t =
        let c : left ≡ length (rest held) = t.0 in
        let k : take left now ≡ rest held = ap (take left) t.2 ∙ take_at (rest held) (drop left ps) left (sym c) in
        let P : List X → Type 0 = λ zs. Rises place zs in
        record {
          count = c;
          places = t.2 ∙ ap (λ j. rest held ++ drop j ps) c;
          few = t.1;
          rising = λ h. subst P (sym k) (without_rises place first last (take held ps) h);
          finds = λ j. ap (found place j) k ∙ found_without place first last j (take held ps);
          fewer = λ q. ap (λ n. ltb n (length (take held ps))) c ∙ ap (λ j. ltb (length (without place first j (take held ps))) (length (take held ps))) (sym q) ∙ without_fewer place first (take held ps);
        }
