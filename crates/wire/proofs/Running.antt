-- A run over a stuffed body, and back: what a run that ends in a good frame was given.
use Rattle.std.proofs.Common.{◌≡◌, ℕ, ◌+◌, ◌<◌, ◌≤◌, Bool, true, false, cond, eqb, ltb, List, [], ◌∷◌, ◌++◌, length, sym, refl, ap, ◌∙◌, inl, inr, arith}
use Rattle.std.proofs.lemmas.List.{append_assoc, append-nil, length-append}
use Rattle.std.proofs.lemmas.Bool.{cases_Bool, eqb-true, eq-eqb, lt-ltb, cond-true}
use Rattle.wire.specs.Bodies.{verdict}
use Rattle.wire.specs.Receiving.{Receiving, Outcome, hunting, marked, inside, escaped, nothing, fault, good, joined, closed, then_on, run}
use Rattle.wire.specs.Framing.{refused, made, stuffed_byte, stuffed, ended}

-- by cases on a test
pub split : {A R : Type 0} (t : Bool) (x y : A) (P : A → Type 0) → P (cond t x y) → (t ≡ true → P x → R) → (t ≡ false → P y → R) → R
split true x y P p f g = f refl p
split false x y P p f g = g refl p

pub never : {n : ℕ} {xs : List ℕ} → refused n ≡ made xs → ⊥
never e = let z : ◌≡◌ {A = ℕ} 0 1 = cc in omega arith

-- a byte that has a place joins, and the run goes on behind it
joins : (acc bs : List ℕ) (b : ℕ) → length acc < 43 → then_on (joined acc b) bs (λ n. run n bs) ≡ run (inside (acc ++ b ∷ [])) bs
joins acc bs b h = ap (λ s. then_on s bs (λ n. run n bs)) (cond-true (ltb (length acc) 43) _ _ (lt-ltb (length acc) 43 h))

-- a stuffed byte joins as itself
byte_runs : (acc rest : List ℕ) (b : ℕ) → length acc < 43 → run (inside acc) (stuffed_byte b ++ rest) ≡ run (inside (acc ++ b ∷ [])) rest
byte_runs acc rest b h =
    elim (cases_Bool (eqb b 0x55)) [
      | inl t ↦ rw t (joins acc rest 0x55 h ∙ ap (λ v. run (inside (acc ++ v ∷ [])) rest) (sym (eqb-true b 0x55 t)))
      | inr f ↦ elim (cases_Bool (eqb b 0x73)) [
        | inl t ↦ rw (f, t) (joins acc rest 0x73 h ∙ ap (λ v. run (inside (acc ++ v ∷ [])) rest) (sym (eqb-true b 0x73 t)))
        | inr g ↦ rw (f, g) (rw (f, g) (joins acc rest b h))
      ]
    ]

pub stuffed_runs : (xs acc rest : List ℕ) → length acc + length xs ≤ 43 → run (inside acc) (stuffed xs ++ rest) ≡ run (inside (acc ++ xs)) rest
unfolding stuffed
stuffed_runs [] acc rest h = ap (λ v. run (inside v) rest) (sym (append-nil acc))
stuffed_runs (b ∷ xs) acc rest h =
    ap (run (inside acc)) (append_assoc (stuffed_byte b) (stuffed xs) rest)
    ∙ (byte_runs acc (stuffed xs ++ rest) b (omega arith)
    ∙ (stuffed_runs xs (acc ++ b ∷ []) rest (omega (arith, length-append acc (b ∷ [])))
    ∙ ap (λ v. run (inside v) rest) (append_assoc acc (b ∷ []) xs)))

-- a whole stuffed body and the closing flag, of a good body
pub good_runs : (body : List ℕ) → length body ≤ 43 → verdict body ≡ 0 → run (inside []) (stuffed body ++ 0x55 ∷ []) ≡ record { receiver = hunting; outcome = good body; left = [] }
good_runs body h v =
    stuffed_runs body [] (0x55 ∷ []) (omega arith)
    ∙ ap (λ o. then_on (hunting, o) [] (λ n. run n [])) (cond-true (eqb (verdict body) 0) (good body) (fault (verdict body)) (eq-eqb (verdict body) 0 v))

-- what a run to a good frame was given: the stuffed rest of its body and the closing flag
abbrev pub Given : Receiving → List ℕ → List ℕ → Type 0
Given hunting input body = Unit {0}
Given marked input body = Unit {0}
Given (inside acc) input body = (xs : List ℕ) × (input ≡ stuffed xs ++ 0x55 ∷ []) × (body ≡ acc ++ xs)
Given (escaped acc) input body = (xs : List ℕ) × (0x73 ∷ input ≡ stuffed xs ++ 0x55 ∷ []) × (body ≡ acc ++ xs)

-- one byte more in front
pushed : (acc bs body w : List ℕ) (b : ℕ) → w ≡ stuffed_byte b → Given (inside (acc ++ b ∷ [])) bs body → (xs : List ℕ) × (w ++ bs ≡ stuffed xs ++ 0x55 ∷ []) × (body ≡ acc ++ xs)
unfolding stuffed
pushed acc bs body w b e (xs, i, j) =
    (b ∷ xs, ap (λ v. v ++ bs) e ∙ (ap (λ v. stuffed_byte b ++ v) i ∙ sym (append_assoc (stuffed_byte b) (stuffed xs) (0x55 ∷ []))), j ∙ append_assoc acc (b ∷ []) xs)

Stops : List ℕ → List ℕ → Receiving × Outcome → Type 0
Stops bs body s = ended (then_on s bs (λ n. run n bs)) ≡ made body

-- a joined byte was given stuffed, as w
joined_given : (acc bs body w : List ℕ) (b : ℕ) → w ≡ stuffed_byte b → ((r : Receiving) → ended (run r bs) ≡ made body → Given r bs body) → Stops bs body (joined acc b) → (xs : List ℕ) × (w ++ bs ≡ stuffed xs ++ 0x55 ∷ []) × (body ≡ acc ++ xs)
unfolding Stops
joined_given acc bs body w b e more p =
    split (ltb (length acc) 43) (inside (acc ++ b ∷ []), nothing) (hunting, fault 32) (Stops bs body) p
    (λ t q. pushed acc bs body w b e (more (inside (acc ++ b ∷ [])) q))
    (λ f q. absurd (never q))

nothing_left : (acc body bs : List ℕ) → ended (record { receiver = hunting; outcome = good acc; left = bs }) ≡ made body → (bs ≡ []) × (body ≡ acc)
nothing_left acc body [] e = (refl, cc)
nothing_left acc body (b ∷ bs) e = absurd (never e)

-- the flag closed a body that was good, and nothing followed
closed_given : (acc bs body : List ℕ) → Stops bs body (closed acc) → (bs ≡ []) × (body ≡ acc)
unfolding Stops
closed_given acc bs body p =
    split (eqb (verdict acc) 0) (good acc) (fault (verdict acc)) (λ o. Stops bs body (hunting, o)) p
    (λ t q. nothing_left acc body bs q)
    (λ f q. absurd (never q))

pub given : (body input : List ℕ) (r : Receiving) → ended (run r input) ≡ made body → Given r input body
unfolding Stops stuffed
given body [] hunting e = tt
given body [] marked e = tt
given body [] (inside acc) e = absurd (never e)
given body [] (escaped acc) e = absurd (never e)
given body (b ∷ bs) hunting e = tt
given body (b ∷ bs) marked e = tt
given body (b ∷ bs) (inside acc) e =
    split (eqb b 0x55) (closed acc) (cond (eqb b 0x73) (escaped acc, nothing) (joined acc b)) (Stops bs body) e
    (λ t p.
    let c = closed_given acc bs body p in
    ([], (λ i. eqb-true b 0x55 t i ∷ c.0 i), c.1 ∙ sym (append-nil acc)))
    (λ f p.
    split (eqb b 0x73) (escaped acc, nothing) (joined acc b) (Stops bs body) p
    (λ t q. let g = given body bs (escaped acc) q in (g.0, ap (λ v. v ∷ bs) (eqb-true b 0x73 t) ∙ g.1, g.2))
    (λ g q. joined_given acc bs body (b ∷ []) b (rw (f, g)) (λ r m. given body bs r m) q))
given body (b ∷ bs) (escaped acc) e =
    split (eqb b 0x11) (joined acc 0x55) (cond (eqb b 0x22) (joined acc 0x73) (cond (eqb b 0x55) (inside [], fault 31) (cond (eqb b 0x73) (marked, fault 31) (hunting, fault 31)))) (Stops bs body) e
    (λ t p. joined_given acc bs body (0x73 ∷ b ∷ []) 0x55 (ap (λ v. 0x73 ∷ v ∷ []) (eqb-true b 0x11 t)) (λ r m. given body bs r m) p)
    (λ f p.
    split (eqb b 0x22) (joined acc 0x73) (cond (eqb b 0x55) (inside [], fault 31) (cond (eqb b 0x73) (marked, fault 31) (hunting, fault 31))) (Stops bs body) p
    (λ t q. joined_given acc bs body (0x73 ∷ b ∷ []) 0x73 (ap (λ v. 0x73 ∷ v ∷ []) (eqb-true b 0x22 t)) (λ r m. given body bs r m) q)
    (λ g q.
    split (eqb b 0x55) (inside [], fault 31) (cond (eqb b 0x73) (marked, fault 31) (hunting, fault 31)) (Stops bs body) q
    (λ t w. absurd (never w))
    (λ h w. split (eqb b 0x73) (marked, fault 31) (hunting, fault 31) (Stops bs body) w (λ t v. absurd (never v)) (λ t v. absurd (never v)))))
