-- Text and its zeros.
use Rattle.std.proofs.Common.{◌≡◌, ℕ, suc, ◌+◌, ◌-◌, ◌<◌, ◌≤◌, Bool, true, false, MatchBool, Bor, List, [], ◌∷◌, ◌++◌, length, get_or, take, drop, replicate, sym, refl, ap, ◌∙◌, subst, ⊎_elim, le_refl, lt_of_lt_of_le, eq-or-lt_of_le, arith}
use Rattle.std.proofs.lemmas.List.{length-append, length-replicate, length-take-le, length-drop, take-append-drop, get_or_append_left, get_or-append_right, get_or-replicate, get_or-drop, get_or-take}
use Rattle.std.proofs.lemmas.Bool.{cases_lt}
use Rattle.std.proofs.lemmas.Bool.Decides.{nat_tests}
use Rattle.std.specs.Bool.{then_some}
use Rattle.protocol.specs.Text.{character, Character, Characters, padded, IsText, Shown}

-- what follows from it is all that the other laws know of characters
zero_no_character : Character 0 → ⊥
zero_no_character h = omega arith

pub character_true : (b : ℕ) → Character b → character b ≡ true
character_true b h = grind (arith, nat_tests, h)

pub character_told : (b : ℕ) → character b ≡ true → Character b
character_told b h = grind (arith, nat_tests, h)

pub length_padded : (cs : List ℕ) → length cs ≤ 30 → length (padded cs) ≡ 30
length_padded cs h = omega (arith, length-append cs (replicate (30 - length cs) 0), length-replicate {A = ℕ} (30 - length cs) 0)

pub text_length : (bs : List ℕ) → IsText bs → length bs ≡ 30
text_length bs (cs, h, e) = ap length e ∙ length_padded cs h.short

-- bytes that are all zero
blank_is : (xs : List ℕ) → ((k : ℕ) → k < length xs → get_or xs k 0 ≡ 0) → xs ≡ replicate (length xs) 0
blank_is [] h = refl
blank_is (x ∷ xs) h = rw (h 0 (omega arith)) (ap (λ zs. 0 ∷ zs) (blank_is xs (λ k l. h (suc k) (omega arith))))

pub text_shown : (bs : List ℕ) (n : ℕ) → length bs ≡ 30 → n ≤ 30 → ((k : ℕ) → k < n → Character (get_or bs k 0)) → ((k : ℕ) → k < length (drop n bs) → get_or (drop n bs) k 0 ≡ 0) → Characters (take n bs) × (bs ≡ padded (take n bs))
text_shown bs n l h each rest =
    let t : length (take n bs) ≡ n = length-take-le n bs (omega arith) in
    let d : length (drop n bs) ≡ 30 - n = omega (arith, length-drop n bs) in (
      record { short = omega arith; each = λ k i. let j : k < n = omega arith in rw (get_or-take n bs k 0 j) (each k j) },
      sym (take-append-drop n bs) ∙ ap (λ zs. take n bs ++ zs) (blank_is (drop n bs) rest ∙ ap (λ m. replicate m 0) (d ∙ ap (λ m. 30 - m) (sym t))),
    )

padded_front : (cs : List ℕ) (k : ℕ) → k < length cs → get_or (padded cs) k 0 ≡ get_or cs k 0
padded_front cs k h = get_or_append_left cs (replicate (30 - length cs) 0) 0 k h

padded_rest : (cs : List ℕ) (k : ℕ) → length cs ≤ k → k < 30 → get_or (padded cs) k 0 ≡ 0
padded_rest cs k h l =
    get_or-append_right cs (replicate (30 - length cs) 0) (length cs) k 0 refl h ∙ get_or-replicate (30 - length cs) (k - length cs) 0 0 (omega arith)

-- where n characters stand in front and no more, what follows them in a text is zeros
pub text_refused : (bs : List ℕ) (n k : ℕ) → length bs ≡ 30 → n ≤ 30 → ((k : ℕ) → k < n → Character (get_or bs k 0)) → (n < length bs → Character (get_or bs n 0) → ⊥) → k < length (drop n bs) → (get_or (drop n bs) k 0 ≡ 0 → ⊥) → IsText bs → ⊥
text_refused bs n k l h before stops i ne (cs, c, e) =
    let front : (j : ℕ) → j < length cs → get_or bs j 0 ≡ get_or cs j 0 = λ j q. ap (λ zs. get_or zs j 0) e ∙ padded_front cs j q in
    let rest : (j : ℕ) → length cs ≤ j → j < 30 → get_or bs j 0 ≡ 0 = λ j q r. ap (λ zs. get_or zs j 0) e ∙ padded_rest cs j q r in
    let s = c.short in
    let m : n + k < 30 = omega (arith, length-drop n bs) in
    ⊎_elim
    (λ q. stops (omega arith) (rw (front n q) (c.each n q)))
    (λ q. ⊎_elim
    (λ w. ne (get_or-drop n bs k 0 ∙ rest (n + k) (omega arith) m))
    (λ w. zero_no_character (subst Character (rest (length cs) (le_refl (length cs)) (lt_of_lt_of_le w h)) (before (length cs) w)))
    (eq-or-lt_of_le q))
    (cases_lt n (length cs))

-- what stands in front, if a test b tells that all behind it is zero
pub text_told : (bs : List ℕ) (n : ℕ) (b : Bool) (front : Bor (List ℕ)) → length bs ≡ 30 → n ≤ 30 → ((k : ℕ) → k < n → Character (get_or bs k 0)) → (n < length bs → Character (get_or bs n 0) → ⊥) → front.now ≡ take n bs → MatchBool b ((k : ℕ) → k < length (drop n bs) → get_or (drop n bs) k 0 ≡ 0) ((k : ℕ) × (k < length (drop n bs)) × (get_or (drop n bs) k 0 ≡ 0 → ⊥)) → Shown bs (then_some b front)
text_told bs n true front l h before stops e z = rw e (text_shown bs n l h before z)
text_told bs n false front l h before stops e z = text_refused bs n z.0 l h before stops z.1 z.2
