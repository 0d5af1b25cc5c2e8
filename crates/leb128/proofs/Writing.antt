-- The loop that writes the groups.
use Rattle.std.proofs.Common.{◌≡◌, ℕ, zero, suc, ◌+◌, ◌/◌, ◌%◌, ◌<◌, ◌≤◌, true, false, ltb, List, [], ◌∷◌, ◌++◌, length, take, drop, set, sym, refl, ap, ◌∙◌, arith}
use Rattle.std.proofs.lemmas.List.{append_assoc, take_more_set, drop-set-lt}
use Rattle.std.proofs.lemmas.Bool.Decides.{nat_tests}
use Rattle.leb128.specs.Numbers.{groups, number_form}
use Rattle.leb128.proofs.Grouping.{top}
use Rattle.leb128.proofs.Putting.{drop_later, parts_put}

-- Up to `end` stands what was written; the groups of `left`, at most k + 1, are still to be written.
abbrev pub Wrote : ℕ → ℕ → ℕ → ℕ → ℕ → List ℕ → List ℕ → Type 0
Wrote k left end at n old out =
    (left < top k)
    × (end + length (groups k left) ≡ at + length (number_form n))
    × (take end out ++ groups k left ≡ take at old ++ number_form n)
    × (drop end out ≡ drop end old)

groups_one : (k n : ℕ) → n < 128 → groups k n ≡ n ∷ []
groups_one zero n h = refl
groups_one (suc k) n h = let t : ltb n 128 ≡ true = grind (arith, nat_tests) in rw t

pub write_more : (k left end at n : ℕ) (old out : List ℕ) → Wrote k left end at n old out → 128 ≤ left → end < length out → (j : ℕ) × Wrote j (left / 128) (end + 1) at n old (set out end (left % 128 + 128))
write_more zero left end at n old out w h l = absurd (omega (arith, w.0))
write_more (suc k) left end at n old out w h l =
    let t : ltb left 128 ≡ false = grind (arith, nat_tests) in
    let b : ℕ = left % 128 + 128 in
    let f : groups (suc k) left ≡ b ∷ groups k (left / 128) = rw t in (
      k,
      (
        omega (arith, w.0),
        omega (arith, w.1, ap length f),
        ap (λ xs. xs ++ groups k (left / 128)) (take_more_set out end b l)
            ∙ append_assoc (take end out) (b ∷ []) (groups k (left / 128))
            ∙ ap (λ xs. take end out ++ xs) (sym f)
            ∙ w.2,
        drop-set-lt (end + 1) out end b (omega arith) ∙ drop_later end (end + 1) out old (omega arith) w.3,
      ),
    )

pub write_last : (k left end at n : ℕ) (old out : List ℕ) → Wrote k left end at n old out → left < 128 → end < length out → set out end left ≡ take at old ++ (number_form n ++ drop (at + length (number_form n)) old)
write_last k left end at n old out w h l =
    let f : groups k left ≡ left ∷ [] = groups_one k left h in
    let e : end + 1 ≡ at + length (number_form n) = omega (arith, w.1, ap length f) in
    parts_put at (end + 1) (number_form n) old (set out end left)
    (take_more_set out end left l ∙ ap (λ xs. take end out ++ xs) (sym f) ∙ w.2)
    (drop-set-lt (end + 1) out end left (omega arith) ∙ drop_later end (end + 1) out old (omega arith) w.3)
    ∙ ap (λ k. take at old ++ (number_form n ++ drop k old)) e
