-- Steps of a ring.
use Rattle.std.proofs.Common.{◌≡◌, ℕ, zero, suc, ◌+◌, ◌-◌, ◌%◌, ◌<◌, ◌≢◌, List, [], ◌∷◌, ◌++◌, length, get_or, set, refl, ap, ◌∙◌, add-one, arith}
use Rattle.std.proofs.lemmas.List.{get_or-set_same, get_or-set_other}
use Rattle.bearer.specs.Held.{held}

pub length_held : (places : List ℕ) (h n : ℕ) → length (held places h n) ≡ n
length_held places h zero = refl
length_held places h (suc n) = let e = length_held places ((h + 1) % 128) n in omega arith

-- the first byte, and the others from the next place on
pub held_pop : (places : List ℕ) (h n : ℕ) → 0 < n → held places h n ≡ get_or places h 0 ∷ held places ((h + 1) % 128) (n - 1)
held_pop places h zero p = absurd (omega arith)
held_pop places h (suc n) p = let e : n ≡ suc n - 1 = omega arith in ap (λ m. get_or places h 0 ∷ held places ((h + 1) % 128) m) e

-- a byte written at the first free place stands behind the others
pushed : (places : List ℕ) (b h n t : ℕ) → length places ≡ 128 → h < 128 → n < 128 → t ≡ (h + n) % 128 → held (set places t b) h (suc n) ≡ held places h n ++ b ∷ []
pushed places b h zero t l p q e =
    let same : t ≡ h = omega arith in
    let inside : h < length places = omega arith in
    ap (λ x. x ∷ []) (ap (λ k. get_or (set places k b) h 0) same ∙ get_or-set_same places h b 0 inside)
pushed places b h (suc n) t l p q e =
    let other : h ≢ t = omega arith in
    let next : (h + 1) % 128 < 128 = omega arith in
    let fewer : n < 128 = omega arith in
    let there : t ≡ ((h + 1) % 128 + n) % 128 = omega arith in
    λ i. get_or-set_other places t h b 0 other i ∷ pushed places b ((h + 1) % 128) n t l next fewer there i

pub held_push : (places : List ℕ) (b h n : ℕ) → length places ≡ 128 → h < 128 → n < 128 → held (set places ((h + n) % 128) b) h (n + 1) ≡ held places h n ++ b ∷ []
held_push places b h n l p q = rw add-one (pushed places b h n ((h + n) % 128) l p q refl)
