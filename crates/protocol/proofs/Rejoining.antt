-- A counter's bytes, taken apart and put together again.
use Rattle.std.proofs.Common.{◌≡◌, ℕ, zero, suc, ◌+◌, ◌*◌, ◌<◌, ◌≤◌, List, [], ◌∷◌, ◌++◌, length, get_or, take, drop, sym, refl, ap, ◌∙◌, subst, arith}
use Rattle.std.specs.Int.{from_le_bytes, w16, w32}
use Rattle.std.specs.List.{flat_map}
use Rattle.std.specs.Simd.{first_chunks}
use Rattle.std.proofs.lemmas.List.{length-append, length-drop, length-take-le, take-append-drop, drop_all, get_or-drop}
use Rattle.std.proofs.lemmas.Nat.{le_bytes_2}
use Rattle.protocol.specs.declared.counters.Counters.{Counters}
use Rattle.protocol.specs.Bytes.{low_first, number_of}
use Rattle.protocol.specs.Counting.{counters_bytes, Fit}
use Rattle.protocol.proofs.Numbering.{low_first_number}

-- each of the bytes is one
abbrev pub Bytes : List ℕ → Type 0
Bytes bs = (i : ℕ) → get_or bs i 0 < 256

pub bytes_rest : (bs rest : List ℕ) (b : ℕ) → bs ≡ b ∷ rest → Bytes bs → Bytes rest
bytes_rest bs rest b e h i = subst (λ zs. get_or zs (suc i) 0 < 256) e (h (suc i))

bytes_take : (k : ℕ) (bs : List ℕ) → Bytes bs → Bytes (take k bs)
bytes_take zero bs h i = omega arith
bytes_take (suc k) [] h i = h i
bytes_take (suc k) (b ∷ bs) h zero = h 0
bytes_take (suc k) (b ∷ bs) h (suc i) = bytes_take k bs (λ j. h (suc j)) i

bytes_drop : (k : ℕ) (bs : List ℕ) → Bytes bs → Bytes (drop k bs)
bytes_drop k bs h i = rw (get_or-drop k bs i 0) (h (k + i))

-- a list of four, by its places
pub four_places : (ns : List ℕ) → length ns ≡ 4 → ns ≡ get_or ns 0 0 ∷ get_or ns 1 0 ∷ get_or ns 2 0 ∷ get_or ns 3 0 ∷ []
four_places [] h = absurd (omega arith)
four_places (a ∷ []) h = absurd (omega arith)
four_places (a ∷ b ∷ []) h = absurd (omega arith)
four_places (a ∷ b ∷ c ∷ []) h = absurd (omega arith)
four_places (a ∷ b ∷ c ∷ d ∷ []) h = refl
four_places (a ∷ b ∷ c ∷ d ∷ e ∷ es) h = absurd (omega arith)

word : (bs : List ℕ) (n : ℕ) → length bs ≡ 4 → Bytes bs → n ≡ from_le_bytes w32 bs → low_first 4 n ≡ bs
word bs n l h e =
    let m : n ≡ number_of (get_or bs 0 0 ∷ get_or bs 1 0 ∷ get_or bs 2 0 ∷ get_or bs 3 0 ∷ []) = omega (arith, e) in
    ap (low_first 4) m ∙ low_first_number (get_or bs 0 0 ∷ get_or bs 1 0 ∷ get_or bs 2 0 ∷ get_or bs 3 0 ∷ []) (h 0, (h 1, (h 2, (h 3, tt)))) ∙ sym (four_places bs l)

-- what stands in front, and what follows it
joined : (k : ℕ) (bs front rest : List ℕ) → front ≡ take k bs → rest ≡ drop k bs → front ++ rest ≡ bs
joined k bs front rest p r = ap (λ zs. zs ++ rest) p ∙ ap (λ zs. take k bs ++ zs) r ∙ take-append-drop k bs

-- a number of two bytes in front, and a number of four
pub front_2 : (bs part rest : List ℕ) (n : ℕ) → Bytes bs → 2 ≤ length bs → part ≡ take 2 bs → rest ≡ drop 2 bs → n ≡ from_le_bytes w16 part → (low_first 2 n ++ rest ≡ bs) × Bytes rest
front_2 bs part rest n h l p r e = (
  joined 2 bs (low_first 2 n) rest (le_bytes_2 part n (ap length p ∙ length-take-le 2 bs l) (subst Bytes (sym p) (bytes_take 2 bs h)) e ∙ p) r,
  subst Bytes (sym r) (bytes_drop 2 bs h),
)

pub front_4 : (bs part rest : List ℕ) (n : ℕ) → Bytes bs → 4 ≤ length bs → part ≡ take 4 bs → rest ≡ drop 4 bs → n ≡ from_le_bytes w32 part → (low_first 4 n ++ rest ≡ bs) × Bytes rest
front_4 bs part rest n h l p r e = (
  joined 4 bs (low_first 4 n) rest (word part n (ap length p ∙ length-take-le 4 bs l) (subst Bytes (sym p) (bytes_take 4 bs h)) e ∙ p) r,
  subst Bytes (sym r) (bytes_drop 4 bs h),
)

-- four numbers of four bytes
pub front_words : (bs : List ℕ) (fs : List (List ℕ)) (p q r s : ℕ) → Bytes bs → length bs ≡ 16 → fs ≡ first_chunks 4 4 bs → p ≡ from_le_bytes w32 (get_or fs 0 []) → q ≡ from_le_bytes w32 (get_or fs 1 []) → r ≡ from_le_bytes w32 (get_or fs 2 []) → s ≡ from_le_bytes w32 (get_or fs 3 []) → flat_map (low_first 4) (p ∷ q ∷ r ∷ s ∷ []) ≡ bs
front_words bs fs p q r s h l f ep eq er es =
    let b1 = drop 4 bs in
    let b2 = drop 4 b1 in
    let b3 = drop 4 b2 in
    let l1 : length b1 ≡ 12 = omega (arith, length-drop 4 bs) in
    let l2 : length b2 ≡ 8 = omega (arith, length-drop 4 b1) in
    let l3 : length b3 ≡ 4 = omega (arith, length-drop 4 b2) in
    let e1 = front_4 bs (get_or fs 0 []) b1 p h (omega arith) (ap (λ zs. get_or zs 0 []) f) refl ep in
    let e2 = front_4 b1 (get_or fs 1 []) b2 q e1.1 (omega arith) (ap (λ zs. get_or zs 1 []) f) refl eq in
    let e3 = front_4 b2 (get_or fs 2 []) b3 r e2.1 (omega arith) (ap (λ zs. get_or zs 2 []) f) refl er in
    let e4 = front_4 b3 (get_or fs 3 []) [] s e3.1 (omega arith) (ap (λ zs. get_or zs 3 []) f) (sym (drop_all 4 b3 (omega arith))) es in
    ap (λ zs. low_first 4 p ++ zs) (ap (λ zs. low_first 4 q ++ zs) (ap (λ zs. low_first 4 r ++ zs) e4.0 ∙ e3.0) ∙ e2.0) ∙ e1.0

length_words : (ns : List ℕ) → length (flat_map (low_first 4) ns) ≡ 4 * length ns
length_words [] = refl
length_words (n ∷ ns) = omega (arith, length-append (low_first 4 n) (flat_map (low_first 4) ns), length_words ns)

pub length_counters : (x : Counters) → Fit x → length (counters_bytes x) ≡ 29
length_counters x h = omega (arith, length_words x.tariffs, h.four)
