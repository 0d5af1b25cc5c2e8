-- Parts of a body and of a frame, put together.
use Rattle.std.proofs.Common.{◌≡◌, ℕ, zero, suc, ◌+◌, ◌-◌, ◌<◌, ◌≤◌, List, [], ◌∷◌, ◌++◌, length, get_or, take, drop, set, sym, refl, ap, ◌∙◌, arith}
use Rattle.wire.specs.Framing.{stuffed, framed}
use borrow.Rule.Slice.PartMut.{put_mid}
use Rattle.std.proofs.lemmas.List.{append-nil, drop_all, drop_more, take_more_set, drop-set-lt, length-append, length-drop, length-set, length-take}
use Rattle.std.proofs.lemmas.Slice.{take-put_mid, drop-put_mid}

-- n places from i on, one by one
abbrev pub places_from : ℕ → ℕ → List ℕ → List ℕ
places_from i zero xs = []
places_from i (suc n) xs = get_or xs i 0 ∷ places_from (i + 1) n xs

pub spread : (n i : ℕ) (xs : List ℕ) → i + n ≤ length xs → drop i xs ≡ places_from i n xs ++ drop (i + n) xs
spread zero i xs h = ap (λ j. drop j xs) (omega arith)
spread (suc n) i xs h =
    let far : i + 1 + n ≡ i + suc n = omega arith in
    drop_more xs i 0 (omega arith)
    ∙ ap (λ v. get_or xs i 0 ∷ v) (spread n (i + 1) xs (omega arith) ∙ ap (λ j. places_from (i + 1) n xs ++ drop j xs) far)

-- a list of n, by its places
pub all_places : (n : ℕ) (xs : List ℕ) → length xs ≡ n → places_from 0 n xs ≡ xs
all_places n xs l =
    sym (append-nil (places_from 0 n xs))
    ∙ (ap (λ v. places_from 0 n xs ++ v) (sym (drop_all (0 + n) xs (omega arith))) ∙ sym (spread n 0 xs (omega arith)))

pub length_framed : (body : List ℕ) → length (framed body) ≡ length (stuffed body) + 3
unfolding framed
length_framed body = omega (arith, length-append (stuffed body) (0x55 ∷ []))

-- the first two places, written
opening : (was : List ℕ) (a b : ℕ) → 2 ≤ length was → take 2 (set (set was 0 a) 1 b) ≡ a ∷ b ∷ []
opening (x ∷ y ∷ was) a b h = refl
opening (x ∷ []) a b h = absurd (omega arith)
opening [] a b h = absurd (omega arith)

abbrev opened : List ℕ → ℕ → ℕ → List ℕ
opened was a b = set (set was 0 a) 1 b

abbrev filled : List ℕ → List ℕ → ℕ → ℕ → ℕ → List ℕ
filled was s a b k = put_mid 2 k (opened was a b) s

-- two bytes, a part behind them and a byte behind that, put into a buffer of which the rest stays
module _ (was s : List ℕ) (a b x n k : ℕ) (size : n ≡ length s + 3) (room : n ≤ length was) (part : k ≡ length s) where
  opened_length : length (opened was a b) ≡ length was
  opened_length = simp (length-set)

  filled_front : take (2 + length s) (filled was s a b k) ≡ a ∷ b ∷ s
  filled_front =
      take-put_mid 2 k (opened was a b) s (2 + length s) refl (omega (arith, opened_length)) ∙ ap (λ v. v ++ s) (opening was a b (omega arith))

  filled_long : 2 + length s < length (filled was s a b k)
  filled_long = simp (length-append, length-take, length-drop) (omega (arith, opened_length))

  pub framed_front : take n (set (filled was s a b k) (n - 1) x) ≡ a ∷ b ∷ (s ++ x ∷ [])
  framed_front =
      let last : n - 1 ≡ 2 + length s = omega arith in
      let all : n ≡ 2 + length s + 1 = omega arith in
      ap (λ m. take n (set (filled was s a b k) m x)) last
      ∙ (ap (λ m. take m (set (filled was s a b k) (2 + length s) x)) all
      ∙ (take_more_set (filled was s a b k) (2 + length s) x filled_long ∙ ap (λ v. v ++ x ∷ []) filled_front))

  pub framed_rest : drop n (set (filled was s a b k) (n - 1) x) ≡ drop n was
  framed_rest =
      drop-set-lt n (filled was s a b k) (n - 1) x (omega arith)
      ∙ (drop-put_mid 2 k (opened was a b) s n (omega arith) (omega (arith, opened_length)) (omega arith)
      ∙ (drop-set-lt n (set was 0 a) 1 b (omega arith) ∙ drop-set-lt n was 0 a (omega arith)))
