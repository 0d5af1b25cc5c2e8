-- A write in the middle of a tape's output.
use Rattle.std.proofs.Common.{◌≡◌, ℕ, ◌+◌, ◌-◌, ◌≤◌, List, ◌++◌, length, take, drop, ap, ◌∙◌, arith}
use borrow.Rule.Slice.PartMut.{put_mid}
use Rattle.std.proofs.lemmas.List.{drop-drop, length-append, length-drop, length-take}
use Rattle.std.proofs.lemmas.Slice.{take-put_mid}
use Rattle.bearer.specs.Tapes.{written_at}

-- w places are written; the bytes go to the place behind them, and k is their number
module _ (w k : ℕ) (xs ys bs : List ℕ) (same : ys ≡ bs) (inside : w ≤ length xs) (many : k ≡ length bs) (room : length bs ≤ length xs - w) where
  pub sent_more : take (w + length bs) (put_mid w k xs ys) ≡ take w xs ++ bs
  sent_more = take-put_mid w k xs ys (w + length bs) (omega (arith, ap length same)) inside ∙ (λ i. take w xs ++ same i)

  pub whole : put_mid w k xs ys ≡ written_at (length (take w xs)) bs xs
  whole =
      let place : w ≡ length (take w xs) = simp length-take (omega arith) in
      let behind : drop k (drop w xs) ≡ drop (w + length bs) xs = drop-drop k w xs ∙ ap (λ n. drop (w + n) xs) many in
      (λ i. take w xs ++ (same i ++ behind i)) ∙ ap (λ n. written_at n bs xs) place

  pub room_less : length (put_mid w k xs ys) - (w + length bs) ≡ length xs - w - length bs
  room_less = simp (length-append, length-take, length-drop) (omega (arith, ap length same))
