-- Steps of the loops that stuff.
use Rattle.std.proofs.Common.{◌≡◌, ℕ, ◌+◌, ◌<◌, ◌≤◌, List, [], ◌++◌, length, get_or, take, drop, sym, ap, ◌∙◌, arith}
use Rattle.std.proofs.lemmas.List.{append_assoc, append-nil, take_all, at_drop_more, at_drop_all, length-append, length-take-le}
use Rattle.wire.specs.Framing.{stuffed, stuffed_byte}

-- the byte at i and what is left behind it
pub stuffed_more : (bytes : List ℕ) (i : ℕ) → i < length bytes → stuffed (drop i bytes) ≡ stuffed_byte (get_or bytes i 0) ++ stuffed (drop (i + 1) bytes)
unfolding stuffed
stuffed_more bytes i h = at_drop_more stuffed bytes i 0 h

pub stuffed_end : (bytes : List ℕ) (i : ℕ) → length bytes ≤ i → stuffed (drop i bytes) ≡ []
unfolding stuffed
stuffed_end bytes i h = at_drop_all stuffed bytes i h

-- what is to come fills the places that are left
pub places_left : (out whole rest : List ℕ) (at : ℕ) → length out ≡ length whole → at ≤ length out → take at out ++ rest ≡ whole → at + length rest ≡ length out
places_left out whole rest at l h e = omega (arith, length-take-le at out h, simp length-append at (ap length e))

-- once nothing is to come, every place is written
pub all_put : (out whole rest : List ℕ) (at : ℕ) → length out ≡ length whole → at ≤ length out → take at out ++ rest ≡ whole → rest ≡ [] → out ≡ whole
all_put out whole rest at l h e n =
    let full : length out ≤ at = omega (arith, places_left out whole rest at l h e, ap length n) in
    sym (take_all at out full) ∙ (sym (append-nil (take at out)) ∙ (ap (λ v. take at out ++ v) (sym n) ∙ e))

-- a byte that is put goes from what is left to what is written
pub put_more : (was now rest w whole left : List ℕ) (at r : ℕ) → left ≡ w ++ rest → take at was ++ left ≡ whole → take r now ≡ take at was ++ w → take r now ++ rest ≡ whole
put_more was now rest w whole left at r e i f = ap (λ v. v ++ rest) f ∙ (append_assoc (take at was) w rest ∙ (ap (λ v. take at was ++ v) (sym e) ∙ i))
