-- Lemmas on numerals.
use Rattle.std.proofs.Common.{◌≡◌, ℕ, ◌+◌, ◌-◌, ◌*◌, ◌<◌, ◌≤◌, true, false, eqb, ltb, leb, List, [], ◌∷◌, length, get_or, take, drop, None, Option, sym, ap, ◌∙◌, ⊎_elim, arith}
use Rattle.std.specs.Char.{digit_value}
use Rattle.std.proofs.lemmas.Nat.{mul-le}
use Rattle.std.proofs.lemmas.List.{drop_more, take_rest}
use Rattle.std.proofs.lemmas.Bool.{cases_lt, lt-ltb, le-ltb, lt-leb, eq-eqb, ne_eqb, and_right}
use Rattle.tokens.specs.Numerals.{onward, digits_in, hexed, numeral, up_to}

pub onward_more : (base n d : ℕ) (ds : List ℕ) → digit_value d < base → onward base n (d ∷ ds) ≡ onward base (n * base + digit_value d) ds
onward_more base n d ds h = let t : ltb (digit_value d) base ≡ true = lt-ltb _ _ h in rw t

pub onward_none : (base n d : ℕ) (ds : List ℕ) → base ≤ digit_value d → onward base n (d ∷ ds) ≡ None
onward_none base n d ds h = let t : ltb (digit_value d) base ≡ false = le-ltb _ _ h in rw t

-- a number past the bound stays past it
past : (most base n : ℕ) (ds : List ℕ) → 0 < base → most < n → up_to most (onward base n ds) ≡ None
past most base n [] p h = let t : leb n most ≡ false = lt-leb _ _ h in rw t
past most base n (d ∷ ds) p h =
    ⊎_elim
    (λ (l : digit_value d < base). ap (up_to most) (onward_more base n d ds l) ∙ past most base (n * base + digit_value d) ds p (omega (arith, mul-le n 1 n base (omega arith) (omega arith))))
    (λ (l : base ≤ digit_value d). ap (up_to most) (onward_none base n d ds l))
    (cases_lt (digit_value d) base)

-- the steps of the loop
module _ (most base n i : ℕ) (ds : List ℕ) (all : Option ℕ) (e : onward base n (drop i ds) ≡ all) where
  pub step_more : i < length ds → digit_value (get_or ds i 0) < base → onward base (n * base + digit_value (get_or ds i 0)) (drop (i + 1) ds) ≡ all
  step_more h l = sym (onward_more base n (get_or ds i 0) (drop (i + 1) ds) l) ∙ sym (ap (onward base n) (drop_more ds i 0 h)) ∙ e

  pub step_past : i < length ds → digit_value (get_or ds i 0) < base → 0 < base → most < n * base + digit_value (get_or ds i 0) → up_to most all ≡ None
  step_past h l p q = ap (up_to most) (sym (step_more h l)) ∙ past most base (n * base + digit_value (get_or ds i 0)) (drop (i + 1) ds) p q

-- which digits a word is read by
pub hex_word : (w : List ℕ) → get_or w 0 0 ≡ 48 → get_or w 1 0 ≡ 120 → numeral w ≡ digits_in 16 (take (length w - 2) (drop 2 w))
unfolding numeral
hex_word w a b = let t : eqb (get_or w 0 0) 48 ≡ true = eq-eqb _ _ a in let u : eqb (get_or w 1 0) 120 ≡ true = eq-eqb _ _ b in rw (t, u) (ap (digits_in 16) (sym (take_rest w 2)))

pub plain_first : (w : List ℕ) → (get_or w 0 0 ≡ 48 → ⊥) → numeral w ≡ digits_in 10 w
unfolding numeral
plain_first w a = let t : eqb (get_or w 0 0) 48 ≡ false = ne_eqb _ _ a in rw t

pub plain_second : (w : List ℕ) → (get_or w 1 0 ≡ 120 → ⊥) → numeral w ≡ digits_in 10 w
unfolding numeral
plain_second w a = let t : hexed w ≡ false = and_right _ _ (ne_eqb _ _ a) in rw t
