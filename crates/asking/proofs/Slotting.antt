-- The slots: each selector has one, and each number from 1 to 28 is one.
use Rattle.std.proofs.Common.{◌≡◌, ℕ, suc, ◌+◌, ◌-◌, ◌<◌, ◌≤◌, true, List, [], ◌∷◌, length, get_or, is_some, Some, None, Option, sym, refl, ap, ◌∙◌, ⊎_elim, eq-or-lt_of_le, arith, rules}
use Rattle.numbering.specs.declared.energy.Energy.TheVariants.{ActiveForward, ActiveReverse, ReactiveForward, ReactiveReverse, ActiveAbsolute, ReactiveAbsolute, ReactiveR1, ReactiveR2, ReactiveR3, ReactiveR4}
use Rattle.numbering.specs.declared.text_field.TextField.TheVariants.{Account, Settlement, Street, House, Flat, Subscriber, BillingId, Input1, Input2, Input3, Input4}
use Rattle.numbering.specs.declared.parameter.Parameter.TheVariants.{AnswerDelay, RelayDelay, ConnectionTime, UnlockTime, Temperature, InputMode}
use Rattle.asking.specs.declared.selector.Selector.{Selector}
use Rattle.asking.specs.declared.selector.Selector.TheVariants.{Ping, Counter, Text, Parameter}
use Rattle.numbering.specs.Exactly.{Exactly, Iff}
use Rattle.asking.specs.Selectors.{slot_of}

-- the selectors by their slots
abbrev order : List Selector
order = Ping ∷ Counter ActiveForward ∷ Counter ActiveReverse ∷ Counter ReactiveForward ∷ Counter ReactiveReverse ∷ Counter ActiveAbsolute ∷ Counter ReactiveAbsolute ∷ Counter ReactiveR1 ∷ Counter ReactiveR2 ∷ Counter ReactiveR3 ∷ Counter ReactiveR4 ∷ Text Account ∷ Text Settlement ∷ Text Street ∷ Text House ∷ Text Flat ∷ Text Subscriber ∷ Text BillingId ∷ Text Input1 ∷ Text Input2 ∷ Text Input3 ∷ Text Input4 ∷ Parameter AnswerDelay ∷ Parameter RelayDelay ∷ Parameter ConnectionTime ∷ Parameter UnlockTime ∷ Parameter Temperature ∷ Parameter InputMode ∷ []

-- at its slot, in that order, stands the selector itself
placed : (x : Selector) → get_or order (slot_of x - 1) Ping ≡ x
placed Ping = refl
placed (Counter e) =
    elim e as (λ v. get_or order (slot_of (Counter v) - 1) Ping ≡ Counter v) [ ActiveForward ↦ refl | ActiveReverse ↦ refl | ReactiveForward ↦ refl | ReactiveReverse ↦ refl | ActiveAbsolute ↦ refl | ReactiveAbsolute ↦ refl | ReactiveR1 ↦ refl | ReactiveR2 ↦ refl | ReactiveR3 ↦ refl | ReactiveR4 ↦ refl ]
placed (Text f) =
    elim f as (λ v. get_or order (slot_of (Text v) - 1) Ping ≡ Text v) [ Account ↦ refl | Settlement ↦ refl | Street ↦ refl | House ↦ refl | Flat ↦ refl | Subscriber ↦ refl | BillingId ↦ refl | Input1 ↦ refl | Input2 ↦ refl | Input3 ↦ refl | Input4 ↦ refl ]
placed (Parameter p) =
    elim p as (λ v. get_or order (slot_of (Parameter v) - 1) Ping ≡ Parameter v) [ AnswerDelay ↦ refl | RelayDelay ↦ refl | ConnectionTime ↦ refl | UnlockTime ↦ refl | Temperature ↦ refl | InputMode ↦ refl ]

pub slots_apart : (x y : Selector) → slot_of x ≡ slot_of y → x ≡ y
slots_apart x y e = sym (placed x) ∙ ap (λ n. get_or order (n - 1) Ping) e ∙ placed y

-- the slots of these selectors are the numbers from n on
abbrev pub Counts : List Selector → ℕ → Type 0
Counts [] n = Unit {0}
Counts (x ∷ xs) n = (slot_of x ≡ n) × Counts xs (suc n)

counted : (xs : List Selector) (m n : ℕ) → Counts xs m → m ≤ n → n < m + length xs → (x : Selector) × (slot_of x ≡ n)
counted [] m n q h l = absurd (omega arith)
counted (x ∷ xs) m n q h l =
    ⊎_elim (λ e. (x, q.0 ∙ e)) (λ k. counted xs (suc m) n q.1 k (omega arith)) (eq-or-lt_of_le h)

all_counted : Counts order 1
all_counted = search rules

pub bounded : (x : Selector) → (1 ≤ slot_of x) × (slot_of x ≤ 28)
bounded x = search rules

pub slots_all : (n : ℕ) (r : Option Selector) → Exactly (λ x. slot_of x ≡ n) r → Iff (is_some r ≡ true) ((1 ≤ n) × (n ≤ 28))
slots_all n (Some x) h = (λ _. let b = bounded x in (omega (arith, b.0, h), omega (arith, b.1, h)), λ _. refl)
slots_all n None h = (λ e. search rules, λ b. let s = counted order 1 n all_counted b.0 (omega (arith, b.1)) in absurd (h s.0 s.1))
