-- An answer that finds the value that a property names.
use Rattle.std.specs.Prelude.{Some, None, Option}

-- `Some x` only for an x with the property P, and `None` only where nothing has it
abbrev pub Exactly : {X : Type 0} → (X → Type 0) → Option X → Type 0
Exactly P (Some x) = P x
Exactly P None = (x : _) → P x → ⊥

-- each of two facts follows from the other
abbrev pub Iff : Type 0 → Type 0 → Type 0
Iff P Q = (P → Q) × (Q → P)
