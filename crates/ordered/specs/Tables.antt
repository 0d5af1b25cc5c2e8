-- What a table holds, and what its calls make of it.
use Rattle.std.specs.Prelude.{◌≡◌, ℕ, ◌≤◌, min, Bool, true, false, cond, ◌||◌, List, ◌++◌, length, take, drop, is_some, Some, None, Ok, Err, Result, ◌==◌, nat_lt}
use Rattle.ordered.specs.Ranks.{Rises, found, placed, within}
use Rattle.ordered.specs.declared.table.Table.{Table}

-- all the places that were lent, the number of them that may be taken, and the number that is taken
pub record State (X : Type 0) : Type 0 where
  pub places : List X
  pub limit : ℕ
  pub held : ℕ

abbrev pub state_of : {X K : Type 0} {r : _} {k : _} → Table X K r k → State X
state_of t = record { places = t.places.now; limit = t.limit; held = t.held }

-- the records stand in the first places
abbrev pub records : {X : Type 0} → State X → List X
records s = take s.held s.places

-- the number of places that count
abbrev pub room : {X : Type 0} → State X → ℕ
room s = min s.limit (length s.places)

-- the records are in order, and none stands where no place counts
pub record Sound {X : Type 0} (place : X → ℕ) (s : State X) : Type 0 where
  pub fits : s.held ≤ room s
  pub rising : Rises place (records s)

-- the table once it holds these records: every place behind them is as it was
abbrev pub holding : {X : Type 0} → List X → State X → State X
holding xs s = record { places = xs ++ drop (length xs) s.places; limit = s.limit; held = length xs }

-- a record finds a place: that of its key, or a free one
abbrev pub finds_place : {X : Type 0} → (X → ℕ) → X → State X → Bool
finds_place place r s = is_some (found place (place r) (records s)) || nat_lt (length (records s)) (room s)

-- put: refused exactly when the record finds no place, and then nothing changes
abbrev pub Puts : {X E : Type 0} → (X → ℕ) → X → State X → Result (Unit {0}) E → State X → Type 0
Puts place r s (Ok done) t = (finds_place place r s ≡ true) × (t ≡ holding (placed place r (records s)) s)
Puts place r s (Err full) t = (finds_place place r s ≡ false) × (t ≡ s)

-- what is found under each rank after a put, against what was found before
abbrev pub FindsPut : {X E : Type 0} → (X → ℕ) → X → State X → Result (Unit {0}) E → State X → Type 0
FindsPut place r s (Ok done) t = (k : ℕ) → found place k (records t) ≡ cond (place r == k) (Some r) (found place k (records s))
FindsPut place r s (Err full) t = (k : ℕ) → found place k (records t) ≡ found place k (records s)

-- the same after the records from one rank to another are removed
abbrev pub FindsRest : {X : Type 0} → (X → ℕ) → ℕ → ℕ → State X → State X → Type 0
FindsRest place first last s t = (k : ℕ) → found place k (records t) ≡ cond (within first last k) None (found place k (records s))
