-- What the functions over places promise the table.
use Rattle.std.specs.Prelude.{◌≡◌, ℕ, ◌≤◌, true, false, cond, List, ◌++◌, length, take, drop, is_some, Some, None, Ok, Err, Result, ◌==◌, nat_lt}
use Rattle.ordered.specs.Ranks.{Rises, found, placed, within, without}
use Rattle.ordered.specs.Tables.{State, records, Sound, holding, finds_place}

abbrev pub lent : {X : Type 0} → List X → ℕ → ℕ → State X
lent places limit held = record { places = places; limit = limit; held = held }

-- the new number of places that are taken, or the refusal
abbrev pub Filed : {X E : Type 0} → (X → ℕ) → X → ℕ → ℕ → List X → Result ℕ E → List X → Type 0
Filed place r limit held before (Err full) after =
    (finds_place place r (lent before limit held) ≡ false) × (after ≡ before)
Filed place r limit held before (Ok n) after =
    (finds_place place r (lent before limit held) ≡ true) × (lent after limit n ≡ holding (placed place r (records (lent before limit held))) (lent before limit held)) × Sound place (lent after limit n) × ((k : ℕ) → found place k (records (lent after limit n)) ≡ cond (place r == k) (Some r) (found place k (records (lent before limit held))))

-- how many records are left, behind whom every place is as it was
pub record Kept {X : Type 0} (place : X → ℕ) (first last held : ℕ) (before : List X) (n : ℕ) (after : List X) : Type 0 where
  pub count : n ≡ length (without place first last (take held before))
  pub places : after ≡ without place first last (take held before) ++ drop (length (without place first last (take held before))) before
  pub few : n ≤ held
  pub rising : Rises place (take held before) → Rises place (take n after)
  pub finds : (k : ℕ) → found place k (take n after) ≡ cond (within first last k) None (found place k (take held before))
  pub fewer : first ≡ last → nat_lt n (length (take held before)) ≡ is_some (found place first (take held before))
