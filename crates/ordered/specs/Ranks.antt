-- Records in the order of a rank: what is found under a rank, and what is left once a record is put or records are removed.
use Rattle.std.specs.Prelude.{◌≡◌, ℕ, suc, ◌<◌, ◌≤◌, Bool, true, cond, ◌&&◌, List, [], ◌∷◌, length, Some, None, Ok, Err, Option, Result, ◌==◌, nat_le, nat_lt, slice_index_or}

-- the ranks rise, so that none stands twice, and none is below `low`
abbrev pub rises : {X : Type 0} → (X → ℕ) → ℕ → List X → Bool
rises place low [] = true
rises place low (x ∷ xs) = nat_le low (place x) && rises place (suc (place x)) xs

abbrev pub Rises : {X : Type 0} → (X → ℕ) → List X → Type 0
Rises place xs = rises place 0 xs ≡ true

-- the record of this rank
abbrev pub found : {X : Type 0} → (X → ℕ) → ℕ → List X → Option X
found place k [] = None
found place k (x ∷ xs) = cond (place x == k) (Some x) (found place k xs)

-- with the record in its place, in the stead of the record of its rank where there is one
abbrev pub placed : {X : Type 0} → (X → ℕ) → X → List X → List X
placed place r [] = r ∷ []
placed place r (x ∷ xs) = cond (nat_lt (place x) (place r)) (x ∷ placed place r xs) (cond (place x == place r) (r ∷ xs) (r ∷ x ∷ xs))

-- a rank from the first to the last
abbrev pub within : ℕ → ℕ → ℕ → Bool
within first last k = nat_le first k && nat_le k last

-- without the records whose rank is from the first to the last
abbrev pub without : {X : Type 0} → (X → ℕ) → ℕ → ℕ → List X → List X
without place first last [] = []
without place first last (x ∷ xs) = cond (within first last (place x)) (without place first last xs) (x ∷ without place first last xs)

-- where a search ends that goes up from the lowest: at the record of this rank, or where it would stand
abbrev pub Located : {X : Type 0} → (X → ℕ) → ℕ → List X → Result ℕ ℕ → Type 0
Located {X = X} place k xs (Ok at) =
    (at < length xs) × ((i : ℕ) (d : X) → i < at → place (slice_index_or xs i d) < k) × ((d : X) → place (slice_index_or xs at d) ≡ k)
Located {X = X} place k xs (Err at) =
    (at ≤ length xs) × ((i : ℕ) (d : X) → i < at → place (slice_index_or xs i d) < k) × ((d : X) → at < length xs → k < place (slice_index_or xs at d))
