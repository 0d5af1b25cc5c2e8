-- What a writer leaves in a buffer.
use Rattle.std.specs.Prelude.{◌≡◌, ℕ, ◌<◌, ◌≤◌, List, ◌++◌, length, drop, Some, None, Option}

-- a writer's answer: the number of bytes, which stand at the front with the rest as it was;
-- nothing, and all as it was, where there is no room for them
abbrev pub Put : List ℕ → List ℕ → List ℕ → Option ℕ → Type 0
Put bs old new (Some n) = (n ≡ length bs) × (n ≤ length old) × (new ≡ bs ++ drop n old)
Put bs old new None = (length old < length bs) × (new ≡ old)
