-- What a ring of 128 places holds.
use Rattle.std.specs.Prelude.{ℕ, zero, suc, ◌+◌, ◌%◌, List, [], ◌∷◌, slice_index}

-- so many bytes from the place `head` on, the first first; behind the last place comes place 0
abbrev pub held : List ℕ → ℕ → ℕ → List ℕ
held places head zero = []
held places head (suc count) = slice_index places head ∷ held places ((head + 1) % 128) count
