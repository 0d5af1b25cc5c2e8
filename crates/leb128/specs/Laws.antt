-- The written form and the reader fit each other.
use Rattle.std.specs.Prelude.{◌≡◌, ℕ, ◌^◌, ◌<◌, List, ◌++◌}
use Rattle.leb128.specs.Numbers.{number_form, number_read}
use Rattle.leb128.specs.Reads.{got}

-- every number of 32 bits is read from what is written of it, whatever follows
unfoldable pub Back : Type 0
Back = (n : ℕ) (rest : List ℕ) → n < 2 ^ 32 → number_read (number_form n ++ rest) ≡ got n rest

-- what is read as a number is what is written of it, and the number has 32 bits at most
unfoldable pub Only : Type 0
Only = (n : ℕ) (bs rest : List ℕ) → number_read bs ≡ got n rest → (bs ≡ number_form n ++ rest) × (n < 2 ^ 32)
