-- Numbers and their bytes.
use Rattle.std.proofs.Common.{◌≡◌, ℕ, zero, suc, ◌+◌, ◌*◌, ◌/◌, ◌%◌, ◌^◌, ◌<◌, List, [], ◌∷◌, length, refl, ap, pow-suc, arith}
use Rattle.protocol.specs.Bytes.{low_first, number_of, AllBelow}

pub length_low_first : (k n : ℕ) → length (low_first k n) ≡ k
length_low_first zero n = refl
length_low_first (suc k) n = ap suc (length_low_first k (n / 256))

-- bytes come back from the number that they make
pub low_first_number : (bs : List ℕ) → AllBelow 256 bs → low_first (length bs) (number_of bs) ≡ bs
low_first_number [] h = refl
low_first_number (b ∷ bs) h =
    let l : b < 256 = h.0 in
    let m : (b + 256 * number_of bs) % 256 ≡ b = omega arith in
    let q : (b + 256 * number_of bs) / 256 ≡ number_of bs = omega arith in
    rw (m, q) (ap (λ zs. b ∷ zs) (low_first_number bs h.1))

-- a number comes back from its bytes, if it fits them
pub number_low_first : (k n : ℕ) → n < 256 ^ k → number_of (low_first k n) ≡ n
number_low_first zero n h = omega arith
number_low_first (suc k) n h =
    let p : n < 256 ^ k * 256 = rw pow-suc at h in
    let i = number_low_first k (n / 256) (omega arith) in
    rw i (omega arith)
