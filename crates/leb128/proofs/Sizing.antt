-- How many groups a number has.
use Rattle.std.proofs.Common.{◌≡◌, ℕ, zero, suc, ◌*◌, ◌/◌, ◌<◌, ◌≤◌, true, false, ltb, leb, length, ⊎_elim, arith}
use Rattle.std.proofs.lemmas.Bool.{cases_lt}
use Rattle.std.proofs.lemmas.Bool.Decides.{nat_tests}
use Rattle.leb128.specs.Numbers.{groups, number_form}

-- the least number that does not fit into j + 1 groups
abbrev pub limit : ℕ → ℕ
limit zero = 128
limit (suc j) = 128 * limit j

limit_some : (j : ℕ) → 128 ≤ limit j
limit_some zero = omega arith
limit_some (suc j) = omega (arith, limit_some j)

pub groups_few : (k n : ℕ) → length (groups k n) ≤ suc k
groups_few zero n = omega arith
groups_few (suc k) n = let h = groups_few k (n / 128) in grind (arith, nat_tests)

pub groups_some : (k n : ℕ) → 0 < length (groups k n)
groups_some zero n = omega arith
groups_some (suc k) n = grind (arith, nat_tests)

pub groups_over : (j k n : ℕ) → j < k → leb (limit j) n ≡ ltb (suc j) (length (groups k n))
groups_over j zero n h = absurd (omega arith)
groups_over zero (suc k) n h = let s = groups_some k (n / 128) in grind (arith, nat_tests)
groups_over (suc j) (suc k) n h =
    let s = limit_some j in
    let ih = groups_over j k (n / 128) (omega arith) in
    ⊎_elim
    (λ (l : n < 128). let t : ltb n 128 ≡ true = grind (arith, nat_tests) in rw t (grind (arith, nat_tests)))
    (λ (l : 128 ≤ n). let t : ltb n 128 ≡ false = grind (arith, nat_tests) in rw t (grind (arith, nat_tests)))
    (cases_lt n 128)

pub number_some : (n : ℕ) → 0 < length (number_form n)
unfolding number_form
number_some n = groups_some 4 n

pub number_few : (n : ℕ) → length (number_form n) ≤ 5
unfolding number_form
number_few n = groups_few 4 n

number_over : (j n : ℕ) → j < 4 → leb (limit j) n ≡ ltb (suc j) (length (number_form n))
unfolding number_form
number_over j n h = groups_over j 4 n h

-- a number below a limit, and one from it on
pub number_up_to : (j n : ℕ) → j < 4 → n < limit j → length (number_form n) ≤ suc j
number_up_to j n h l = let o = number_over j n h in grind (arith, nat_tests)

pub number_above : (j n : ℕ) → j < 4 → limit j ≤ n → suc j < length (number_form n)
number_above j n h l = let o = number_over j n h in grind (arith, nat_tests)

-- how many bytes a number takes, by its range
pub one_byte : (n : ℕ) → n < 128 → 1 ≡ length (number_form n)
one_byte n l = omega (arith, number_some n, number_up_to 0 n (omega arith) l)

pub two_bytes : (n : ℕ) → 128 ≤ n → n < 16384 → 2 ≡ length (number_form n)
two_bytes n h l = omega (arith, number_above 0 n (omega arith) h, number_up_to 1 n (omega arith) l)

pub three_bytes : (n : ℕ) → 16384 ≤ n → n < 2097152 → 3 ≡ length (number_form n)
three_bytes n h l = omega (arith, number_above 1 n (omega arith) h, number_up_to 2 n (omega arith) l)

pub four_bytes : (n : ℕ) → 2097152 ≤ n → n < 268435456 → 4 ≡ length (number_form n)
four_bytes n h l = omega (arith, number_above 2 n (omega arith) h, number_up_to 3 n (omega arith) l)

pub five_bytes : (n : ℕ) → 268435456 ≤ n → 5 ≡ length (number_form n)
five_bytes n h = omega (arith, number_above 3 n (omega arith) h, number_few n)
