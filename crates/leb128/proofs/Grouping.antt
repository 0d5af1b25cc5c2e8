-- Numbers as their groups, read and written: the two laws.
use Rattle.std.proofs.Common.{◌≡◌, ℕ, zero, suc, ◌+◌, ◌-◌, ◌*◌, ◌/◌, ◌%◌, ◌^◌, ◌<◌, ◌≤◌, true, false, ltb, List, [], ◌∷◌, ◌++◌, length, Ok, Err, sym, refl, ap, ◌∙◌, ⊎_elim, arith}
use Rattle.std.proofs.lemmas.List.{length-append}
use Rattle.std.proofs.lemmas.Bool.{cases_lt}
use Rattle.std.proofs.lemmas.Bool.Decides.{nat_tests}
use Rattle.leb128.specs.declared.cause.Cause.TheVariants.{TooLarge}
use Rattle.leb128.specs.Reads.{Read, got, bad, next, Answer, Took}
use Rattle.leb128.specs.Numbers.{groups, number_form, most, groups_read, shortest, number_read}
use Rattle.leb128.specs.Steps.{Spelled}
use Rattle.leb128.proofs.Reading.{next_got}

-- the number whose lowest group stands in this byte
abbrev on_top : ℕ → ℕ → List ℕ → Read ℕ
on_top b high rest = got (b - 128 + 128 * high) rest

-- one byte
read_last : (i b : ℕ) (bs : List ℕ) → b ≤ most i → b < 128 → groups_read i (b ∷ bs) ≡ got b bs
read_last i b bs m l = grind (arith, nat_tests)

read_more : (i b : ℕ) (bs : List ℕ) → b ≤ most i → 128 ≤ b → groups_read i (b ∷ bs) ≡ next (groups_read (i + 1) bs) (on_top b)
read_more i b bs m l = grind (arith, nat_tests)

read_high : (i b : ℕ) (bs : List ℕ) → most i < b → groups_read i (b ∷ bs) ≡ bad TooLarge
read_high i b bs m = grind (arith, nat_tests)

-- a number that was read either ends with its first byte or goes on
data Ways (i b : ℕ) (bs : List ℕ) (n : ℕ) (rest : List ℕ) : Type 0 where
  ends : b ≤ most i → b < 128 → b ≡ n → bs ≡ rest → Ways i b bs n rest
  goes_on : b ≤ most i → 128 ≤ b → (high : ℕ) → groups_read (i + 1) bs ≡ got high rest → b - 128 + 128 * high ≡ n → Ways i b bs n rest

went_on : (i b n : ℕ) (bs rest : List ℕ) → b ≤ most i → 128 ≤ b → next (groups_read (i + 1) bs) (on_top b) ≡ got n rest → Ways i b bs n rest
went_on i b n bs rest m l e =
    let w = next_got (groups_read (i + 1) bs) (on_top b) n rest e in
    let x = w.3 in
    let p : b - 128 + 128 * w.0 ≡ n = cc in
    let q : w.1 ≡ rest = cc in
    goes_on m l w.0 (w.2 ∙ ap (got w.0) q) p

ways : (i b n : ℕ) (bs rest : List ℕ) → groups_read i (b ∷ bs) ≡ got n rest → Ways i b bs n rest
ways i b n bs rest e =
    ⊎_elim
    (λ (h : most i < b). let y = read_high i b bs h in let z : ◌≡◌ {A = ℕ} 0 1 = cc in absurd (omega arith))
    (λ (m : b ≤ most i). ⊎_elim
    (λ (l : b < 128).
    let y = read_last i b bs m l in
    let p : b ≡ n = cc in
    let q : bs ≡ rest = cc in
    ends m l p q)
    (λ (l : 128 ≤ b). went_on i b n bs rest m l (sym (read_more i b bs m l) ∙ e))
    (cases_lt b 128))
    (cases_lt (most i) b)

-- only a byte before the fifth goes on
before_fifth : (i b : ℕ) → b ≤ most i → 128 ≤ b → i < 4
before_fifth i b m l = grind (arith, nat_tests)

pub byte_most : (i b : ℕ) → b ≤ most i → b ≤ 255
byte_most i b m = grind (arith, nat_tests)

fifth_most : (i b : ℕ) → i ≡ 4 → b ≤ most i → b ≤ 15
fifth_most i b e m = grind (arith, nat_tests)

-- the bytes behind a number are fewer
pub reads_some : (i n : ℕ) (bs rest : List ℕ) → groups_read i bs ≡ got n rest → length rest < length bs
reads_some i n [] rest e = let z : ◌≡◌ {A = ℕ} 0 1 = cc in absurd (omega arith)
reads_some i n (b ∷ bs) rest e =
    elim (ways i b n bs rest e) [
      | ends m l p q ↦ omega (arith, ap length q)
      | goes_on m l high h p ↦ omega (arith, reads_some (i + 1) high bs rest h)
    ]

-- the numbers of up to k + 1 groups, of which the last has four bits, are below this
abbrev pub top : ℕ → ℕ
top zero = 16
top (suc k) = 128 * top k

top_some : (k : ℕ) → 16 ≤ top k
top_some zero = omega arith
top_some (suc k) = omega (arith, top_some k)

pub reads_below : (i k n : ℕ) (bs rest : List ℕ) → i + k ≡ 4 → groups_read i bs ≡ got n rest → n < top k
reads_below i k n [] rest s e = let z : ◌≡◌ {A = ℕ} 0 1 = cc in absurd (omega arith)
reads_below i zero n (b ∷ bs) rest s e =
    elim (ways i b n bs rest e) [
      | ends m l p q ↦ omega (arith, fifth_most i b (omega arith) m)
      | goes_on m l high h p ↦ absurd (omega (arith, before_fifth i b m l))
    ]
reads_below i (suc k) n (b ∷ bs) rest s e =
    elim (ways i b n bs rest e) [
      | ends m l p q ↦ omega (arith, top_some k)
      | goes_on m l high h p ↦ omega (arith, byte_most i b m, reads_below (i + 1) k high bs rest (omega arith) h)
    ]

-- what stands above a byte that is not the fifth
below_fits : (i n : ℕ) (bs rest : List ℕ) → i < 4 → groups_read (i + 1) bs ≡ got n rest → n < 2 ^ 25
below_fits zero n bs rest h e = reads_below 1 3 n bs rest refl e
below_fits (suc zero) n bs rest h e = omega (arith, reads_below 2 2 n bs rest refl e)
below_fits (suc (suc zero)) n bs rest h e = omega (arith, reads_below 3 1 n bs rest refl e)
below_fits (suc (suc (suc zero))) n bs rest h e = omega (arith, reads_below 4 0 n bs rest refl e)
below_fits (suc (suc (suc (suc i)))) n bs rest h e = absurd (omega arith)

pub high_fits : (i b n : ℕ) (bs rest : List ℕ) → b ≤ most i → 128 ≤ b → groups_read (i + 1) bs ≡ got n rest → n < 2 ^ 25
high_fits i b n bs rest m l e = below_fits i n bs rest (before_fifth i b m l) e

-- what is written is read
pub groups_back : (i k n : ℕ) (rest : List ℕ) → i + k ≡ 4 → n < top k → groups_read i (groups k n ++ rest) ≡ got n rest
groups_back i zero n rest e l = read_last i n rest (grind (arith, nat_tests)) (omega arith)
groups_back i (suc k) n rest e l =
    ⊎_elim
    (λ (h : n < 128). let t : ltb n 128 ≡ true = grind (arith, nat_tests) in rw t (read_last i n rest (grind (arith, nat_tests)) h))
    (λ (h : 128 ≤ n).
    let t : ltb n 128 ≡ false = grind (arith, nat_tests) in
    let b : ℕ = n % 128 + 128 in
    let ih = groups_back (i + 1) k (n / 128) rest (omega arith) (omega arith) in
    rw t (read_more i b (groups k (n / 128) ++ rest) (grind (arith, nat_tests)) (omega arith) ∙ ap (λ d. next d (on_top b)) ih ∙ ap (λ v. got v rest) (omega arith)))
    (cases_lt n 128)

-- what is read in no more bytes than it needs was written
pub groups_only : (i k n : ℕ) (bs rest : List ℕ) → i + k ≡ 4 → groups_read i bs ≡ got n rest → length bs ≤ length (groups k n) + length rest → bs ≡ groups k n ++ rest
groups_only i k n [] rest s e h = let z : ◌≡◌ {A = ℕ} 0 1 = cc in absurd (omega arith)
groups_only i zero n (b ∷ bs) rest s e h =
    elim (ways i b n bs rest e) [
      | ends m l p q ↦ cc
      | goes_on m l high o p ↦ absurd (omega (arith, before_fifth i b m l))
    ]
groups_only i (suc k) n (b ∷ bs) rest s e h =
    elim (ways i b n bs rest e) [
      | ends m l p q ↦ let t : ltb n 128 ≡ true = grind (arith, nat_tests) in rw t (cc)
      | goes_on m l high o p ↦ ⊎_elim
          (λ (c : n < 128).
          let t : ltb n 128 ≡ true = grind (arith, nat_tests) in
          let f : length (groups (suc k) n) ≡ 1 = rw t in
          absurd (omega (arith, reads_some (i + 1) high bs rest o)))
          (λ (c : 128 ≤ n).
          let t : ltb n 128 ≡ false = grind (arith, nat_tests) in
          let lo : n % 128 + 128 ≡ b = omega (arith, byte_most i b m) in
          let hi : n / 128 ≡ high = omega (arith, byte_most i b m) in
          let f : groups (suc k) n ≡ b ∷ groups k high = rw (t, lo, hi) in
          let ih = groups_only (i + 1) k high bs rest (omega arith) o (omega (arith, ap length f)) in
          ap (λ xs. b ∷ xs) ih ∙ ap (λ xs. xs ++ rest) (sym f))
          (cases_lt n 128)
    ]

-- a spelling that is no longer than the form
short_got : (size n : ℕ) (rest : List ℕ) → size ≤ length (number_form n) → shortest size n rest ≡ got n rest
short_got size n rest h = grind (arith, nat_tests)

got_short : (size n m : ℕ) (rest tail : List ℕ) → shortest size n rest ≡ got m tail → (n ≡ m) × (rest ≡ tail) × (size ≤ length (number_form m))
got_short size n m rest tail e =
    ⊎_elim
    (λ (h : length (number_form n) < size).
    let t : ltb (length (number_form n)) size ≡ true = grind (arith, nat_tests) in
    let y = rw t at e in
    let z : ◌≡◌ {A = ℕ} 0 1 = cc in absurd (omega arith))
    (λ (h : size ≤ length (number_form n)). let y = short_got size n rest h in let p : n ≡ m = cc in (p, (cc), omega (arith, ap (λ k. length (number_form k)) p)))
    (cases_lt (length (number_form n)) size)

pub number_back : (n : ℕ) (rest : List ℕ) → n < 2 ^ 32 → number_read (number_form n ++ rest) ≡ got n rest
unfolding number_form number_read
number_back n rest h =
    let bs = groups 4 n ++ rest in
    ap (λ d. next d (λ m tail. shortest (length bs - length tail) m tail)) (groups_back 0 4 n rest refl h)
    ∙ short_got (length bs - length rest) n rest (omega (arith, length-append (groups 4 n) rest))

-- a number that is read has some spelling, and that is no longer than its form
reads_short : (n : ℕ) (bs rest : List ℕ) → number_read bs ≡ got n rest → (groups_read 0 bs ≡ got n rest) × (length bs ≤ length (number_form n) + length rest)
unfolding number_read
reads_short n bs rest e =
    let w = next_got (groups_read 0 bs) (λ m tail. shortest (length bs - length tail) m tail) n rest e in
    let g = got_short (length bs - length w.1) w.0 n w.1 rest w.3 in
    (w.2 ∙ (λ i. got (g.0 i) (g.1 i)), omega (arith, g.2, ap length g.1))

pub number_only : (n : ℕ) (bs rest : List ℕ) → number_read bs ≡ got n rest → (bs ≡ number_form n ++ rest) × (n < 2 ^ 32)
unfolding number_form
number_only n bs rest e =
    let r = reads_short n bs rest e in
    (groups_only 0 4 n bs rest refl r.0 r.1, reads_below 0 4 n bs rest refl r.0)

-- what is left to judge once a number is read in some spelling
pub spelled : (bytes : List ℕ) (r : Answer ℕ) → Took (groups_read 0 bytes) r → Spelled bytes r
unfolding number_read
spelled bytes (Ok p) t = (
  omega (arith, reads_some 0 p.0 bytes p.1.now t),
  ap (λ d. next d (λ m tail. shortest (length bytes - length tail) m tail)) t,
)
spelled bytes (Err cause) t = ap (λ d. next d (λ m tail. shortest (length bytes - length tail) m tail)) t
