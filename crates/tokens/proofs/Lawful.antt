-- The laws.
use Rattle.std.proofs.Common.{◌≡◌, ℕ, ◌+◌, ◌*◌, ◌/◌, ◌%◌, ◌<◌, ◌≤◌, true, false, ◌&&◌, ltb, ◌⊎◌, List, [], ◌∷◌, ◌++◌, map, length, get_or, Some, None, decimal, Option, sym, refl, ap, ◌∙◌, subst, inl, inr, ⊎_elim, arith}
use Rattle.std.specs.Str.Parse.{AllDigits, IsNumeral, digits_value, digits_value_after}
use Rattle.std.specs.Char.{digit_value, to_ascii_uppercase}
use Rattle.std.specs.List.{AllByRecursion}
use Rattle.std.specs.Int.Digits.{number_from_digits, number_from_digits_after, AllBelowBase}
use Rattle.std.proofs.lemmas.Fmt.{decimal_is_IsNumeral}
use Rattle.std.proofs.lemmas.List.{append_assoc, append-nil, take_rest}
use Rattle.std.proofs.lemmas.Bool.{cases_lt, cases_eq, cases_Bool}
use Rattle.std.proofs.lemmas.Bool.Decides.{nat_tests}
use Rattle.tokens.specs.Words.{blank, gathered, words}
use Rattle.tokens.specs.Numerals.{onward, digits_in, numeral}
use Rattle.tokens.specs.Bytes.{pair, before, pairs, joined_to, bytes_of}
use Rattle.text.specs.Answers.{hex_digit, two_digits, solid_pairs, trailing_pairs}
use Rattle.tokens.specs.Laws.{Spelt, NumeralsExact, DecimalBack, HexBack, BytesBack, PairsExact, Stops, Parted, WordsExact, nothing, gap, word}
use Rattle.tokens.proofs.Spelling.{onward_more, onward_none, hex_word, plain_first, plain_second}

-- numerals
onward_spelt : (base n m : ℕ) (ds : List ℕ) → onward base n ds ≡ Some m → AllDigits base ds × (m ≡ digits_value_after base n ds)
onward_spelt base n m [] e = (tt, cc)
onward_spelt base n m (d ∷ ds) e =
    ⊎_elim
    (λ (l : digit_value d < base). let h = onward_spelt base (n * base + digit_value d) m ds (sym (onward_more base n d ds l) ∙ e) in ((l, h.0), h.1))
    (λ (l : base ≤ digit_value d). let y = onward_none base n d ds l in let z : ◌≡◌ {A = ℕ} 0 1 = cc in absurd (omega arith))
    (cases_lt (digit_value d) base)

spelt_onward : (base n : ℕ) (ds : List ℕ) → AllDigits base ds → onward base n ds ≡ Some (digits_value_after base n ds)
spelt_onward base n [] h = refl
spelt_onward base n (d ∷ ds) h = onward_more base n d ds h.0 ∙ spelt_onward base (n * base + digit_value d) ds h.1

digits_spelt : (base m : ℕ) (ds : List ℕ) → digits_in base ds ≡ Some m → IsNumeral base ds × (m ≡ digits_value base ds)
digits_spelt base m [] e = let z : ◌≡◌ {A = ℕ} 0 1 = cc in absurd (omega arith)
digits_spelt base m (d ∷ ds) e = let h = onward_spelt base 0 m (d ∷ ds) e in ((omega arith, h.0), h.1)

spelt_digits : (base : ℕ) (ds : List ℕ) → IsNumeral base ds → digits_in base ds ≡ Some (digits_value base ds)
spelt_digits base [] h = absurd (omega (arith, h.0))
spelt_digits base (d ∷ ds) h = spelt_onward base 0 (d ∷ ds) h.1

by_ten : (w : List ℕ) (n : ℕ) → numeral w ≡ digits_in 10 w → numeral w ≡ Some n → Spelt w n
by_ten w n p e = inl (digits_spelt 10 n w (sym p ∙ e))

pub numeral_spelt : (w : List ℕ) (n : ℕ) → numeral w ≡ Some n → Spelt w n
numeral_spelt [] n e = by_ten [] n (plain_first [] (λ z. omega arith)) e
numeral_spelt (a ∷ []) n e = by_ten (a ∷ []) n (plain_second (a ∷ []) (λ z. omega arith)) e
numeral_spelt (a ∷ b ∷ ds) n e =
    ⊎_elim
    (λ (p : a ≡ 48). ⊎_elim
    (λ (q : b ≡ 120).
    let h = digits_spelt 16 n ds (sym (hex_word (a ∷ b ∷ ds) p q ∙ ap (digits_in 16) (take_rest (a ∷ b ∷ ds) 2)) ∙ e) in
    inr (ds, ap (λ x. x ∷ b ∷ ds) p ∙ ap (λ y. 48 ∷ y ∷ ds) q, h.0, h.1))
    (λ (q : b ≡ 120 → ⊥). by_ten (a ∷ b ∷ ds) n (plain_second (a ∷ b ∷ ds) q) e)
    (cases_eq b 120))
    (λ (p : a ≡ 48 → ⊥). by_ten (a ∷ b ∷ ds) n (plain_first (a ∷ b ∷ ds) p) e)
    (cases_eq a 48)

no_x : (w : List ℕ) → IsNumeral 10 w → get_or w 1 0 ≡ 120 → ⊥
no_x [] h e = omega (arith, h.0)
no_x (a ∷ []) h e = omega arith
no_x (a ∷ b ∷ ds) h e = let z = subst (λ x. digit_value x < 10) e h.1.1.0 in omega arith

pub spelt_numeral : (w : List ℕ) (n : ℕ) → Spelt w n → numeral w ≡ Some n
spelt_numeral w n (inl h) = plain_second w (no_x w h.0) ∙ spelt_digits 10 w h.0 ∙ ap Some (sym h.1)
spelt_numeral w n (inr (ds, e, h, q)) =
    ap numeral e ∙ hex_word (48 ∷ 120 ∷ ds) refl refl ∙ ap (digits_in 16) (take_rest (48 ∷ 120 ∷ ds) 2) ∙ spelt_digits 16 ds h ∙ ap Some (sym q)

pub numerals_exact : NumeralsExact
numerals_exact w n = (numeral_spelt w n, spelt_numeral w n)

pub decimal_back : DecimalBack
decimal_back n h = let d = decimal_is_IsNumeral n h in spelt_numeral (decimal n) n (inl (d.0, sym d.1))

-- digits in upper case
value_digit : (d : ℕ) → d < 16 → digit_value (hex_digit d) ≡ d
value_digit d h = ⊎_elim (λ (l : d < 10). grind (arith, nat_tests)) (λ (l : 10 ≤ d). grind (arith, nat_tests)) (cases_lt d 10)

solid_digit : (d : ℕ) → d < 16 → blank (hex_digit d) ≡ false
solid_digit d h = ⊎_elim (λ (l : d < 10). grind (arith, nat_tests)) (λ (l : 10 ≤ d). grind (arith, nat_tests)) (cases_lt d 10)

digits_under : (ds : List ℕ) → AllBelowBase 16 ds → AllDigits 16 (map hex_digit ds)
digits_under [] u = tt
digits_under (d ∷ ds) u = (rw (value_digit d u.0) u.0, digits_under ds u.1)

value_under : (n : ℕ) (ds : List ℕ) → AllBelowBase 16 ds → digits_value_after 16 n (map hex_digit ds) ≡ number_from_digits_after 16 n ds
value_under n [] u = refl
value_under n (d ∷ ds) u = ap (λ v. digits_value_after 16 (n * 16 + v) (map hex_digit ds)) (value_digit d u.0) ∙ value_under (n * 16 + d) ds u.1

pub hex_back : HexBack
hex_back [] p u = absurd (omega arith)
hex_back (d ∷ ds) p u =
    spelt_numeral (48 ∷ 120 ∷ map hex_digit (d ∷ ds)) (number_from_digits 16 (d ∷ ds)) (inr (map hex_digit (d ∷ ds), refl, (omega arith, digits_under (d ∷ ds) u), sym (value_under 0 (d ∷ ds) u)))

-- bytes
byte_back : (b : ℕ) → b < 256 → pairs (two_digits b) ≡ Some (b ∷ [])
byte_back b h =
    let p : digit_value (hex_digit (b / 16)) ≡ b / 16 = value_digit (b / 16) (omega arith) in
    let q : digit_value (hex_digit (b % 16)) ≡ b % 16 = value_digit (b % 16) (omega arith) in
    let l : ltb (b / 16) 16 ≡ true = grind (arith, nat_tests) in
    let m : ltb (b % 16) 16 ≡ true = grind (arith, nat_tests) in
    let s : b / 16 * 16 + b % 16 ≡ b = omega arith in
    rw (p, q, l, m, s)

word_of : (b : ℕ) (t : List ℕ) → b < 256 → gathered [] (two_digits b ++ t) ≡ gathered (two_digits b) t
word_of b t h =
    let p : blank (hex_digit (b / 16)) ≡ false = solid_digit (b / 16) (omega arith) in
    let q : blank (hex_digit (b % 16)) ≡ false = solid_digit (b % 16) (omega arith) in
    rw (p, q)

pair_words : (b : ℕ) (bs : List ℕ) → AllByRecursion (λ x. x < 256) bs → gathered (two_digits b) (trailing_pairs bs) ≡ two_digits b ∷ map two_digits bs
pair_words b [] u = refl
pair_words b (x ∷ bs) u = ap (λ ws. two_digits b ∷ ws) (word_of x (trailing_pairs bs) u.0 ∙ pair_words x bs u.1)

hex_words : (bs : List ℕ) → AllByRecursion (λ x. x < 256) bs → words (trailing_pairs bs) ≡ map two_digits bs
unfolding words
hex_words [] u = refl
hex_words (b ∷ bs) u = word_of b (trailing_pairs bs) u.0 ∙ pair_words b bs u.1

bytes_of_words : (bs : List ℕ) → AllByRecursion (λ x. x < 256) bs → bytes_of (map two_digits bs) ≡ Some bs
bytes_of_words [] u = refl
bytes_of_words (b ∷ bs) u = (λ i. joined_to (byte_back b u.0 i) (bytes_of_words bs u.1 i))

pub bytes_back : BytesBack
bytes_back bs u = ap bytes_of (hex_words bs u) ∙ bytes_of_words bs u

-- words
blank_cases : (b : ℕ) → (blank b ≡ true) ⊎ (blank b ≡ false)
blank_cases b = cases_Bool (blank b)

word_gathers : (acc w line : List ℕ) → AllByRecursion (λ b. blank b ≡ false) w → gathered acc (w ++ line) ≡ gathered (acc ++ w) line
word_gathers acc [] line u = ap (λ l. gathered l line) (sym (append-nil acc))
word_gathers acc (b ∷ w) line u =
    let p : blank b ≡ false = u.0 in
    rw p (word_gathers (acc ++ b ∷ []) w line u.1 ∙ ap (λ l. gathered l line) (append_assoc acc (b ∷ []) w))

word_ends : (w line : List ℕ) → 0 < length w → Stops line → gathered w line ≡ w ∷ gathered [] line
word_ends [] line h s = absurd (omega arith)
word_ends (a ∷ w) [] h s = refl
word_ends (a ∷ w) (b ∷ line) h s = let p : blank b ≡ true = s in rw p

parted_words : {line : List ℕ} {ws : List (List ℕ)} → Parted line ws → gathered [] line ≡ ws
parted_words nothing = refl
parted_words (gap b line ws e p) = rw e (parted_words p)
parted_words (word w line ws h u s p) = word_gathers [] w line u ∙ word_ends w line h s ∙ ap (λ l. w ∷ l) (parted_words p)

every_push : (w : List ℕ) (b : ℕ) → AllByRecursion (λ x. blank x ≡ false) w → blank b ≡ false → AllByRecursion (λ x. blank x ≡ false) (w ++ b ∷ [])
every_push [] b u e = (e, tt)
every_push (a ∷ w) b u e = (u.0, every_push w b u.1 e)

words_parted : (w line : List ℕ) → AllByRecursion (λ b. blank b ≡ false) w → Parted (w ++ line) (gathered w line)
words_parted [] [] u = nothing
words_parted (a ∷ w) [] u = word (a ∷ w) [] [] (omega arith) u tt nothing
words_parted [] (b ∷ line) u =
    ⊎_elim
    (λ (e : blank b ≡ true). rw e (gap b line (gathered [] line) e (words_parted [] line tt)))
    (λ (e : blank b ≡ false). rw e (words_parted (b ∷ []) line (e, tt)))
    (blank_cases b)
words_parted (a ∷ w) (b ∷ line) u =
    ⊎_elim
    (λ (e : blank b ≡ true). rw e (word (a ∷ w) (b ∷ line) (gathered [] line) (omega arith) u e (gap b line (gathered [] line) e (words_parted [] line tt))))
    (λ (e : blank b ≡ false).
    let h = words_parted ((a ∷ w) ++ b ∷ []) line (every_push (a ∷ w) b u e) in
    rw e (subst (λ l. Parted l (gathered ((a ∷ w) ++ b ∷ []) line)) (append_assoc (a ∷ w) (b ∷ []) line) h))
    (blank_cases b)

pub words_exact : WordsExact
unfolding words
words_exact line ws = (λ e. subst (Parted line) e (words_parted [] line tt), parted_words)

-- digits in either case
upper_digit : (c : ℕ) → digit_value c < 16 → to_ascii_uppercase c ≡ hex_digit (digit_value c)
upper_digit c h =
    ⊎_elim
    (λ (a : c < 58). grind (arith, nat_tests))
    (λ (a : 58 ≤ c). ⊎_elim (λ (b : c < 91). grind (arith, nat_tests)) (λ (b : 91 ≤ c). grind (arith, nat_tests)) (cases_lt c 91))
    (cases_lt c 58)

value_upper : (c d : ℕ) → d < 16 → to_ascii_uppercase c ≡ hex_digit d → digit_value c ≡ d
value_upper c d h e =
    ⊎_elim
    (λ (a : c < 58). grind (arith, nat_tests))
    (λ (a : 58 ≤ c). ⊎_elim (λ (b : c < 91). grind (arith, nat_tests)) (λ (b : 91 ≤ c). grind (arith, nat_tests)) (cases_lt c 91))
    (cases_lt c 58)

pair_is : (high low : ℕ) → digit_value high < 16 → digit_value low < 16 → pair high low ≡ Some (digit_value high * 16 + digit_value low)
pair_is high low p q = let a : ltb (digit_value high) 16 ≡ true = grind (arith, nat_tests) in let b : ltb (digit_value low) 16 ≡ true = grind (arith, nat_tests) in rw (a, b)

pair_inside : (high low b : ℕ) → pair high low ≡ Some b → (digit_value high < 16) × (digit_value low < 16) × (b ≡ digit_value high * 16 + digit_value low)
pair_inside high low b e =
    ⊎_elim
    (λ (p : digit_value high < 16). ⊎_elim
    (λ (q : digit_value low < 16). let y = pair_is high low p q in let z : digit_value high * 16 + digit_value low ≡ b = cc in (p, q, sym z))
    (λ (q : 16 ≤ digit_value low). let a : (ltb (digit_value high) 16 && ltb (digit_value low) 16) ≡ false = grind (arith, nat_tests) in let y : pair high low ≡ None = rw a in let z : ◌≡◌ {A = ℕ} 0 1 = cc in absurd (omega arith))
    (cases_lt (digit_value low) 16))
    (λ (p : 16 ≤ digit_value high). let a : ltb (digit_value high) 16 ≡ false = grind (arith, nat_tests) in let y : pair high low ≡ None = rw a in let z : ◌≡◌ {A = ℕ} 0 1 = cc in absurd (omega arith))
    (cases_lt (digit_value high) 16)

before_inside : (p : Option ℕ) (o : Option (List ℕ)) (bs : List ℕ) → before p o ≡ Some bs → (b : ℕ) × (cs : List ℕ) × (p ≡ Some b) × (o ≡ Some cs) × (b ∷ cs ≡ bs)
before_inside None o bs e = let z : ◌≡◌ {A = ℕ} 0 1 = cc in absurd (omega arith)
before_inside (Some b) None bs e = let z : ◌≡◌ {A = ℕ} 0 1 = cc in absurd (omega arith)
before_inside (Some b) (Some cs) bs e = (b, cs, refl, refl, cc)

pub pairs_upper : (w bs : List ℕ) → pairs w ≡ Some bs → (map to_ascii_uppercase w ≡ solid_pairs bs) × AllByRecursion (λ b. b < 256) bs
pairs_upper [] bs e = let q : [] ≡ bs = cc in (ap solid_pairs q, subst (AllByRecursion (λ b. b < 256)) q tt)
pairs_upper (high ∷ []) bs e = let z : ◌≡◌ {A = ℕ} 0 1 = cc in absurd (omega arith)
pairs_upper (high ∷ low ∷ ds) bs e =
    let i = before_inside (pair high low) (pairs ds) bs e in
    let b = i.0 in
    let p = pair_inside high low b i.2 in
    let r = pairs_upper ds i.1 i.3 in
    let x : digit_value high ≡ b / 16 = omega (arith, p.0, p.1, p.2) in
    let y : digit_value low ≡ b % 16 = omega (arith, p.0, p.1, p.2) in
    let f : to_ascii_uppercase high ≡ hex_digit (b / 16) = upper_digit high p.0 ∙ ap hex_digit x in
    let g : to_ascii_uppercase low ≡ hex_digit (b % 16) = upper_digit low p.1 ∙ ap hex_digit y in
    ((λ j. f j ∷ g j ∷ r.0 j) ∙ ap solid_pairs i.4, subst (AllByRecursion (λ v. v < 256)) i.4 (omega (arith, p.0, p.1, p.2), r.1))

pub upper_pairs : (w bs : List ℕ) → map to_ascii_uppercase w ≡ solid_pairs bs → AllByRecursion (λ b. b < 256) bs → pairs w ≡ Some bs
upper_pairs [] [] e u = refl
upper_pairs [] (b ∷ bs) e u = let z : ◌≡◌ {A = ℕ} 0 1 = cc in absurd (omega arith)
upper_pairs (high ∷ ds) [] e u = let z : ◌≡◌ {A = ℕ} 0 1 = cc in absurd (omega arith)
upper_pairs (high ∷ []) (b ∷ bs) e u = let z : ◌≡◌ {A = ℕ} 0 1 = cc in absurd (omega arith)
upper_pairs (high ∷ low ∷ ds) (b ∷ bs) e u =
    let h : to_ascii_uppercase high ∷ to_ascii_uppercase low ∷ map to_ascii_uppercase ds ≡ hex_digit (b / 16) ∷ hex_digit (b % 16) ∷ solid_pairs bs = e in
    let p : to_ascii_uppercase high ≡ hex_digit (b / 16) = cc in
    let q : to_ascii_uppercase low ≡ hex_digit (b % 16) = cc in
    let r : map to_ascii_uppercase ds ≡ solid_pairs bs = cc in
    let l = u.0 in
    let x = value_upper high (b / 16) (omega arith) p in
    let y = value_upper low (b % 16) (omega arith) q in
    let k = pair_is high low (omega arith) (omega arith) in
    let v : digit_value high * 16 + digit_value low ≡ b = omega arith in
    (λ j. before ((k ∙ ap Some v) j) (upper_pairs ds bs r u.1 j))

pub pairs_exact : PairsExact
pairs_exact w bs = (pairs_upper w bs, upper_pairs w bs)
