-- Lemmas on forms: arguments one by one.
use Rattle.std.proofs.Common.{◌≡◌, ℕ, zero, suc, ◌-◌, ◌<◌, ◌≤◌, Bool, true, false, cond, eqb, List, [], ◌∷◌, map, length, get_or, take, drop, Some, None, Option, refl, ap, ◌∙◌, arith, Bor}
use Rattle.std.specs.Option.{option_map}
use Rattle.std.proofs.lemmas.List.{take_rest}
use Rattle.tokens.specs.Bytes.{bytes_of}
use Rattle.script.specs.Grammar.{Kind, Value, Body, body, silence, value_of, led, closing, body_of, found, commands, sentence, meaning_of}

-- the words that references hold
abbrev pub held : List (Bor (List ℕ)) → List (List ℕ)
held args = map (λ w. w.now) args

-- what stands past the end
abbrev nowhere : Bor (List ℕ)
nowhere = record { ref_ptr = (0, 0); now = [] }

later : (v : Option Value) {o : Option Body} → None ≡ o → None ≡ led v o
later None e = refl
later (Some v) e = ap (led (Some v)) e

-- where no bytes follow there are as many words as arguments
pub wrong_count : (ks : List Kind) (args : List (Bor (List ℕ))) → (length args ≡ length ks → ⊥) → None ≡ body_of ks false (held args)
wrong_count [] [] h = absurd (h refl)
wrong_count [] (a ∷ args) h = refl
wrong_count (k ∷ ks) [] h = refl
wrong_count (k ∷ ks) (a ∷ args) h = later (value_of k a.now) (wrong_count ks args (λ e. h (ap suc e)))

-- and else no fewer
pub too_few : (ks : List Kind) (b : Bool) (args : List (Bor (List ℕ))) → length args < length ks → None ≡ body_of ks b (held args)
too_few [] b args h = absurd (omega arith)
too_few (k ∷ ks) b [] h = refl
too_few (k ∷ ks) b (a ∷ args) h = later (value_of k a.now) (too_few ks b args (omega arith))

-- arguments before the rest
abbrev pub leads : List (Option Value) → Option Body → Option Body
leads [] o = o
leads (v ∷ vs) o = led v (leads vs o)

-- each argument is what the word at its place is
abbrev pub Reads : List (Bor (List ℕ)) → ℕ → List (Option Value) → List Kind → Type 0
Reads args i [] [] = Unit {0}
Reads args i [] (k ∷ ks) = ⊥
Reads args i (v ∷ vs) [] = ⊥
Reads args i (v ∷ vs) (k ∷ ks) = (v ≡ value_of k (get_or args i nowhere).now) × Reads args (suc i) vs ks

reads_on : (a : Bor (List ℕ)) (args : List (Bor (List ℕ))) (i : ℕ) (vs : List (Option Value)) (ks : List Kind) → Reads (a ∷ args) (suc i) vs ks → Reads args i vs ks
reads_on a args i [] [] r = tt
reads_on a args i (v ∷ vs) (k ∷ ks) r = (r.0, reads_on a args (suc i) vs ks r.1)
reads_on a args i [] (k ∷ ks) r = absurd r
reads_on a args i (v ∷ vs) [] r = absurd r

pub by_parts : (b : Bool) (ks : List Kind) (args : List (Bor (List ℕ))) (vs : List (Option Value)) → length ks ≤ length args → Reads args 0 vs ks → leads vs (closing b (held (drop (length ks) args))) ≡ body_of ks b (held args)
by_parts b [] args [] h r = refl
by_parts b [] args (v ∷ vs) h r = absurd r
by_parts b (k ∷ ks) args [] h r = absurd r
by_parts b (k ∷ ks) [] (v ∷ vs) h r = absurd (omega arith)
by_parts b (k ∷ ks) (a ∷ args) (v ∷ vs) h r = (λ i. led (r.0 i) (by_parts b ks args vs (omega arith) (reads_on a args 0 vs ks r.1) i))

closed : (n : ℕ) (args : List (Bor (List ℕ))) → length args ≡ n → Some (body [] []) ≡ closing false (held (drop n args))
closed zero [] e = refl
closed zero (a ∷ args) e = absurd (omega arith)
closed (suc n) [] e = absurd (omega arith)
closed (suc n) (a ∷ args) e = closed n args (omega arith)

-- just the arguments
pub by_all : (ks : List Kind) (args : List (Bor (List ℕ))) (vs : List (Option Value)) → length args ≡ length ks → Reads args 0 vs ks → leads vs (Some (body [] [])) ≡ body_of ks false (held args)
by_all ks args vs e r = ap (leads vs) (closed (length ks) args e) ∙ by_parts false ks args vs (omega arith) r

-- the first word, and the others as a pattern has them
abbrev pub others : List (Bor (List ℕ)) → List (List ℕ)
others args = held (take (length args - 1) (drop 1 args))

abbrev pub first : List (Bor (List ℕ)) → List ℕ
first args = (get_or args 0 nowhere).now

first_held : (args : List (Bor (List ℕ))) → 1 ≤ length args → first args ∷ others args ≡ held args
first_held [] h = absurd (omega arith)
first_held (a ∷ args) h = ap (λ l. a.now ∷ held l) (take_rest (a ∷ args) 1)

pub none_held : (args : List (Bor (List ℕ))) → length args < 1 → [] ≡ held args
none_held [] h = refl
none_held (a ∷ args) h = absurd (omega arith)

-- arguments before bytes
abbrev pub tied : Option Body → Option (List ℕ) → Option Body
tied None p = None
tied (Some (body vs bs)) None = None
tied (Some (body vs bs)) (Some cs) = Some (body vs cs)

tied_led : (v : Option Value) (o : Option Body) (p : Option (List ℕ)) → tied (led v o) p ≡ led v (tied o p)
tied_led None o p = refl
tied_led (Some v) None p = refl
tied_led (Some v) (Some (body vs bs)) None = refl
tied_led (Some v) (Some (body vs bs)) (Some cs) = refl

tied_none : (p : Option (List ℕ)) → tied (Some (body [] [])) p ≡ option_map (body []) p
tied_none None = refl
tied_none (Some cs) = refl

split_body : (ks : List Kind) (args : List (Bor (List ℕ))) → length ks ≤ length args → tied (body_of ks false (held (take (length ks) args))) (bytes_of (held (drop (length ks) args))) ≡ body_of ks true (held args)
split_body [] args h = tied_none (bytes_of (held args))
split_body (k ∷ ks) [] h = absurd (omega arith)
split_body (k ∷ ks) (a ∷ args) h = tied_led (value_of k a.now) _ _ ∙ ap (led (value_of k a.now)) (split_body ks args (omega arith))

pub by_split : (ks : List Kind) (args head rest : List (Bor (List ℕ))) (o : Option Body) (p : Option (List ℕ)) → length ks ≤ length args → head ≡ take (length ks) args → rest ≡ drop (length ks) args → o ≡ body_of ks false (held head) → p ≡ bytes_of (held rest) → tied o p ≡ body_of ks true (held args)
by_split ks args head rest o p h a b e f =
    (λ i. tied ((e ∙ ap (λ l. body_of ks false (held l)) a) i) ((f ∙ ap (λ l. bytes_of (held l)) b) i)) ∙ split_body ks args h

-- the whole line
pub no_words : (args : List (Bor (List ℕ))) → length args < 1 → silence ≡ meaning_of (held args)
unfolding meaning_of
no_words args h = ap meaning_of (none_held args h)

pub a_remark : (args : List (Bor (List ℕ))) → 1 ≤ length args → true ≡ eqb (get_or (first args) 0 0) 35 → silence ≡ meaning_of (held args)
unfolding meaning_of
a_remark args h e = ap (λ b. cond b silence (sentence (found commands (first args)) (first args) (others args))) e ∙ ap meaning_of (first_held args h)

pub a_sentence : (args : List (Bor (List ℕ))) → 1 ≤ length args → false ≡ eqb (get_or (first args) 0 0) 35 → sentence (found commands (first args)) (first args) (others args) ≡ meaning_of (held args)
unfolding meaning_of
a_sentence args h e = ap (λ b. cond b silence (sentence (found commands (first args)) (first args) (others args))) e ∙ ap meaning_of (first_held args h)
