-- The round trips between frames and what they say.
use Rattle.std.proofs.Common.{◌≡◌, ℕ, ◌<◌, ◌≤◌, true, cond, eqb, ltb, List, [], ◌∷◌, ◌++◌, length, get_or, sym, ap, ◌∙◌, subst, arith}
use Rattle.std.proofs.lemmas.List.{take_rest}
use Rattle.std.proofs.lemmas.Bool.{eqb-true, and_parts, le-ltb, cond-false}
use Rattle.std.specs.List.{AllByRecursion}
use Rattle.std.proofs.lemmas.List.Elements.{All-from_recursion, recursion_from_All, All-from_get_or}
use Rattle.wire.specs.Bodies.{Content, body_of, behind}
use Rattle.wire.specs.Receiving.{inside, run}
use Rattle.wire.specs.Framing.{made, refused, stuffed, framed, frame_of, unpacked, ended, begins}
use Rattle.wire.specs.Trips.{PacksAgain, UnpacksBack}
use Rattle.wire.proofs.Judging.{good}
use Rattle.wire.proofs.Running.{split, never, given, good_runs}
use Rattle.wire.proofs.Saying.{said, said_length, own, own_length}

-- what stands behind the first two
behind_two : (a b : ℕ) (rest : List ℕ) → behind 2 (a ∷ b ∷ rest) ≡ rest
behind_two a b rest = take_rest (a ∷ b ∷ rest) 2

opens : (input : List ℕ) → begins input ≡ true → input ≡ 0x73 ∷ 0x55 ∷ behind 2 input
opens (a ∷ b ∷ rest) e =
    let p = and_parts (eqb a 0x73) (eqb b 0x55) e in
    λ i. eqb-true a 0x73 p.0 i ∷ eqb-true b 0x55 p.1 i ∷ sym (behind_two a b rest) i
opens (a ∷ []) e = let p = and_parts (eqb a 0x73) (eqb 0 0x55) e in let z : ◌≡◌ {A = ℕ} 0 0x55 = eqb-true 0 0x55 p.1 in absurd (omega arith)
opens [] e = let z : ◌≡◌ {A = ℕ} 0 0x73 = eqb-true 0 0x73 (and_parts (eqb 0 0x73) (eqb 0 0x55) e).0 in absurd (omega arith)

-- what unpacks to a body is the frame around it
pub is_framed : (room : ℕ) (input body : List ℕ) → unpacked room input ≡ made body → input ≡ framed body
unfolding framed
is_framed room input body e =
    split (ltb room 43) (refused 3) (cond (begins input) (ended (run (inside []) (behind 2 input))) (refused 4)) (λ m. m ≡ made body) e
    (λ t p. absurd (never p))
    (λ f p.
    split (begins input) (ended (run (inside []) (behind 2 input))) (refused 4) (λ m. m ≡ made body) p
    (λ t q.
    let g = given body (behind 2 input) (inside []) q in
    opens input t ∙ ap (λ v. 0x73 ∷ 0x55 ∷ v) (g.1 ∙ ap (λ v. stuffed v ++ 0x55 ∷ []) (sym g.2)))
    (λ t q. absurd (never q)))

-- a good body's frame unpacks to it
pub reframed : (room : ℕ) (c : Content) → 43 ≤ room → length c.four ≡ 4 → length c.payload ≤ 31 → unpacked room (frame_of c) ≡ made (body_of c)
unfolding framed
reframed room c h l n =
    let runs = good_runs (body_of c) (own_length c l n) (own c l n).good in
    cond-false (ltb room 43) _ _ (le-ltb room 43 h) ∙ ap ended (ap (run (inside [])) (behind_two 0x73 0x55 (stuffed (body_of c) ++ 0x55 ∷ [])) ∙ runs)

-- each byte of the list is a byte
abbrev Bytes : List ℕ → Type 0
Bytes bs = AllByRecursion (λ b. b < 256) bs

unstuffed : (xs rest : List ℕ) → Bytes (stuffed xs ++ rest) → Bytes xs
unfolding stuffed
unstuffed [] rest h = tt
unstuffed (b ∷ xs) rest h =
    split (eqb b 0x55) (0x73 ∷ 0x11 ∷ []) (cond (eqb b 0x73) (0x73 ∷ 0x22 ∷ []) (b ∷ [])) (λ w. Bytes (w ++ stuffed xs ++ rest)) h
    (λ t p. (omega (arith, eqb-true b 0x55 t), unstuffed xs rest p.1.1))
    (λ f p.
    split (eqb b 0x73) (0x73 ∷ 0x22 ∷ []) (b ∷ []) (λ w. Bytes (w ++ stuffed xs ++ rest)) p
    (λ t q. (omega (arith, eqb-true b 0x73 t), unstuffed xs rest q.1.1))
    (λ g q. (q.0, unstuffed xs rest q.1)))

pub packs_again : (input : List ℕ) → ((i : ℕ) → get_or input i 0 < 256) → PacksAgain input
unfolding framed PacksAgain
packs_again input h room body c e m wide fits =
    let f = is_framed room input body e in
    let bytes = recursion_from_All (λ b. b < 256) input (All-from_get_or (λ b. b < 256) input 0 (λ i _. h i)) in
    let w = All-from_recursion (λ b. b < 256) body (unstuffed body (0x55 ∷ []) (subst Bytes f bytes).1.1) in
    let long : 12 ≤ length body = omega (arith, (good body m.good).long) in
    let same : frame_of c ≡ input = ap framed (said body c (w 2 0 (omega arith)) (w 4 0 (omega arith)) m) ∙ sym f in
    cond-false (ltb 31 (length c.payload)) _ _ (le-ltb 31 (length c.payload) (said_length body c m))
    ∙ (cond-false (ltb wide (length (frame_of c))) _ _ (le-ltb wide (length (frame_of c)) (omega (arith, ap length same))) ∙ ap made same)

pub unpacks_back : (c : Content) → length c.four ≡ 4 → length c.payload ≤ 31 → UnpacksBack c
unfolding UnpacksBack
unpacks_back c l h = ((λ room n. reframed room c n l h), own c l h, (λ room input e. is_framed room input (body_of c) e))
