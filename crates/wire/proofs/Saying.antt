-- A good body and what it says, each from the other.
use Rattle.std.proofs.Common.{◌≡◌, ℕ, ◌+◌, ◌-◌, ◌*◌, ◌/◌, ◌%◌, ◌<◌, ◌≤◌, Bool, cond, leb, List, [], ◌∷◌, ◌++◌, length, get_or, drop, sym, refl, ap, ◌∙◌, subst, arith}
use Rattle.std.proofs.lemmas.List.{append_assoc, length-append, length-take, length-drop, take_all, take_at, take_more, take_rest, get_or_at, same_from_push}
use Rattle.std.proofs.lemmas.Bool.Decides.{nat_tests}
use Rattle.wire.specs.Bodies.{Content, Says, body_of, uncrced, leading, final, stated, behind, parameter_byte}
use Rattle.wire.specs.Crc.{crc_of}
use Rattle.wire.proofs.Judging.{Good, good, verdict_good}
use Rattle.wire.proofs.Writing.{places_from, spread, all_places}

-- all but the last, and the last
pub last_apart : (xs : List ℕ) → 0 < length xs → xs ≡ leading xs ++ final xs ∷ []
last_apart xs h =
    let in_range : length xs - 1 < length xs = omega arith in
    let whole : length xs ≤ length xs - 1 + 1 = omega arith in
    sym (take_all (length xs - 1 + 1) xs whole) ∙ take_more xs (length xs - 1) 0 in_range

-- the bytes before the CRC: eleven, and the data
parts : (body : List ℕ) → 12 ≤ length body → leading body ≡ places_from 0 11 body ++ leading (behind 11 body)
parts body h =
    let tail = behind 11 body in
    let rest : tail ≡ drop 11 body = take_rest body 11 in
    let some : 0 < length tail = omega (arith, ap length rest, length-drop 11 body) in
    let whole : body ≡ (places_from 0 11 body ++ leading tail) ++ final tail ∷ [] =
    spread 11 0 body (omega arith)
    ∙ (ap (λ v. places_from 0 11 body ++ v) (sym rest ∙ last_apart tail some) ∙ sym (append_assoc (places_from 0 11 body) (leading tail) (final tail ∷ [])))
    in
    (same_from_push (leading body) (places_from 0 11 body ++ leading tail) (final body) (final tail) (sym (last_apart body (omega arith)) ∙ whole)).0

payload_length : (body : List ℕ) → 12 ≤ length body → length (leading (behind 11 body)) ≡ length body - 12
payload_length body h = simp (length-take, length-drop) (omega arith)

parameter_is : (b n : ℕ) (r : Bool) → r ≡ leb 32 b → b < 64 → n ≡ b % 32 → cond r 32 0 + n ≡ b
parameter_is b n r e h m = grind (arith, nat_tests)

low : (n a b : ℕ) → n ≡ a + 256 * b → a < 256 → n % 256 ≡ a
low n a b e h = omega arith

high : (n a b : ℕ) → n ≡ a + 256 * b → a < 256 → n / 256 ≡ b
high n a b e h = omega arith

-- what a body says makes that body
pub said : (body : List ℕ) (c : Content) → get_or body 2 0 < 256 → get_or body 4 0 < 256 → Says body c → body_of c ≡ body
unfolding body_of
said body c d s m =
    let g = good body m.good in
    let long : 12 ≤ length body = omega (arith, g.long) in
    let size : length c.payload ≡ stated body = ap length m.payload ∙ (payload_length body long ∙ omega (arith, g.long)) in
    let p : parameter_byte c ≡ get_or body 0 0 = parameter_is (get_or body 0 0) (length c.payload) c.request m.request g.plain size in
    let u : uncrced c ≡ leading body =
    (λ i.
    p i ∷ sym g.reserved i
    ∷ (low c.destination _ _ m.destination d i ∷ high c.destination _ _ m.destination d i
    ∷ (low c.source _ _ m.source s i ∷ high c.source _ _ m.source s i ∷ (m.command i ∷ (m.four i ++ m.payload i)))))
    ∙ sym (parts body long)
    in
    (λ i. u i ++ crc_of (u i) ∷ []) ∙ (ap (λ v. leading body ++ v ∷ []) (sym g.summed) ∙ sym (last_apart body (omega arith)))

pub said_length : (body : List ℕ) (c : Content) → Says body c → length c.payload ≤ 31
said_length body c m =
    let g = good body m.good in
    let long : 12 ≤ length body = omega (arith, g.long) in
    omega (arith, g.long, ap length m.payload, payload_length body long)

-- one byte behind a list is its last, and the list is what leads
leading_push : (u : List ℕ) (x : ℕ) → leading (u ++ x ∷ []) ≡ u
leading_push u x = take_at u (x ∷ []) (length (u ++ x ∷ []) - 1) (omega (arith, length-append u (x ∷ [])))

final_push : (u : List ℕ) (x : ℕ) → final (u ++ x ∷ []) ≡ x
final_push u x = get_or_at u x [] 0 (length (u ++ x ∷ []) - 1) (omega (arith, length-append u (x ∷ [])))

module _ (r : Bool) (d s m a b e f : ℕ) (p : List ℕ) (few : length p ≤ 31) where
  abbrev spelt : Content
  spelt = record { request = r; destination = d; source = s; command = m; four = a ∷ b ∷ e ∷ f ∷ []; payload = p }

  stated_few : (cond r 32 0 + length p) % 32 ≡ length p
  stated_few = grind (arith, nat_tests)

  spelt_good : Good (body_of spelt)
  unfolding body_of
  spelt_good =
      let x = crc_of (uncrced spelt) in
      record {
        long = omega (arith, length-append p (x ∷ []), stated_few);
        summed = final_push (uncrced spelt) x ∙ ap crc_of (sym (leading_push (uncrced spelt) x));
        plain = grind (arith, nat_tests);
        reserved = refl;
      }

  spelt_says : Says (body_of spelt) spelt
  unfolding body_of
  spelt_says =
      let x = crc_of (uncrced spelt) in
      record {
        good = verdict_good (body_of spelt) spelt_good;
        request = grind (arith, nat_tests);
        destination = omega arith;
        source = omega arith;
        command = refl;
        four = refl;
        payload = sym (leading_push p x) ∙ ap leading (sym (take_rest (uncrced spelt ++ x ∷ []) 11));
      }

-- what is said is what its body says
pub own : (c : Content) → length c.four ≡ 4 → length c.payload ≤ 31 → Says (body_of c) c
own c l h =
    subst (λ (v : List ℕ). Says (body_of (record { request = c.request; destination = c.destination; source = c.source; command = c.command; four = v; payload = c.payload })) (record { request = c.request; destination = c.destination; source = c.source; command = c.command; four = v; payload = c.payload }))
    (all_places 4 c.four l)
    (spelt_says c.request c.destination c.source c.command (get_or c.four 0 0) (get_or c.four 1 0) (get_or c.four 2 0) (get_or c.four 3 0) c.payload h)

pub own_length : (c : Content) → length c.four ≡ 4 → length c.payload ≤ 31 → length (body_of c) ≤ 43
unfolding body_of
own_length c l h = omega (arith, length-append (c.four ++ c.payload) (crc_of (uncrced c) ∷ []), length-append c.four c.payload)
