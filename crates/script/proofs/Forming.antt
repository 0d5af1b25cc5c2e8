-- Words that spell a form.
use Rattle.std.proofs.Common.{◌≡◌, ℕ, ◌-◌, ◌≤◌, Bool, true, false, cond, ◌&&◌, eqb, ltb, leb, List, [], ◌∷◌, ◌++◌, length, get_or, replicate, Some, None, codes, Option, sym, refl, ap, ◌∙◌, subst, inl, inr, ⊎_elim, arith}
use Rattle.std.specs.Option.{option_map}
use Rattle.std.specs.List.{AllByRecursion}
use Rattle.std.specs.Str.{bytes_eq}
use Rattle.std.proofs.lemmas.Slice.Eq.{bytes_eq-Decides}
use Rattle.std.proofs.lemmas.Bool.{cases_Bool, and_parts, and_from, eqb-true, eq-eqb, ne_eqb, ltb-true, lt-ltb, leb-true, le-leb}
use Rattle.tokens.specs.Numerals.{numeral, up_to}
use Rattle.tokens.specs.Bytes.{pairs, bytes_of, four_of}
use Rattle.tokens.specs.Names.{letter, all_letters, name_of}
use Rattle.script.specs.Grammar.{Kind, Value, Body, Said, Form, Meaning, number, four, name, direction, num, raw, called, request, answer, body, said, silence, unreadable, command, call, value_of, direction_of, led, body_of, said_by, said_by_any, found, commands, calls, addressed, commanded, sentence, meaning_of}
use Rattle.script.specs.Spells.{Writes, Follows, FormsExact, In, Says, Asks, LinesExact, a_number, four_bytes, a_name, a_request, an_answer, no_more, the_bytes, argument, a_command, a_call}
use Rattle.tokens.specs.Laws.{Parted}
use Rattle.tokens.specs.Words.{words}
use Rattle.tokens.proofs.Lawful.{spelt_numeral, numeral_spelt, pairs_upper, upper_pairs, words_exact}

-- nothing is not something
never : {X Y : Type 0} {x : X} → None ≡ Some x → Y
never e = let z : ◌≡◌ {A = ℕ} 0 1 = cc in absurd (omega arith)

-- what an `option_map` and a `cond` come from
mapped_inside : {X Y : Type 0} (f : X → Y) (o : Option X) (y : Y) → option_map f o ≡ Some y → (x : X) × (o ≡ Some x) × (f x ≡ y)
mapped_inside f None y e = never e
mapped_inside f (Some x) y e = (x, refl, cc)

cond_inside : {X : Type 0} (b : Bool) (o : Option X) (x : X) → cond b o None ≡ Some x → (b ≡ true) × (o ≡ Some x)
cond_inside true o x e = (refl, e)
cond_inside false o x e = never e

up_to_inside : (most n : ℕ) (o : Option ℕ) → up_to most o ≡ Some n → (o ≡ Some n) × (n ≤ most)
up_to_inside most n None e = never e
up_to_inside most n (Some m) e =
    let h = cond_inside (leb m most) (Some m) n e in
    (h.1, let q : m ≡ n = let k = h.1 in cc in subst (λ x. x ≤ most) q (leb-true m most h.0))

letters_every : (w : List ℕ) → all_letters w ≡ true → AllByRecursion (λ b. (97 ≤ b) × (b ≤ 122)) w
letters_every [] e = tt
letters_every (b ∷ w) e =
    let p = and_parts (letter b) (all_letters w) e in
    let q = and_parts (leb 97 b) (leb b 122) p.0 in
    ((leb-true 97 b q.0, leb-true b 122 q.1), letters_every w p.1)

every_letters : (w : List ℕ) → AllByRecursion (λ b. (97 ≤ b) × (b ≤ 122)) w → all_letters w ≡ true
every_letters [] u = refl
every_letters (b ∷ w) u = and_from (letter b) (all_letters w) (and_from (leb 97 b) (leb b 122) (le-leb 97 b u.0.0) (le-leb b 122 u.0.1)) (every_letters w u.1)

value_writes : (k : Kind) (w : List ℕ) (v : Value) → value_of k w ≡ Some v → Writes k w v
value_writes (number most) w v e =
    let h = mapped_inside num (up_to most (numeral w)) v e in
    let g = up_to_inside most h.0 (numeral w) h.1 in
    subst (Writes (number most) w) h.2 (a_number most h.0 w (numeral_spelt w h.0 g.0) g.1)
value_writes four w v e =
    let h = mapped_inside raw (four_of w) v e in
    let g = cond_inside (eqb (length w) 8) (pairs w) h.0 h.1 in
    let r = pairs_upper w h.0 g.1 in
    subst (Writes four w) h.2 (four_bytes w h.0 (eqb-true _ _ g.0) r.0 r.1)
value_writes name w v e =
    let h = mapped_inside called (name_of w) v e in
    let g = cond_inside (ltb 0 (length w) && leb (length w) 16) _ h.0 h.1 in
    let k = cond_inside (all_letters w) (Some (w ++ replicate (16 - length w) 0)) h.0 g.1 in
    let p = and_parts (ltb 0 (length w)) (leb (length w) 16) g.0 in
    let q : w ++ replicate (16 - length w) 0 ≡ h.0 = let y = k.1 in cc in
    subst (Writes name w) (ap called q ∙ h.2) (a_name w (ltb-true _ _ p.0) (leb-true _ _ p.1) (letters_every w k.0))
value_writes direction w v e =
    ⊎_elim
    (λ (t : bytes_eq (codes "request") w ≡ true).
    let q : request ≡ v = let y : direction_of w ≡ Some request = rw t in cc in
    subst (λ x. Writes direction x v) ((bytes_eq-Decides (codes "request") w).0 t) (subst (Writes direction (codes "request")) q a_request))
    (λ (t : bytes_eq (codes "request") w ≡ false).
    let y : direction_of w ≡ cond (bytes_eq (codes "answer") w) (Some answer) None = rw t in
    let h = cond_inside (bytes_eq (codes "answer") w) (Some answer) v (sym y ∙ e) in
    let q : answer ≡ v = let k = h.1 in cc in
    subst (λ x. Writes direction x v) ((bytes_eq-Decides (codes "answer") w).0 h.0) (subst (Writes direction (codes "answer")) q an_answer))
    (cases_Bool (bytes_eq (codes "request") w))

writes_value : {k : Kind} {w : List ℕ} {v : Value} → Writes k w v → value_of k w ≡ Some v
writes_value (a_number most n w s l) = let t : leb n most ≡ true = le-leb _ _ l in ap (λ o. option_map num (up_to most o)) (spelt_numeral w n s) ∙ rw t
writes_value (four_bytes w bs l e u) = let t : eqb (length w) 8 ≡ true = eq-eqb _ _ l in rw t (ap (option_map raw) (upper_pairs w bs e u))
writes_value (a_name w p l u) =
    let s : ltb 0 (length w) ≡ true = lt-ltb _ _ p in
    let t : leb (length w) 16 ≡ true = le-leb _ _ l in
    let a : all_letters w ≡ true = every_letters w u in
    rw (s, t, a)
writes_value a_request = refl
writes_value an_answer = refl

led_inside : (o : Option Value) (p : Option Body) (y : Body) → led o p ≡ Some y → (v : Value) × (vs : List Value) × (bs : List ℕ) × (o ≡ Some v) × (p ≡ Some (body vs bs)) × (body (v ∷ vs) bs ≡ y)
led_inside None p y e = never e
led_inside (Some v) None y e = never e
led_inside (Some v) (Some (body vs bs)) y e = (v, vs, bs, refl, refl, cc)

read_follows : (ks : List Kind) (b : Bool) (ws : List (List ℕ)) (y : Body) → body_of ks b ws ≡ Some y → Follows ks b ws y
read_follows [] true ws y e = let h = mapped_inside (body []) (bytes_of ws) y e in subst (Follows [] true ws) h.2 (the_bytes ws h.0 h.1)
read_follows [] false [] y e = let q : body [] [] ≡ y = cc in subst (Follows [] false []) q no_more
read_follows [] false (w ∷ ws) y e = never e
read_follows (k ∷ ks) b [] y e = never e
read_follows (k ∷ ks) b (w ∷ ws) y e =
    let h = led_inside (value_of k w) (body_of ks b ws) y e in
    subst (Follows (k ∷ ks) b (w ∷ ws)) h.5 (argument k w h.0 ks b ws h.1 h.2 (value_writes k w h.0 h.3) (read_follows ks b ws (body h.1 h.2) h.4))

follows_read : {ks : List Kind} {b : Bool} {ws : List (List ℕ)} {y : Body} → Follows ks b ws y → body_of ks b ws ≡ Some y
follows_read no_more = refl
follows_read (the_bytes ws bs e) = ap (option_map (body [])) e
follows_read (argument k w v ks b ws vs bs p f) = (λ i. led (writes_value p i) (follows_read f i))

pub forms_exact : FormsExact
forms_exact ks b ws y = (read_follows ks b ws y, follows_read)

-- the table
command_found : (f : Form) → In f commands → (found commands f.keyword ≡ Some f) × (eqb (get_or f.keyword 0 0) 35 ≡ false)
command_found f (inl e) = rw e (refl, refl)
command_found f (inr (inl e)) = rw e (refl, refl)
command_found f (inr (inr (inl e))) = rw e (refl, refl)
command_found f (inr (inr (inr (inl e)))) = rw e (refl, refl)
command_found f (inr (inr (inr (inr (inl e))))) = rw e (refl, refl)
command_found f (inr (inr (inr (inr (inr h))))) = absurd h

call_found : (f : Form) → In f calls → found calls f.keyword ≡ Some f
call_found f (inl e) = rw e
call_found f (inr (inl e)) = rw e
call_found f (inr (inr (inl e))) = rw e
call_found f (inr (inr (inr (inl e)))) = rw e
call_found f (inr (inr (inr (inr (inl e))))) = rw e
call_found f (inr (inr (inr (inr (inr (inl e)))))) = rw e
call_found f (inr (inr (inr (inr (inr (inr (inl e))))))) = rw e
call_found f (inr (inr (inr (inr (inr (inr (inr (inl e)))))))) = rw e
call_found f (inr (inr (inr (inr (inr (inr (inr (inr (inl e))))))))) = rw e
call_found f (inr (inr (inr (inr (inr (inr (inr (inr (inr (inl e)))))))))) = rw e
call_found f (inr (inr (inr (inr (inr (inr (inr (inr (inr (inr (inl e))))))))))) = rw e
call_found f (inr (inr (inr (inr (inr (inr (inr (inr (inr (inr (inr (inl e)))))))))))) = rw e
call_found f (inr (inr (inr (inr (inr (inr (inr (inr (inr (inr (inr (inr h)))))))))))) = absurd h

found_inside : (fs : List Form) (w : List ℕ) (f : Form) → found fs w ≡ Some f → In f fs × (f.keyword ≡ w)
found_inside [] w f e = never e
found_inside (g ∷ gs) w f e =
    ⊎_elim
    (λ (t : bytes_eq g.keyword w ≡ true).
    let y : found (g ∷ gs) w ≡ Some g = rw t in
    let q : f ≡ g = cc in
    (inl q, ap (λ x. x.keyword) q ∙ (bytes_eq-Decides g.keyword w).0 t))
    (λ (t : bytes_eq g.keyword w ≡ false).
    let y : found (g ∷ gs) w ≡ found gs w = rw t in
    let h = found_inside gs w f (sym y ∙ e) in
    (inr h.0, h.1))
    (cases_Bool (bytes_eq g.keyword w))

not_found : (fs : List Form) (w : List ℕ) → ((g : Form) → In g fs → g.keyword ≡ w → ⊥) → found fs w ≡ None
not_found [] w h = refl
not_found (g ∷ gs) w h =
    ⊎_elim
    (λ (t : bytes_eq g.keyword w ≡ true). absurd (h g (inl refl) ((bytes_eq-Decides g.keyword w).0 t)))
    (λ (t : bytes_eq g.keyword w ≡ false). rw t (not_found gs w (λ k i. h k (inr i))))
    (cases_Bool (bytes_eq g.keyword w))

found_none : (fs : List Form) (w : List ℕ) → found fs w ≡ None → (g : Form) → In g fs → g.keyword ≡ w → ⊥
found_none [] w e g i q = i
found_none (k ∷ ks) w e g (inl p) q =
    let t : bytes_eq k.keyword w ≡ true = (bytes_eq-Decides k.keyword w).1 (sym (ap (λ x. x.keyword) p) ∙ q) in
    let y : found (k ∷ ks) w ≡ Some k = rw t in
    never (sym e ∙ y)
found_none (k ∷ ks) w e g (inr i) q =
    ⊎_elim
    (λ (t : bytes_eq k.keyword w ≡ true). let y : found (k ∷ ks) w ≡ Some k = rw t in never (sym e ∙ y))
    (λ (t : bytes_eq k.keyword w ≡ false). let y : found (k ∷ ks) w ≡ found ks w = rw t in found_none ks w (sym y ∙ e) g i q)
    (cases_Bool (bytes_eq k.keyword w))

said_inside : (f : Form) (ws : List (List ℕ)) (s : Said) → said_by f ws ≡ Some s → (y : Body) × Follows f.arguments f.bytes ws y × (said f.keyword y ≡ s)
said_inside f ws s e =
    let h = mapped_inside (said f.keyword) (body_of f.arguments f.bytes ws) s e in
    (h.0, read_follows f.arguments f.bytes ws h.0 h.1, h.2)

follows_said : (f : Form) (ws : List (List ℕ)) (y : Body) → Follows f.arguments f.bytes ws y → said_by f ws ≡ Some (said f.keyword y)
follows_said f ws y h = ap (option_map (said f.keyword)) (follows_read h)

-- what a line says
commanded_says : (line w : List ℕ) (ws : List (List ℕ)) (f : Form) (o : Option Said) (m : Meaning) → Asks m → Parted line (w ∷ ws) → found commands w ≡ Some f → said_by f ws ≡ o → commanded o ≡ m → Says line m
commanded_says line w ws f None m a p k e q = let z : unreadable ≡ m = q in absurd (subst Asks (sym z) a)
commanded_says line w ws f (Some s) m a p k e q =
    let i = found_inside commands w f k in
    let h = said_inside f ws s e in
    subst (Says line) (ap command h.2 ∙ q) (a_command line f ws h.0 i.0 (subst (λ x. Parted line (x ∷ ws)) (sym i.1) p) h.1)

addressed_says : (line w v : List ℕ) (ws : List (List ℕ)) (f : Option Form) (n : Option (List ℕ)) (o : Option Said) (m : Meaning) → Asks m → Parted line (w ∷ v ∷ ws) → found commands w ≡ None → name_of w ≡ n → found calls v ≡ f → said_by_any f ws ≡ o → addressed n o ≡ m → Says line m
addressed_says line w v ws f None o m a p k x g e q = let z : unreadable ≡ m = q in absurd (subst Asks (sym z) a)
addressed_says line w v ws f (Some ls) None m a p k x g e q = let z : unreadable ≡ m = q in absurd (subst Asks (sym z) a)
addressed_says line w v ws None (Some ls) (Some s) m a p k x g e q = never e
addressed_says line w v ws (Some f) (Some ls) (Some s) m a p k x g e q =
    let i = found_inside calls v f g in
    let h = said_inside f ws s e in
    subst (Says line) (ap (call ls) h.2 ∙ q) (a_call line w ls f ws h.0 (value_writes name w (called ls) (ap (option_map called) x)) (found_none commands w k) i.0 (subst (λ y. Parted line (w ∷ y ∷ ws)) (sym i.1) p) h.1)

sentence_says : (line w : List ℕ) (ws : List (List ℕ)) (o : Option Form) (m : Meaning) → Asks m → Parted line (w ∷ ws) → found commands w ≡ o → sentence o w ws ≡ m → Says line m
sentence_says line w ws (Some f) m a p k q = commanded_says line w ws f _ m a p k refl q
sentence_says line w [] None m a p k q = let z : unreadable ≡ m = q in absurd (subst Asks (sym z) a)
sentence_says line w (v ∷ ws) None m a p k q = addressed_says line w v ws _ _ _ m a p k refl refl refl q

words_say : (line : List ℕ) (ws : List (List ℕ)) (m : Meaning) → Asks m → Parted line ws → meaning_of ws ≡ m → Says line m
unfolding meaning_of
words_say line [] m a p q = let z : silence ≡ m = q in absurd (subst Asks (sym z) a)
words_say line (w ∷ ws) m a p q =
    ⊎_elim
    (λ (t : eqb (get_or w 0 0) 35 ≡ true). let z : silence ≡ m = sym (rw t) ∙ q in absurd (subst Asks (sym z) a))
    (λ (t : eqb (get_or w 0 0) 35 ≡ false). let y : meaning_of (w ∷ ws) ≡ sentence (found commands w) w ws = rw t in sentence_says line w ws _ m a p refl (sym y ∙ q))
    (cases_Bool (eqb (get_or w 0 0) 35))

first_letter : {w : List ℕ} {v : Value} → Writes name w v → eqb (get_or w 0 0) 35 ≡ false
first_letter (a_name [] p l u) = absurd (omega arith)
first_letter (a_name (b ∷ w) p l u) = ne_eqb _ _ (λ e. omega (arith, u.0.0))

writes_name : (w ls : List ℕ) → Writes name w (called ls) → name_of w ≡ Some ls
writes_name w ls h = let i = mapped_inside called (name_of w) (called ls) (writes_value h) in let q : i.0 ≡ ls = let y = i.2 in cc in i.1 ∙ ap Some q

said_lines : {line : List ℕ} {m : Meaning} → Says line m → meaning_of (words line) ≡ m
unfolding meaning_of
said_lines (a_command line f ws y i p h) =
    let c = command_found f i in
    let k : found commands f.keyword ≡ Some f = c.0 in
    let t : eqb (get_or f.keyword 0 0) 35 ≡ false = c.1 in
    ap meaning_of ((words_exact line (f.keyword ∷ ws)).1 p) ∙ rw (t, k) (ap commanded (follows_said f ws y h))
said_lines (a_call line w ls f ws y n g i p h) =
    let k : found commands w ≡ None = not_found commands w g in
    let t : eqb (get_or w 0 0) 35 ≡ false = first_letter n in
    let c : found calls f.keyword ≡ Some f = call_found f i in
    ap meaning_of ((words_exact line (w ∷ f.keyword ∷ ws)).1 p) ∙ rw (t, k) ((λ j. addressed (writes_name w ls n j) (said_by_any (c j) ws)) ∙ ap (addressed (Some ls)) (follows_said f ws y h))

pub lines_exact : LinesExact
lines_exact line m = (λ a e. words_say line (words line) m a ((words_exact line (words line)).0 refl) e, said_lines)
