-- What a body shows, and where its text stands.
use Rattle.std.proofs.Common.{◌≡◌, ℕ, ◌-◌, ◌≤◌, List, ◌∷◌, length, take, drop, replicate, Some, None, Option, sym, refl, ap, ◌∙◌, subst, arith}
use Rattle.std.specs.Option.{ok_or}
use Rattle.std.proofs.lemmas.List.{length-take-le, take_rest, drop-take, drop-drop, take_at, take-take}
use Rattle.std.proofs.lemmas.Bool.Decides.{nat_tests}
use Rattle.wire.specs.Bodies.{Content, Says, leading, behind, verdict}
use Rattle.protocol.specs.declared.answer.Answer as answers
use Rattle.protocol.specs.declared.answer.Answer.TheVariants as answer
use Rattle.look.specs.declared.Look.{Look}
use Rattle.look.specs.declared.Look.TheVariants.{Question, Answer, Complaint}
use Rattle.look.specs.declared.Refusal.TheVariants.{Unlawful}
use Rattle.numbering.specs.declared.command.Command.{Command}
use Rattle.protocol.specs.Answers.{Means}
use Rattle.numbering.specs.Exactly.{Exactly}
use Rattle.look.specs.Looks.{Shows, Looked, Placed, TextPlaced, refused_as}
use Rattle.protocol.specs.Text.{padded}
use Rattle.protocol.proofs.Texting.{length_padded}

-- a body says one content
says_one : (body : List ℕ) (c d : Content) → Says body c → Says body d → c ≡ d
says_one body c d p q =
    let r = p.request ∙ sym q.request in
    let t = p.destination ∙ sym q.destination in
    let s = p.source ∙ sym q.source in
    let k = p.command ∙ sym q.command in
    let f = p.four ∙ sym q.four in
    let l = p.payload ∙ sym q.payload in
    λ i. record { request = r i; destination = t i; source = s i; command = k i; four = f i; payload = l i }

-- the data stand behind the eleven leading bytes, a text behind the first of the data
text_place : (body cs : List ℕ) (n : ℕ) → length cs ≤ 30 → n ∷ padded cs ≡ leading (behind 11 body) → cs ≡ take (length cs) (drop 12 body)
text_place body cs n h e =
    let zs = drop 11 body in
    let r : n ∷ padded cs ≡ take (length zs - 1) zs = e ∙ ap leading (take_rest body 11) in
    let m : length zs - 1 ≡ 31 = omega (arith, ap length r, length_padded cs h, length-take-le (length zs - 1) zs (omega arith)) in
    let p : padded cs ≡ take 30 (drop 12 body) = ap (drop 1) (r ∙ ap (λ k. take k zs) m) ∙ drop-take 1 30 zs ∙ ap (take 30) (drop-drop 1 11 body) in
    sym (take_at cs (replicate (30 - length cs) 0) (length cs) refl) ∙ ap (take (length cs)) p ∙ take-take (length cs) 30 (drop 12 body) h

answer_placed : (body : List ℕ) (k : Command) (a : ℕ) (bs : List ℕ) (x : answers.Answer) → bs ≡ leading (behind 11 body) → Means k a bs x → TextPlaced body x
answer_placed body k a bs (answer.Ping v i) e m = tt
answer_placed body k a bs (answer.Counter g n) e m = tt
answer_placed body k a bs (answer.Text f t) e m = text_place body t.now _ m.0.short (m.1.bytes ∙ e)
answer_placed body k a bs (answer.Parameter p v) e m = tt
answer_placed body k a bs answer.Relay e m = tt

pub seen_placed : (body : List ℕ) (c : Content) (o : Option Look) → Says body c → Exactly (Shows c) o → Placed body (ok_or o Unlawful)
seen_placed body c None s h = tt
seen_placed body c (Some (Question d t p q)) s h = tt
seen_placed body c (Some (Answer d t p x)) s h = answer_placed body h.command c.source c.payload x s.payload h.means
seen_placed body c (Some (Complaint d t k p)) s h = tt

unlawful : (body : List ℕ) → length body ≤ 43 → verdict body ≡ 0 → 39 ≡ refused_as body
unlawful body l v = grind (arith, nat_tests)

pub seen_looked : (body : List ℕ) (c : Content) (o : Option Look) → length body ≤ 43 → Says body c → Exactly (Shows c) o → Looked body (ok_or o Unlawful)
seen_looked body c (Some x) l s h = (l, (c, s, h))
seen_looked body c None l s h =
    (unlawful body l s.good, λ e x w. h x (subst (λ k. Shows k x) (says_one body w.0 c w.1 s) w.2))
