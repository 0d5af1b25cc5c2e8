use Rattle.std.proofs.Common.{◌≡◌, [], ◌++◌, map, length, vec_items, sym, refl, ap, ◌∙◌, arith, rules}
use Rattle.tokens.specs.Words.{words}
use Rattle.tokens.proofs.Wording.{goes_on, ends, stays, last_word, no_word, pushed, kept, all_found}
use Rattle.tokens.proofs.words.push_ended.Goals as goal
use Rattle.tokens.proofs.words.push_ended.Goals.{then-start-i+in_ok-push, else-start-i}

pub loop-i-init : goal.loop-i-init
unfolding words
loop-i-init c = search rules

pub loop-i-preserved : goal.loop-i-preserved
loop-i-preserved c =
    let l = c.loop-i in
    let line = c.args.line.now in
    let b = sym c.if-not-is_blank.ensures in (
      omega arith,
      elim c.if-start-i.branch [
        | then-start-i+in_ok-push w ↦ pushed (λ r. r.now) (vec_items l.words) (vec_items c.if-start-i.words) _ _ _ _ (ap vec_items w.words-is ∙ w.in_ok-push.ensures.items) refl (ap (λ ws. map (λ r. r.now) (vec_items l.words) ++ ws) (sym (ends l.start l.i line l.invariant.0 c.loop-i-test.true b w.if-start-i.true)) ∙ l.invariant.1)
        | else-start-i w ↦ kept (λ r. r.now) (vec_items l.words) (vec_items c.if-start-i.words) _ _ (ap vec_items w.words-is) (ap (λ ws. map (λ r. r.now) (vec_items l.words) ++ ws) (sym (stays l.start l.i line l.invariant.0 c.loop-i-test.true b w.if-start-i.false)) ∙ l.invariant.1)
      ],
    )

pub loop-i-preserved-then-not-is_blank : goal.loop-i-preserved-then-not-is_blank
loop-i-preserved-then-not-is_blank c =
    let l = c.loop-i in
    (omega arith, ap (λ ws. map (λ r. r.now) (vec_items l.words) ++ ws) (sym (goes_on l.start l.i c.args.line.now l.invariant.0 c.loop-i-test.true (sym c.if-not-is_blank.ensures))) ∙ l.invariant.1)

pub returns : goal.returns
returns c =
    let l = c.loop-i in
    let line = c.args.line.now in
    let ws = vec_items l.words in
    let e : l.i ≡ length line = omega arith in (
      λ h. all_found (λ r. r.now) ws ws _ (ap (λ vs. map (λ r. r.now) ws ++ vs) (sym (no_word l.start l.i line e h)) ∙ l.invariant.1),
      λ h vs w p q. all_found (λ r. r.now) vs vs _ (pushed (λ r. r.now) ws vs w _ [] _ p q (ap (λ us. map (λ r. r.now) ws ++ us) (sym (last_word l.start l.i line e h)) ∙ l.invariant.1)),
    )
