use Rattle.std.proofs.Common.{[], vec_items, sym, ap, ◌∙◌}
use Rattle.std.specs.Option.{option_map}
use Rattle.tokens.proofs.Pairing.{bytes_bad, bytes_more}
use Rattle.tokens.proofs.bytes.push_words.Goals as goal

pub returns-in_default : goal.returns-in_default
returns-in_default c =
    let e = ap (option_map (λ _. vec_items c.push_pairs.new.bytes)) (sym c.in_default.is) ∙ c.in_ok-push_pairs.ensures in
    bytes_bad (λ w. w.now) c.args.words.now c.loop-word.word-index (record { ref_ptr = (0, 0); now = [] }) (vec_items c.loop-word.bytes) _ c.loop-word.invariant c.loop-word-test.true e

pub loop-word-preserved : goal.loop-word-preserved
loop-word-preserved c =
    let e = ap (option_map (λ _. vec_items c.push_pairs.new.bytes)) (sym c.in-Some.is) ∙ c.in_ok-push_pairs.ensures in
    bytes_more (λ w. w.now) c.args.words.now c.loop-word.word-index (record { ref_ptr = (0, 0); now = [] }) (vec_items c.loop-word.bytes) _ c.loop-word.invariant c.loop-word-test.true (vec_items c.push_pairs.new.bytes) e
