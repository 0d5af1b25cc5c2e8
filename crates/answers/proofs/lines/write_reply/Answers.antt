use Rattle.std.proofs.Common.{◌≡◌, [], ◌∷◌, ◌++◌, OnOk, string_bytes, refl, rules}
use Rattle.std.proofs.lemmas.Result.{on_ok_weaker}
use Rattle.text.proofs.Printing.{then_more}
use Rattle.answers.proofs.lines.write_reply.Goals as goal

pub returns : goal.returns
returns c =
    let a = c.in_ok-write_answer.ensures in
    let p : OnOk c.push_str.result (string_bytes c.push_str.new.self ≡ string_bytes c.write_answer.new.out ++ 10 ∷ []) = search rules in
    on_ok_weaker c.push_str.result (λ e. (a.0 ++ 10 ∷ [], (a.0, a.1, refl), then_more (string_bytes c.args.out.now) _ _ a.0 _ a.2 e)) p
