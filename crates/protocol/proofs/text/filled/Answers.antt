use Rattle.std.proofs.Common.{ℕ, ◌++◌, length, drop, replicate, ap, ◌∙◌, arith}
use Rattle.std.proofs.lemmas.List.{drop-replicate}
use Rattle.protocol.proofs.text.filled.Goals as goal

pub returns : goal.returns
returns c =
    let text = c.args.text.now in
    (omega arith, ap (λ zs. zs ++ drop (length text) (replicate {A = ℕ} 30 0)) c.copy_from_slice.ensures.after ∙ ap (λ zs. text ++ zs) (drop-replicate (length text) 30 0))
