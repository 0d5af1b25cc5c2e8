use Rattle.std.proofs.Common.{refl, subst}
use Rattle.protocol.specs.Answers.{Kept}
use Rattle.protocol.specs.Text.{padded}
use Rattle.protocol.proofs.record.filed.Goals as goal

pub returns-in_err-filled-in-Text : goal.returns-in_err-filled-in-Text
returns-in_err-filled-in-Text c =
    rw c.from_residual.ensures
    (λ x k. let h = subst (λ a. Kept a x) c.in-Text.is k in c.in_err-filled-in-Text.ensures (padded c.in-Text.text.now) (h.0, refl))
