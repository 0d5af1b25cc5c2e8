use Rattle.std.proofs.Common.{[], ◌∷◌, string_bytes, ap, ◌∙◌}
use Rattle.text.proofs.Printing.{two_pushed}
use Rattle.text.proofs.writing.write_pair.Goals as goal

pub returns : goal.returns
returns c =
    let p = c.in_ok-push.ensures in
    let q = c.in_ok-push-2.ensures in
    let d = c.hex_digit.ensures in
    let e = c.hex_digit-2.ensures in
    two_pushed (string_bytes c.args.out.now) _ _ _ _ _ _ p.bytes (p.ascii d.ascii ∙ ap (λ x. x ∷ []) d.digit) q.bytes (q.ascii e.ascii ∙ ap (λ x. x ∷ []) e.digit)
