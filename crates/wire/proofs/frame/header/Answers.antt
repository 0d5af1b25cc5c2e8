use Rattle.std.proofs.Common.{◌≡◌, ℕ, ◌/◌, ◌%◌, ◌<◌, ◌++◌, get_or, ap, ◌∙◌, arith, rules}
use Rattle.wire.proofs.Writing.{all_places}
use Rattle.wire.proofs.frame.header.Goals as goal

high : (n : ℕ) → n < 65536 → n / 256 % 256 ≡ n / 256
high n h = omega arith

pub returns : goal.returns
returns c =
    let d0 = ap (λ v. get_or v 0 0) c.to_le_bytes.ensures in
    let d1 = ap (λ v. get_or v 1 0) c.to_le_bytes.ensures ∙ high _ (search rules) in
    let s0 = ap (λ v. get_or v 0 0) c.to_le_bytes-2.ensures in
    let s1 = ap (λ v. get_or v 1 0) c.to_le_bytes-2.ensures ∙ high _ (search rules) in
    let four = ap (λ v. v ++ c.args.fields.now.payload.now) (all_places 4 c.args.fields.now.four (search rules)) in
    cc
