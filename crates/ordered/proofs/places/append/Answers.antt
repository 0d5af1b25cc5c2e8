use Rattle.std.proofs.Common.{◌≡◌, ℕ, length, get_or, take, set, Err, refl, ap, ◌∙◌, subst, arith}
use Rattle.std.proofs.lemmas.List.{get_or-set_same, get_or-set_other, length-set, length-take}
use Rattle.ordered.specs.Ranks.{Located}
use Rattle.ordered.proofs.Tabling.{put_between}
use Rattle.ordered.proofs.places.append.Goals as goal

pub returns : goal.returns
returns g c =
    let ps = c.args.places.now in
    let held = c.args.held in
    let r = c.args.item in
    let p = g.R.Keyed.place in
    let s = c.requires in
    let after = c.replace.new.places in
    let l = rw c.key.ensures at c.if-not-is_above.ensures in
    let n : length (take held ps) ≡ held = omega (arith, s.fits, length-take held ps) in
    let at : Located p (p r) (take held ps) (Err held) = subst (λ (m : ℕ). Located p (p r) (take held ps) (Err m)) n (l s.rising refl) in
    let same : after ≡ set ps held r = c.replace.ensures in
    put_between p r c.args.limit held ps s held after at
    (omega (arith, c.if-held-min.false, c.min.ensures))
    (ap length same ∙ length-set ps held r)
    (λ k d a. ap (λ zs. get_or zs k d) same ∙ get_or-set_other ps held k r d (λ z. omega arith))
    (λ d. ap (λ zs. get_or zs held d) same ∙ get_or-set_same ps held r d (omega (arith, c.if-held-min.false, c.min.ensures)))
    (λ k d a b. absurd (omega arith))
    (λ k d a. ap (λ zs. get_or zs k d) same ∙ get_or-set_other ps held k r d (λ z. omega arith))
