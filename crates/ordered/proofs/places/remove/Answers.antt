use Rattle.std.proofs.Common.{◌≡◌, ℕ, ◌<◌, length, sym, ap, ◌∙◌, subst, arith}
use Rattle.ordered.specs.Ranks.{within}
use Rattle.ordered.proofs.Tabling.{Turn, passed, moved, kept}
use Rattle.ordered.proofs.places.remove.Goals as goal
use Rattle.ordered.proofs.places.remove.Goals.{then-not-is_within, else-not-is_within}

pub loop-i-preserved : goal.loop-i-preserved
loop-i-preserved g c =
    let ps = c.args.places.now in
    let l = c.loop-i in
    let x = c.index-places-i.result in
    let p = g.R.Keyed.place in
    let f = g.R.Id.Key.rank c.args.first.now in
    let t = g.R.Id.Key.rank c.args.last.now in
    let w : c.is_within.result ≡ within f t (p x) = c.is_within.ensures ∙ ap (within f t) c.key.ensures in
    let h : l.i < length ps = omega (arith, c.requires) in
    elim c.if-not-is_within.branch [
      | then-not-is_within v ↦ rw (v.left-is, v.places-is) (moved p f t ps l.i l.left l.places x l.invariant h c.index-places-i.is (sym w ∙ v.if-not-is_within.true))
      | else-not-is_within v ↦ rw (v.left-is, v.places-is) (passed p f t ps l.i l.left l.places x l.invariant h c.index-places-i.is (sym w ∙ v.if-not-is_within.false))
    ]

pub returns : goal.returns
returns g c =
    let l = c.loop-i in
    let m : l.i ≡ c.args.held = omega arith in
    kept g.R.Keyed.place (g.R.Id.Key.rank c.args.first.now) (g.R.Id.Key.rank c.args.last.now) c.args.places.now c.args.held l.left l.places (subst (λ (i : ℕ). Turn g.R.Keyed.place (g.R.Id.Key.rank c.args.first.now) (g.R.Id.Key.rank c.args.last.now) c.args.places.now i l.left l.places) m l.invariant)
