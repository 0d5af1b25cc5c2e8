use Rattle.std.proofs.Common.{◌≡◌, ◌-◌, length, get_or, sym, ap, ◌∙◌, arith}
use Rattle.std.proofs.lemmas.Option.{get_or_from_slice_get}
use Rattle.ordered.proofs.Ordering.{above_all, below_of}
use Rattle.ordered.proofs.places.is_above.Goals as goal

pub returns : goal.returns
returns g c =
    let xs = c.args.records.now in
    let p = g.R.Keyed.place in
    let x = c.in-Some.last.now in
    λ h q. (
      omega arith,
      above_all p (g.R.Id.Key.rank c.args.key.now) 0 xs h (λ n d e.
          let at : n ≡ length xs - 1 = omega arith in
          let here : get_or xs n d ≡ x = ap (λ i. get_or xs i d) at ∙ get_or_from_slice_get xs (length xs - 1) x d (sym c.in-Some.ensures.value) in
          let below = below_of _ _ _ c.order.result c.order.ensures (sym c.is_lt.ensures ∙ q) in
          omega (arith, ap p here, below, c.key.ensures)),
      λ d l. absurd (omega arith),
    )
