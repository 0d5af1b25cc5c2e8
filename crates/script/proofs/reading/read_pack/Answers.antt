use Rattle.std.proofs.Common.{◌≡◌, Some, None, vec_items, refl, ap, ◌∙◌, rules}
use Rattle.std.specs.Option.{option_map}
use Rattle.script.specs.Grammar.{said, commanded, pack}
use Rattle.script.specs.Shown.{answered, head_shown}
use Rattle.script.proofs.Parsing.{too_few, by_split, tied}
use Rattle.script.proofs.reading.read_pack.Goals as goal

pub returns-in_default : goal.returns-in_default
returns-in_default c = ap (λ o. commanded (option_map (said pack.keyword) o)) (too_few pack.arguments pack.bytes c.args.args.now c.in_default.ensures.cases)

pub returns-in_default-read_head : goal.returns-in_default-read_head
returns-in_default-read_head c =
    let s = c.in-Some.ensures.cases in
    ap (λ o. commanded (option_map (said pack.keyword) o)) (by_split pack.arguments c.args.args.now c.in-Some.head.now _ None _ s.0 s.1 refl c.in_default-read_head.ensures refl)

pub returns : goal.returns
returns c =
    let s = c.in-Some.ensures.cases in
    let p : answered c.map.result ≡ commanded (option_map (said pack.keyword) (tied (Some (head_shown c.in-Some-read_head.head)) (option_map vec_items c.in_ok-read_bytes.field-0))) = search rules in
    p ∙ ap (λ o. commanded (option_map (said pack.keyword) o)) (by_split pack.arguments c.args.args.now c.in-Some.head.now c.in-Some.data.now (Some (head_shown c.in-Some-read_head.head)) (option_map vec_items c.in_ok-read_bytes.field-0) s.0 s.1 s.2 c.in-Some-read_head.ensures c.in_ok-read_bytes.ensures)
