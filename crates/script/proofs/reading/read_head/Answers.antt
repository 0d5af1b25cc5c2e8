use Rattle.std.proofs.Common.{[], ◌∷◌, Some, ap, arith}
use Rattle.std.specs.Option.{option_map}
use Rattle.std.proofs.lemmas.Bool.{ltb-true, ltb-false}
use Rattle.script.specs.Grammar.{num, raw, pack}
use Rattle.script.specs.Shown.{direction_shown}
use Rattle.script.proofs.Parsing.{wrong_count, by_all}
use Rattle.script.proofs.reading.read_head.Goals as goal

pub returns-in_default : goal.returns-in_default
returns-in_default c = (wrong_count pack.arguments c.args.args.now (λ e. omega (arith, ltb-true, ltb-false)))

pub returns-in_default-2 : goal.returns-in_default-2
returns-in_default-2 c = (wrong_count pack.arguments c.args.args.now (λ e. omega (arith, ltb-true, ltb-false)))

pub returns : goal.returns
returns c =
    by_all pack.arguments c.args.args.now (Some (direction_shown c.in_ok-read_direction.field-0) ∷ Some (num c.in_ok-read_short.field-0) ∷ Some (num c.in_ok-read_short-2.field-0) ∷ Some (num c.in_ok-read_byte.field-0) ∷ Some (raw c.in_ok-read_four.field-0) ∷ Some (num c.in_ok-read_short-3.field-0) ∷ []) (omega (arith, ltb-true, ltb-false)) (c.in_ok-read_direction.ensures, (ap (option_map num) c.in_ok-read_short.ensures, (ap (option_map num) c.in_ok-read_short-2.ensures, (ap (option_map num) c.in_ok-read_byte.ensures, (ap (option_map raw) c.in_ok-read_four.ensures, (ap (option_map num) c.in_ok-read_short-3.ensures, tt))))))
