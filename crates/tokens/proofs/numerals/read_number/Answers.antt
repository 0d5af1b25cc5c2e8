use Rattle.tokens.specs.Numerals.{up_to}
use Rattle.std.proofs.Common.{sym, ap, ◌∙◌, arith}
use Rattle.std.proofs.lemmas.List.{get_or_past}
use Rattle.std.proofs.lemmas.Bool.{ltb-true}
use Rattle.tokens.proofs.Spelling.{plain_first, plain_second}
use Rattle.tokens.proofs.numerals.read_number.Goals as goal
use Rattle.tokens.proofs.numerals.read_number.Goals.{in_default-via-then-word-lt2, in_default-via-else-word-lt2+in-48+in_default-1, in_default-via-else-word-lt2+in_default-1}

pub returns-in_default : goal.returns-in_default
returns-in_default c =
    elim c.in_default.branch [
      | in_default-via-then-word-lt2 w ↦ c.read_digits-in_default.ensures ∙ ap (up_to c.args.most) (sym (plain_second c.args.word.now (λ e. omega (arith, get_or_past c.args.word.now 1 0 (omega (arith, ltb-true))))))
      | in_default-via-else-word-lt2+in-48+in_default-1 w ↦ c.read_digits-in_default.ensures ∙ ap (up_to c.args.most) (sym (plain_second c.args.word.now (λ e. omega arith)))
      | in_default-via-else-word-lt2+in_default-1 w ↦ c.read_digits-in_default.ensures ∙ ap (up_to c.args.most) (sym (plain_first c.args.word.now (λ e. omega arith)))
    ]
