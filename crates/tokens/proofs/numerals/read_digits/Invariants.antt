use Rattle.std.proofs.Common.{◌≡◌, ◌≤◌, drop}
use Rattle.tokens.specs.Numerals.{onward, digits_in}
use Rattle.tokens.proofs.numerals.read_digits.Given as goal

abbrev pub invariant-loop-d : goal.invariant-loop-d
invariant-loop-d l = (l.n ≤ l.most) × (onward l.base l.n (drop l.d-index l.digits) ≡ digits_in l.base l.digits)
