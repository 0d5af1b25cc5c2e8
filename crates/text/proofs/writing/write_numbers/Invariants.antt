use Rattle.std.proofs.Common.{◌≡◌, ◌++◌, take, string_bytes}
use Rattle.text.specs.Answers.{trailing_numbers}
use Rattle.text.proofs.writing.write_numbers.Given as goal

abbrev pub invariant-loop-number : goal.invariant-loop-number
invariant-loop-number x = string_bytes x.out ≡ string_bytes x.initial.out ++ trailing_numbers (take x.number-index x.numbers)
