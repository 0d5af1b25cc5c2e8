use Rattle.std.proofs.Common.{◌≡◌, ◌++◌, take, string_bytes}
use Rattle.text.specs.Answers.{solid_pairs}
use Rattle.text.proofs.writing.write_solid.Given as goal

abbrev pub invariant-loop-byte : goal.invariant-loop-byte
invariant-loop-byte x = string_bytes x.out ≡ string_bytes x.initial.out ++ solid_pairs (take x.byte-index x.bytes)
