use Rattle.std.proofs.Common.{◌≡◌, ◌+◌, ◌*◌, ◌≤◌, length, drop}
use Rattle.wire.specs.Framing.{stuffed}
use Rattle.wire.proofs.frame.stuffed_length.Given as goal

abbrev pub invariant-loop-byte : goal.invariant-loop-byte
invariant-loop-byte l =
    (l.length ≤ 2 * l.byte-index) × (l.length + length (stuffed (drop l.byte-index l.bytes)) ≡ length (stuffed l.bytes))
