use Rattle.std.proofs.Common.{◌≡◌, ◌≤◌, ◌++◌, length, take, drop}
use Rattle.wire.specs.Framing.{stuffed}
use Rattle.wire.proofs.frame.stuff.Given as goal

-- what is written, and what is left stuffed behind it, is the whole
abbrev pub invariant-loop-byte : goal.invariant-loop-byte
invariant-loop-byte l =
    (l.at ≤ length l.out) × (take l.at l.out ++ stuffed (drop l.byte-index l.bytes) ≡ stuffed l.bytes)
