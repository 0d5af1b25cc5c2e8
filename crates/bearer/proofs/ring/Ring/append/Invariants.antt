use Rattle.std.proofs.Common.{◌≡◌, ◌++◌, take}
use Rattle.bearer.specs.Held.{held}
use Rattle.bearer.proofs.ring.Ring.append.Given as goal

abbrev pub invariant-loop-byte : goal.invariant-loop-byte
invariant-loop-byte l = held l.self.places l.self.head l.self.count ≡ held l.initial.self.places l.initial.self.head l.initial.self.count ++ take l.byte-index l.bytes
