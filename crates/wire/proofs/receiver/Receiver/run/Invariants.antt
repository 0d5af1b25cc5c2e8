use Rattle.std.proofs.Common.{◌≡◌, drop}
use Rattle.wire.specs.Receiving.{run}
use Rattle.wire.specs.Receivers.{shows}
use Rattle.wire.proofs.receiver.Receiver.run.Given as goal

-- what is left is run from where the receiver stands
abbrev pub invariant-loop-i : goal.invariant-loop-i
invariant-loop-i l = run (shows l.self) (drop l.i l.bytes) ≡ run (shows l.initial.self) l.bytes
