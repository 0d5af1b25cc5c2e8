use Rattle.std.proofs.Common.{◌≡◌, ◌≤◌, length}
use Rattle.bearer.specs.Lines.{with_waiting}
use Rattle.wire.specs.Receiving.{run}
use Rattle.wire.specs.Receivers.{shows}
use Rattle.bearer.proofs.listen.Given as goal

-- what is left is run from where the receiver stands, and only the waiting bytes change
abbrev pub invariant-loop-byte : goal.invariant-loop-byte
invariant-loop-byte g l =
    record {
      ran : run (shows l.receiver) (g.B.Bearer.state l.bearer).waiting ≡ run (shows l.initial.receiver) (g.B.Bearer.state l.initial.bearer).waiting;
      kept : g.B.Bearer.state l.bearer ≡ with_waiting (g.B.Bearer.state l.bearer).waiting (g.B.Bearer.state l.initial.bearer);
      fewer : length (g.B.Bearer.state l.bearer).waiting ≤ length (g.B.Bearer.state l.initial.bearer).waiting;
    }

abbrev pub decreases-loop-byte : goal.decreases-loop-byte
decreases-loop-byte g l = length (g.B.Bearer.state l.bearer).waiting
