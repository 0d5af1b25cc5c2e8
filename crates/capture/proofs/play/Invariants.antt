use Rattle.std.proofs.Common.{length}
use Rattle.capture.proofs.play.Given as goal

abbrev pub decreases-loop-event : goal.decreases-loop-event
decreases-loop-event g l = length (g.B.Bearer.state l.bearer).waiting
