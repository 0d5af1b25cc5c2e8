use Rattle.std.proofs.Common.{◌+◌, ◌≤◌, length}
use Rattle.bearer.specs.Cables.{line_of}
use Rattle.capture.proofs.echo.Given as goal

abbrev pub invariant-loop-fetched : goal.invariant-loop-fetched
invariant-loop-fetched l = l.fetched + length (line_of l.cable).sent ≤ 128

abbrev pub decreases-loop-fetched : goal.decreases-loop-fetched
decreases-loop-fetched l = length (line_of l.cable).sent
