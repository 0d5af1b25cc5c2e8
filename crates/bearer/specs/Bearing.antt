-- What a receiver makes of a line.
use Rattle.std.specs.Prelude.{◌≡◌}
use Rattle.wire.specs.Receiving.{Receiving, Outcome, run}
use Rattle.bearer.specs.Lines.{Line, with_waiting}

-- the receiver has gone over the waiting bytes up to the first fault or good frame; what is left waits, and nothing else of the line has changed
pub record Heard (before : Line) (was : Receiving) (after : Line) (now : Receiving) (o : Outcome) : Type 0 where
  pub ran : run was before.waiting ≡ record { receiver = now; outcome = o; left = after.waiting }
  pub kept : after ≡ with_waiting after.waiting before
