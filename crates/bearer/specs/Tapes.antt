-- A tape as a line, and what stands in its outgoing buffer.
use Rattle.std.specs.Prelude.{◌≡◌, ℕ, ◌+◌, ◌-◌, List, ◌++◌, length, take, drop, Ok, Err, Result}
use Rattle.bearer.specs.Lines.{Line}
use Rattle.bearer.specs.declared.tape.Tape.{Tape}

-- the outgoing buffer
abbrev pub output : Tape → List ℕ
output t = t.out.now

-- the rest of the capture waits, what is written is sent, and the unwritten rest of the buffer is the room
abbrev pub tape_line : Tape → Line
tape_line t =
    record { waiting = drop t.at t.capture.now; sent = take t.written (output t); room = length (output t) - t.written }

-- the bytes stand from place n on; the places before and behind them are as they were
abbrev pub written_at : ℕ → List ℕ → List ℕ → List ℕ
written_at n bytes was = take n was ++ (bytes ++ drop (n + length bytes) was)

-- what a send leaves in the outgoing buffer: the bytes from the first unwritten place on, or everything as it was
abbrev pub Leaves : {E : Type 0} → List ℕ → Tape → Result (Unit {0}) E → Tape → Type 0
Leaves bytes before (Ok done) after = output after ≡ written_at (length (tape_line before).sent) bytes (output before)
Leaves bytes before (Err e) after = output after ≡ output before
