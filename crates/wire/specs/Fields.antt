-- The fields of the code as the content of a frame, and what reading a body answers.
use Rattle.std.specs.Prelude.{◌≡◌, ℕ, Bool, true, false, List, Ok, Err, Result}
use Rattle.wire.specs.Bodies.{Content, Says, verdict}
use Rattle.wire.specs.Faults.{fault_number}
use Rattle.wire.specs.declared.fault.Fault.{Fault}
use Rattle.wire.specs.declared.body.Fields.{Fields}
use Rattle.wire.specs.declared.body.Direction.{Direction}
use Rattle.wire.specs.declared.body.Direction.TheVariants.{Request, Answer}

abbrev pub is_request : Direction → Bool
is_request Request = true
is_request Answer = false

abbrev pub content : Fields → Content
content f =
    record {
      request = is_request f.direction;
      destination = f.destination;
      source = f.source;
      command = f.command;
      four = f.four;
      payload = f.payload.now;
    }

-- what judging answered: 0 for a good body, else the fault's number
abbrev pub judged : Result (Unit {0}) Fault → ℕ
judged (Ok good) = 0
judged (Err fault) = fault_number fault

-- a body is read to what it says exactly when it is good; else the judgement is the fault's number
abbrev pub Reads : List ℕ → Result Fields Fault → Type 0
Reads body (Ok fields) = Says body (content fields)
Reads body (Err fault) = verdict body ≡ fault_number fault
