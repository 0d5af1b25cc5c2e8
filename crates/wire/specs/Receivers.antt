-- The receiver of the code, as the machine that it is.
use Rattle.std.specs.Prelude.{◌≡◌, ℕ, List, Some, None, Ok, Err, Option, Result}
use Rattle.wire.specs.Faults.{fault_number}
use Rattle.wire.specs.Receiving.{Receiving, Outcome, hunting, marked, inside, escaped, nothing, fault, good}
use Rattle.wire.specs.Framing.{made, refused, unframed}
use Rattle.wire.specs.Refusals.{unpack_number}
use Rattle.wire.specs.Trips.{PacksAgain}
use Rattle.wire.specs.declared.frame.UnpackRefusal.{UnpackRefusal}
use Rattle.wire.specs.declared.receiver.Condition.{Condition}
use Rattle.wire.specs.declared.receiver.Condition.TheVariants.{Hunting, Marked, Inside, Escaped}
use Rattle.wire.specs.declared.fault.Fault.{Fault}
use Rattle.wire.specs.declared.receiver.Receiver.{Receiver}

-- the bytes of the body that a receiver holds
abbrev pub held : Receiver → List ℕ
held r = r.body.items

abbrev pub standing : Condition → List ℕ → Receiving
standing Hunting body = hunting
standing Marked body = marked
standing Inside body = inside body
standing Escaped body = escaped body

abbrev pub shows : Receiver → Receiving
shows r = standing r.condition (held r)

-- what an answer says, where the receiver then holds these bytes: a good frame's body is what it holds
abbrev pub outcome : Option (Result (Unit {0}) Fault) → List ℕ → Outcome
outcome None body = nothing
outcome (Some (Err f)) body = fault (fault_number f)
outcome (Some (Ok ended)) body = good body

-- an input that is one whole good frame is accepted with its body, and then what it says packs again to it
abbrev pub Accepts : List ℕ → Result Receiver UnpackRefusal → Type 0
Accepts input (Ok receiver) = (unframed input ≡ made (held receiver)) × PacksAgain input
Accepts input (Err e) = unframed input ≡ refused (unpack_number e)
