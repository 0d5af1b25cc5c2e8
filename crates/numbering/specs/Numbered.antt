-- The number that stands in a frame for each command, counter, string, parameter, relay and position.
use Rattle.std.specs.Prelude.{◌≡◌, ℕ, Ok, Err, Result}
use Rattle.numbering.specs.declared.number.UnknownNumber.{UnknownNumber}
use Rattle.numbering.specs.declared.command.Command.{Command}
use Rattle.numbering.specs.declared.command.Command.TheVariants as command
use Rattle.numbering.specs.declared.energy.Energy.{Energy}
use Rattle.numbering.specs.declared.energy.Energy.TheVariants.{ActiveForward, ActiveReverse, ReactiveForward, ReactiveReverse, ActiveAbsolute, ReactiveAbsolute, ReactiveR1, ReactiveR2, ReactiveR3, ReactiveR4}
use Rattle.numbering.specs.declared.text_field.TextField.{TextField}
use Rattle.numbering.specs.declared.text_field.TextField.TheVariants.{Account, Settlement, Street, House, Flat, Subscriber, BillingId, Input1, Input2, Input3, Input4}
use Rattle.numbering.specs.declared.parameter.Parameter.{Parameter}
use Rattle.numbering.specs.declared.parameter.Parameter.TheVariants.{AnswerDelay, RelayDelay, ConnectionTime, UnlockTime, Temperature, InputMode}
use Rattle.numbering.specs.declared.relay.Relay.{Relay}
use Rattle.numbering.specs.declared.relay.Relay.TheVariants.{R0, R1, R2, R3, R4, R5, R6, R7, R8}
use Rattle.numbering.specs.declared.position.Position.{Position}
use Rattle.numbering.specs.declared.position.Position.TheVariants.{Close, Open}

abbrev pub command_number : Command → ℕ
command_number command.Ping = 0x01
command_number command.Counters = 0x05
command_number command.Strings = 0x07
command_number command.Parameters = 0x37
command_number command.Relay = 0x3A

abbrev pub energy_number : Energy → ℕ
energy_number ActiveForward = 0
energy_number ActiveReverse = 1
energy_number ReactiveForward = 2
energy_number ReactiveReverse = 3
energy_number ActiveAbsolute = 4
energy_number ReactiveAbsolute = 5
energy_number ReactiveR1 = 6
energy_number ReactiveR2 = 7
energy_number ReactiveR3 = 8
energy_number ReactiveR4 = 9

abbrev pub field_number : TextField → ℕ
field_number Account = 1
field_number Settlement = 2
field_number Street = 3
field_number House = 4
field_number Flat = 5
field_number Subscriber = 6
field_number BillingId = 7
field_number Input1 = 0x10
field_number Input2 = 0x11
field_number Input3 = 0x12
field_number Input4 = 0x13

abbrev pub parameter_number : Parameter → ℕ
parameter_number AnswerDelay = 0
parameter_number RelayDelay = 1
parameter_number ConnectionTime = 2
parameter_number UnlockTime = 3
parameter_number Temperature = 4
parameter_number InputMode = 0x10

abbrev pub relay_number : Relay → ℕ
relay_number R0 = 0
relay_number R1 = 1
relay_number R2 = 2
relay_number R3 = 3
relay_number R4 = 4
relay_number R5 = 5
relay_number R6 = 6
relay_number R7 = 7
relay_number R8 = 8

abbrev pub position_number : Position → ℕ
position_number Close = 0
position_number Open = 1

-- `Ok x` only for an x with this number, and `Err` only with a number that none has
abbrev pub Decodes : {X : Type 0} → (X → ℕ) → ℕ → Result X UnknownNumber → Type 0
Decodes number n (Ok x) = number x ≡ n
Decodes number n (Err e) = (e.0 ≡ n) × ((x : _) → number x ≡ n → ⊥)
