-- A selector's command, its byte and its slot.
use Rattle.std.specs.Prelude.{◌≡◌, ℕ, ◌+◌, ◌-◌, cond, nat_lt}
use Rattle.numbering.specs.declared.command.Command.{Command}
use Rattle.numbering.specs.declared.command.Command.TheVariants as command
use Rattle.asking.specs.declared.selector.Selector.{Selector}
use Rattle.asking.specs.declared.selector.Selector.TheVariants.{Ping, Counter, Text, Parameter}
use Rattle.numbering.specs.Numbered.{energy_number, field_number, parameter_number}

abbrev pub command_of : Selector → Command
command_of Ping = command.Ping
command_of (Counter e) = command.Counters
command_of (Text f) = command.Strings
command_of (Parameter p) = command.Parameters

-- the byte that names the selector among those of its command; a ping has none, and 0 is given for it
abbrev pub byte_of : Selector → ℕ
byte_of Ping = 0
byte_of (Counter e) = energy_number e
byte_of (Text f) = field_number f
byte_of (Parameter p) = parameter_number p

-- the place of n in a numbering that has no number from `low` to 0x0F
abbrev pub rank : ℕ → ℕ → ℕ
rank low n = cond (nat_lt n 0x10) n (n - 0x10 + low)

-- the ping, then the counters, the strings and the parameters, each in the order of their numbers
abbrev pub slot_of : Selector → ℕ
slot_of Ping = 1
slot_of (Counter e) = 2 + energy_number e
slot_of (Text f) = 11 + rank 8 (field_number f)
slot_of (Parameter p) = 23 + rank 5 (parameter_number p)

-- the slots tell the selectors apart
abbrev pub SlotsApart : Type 0
SlotsApart = (x y : Selector) → slot_of x ≡ slot_of y → x ≡ y
