-- Records: what each says, when it is lawful, and the data of the answer that said it.
use Rattle.std.specs.Prelude.{ℕ, ◌^◌, ◌<◌, List, ◌∷◌}
use Rattle.protocol.specs.declared.record.Record.{Record}
use Rattle.protocol.specs.declared.record.Record.TheVariants.{Ping, Counter, Text, Parameter}
use Rattle.asking.specs.declared.selector.Selector.{Selector}
use Rattle.asking.specs.declared.selector.Selector.TheVariants as selector
use Rattle.protocol.specs.Bytes.{low_first}
use Rattle.protocol.specs.Counting.{counters_bytes, Fit}
use Rattle.numbering.specs.Numbered.{energy_number, field_number, parameter_number}
use Rattle.numbering.specs.Parameters.{Allowed}
use Rattle.protocol.specs.Text.{IsText}

-- the selector whose answer it is
abbrev pub selector_of : Record → Selector
selector_of (Ping v i) = selector.Ping
selector_of (Counter e c) = selector.Counter e
selector_of (Text f t) = selector.Text f
selector_of (Parameter p v) = selector.Parameter p

-- the data of the answer that said it, from a meter at the address a; a ping's answer ends in that address
abbrev pub data_of : ℕ → Record → List ℕ
data_of a (Ping v i) = v ∷ i ∷ low_first 2 a
data_of a (Counter e c) = energy_number e ∷ counters_bytes c
data_of a (Text f t) = field_number f ∷ t
data_of a (Parameter p v) = parameter_number p ∷ low_first 2 v

-- every number fits its bytes, text is characters and then zeros, and a parameter has a value that it takes
abbrev pub Lawful : Record → Type 0
Lawful (Ping v i) = (v < 2 ^ 8) × (i < 2 ^ 8)
Lawful (Counter e c) = Fit c
Lawful (Text f t) = IsText t
Lawful (Parameter p v) = (v < 2 ^ 16) × Allowed p v
