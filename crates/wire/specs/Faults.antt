-- The number of each fault of a receiver.
use Rattle.std.specs.Prelude.{ℕ}
use Rattle.wire.specs.declared.fault.Fault.{Fault}
use Rattle.wire.specs.declared.fault.Fault.TheVariants.{Escape, Overlong, Short, Length, Crc, Reserved}

abbrev pub fault_number : Fault → ℕ
fault_number Escape = 31
fault_number Overlong = 32
fault_number Short = 33
fault_number Length = 34
fault_number Crc = 35
fault_number Reserved = 36
