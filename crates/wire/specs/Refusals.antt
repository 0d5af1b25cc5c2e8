-- The numbers of the refusals of pack and unpack.
use Rattle.std.specs.Prelude.{ℕ}
use Rattle.wire.specs.Faults.{fault_number}
use Rattle.wire.specs.declared.frame.PackRefusal.{PackRefusal}
use Rattle.wire.specs.declared.frame.PackRefusal.TheVariants.{TooMuchData, ShortOfFrame}
use Rattle.wire.specs.declared.frame.UnpackRefusal.{UnpackRefusal}
use Rattle.wire.specs.declared.frame.UnpackRefusal.TheVariants.{ShortOfBody, NoStart, Unfinished, Trailing, Faulty}

abbrev pub pack_number : PackRefusal → ℕ
pack_number TooMuchData = 1
pack_number ShortOfFrame = 2

abbrev pub unpack_number : UnpackRefusal → ℕ
unpack_number ShortOfBody = 3
unpack_number NoStart = 4
unpack_number Unfinished = 5
unpack_number Trailing = 6
unpack_number (Faulty f) = fault_number f
