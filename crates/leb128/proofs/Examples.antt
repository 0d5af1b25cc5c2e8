-- The rules on a few spellings, computed.
use Rattle.std.proofs.Common.{◌≡◌, [], ◌∷◌, refl}
use Rattle.leb128.specs.declared.cause.Cause.TheVariants.{Ended, LongSpelling, TooLarge}
use Rattle.leb128.specs.Numbers.{number_form, number_read}
use Rattle.leb128.specs.Reads.{got, bad}

written :
    (number_form 127 ≡ 0x7F ∷ [])
    × (number_form 128 ≡ 0x80 ∷ 0x01 ∷ [])
    × (number_form 0xFFFF_FFFF ≡ 0xFF ∷ 0xFF ∷ 0xFF ∷ 0xFF ∷ 0x0F ∷ [])
unfolding number_form
written = (refl, refl, refl)

read :
    (number_read (0x80 ∷ 0x01 ∷ 0x05 ∷ []) ≡ got 128 (0x05 ∷ []))
    × (number_read (0xFF ∷ 0xFF ∷ 0xFF ∷ 0xFF ∷ 0x0F ∷ []) ≡ got 0xFFFF_FFFF [])
    × (number_read (0x80 ∷ []) ≡ bad Ended)
    × (number_read (0x80 ∷ 0x00 ∷ []) ≡ bad LongSpelling)
    × (number_read (0x80 ∷ 0x80 ∷ 0x80 ∷ 0x80 ∷ 0x00 ∷ []) ≡ bad LongSpelling)
    × (number_read (0xFF ∷ 0xFF ∷ 0xFF ∷ 0xFF ∷ 0x10 ∷ []) ≡ bad TooLarge)
    × (number_read (0x80 ∷ 0x80 ∷ 0x80 ∷ 0x80 ∷ 0x80 ∷ []) ≡ bad TooLarge)
unfolding number_form number_read
read = (refl, refl, refl, refl, refl, refl, refl)
