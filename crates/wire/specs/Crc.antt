-- CRC8 with the polynomial 0xA9, bit by bit: start at 0, highest bit first, nothing reflected and nothing added at the end.
use Rattle.std.specs.Prelude.{ℕ, ◌-◌, ◌*◌, cond, List, [], ◌∷◌, bit_xor, nat_lt}

-- the eight-bit register moves up by one bit; where a 1 falls out at the top, the polynomial is added
abbrev pub shift : ℕ → ℕ
shift c = cond (nat_lt c 128) (2 * c) (bit_xor (2 * c - 256) 0xA9)

-- the eight moves that take one byte through the register
unfoldable pub eight_shifts : ℕ → ℕ
eight_shifts c = shift (shift (shift (shift (shift (shift (shift (shift c)))))))

-- the register after the bytes, from a register c: each byte is added to it, then goes through it
unfoldable pub crc_from : ℕ → List ℕ → ℕ
crc_from c [] = c
crc_from c (b ∷ bs) = crc_from (eight_shifts (bit_xor c b)) bs

abbrev pub crc_of : List ℕ → ℕ
crc_of bytes = crc_from 0 bytes
