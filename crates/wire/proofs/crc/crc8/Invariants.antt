use Rattle.std.proofs.Common.{◌≡◌, drop}
use Rattle.wire.specs.Crc.{crc_from}
use Rattle.wire.proofs.crc.crc8.Given as goal

-- what is left goes through the register as it stands
abbrev pub invariant-loop-byte : goal.invariant-loop-byte
invariant-loop-byte l = crc_from l.crc (drop l.byte-index l.bytes) ≡ crc_from 0 l.bytes
