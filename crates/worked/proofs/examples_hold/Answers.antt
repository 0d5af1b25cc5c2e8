use Rattle.std.proofs.Common.{refl}
use Rattle.wire.specs.Bodies.{body_of}
use Rattle.wire.specs.Crc.{crc_from, eight_shifts}
use Rattle.wire.specs.Framing.{stuffed, framed}
use Rattle.worked.proofs.examples_hold.Goals as goal

pub returns : goal.returns
unfolding body_of crc_from eight_shifts stuffed framed
returns c =
    record {
      crc_of_nothing = refl;
      crc_of_one = refl;
      crc_of_two = refl;
      stuffing = refl;
      ping = refl;
      wrong_crc = refl;
      marked_twice = refl;
    }
