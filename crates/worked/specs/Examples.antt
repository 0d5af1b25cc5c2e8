-- Worked examples, each an equation between a definition's value and the bytes that are to come of it.
use Rattle.std.specs.Prelude.{◌≡◌, true, [], ◌∷◌}
use Rattle.wire.specs.Bodies.{Content}
use Rattle.wire.specs.Crc.{crc_of}
use Rattle.wire.specs.Framing.{stuffed, frame_of, unpacked, refused}
use Rattle.wire.specs.Receiving.{hunting, inside, nothing, run}

-- Ping, asked of the meter at address 5 by the post, with the password 0
abbrev pub ping_to_five : Content
ping_to_five =
    record { request = true; destination = 5; source = 0xFFFF; command = 0x01; four = 0 ∷ 0 ∷ 0 ∷ 0 ∷ []; payload = [] }

pub record Examples : Type 0 where
  pub crc_of_nothing : crc_of [] ≡ 0x00
  pub crc_of_one : crc_of (0x01 ∷ []) ≡ 0xA9
  pub crc_of_two : crc_of (0x02 ∷ []) ≡ 0xFB
  pub stuffing : stuffed (0x55 ∷ 0x73 ∷ 0x11 ∷ []) ≡ 0x73 ∷ 0x11 ∷ 0x73 ∷ 0x22 ∷ 0x11 ∷ []
  pub ping :
      frame_of ping_to_five
      ≡ 0x73 ∷ 0x55 ∷ 0x20 ∷ 0x00 ∷ 0x05 ∷ 0x00 ∷ 0xFF ∷ 0xFF ∷ 0x01 ∷ 0x00 ∷ 0x00 ∷ 0x00 ∷ 0x00 ∷ 0xCA ∷ 0x55 ∷ []
  pub wrong_crc :
      unpacked 43 (0x73 ∷ 0x55 ∷ 0x20 ∷ 0x00 ∷ 0x05 ∷ 0x00 ∷ 0xFF ∷ 0xFF ∷ 0x01 ∷ 0x00 ∷ 0x00 ∷ 0x00 ∷ 0x00 ∷ 0xCB ∷ 0x55 ∷ []) ≡ refused 35
  pub marked_twice : run hunting (0x73 ∷ 0x73 ∷ 0x55 ∷ []) ≡ record { receiver = inside []; outcome = nothing; left = [] }
