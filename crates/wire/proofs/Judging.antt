-- The judgement of a body, case by case and back.
use Rattle.std.proofs.Common.{◌≡◌, ℕ, ◌+◌, ◌<◌, List, length, get_or, arith}
use Rattle.std.proofs.lemmas.Bool.Decides.{nat_tests}
use Rattle.wire.specs.Bodies.{verdict, stated, final, leading}
use Rattle.wire.specs.Crc.{crc_of}

pub record Good (b : List ℕ) : Type 0 where
  pub long : length b ≡ 12 + stated b
  pub summed : final b ≡ crc_of (leading b)
  pub plain : get_or b 0 0 < 64
  pub reserved : get_or b 1 0 ≡ 0

pub verdict_good : (b : List ℕ) → Good b → verdict b ≡ 0
verdict_good b g = let l = g.long in let s = g.summed in let p = g.plain in let r = g.reserved in grind (arith, nat_tests)

pub good : (b : List ℕ) → verdict b ≡ 0 → Good b
good b v =
    record {
      long = grind (arith, nat_tests);
      summed = grind (arith, nat_tests);
      plain = grind (arith, nat_tests);
      reserved = grind (arith, nat_tests);
    }
