-- the table is what the rule gives at each byte, by computing it
use Rattle.std.proofs.Common.{get_or, map, ap, ◌∙◌, zero-add, rules}
use Rattle.std.specs.List.{range_with_len}
use Rattle.std.proofs.lemmas.List.FromFn.{get_or-map-range_with_len}
use lib.Bits.{xor_lt}
use Rattle.wire.specs.Crc.{eight_shifts}
use Rattle.wire.proofs.crc.crc_step.Goals as goal

pub returns : goal.returns
unfolding eight_shifts
returns c =
    let h = xor_lt 8 c.args.crc c.args.byte (search rules) (search rules) in
    ap (λ k. get_or (map eight_shifts (range_with_len 0 256)) k 0) c.from.ensures ∙ get_or-map-range_with_len eight_shifts 0 256 _ _ 0 h (zero-add _)
