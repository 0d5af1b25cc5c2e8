use Rattle.std.proofs.Common.{ℕ, ◌^◌, ◌<◌, arith}
use Rattle.leb128.proofs.Grouping.{high_fits, byte_most}
use Rattle.leb128.proofs.number.+read_groups.Goals as goal
use Rattle.leb128.proofs.number.+read_groups.Goals.{After-from-2}

fits : (t : ℕ) (c : After-from-2 t) → c.in_ok-high.high < 2 ^ 25
fits t c =
    high_fits c.args.place c.in_ok-byte.byte _ _ _ c.in_ok-byte.ensures.0 c.if-byte-lt-MORE.false c.in_ok-high.ensures

pub overflow_mul-result : goal.overflow_mul-result
overflow_mul-result t c = omega (arith, fits t c)

pub overflow_add-result : goal.overflow_add-result
overflow_add-result t c = omega (arith, fits t c, byte_most c.args.place c.in_ok-byte.byte c.in_ok-byte.ensures.0)
