use Rattle.std.proofs.Common.{◌-◌}
use Rattle.leb128.proofs.number.+read_groups.Given as goal

abbrev pub decreases-read_groups : goal.decreases-read_groups
decreases-read_groups l = 4 - l.place
