use Rattle.leb128.specs.Laws.{Back, Only}
use Rattle.leb128.proofs.Grouping.{number_back, number_only, spelled}
use Rattle.leb128.proofs.number.read_spelling.Goals as goal

pub returns : goal.returns
unfolding Back Only
returns c = record { spelled = spelled c.args.bytes.now _ c.read_groups.ensures; back = number_back; only = number_only }
