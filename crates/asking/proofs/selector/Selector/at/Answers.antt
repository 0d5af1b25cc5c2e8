use Rattle.asking.proofs.Slotting.{slots_all}
use Rattle.asking.proofs.selector.Selector.at.Goals as goal

pub returns-clause-all : goal.returns-clause-all
returns-clause-all c = slots_all c.args.slot c.find.result c.find.ensures
