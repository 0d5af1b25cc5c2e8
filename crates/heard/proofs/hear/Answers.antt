use Rattle.heard.proofs.Hearing.{hears}
use Rattle.heard.proofs.hear.Goals as goal

pub returns : goal.returns
returns g c = hears _ _ _ _ _ _ c.requires c.new-receiver.ensures c.listen.ensures.heard
