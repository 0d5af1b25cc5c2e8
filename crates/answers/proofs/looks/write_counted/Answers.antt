use Rattle.std.proofs.Common.{string_bytes}
use Rattle.text.proofs.Printing.{then_more}
use Rattle.answers.specs.Spoken.{counted}
use Rattle.answers.proofs.looks.write_counted.Goals as goal

pub returns : goal.returns
unfolding counted
returns c = then_more (string_bytes c.args.out.now) _ _ _ _ c.in_ok-push_str.ensures.bytes c.in_ok-write_numbers.ensures
