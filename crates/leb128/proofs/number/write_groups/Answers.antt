use Rattle.std.proofs.Common.{refl, arith}
use Rattle.leb128.specs.Numbers.{number_form}
use Rattle.leb128.proofs.Sizing.{groups_some}
use Rattle.leb128.proofs.Writing.{write_more, write_last}
use Rattle.leb128.proofs.number.write_groups.Goals as goal

pub loop-left-init : goal.loop-left-init
unfolding number_form
loop-left-init c = (4, (omega arith, refl, refl, refl))

pub bounds-out-end : goal.bounds-out-end
bounds-out-end c = omega (arith, c.loop-left.invariant.1.1, groups_some c.loop-left.invariant.0 c.loop-left.left)

pub loop-left-preserved : goal.loop-left-preserved
loop-left-preserved c =
    let l = c.loop-left in
    write_more l.invariant.0 l.left l.end c.args.at c.args.n c.args.out.now l.out l.invariant.1 (omega arith) (omega (arith, l.invariant.1.1, groups_some l.invariant.0 l.left))

pub bounds-out-end-2 : goal.bounds-out-end-2
bounds-out-end-2 c = omega (arith, c.loop-left.invariant.1.1, groups_some c.loop-left.invariant.0 c.loop-left.left)

pub returns : goal.returns
returns c =
    let l = c.loop-left in
    write_last l.invariant.0 l.left l.end c.args.at c.args.n c.args.out.now l.out l.invariant.1 (omega arith) (omega (arith, l.invariant.1.1, groups_some l.invariant.0 l.left))
