use Rattle.std.proofs.Common.{◌≡◌, true, false, rules}
use Rattle.std.proofs.lemmas.Iterator.{YieldsList-from_slice, cases_from_all}
use Rattle.tokens.specs.Names.{letter}
use Rattle.tokens.proofs.Naming.{all_are, some_is_not, no_name, some_name}
use Rattle.tokens.proofs.names.padded.Goals as goal
use borrow.Author.Tests.{tests}

pub returns-then-not-all : goal.returns-then-not-all
returns-then-not-all c =
    let w = c.args.word.now in
    let h = cases_from_all _ _ _ (λ b. letter b ≡ true) (λ b. letter b ≡ false) c.all.ensures.ran (YieldsList-from_slice w cc) (λ x q k. search (rules, tests)) (λ x q k. search (rules, tests)) in
    let g = rw c.if-not-all.true at h in
    no_name w (some_is_not w g.0 g.1 g.2)

pub returns : goal.returns
returns c =
    let w = c.args.word.now in
    let h = cases_from_all _ _ _ (λ b. letter b ≡ true) (λ b. letter b ≡ false) c.all.ensures.ran (YieldsList-from_slice w cc) (λ x q k. search (rules, tests)) (λ x q k. search (rules, tests)) in
    let g = rw c.if-not-all.false at h in
    some_name w c.copy_from_slice.new.self (all_are w g) c.copy_from_slice.ensures.after
