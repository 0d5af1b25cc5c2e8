-- The ping, heard.
use Rattle.std.proofs.Common.{◌≡◌, ℕ, List, Some, None, Ok, Err, Option, Result, sym, refl, ap, ◌∙◌, arith}
use Rattle.wire.specs.Crc.{crc_from, eight_shifts}
use Rattle.wire.specs.Receiving.{Receiving, hunting, good, run}
use Rattle.wire.specs.Receivers.{outcome}
use Rattle.wire.specs.declared.fault.Fault.{Fault}
use Rattle.bearer.specs.Lines.{Line}
use Rattle.bearer.specs.Bearing.{Heard}
use Rattle.heard.specs.Examples.{body, ping}

ping_runs : (run hunting ping).outcome ≡ good body
unfolding crc_from eight_shifts
ping_runs = refl

only_good : (r : Option (Result (Unit {0}) Fault)) (h b : List ℕ) → outcome r h ≡ good b → r ≡ Some (Ok tt)
only_good None h b e = let z : ◌≡◌ {A = ℕ} 0 1 = cc in absurd (omega arith)
only_good (Some (Err f)) h b e = let z : ◌≡◌ {A = ℕ} 0 1 = cc in absurd (omega arith)
only_good (Some (Ok ended)) h b e = refl

-- a receiver that hunts, on a line where the ping waits
pub hears : (line after : Line) (was then : Receiving) (r : Option (Result (Unit {0}) Fault)) (h : List ℕ) → line.waiting ≡ ping → was ≡ hunting → Heard line was after then (outcome r h) → r ≡ Some (Ok tt)
hears line after was then r h e w heard =
    only_good r h body (ap (λ x. x.outcome) (sym heard.ran) ∙ ((λ i. (run (w i) (e i)).outcome) ∙ ping_runs))
