-- The values of parameters.
use Rattle.std.specs.Prelude.{◌≡◌, ℕ, ◌⊎◌, Bool, true, ◌||◌, ◌==◌}
use Rattle.numbering.specs.declared.parameter.Parameter.{Parameter}
use Rattle.numbering.specs.declared.parameter.Parameter.TheVariants.{AnswerDelay, RelayDelay, ConnectionTime, UnlockTime, Temperature, InputMode}

-- the values that a parameter takes: the mode of the inputs is 0 or 0x000F, any other takes every value
abbrev pub Allowed : Parameter → ℕ → Type 0
Allowed AnswerDelay v = Unit {0}
Allowed RelayDelay v = Unit {0}
Allowed ConnectionTime v = Unit {0}
Allowed UnlockTime v = Unit {0}
Allowed Temperature v = Unit {0}
Allowed InputMode v = (v ≡ 0) ⊎ (v ≡ 0x000F)

-- the same as a test
abbrev pub allowed : Parameter → ℕ → Bool
allowed AnswerDelay v = true
allowed RelayDelay v = true
allowed ConnectionTime v = true
allowed UnlockTime v = true
allowed Temperature v = true
allowed InputMode v = v == 0 || v == 0x000F
