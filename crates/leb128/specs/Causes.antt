-- The number of each cause.
use Rattle.std.specs.Prelude.{ℕ}
use Rattle.leb128.specs.declared.cause.Cause.{Cause}
use Rattle.leb128.specs.declared.cause.Cause.TheVariants.{Ended, LongSpelling, TooLarge, ZeroStep, HighAddress, BadValue, ManyMeters, ManyRecords, NoStanding}

-- 51 for bytes that end too early, 52 for a number that is not spelled as it should be, 53 for a breach of any other rule
abbrev pub cause_number : Cause → ℕ
cause_number Ended = 51
cause_number LongSpelling = 52
cause_number TooLarge = 52
cause_number ZeroStep = 53
cause_number HighAddress = 53
cause_number BadValue = 53
cause_number ManyMeters = 53
cause_number ManyRecords = 53
cause_number NoStanding = 53
