-- Worked examples of numbers and books, each an equation between a definition's value and what is to come of it.
use Rattle.std.specs.Prelude.{◌≡◌, List, [], ◌∷◌, Some, None}
use Rattle.leb128.specs.declared.cause.Cause.TheVariants.{LongSpelling, TooLarge, NoStanding}
use Rattle.leb128.specs.Causes.{cause_number}
use Rattle.leb128.specs.Numbers.{number_form, number_read}
use Rattle.leb128.specs.Reads.{got, bad}
use Rattle.numbering.specs.declared.parameter.Parameter.TheVariants.{Temperature}
use Rattle.protocol.specs.declared.record.Record.TheVariants as record_of
use Rattle.book.specs.declared.refusal.ReadRefusal.TheVariants.{Broken}
use Rattle.book.specs.Entries.{Entry, book_of}
use Rattle.book.specs.Judging.{granted, refused, judged, read_number}

-- the meters at addresses 5 and 300, without standings
abbrev pub two_meters : List Entry
two_meters = record { address = 5; standing = None; filed = [] } ∷ record { address = 300; standing = None; filed = [] } ∷ []

-- the meter at address 5, with the standing 60 00 00, and the temperature at 21
abbrev pub warm_meter : List Entry
warm_meter =
    record { address = 5; standing = Some (record { first = 0x60; second = 0; third = 0 }); filed = record_of.Parameter Temperature 21 ∷ [] } ∷ []

pub record SavedExamples : Type 0 where
  pub one_byte : number_form 127 ≡ 0x7F ∷ []
  pub two_bytes : number_form 128 ≡ 0x80 ∷ 0x01 ∷ []
  pub long_spelling : (number_read (0x80 ∷ 0x00 ∷ []) ≡ bad LongSpelling) × (cause_number LongSpelling ≡ 52)
  pub largest : number_read (0xFF ∷ 0xFF ∷ 0xFF ∷ 0xFF ∷ 0x0F ∷ []) ≡ got 4294967295 []
  pub too_large : (number_read (0xFF ∷ 0xFF ∷ 0xFF ∷ 0xFF ∷ 0x10 ∷ []) ≡ bad TooLarge) × (cause_number TooLarge ≡ 52)
  pub empty_book : book_of [] ≡ 0x00 ∷ []
  pub bare_book : book_of two_meters ≡ 0x02 ∷ 0x05 ∷ 0x00 ∷ 0x00 ∷ 0xA7 ∷ 0x02 ∷ 0x00 ∷ 0x00 ∷ []
  pub bare_book_read : judged 128 1024 (0x02 ∷ 0x05 ∷ 0x00 ∷ 0x00 ∷ 0xA7 ∷ 0x02 ∷ 0x00 ∷ 0x00 ∷ []) ≡ granted two_meters
  pub warm_book : book_of warm_meter ≡ 0x01 ∷ 0x05 ∷ 0x01 ∷ 0x60 ∷ 0x00 ∷ 0x00 ∷ 0x01 ∷ 0x1B ∷ 0x15 ∷ []
  pub warm_book_read : judged 128 1024 (0x01 ∷ 0x05 ∷ 0x01 ∷ 0x60 ∷ 0x00 ∷ 0x00 ∷ 0x01 ∷ 0x1B ∷ 0x15 ∷ []) ≡ granted warm_meter
  pub without_standing :
      (judged 128 1024 (0x01 ∷ 0x05 ∷ 0x00 ∷ 0x01 ∷ 0x1B ∷ 0x15 ∷ []) ≡ refused (Broken NoStanding)) × (read_number (Broken NoStanding) ≡ 53)
