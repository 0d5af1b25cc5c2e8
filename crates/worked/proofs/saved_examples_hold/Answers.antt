use Rattle.std.proofs.Common.{refl}
use Rattle.leb128.specs.Numbers.{number_form, number_read}
use Rattle.forms.specs.Records.{record_form, record_read}
use Rattle.forms.specs.Slots.{selector_at}
use Rattle.forms.specs.Standings.{standing_form, standing_read}
use Rattle.book.specs.Entries.{book_of}
use Rattle.book.specs.Judging.{judged}
use Rattle.book.specs.Reading.{book_read}
use Rattle.worked.proofs.saved_examples_hold.Goals as goal

pub returns : goal.returns
unfolding number_form number_read book_of book_read judged standing_form standing_read record_form record_read selector_at
returns c =
    record {
      one_byte = refl;
      two_bytes = refl;
      long_spelling = (refl, refl);
      largest = refl;
      too_large = (refl, refl);
      empty_book = refl;
      bare_book = refl;
      bare_book_read = refl;
      warm_book = refl;
      warm_book_read = refl;
      without_standing = (refl, refl);
    }
