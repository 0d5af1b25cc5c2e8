use Rattle.script.proofs.Forming.{forms_exact, lines_exact}
use Rattle.tokens.proofs.Lawful.{words_exact, numerals_exact, decimal_back, hex_back, pairs_exact, bytes_back}
use Rattle.script.proofs.reading.read_line.Goals as goal

pub returns-in_err-words-clause-lines : goal.returns-in_err-words-clause-lines
returns-in_err-words-clause-lines c = lines_exact

pub returns-in_err-words-clause-forms : goal.returns-in_err-words-clause-forms
returns-in_err-words-clause-forms c = forms_exact

pub returns-in_err-words-clause-words : goal.returns-in_err-words-clause-words
returns-in_err-words-clause-words c = words_exact

pub returns-in_err-words-clause-numerals : goal.returns-in_err-words-clause-numerals
returns-in_err-words-clause-numerals c = (numerals_exact, decimal_back, hex_back)

pub returns-in_err-words-clause-bytes : goal.returns-in_err-words-clause-bytes
returns-in_err-words-clause-bytes c = (pairs_exact, bytes_back)

pub returns-clause-lines : goal.returns-clause-lines
returns-clause-lines c = lines_exact

pub returns-clause-forms : goal.returns-clause-forms
returns-clause-forms c = forms_exact

pub returns-clause-words : goal.returns-clause-words
returns-clause-words c = words_exact

pub returns-clause-numerals : goal.returns-clause-numerals
returns-clause-numerals c = (numerals_exact, decimal_back, hex_back)

pub returns-clause-bytes : goal.returns-clause-bytes
returns-clause-bytes c = (pairs_exact, bytes_back)
