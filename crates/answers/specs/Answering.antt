-- What the console answers to a line.
use Rattle.std.specs.Prelude.{◌≡◌, ℕ, List, [], ◌∷◌, ◌++◌, vec_items, codes}
use Rattle.script.specs.declared.command.Command.{Command}
use Rattle.script.specs.declared.command.Command.TheVariants.{Post, Pack, Unpack, Look, Same, Call}
use Rattle.script.specs.declared.command.Line.{Line}
use Rattle.script.specs.declared.command.Line.TheVariants.{Nothing, Unreadable, Command as Asks}
use Rattle.script.specs.Grammar.{meaning_of}
use Rattle.script.specs.Shown.{line_shown}
use Rattle.tokens.specs.Words.{words}
use Rattle.wire.specs.Fields.{is_request}
use Rattle.wire.specs.Framing.{packed, unpacked}
use Rattle.answers.specs.Frames.{made_text}
use Rattle.answers.specs.Spoken.{LookText}

-- the text that answers a command: frames by pack and unpack in a buffer of the stated length, bodies by look; the calls of
-- a layer that is not built yet are answered as such
abbrev pub AnswerText : Command → List ℕ → Type 0
AnswerText (Pack d destination source c four buffer bytes) text =
    text
    ≡ made_text (packed buffer (record { request = is_request d; destination = destination; source = source; command = c; four = four; payload = vec_items bytes }))
AnswerText (Unpack buffer bytes) text = text ≡ made_text (unpacked buffer (vec_items bytes))
AnswerText (Look bytes) text = LookText (vec_items bytes) text
AnswerText (Post name meters readings) text = text ≡ codes "not yet"
AnswerText (Same first second) text = text ≡ codes "not yet"
AnswerText (Call name call) text = text ≡ codes "not yet"

-- the line that answers a command
abbrev pub Reply : Command → List ℕ → Type 0
Reply c text = (t : List ℕ) × AnswerText c t × (text ≡ t ++ 10 ∷ [])

-- a line that says nothing has no answer, and any other has one line
abbrev pub LineText : Line → List ℕ → Type 0
LineText Nothing text = text ≡ []
LineText Unreadable text = text ≡ codes "unreadable" ++ 10 ∷ []
LineText (Asks c) text = Reply c text

-- the text that answers a line, by what the grammar reads in it
abbrev pub Answers : List ℕ → List ℕ → Type 0
Answers line text = (l : Line) × (line_shown l ≡ meaning_of (words line)) × LineText l text

-- some text that has the property is appended, and nothing else
abbrev pub Appends : (List ℕ → Type 0) → List ℕ → List ℕ → Type 0
Appends P old new = (t : List ℕ) × P t × (new ≡ old ++ t)
