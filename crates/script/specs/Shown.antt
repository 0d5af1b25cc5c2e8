-- What the commands of the program say, in the words of the grammar.
use Rattle.std.specs.Prelude.{[], ◌∷◌, Some, None, vec_items, codes, Option}
use Rattle.wire.specs.declared.body.Direction.{Direction}
use Rattle.wire.specs.declared.body.Direction.TheVariants.{Request, Answer}
use Rattle.script.specs.declared.command.Call.{Call}
use Rattle.script.specs.declared.command.Call.TheVariants.{Enrol, Strike, Ask, Switch, Wire, Fetch, Hear, GiveUp, Told, Silent, Save, Load}
use Rattle.script.specs.declared.command.Command.{Command}
use Rattle.script.specs.declared.command.Command.TheVariants.{Post, Pack, Unpack, Look, Same, Call as ToName}
use Rattle.script.specs.declared.command.Line.{Line}
use Rattle.script.specs.declared.command.Line.TheVariants.{Nothing, Unreadable, Command as Asks}
use Rattle.script.specs.declared.reading.Question.{Question}
use Rattle.script.specs.declared.reading.Head.{Head}
use Rattle.script.specs.declared.reading.Verb.{Verb}
use Rattle.script.specs.declared.reading.Verb.TheVariants as verb
use Rattle.script.specs.declared.reading.Keyword.{Keyword}
use Rattle.script.specs.declared.reading.Keyword.TheVariants as key
use Rattle.tokens.specs.Names.{letters_of}
use Rattle.script.specs.Grammar as grammar
use Rattle.script.specs.Grammar.{Form, Value, Body, Said, Meaning, num, raw, called, request, answer, body, said, silence, unreadable, command, call}

abbrev pub direction_shown : Direction → Value
direction_shown Request = request
direction_shown Answer = answer

-- the arguments of a question, and those of a frame before its data
abbrev pub question_shown : Question → Body
question_shown q = body (num q.meter ∷ num q.first ∷ num q.second ∷ raw q.password ∷ num q.scratch ∷ []) []

abbrev pub head_shown : Head → Body
head_shown h = body (direction_shown h.direction ∷ num h.destination ∷ num h.source ∷ num h.command ∷ raw h.four ∷ num h.buffer ∷ []) []

-- a call: its keyword, arguments and bytes
abbrev pub call_shown : Call → Said
call_shown (Enrol meter) = said (codes "enrol") (body (num meter ∷ []) [])
call_shown (Strike meter) = said (codes "strike") (body (num meter ∷ []) [])
call_shown (Ask meter c selector password scratch) = said (codes "ask") (body (num meter ∷ num c ∷ num selector ∷ raw password ∷ num scratch ∷ []) [])
call_shown (Switch meter relay position password scratch) = said (codes "switch") (body (num meter ∷ num relay ∷ num position ∷ raw password ∷ num scratch ∷ []) [])
call_shown (Wire bytes) = said (codes "wire") (body [] (vec_items bytes))
call_shown Fetch = said (codes "fetch") (body [] [])
call_shown Hear = said (codes "hear") (body [] [])
call_shown GiveUp = said (codes "giveup") (body [] [])
call_shown (Told meter slot buffer) = said (codes "told") (body (num meter ∷ num slot ∷ num buffer ∷ []) [])
call_shown (Silent slot list) = said (codes "silent") (body (num slot ∷ num list ∷ []) [])
call_shown (Save buffer) = said (codes "save") (body (num buffer ∷ []) [])
call_shown (Load bytes) = said (codes "load") (body [] (vec_items bytes))

-- a command: its keyword, arguments and bytes, behind a name where it is a call
abbrev pub command_shown : Command → Meaning
command_shown (Post n meters readings) = command (said (codes "post") (body (called (letters_of n) ∷ num meters ∷ num readings ∷ []) []))
command_shown (Pack d destination source c f buffer bytes) = command (said (codes "pack") (body (direction_shown d ∷ num destination ∷ num source ∷ num c ∷ raw f ∷ num buffer ∷ []) (vec_items bytes)))
command_shown (Unpack buffer bytes) = command (said (codes "unpack") (body (num buffer ∷ []) (vec_items bytes)))
command_shown (Look bytes) = command (said (codes "look") (body [] (vec_items bytes)))
command_shown (Same n m) = command (said (codes "same") (body (called (letters_of n) ∷ called (letters_of m) ∷ []) []))
command_shown (ToName n c) = call (letters_of n) (call_shown c)

-- a line that is read, or not
abbrev pub answered : Option Command → Meaning
answered None = unreadable
answered (Some c) = command_shown c

abbrev pub line_shown : Line → Meaning
line_shown Nothing = silence
line_shown Unreadable = unreadable
line_shown (Asks c) = command_shown c

-- the form of each keyword that follows a name
abbrev pub verb_form : Verb → Form
verb_form verb.Enrol = grammar.enrol
verb_form verb.Strike = grammar.strike
verb_form verb.Ask = grammar.ask
verb_form verb.Switch = grammar.switch
verb_form verb.Wire = grammar.wire
verb_form verb.Fetch = grammar.fetch
verb_form verb.Hear = grammar.hear
verb_form verb.GiveUp = grammar.giveup
verb_form verb.Told = grammar.told
verb_form verb.Silent = grammar.silent
verb_form verb.Save = grammar.save
verb_form verb.Load = grammar.load

-- and of each that begins a line
abbrev pub keyword_form : Keyword → Form
keyword_form key.Post = grammar.post
keyword_form key.Pack = grammar.pack
keyword_form key.Unpack = grammar.unpack
keyword_form key.Look = grammar.look
keyword_form key.Same = grammar.same
