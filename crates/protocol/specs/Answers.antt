-- What the data of an answer say.
use Rattle.std.specs.Prelude.{◌≡◌, ℕ, ◌≤◌, List, [], length}
use Rattle.numbering.specs.declared.command.Command.{Command}
use Rattle.numbering.specs.declared.command.Command.TheVariants as command
use Rattle.protocol.specs.declared.record.Record.{Record}
use Rattle.protocol.specs.declared.record.Record.TheVariants as record_of
use Rattle.protocol.specs.declared.answer.Answer.{Answer}
use Rattle.protocol.specs.declared.answer.Answer.TheVariants.{Ping, Counter, Text, Parameter, Relay}
use Rattle.asking.specs.declared.selector.Selector.{Selector}
use Rattle.protocol.specs.Records.{selector_of, data_of, Lawful}
use Rattle.asking.specs.Selectors.{command_of}
use Rattle.protocol.specs.Text.{Characters, padded}

-- the record is lawful, and these data of an answer to the command, from the address a, say it
pub record Says (c : Command) (a : ℕ) (bs : List ℕ) (x : Record) : Type 0 where
  pub lawful : Lawful x
  pub command : command_of (selector_of x) ≡ c
  pub bytes : data_of a x ≡ bs

-- these data of an answer to the command, from the address a, mean x: all but the answer of a relay,
-- which has no data, say a record; text is shown without its zeros
abbrev pub Means : Command → ℕ → List ℕ → Answer → Type 0
Means c a bs (Ping v i) = Says c a bs (record_of.Ping v i)
Means c a bs (Counter e k) = Says c a bs (record_of.Counter e k)
Means c a bs (Text f t) = Characters t.now × Says c a bs (record_of.Text f (padded t.now))
Means c a bs (Parameter p v) = Says c a bs (record_of.Parameter p v)
Means c a bs Relay = (c ≡ command.Relay) × (bs ≡ [])

-- the record that is filed of an answer: none of a relay's, and none of a text that its places do not hold
abbrev pub Kept : Answer → Record → Type 0
Kept (Ping v i) x = x ≡ record_of.Ping v i
Kept (Counter e k) x = x ≡ record_of.Counter e k
Kept (Text f t) x = (length t.now ≤ 30) × (x ≡ record_of.Text f (padded t.now))
Kept (Parameter p v) x = x ≡ record_of.Parameter p v
Kept Relay x = ⊥

-- the record is lawful and is what this selector's answer with these data, from the address a, says
pub record Read (s : Selector) (a : ℕ) (bs : List ℕ) (x : Record) : Type 0 where
  pub lawful : Lawful x
  pub selector : selector_of x ≡ s
  pub bytes : data_of a x ≡ bs

-- data tell the lawful records of one command apart
abbrev pub RecordsApart : Type 0
RecordsApart =
    (a : ℕ) (x y : Record) → Lawful x → Lawful y → command_of (selector_of x) ≡ command_of (selector_of y) → data_of a x ≡ data_of a y → x ≡ y
