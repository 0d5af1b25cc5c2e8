-- The grammar: what a line may say.
use Rattle.std.specs.Prelude.{ℕ, Bool, true, false, cond, List, [], ◌∷◌, Some, None, codes, Option, ◌==◌, slice_index}
use Rattle.std.specs.Option.{option_map}
use Rattle.std.specs.Str.{bytes_eq}
use Rattle.tokens.specs.Numerals.{numeral, up_to}
use Rattle.tokens.specs.Bytes.{bytes_of, four_of}
use Rattle.tokens.specs.Names.{name_of}

-- what an argument may be: a number up to a bound, four bytes, a name, or `request` or `answer`
pub data Kind : Type 0 where
  number : ℕ → Kind
  four : Kind
  name : Kind
  direction : Kind

-- an argument: a number, four bytes, a name's letters with zeros behind them, or a direction
pub data Value : Type 0 where
  num : ℕ → Value
  raw : List ℕ → Value
  called : List ℕ → Value
  request : Value
  answer : Value

-- what follows a keyword: the arguments, and the bytes of the rest of the line
pub data Body : Type 0 where
  body : List Value → List ℕ → Body

-- a keyword with what follows it
pub data Said : Type 0 where
  said : List ℕ → Body → Said

-- what a line says
pub data Meaning : Type 0 where
  silence : Meaning
  unreadable : Meaning
  command : Said → Meaning
  call : List ℕ → Said → Meaning

-- a keyword, its arguments in order, and whether bytes follow them
pub record Form : Type 0 where
  pub keyword : List ℕ
  pub arguments : List Kind
  pub bytes : Bool

-- `post NAME METERS READINGS`
abbrev pub post : Form
post = record { keyword = codes "post"; arguments = name ∷ number 1000 ∷ number 5000 ∷ []; bytes = false }

-- `pack D DEST SOURCE COMMAND FOUR BUFFER BYTES`
abbrev pub pack : Form
pack = record { keyword = codes "pack"; arguments = direction ∷ number 65535 ∷ number 65535 ∷ number 255 ∷ four ∷ number 256 ∷ []; bytes = true }

-- `unpack BUFFER BYTES`
abbrev pub unpack : Form
unpack = record { keyword = codes "unpack"; arguments = number 256 ∷ []; bytes = true }

-- `look BYTES`
abbrev pub look : Form
look = record { keyword = codes "look"; arguments = []; bytes = true }

-- `same NAME NAME`
abbrev pub same : Form
same = record { keyword = codes "same"; arguments = name ∷ name ∷ []; bytes = false }

-- `NAME enrol A`
abbrev pub enrol : Form
enrol = record { keyword = codes "enrol"; arguments = number 65535 ∷ []; bytes = false }

-- `NAME strike A`
abbrev pub strike : Form
strike = record { keyword = codes "strike"; arguments = number 65535 ∷ []; bytes = false }

-- `NAME ask A COMMAND SELECTOR PASSWORD SCRATCH`
abbrev pub ask : Form
ask = record { keyword = codes "ask"; arguments = number 65535 ∷ number 255 ∷ number 255 ∷ four ∷ number 256 ∷ []; bytes = false }

-- `NAME switch A RELAY POSITION PASSWORD SCRATCH`
abbrev pub switch : Form
switch = record { keyword = codes "switch"; arguments = number 65535 ∷ number 255 ∷ number 255 ∷ four ∷ number 256 ∷ []; bytes = false }

-- `NAME wire BYTES`
abbrev pub wire : Form
wire = record { keyword = codes "wire"; arguments = []; bytes = true }

-- `NAME fetch`
abbrev pub fetch : Form
fetch = record { keyword = codes "fetch"; arguments = []; bytes = false }

-- `NAME hear`
abbrev pub hear : Form
hear = record { keyword = codes "hear"; arguments = []; bytes = false }

-- `NAME giveup`
abbrev pub giveup : Form
giveup = record { keyword = codes "giveup"; arguments = []; bytes = false }

-- `NAME told A SLOT BUFFER`
abbrev pub told : Form
told = record { keyword = codes "told"; arguments = number 65535 ∷ number 255 ∷ number 256 ∷ []; bytes = false }

-- `NAME silent SLOT LIST`
abbrev pub silent : Form
silent = record { keyword = codes "silent"; arguments = number 255 ∷ number 1000 ∷ []; bytes = false }

-- `NAME save BUFFER`
abbrev pub save : Form
save = record { keyword = codes "save"; arguments = number 70000 ∷ []; bytes = false }

-- `NAME load BYTES`
abbrev pub load : Form
load = record { keyword = codes "load"; arguments = []; bytes = true }

-- the forms that begin a line, and those that follow a name
abbrev pub commands : List Form
commands = post ∷ pack ∷ unpack ∷ look ∷ same ∷ []

abbrev pub calls : List Form
calls = enrol ∷ strike ∷ ask ∷ switch ∷ wire ∷ fetch ∷ hear ∷ giveup ∷ told ∷ silent ∷ save ∷ load ∷ []

-- `request` or `answer`
abbrev pub direction_of : List ℕ → Option Value
direction_of w = cond (bytes_eq (codes "request") w) (Some request) (cond (bytes_eq (codes "answer") w) (Some answer) None)

-- what a word is, read as an argument of this kind
abbrev pub value_of : Kind → List ℕ → Option Value
value_of (number most) w = option_map num (up_to most (numeral w))
value_of four w = option_map raw (four_of w)
value_of name w = option_map called (name_of w)
value_of direction w = direction_of w

-- an argument before the rest
abbrev pub led : Option Value → Option Body → Option Body
led None o = None
led (Some v) None = None
led (Some v) (Some (body vs bs)) = Some (body (v ∷ vs) bs)

-- behind the arguments stand the bytes, where bytes follow, and else no word
abbrev pub closing : Bool → List (List ℕ) → Option Body
closing true ws = option_map (body []) (bytes_of ws)
closing false [] = Some (body [] [])
closing false (w ∷ ws) = None

-- one word for each argument
abbrev pub body_of : List Kind → Bool → List (List ℕ) → Option Body
body_of [] b ws = closing b ws
body_of (k ∷ ks) b [] = None
body_of (k ∷ ks) b (w ∷ ws) = led (value_of k w) (body_of ks b ws)

-- words behind a keyword, read by its form
abbrev pub said_by : Form → List (List ℕ) → Option Said
said_by f ws = option_map (said f.keyword) (body_of f.arguments f.bytes ws)

-- the form of a keyword
abbrev pub found : List Form → List ℕ → Option Form
found [] w = None
found (f ∷ fs) w = cond (bytes_eq f.keyword w) (Some f) (found fs w)

abbrev pub said_by_any : Option Form → List (List ℕ) → Option Said
said_by_any None ws = None
said_by_any (Some f) ws = said_by f ws

-- a name with what is said to it
abbrev pub addressed : Option (List ℕ) → Option Said → Meaning
addressed None o = unreadable
addressed (Some n) None = unreadable
addressed (Some n) (Some s) = call n s

-- a name, the keyword of a call, and its words
abbrev pub calling : List ℕ → List (List ℕ) → Meaning
calling w [] = unreadable
calling w (v ∷ ws) = addressed (name_of w) (said_by_any (found calls v) ws)

abbrev pub commanded : Option Said → Meaning
commanded None = unreadable
commanded (Some s) = command s

-- the first word is the keyword of a command, or a name
abbrev pub sentence : Option Form → List ℕ → List (List ℕ) → Meaning
sentence (Some f) w ws = commanded (said_by f ws)
sentence None w ws = calling w ws

-- what the words of a line mean; `#` begins a remark
unfoldable pub meaning_of : List (List ℕ) → Meaning
meaning_of [] = silence
meaning_of (w ∷ ws) = cond (slice_index w 0 == 35) silence (sentence (found commands w) w ws)
