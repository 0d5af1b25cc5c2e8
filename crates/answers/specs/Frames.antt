-- What is made of a frame, as text.
use Rattle.std.specs.Prelude.{ℕ, List, ◌++◌, codes}
use Rattle.text.specs.Answers.{refusal, trailing_pairs}
use Rattle.wire.specs.Framing.{Made, refused, made}

-- `refused N (MEANING)`, or `bytes` and the bytes
abbrev pub made_text : Made → List ℕ
made_text (refused n) = refusal n
made_text (made bytes) = codes "bytes" ++ trailing_pairs bytes
