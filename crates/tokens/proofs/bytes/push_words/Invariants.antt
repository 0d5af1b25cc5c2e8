use Rattle.std.proofs.Common.{◌≡◌, map, drop, vec_items}
use Rattle.tokens.specs.Bytes.{behind, bytes_of}
use Rattle.tokens.proofs.bytes.push_words.Given as goal

abbrev pub invariant-loop-word : goal.invariant-loop-word
invariant-loop-word l = behind (vec_items l.bytes) (bytes_of (map (λ w. w.now) (drop l.word-index l.words))) ≡ bytes_of (map (λ w. w.now) l.words)
