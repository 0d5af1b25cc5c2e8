use Rattle.std.proofs.Common.{◌≡◌, ℕ, ◌+◌, ◌<◌, ◌≤◌, List, ◌++◌, length, get_or, take, drop, ap, arith, rules}
use Rattle.std.proofs.lemmas.List.{length-append}
use Rattle.wire.specs.Framing.{stuffed, stuffed_byte}
use Rattle.wire.proofs.Stuffing.{stuffed_more, stuffed_end, places_left, all_put, put_more}
use Rattle.wire.proofs.frame.stuff.Goals as goal

-- the next byte has its places
fits : (out bytes : List ℕ) (at i : ℕ) → length out ≡ length (stuffed bytes) → at ≤ length out → take at out ++ stuffed (drop i bytes) ≡ stuffed bytes → i < length bytes → at + length (stuffed_byte (get_or bytes i 0)) ≤ length out
fits out bytes at i l h e t =
    let more = ap length (stuffed_more bytes i t) in
    let left = places_left out (stuffed bytes) (stuffed (drop i bytes)) at l h e in
    omega (arith, simp length-append at more)

pub put-at-requires : goal.put-at-requires
put-at-requires c =
    fits c.loop-byte.out c.args.bytes.now c.loop-byte.at c.loop-byte.byte-index (search rules) c.loop-byte.invariant.0 c.loop-byte.invariant.1 c.loop-byte-test.true

pub loop-byte-preserved : goal.loop-byte-preserved
loop-byte-preserved c =
    let room = fits c.loop-byte.out c.args.bytes.now c.loop-byte.at c.loop-byte.byte-index (search rules) c.loop-byte.invariant.0 c.loop-byte.invariant.1 c.loop-byte-test.true in
    (search rules, put_more c.loop-byte.out c.put-at.new.out _ _ _ _ c.loop-byte.at c.put-at.result (stuffed_more c.args.bytes.now c.loop-byte.byte-index c.loop-byte-test.true) c.loop-byte.invariant.1 c.put-at.ensures.front)

pub returns : goal.returns
returns c =
    all_put c.loop-byte.out (stuffed c.args.bytes.now) _ c.loop-byte.at (search rules) c.loop-byte.invariant.0 c.loop-byte.invariant.1 (stuffed_end c.args.bytes.now c.loop-byte.byte-index c.loop-byte-test.false)
