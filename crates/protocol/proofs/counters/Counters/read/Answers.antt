use Rattle.std.proofs.Common.{◌≡◌, ◌/◌, ◌∷◌, ◌++◌, length, get_or, sym, refl, ap, ◌∙◌, arith}
use Rattle.std.proofs.lemmas.Bool.{ltb-true, ltb-false}
use Rattle.std.specs.Simd.{first_chunks}
use Rattle.protocol.specs.Bytes.{low_first}
use Rattle.protocol.proofs.Rejoining.{bytes_rest, front_2, front_4, front_words}
use Rattle.protocol.proofs.counters.Counters.read.Goals as goal

pub returns : goal.returns
returns c =
    let bs = c.args.bytes.now in
    let r1 = c.in_ok-config.rest.now in
    let r2 = c.in_ok-voltage_ratio.rest.now in
    let r3 = c.in_ok-current_ratio.rest.now in
    let r4 = c.in_ok-full.rest.now in
    let r5 = c.in_ok-in_use.rest.now in
    let k1 = c.in_ok-config.ensures.cases in
    let k2 = c.in_ok-voltage_ratio.ensures.cases in
    let k3 = c.in_ok-current_ratio.ensures.cases in
    let k4 = c.in_ok-full.ensures.cases in
    let k5 = c.in_ok-in_use.ensures.cases in
    let l : length r5 ≡ 16 = omega (arith, ltb-true, ltb-false, c.as_chunks.ensures.front_len, c.as_chunks.ensures.back_len) in
    let h1 = bytes_rest bs r1 c.in_ok-config.config.now k1.0 (λ i. omega (arith, c.type_inv.bytes i)) in
    let e2 = front_2 r1 c.in_ok-voltage_ratio.voltage_ratio.now r2 c.from_le_bytes.result h1 (omega (arith, k2.2)) k2.0 k2.1 c.from_le_bytes.ensures in
    let e3 = front_2 r2 c.in_ok-current_ratio.current_ratio.now r3 c.from_le_bytes-2.result e2.1 (omega (arith, k3.2)) k3.0 k3.1 c.from_le_bytes-2.ensures in
    let e4 = front_4 r3 c.in_ok-full.full.now r4 c.from_le_bytes-3.result e3.1 (omega (arith, k4.2)) k4.0 k4.1 c.from_le_bytes-3.ensures in
    let e5 = front_4 r4 c.in_ok-in_use.in_use.now r5 c.from_le_bytes-4.result e4.1 (omega (arith, k5.2)) k5.0 k5.1 c.from_le_bytes-4.ensures in
    let four : length r5 / 4 ≡ 4 = omega arith in
    let e6 = front_words r5 c.as_chunks.result.0.now _ _ _ _ e5.1 l (c.as_chunks.ensures.front ∙ ap (λ n. first_chunks 4 n r5) four) c.from_le_bytes-5.ensures c.from_le_bytes-6.ensures c.from_le_bytes-7.ensures c.from_le_bytes-8.ensures in
    let config : c.in_ok-config.config.now ≡ get_or bs 0 0 = sym (ap (λ zs. get_or zs 0 0) k1.0) in (
      ap (λ zs. c.in_ok-config.config.now ∷ zs) (ap (λ zs. low_first 2 c.from_le_bytes.result ++ zs) (ap (λ zs. low_first 2 c.from_le_bytes-2.result ++ zs) (ap (λ zs. low_first 4 c.from_le_bytes-3.result ++ zs) (ap (λ zs. low_first 4 c.from_le_bytes-4.result ++ zs) e6 ∙ e5.0) ∙ e4.0) ∙ e3.0) ∙ e2.0) ∙ sym k1.0,
      record { config = omega (arith, c.type_inv.bytes 0, config); voltage = omega arith; current = omega arith; full = omega arith; in_use = omega arith; four = refl; tariffs = (omega arith, (omega arith, (omega arith, (omega arith, tt)))) },
    )
