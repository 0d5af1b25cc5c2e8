-- Records and the data that say them.
use Rattle.std.proofs.Common.{◌≡◌, ℕ, ◌+◌, ◌^◌, ◌<◌, List, [], ◌∷◌, length, get_or, take, drop, Bool, true, false, Some, None, Option, sym, refl, ap, ◌∙◌, subst, arith}
use Rattle.std.specs.Bool.{then_some}
use Rattle.std.specs.List.{flat_map}
use Rattle.numbering.specs.declared.command.Command.{Command}
use Rattle.protocol.specs.declared.counters.Counters.{Counters}
use Rattle.asking.specs.declared.selector.Selector.{Selector}
use Rattle.asking.specs.declared.selector.Selector.TheVariants as selector
use Rattle.protocol.specs.declared.record.Record.{Record}
use Rattle.protocol.specs.declared.record.Record.TheVariants.{Ping, Counter, Text, Parameter}
use Rattle.protocol.specs.declared.answer.Answer.{Answer}
use Rattle.protocol.specs.declared.answer.Answer.TheVariants as answer
use Rattle.protocol.specs.Answers.{Says, Means, Kept, Read}
use Rattle.protocol.specs.Bytes.{low_first, number_of, AllBelow}
use Rattle.protocol.specs.Counting.{counters_bytes, Fit}
use Rattle.numbering.specs.Exactly.{Exactly}
use Rattle.numbering.specs.Numbered.{command_number}
use Rattle.protocol.specs.Records.{selector_of, data_of, Lawful}
use Rattle.asking.specs.Selectors.{command_of, rank}
use Rattle.protocol.proofs.Numbering.{number_low_first}
use Rattle.asking.proofs.Slotting.{slots_apart}

-- what is filed of a meant answer is said
pub kept_says : (c : Command) (a : ℕ) (bs : List ℕ) (y : Answer) (x : Record) → Means c a bs y → Kept y x → Says c a bs x
kept_says c a bs (answer.Ping v i) x m k = rw k m
kept_says c a bs (answer.Counter e n) x m k = rw k m
kept_says c a bs (answer.Text f t) x m k = rw k.1 m.1
kept_says c a bs (answer.Parameter p v) x m k = rw k m
kept_says c a bs answer.Relay x m k = absurd k

-- what is said is meant by an answer
pub says_means : (c : Command) (a : ℕ) (bs : List ℕ) (x : Record) → Says c a bs x → (y : Answer) × Means c a bs y
says_means c a bs (Ping v i) h = (answer.Ping v i, h)
says_means c a bs (Counter e n) h = (answer.Counter e n, h)
says_means c a bs (Text f t) h =
    let l = h.lawful in
    (answer.Text f (record { ref_ptr = (0, 0); now = l.0 }), (l.1, subst (λ zs. Says c a bs (Text f zs)) l.2 h))
says_means c a bs (Parameter p v) h = (answer.Parameter p v, h)

-- an answer to a selector is filed
pub means_kept : (s : Selector) (a : ℕ) (bs : List ℕ) (y : Answer) → Means (command_of s) a bs y → ((x : Record) → Kept y x → ⊥) → ⊥
means_kept s a bs (answer.Ping v i) m none = none _ refl
means_kept s a bs (answer.Counter e n) m none = none _ refl
means_kept s a bs (answer.Text f t) m none = none _ (m.0.short, refl)
means_kept s a bs (answer.Parameter p v) m none = none _ refl
means_kept selector.Ping a bs answer.Relay m none = omega (arith, ap command_number m.0)
means_kept (selector.Counter e) a bs answer.Relay m none = omega (arith, ap command_number m.0)
means_kept (selector.Text f) a bs answer.Relay m none = omega (arith, ap command_number m.0)
means_kept (selector.Parameter p) a bs answer.Relay m none = omega (arith, ap command_number m.0)

-- the values whose bytes these are
counters_of : List ℕ → Counters
counters_of bs =
    record {
      config = get_or bs 0 0;
      voltage_ratio = number_of (take 2 (drop 1 bs));
      current_ratio = number_of (take 2 (drop 3 bs));
      full = number_of (take 4 (drop 5 bs));
      in_use = number_of (take 4 (drop 9 bs));
      tariffs = number_of (take 4 (drop 13 bs)) ∷ number_of (take 4 (drop 17 bs)) ∷ number_of (take 4 (drop 21 bs)) ∷ number_of (take 4 (drop 25 bs)) ∷ [];
    }

four_words : (f : List ℕ → List ℕ) (ts : List ℕ) → length ts ≡ 4 → AllBelow (2 ^ 32) ts → ((bs : List ℕ) → f bs ≡ number_of (take 4 bs) ∷ number_of (take 4 (drop 4 bs)) ∷ number_of (take 4 (drop 8 bs)) ∷ number_of (take 4 (drop 12 bs)) ∷ []) → f (flat_map (low_first 4) ts) ≡ ts
four_words f [] l h e = absurd (omega arith)
four_words f (p ∷ []) l h e = absurd (omega arith)
four_words f (p ∷ q ∷ []) l h e = absurd (omega arith)
four_words f (p ∷ q ∷ r ∷ []) l h e = absurd (omega arith)
four_words f (p ∷ q ∷ r ∷ s ∷ []) l h e =
    let a = number_low_first 4 p h.0 in
    let b = number_low_first 4 q h.1.0 in
    let c = number_low_first 4 r h.1.1.0 in
    let d = number_low_first 4 s h.1.1.1.0 in
    e (flat_map (low_first 4) (p ∷ q ∷ r ∷ s ∷ [])) ∙ (λ i. a i ∷ b i ∷ c i ∷ d i ∷ [])
four_words f (p ∷ q ∷ r ∷ s ∷ t ∷ ts) l h e = absurd (omega arith)

counters_back : (x : Counters) → Fit x → counters_of (counters_bytes x) ≡ x
unfolding counters_of
counters_back x h =
    let v = number_low_first 2 x.voltage_ratio h.voltage in
    let a = number_low_first 2 x.current_ratio h.current in
    let f = number_low_first 4 x.full h.full in
    let u = number_low_first 4 x.in_use h.in_use in
    let t = four_words (λ bs. number_of (take 4 bs) ∷ number_of (take 4 (drop 4 bs)) ∷ number_of (take 4 (drop 8 bs)) ∷ number_of (take 4 (drop 12 bs)) ∷ []) x.tariffs h.four h.tariffs (λ bs. refl) in
    λ i. record { config = x.config; voltage_ratio = v i; current_ratio = a i; full = f i; in_use = u i; tariffs = t i }

counters_apart : (x y : Counters) → Fit x → Fit y → counters_bytes x ≡ counters_bytes y → x ≡ y
counters_apart x y h k e = sym (counters_back x h) ∙ ap counters_of e ∙ counters_back y k

number_apart : (k m n : ℕ) → m < 256 ^ k → n < 256 ^ k → low_first k m ≡ low_first k n → m ≡ n
number_apart k m n h l e = sym (number_low_first k m h) ∙ ap number_of e ∙ number_low_first k n l

pub records_apart : (a : ℕ) (x y : Record) → Lawful x → Lawful y → command_of (selector_of x) ≡ command_of (selector_of y) → data_of a x ≡ data_of a y → x ≡ y
records_apart a (Ping v i) (Ping w j) h k c e = cc
records_apart a (Ping v i) (Counter g m) h k c e = absurd (omega (arith, ap command_number c))
records_apart a (Ping v i) (Text g m) h k c e = absurd (omega (arith, ap command_number c))
records_apart a (Ping v i) (Parameter g m) h k c e = absurd (omega (arith, ap command_number c))
records_apart a (Counter f n) (Ping w j) h k c e = absurd (omega (arith, ap command_number c))
records_apart a (Counter f n) (Counter g m) h k c e =
    let s = slots_apart (selector.Counter f) (selector.Counter g) (ap (λ zs. 2 + get_or zs 0 0) e) in
    let t = counters_apart n m h k (ap (drop 1) e) in
    cc
records_apart a (Counter f n) (Text g m) h k c e = absurd (omega (arith, ap command_number c))
records_apart a (Counter f n) (Parameter g m) h k c e = absurd (omega (arith, ap command_number c))
records_apart a (Text f n) (Ping w j) h k c e = absurd (omega (arith, ap command_number c))
records_apart a (Text f n) (Counter g m) h k c e = absurd (omega (arith, ap command_number c))
records_apart a (Text f n) (Text g m) h k c e =
    let s = slots_apart (selector.Text f) (selector.Text g) (ap (λ zs. 11 + rank 8 (get_or zs 0 0)) e) in
    cc
records_apart a (Text f n) (Parameter g m) h k c e = absurd (omega (arith, ap command_number c))
records_apart a (Parameter f n) (Ping w j) h k c e = absurd (omega (arith, ap command_number c))
records_apart a (Parameter f n) (Counter g m) h k c e = absurd (omega (arith, ap command_number c))
records_apart a (Parameter f n) (Text g m) h k c e = absurd (omega (arith, ap command_number c))
records_apart a (Parameter f n) (Parameter g m) h k c e =
    let s = slots_apart (selector.Parameter f) (selector.Parameter g) (ap (λ zs. 23 + rank 5 (get_or zs 0 0)) e) in
    let t = number_apart 2 n m h.0 k.0 (ap (drop 1) e) in
    cc

-- what is read is what was written
pub read_back : (s : Selector) (a : ℕ) (bs : List ℕ) (r : Option Record) → Exactly (Read s a bs) r → (x : Record) → Read s a bs x → r ≡ Some x
read_back s a bs None e x h = absurd (e x h)
read_back s a bs (Some y) e x h =
    ap Some (records_apart a y x e.lawful h.lawful (ap command_of (e.selector ∙ sym h.selector)) (e.bytes ∙ sym h.bytes))

-- the ways of a reader that goes by an answer: y is the answer that the data mean, x the record that is filed of it
module _ (s : Selector) (c : Command) (a : ℕ) (bs : List ℕ) where
  read_says : c ≡ command_of s → (x : Record) → Read s a bs x → Says c a bs x
  read_says e x h = record { lawful = h.lawful; command = ap command_of h.selector ∙ sym e; bytes = h.bytes }

  pub read_none : c ≡ command_of s → ((y : Answer) → Means c a bs y → ⊥) → (x : Record) → Read s a bs x → ⊥
  read_none e none x h = let y = says_means c a bs x (read_says e x h) in none y.0 y.1

  pub read_unfiled : c ≡ command_of s → (y : Answer) → Means c a bs y → ((x : Record) → Kept y x → ⊥) → (x : Record) → Read s a bs x → ⊥
  read_unfiled e y m none x h = means_kept s a bs y (subst (λ k. Means k a bs y) e m) none

  -- b tells whether that record is the selector's
  pub read_filed : c ≡ command_of s → (y : Answer) → Means c a bs y → (x : Record) → Kept y x → (b : Bool) → (b ≡ true → selector_of x ≡ s) → (b ≡ false → selector_of x ≡ s → ⊥) → Exactly (Read s a bs) (then_some b x)
  read_filed e y m x k true own other =
      let h = kept_says c a bs y x m k in
      record { lawful = h.lawful; selector = own refl; bytes = h.bytes }
  read_filed e y m x k false own other = λ z h.
      let p = kept_says c a bs y x m k in
      let q = read_says e z h in
      other refl (ap selector_of (records_apart a x z p.lawful q.lawful (p.command ∙ sym q.command) (p.bytes ∙ sym q.bytes)) ∙ h.selector)
