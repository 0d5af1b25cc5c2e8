-- Lemmas on bytes as pairs of hexadecimal digits.
use Rattle.std.proofs.Common.{◌≡◌, ℕ, ◌+◌, ◌-◌, ◌<◌, ◌≤◌, List, [], ◌∷◌, ◌++◌, map, length, get_or, take, drop, Some, None, Option, sym, refl, ap, ◌∙◌, arith}
use Rattle.std.proofs.lemmas.List.{append_assoc, take_rest, at_drop_more}
use Rattle.tokens.specs.Bytes.{pair, before, pairs, behind, joined_to, bytes_of}

-- the first pair of a word, and the rest as the pattern has it
pub pairs_more : (w : List ℕ) → 2 ≤ length w → pairs w ≡ before (pair (get_or w 0 0) (get_or w 1 0)) (pairs (take (length w - 2) (drop 2 w)))
pairs_more [] h = absurd (omega arith)
pairs_more (a ∷ []) h = absurd (omega arith)
pairs_more (a ∷ b ∷ w) h = ap (λ ds. before (pair a b) (pairs ds)) (sym (take_rest (a ∷ b ∷ w) 2))

behind_more : (xs : List ℕ) (b : ℕ) (o : Option (List ℕ)) → behind (xs ++ b ∷ []) o ≡ behind xs (before (Some b) o)
behind_more xs b None = refl
behind_more xs b (Some ys) = ap Some (append_assoc xs (b ∷ []) ys)

pub pushed_pair : (xs ys w : List ℕ) (b : ℕ) (all : Option (List ℕ)) → 2 ≤ length w → Some b ≡ pair (get_or w 0 0) (get_or w 1 0) → ys ≡ xs ++ b ∷ [] → behind xs (pairs w) ≡ all → behind ys (pairs (take (length w - 2) (drop 2 w))) ≡ all
pushed_pair xs ys w b all h e q a =
    ap (λ l. behind l (pairs (take (length w - 2) (drop 2 w)))) q ∙ behind_more xs b (pairs (take (length w - 2) (drop 2 w))) ∙ ap (λ o. behind xs (before o (pairs (take (length w - 2) (drop 2 w))))) e ∙ ap (behind xs) (sym (pairs_more w h)) ∙ a

behind_behind : (xs ys : List ℕ) (o : Option (List ℕ)) → behind (xs ++ ys) o ≡ behind xs (behind ys o)
behind_behind xs ys None = refl
behind_behind xs ys (Some zs) = ap Some (append_assoc xs ys zs)

-- one word behind the bytes so far
pub word_whole : (xs ys : List ℕ) (p o : Option (List ℕ)) → Some ys ≡ behind xs p → behind ys o ≡ behind xs (joined_to p o)
word_whole xs ys None o e = let z : ◌≡◌ {A = ℕ} 0 1 = cc in absurd (omega arith)
word_whole xs ys (Some zs) o e = let q : ys ≡ xs ++ zs = cc in ap (λ l. behind l o) q ∙ behind_behind xs zs o

pub word_bad : (xs : List ℕ) (p o : Option (List ℕ)) → None ≡ behind xs p → None ≡ behind xs (joined_to p o)
word_bad xs None o e = refl
word_bad xs (Some zs) o e = let z : ◌≡◌ {A = ℕ} 0 1 = cc in absurd (omega arith)

-- the steps of the loop over words
module _ {R : Type 0} (f : R → List ℕ) (ws : List R) (i : ℕ) (d : R) (xs : List ℕ) (all : Option (List ℕ)) (e : behind xs (bytes_of (map f (drop i ws))) ≡ all) where
  first_of : i < length ws → behind xs (joined_to (pairs (f (get_or ws i d))) (bytes_of (map f (drop (i + 1) ws)))) ≡ all
  first_of h = ap (behind xs) (sym (at_drop_more (λ l. bytes_of (map f l)) ws i d h)) ∙ e

  pub bytes_bad : i < length ws → None ≡ behind xs (pairs (f (get_or ws i d))) → None ≡ all
  bytes_bad h q = word_bad xs _ _ q ∙ first_of h

  pub bytes_more : i < length ws → (ys : List ℕ) → Some ys ≡ behind xs (pairs (f (get_or ws i d))) → behind ys (bytes_of (map f (drop (i + 1) ws))) ≡ all
  bytes_more h ys q = word_whole xs ys _ (bytes_of (map f (drop (i + 1) ws))) q ∙ first_of h
