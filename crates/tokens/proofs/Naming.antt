-- Lemmas on names.
use Rattle.std.proofs.Common.{◌≡◌, ℕ, ◌-◌, ◌<◌, true, false, cond, ◌&&◌, List, [], ◌∷◌, ◌++◌, length, drop, replicate, Some, None, refl, ap, ◌∙◌, arith}
use Rattle.std.specs.List.{AllWithin, HoldsAt, list_all}
use Rattle.std.proofs.lemmas.List.{drop-replicate}
use Rattle.std.proofs.lemmas.List.Folds.{list_all_at}
use Rattle.std.proofs.lemmas.List.Sums.{list_all-from_AllPass}
use Rattle.tokens.specs.Names.{letter, all_letters}

letters_all : (w : List ℕ) → all_letters w ≡ list_all letter w
letters_all [] = refl
letters_all (b ∷ w) = ap (λ t. letter b && t) (letters_all w)

pub all_are : (w : List ℕ) → AllWithin (λ b. letter b ≡ true) w 0 (length w) → all_letters w ≡ true
all_are w h = letters_all w ∙ list_all-from_AllPass letter w (λ k d l. h k d (omega arith) l)

pub some_is_not : (w : List ℕ) (k : ℕ) → k < length w → HoldsAt (λ b. letter b ≡ false) w k → all_letters w ≡ false
some_is_not w k l h = letters_all w ∙ list_all_at letter w k 0 l (h 0)

-- the word with zeros behind it, where it is all letters
pub no_name : (w : List ℕ) → all_letters w ≡ false → None ≡ cond (all_letters w) (Some (w ++ replicate (16 - length w) 0)) None
no_name w e = rw e

pub some_name : (w letters : List ℕ) → all_letters w ≡ true → letters ≡ w → Some (letters ++ drop (length w) (replicate 16 0)) ≡ cond (all_letters w) (Some (w ++ replicate (16 - length w) 0)) None
some_name w letters e q = rw e (λ i. Some (q i ++ drop-replicate (length w) 16 0 i))
