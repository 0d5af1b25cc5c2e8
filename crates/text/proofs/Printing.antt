-- Lemmas on texts that grow.
use Rattle.std.proofs.Common.{◌≡◌, ℕ, List, [], ◌∷◌, ◌++◌, ap, ◌∙◌}
use Rattle.std.proofs.lemmas.List.{append_assoc}

-- one piece after another
pub then_more : (old mid new a b : List ℕ) → mid ≡ old ++ a → new ≡ mid ++ b → new ≡ old ++ (a ++ b)
then_more old mid new a b e f = f ∙ ap (λ l. l ++ b) e ∙ append_assoc old a b

-- two characters
pub two_pushed : (old mid new c d : List ℕ) (a b : ℕ) → mid ≡ old ++ c → c ≡ a ∷ [] → new ≡ mid ++ d → d ≡ b ∷ [] → new ≡ old ++ (a ∷ b ∷ [])
two_pushed old mid new c d a b e f g h = then_more old mid new (a ∷ []) (b ∷ []) (e ∙ ap (λ l. old ++ l) f) (g ∙ ap (λ l. mid ++ l) h)
