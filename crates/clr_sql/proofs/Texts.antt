-- Texts behind texts.
use Rattle.std.proofs.Common.{◌≡◌, ◌∙◌, ◌++◌, List, ap, append_assoc}

-- two texts that are added one after the other
pub behind : {A : Type 0} (old first second mid end : List A) → mid ≡ old ++ first → end ≡ mid ++ second → end ≡ old ++ (first ++ second)
behind old first second mid end one other = other ∙ ap (λ texts. texts ++ second) one ∙ append_assoc old first second

-- a text, and another with what stands before it
pub behind_joined : {A : Type 0} (old first between second mid end : List A) → mid ≡ old ++ first → end ≡ (mid ++ between) ++ second
    → end ≡ old ++ ((first ++ between) ++ second)
behind_joined old first between second mid end one other =
    other ∙ ap (λ texts. (texts ++ between) ++ second) one ∙ ap (λ texts. texts ++ second) (append_assoc old first between)
    ∙ append_assoc old (first ++ between) second
