-- Tokens that are written one after another.
use Rattle.std.proofs.Common.{◌≡◌, List, [], ◌∷◌, ◌++◌, ap, ◌∙◌, append_assoc}
use Rattle.json.specs.Token.{Token}
use Rattle.serde_json.specs.Data.{Data}
use Rattle.clr_office_writing.specs.Tokens.{list_tokens, tokens_of}

-- some, and then others
pub after : (before next last some others : List Token) → next ≡ before ++ some → last ≡ next ++ others → last ≡ before ++ (some ++ others)
after before next last some others e h = h ∙ ap (λ ts. ts ++ others) e ∙ append_assoc before some others

-- one more element of a list
pub list_goes_on : {A : Type 0} (f : A → Data) (before next whole : List Token) (x : A) (xs : List A) → next ≡ before ++ tokens_of (f x) → before
    ++ list_tokens f (x ∷ xs) ≡ whole → next ++ list_tokens f xs ≡ whole
list_goes_on f before next whole x xs e h = ap (λ ts. ts ++ list_tokens f xs) e ∙ append_assoc before (tokens_of (f x)) (list_tokens f xs) ∙ h
