use Rattle.std.proofs.Common.{◌≡◌, ◌∙◌, ◌++◌, ◌∷◌, [], ℕ, zero, suc, Bor, List, ap, map, refl, rules, take}
use Rattle.std.proofs.lemmas.List.{map-append}
use Rattle.clr_choices.proofs.trials.members_with.Goals as goal

-- the texts of the first names
first_texts : (n : ℕ) (texts : List (Bor (List ℕ))) → map (λ (text : Bor (List ℕ)). text.now) (take n texts)
    ≡ take n (map (λ (text : Bor (List ℕ)). text.now) texts)
first_texts zero [] = refl
first_texts zero (text ∷ texts) = refl
first_texts (suc n) [] = refl
first_texts (suc n) (text ∷ texts) = ap (λ (l : List (List ℕ)). text.now ∷ l) (first_texts n texts)

pub returns : goal.returns
returns c =
    let pushed : c.push.new.self.items ≡ c.truncate.new.self.items ++ c.as_str.result ∷ [] = search rules in
    let first : map (λ (text : Bor (List ℕ)). text.now) c.truncate.new.self.items ≡ take c.args.count c.args.cleared.now =
    ap (map (λ (text : Bor (List ℕ)). text.now)) c.truncate.ensures.items ∙ first_texts c.args.count c.in_ok-members.members.items
    ∙ ap (take c.args.count) c.in_ok-members.ensures in
    ap (map (λ (text : Bor (List ℕ)). text.now)) pushed
    ∙ map-append (λ (text : Bor (List ℕ)). text.now) c.truncate.new.self.items (c.as_str.result ∷ [])
    ∙ (λ i. first i ++ c.as_str.ensures i ∷ [])
