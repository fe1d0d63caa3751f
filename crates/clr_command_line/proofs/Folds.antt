-- One more item of a list, as a fold takes what is made of each item.
use Rattle.std.proofs.Common.{◌≡◌, ◌∙◌, ◌+◌, ◌<◌, ℕ, List, length, map, take, get_or, ap, sym}
use Rattle.std.specs.Prelude.{fold}
use Rattle.std.proofs.lemmas.List.Folds.{fold-map}
use Rattle.std.proofs.lemmas.List.Sums.{fold_more}

pub mapped_more : {X A B : Type 0} (f : B → A → B) (g : X → A) (a : B) (xs : List X) (i : ℕ) (d : X) → i < length xs → fold f a (map g (take (i + 1) xs))
    ≡ f (fold f a (map g (take i xs))) (g (get_or xs i d))
mapped_more f g a xs i d h =
    fold-map f g a (take (i + 1) xs) ∙ fold_more (λ b x. f b (g x)) a xs i d h ∙ ap (λ b. f b (g (get_or xs i d))) (sym (fold-map f g a (take i xs)))
