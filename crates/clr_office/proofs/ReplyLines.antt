-- Lines one after another, and whether something is so of one of them.
use Rattle.std.proofs.Common.{◌≡◌, ℕ, ◌+◌, ◌<◌, ◌≤◌, Bool, ◌||◌, List, ◌∷◌, ◌++◌, length, get_or, drop, refl, sym, ap, ◌∙◌, append_assoc}
use Rattle.std.proofs.Common.{add-one}
use Rattle.std.proofs.Math.Seq.{drop-cons}
use Rattle.std.proofs.lemmas.List.{append-nil, drop_all}
use Rattle.std.specs.List.{flat_map, list_any}
use Rattle.std.proofs.Math.Bool.{or-false, or_assoc}

module _ {A : Type 0} (xs : List A) (i : ℕ) where
  module _ (f : A → List ℕ) where
    -- one more line
    pub lines_more : (unread : A) (lines line : List ℕ) → i < length xs → line ≡ f (get_or xs i unread) → lines ++ flat_map f (drop i xs) ≡ flat_map f xs
        → (lines ++ line) ++ flat_map f (drop (i + 1) xs) ≡ flat_map f xs
    lines_more unread lines line lt line_is so_far =
        let x = get_or xs i unread in
        let next : drop i xs ≡ x ∷ drop (i + 1) xs = rw (add-one i) (drop-cons xs i unread lt) in
        rw line_is (append_assoc lines (f x) (flat_map f (drop (i + 1) xs)) ∙ ap (λ ys. lines ++ flat_map f ys) (sym next) ∙ so_far)

    pub lines_end : (lines : List ℕ) → length xs ≤ i → lines ++ flat_map f (drop i xs) ≡ flat_map f xs → lines ≡ flat_map f xs
    lines_end lines le so_far =
        let none : lines ++ flat_map f (drop i xs) ≡ lines = rw (drop_all i xs le, append-nil lines) refl in
        sym none ∙ so_far

  module _ (p : A → Bool) where
    pub any_more : (unread : A) (so also : Bool) → i < length xs → also ≡ p (get_or xs i unread) → (so || list_any p (drop i xs)) ≡ list_any p xs
        → ((so || also) || list_any p (drop (i + 1) xs)) ≡ list_any p xs
    any_more unread so also lt also_is so_far =
        let x = get_or xs i unread in
        let next : drop i xs ≡ x ∷ drop (i + 1) xs = rw (add-one i) (drop-cons xs i unread lt) in
        rw also_is (or_assoc so (p x) (list_any p (drop (i + 1) xs)) ∙ ap (λ ys. so || list_any p ys) (sym next) ∙ so_far)

    pub any_end : (so : Bool) → length xs ≤ i → (so || list_any p (drop i xs)) ≡ list_any p xs → so ≡ list_any p xs
    any_end so le so_far =
        let none : (so || list_any p (drop i xs)) ≡ so = rw (drop_all i xs le, or-false so) refl in
        sym none ∙ so_far
