-- The scenes of groups, one after another.
use Rattle.std.proofs.Common.{◌≡◌, ◌∙◌, ◌<◌, ◌≤◌, ◌+◌, ℕ, List, [], ◌∷◌, ◌++◌, Some, get_or, length, map, take, refl, sym, ap, subst}
use Rattle.std.specs.Prelude.{option_map, slice_get}
use Rattle.std.proofs.lemmas.List.{length-map, map-append, take_more}
use Rattle.std.proofs.lemmas.Option.{slice_get-map, slice_get_read}
use Rattle.clr_foot.specs.Scenes.{model_at, SceneModel}
use Rattle.clr_plan.specs.GroupNeeds.{models_at}

-- what is made of the element at a position
pub mapped_at : {X Y : Type 0} (f : X → Y) (xs : List X) (k : ℕ) (x : X) → k < length xs → x ≡ get_or xs k x → slice_get (map f xs) k ≡ Some (f x)
mapped_at f xs k x less is = slice_get-map f xs k ∙ ap (option_map f) (slice_get_read xs (length xs) k x refl less is)

pub past_mapped : {X Y : Type 0} (f : X → Y) (xs : List X) (k : ℕ) → length xs ≤ k → length (map f xs) ≤ k
past_mapped f xs k past = subst (λ n. n ≤ k) (sym (length-map xs f)) past

-- the scene of one more group
pub one_scene : {X F : Type 0} (h : X → SceneModel F) (model : SceneModel F) (groups : List (List ℕ)) (k : ℕ) (old new : List X) (part : X) → k < length groups
    → new ≡ old ++ part ∷ [] → h part ≡ model_at model (get_or groups k []) → map h old ≡ models_at model (take k groups)
    → map h new ≡ models_at model (take (k + 1) groups)
one_scene h model groups k old new part less is made so_far =
    ap (map h) is ∙ map-append h old (part ∷ []) ∙ (λ i. so_far i ++ made i ∷ [])
    ∙ sym (ap (models_at model) (take_more groups k [] less) ∙ map-append (model_at model) (take k groups) (get_or groups k [] ∷ []))
