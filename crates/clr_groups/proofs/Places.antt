-- The positions of members' groups.
use Rattle.std.proofs.Common.{◌≡◌, ◌∙◌, ◌<◌, ◌+◌, ℕ, Global, List, Vec, [], ◌∷◌, ◌++◌, Some, Contains, get_or, length, map, refl, sym, ap, subst, arith}
use Rattle.std.proofs.Common.{inl, inr}
use Rattle.std.specs.Prelude.{option_map, slice_get}
use Rattle.std.proofs.lemmas.Bool.{cases_lt}
use Rattle.std.proofs.lemmas.List.{get_or_append_left, length-append, length-map}
use Rattle.std.proofs.lemmas.Option.{slice_get-map, slice_get_read}
use Rattle.std.proofs.Math.Seq.{get_or-append_seam}
use Rattle.clr_groups.specs.GroupNeeds.{IsPlaceOf}

abbrev pub positions : Vec ℕ Global → List ℕ
positions v = v.items

-- the group that is read there
pub group_at : (vs : List (Vec ℕ Global)) (k : ℕ) (v : Vec ℕ Global) → k < length vs → v ≡ get_or vs k v → slice_get (map positions vs) k ≡ Some v.items
group_at vs k v less is = slice_get-map positions vs k ∙ ap (option_map positions) (slice_get_read vs (length vs) k v refl less is)

-- a group that is listed has a position
pub position_at : (vs : List (Vec ℕ Global)) (g : List ℕ) → Contains (map positions vs) g
    → (k : ℕ) × (k < length vs) × (slice_get (map positions vs) k ≡ Some g)
position_at vs g (k, less, is) = (
  k,
  subst (λ n. k < n) (length-map vs positions) less,
  slice_get_read (map positions vs) (length (map positions vs)) k g refl less (sym is),
)

pub record ArePlacedTo (groups : List (List ℕ)) (k : ℕ) (places : List ℕ) : Type 0 where
  pub long : length places ≡ k
  pub placed : (x : ℕ) → x < k → IsPlaceOf groups x (get_or places x 0)

pub none_placed : (groups : List (List ℕ)) (places : List ℕ) → places ≡ [] → ArePlacedTo groups 0 places
none_placed groups places none = record { long = ap length none; placed = λ x less. absurd (omega (arith, less)) }

pub one_placed : (groups : List (List ℕ)) (k p : ℕ) (old new : List ℕ) → new ≡ old ++ p ∷ [] → IsPlaceOf groups k p → ArePlacedTo groups k old
    → ArePlacedTo groups (k + 1) new
one_placed groups k p old new is place are = record {
  long = ap length is ∙ length-append old (p ∷ []) ∙ ap (λ n. n + 1) are.long;
  placed = λ x below. elim (cases_lt x k) [
    | inl before ↦ subst (IsPlaceOf groups x) (sym (ap (λ xs. get_or xs x 0) is ∙ get_or_append_left old (p ∷ []) 0 x
        (let long = are.long in omega (arith, before, long)))) (are.placed x before)
    | inr last ↦ (let same : x ≡ k = omega (arith, below, last) in
        subst (IsPlaceOf groups x) (sym (ap (λ xs. get_or xs x 0) is ∙ at_end x (let long = are.long in omega (arith, same, long))))
        (subst (λ y. IsPlaceOf groups y p) (sym same) place))
  ];
}
  where
    at_end : (x : ℕ) → x ≡ length old → get_or (old ++ p ∷ []) x 0 ≡ p
    at_end x e = ap (λ i. get_or (old ++ p ∷ []) i 0) e ∙ get_or-append_seam old p [] 0
