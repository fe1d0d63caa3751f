-- Lists of names that are tried one after another, with one more at the end.
use Rattle.std.proofs.Common.{◌≡◌, ◌∙◌, ◌⊎◌, ◌<◌, ◌+◌, ℕ, zero, suc, Bool, true, false, cond, List, [], ◌∷◌, ◌++◌, Option, Some}
use Rattle.std.proofs.Common.{ap, filter, get_or, inl, inr, length, map, refl, slice_get, sym, take}
use Rattle.std.proofs.lemmas.List.{map-append, take_more}
use Rattle.std.proofs.lemmas.List.Elements.{filter-append}
use Rattle.clr_workspaces.specs.Marks.{Name}
use Rattle.clr_merge_sets.specs.declared.plans.Plan.{Plan}
use Rattle.clr_choices.specs.Trials.{Trial, is_taken, taken_in}

pub none_first : {X : Type 0} (xs : List X) → take 0 xs ≡ []
none_first [] = refl
none_first (x ∷ xs) = refl

-- what stands in a list with one more at its end, and what stands before it
pub get_last : {X : Type 0} (xs : List X) (x y : X) (at : ℕ) → slice_get (xs ++ x ∷ []) at ≡ Some y
    → ((slice_get xs at ≡ Some y) × (take at (xs ++ x ∷ []) ≡ take at xs)) ⊎ ((y ≡ x) × (take at (xs ++ x ∷ []) ≡ xs))
get_last [] x y zero e = inr ((let same : y ≡ x = cc in same), refl)
get_last [] x y (suc at) e = absurd (cc)
get_last (z ∷ zs) x y zero e = inl (e, refl)
get_last (z ∷ zs) x y (suc at) e = elim (get_last zs x y at e) [
  | inl (there, front) ↦ inl (there, ap (λ l. z ∷ l) front)
  | inr (same, front) ↦ inr (same, ap (λ l. z ∷ l) front)
]

pub one_more_name : (names : List Name) (at : ℕ) (name : Name) → at < length names → name ≡ get_or names at name
    → take (at + 1) names ≡ take at names ++ name ∷ []
one_more_name names at name less is = take_more names at name less ∙ ap (λ n. take at names ++ n ∷ []) (sym is)

-- the last trial takes its name, or leaves it
pub taken_last : (ts : List Trial) (t : Trial) (b : Bool) → is_taken t ≡ b → taken_in (ts ++ t ∷ []) ≡ taken_in ts ++ cond b (t.name ∷ []) []
taken_last ts t b e =
    ap (map (λ (u : Trial). u.name)) (filter-append is_taken ts (t ∷ [])) ∙ map-append (λ (u : Trial). u.name) (filter is_taken ts) (filter is_taken (t ∷ []))
    ∙ ap (λ b. taken_in ts ++ map (λ (u : Trial). u.name) (cond b (t ∷ []) [])) e ∙ by b
  where
    by : (b : Bool) → taken_in ts ++ map (λ (u : Trial). u.name) (cond b (t ∷ []) []) ≡ taken_in ts ++ cond b (t.name ∷ []) []
    by true = refl
    by false = refl

-- one more name behind some trials
abbrev pub next_trial : List Trial → Name → Option Plan → Trial
next_trial ts name refusal = record { before = taken_in ts; name = name; refusal = refusal }
