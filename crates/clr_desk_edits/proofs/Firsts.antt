-- The first of a list that isn't handed on as it is.
use Rattle.std.proofs.Common.{◌≡◌, ◌<◌, ◌+◌, ◌∙◌, ℕ, suc, true, false, cond, List, [], ◌∷◌, Option, Some, None, length, drop, get_or, map}
use Rattle.std.proofs.Common.{ap, sym, refl, add-one}
use Rattle.std.proofs.Math.Seq.{drop-cons}
use Rattle.std.specs.FinMap as finite
use Rattle.std.specs.Option.{option_or}
use Rattle.clr_rows.specs.declared.cells.CellId.{CellId}
use Rattle.clr_rows.specs.declared.rows.Row.{Row}
use Rattle.clr_rules.specs.declared.rules.Rule.{Rule}
use Rattle.clr_rules.specs.Sides.{each_side}
use Rattle.clr_deltas.specs.NamedDeltas.{stored_delta}
use Rattle.clr_deltas.specs.declared.stored_parts.StoredPart.{StoredPart}
use Rattle.clr_desk_edits.specs.Proposals.{first_unsayable_of, first_unsayable_row, first_unsayable_rule, is_sayable_row, is_sayable_side}

module _ {X : Type 0} (xs : List X) (at : ℕ) (x : X) (within : at < length xs) (is : x ≡ get_or xs at x) where
  from_here : drop at xs ≡ x ∷ drop (suc at) xs
  from_here = drop-cons xs at x within ∙ ap (λ (y : X). y ∷ drop (suc at) xs) (sym is)

module _ (rules : List Rule) (at : ℕ) (rule : Rule) (within : at < length rules) (is : rule ≡ get_or rules at rule) where
  pub rule_here : each_side is_sayable_side rule ≡ false → first_unsayable_rule at (drop at rules) ≡ Some at
  unfolding first_unsayable_rule
  rule_here e =
      ap (first_unsayable_rule at) (from_here rules at rule within is)
      ∙ ap (λ t. cond t (first_unsayable_rule (suc at) (drop (suc at) rules)) (Some at)) e

  pub rules_behind : each_side is_sayable_side rule ≡ true → first_unsayable_rule at (drop at rules) ≡ first_unsayable_rule (at + 1) (drop (at + 1) rules)
  unfolding first_unsayable_rule
  rules_behind e =
      ap (first_unsayable_rule at) (from_here rules at rule within is)
      ∙ ap (λ t. cond t (first_unsayable_rule (suc at) (drop (suc at) rules)) (Some at)) e
      ∙ ap (λ k. first_unsayable_rule k (drop k rules)) (sym (add-one at))

pub no_rule : (at : ℕ) → first_unsayable_rule at [] ≡ None
unfolding first_unsayable_rule
no_rule at = refl

module _ (es left : List (CellId × Option Row)) (e : CellId × Option Row) (is : es ≡ e ∷ left) where
  pub row_here : is_sayable_row e.1 ≡ false → first_unsayable_row es ≡ Some e.0
  unfolding first_unsayable_row
  row_here unsayable = ap first_unsayable_row is ∙ ap (λ t. cond t (first_unsayable_row left) (Some e.0)) unsayable

  pub rows_behind : is_sayable_row e.1 ≡ true → first_unsayable_row es ≡ first_unsayable_row left
  unfolding first_unsayable_row
  rows_behind sayable = ap first_unsayable_row is ∙ ap (λ t. cond t (first_unsayable_row left) (Some e.0)) sayable

pub no_row : first_unsayable_row [] ≡ None
unfolding first_unsayable_row
no_row = refl

module _ (designs : List StoredPart) (at : ℕ) (design : StoredPart) (within : at < length designs) (is : design ≡ get_or designs at design) where
  abbrev of_design : Option CellId
  of_design = first_unsayable_row (finite.entries (stored_delta design).current)

  abbrev of_others : Option CellId
  of_others = first_unsayable_of (map stored_delta (drop (suc at) designs))

  one_first : first_unsayable_of (map stored_delta (drop at designs)) ≡ option_or of_design of_others
  unfolding first_unsayable_of
  one_first = ap (λ ds. first_unsayable_of (map stored_delta ds)) (from_here designs at design within is)

  pub design_here : (cell : CellId) → of_design ≡ Some cell → first_unsayable_of (map stored_delta (drop at designs)) ≡ Some cell
  design_here cell found = one_first ∙ ap (λ r. option_or r of_others) found

  pub designs_behind : of_design ≡ None → first_unsayable_of (map stored_delta (drop at designs))
      ≡ first_unsayable_of (map stored_delta (drop (at + 1) designs))
  designs_behind none =
      one_first ∙ ap (λ r. option_or r of_others) none ∙ ap (λ k. first_unsayable_of (map stored_delta (drop k designs))) (sym (add-one at))

pub no_design : first_unsayable_of [] ≡ None
unfolding first_unsayable_of
no_design = refl
