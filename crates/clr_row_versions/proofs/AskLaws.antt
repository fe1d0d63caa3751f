-- The rule of an ask.
use Rattle.std.proofs.Common.{◌≡◌, ◌∙◌, ℕ, true, List, Option, Some, None, inl, inr, slice_get, refl, sym, ap}
use Rattle.std.specs.Option.{is_some}
use Rattle.clr_rows.specs.Held.{Held}
use Rattle.clr_rules.specs.declared.needs.Ask.{Ask}
use Rattle.clr_rules.specs.declared.rules.Rule.{Rule}
use Rattle.clr_rules.specs.declared.sides.Side.{Side}
use Rattle.clr_rules.specs.Calls.{are_subjects, calls, is_server, is_server_of, serves}
use Rattle.clr_rules.specs.Sides.{is_of, sides}
use Rattle.clr_rules.proofs.CallLaws.{called_by}
use Rattle.clr_rules.proofs.RoleLemmas.{beside}
use Rattle.clr_row_versions.specs.Candidates.{is_of_two, is_of_two_by, is_of_two_under}

abbrev pub IsRule : List Rule → ℕ → Rule → Type 0
IsRule rules number rule = slice_get rules number ≡ Some rule

pub served_by : (rules : List Rule) (ask : Ask) (s : Held) (t : Option Held) (r : Held) (rule : Rule) → IsRule rules ask.rule rule → serves rules ask s t r
    ≡ true → is_server rule ask s t r ≡ true
unfolding serves
served_by rules ask s t r rule at e = sym (ap (λ o. is_server_of o ask s t r) at) ∙ e

-- two are asked by a rule that is asked of two
is_there : (side : Option Side) (s : Held) → is_of side s ≡ true → is_some side ≡ true
is_there None s e = e
is_there (Some side) s e = refl

two_are_asked : (rule : Rule) (ask : Ask) (s t : Held) → are_subjects rule ask s (Some t) ≡ true → is_of_two rule ≡ true
two_are_asked rule ask s t e = elim (beside rule ask s t e) [
  | inl h ↦ is_there (sides rule).second t h.1
  | inr h ↦ is_there (sides rule).second s h.1
]

pub two_asked : (rules : List Rule) (ask : Ask) (s t : Held) → calls rules ask s (Some t) ≡ true → is_of_two_under rules ask.rule ≡ true
unfolding is_of_two_under
two_asked rules ask s t e = let (rule, at, called) = called_by rules ask s (Some t) e in ap is_of_two_by at ∙ two_are_asked rule ask s t called
