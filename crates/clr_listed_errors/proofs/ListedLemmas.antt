-- Errors that are listed beside known needs, whatever their order.
use Rattle.std.proofs.Common.{◌↔◌, ◌∙◌, All, Contains, List}
use Rattle.std.proofs.lemmas.List.Elements.{All-weaker}
use Rattle.clr_rules.specs.declared.needs.Broken.{Broken}
use Rattle.clr_steps.specs.Offices.{Office}
use Rattle.clr_old_errors.proofs.KnownLemmas.{same_known}
use Rattle.clr_listed_errors.specs.declared.listed_errors.ListedError.{ListedError}
use Rattle.clr_listed_errors.specs.ListedErrors.{IsListed}

module _ (o : Office) (one other : List Broken) (same : (x : Broken) → Contains one x ↔ Contains other x) where
  beside : (e : ListedError) → IsListed o one e → IsListed o other e
  beside e h = record { is_known = h.is_known ∙ same_known one other same e.need; cause = h.cause; told = h.told; place = h.place; says = h.says }

  -- what is listed beside known needs is so beside the same needs in another order
  pub all_beside : (errors : List ListedError) → All (IsListed o one) errors → All (IsListed o other) errors
  all_beside errors told = All-weaker (IsListed o one) (IsListed o other) beside errors told
