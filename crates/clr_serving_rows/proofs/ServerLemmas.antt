-- The changes that turn whether a row serves a need, one after another.
use Rattle.std.proofs.Common.{◌≡◌, ◌∙◌, ℕ, ◌&&◌, Bool, true, false, cond, List, [], ◌∷◌, ◌++◌, filter, map, append_assoc, sym, ap}
use Rattle.std.proofs.Math.Bool.{and-false}
use Rattle.std.specs.Prelude.{slice_get, None, option_to_list}
use Rattle.std.specs.List.{list_all}
use Rattle.clr_rows.specs.declared.cells.CellId.{CellId}
use Rattle.clr_rows.specs.declared.cells.Change.{Change}
use Rattle.clr_rows.specs.Held.{Held}
use Rattle.clr_rules.specs.Calls.{is_server_of, serves}
use Rattle.clr_needs.specs.declared.needs.Need.{Need}
use Rattle.clr_needs.specs.Needs.{ask_of}
use Rattle.clr_steps.specs.Offices.{Office}
use Rattle.clr_serving_rows.specs.declared.servers.ServerChange.{ServerChange}
use Rattle.clr_serving_rows.specs.Servers.{Subjects, changes_among, fits, server_change, serves_need, turns}

-- the changes of one member -----------------------------------------------------------------------

module _ (o : Office) (need : Need) (subjects : Subjects) (member : ℕ) where
  abbrev among : List (CellId × Change) → List ServerChange
  among changes = changes_among o need subjects member changes

  abbrev passed : List (CellId × Change) → List (CellId × Change)
  passed changes = filter (turns o need subjects) changes

  one_among : (e : CellId × Change) (left : List (CellId × Change)) (b : Bool) → turns o need subjects e ≡ b
      → among (e ∷ left) ≡ map (server_change o need subjects member) (cond b (e ∷ passed left) (passed left))
  one_among e left b is = ap (λ t. map (server_change o need subjects member) (cond t (e ∷ passed left) (passed left))) is

  pub is_added : (so_far : List ServerChange) (e : CellId × Change) (found : ServerChange) (left all : List (CellId × Change)) → all ≡ e ∷ left
      → turns o need subjects e ≡ true → found ≡ server_change o need subjects member e → (so_far ++ found ∷ []) ++ among left ≡ so_far ++ among all
  is_added so_far e found left all rest turned is =
      append_assoc so_far (found ∷ []) (among left)
      ∙ (ap (λ c. so_far ++ (c ∷ among left)) is ∙ ap (λ cs. so_far ++ cs) (sym (ap among rest ∙ one_among e left true turned)))

  pub is_passed : (e : CellId × Change) (left all : List (CellId × Change)) → all ≡ e ∷ left → turns o need subjects e ≡ false → among left ≡ among all
  is_passed e left all rest stays = sym (ap among rest ∙ one_among e left false stays)

-- whether a row serves ----------------------------------------------------------------------------

module _ (o : Office) (need : Need) (subjects : Subjects) (server : Held) where
  abbrev all_fit : Bool
  all_fit = list_all (fits o.schema) (subjects.first ∷ server ∷ option_to_list subjects.second)

  abbrev answer : Bool
  answer = serves o.book (ask_of need) subjects.first subjects.second server

  -- under a rule that isn't there no row serves
  pub no_rule : slice_get o.book need.rule ≡ None → serves_need o need subjects server ≡ false
  unfolding serves_need serves
  no_rule none =
      ap (λ rule. all_fit && is_server_of rule (ask_of need) subjects.first subjects.second server) none ∙ and-false all_fit

  pub first_unfit : fits o.schema subjects.first ≡ false → serves_need o need subjects server ≡ false
  unfolding serves_need
  first_unfit e = ap (λ b. (b && list_all (fits o.schema) (server ∷ option_to_list subjects.second)) && answer) e
