-- What is left where LIVE gets another content.
use Rattle.std.proofs.Common.{◌≡◌, Option, Some, None, refl, sym, ap, ◌∙◌}
use Rattle.std.proofs.lemmas.Option.{none-some, same_Some}
use Rattle.std.specs.Option.{option_map, option_or}
use Rattle.clr_rows.specs.Contents.{Content}
use Rattle.clr_rows.specs.Names.{live_name}
use Rattle.clr_rows.specs.Schemas.{FitsSchema}
use Rattle.clr_change.specs.Edits.{after_edits, first_bad_edit}
use Rattle.clr_rules.specs.declared.needs.Broken.{Broken}
use Rattle.clr_steps.specs.declared.commands.Command.TheVariants.{Apply}
use Rattle.clr_steps.specs.declared.commands.Reply.{Reply}
use Rattle.clr_steps.specs.declared.commands.Reply.TheVariants.{Done, RuleBroken}
use Rattle.clr_steps.specs.Effects.{after_apply, edited_content, effect}
use Rattle.clr_steps.specs.Invariants.{OfficeFits}
use Rattle.clr_steps.specs.Names.{is_live}
use Rattle.clr_steps.specs.Offices.{Office, content_of, is_kept, set_content, stands}
use Rattle.clr_steps.specs.Refusals.{breaks, edit_refusal, first_newly_broken, refusal}
use Rattle.clr_layer_changes.specs.Changes.{edits_between}
use Rattle.clr_layer_changes.proofs.EditLemmas.{edits_lead}
use Rattle.clr_designs.specs.Designs.{IsLiveReplaced, IsCommandAnswer, with_live}
use Rattle.clr_designs.proofs.EditLemmas.{edits_are_made}
use Rattle.clr_designs.proofs.PerformLemmas.{not_refused}

module _ (o : Office) (content : Content) where
  live_content : content_of o live_name ≡ o.live
  unfolding content_of is_live
  live_content = refl

  live_edited : edited_content o live_name (edits_between o.live content) ≡ content
  unfolding edited_content
  live_edited = ap (λ (m : Content). after_edits m (edits_between o.live content)) live_content ∙ edits_lead o.live content

  -- edits that make a content of LIVE are refused only where that content breaks a need which LIVE doesn't break now
  pub live_refusal : OfficeFits o → FitsSchema o.schema content
      → refusal o (Apply live_name (edits_between o.live content)) ≡ option_map RuleBroken (first_newly_broken o.book o.live content)
  unfolding refusal edit_refusal breaks stands is_kept is_live
  live_refusal fits content_fits =
      let edits = edits_between o.live content in
      let none : first_bad_edit o.schema (content_of o live_name) 1 edits ≡ None =
      ap (λ (m : Content). first_bad_edit o.schema m 1 edits) live_content ∙ edits_are_made o.schema o.live content fits.live content_fits 1 in
      rw (live_edited, none, live_content) (last (first_newly_broken o.book o.live content))
    where
      last : (found : Option Broken) → option_or (option_map RuleBroken found) None ≡ option_map RuleBroken found
      last None = refl
      last (Some need) = refl

  pub live_effect : effect o (Apply live_name (edits_between o.live content)) ≡ with_live o content
  unfolding effect after_apply set_content is_live
  live_effect = ap (λ (m : Content). with_live o m) live_edited

  -- what performing it leaves ----------------------------------------------------------------------------

  never_done : (found : Option Broken) → option_map RuleBroken found ≡ Some Done → ⊥
  never_done None e = absurd (none-some Done e)
  never_done (Some need) e = let h : RuleBroken need ≡ Done = same_Some (RuleBroken need) Done e in cc

  none_broken : (found : Option Broken) → option_map RuleBroken found ≡ None → found ≡ None
  none_broken None e = refl
  none_broken (Some need) e = absurd (none-some (RuleBroken need) (sym e))

  this_broken : (found : Option Broken) (reply : Reply) → option_map RuleBroken found ≡ Some reply → (need : Broken) × (found ≡ Some need)
      × (reply ≡ RuleBroken need)
  this_broken None reply e = absurd (none-some reply e)
  this_broken (Some need) reply e = (need, refl, sym (same_Some (RuleBroken need) reply e))

  pub live_replaced : OfficeFits o → FitsSchema o.schema content → (left : Office) (refused : Option Reply)
      → IsCommandAnswer o (Apply live_name (edits_between o.live content)) refused left → IsLiveReplaced o content refused left
  live_replaced fits content_fits left None done =
      let refusal_is = live_refusal fits content_fits in
      let is = not_refused o (Apply live_name (edits_between o.live content)) left
      (λ h. never_done (first_newly_broken o.book o.live content) (sym refusal_is ∙ h)) done in
      (none_broken (first_newly_broken o.book o.live content) (sym refusal_is ∙ is.0), is.1 ∙ live_effect)
  live_replaced fits content_fits left (Some reply) refused =
      let broken = this_broken (first_newly_broken o.book o.live content) reply (sym (live_refusal fits content_fits) ∙ refused.0) in
      (broken.0, broken.1, broken.2, refused.1)
