-- What a transaction leaves of a network is the network with the changes of the members over it.
use Rattle.std.proofs.Common.{◌≡◌, ℕ, Bool, true, false, cond, not, ◌⊎◌, inl, inr, List, [], ◌∷◌, Option, Some, None, is_some, unwrap_or}
use Rattle.std.proofs.Common.{refl, sym, ap, subst, ◌∙◌}
use Rattle.std.proofs.lemmas.Bool.{true≢false}
use Rattle.std.proofs.lemmas.Option.{same_Some}
use Rattle.clr_rows.specs.declared.cells.CellId.{CellId}
use Rattle.clr_rows.specs.declared.rows.Row.{Row}
use Rattle.clr_rows.specs.Contents.{Changes, Content, changes, is_changed, row_at, taken_over}
use Rattle.clr_rows.specs.Same.{same}
use Rattle.clr_rows.proofs.ChangeLemmas.{row-merged}
use Rattle.clr_rows.proofs.SameLemmas.{same_itself}
use Rattle.clr_rules.specs.declared.rules.Rule.{Rule}
use Rattle.clr_rules.specs.Needs.{BreaksNoMore, Holds, View}
use Rattle.clr_needs.specs.Members.{after_of, positions, setting}
use Rattle.clr_needs.specs.Settings.{view_with}
use Rattle.clr_cuts.proofs.AnswerLaws.{answers_safely}
use Rattle.clr_cuts.proofs.ReachLaws.{reached_is_cut}
use Rattle.clr_guarded_edits.specs.Runs.{StandsAsItWas}
use Rattle.clr_guarded_edits.proofs.RunLemmas.{nothing_else, written_law}
use Rattle.clr_written_cuts.specs.Laws.{WrittenBackLaw}
use Rattle.clr_written_cuts.specs.Merged.{AreMergedRows}

module _ (rules : List Rule) (sets : List Changes) (old new content : Content) (merged : AreMergedRows rules old sets new) (q : CellId) where
  -- no member changes the cell, or one does, and then both views have its row
  Either : List ℕ → Type 0
  Either ns = ((view_with (setting rules old sets) ns q ≡ row_at old q) × (view_with (setting rules content sets) ns q ≡ row_at content q))
      ⊎ ((view_with (setting rules old sets) ns q ≡ view_with (setting rules content sets) ns q) × ((n : ℕ) × (is_some (after_of sets n q) ≡ true)))

  either : (ns : List ℕ) → Either ns
  unfolding view_with Either
  either [] = inl (refl, refl)
  either (n ∷ ns) = by (either ns) (after_of sets n q) refl
    where
      by : Either ns → (after : Option (Option Row)) → after_of sets n q ≡ after → Either (n ∷ ns)
      by others (Some row) is = inr (rw is refl, (n, rw is refl))
      by others None is = elim others [
        | inl both ↦ inl (rw is both.0, rw is both.1)
        | inr both ↦ inr (rw is both.0, both.1)
      ]

  -- what stands at the cell once the edits are made
  seen : row_at (taken_over content (changes old new)) q ≡ view_with (setting rules content sets) (positions sets) q
  unfolding Either
  seen = row-merged content old new q ∙ by (is_changed old new q) refl (either (positions sets))
    where
      by : (b : Bool) → is_changed old new q ≡ b → Either (positions sets)
          → unwrap_or (cond (is_changed old new q) (Some (row_at new q)) None) (row_at content q)
          ≡ view_with (setting rules content sets) (positions sets) q
      by true is (inl both) =
          let same_row : row_at new q ≡ row_at old q = merged.merged q ∙ both.0 in
          let unchanged : is_changed old new q ≡ false = ap not (ap (same (row_at old q)) same_row ∙ same_itself (row_at old q)) in
          absurd (true≢false (sym is ∙ unchanged))
      by true is (inr both) = rw is (merged.merged q ∙ both.0)
      by false is (inl both) = rw is (sym both.1)
      by false is (inr both) = absurd (true≢false (sym (merged.changed both.1.0 q both.1.1) ∙ is))

pub written_back : WrittenBackLaw
unfolding view_with
written_back aim rules tables sets old new content left es passes apart covered merged shown run =
    let stands : StandsAsItWas passes tables old new content = nothing_else passes tables old new content left run in
    let is_left : taken_over content (changes old new) ≡ left = same_Some _ _ (sym (written_law passes tables old new content stands) ∙ run) in
    let whole = setting rules content sets in
    let cut = reached_is_cut whole (row_at old) (shown stands.passed).reach in
    let safely = answers_safely whole (row_at old) cut.safe in
    let view : view_with whole (positions sets) ≡ row_at left =
    (λ i q. sym (seen rules sets old new content merged q) i) ∙ ap row_at is_left in
    record {
      no_more = subst (λ (v : View). BreaksNoMore rules (row_at content) v) view
          (safely.no_more es apart covered [] (positions sets) (λ n none. absurd (true≢false (sym none))) (λ n among. among));
      holds = λ held. subst (λ (v : View). Holds rules v) view (safely.holds es apart covered held (positions sets) (λ n among. among));
    }
