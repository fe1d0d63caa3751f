-- The needs that an office breaks now: they are those that a call lists, each is known where all are, and each can be written.
use Rattle.std.proofs.Common.{◌≡◌, inl, inr, ℕ, zero, suc, Bool, true, false, cond, not, List, [], ◌∷◌, length, filter, Contains, Option, Some, None, refl, sym, ap, ◌∙◌}
use Rattle.std.specs.Prelude.{slice_get}
use Rattle.std.specs.List.{AllByRecursion}
use Rattle.std.specs.Option.{option_map, option_or}
use Rattle.clr_audit.specs.Unknown.{first_beside, is_known}
use Rattle.clr_audit.proofs.UnknownLaws.{told_known}
use Rattle.clr_rows.specs.Schemas.{FitsSchema}
use Rattle.clr_rules.specs.declared.needs.Broken.{Broken}
use Rattle.clr_rules.specs.declared.rules.Rule.{Rule}
use Rattle.clr_rules.specs.Needs.{broken_cmp, broken_needs}
use Rattle.clr_rules.proofs.BrokenOrder.{broken_total}
use Rattle.clr_rules.proofs.Elements.{Among, all_by, among, contained, same_rising}
use Rattle.clr_workspaces.specs.Soundness.{IsSound}
use Rattle.clr_workspaces.specs.Workspaces.{Workspace, live_workspace, workspace_at}
use Rattle.clr_steps.specs.Invariants.{OfficeFits}
use Rattle.clr_steps.specs.Offices.{Office}
use Rattle.clr_judges.specs.BrokenNeeds.{AreBrokenBelow}
use Rattle.clr_judges.specs.Unheld.{unknown_from}
use Rattle.clr_engine.specs.BrokenNow.{AreBrokenNow}
use Rattle.clr_engine.specs.Drafts.{unheld_in}
use Rattle.clr_engine.proofs.BrokenNow as engine
use Rattle.clr_office_writing.specs.KnownFits.{FitsKnown, FitsRule}
use Rattle.clr_office_texts.specs.BrokenNow.{broken_in_kept, broken_now}
use Rattle.clr_office_texts.proofs.BrokenFits.{broken_fits}
use Rattle.clr_office_texts.proofs.BrokenLists.{breaks_at, from_first, from_second, kept_rise, listed_in}

module _ (o : Office) where
  abbrev all : List Workspace
  all = live_workspace o.live ∷ o.workspaces

  -- just the needs that are broken, by the positions of what breaks them
  below : AreBrokenBelow o.book all (length all) (broken_in_kept o.book all)
  below = record {
    ascending = kept_rise o.book all;
    exactly = λ b. (
      λ h. (let there = breaks_at o.book all b (among b (broken_in_kept o.book all) h) in (there.at, there.within, there.kept, there.broken)),
      λ (at, lt, kept, broken). contained b (broken_in_kept o.book all) (listed_in o.book all b at lt kept broken),
    );
  }

  pub broken_now_is : IsSound all → (list : List Broken) → AreBrokenNow o list → list ≡ broken_now o
  unfolding broken_now
  broken_now_is sound list are =
      let own = engine.broken_now o.schema o.book all sound o refl (broken_in_kept o.book all) below in
      same_rising broken_total list (broken_in_kept o.book all) are.ascending own.ascending
      (λ b h. among b (broken_in_kept o.book all) ((own.exactly b).1 ((are.exactly b).0 (contained b list h))))
      (λ b h. among b list ((are.exactly b).1 ((own.exactly b).0 (contained b (broken_in_kept o.book all) h))))

-- known needs --------------------------------------------------------------------------------

-- where each is known, none is the first that isn't
none_beside : (known needs : List Broken) → ((b : Broken) → Among b needs → Among b known) → first_beside known needs ≡ None
unfolding first_beside
none_beside known needs each = ap (λ (bs : List Broken). slice_get bs 0) (none needs each)
  where
    none : (bs : List Broken) → ((b : Broken) → Among b bs → Among b known) → filter (λ b. not (is_known known b)) bs ≡ []
    none [] each = refl
    none (b ∷ bs) each = let is : true ≡ is_known known b = told_known known b true (contained b known (each b (inl refl))) in
        rw (sym is) (none bs (λ c h. each c (inr h)))

none_unknown : (book : List Rule) (known : List Broken) (at : ℕ) (ws : List Workspace) → ((b : Broken) → Among b (broken_in_kept book ws) → Among b known)
    → unknown_from book known at ws ≡ None
unfolding unknown_from broken_in_kept
none_unknown book known at [] each = refl
none_unknown book known at (w ∷ ws) each =
    rw (none_unknown book known (suc at) ws (λ b h. each b (from_second (cond w.kept (broken_needs book w.current) []) b (broken_in_kept book ws) h)))
    (by w.kept (λ b h. each b (from_first (cond w.kept (broken_needs book w.current) []) b (broken_in_kept book ws) h)))
  where
    by : (kept : Bool) → ((b : Broken) → Among b (cond kept (broken_needs book w.current) []) → Among b known)
        → option_or {T = ℕ × Broken} (option_map (λ need. (at, need)) (cond kept (first_beside known (broken_needs book w.current)) None)) None ≡ None
    by true listed = rw (none_beside known (broken_needs book w.current) listed) refl
    by false listed = refl

-- an office whose broken needs are known is held
pub held_now : (o : Office) → unheld_in o (broken_now o) ≡ None
unfolding broken_now unknown_from
held_now o = none_unknown o.book (broken_in_kept o.book (live_workspace o.live ∷ o.workspaces)) 0 (live_workspace o.live ∷ o.workspaces) (λ b h. h)

-- each can be written
pub known_fits : (o : Office) → OfficeFits o → FitsKnown o.schema o.book (broken_now o)
unfolding broken_now
known_fits o fits =
    let ws = live_workspace o.live ∷ o.workspaces in
    record {
      each = all_by (FitsRule o.schema o.book) (broken_in_kept o.book ws) (λ b h.
          let there = breaks_at o.book ws b h in
          broken_fits o.schema o.book (workspace_at ws there.at).current (rows there.at) b there.broken);
      ascend = kept_rise o.book ws;
    }
  where
    rows : (at : ℕ) → FitsSchema o.schema (workspace_at (live_workspace o.live ∷ o.workspaces) at).current
    rows zero = fits.live
    rows (suc at) = (fits.workspaces at).current
