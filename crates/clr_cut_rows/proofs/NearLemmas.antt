-- What finders find near a row is what shares with it.
use Rattle.std.proofs.Common.{◌≡◌, ◌∙◌, ◌⊎◌, ◌<◌, ◌≤◌, ℕ, Bool, true, false, ◌&&◌, ◌||◌, List, Option, Some, None, Contains, inl, inr, length}
use Rattle.std.proofs.Common.{slice_get, refl, sym, ap, subst}
use Rattle.std.proofs.lemmas.Bool.{and_from, and_parts, cases_lt, false≢true}
use Rattle.std.proofs.lemmas.Option.{slice_get_past}
use Rattle.std.specs.FinMap as finite
use Rattle.std.specs.Option.{option_map}
use Rattle.clr_rows.specs.declared.cells.CellId.{CellId}
use Rattle.clr_rows.specs.Contents.{Changes, Content}
use Rattle.clr_rows.specs.Held.{Held}
use Rattle.clr_rules.specs.declared.rules.Rule.{Rule}
use Rattle.clr_rules.specs.Sides.{has_role, has_role_by}
use Rattle.clr_rules.proofs.Elements.{among, contained}
use Rattle.clr_spots.specs.Spots.{are_sharing, have_common_spot, is_wide_by, is_wide_under, share, share_by, share_under, spots_by, spots_under}
use Rattle.clr_spots.proofs.SharedSpots.{share_back}
use Rattle.clr_finders.specs.declared.row_spots.RuleSpots.{RuleSpots}
use Rattle.clr_finders.specs.Sharing.{IsSettledFor, Settled, are_meeting, found_cells, is_met, is_met_at, row_spots, rule_spots}
use Rattle.clr_finders.proofs.PassingCells.{in_passes, passes_in}
use Rattle.clr_finders.proofs.SharingLemmas.{row_spots_under}
use Rattle.clr_needs.specs.Members.{setting}
use Rattle.clr_needs.specs.Settings.{Setting, Lived, changer, version}
use Rattle.clr_needs.proofs.Lives.{old_is}
use Rattle.clr_row_versions.specs.Versions.{version_of}
use Rattle.clr_foot.specs.NewRows.{AreNewRowsFiled}
use Rattle.clr_cut_rows.specs.Searches.{AreNear}

-- rows that share ----------------------------------------------------------------------------------

share_under_back : (rules : List Rule) (number : ℕ) (s t : Held) → share_under rules number s t ≡ share_under rules number t s
unfolding share_under
share_under_back rules number s t = by (slice_get rules number)
  where
    by : (o : Option Rule) → share_by o s t ≡ share_by o t s
    by None = refl
    by (Some rule) = share_back rule s t

sharing_back : (rules : List Rule) (number : ℕ) (s t : Held) → are_sharing rules number s t ≡ true → are_sharing rules number t s ≡ true
sharing_back rules number s t e =
    let first = and_parts (has_role rules number s) _ e in
    let second = and_parts (has_role rules number t) _ first.1 in
    and_from (has_role rules number t) _ second.0 (and_from (has_role rules number s) _ first.0 (sym (share_under_back rules number s t) ∙ second.1))

-- a row has a role in the rules alone that there are
pub sharing_below : (rules : List Rule) (number : ℕ) (s t : Held) → are_sharing rules number s t ≡ true → number < length rules
unfolding has_role
sharing_below rules number s t e = by (cases_lt number (length rules))
  where
    by : (number < length rules) ⊎ (length rules ≤ number) → number < length rules
    by (inl less) = less
    by (inr past) = absurd (false≢true (sym (ap (λ o. has_role_by o s) (slice_get_past rules number past)) ∙ (and_parts (has_role rules number s) _ e).0))

-- what a finder tells of a row ---------------------------------------------------------------------

share_told : (rules : List Rule) (number : ℕ) (s t : Held)
    → (is_wide_under rules number s || is_wide_under rules number t || have_common_spot (spots_under rules number s) (spots_under rules number t))
    ≡ share_under rules number s t
unfolding share share_under spots_under is_wide_under
share_told rules number s t = by (slice_get rules number)
  where
    by : (o : Option Rule) → (is_wide_by o s || is_wide_by o t || have_common_spot (spots_by o s) (spots_by o t)) ≡ share_by o s t
    by None = refl
    by (Some rule) = refl

and_true : (b : Bool) → (b && true) ≡ b
and_true true = refl
and_true false = refl

meeting_told : (rules : List Rule) (number : ℕ) (s t : Held) → are_meeting (rule_spots rules number s) (rule_spots rules number t)
    ≡ are_sharing rules number s t
unfolding are_meeting rule_spots
meeting_told rules number s t = ap (λ b. has_role rules number s && (has_role rules number t && b)) (share_told rules number s t)

met_told : (rules : List Rule) (number : ℕ) (s t : Held) → number < length rules
    → is_met_at false (rule_spots rules number s) number (Some (row_spots rules t)) ≡ are_sharing rules number s t
met_told rules number s t less = ap (is_met false (rule_spots rules number s)) (row_spots_under rules t number less)
    ∙ and_true (are_meeting (rule_spots rules number s) (rule_spots rules number t)) ∙ meeting_told rules number s t

-- what a finder finds of versions whose rows it has ------------------------------------------------

module _ (c : Setting ℕ) (fresh : Bool) (number : ℕ) (s : Held) (below : number < length c.rules) (settled : Settled)
    (kept : (q : CellId) (l : Lived ℕ) → version c (version_of fresh q) ≡ Some l → finite.get settled q ≡ Some (row_spots c.rules (q, l.row))) where
  abbrev meets : CellId × List RuleSpots → Bool
  meets e = is_met_at false (rule_spots c.rules number s) number (Some e.1)

  are_near : (cells : List CellId) → cells ≡ found_cells false settled number (rule_spots c.rules number s) → AreNear c fresh number s cells
  unfolding found_cells
  are_near cells same = record { only = only; every = every }
    where
      only : (q : CellId) (l : Lived ℕ) → Contains cells q → version c (version_of fresh q) ≡ Some l → are_sharing c.rules number (q, l.row) s ≡ true
      only q l h is =
          let (spots, at, met) = in_passes meets settled q (among q _ (subst (λ (qs : List CellId). Contains qs q) same h)) in
          let its : Some (row_spots c.rules (q, l.row)) ≡ Some spots = sym (kept q l is) ∙ at in
          sharing_back c.rules number s (q, l.row)
          (sym (met_told c.rules number s (q, l.row) below) ∙ ap (is_met_at false (rule_spots c.rules number s) number) its ∙ met)

      every : (q : CellId) (l : Lived ℕ) → version c (version_of fresh q) ≡ Some l → are_sharing c.rules number (q, l.row) s ≡ true → Contains cells q
      every q l is shared = subst (λ (qs : List CellId). Contains qs q) (sym same)
          (contained q _ (passes_in meets settled q (row_spots c.rules (q, l.row)) (kept q l is)
          (met_told c.rules number s (q, l.row) below ∙ sharing_back c.rules number (q, l.row) s shared)))

module _ (rules : List Rule) (root : Content) (sets : List Changes) (number : ℕ) (s : Held) (below : number < length rules) (settled : Settled)
    (cells : List CellId) (found : cells ≡ found_cells false settled number (rule_spots rules number s)) where
  pub old_near : IsSettledFor settled rules root → AreNear (setting rules root sets) false number s cells
  unfolding version
  old_near holds =
      let c = setting rules root sets in
      are_near c false number s below settled
      (λ q l is. holds q ∙ ap (option_map (λ row. row_spots rules (q, row))) (old_is c (changer c q) (c.root q) l is).0) cells found

  pub new_near : AreNewRowsFiled settled rules sets → AreNear (setting rules root sets) true number s cells
  unfolding version
  new_near holds =
      are_near (setting rules root sets) true number s below settled
      (λ q l is. holds q ∙ ap (option_map (λ (m : Lived ℕ). row_spots rules (q, m.row))) is) cells found
