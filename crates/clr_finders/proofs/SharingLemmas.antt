-- A finder that has settled a content finds the rows that share.
use Rattle.std.proofs.Common.{◌≡◌, ◌∙◌, ◌<◌, ◌+◌, ℕ, zero, suc, Bool, true, false, ◌&&◌, ◌||◌, not, List, map, length, Option, Some, None, slice_get, refl, sym}
use Rattle.std.proofs.Common.{ap, arith}
use Rattle.std.specs.FinMap as finite
use Rattle.std.specs.List.{range_with_len}
use Rattle.std.specs.Option.{option_map}
use Rattle.clr_rows.specs.declared.cells.CellId.{CellId}
use Rattle.clr_rows.specs.declared.rows.Row.{Row}
use Rattle.clr_rows.specs.Contents.{Content, row_at}
use Rattle.clr_rows.specs.Held.{Held}
use Rattle.clr_rows.proofs.CellOrder.{cell_cmp_total}
use Rattle.clr_rules.specs.declared.rules.Rule.{Rule}
use Rattle.clr_rules.specs.Sides.{has_role}
use Rattle.clr_spots.specs.Spots.{are_sharing, share, share_by, share_under, spots_by, spots_under, is_wide_by, is_wide_under, have_common_spot}
use Rattle.clr_rules.proofs.Elements.{same_rising}
use Rattle.clr_finders.specs.Sharing.{Settled, IsSettledFor, are_meeting, found_cells, is_met, is_met_at, may_serve_under, row_spots, rule_spots, sharing}
use Rattle.clr_finders.specs.Sharing.{sharing_servers}
use Rattle.clr_finders.specs.declared.row_spots.RuleSpots.{RuleSpots}
use Rattle.clr_finders.proofs.PassingCells.{passing_cells, passing_rise, passes_in, in_passes}

get_mapped_range : {X : Type 0} (f : ℕ → X) (from n k m : ℕ) → k < n → m ≡ from + k → slice_get (map f (range_with_len from n)) k ≡ Some (f m)
get_mapped_range f from zero k m less is = absurd (omega (arith, less))
get_mapped_range f from (suc n) zero m less is = let same : from ≡ m = omega arith in ap (λ i. Some (f i)) same
get_mapped_range f from (suc n) (suc k) m less is = get_mapped_range f (from + 1) n k m (omega (arith, less)) (omega arith)

-- the spots of a row under one rule
pub row_spots_under : (rules : List Rule) (s : Held) (number : ℕ) → number < length rules →
    slice_get (row_spots rules s) number ≡ Some (rule_spots rules number s)
row_spots_under rules s number less = get_mapped_range (λ n. rule_spots rules n s) 0 (length rules) number number less (omega arith)

-- spots tell what shares
share_told : (rules : List Rule) (number : ℕ) (s t : Held) → number < length rules
    → (is_wide_under rules number s || is_wide_under rules number t || have_common_spot (spots_under rules number s) (spots_under rules number t)) ≡ share_under
    rules number s t
unfolding share share_under spots_under is_wide_under
share_told rules number s t less = go (slice_get rules number) refl
  where
    go : (o : Option Rule) → slice_get rules number ≡ o → (is_wide_by o s || is_wide_by o t || have_common_spot (spots_by o s) (spots_by o t)) ≡ share_by o s t
    go None e = refl
    go (Some rule) e = refl

meeting_told : (rules : List Rule) (number : ℕ) (s t : Held) → number < length rules → are_meeting (rule_spots rules number s) (rule_spots rules number t) ≡
    are_sharing rules number s t
unfolding are_meeting rule_spots
meeting_told rules number s t less = ap (λ b. has_role rules number s && (has_role rules number t && b)) (share_told rules number s t less)

-- what the finder tells of a row
met_told : (servers : Bool) (rules : List Rule) (number : ℕ) (s t : Held) → number < length rules
    → is_met_at servers (rule_spots rules number s) number (Some (row_spots rules t)) ≡
    (are_sharing rules number s t && (not servers || may_serve_under rules number t))
unfolding rule_spots
met_told servers rules number s t less =
    ap (is_met servers (rule_spots rules number s)) (get_mapped_range (λ n. rule_spots rules n t) 0 (length rules) number number less (omega arith))
    ∙ ap (λ b. b && (not servers || may_serve_under rules number t)) (meeting_told rules number s t less)

settled_row : (settled : Settled) (rules : List Rule) (content : Content) → IsSettledFor settled rules content → (q : CellId) (ys : List RuleSpots) →
    finite.get settled q ≡ Some ys → (row : Row) × (row_at content q ≡ Some row) × (ys ≡ row_spots rules (q, row))
settled_row settled rules content is q ys e = go (row_at content q) refl (sym (is q) ∙ e)
  where
    go : (o : Option Row) → row_at content q ≡ o → option_map (λ row. row_spots rules (q, row)) o ≡ Some ys → (row : Row) × (row_at content q ≡ Some row)
        × (ys ≡ row_spots rules (q, row))
    go None at h = absurd (cc)
    go (Some row) at h = (row, at, (let same : row_spots rules (q, row) ≡ ys = cc in sym same))

-- a test of what is settled and a test of the rows that it is of let the same cells pass
same_passing : (rules : List Rule) (content : Content) (settled : Settled) (p : CellId × List RuleSpots → Bool) (r : Held → Bool) →
    IsSettledFor settled rules content
    → ((t : Held) → p (t.0, row_spots rules t) ≡ r t) → passing_cells p settled ≡ passing_cells r content
same_passing rules content settled p r is alike = same_rising cell_cmp_total (passing_cells p settled) (passing_cells r content) (passing_rise p settled)
    (passing_rise r content)
    (λ q h. let (ys, e, f) = in_passes p settled q h in
    let (row, at, same) = settled_row settled rules content is q ys e in
    passes_in r content q row at (sym (alike (q, row)) ∙ ap (λ zs. p (q, zs)) (sym same) ∙ f))
    (λ q h. let (row, e, f) = in_passes r content q h in
    passes_in p settled q (row_spots rules (q, row)) (is q ∙ ap (option_map (λ u. row_spots rules (q, u))) e) (alike (q, row) ∙ f))

and_true : (b : Bool) → (b && true) ≡ b
and_true true = refl
and_true false = refl

-- what a settled finder finds for a row
module _ (rules : List Rule) (content : Content) (settled : Settled) (number : ℕ) (s : Held) (is : IsSettledFor settled rules content)
    (less : number < length rules) where
  pub found_sharing : found_cells false settled number (rule_spots rules number s) ≡ sharing rules number content s
  unfolding found_cells sharing
  found_sharing = same_passing rules content settled (λ e. is_met_at false (rule_spots rules number s) number (Some e.1)) (are_sharing rules number s) is
      (λ t. met_told false rules number s t less ∙ and_true (are_sharing rules number s t))

  pub found_servers : found_cells true settled number (rule_spots rules number s) ≡ sharing_servers rules number content s
  unfolding found_cells sharing_servers
  found_servers = same_passing rules content settled (λ e. is_met_at true (rule_spots rules number s) number (Some e.1))
      (λ t. are_sharing rules number s t && may_serve_under rules number t) is (λ t. met_told true rules number s t less)
