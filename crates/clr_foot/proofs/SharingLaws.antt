-- Versions that stand in one need are found near one another.
use Rattle.std.proofs.Common.{◌≡◌, ◌∙◌, ◌<◌, ℕ, Bool, true, false, cond, ◌&&◌, ◌||◌, ◌==◌, not, List, [], Option, Some, None, inl, inr, Contains, length}
use Rattle.std.proofs.Common.{refl, sym, ap, subst}
use Rattle.std.specs.FinMap as finite
use Rattle.std.specs.Cmp.{Equal-is, tied_itself}
use Rattle.std.specs.Option.{option_map}
use Rattle.std.specs.Ordering.{eq_by_cmp, is_eq}
use Rattle.std.proofs.lemmas.Bool.Decides.{Decides-eqb}
use Rattle.std.proofs.lemmas.Bool.{and_parts, false≢true, or_left, or_right}
use Rattle.std.proofs.lemmas.List.Elements.{All-nil}
use Rattle.clr_rows.specs.declared.cells.CellId.{CellId}
use Rattle.clr_rows.specs.declared.rows.Row.{Row}
use Rattle.clr_rows.specs.Cells.{cell_cmp}
use Rattle.clr_rows.specs.Contents.{Content, row_at}
use Rattle.clr_rows.specs.Held.{Held}
use Rattle.clr_rows.proofs.CellOrder.{cell_cmp_exact, cell_cmp_total}
use Rattle.clr_rules.specs.declared.needs.Ask.{Ask}
use Rattle.clr_rules.specs.declared.rules.Rule.{Rule}
use Rattle.clr_rules.specs.Books.{FitTogether, FitsCell}
use Rattle.clr_rules.specs.declared.sides.Side.{Side}
use Rattle.clr_rules.specs.Calls.{are_subjects, calls, is_plain, is_server, serves}
use Rattle.clr_rules.specs.Sides.{has_role, has_role_by, has_role_in, is_of, is_of_side, sides}
use Rattle.clr_spots.specs.Spots.{are_sharing, share, share_by, share_under}
use Rattle.clr_rules.proofs.Elements.{Among, contained}
use Rattle.clr_rules.proofs.FittingLemmas.{distance_fits}
use Rattle.clr_rules.proofs.RoleLemmas.{beside, servers_have_roles, subjects_have_roles}
use Rattle.clr_spots.proofs.ShareLaws.{servers_share, subjects_share}
use Rattle.clr_spots.proofs.SharedSpots.{share_back}
use Rattle.clr_finders.specs.declared.row_spots.RuleSpots.{RuleSpots}
use Rattle.clr_finders.specs.Sharing.{IsSettledFor, Settled, found_cells, is_met_at, may_serve, may_serve_by, may_serve_under, row_spots, rule_spots, sharing}
use Rattle.clr_finders.specs.Sharing.{sharing_servers}
use Rattle.clr_finders.proofs.PassingCells.{in_passes, passes_in}
use Rattle.clr_finders.proofs.SharingLemmas.{found_servers, found_sharing}
use Rattle.clr_needs.specs.Settings.{Setting}
use Rattle.clr_foot.specs.Touches.{IsNeighbour, has_subjects_in, is_of_table, may_be_subject}
use Rattle.clr_row_versions.specs.Versions.{FitsSetting}
use Rattle.clr_rules.proofs.CallLaws.{called_by}
use Rattle.clr_row_versions.proofs.AskLaws.{IsRule, served_by}

rule_shares : (rules : List Rule) (number : ℕ) (rule : Rule) (s t : Held) → IsRule rules number rule → has_role_in rule s ≡ true → has_role_in rule t ≡ true
    → share rule s t ≡ true → are_sharing rules number s t ≡ true
unfolding has_role share_under
rule_shares rules number rule s t at first second shared =
    (λ i. has_role_by (at i) s && (has_role_by (at i) t && share_by (at i) s t)) ∙ (λ i. first i && (second i && shared i))

-- ---- subjects and servers

module _ (c : Setting ℕ) (fits : FitsSetting c) (ask : Ask) where
  pub subjects_near : (s t : Held) → calls c.rules ask s (Some t) ≡ true → (are_sharing c.rules ask.rule s t ≡ true) × (are_sharing c.rules ask.rule t s ≡ true)
  subjects_near s t e =
      let (rule, at, called) = called_by c.rules ask s (Some t) e in
      let roles = subjects_have_roles rule ask s (Some t) called in
      let fit : FitTogether c.rules [] = record { tables = fits.tables; book = fits.book; each = All-nil (FitsCell fits.tables) } in
      let shared = subjects_share rule ask s (Some t) (distance_fits c.rules [] ask.rule rule fit at) called in (
        rule_shares c.rules ask.rule rule s t at roles.0 roles.1 shared,
        rule_shares c.rules ask.rule rule t s at roles.1 roles.0 (sym (share_back rule s t)
            ∙ shared),
      )

module _ (rules : List Rule) (ask : Ask) (s : Held) (t : Option Held) (r : Held) (e : calls rules ask s t ≡ true) (f : serves rules ask s t r ≡ true) where
  -- the first subject and the server
  pub server_near : (are_sharing rules ask.rule s r ≡ true) × (are_sharing rules ask.rule r s ≡ true)
  server_near =
      let (rule, at, called) = called_by rules ask s t e in
      let serve = served_by rules ask s t r rule at f in
      let first = (subjects_have_roles rule ask s t called).0 in
      let role = servers_have_roles rule ask s t r serve in
      let shared = (servers_share rule ask s t r called serve).0 in
      (rule_shares rules ask.rule rule s r at first role shared, rule_shares rules ask.rule rule r s at role first (sym (share_back rule s r) ∙ shared))

  -- a server is of the side that serves
  pub may_serve_there : may_serve_under rules ask.rule r ≡ true
  unfolding may_serve_under is_server
  may_serve_there =
      let (rule, at, called) = called_by rules ask s t e in
      ap (λ o. may_serve_by o r) at ∙ (and_parts (may_serve rule r) _ (served_by rules ask s t r rule at f)).0

-- the server and the second subject
pub server_near_second : (rules : List Rule) (ask : Ask) (s t r : Held) → calls rules ask s (Some t) ≡ true → serves rules ask s (Some t) r ≡ true
    → are_sharing rules ask.rule r t ≡ true
server_near_second rules ask s t r e f =
    let (rule, at, called) = called_by rules ask s (Some t) e in
    let serve = served_by rules ask s (Some t) r rule at f in
    rule_shares rules ask.rule rule r t at (servers_have_roles rule ask s (Some t) r serve) (subjects_have_roles rule ask s (Some t) called).1
    (servers_share rule ask s (Some t) r called serve).1

-- ---- the tables of subjects

of_table : (o : Option Side) (s : Held) → is_of o s ≡ true → is_of_table o s.0 ≡ true
unfolding is_of_side
of_table None s e = absurd (false≢true e)
of_table (Some side) s e =
    (Decides-eqb side.table s.0.table).1 (sym ((Decides-eqb s.0.table side.table).0 (and_parts (s.0.table == side.table) _ e).0))

is_in_first : (rule : Rule) (s : Held) → is_of (sides rule).first s ≡ true → has_subjects_in (Some rule) s.0 ≡ true
is_in_first rule s e = or_left _ _ (or_right _ _ (of_table (sides rule).first s e))

is_in_second : (rule : Rule) (s : Held) → is_of (sides rule).second s ≡ true → has_subjects_in (Some rule) s.0 ≡ true
is_in_second rule s e = or_right _ _ (of_table (sides rule).second s e)

subjects_in : (rule : Rule) (ask : Ask) (s : Held) (t : Option Held) → are_subjects rule ask s t ≡ true → has_subjects_in (Some rule) s.0 ≡ true
unfolding are_subjects
subjects_in rule ask s None e = or_left _ _ (or_left _ _ (of_table (sides rule).alone s (and_parts (is_plain ask) _ e).1))
subjects_in rule ask s (Some t) e = elim (beside rule ask s t e) [ inl h ↦ is_in_first rule s h.0 | inr h ↦ is_in_second rule s h.1 ]

-- a subject is of a table whose rows may be subjects
pub is_subject : (rules : List Rule) (ask : Ask) (s : Held) (t : Option Held) → calls rules ask s t ≡ true → may_be_subject rules ask.rule s.0 ≡ true
unfolding may_be_subject
is_subject rules ask s t e = let (rule, at, called) = called_by rules ask s t e in ap (λ o. has_subjects_in o s.0) at ∙ subjects_in rule ask s t called

second_in : (rule : Rule) (ask : Ask) (s t : Held) → are_subjects rule ask s (Some t) ≡ true → has_subjects_in (Some rule) t.0 ≡ true
second_in rule ask s t e = elim (beside rule ask s t e) [ inl h ↦ is_in_second rule t h.1 | inr h ↦ is_in_first rule t h.0 ]

pub is_second_subject : (rules : List Rule) (ask : Ask) (s t : Held) → calls rules ask s (Some t) ≡ true → may_be_subject rules ask.rule t.0 ≡ true
unfolding may_be_subject
is_second_subject rules ask s t e =
    let (rule, at, called) = called_by rules ask s (Some t) e in ap (λ o. has_subjects_in o t.0) at ∙ second_in rule ask s t called

-- ---- what finders find

pub near_all : (rules : List Rule) (number : ℕ) (s t : Held) → are_sharing rules number s t ≡ true → may_be_subject rules number t.0 ≡ true
    → IsNeighbour false rules number s t
near_all rules number s t e f = (ap (λ b. b && (not false || may_serve_under rules number t)) e, f)

pub near_server : (rules : List Rule) (number : ℕ) (s t : Held) → are_sharing rules number s t ≡ true → may_serve_under rules number t ≡ true
    → IsNeighbour true rules number s t
near_server rules number s t e f = (λ i. e i && (not true || f i), refl)

-- one row alone is a content, and what is found of it is found of any
module _ (servers : Bool) (rules : List Rule) (number : ℕ) (s : Held) (q : CellId) (row : Row) where
  one_row : Content
  one_row = finite.insert finite.empty q row

  one_settled : Settled
  one_settled = finite.insert finite.empty q (row_spots rules (q, row))

  is_settled : IsSettledFor one_settled rules one_row
  unfolding one_row one_settled
  is_settled p =
      finite.get-insert cell_cmp_total finite.empty q (row_spots rules (q, row)) p ∙ by (eq_by_cmp cell_cmp p q) refl
      ∙ sym (ap (option_map (λ r. row_spots rules (p, r))) (finite.get-insert cell_cmp_total finite.empty q row p))
    where
      by : (b : Bool) → eq_by_cmp cell_cmp p q ≡ b
          → cond b (Some (row_spots rules (q, row))) (finite.get (finite.empty {X = List RuleSpots} {R = cell_cmp}) p)
          ≡ option_map (λ r. row_spots rules (p, r)) (cond b (Some row) (finite.get (finite.empty {X = Row} {R = cell_cmp}) p))
      by true tie = ap (λ k. Some (row_spots rules (k, row))) (sym (cell_cmp_exact p q ((Equal-is (cell_cmp p q)).0 tie)))
      by false apart = finite.get-empty {X = List RuleSpots} cell_cmp p
          ∙ sym (ap (option_map (λ r. row_spots rules (p, r))) (finite.get-empty {X = Row} cell_cmp p))

  has_row : row_at one_row q ≡ Some row
  unfolding one_row
  has_row = finite.get-insert cell_cmp_total finite.empty q row q ∙ ap (λ b. cond b (Some row) (finite.get (finite.empty {X = Row} {R = cell_cmp}) q))
      (ap is_eq (tied_itself cell_cmp_total q))

  is_met : number < length rules → IsNeighbour servers rules number s (q, row)
      → is_met_at servers (rule_spots rules number s) number (Some (row_spots rules (q, row))) ≡ true
  unfolding found_cells sharing sharing_servers
  is_met below near = by servers near
    where
      its_spots_meet : (b : Bool) → Among q (found_cells b one_settled number (rule_spots rules number s))
          → is_met_at b (rule_spots rules number s) number (Some (row_spots rules (q, row))) ≡ true
      its_spots_meet b h =
          let (ys, at, met) = in_passes (λ e. is_met_at b (rule_spots rules number s) number (Some e.1)) one_settled q h in
          let same : Some ys ≡ Some (row_spots rules (q, row)) = sym at ∙ is_settled q ∙ ap (option_map (λ r. row_spots rules (q, r))) has_row in
          ap (is_met_at b (rule_spots rules number s) number) (sym same) ∙ met

      by : (b : Bool) → IsNeighbour b rules number s (q, row) → is_met_at b (rule_spots rules number s) number (Some (row_spots rules (q, row))) ≡ true
      by false h = its_spots_meet false (subst (Among q) (sym (found_sharing rules one_row one_settled number s is_settled below))
          (passes_in (are_sharing rules number s) one_row q row has_row (and_parts (are_sharing rules number s (q, row)) _ h.0).0))
      by true h = its_spots_meet true (subst (Among q) (sym (found_servers rules one_row one_settled number s is_settled below))
          (passes_in (λ t. are_sharing rules number s t && may_serve_under rules number t) one_row q row has_row h.0))

  pub found_near : (settled : Settled) → number < length rules → finite.get settled q ≡ Some (row_spots rules (q, row)) →
      IsNeighbour servers rules number s (q, row)
      → Contains (found_cells servers settled number (rule_spots rules number s)) q
  unfolding found_cells
  found_near settled below at near =
      contained q (found_cells servers settled number (rule_spots rules number s))
      (passes_in (λ e. is_met_at servers (rule_spots rules number s) number (Some e.1)) settled q (row_spots rules (q, row)) at (is_met below near))
