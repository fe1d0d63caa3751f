-- Orders of merges that break an open need on the way are refused.
use Rattle.std.proofs.Common.{◌≡◌, ◌∙◌, ℕ, zero, suc, true, List, [], ◌∷◌, inl, inr, sym, take}
use Rattle.std.proofs.lemmas.Bool.{false≢true, or_cases, or_left, or_right}
use Rattle.clr_workspaces.specs.Marks.{Name}
use Rattle.clr_needs.specs.Settings.{AreAmong, DoChange, has as has_by}
use Rattle.clr_steps.specs.Names.{same_name}
use Rattle.clr_steps.specs.Offices.{Office}
use Rattle.clr_steps.specs.Quiet.{MergeSet, root_content}
use Rattle.clr_steps.specs.Steps.{step}
use Rattle.clr_rows.specs.Contents.{row_at}
use Rattle.clr_rules.specs.Needs.{BreaksNoMore}
use Rattle.clr_clearance.specs.MergeSets.{AreMergeable, rows_with, setting_of}
use Rattle.clr_clearance.specs.Plans.{is_order_refused}
use Rattle.clr_clearance.specs.Safety.{is_clash}
use Rattle.clr_clearance.proofs.NameLemmas.{has_is}
use Rattle.clr_clearance.proofs.RefusedLemmas.{breaking_is_refused, members_change, merge_of}
use Rattle.clr_ordered_needs.proofs.Sequences.{merges_in_list_are_told}
use Rattle.clr_ordered_needs.proofs.StateLaws.{states_are_told}
use Rattle.clr_ordered_clearance.specs.Laws.{BrokenOrderLaw, UncoveredOrderLaw}

-- an order of which the first merges are refused is refused
refused_on : (o : Office) (names : List Name) (k : ℕ) → is_order_refused o (take k names) ≡ true → is_order_refused o names ≡ true
refused_on o [] zero h = h
refused_on o [] (suc k) h = h
refused_on o (n ∷ ns) zero h = absurd (false≢true h)
refused_on o (n ∷ ns) (suc k) h =
    elim (or_cases (is_clash (step o (merge_of n)).reply) (is_order_refused (step o (merge_of n)).office (take k ns)) h) [
      | inl clash ↦ or_left (is_clash (step o (merge_of n)).reply) (is_order_refused (step o (merge_of n)).office ns) clash
      | inr later ↦ or_right (is_clash (step o (merge_of n)).reply) (is_order_refused (step o (merge_of n)).office ns)
          (refused_on (step o (merge_of n)).office ns k later)
    ]

among_first : (names : List Name) (k : ℕ) (x : Name) → has_by same_name (take k names) x ≡ true → has_by same_name names x ≡ true
among_first [] zero x h = absurd (false≢true h)
among_first [] (suc k) x h = absurd (false≢true h)
among_first (y ∷ ys) zero x h = absurd (false≢true h)
among_first (y ∷ ys) (suc k) x h = elim (or_cases (same_name y x) (has_by same_name (take k ys) x) h) [
  | inl same ↦ or_left (same_name y x) (has_by same_name ys x) same
  | inr g ↦ or_right (same_name y x) (has_by same_name ys x) (among_first ys k x g)
]

module _ (o : Office) (merge_set : MergeSet) (mergeable : AreMergeable o merge_set) where
  names_change : DoChange (setting_of o merge_set)
  names_change name cell row member e same = members_change o merge_set mergeable name cell row (sym (has_is merge_set.members name) ∙ member) e same

  -- an order of which some first merges break more is refused
  breaking_first : (names : List Name) (k : ℕ) → AreAmong (setting_of o merge_set) names merge_set.members
      → ¬ (BreaksNoMore o.book (row_at (root_content o merge_set)) (rows_with o merge_set (take k names))) → is_order_refused o names ≡ true
  breaking_first names k part breaking =
      refused_on o names k (breaking_is_refused o merge_set mergeable (take k names) (λ x h. part x (among_first names k x h)) breaking)

pub broken_order : BrokenOrderLaw
broken_order o merge_set names k n a b mergeable part is_open broken =
    breaking_first o merge_set mergeable names k part
    ((states_are_told (setting_of o merge_set)).broken (take k names) n a b mergeable.apart (names_change o merge_set mergeable)
    (λ x h. part x (among_first names k x h)) is_open broken)

pub uncovered_order : UncoveredOrderLaw
uncovered_order o merge_set names blockers n a b mergeable all are uncovered =
    let (k, breaking) = (merges_in_list_are_told (setting_of o merge_set)).uncovered names mergeable.apart (names_change o merge_set mergeable) all n a b blockers are
    uncovered in
    breaking_first o merge_set mergeable names k (λ x h. sym (all.members x) ∙ h) breaking
