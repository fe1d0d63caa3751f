-- The least broken need of a content, and whether every rule holds in it.
use Rattle.std.proofs.Common.{◌≡◌, ◌∙◌, Option, Some, None, refl, sym}
use Rattle.std.specs.FinMap.{get-empty}
use Rattle.clr_rows.specs.Cells.{cell_cmp}
use Rattle.std.specs.Prelude.{MatchOption, List, slice_get}
use Rattle.clr_rows.specs.Contents.{Content, no_rows, row_at}
use Rattle.clr_rules.specs.declared.needs.Broken.{Broken}
use Rattle.clr_rules.specs.declared.rules.Rule.{Rule}
use Rattle.clr_rules.specs.Needs.{BreaksNoMore, Holds, IsLeastBroken, IsLeastNewlyBroken, broken_needs, newly_broken_needs}
use Rattle.clr_rules.proofs.BrokenLemmas.{lists_broken}
use Rattle.clr_rules.proofs.NewlyBroken.{lists_newly_broken}
use Rattle.clr_steps.specs.Refusals.{first_broken, first_newly_broken}

-- every rule holds exactly where there is no first broken need
pub holds_if_none : (book : List Rule) (content : Content) → first_broken book content ≡ None → Holds book (row_at content)
unfolding first_broken
holds_if_none book content none = by (slice_get (broken_needs book content) 0) none (lists_broken book content).first
  where
    by : (r : Option Broken) → r ≡ None → MatchOption r (Holds book (row_at content)) (IsLeastBroken book (row_at content)) → Holds book (row_at content)
    by None e h = h
    by (Some b) e h = absurd (cc)

pub none_if_holds : (book : List Rule) (content : Content) → Holds book (row_at content) → first_broken book content ≡ None
unfolding first_broken
none_if_holds book content holds = by (slice_get (broken_needs book content) 0) (lists_broken book content).first
  where
    by : (r : Option Broken) → MatchOption r (Holds book (row_at content)) (IsLeastBroken book (row_at content)) → r ≡ None
    by None h = refl
    by (Some b) h = absurd (h.broken.unmet (holds _ _ _ h.broken.need))

-- no more is broken exactly where there is no first need that is newly broken
pub no_more_if_none : (book : List Rule) (before content : Content) → first_newly_broken book before content ≡ None
    → BreaksNoMore book (row_at before) (row_at content)
unfolding first_newly_broken
no_more_if_none book before content none = by (slice_get (newly_broken_needs book before content) 0) none (lists_newly_broken book before content).first
  where
    by : (r : Option Broken) → r ≡ None → MatchOption r (BreaksNoMore book (row_at before) (row_at content))
        (IsLeastNewlyBroken book (row_at before) (row_at content)) → BreaksNoMore book (row_at before) (row_at content)
    by None e h = h
    by (Some b) e h = absurd (cc)

pub none_if_no_more : (book : List Rule) (before content : Content) → BreaksNoMore book (row_at before) (row_at content)
    → first_newly_broken book before content ≡ None
unfolding first_newly_broken
none_if_no_more book before content no_more = by (slice_get (newly_broken_needs book before content) 0) (lists_newly_broken book before content).first
  where
    by : (r : Option Broken) → MatchOption r (BreaksNoMore book (row_at before) (row_at content))
        (IsLeastNewlyBroken book (row_at before) (row_at content)) → r ≡ None
    by None h = refl
    by (Some b) h = absurd (h.broken.unmet (no_more _ _ _ h.broken.kept h.broken.need))

-- where every rule held and no more is broken, every rule holds
pub holds_after : (book : List Rule) (before content : Content) → Holds book (row_at before) → first_newly_broken book before content ≡ None
    → Holds book (row_at content)
holds_after book before content holds none ask s t need = no_more_if_none book before content none ask s t (λ now. holds ask s t now) need

-- every rule holds where there are no rows
pub holds_in_none : (book : List Rule) → Holds book (row_at no_rows)
holds_in_none book ask s t need = absurd (never (sym (get-empty cell_cmp s.0) ∙ need.stands))
  where
    never : None ≡ Some s.1 → ⊥
    never e = cc
