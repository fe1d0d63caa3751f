-- The least need that one change set breaks, by the content with the changes over it.
use Rattle.std.proofs.Common.{◌≡◌, ◌∙◌, false, List, Option, Some, None, refl, sym, ap, subst, slice_get}
use Rattle.std.specs.Ordering.{is_gt, ordering_reverse}
use Rattle.std.specs.declared.cmp.Ordering.{Ordering}
use Rattle.std.specs.declared.cmp.Ordering.TheVariants.{Less, Equal, Greater}
use Rattle.clr_rows.specs.Contents.{row_at, taken_over}
use Rattle.clr_rows.proofs.ChangeLemmas.{row-taken_over}
use Rattle.clr_rules.specs.declared.needs.Broken.{Broken}
use Rattle.clr_rules.specs.declared.rules.Rule.{Rule}
use Rattle.clr_rules.specs.Needs.{IsFirstNewlyBroken, View, broken_cmp, newly_broken_needs}
use Rattle.clr_rules.proofs.NewlyBroken.{lists_newly_broken}
use Rattle.clr_rules.proofs.BrokenOrder.{broken_exact, broken_total}
use Rattle.clr_needs.specs.Laws.{FirstBrokenAfter, FirstBrokenIsListed}

neither_greater : (o : Ordering) → is_gt o ≡ false → is_gt (ordering_reverse o) ≡ false → o ≡ Equal
neither_greater Less e f = cc
neither_greater Equal e f = refl
neither_greater Greater e f = cc

-- one need alone is the first
first_once : (rules : List Rule) (before after : View) (x y : Option Broken) → IsFirstNewlyBroken rules before after x
    → IsFirstNewlyBroken rules before after y → x ≡ y
first_once rules before after None None h k = refl
first_once rules before after None (Some b) h k = absurd (k.broken.unmet (h _ _ _ k.broken.kept k.broken.need))
first_once rules before after (Some b) None h k = absurd (h.broken.unmet (k _ _ _ h.broken.kept h.broken.need))
first_once rules before after (Some b) (Some d) h k =
    ap Some (broken_exact b d (neither_greater (broken_cmp b d) (h.least d k.broken) (sym (ap is_gt (broken_total.antisymm d b)) ∙ k.least b h.broken)))

pub first_after : FirstBrokenAfter
first_after rules content changes first h =
    subst (λ (view : View). IsFirstNewlyBroken rules (row_at content) view first) (λ i q. sym (row-taken_over content changes q) i) h

pub first_listed : FirstBrokenIsListed
first_listed rules content changes first h =
    first_once rules (row_at content) (row_at (taken_over content changes)) first
    (slice_get (newly_broken_needs rules content (taken_over content changes)) 0)
    (first_after rules content changes first h)
    (lists_newly_broken rules content (taken_over content changes)).first
