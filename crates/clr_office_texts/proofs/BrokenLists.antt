-- The list of the needs that an office breaks now.
use Rattle.std.proofs.Common.{◌≡◌, ◌⊎◌, inl, inr, ◌<◌, ◌≤◌, ℕ, zero, suc, Bool, true, false, cond, not, List, [], ◌∷◌, length, filter, Contains, Option, Some, None, refl, sym, ap, subst, ◌∙◌, arith}
use Rattle.std.specs.Prelude.{slice_get, if◌then◌else◌}
use Rattle.std.specs.Cmp.{Equal-is}
use Rattle.std.specs.List.{AllByRecursion}
use Rattle.std.specs.List.Sorted.{IsStrictlySortedBy}
use Rattle.std.specs.Option.{option_map, option_or}
use Rattle.std.specs.Ordering.{match_ordering, ordering_reverse}
use Rattle.std.specs.declared.cmp.Ordering.{Ordering}
use Rattle.std.specs.declared.cmp.Ordering.TheVariants.{Less, Equal, Greater}
use Rattle.clr_rows.specs.Contents.{Content, row_at}
use Rattle.clr_rules.specs.declared.needs.Broken.{Broken}
use Rattle.clr_rules.specs.declared.rules.Rule.{Rule}
use Rattle.clr_rules.specs.Needs.{IsBroken, broken_cmp, broken_needs}
use Rattle.clr_rules.proofs.BrokenLemmas.{broken_listed, broken_rises, listed_broken}
use Rattle.clr_rules.proofs.BrokenOrder.{broken_exact, broken_total}
use Rattle.clr_rules.proofs.Elements.{Among, all_by, among, contained, each_of, same_rising}
use Rattle.clr_workspaces.specs.Workspaces.{Workspace, live_workspace, workspace_at}
use Rattle.clr_office_texts.specs.BrokenNow.{broken_in_kept, with_need, with_needs}

-- one more need ------------------------------------------------------------------------------

reversed : (r : Ordering) → r ≡ Greater → ordering_reverse r ≡ Less
reversed r e = ap ordering_reverse e

-- the need, or one that was there
pub in_with : (b x : Broken) (cs : List Broken) → Among x (with_need b cs) → (b ≡ x) ⊎ Among x cs
unfolding with_need
in_with b x [] (inl e) = inl e
in_with b x [] (inr h) = absurd h
in_with b x (c ∷ cs) h = by (broken_cmp b c) (λ k. in_with b x cs k) h
  where
    by : (r : Ordering) → (Among x (with_need b cs) → (b ≡ x) ⊎ Among x cs) → Among x (match_ordering r (b ∷ c ∷ cs) (c ∷ cs) (c ∷ with_need b cs))
        → (b ≡ x) ⊎ Among x (c ∷ cs)
    by Less more (inl e) = inl e
    by Less more (inr k) = inr k
    by Equal more k = inr k
    by Greater more (inl e) = inr (inl e)
    by Greater more (inr k) = elim (more k) [ inl e ↦ inl e | inr there ↦ inr (inr there) ]

pub with_has : (b : Broken) (cs : List Broken) → Among b (with_need b cs)
unfolding with_need
with_has b [] = inl refl
with_has b (c ∷ cs) = by (broken_cmp b c) refl (with_has b cs)
  where
    by : (r : Ordering) → broken_cmp b c ≡ r → Among b (with_need b cs) → Among b (match_ordering r (b ∷ c ∷ cs) (c ∷ cs) (c ∷ with_need b cs))
    by Less is more = inl refl
    by Equal is more = inl (sym (broken_exact b c is))
    by Greater is more = inr more

pub with_keeps : (b x : Broken) (cs : List Broken) → Among x cs → Among x (with_need b cs)
unfolding with_need
with_keeps b x (c ∷ cs) h = by (broken_cmp b c) (λ k. with_keeps b x cs k) h
  where
    by : (r : Ordering) → (Among x cs → Among x (with_need b cs)) → Among x (c ∷ cs) → Among x (match_ordering r (b ∷ c ∷ cs) (c ∷ cs) (c ∷ with_need b cs))
    by Less more k = inr k
    by Equal more k = k
    by Greater more (inl e) = inl e
    by Greater more (inr k) = inr (more k)
with_keeps b x [] h = absurd h

pub with_rises : (b : Broken) (cs : List Broken) → IsStrictlySortedBy broken_cmp cs → IsStrictlySortedBy broken_cmp (with_need b cs)
unfolding with_need IsStrictlySortedBy
with_rises b [] rising = (tt, tt)
with_rises b (c ∷ cs) rising = by (broken_cmp b c) refl (with_rises b cs rising.1)
  where
    by : (r : Ordering) → broken_cmp b c ≡ r → IsStrictlySortedBy broken_cmp (with_need b cs)
        → IsStrictlySortedBy broken_cmp (match_ordering r (b ∷ c ∷ cs) (c ∷ cs) (c ∷ with_need b cs))
    by Less is more = (
      (
        is,
        all_by (λ y. broken_cmp b y ≡ Less) cs (λ y listed.
            broken_total.trans b c y is (each_of (λ y. broken_cmp c y ≡ Less) y cs rising.0 listed)),
      ),
      rising,
    )
    by Equal is more = rising
    by Greater is more =
        let below : broken_cmp c b ≡ Less = broken_total.antisymm c b ∙ ap ordering_reverse is in (
          all_by (λ y. broken_cmp c y ≡ Less) (with_need b cs) (λ y listed. elim (in_with b y cs listed) [
            | inl e ↦ subst (λ (y : Broken). broken_cmp c y ≡ Less) e below
            | inr there ↦ each_of (λ y. broken_cmp c y ≡ Less) y cs rising.0 there
          ]),
          more,
        )

-- more needs ---------------------------------------------------------------------------------

pub in_both : (bs : List Broken) (x : Broken) (cs : List Broken) → Among x (with_needs bs cs) → Among x bs ⊎ Among x cs
unfolding with_needs
in_both [] x cs h = inr h
in_both (b ∷ bs) x cs h = elim (in_with b x (with_needs bs cs) h) [
  | inl e ↦ inl (inl e)
  | inr there ↦ elim (in_both bs x cs there) [ inl k ↦ inl (inr k) | inr k ↦ inr k ]
]

pub from_first : (bs : List Broken) (x : Broken) (cs : List Broken) → Among x bs → Among x (with_needs bs cs)
unfolding with_needs
from_first [] x cs h = absurd h
from_first (b ∷ bs) x cs (inl e) = subst (λ (y : Broken). Among y (with_need b (with_needs bs cs))) e (with_has b (with_needs bs cs))
from_first (b ∷ bs) x cs (inr h) = with_keeps b x (with_needs bs cs) (from_first bs x cs h)

pub from_second : (bs : List Broken) (x : Broken) (cs : List Broken) → Among x cs → Among x (with_needs bs cs)
unfolding with_needs
from_second [] x cs h = h
from_second (b ∷ bs) x cs h = with_keeps b x (with_needs bs cs) (from_second bs x cs h)

pub both_rise : (bs cs : List Broken) → IsStrictlySortedBy broken_cmp cs → IsStrictlySortedBy broken_cmp (with_needs bs cs)
unfolding with_needs
both_rise [] cs rising = rising
both_rise (b ∷ bs) cs rising = with_rises b (with_needs bs cs) (both_rise bs cs rising)

-- of workspaces ------------------------------------------------------------------------------

pub kept_rise : (book : List Rule) (ws : List Workspace) → IsStrictlySortedBy broken_cmp (broken_in_kept book ws)
unfolding broken_in_kept IsStrictlySortedBy
kept_rise book [] = tt
kept_rise book (w ∷ ws) = both_rise (cond w.kept (broken_needs book w.current) []) (broken_in_kept book ws) (kept_rise book ws)

-- a need that one of them breaks
pub listed_in : (book : List Rule) (ws : List Workspace) (b : Broken) (at : ℕ) → at < length ws → (workspace_at ws at).kept ≡ true
    → IsBroken book (row_at (workspace_at ws at).current) b → Among b (broken_in_kept book ws)
unfolding broken_in_kept
listed_in book [] b at lt kept broken = absurd (omega arith)
listed_in book (w ∷ ws) b zero lt kept broken =
    from_first (cond w.kept (broken_needs book w.current) []) b (broken_in_kept book ws)
    (rw kept (broken_listed book w.current b broken))
listed_in book (w ∷ ws) b (suc at) lt kept broken =
    from_second (cond w.kept (broken_needs book w.current) []) b (broken_in_kept book ws) (listed_in book ws b at (omega arith) kept broken)

-- where a need is broken that is listed
pub record BreaksAt (book : List Rule) (ws : List Workspace) (b : Broken) : Type 0 where
  pub at : ℕ
  pub within : at < length ws
  pub kept : (workspace_at ws at).kept ≡ true
  pub broken : IsBroken book (row_at (workspace_at ws at).current) b

pub breaks_at : (book : List Rule) (ws : List Workspace) (b : Broken) → Among b (broken_in_kept book ws) → BreaksAt book ws b
unfolding broken_in_kept
breaks_at book [] b h = absurd h
breaks_at book (w ∷ ws) b h = elim (in_both (cond w.kept (broken_needs book w.current) []) b (broken_in_kept book ws) h) [
  | inl k ↦ here w.kept refl k
  | inr k ↦ (let later = breaks_at book ws b k in
      record { at = suc later.at; within = omega (arith, later.within); kept = later.kept; broken = later.broken })
]
  where
    here : (kept : Bool) → w.kept ≡ kept → Among b (cond kept (broken_needs book w.current) []) → BreaksAt book (w ∷ ws) b
    here true is k = record { at = 0; within = omega arith; kept = is; broken = listed_broken book w.current b k }
    here false is k = absurd k
