-- An order of all members works exactly where each need that only members block has a helper in it before a blocker.
use Rattle.std.proofs.Common.{◌≡◌, ◌∙◌, ◌<◌, ◌==◌, ℕ, zero, suc, Bool, true, false, not, List, [], ◌∷◌, ◌⊎◌, inl, inr, refl, sym, ap, arith}
use Rattle.std.proofs.Common.{slice_get, take, Some}
use Rattle.std.specs.List.{list_all, list_any}
use Rattle.std.proofs.lemmas.Bool.{and_parts, cases_Bool, false≢true, true≢false, or_cases, or_left}
use Rattle.std.proofs.lemmas.Bool.Decides.{Decides-eqb}
use Rattle.clr_order_search.specs.declared.open_needs.OpenNeed.{OpenNeed}
use Rattle.clr_order_search.specs.OpenNeeds.{breaks_one, has, is_broken}
use Rattle.clr_order_search.specs.Laws.{HelpLaw, IsHelpedInTime}
use Rattle.clr_order_search.specs.Orders.{IsOrder, Works}
use Rattle.clr_order_search.proofs.Circles.{IsLastOf, broken_by, last_of}
use Rattle.clr_order_search.proofs.Positions.{among_first, each_of, not_of, some_of, taken}
use Rattle.clr_order_search.proofs.Rests.{has_at, itself, same_of}

-- a need of a list that is broken
broken_one : (merged : ℕ → Bool) (needs : List OpenNeed) → breaks_one needs merged ≡ true
    → (need : OpenNeed) × (at : ℕ) × (slice_get needs at ≡ Some need) × (is_broken merged need ≡ true)
broken_one merged [] h = absurd (false≢true h)
broken_one merged (n ∷ ns) h = by (or_cases (is_broken merged n) (breaks_one ns merged) h) (broken_one merged ns)
  where
    by : (is_broken merged n ≡ true) ⊎ (breaks_one ns merged ≡ true)
        → (breaks_one ns merged ≡ true → (need : OpenNeed) × (at : ℕ) × (slice_get ns at ≡ Some need) × (is_broken merged need ≡ true))
        → (need : OpenNeed) × (at : ℕ) × (slice_get (n ∷ ns) at ≡ Some need) × (is_broken merged need ≡ true)
    by (inl here) rest = (n, zero, refl, here)
    by (inr behind) rest = let (need, at, e, broken) = rest behind in (need, suc at, e, broken)

some_or_none : (xs : List ℕ) → ((w : ℕ) × (has xs w ≡ true)) ⊎ ((x : ℕ) → has xs x ≡ false)
some_or_none [] = inr (λ x. refl)
some_or_none (x ∷ xs) = inl (x, or_left (x == x) (has xs x) (itself x))

module _ (needs : List OpenNeed) (count : ℕ) (order : List ℕ) (is : IsOrder count order) where
  module _ (works : Works needs order) (need : OpenNeed) (at : ℕ) (e : slice_get needs at ≡ Some need)
      (below : (x : ℕ) → has need.blockers.items x ≡ true → x < count) where
    -- at the last of its blockers a helper is merged
    helped_by : (k m : ℕ) → IsLastOf need.blockers.items order k m → IsHelpedInTime order need
    helped_by k m last = elim (cases_Bool (list_any (has (take (suc k) order)) need.helpers.items)) [
      | inl some ↦ (let (h, helps, come) = some_of (has (take (suc k) order)) need.helpers.items some in let (j, less, f) = taken order (suc k) h come in record {
        helper = h;
        blocker = m;
        helps = helps;
        blocks = last.there;
        early = j;
        late = k;
        helper_at = f;
        blocker_at = last.is_at;
        in_time = omega (arith, less);
      })
      | inr none ↦ absurd (true≢false (sym (broken_by needs need at (has (take (suc k) order)) e come (not_of (has (take (suc k) order)) need.helpers.items none))
          ∙ works (suc k)))
    ]
      where
        come : (x : ℕ) → has need.blockers.items x ≡ true → has (take (suc k) order) x ≡ true
        come x blocks = elim (cases_Bool (m == x)) [
          | inl same ↦ among_first order (suc k) k x (last.is_at ∙ ap Some (same_of m x same)) (omega arith)
          | inr other ↦ (let before = last.others x blocks (λ same. true≢false (sym ((Decides-eqb m x).1 same) ∙ other)) (is.every x (below x blocks)) in
              let (j, less, f) = taken order k x before in among_first order (suc k) j x f (omega (arith, less)))
        ]

    helped : IsHelpedInTime order need
    helped = elim (some_or_none need.blockers.items) [
      | inl (w, blocks) ↦ (let (k, m, last) = last_of need.blockers.items order w blocks (is.every w (below w blocks)) in helped_by k m last)
      | inr none ↦ absurd (true≢false (sym (broken_by needs need at (has (take 0 order)) e (λ x h. absurd (true≢false (sym h ∙ none x))) (λ x h. refl)) ∙ works 0))
    ]

  -- a need that is helped in time isn't broken
  kept : (need : OpenNeed) (k : ℕ) → IsHelpedInTime order need → is_broken (has (take k order)) need ≡ true → ⊥
  kept need k help broken =
      let both = and_parts (list_all (has (take k order)) need.blockers.items) (not (list_any (has (take k order)) need.helpers.items)) broken in
      let come = each_of (has (take k order)) need.blockers.items both.0 help.blocker help.blocks in
      let (j, less, f) = taken order k help.blocker come in
      let same : j ≡ help.late = is.once j help.late help.blocker f help.blocker_at in
      let in_time = help.in_time in
      let there = among_first order k help.early help.helper help.helper_at (omega (arith, less, same, in_time)) in
      true≢false (sym there ∙ not_of (has (take k order)) need.helpers.items (unset (list_any (has (take k order)) need.helpers.items) both.1) help.helper help.helps)
    where
      unset : (b : Bool) → not b ≡ true → b ≡ false
      unset true h = absurd (false≢true h)
      unset false h = refl

  keep : ((need : OpenNeed) (at : ℕ) → slice_get needs at ≡ Some need → ((x : ℕ) → has need.blockers.items x ≡ true → x < count) → IsHelpedInTime order need)
      → Works needs order
  keep each k = elim (cases_Bool (breaks_one needs (has (take k order)))) [ inl h ↦ absurd (none h) | inr h ↦ h ]
    where
      none : breaks_one needs (has (take k order)) ≡ true → ⊥
      none h =
          let (need, at, e, broken) = broken_one (has (take k order)) needs h in
          let both = and_parts (list_all (has (take k order)) need.blockers.items) (not (list_any (has (take k order)) need.helpers.items)) broken in
          kept need k (each need at e (λ x blocks. below x (each_of (has (take k order)) need.blockers.items both.0 x blocks))) broken
        where
          below : (x : ℕ) → has (take k order) x ≡ true → x < count
          below x come = let (j, less, f) = taken order k x come in is.below x (has_at order j x f)

pub helps : HelpLaw
helps needs count order is = (helped needs count order is, keep needs count order is)
