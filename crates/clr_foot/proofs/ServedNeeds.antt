-- The needs of versions that a server serves, one version after another.
use Rattle.std.proofs.Common.{◌≡◌, ◌∙◌, ◌<◌, ◌≤◌, ◌+◌, ℕ, List, ◌⊎◌, inl, inr, Some, None, Contains, get_or, length, take, sym, subst}
use Rattle.clr_rules.specs.declared.rules.Rule.{Rule}
use Rattle.clr_needs.specs.declared.needs.Need.{Need}
use Rattle.clr_row_versions.specs.declared.versions.Version.{Version}
use Rattle.clr_row_versions.specs.Candidates.{IsNeedAmong, IsNeedOf}
use Rattle.clr_row_versions.specs.Gains.{Gains, GainsSome}
use Rattle.clr_foot.specs.Touches.{IsNeedServedAmong}
use Rattle.clr_needs.proofs.Reading.{all_taken, item_in, none_taken, one_more}
use Rattle.clr_row_versions.proofs.Gaining.{gains_as, gains_both, gains_none, then_none, then_some}

module _ (rules : List Rule) (number : ℕ) (r : Version) (near : List Version) where
  abbrev Served : List Version → Need → Type 0
  Served firsts = IsNeedServedAmong rules number r firsts near

  -- the needs of one version, alone or with another one near
  abbrev Here : Version → Need → Type 0
  Here s n = IsNeedOf rules number (Some r) s None n ⊎ IsNeedAmong rules number (Some r) s near n

  pub none_served : (needs : List Need) → Gains (Served near) (Served (take 0 near)) needs needs
  none_served needs = gains_none (Served near) (Served (take 0 near)) needs (λ n w. none_taken near w.0 w.1)

  pub one_served : (k : ℕ) (s : Version) (old middle later new : List Need) → k < length near → s ≡ get_or near k s
      → Gains (Served near) (Served (take k near)) old middle
      → Gains (IsNeedOf rules number (Some r) s None) (IsNeedOf rules number (Some r) s None) middle later
      → Gains (IsNeedAmong rules number (Some r) s near) (IsNeedAmong rules number (Some r) s near) later new
      → Gains (Served near) (Served (take (k + 1) near)) old new
  one_served k s old middle later new less is before alone pairs =
      gains_both (Served near) (Served (take k near)) (Here s) (Served (take (k + 1) near)) old middle new split before
      (gains_both (Served near) (IsNeedOf rules number (Some r) s None) (IsNeedAmong rules number (Some r) s near) (Here s) middle later new (λ n w. w)
      (gains_as (IsNeedOf rules number (Some r) s None) (IsNeedOf rules number (Some r) s None) (Served near) (IsNeedOf rules number (Some r) s None) middle
      later
      (λ n w. (s, item_in near k s less is, inl w)) (λ n w. w) alone)
      (gains_as (IsNeedAmong rules number (Some r) s near) (IsNeedAmong rules number (Some r) s near) (Served near) (IsNeedAmong rules number (Some r) s near)
      later new
      (λ n w. (s, item_in near k s less is, inr w)) (λ n w. w) pairs))
    where
      split : (n : Need) → Served (take (k + 1) near) n → Served (take k near) n ⊎ Here s n
      split n w = by (one_more near k s w.0 less w.1)
        where
          by : Contains (take k near) w.0 ⊎ (w.0 ≡ get_or near k s) → Served (take k near) n ⊎ Here s n
          by (inl earlier) = inl (w.0, earlier, w.2)
          by (inr last) = inr (subst (λ u. Here u n) (last ∙ sym is) w.2)

  -- a call for one version that finds no memory: alone, or beside others
  pub none_alone : (k : ℕ) (old middle new : List Need) → new ≡ middle → Gains (Served near) (Served (take k near)) old middle → GainsSome (Served near) old new
  none_alone k old middle new is before = then_none (Served near) (Served (take k near)) old middle new is before

  pub some_pairs : (k : ℕ) (s : Version) (old middle later new : List Need) → k < length near → s ≡ get_or near k s
      → Gains (Served near) (Served (take k near)) old middle
      → Gains (IsNeedOf rules number (Some r) s None) (IsNeedOf rules number (Some r) s None) middle later
      → GainsSome (IsNeedAmong rules number (Some r) s near) later new
      → GainsSome (Served near) old new
  some_pairs k s old middle later new less is before alone pairs =
      then_some (Served near) (Served (take k near)) (IsNeedAmong rules number (Some r) s near) old later new
      (λ n w. (s, item_in near k s less is, inr w))
      (gains_both (Served near) (Served (take k near)) (IsNeedOf rules number (Some r) s None) (Served (take k near)) old middle later (λ n w. inl w) before
      (gains_as (IsNeedOf rules number (Some r) s None) (IsNeedOf rules number (Some r) s None) (Served near) (IsNeedOf rules number (Some r) s None) middle
      later
      (λ n w. (s, item_in near k s less is, inl w)) (λ n w. w) alone))
      pairs

  pub all_served : (k : ℕ) (old new : List Need) → length near ≤ k → Gains (Served near) (Served (take k near)) old new
      → Gains (Served near) (Served near) old new
  all_served k old new past g = gains_as (Served near) (Served (take k near)) (Served near) (Served near) old new (λ n w. w)
      (λ n w. (w.0, all_taken near k w.0 past w.1, w.2)) g
