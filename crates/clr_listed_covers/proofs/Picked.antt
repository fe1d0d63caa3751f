-- What is picked for a need covers it in each order; and where nothing is, a need that is covered under pairs has a pair.
use Rattle.std.proofs.Common.{◌≡◌, ◌∙◌, ◌⊎◌, ℕ, List, Option, Some, None, inl, inr, IfSome, refl, sym, ap, subst}
use Rattle.clr_rules.proofs.Elements.{contained}
use Rattle.clr_needs.specs.declared.needs.Need.{Need}
use Rattle.clr_needs.specs.declared.needs.VersionId.{VersionId}
use Rattle.clr_needs.specs.Covers.{CoverTogether, IsLifeOf}
use Rattle.clr_needs.specs.Covers as unordered
use Rattle.clr_needs.specs.Needs.{AreOpposed, IsPossible, IsServing, IsTouchedBy}
use Rattle.clr_needs.specs.Picks.{HasBoth, IsPick}
use Rattle.clr_needs.specs.Settings.{Setting, Lifetime, Always, With, Without, Lived}
use Rattle.clr_ordered_needs.specs.Covers.{EachHasCover, HasCover, Lasts, LastsWhile, LastsWhileIfAny, OneAlwaysLives, WitnessesCover}
use Rattle.clr_ordered_needs.specs.Helpers.{HelpComesFirst, IsHelper, IsServedAlways}
use Rattle.clr_ordered_needs.specs.Turns.{Order, no_order}
use Rattle.clr_ordered_needs.proofs.EmptyOrder.{no_order_is_every_order}
use Rattle.clr_ordered_needs.proofs.HelpLaws.{cover_is_help}
use Rattle.clr_order_answers.specs.declared.pairs.Pair.{Pair}
use Rattle.clr_scene_orders.specs.SceneOrders.{order_by}
use Rattle.clr_scene_orders.proofs.Covering.{pair_by}
use Rattle.clr_listed_covers.specs.Entries.{IsHelpedBy}

-- in each order ----------------------------------------------------------------------------------------

module _ (before : Order ℕ) (c : Setting ℕ) (n : Need) (a : Lived ℕ) (b : Option (Lived ℕ)) where
  lasts_itself : (k : Lifetime ℕ) → LastsWhile before k k
  lasts_itself Always = tt
  lasts_itself (With x) = inl refl
  lasts_itself (Without x) = inl refl

  lasting : (l : Lifetime ℕ) → unordered.Lasts l a b → Lasts before l a b
  lasting l (inl e) = inl (subst (λ k. LastsWhile before k a.life) (sym e) tt)
  lasting l (inr (inl e)) = inl (subst (LastsWhile before l) e (lasts_itself l))
  lasting l (inr (inr h)) = inr (by b h)
    where
      by : (d : Option (Lived ℕ)) → IsLifeOf l d → LastsWhileIfAny before l d
      by None g = absurd g
      by (Some d) same = subst (LastsWhile before l) same (lasts_itself l)

  pub pick_covers : (v : VersionId) (w : Option VersionId) → IsPick c n a b (Some (v, w)) → WitnessesCover before c n a b v w
  pick_covers v None pick = let (l, serve, last) = pick.0 in (l, serve, lasting l.life last)
  pick_covers v (Some w) pick =
      let (x, both, first, old, new) = pick.1 in
      let (l, serve, e) = old.0 in
      let (m, serve_too, f) = new.0 in
      inr (inr (l, m, serve, serve_too, subst (λ k. OneAlwaysLives before k m.life) (sym e) (subst (OneAlwaysLives before (Without x)) (sym f) (inl refl))))

module _ (c : Setting ℕ) (n : Need) (a : Lived ℕ) (b : Option (Lived ℕ)) (possible : IsPossible c n a b) where
  pub pick_serves : (v : VersionId) (w : Option VersionId) → IsPick c n a b (Some (v, w)) → IsServing c n v × IfSome w (IsServing c n)
  pick_serves v None pick = let (l, serve, last) = pick.0 in ((a, b, l, possible, serve), tt)
  pick_serves v (Some w) pick =
      let (x, both, first, old, new) = pick.1 in
      let (l, serve, e) = old.0 in
      let (m, serve_too, f) = new.0 in
      ((a, b, l, possible, serve), (a, b, m, possible, serve_too))

  -- where nothing is picked ------------------------------------------------------------------------------

  member_of_pair : (v w : VersionId) → CoverTogether c n a b v w → (x : ℕ) × HasBoth c n a b x
  member_of_pair v w pair = by pair.0.life pair.1.life refl refl pair.4
    where
      by : (l m : Lifetime ℕ) → pair.0.life ≡ l → pair.1.life ≡ m → AreOpposed l m → (x : ℕ) × HasBoth c n a b x
      by (With x) (Without y) e f same = (x, ((w, (pair.1, pair.3, f ∙ ap Without (sym same))), (v, (pair.0, pair.2, e))))
      by (Without x) (With y) e f same = (x, ((v, (pair.0, pair.2, e)), (w, (pair.1, pair.3, f ∙ ap With (sym same)))))
      by _ _ e f same = absurd same

  module _ (touched : IsTouchedBy c n a b) (none : IsPick c n a b None) where
    uncovered : unordered.IsUncovered c n a b
    uncovered = record {
      possible = possible;
      not_alone = none.0;
      not_together = λ v w pair. (let both = member_of_pair v w pair in none.1 both.0 both.1);
    }

    not_covered : HasCover no_order c n a b → ⊥
    not_covered cover = (((no_order_is_every_order c).uncovered n a b).1 (uncovered, touched)).no_cover cover

    helped : (pairs : List Pair) → IsServedAlways c n a b ⊎ HelpComesFirst (order_by pairs) c n a b → IsHelpedBy c pairs n
    helped pairs (inl always) = absurd (not_covered ((cover_is_help no_order c n a b possible).1 (inl always)))
    helped pairs (inr (x, y, helps, blocks, inl same)) = absurd (not_covered ((cover_is_help no_order c n a b possible).1
        (inr (x, y, helps, blocks, inl same))))
    helped pairs (inr (x, y, helps, blocks, inr goes)) =
        let (p, there, is, is_too) = pair_by pairs x y goes in (
          p,
          contained p pairs there,
          (a, b, possible, subst (IsHelper c n a b) (sym is) helps),
          (a, b, possible, subst (unordered.IsBlocker c n a b) (sym is_too) blocks),
        )

    pub helped_by : (pairs : List Pair) → EachHasCover (order_by pairs) c → IsHelpedBy c pairs n
    helped_by pairs each = helped pairs ((cover_is_help (order_by pairs) c n a b possible).0 (each n a b possible touched))
