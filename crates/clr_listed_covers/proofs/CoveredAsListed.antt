-- Where a helper of each open need stands before a blocker, pairs cover every touched need, and none of them can be left out.
use Rattle.std.proofs.Common.{◌≡◌, ◌⊎◌, ℕ, true, List, ◌++◌, Option, inl, inr, Contains, length, arith}
use Rattle.std.specs.List.{range_with_len}
use Rattle.clr_rows.specs.Contents.{Changes, Content}
use Rattle.clr_rules.specs.declared.rules.Rule.{Rule}
use Rattle.clr_cert.specs.declared.certificates.Entry.{Entry}
use Rattle.clr_needs.specs.declared.needs.Need.{Need}
use Rattle.clr_needs.specs.Members.{setting}
use Rattle.clr_needs.specs.Settings.{Setting, Lived}
use Rattle.clr_needs.proofs.PartPositions.{below_member}
use Rattle.clr_ordered_needs.specs.Covers.{EachHasCover}
use Rattle.clr_ordered_needs.specs.Helpers.{HelpComesFirst, IsServedAlways}
use Rattle.clr_ordered_needs.specs.Turns.{Order}
use Rattle.clr_ordered_needs.proofs.HelpLaws.{cover_is_help}
use Rattle.clr_order_answers.specs.declared.pairs.Pair.{Pair}
use Rattle.clr_order_answers.specs.Pairs.{ArePairsFor}
use Rattle.clr_open_needs.specs.declared.listing.OpenNeeds.{OpenNeeds}
use Rattle.clr_open_needs.specs.OpenNeeds.{AreOpenNeeds}
use Rattle.clr_scene_orders.specs.SceneOrders.{order_by}
use Rattle.clr_scene_orders.proofs.Covering.{none_covered}
use Rattle.clr_listed_covers.specs.Entries.{AreEntriesUnder}
use Rattle.clr_listed_covers.specs.ListedCovers.{IsCoveredAsListed, StandsAsListed}
use Rattle.clr_listed_covers.proofs.LateLaws.{position_of}

-- what is covered is covered where more members go before others
module _ (before more : Order ℕ) (goes : (x y : ℕ) → before x y ≡ true → more x y ≡ true) (c : Setting ℕ) where
  help_more : (n : Need) (a : Lived ℕ) (b : Option (Lived ℕ)) → IsServedAlways c n a b ⊎ HelpComesFirst before c n a b
      → IsServedAlways c n a b ⊎ HelpComesFirst more c n a b
  help_more n a b (inl always) = inl always
  help_more n a b (inr (x, y, helps, blocks, inl same)) = inr (x, y, helps, blocks, inl same)
  help_more n a b (inr (x, y, helps, blocks, inr h)) = inr (x, y, helps, blocks, inr (goes x y h))

  pub covered_by_more : EachHasCover before c → EachHasCover more c
  covered_by_more each n a b possible touched =
      (cover_is_help more c n a b possible).1 (help_more n a b ((cover_is_help before c n a b possible).0 (each n a b possible touched)))

module _ (rules : List Rule) (root : Content) (sets : List Changes) where
  abbrev c : Setting ℕ
  c = setting rules root sets

  module _ (found : OpenNeeds) (are : AreOpenNeeds c found) (pairs : List Pair)
      (for_all : ArePairsFor found.sides.items (range_with_len 0 (length sets)) pairs) where
    stands : (p : Pair) → Contains pairs p → StandsAsListed c p
    stands p h =
        let in_order = for_all.in_order p h in
        let early = position_of (length sets) in_order.early p.earlier in_order.earlier_at in
        let late = position_of (length sets) in_order.late p.later in_order.later_at in
        let less = early.less in
        let less_too = late.less in
        let same = early.same in
        let same_too = late.same in
        let rises = in_order.in_order in
        record {
          earlier = below_member rules root sets p.earlier (omega (arith, less, same));
          later = below_member rules root sets p.later (omega (arith, less_too, same_too));
          in_order = omega (arith, same, same_too, rises);
        }

    pub covered_as_listed : (entries : List Entry) → AreEntriesUnder c pairs entries → IsCoveredAsListed c pairs entries
    covered_as_listed entries covers = record {
      listed = stands;
      under = covers;
      needed = λ firsts p others e before said each. none_covered c found are (firsts ++ others) (for_all.needed firsts p others e)
          (covered_by_more before (order_by (firsts ++ others)) said c each);
    }
