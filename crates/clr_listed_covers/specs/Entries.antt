-- Entries that cover needs where the first of each of some pairs goes before the second.
use Rattle.std.specs.Prelude.{◌≡◌, ℕ, List, Option, Some, None, Contains, IfSome, map}
use Rattle.clr_cert.specs.declared.certificates.Entry.{Entry}
use Rattle.clr_needs.specs.declared.needs.Need.{Need}
use Rattle.clr_needs.specs.Blocking.{IsBlockerOf}
use Rattle.clr_needs.specs.Covers.{Entry as Witnesses}
use Rattle.clr_needs.specs.Needs.{IsPossible, IsServing}
use Rattle.clr_needs.specs.Settings.{Setting, Lived}
use Rattle.clr_open_needs.specs.OpenNeeds.{IsHelperOf}
use Rattle.clr_ordered_needs.specs.Covers.{AreCovered, EachHasCover, SubjectsNeverMeet, WitnessesCover}
use Rattle.clr_ordered_needs.specs.Turns.{Order}
use Rattle.clr_order_answers.specs.declared.pairs.Pair.{Pair}
use Rattle.clr_scene_orders.specs.SceneOrders.{order_by}
use Rattle.clr_listed_covers.specs.Covers.{Keeps}

-- each witness of the entry serves its need
abbrev pub AreServing : Setting ℕ → Entry → Type 0
AreServing c e = IsServing c e.need e.one × IfSome e.two (IsServing c e.need)

-- a need with its witnesses
abbrev pub witnesses_of : Entry → Witnesses
witnesses_of e = (e.need, e.one, e.two)

abbrev pub witnesses_in : List Entry → List Witnesses
witnesses_in entries = map witnesses_of entries

-- of one of the pairs the first helps the need and the second blocks it
abbrev pub IsHelpedBy : Setting ℕ → List Pair → Need → Type 0
IsHelpedBy c pairs n = (p : Pair) × Contains pairs p × IsHelperOf c n p.earlier × IsBlockerOf c n p.later

-- something covers each touched need where the first of each pair goes before the second
abbrev pub IsCoveredBy : Setting ℕ → List Pair → Type 0
IsCoveredBy c pairs = EachHasCover (order_by pairs) c

-- wherever the pairs are kept, the entry covers its need
pub record IsEntryOf (c : Setting ℕ) (pairs : List Pair) (n : Need) (e : Entry) : Type 0 where
  pub need : e.need ≡ n
  pub covers : (before : Order ℕ) → Keeps before pairs → (a : Lived ℕ) (b : Option (Lived ℕ)) → IsPossible c n a b
      → WitnessesCover before c n a b e.one e.two
  pub serving : AreServing c e

-- an entry of the need; or none where its subjects never stand together
abbrev pub IsEntryUnder : Setting ℕ → List Pair → Need → Option Entry → Type 0
IsEntryUnder c pairs n None = (before : Order ℕ) → Keeps before pairs → (a : Lived ℕ) (b : Option (Lived ℕ)) → IsPossible c n a b
    → SubjectsNeverMeet before a b
IsEntryUnder c pairs n (Some e) = IsEntryOf c pairs n e

-- wherever the pairs are kept, the entries cover each touched need, or its subjects never stand together; and their witnesses serve
pub record AreEntriesUnder (c : Setting ℕ) (pairs : List Pair) (entries : List Entry) : Type 0 where
  pub covered : (before : Order ℕ) → Keeps before pairs → AreCovered before c (witnesses_in entries)
  pub serving : (e : Entry) → Contains entries e → AreServing c e
