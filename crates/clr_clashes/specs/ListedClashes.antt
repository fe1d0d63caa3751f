-- A list of clashes: each smallest one, with the least need that its members break.
use Rattle.std.specs.Prelude.{◌≡◌, ℕ, List, Contains}
use Rattle.std.specs.declared.cmp.Ordering.{Ordering}
use Rattle.std.specs.declared.cmp.Ordering.TheVariants.{Less}
use Rattle.clr_needs.specs.declared.needs.Need.{Need}
use Rattle.clr_needs.specs.Needs.{Lists}
use Rattle.clr_needs.specs.Orders.{need_cmp}
use Rattle.clr_needs.specs.Settings.{Setting}
use Rattle.clr_clashes.specs.declared.listing.Clash.{Clash}
use Rattle.clr_clashes.specs.Clashes.{IsAllIn, IsBrokenBy, IsClash, IsSmallestClash}

-- members and a need, as a list of clashes has them
pub record ListedClash : Type 0 where
  pub members : List ℕ
  pub need : Need

abbrev pub listed_clash_of : Clash → ListedClash
listed_clash_of k = record { members = k.members.items; need = k.need }

-- listed clashes are ordered by need
abbrev pub listed_cmp : ListedClash → ListedClash → Ordering
listed_cmp j k = need_cmp j.need k.need

-- a smallest clash, and the least need that exactly its members break
pub record IsListedClash (c : Setting ℕ) (k : ListedClash) : Type 0 where
  pub smallest : IsSmallestClash c k.members
  pub broken : IsBrokenBy c k.need k.members
  pub least : (n : Need) → IsBrokenBy c n k.members → ¬ (need_cmp n k.need ≡ Less)

-- exactly the smallest clashes, each once, in the order of their needs; and each clash holds one of them
pub record AreSmallestClashes (c : Setting ℕ) (ks : List ListedClash) : Type 0 where
  pub lists : Lists listed_cmp (IsListedClash c) ks
  pub every : (list : List ℕ) → IsClash c list → (k : ListedClash) × Contains ks k × IsAllIn k.members list

-- some members hold none of the listed clashes
abbrev pub HoldNoneOf : List ListedClash → List ℕ → Type 0
HoldNoneOf ks positions = (k : ListedClash) → Contains ks k → ¬ (IsAllIn k.members positions)
