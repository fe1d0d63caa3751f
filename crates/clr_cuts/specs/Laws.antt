-- What cuts promise, by definitions alone.
use Rattle.std.specs.Prelude.{◌≡◌, ◌↔◌, ◌⊎◌, ℕ, Bool, List, [], ◌++◌, Option, Some, true, false, Contains}
use Rattle.clr_rows.specs.Held.{Held}
use Rattle.clr_rules.specs.declared.needs.Ask.{Ask}
use Rattle.clr_rules.specs.declared.needs.Broken.{Broken}
use Rattle.clr_rules.specs.declared.rules.Rule.{Rule}
use Rattle.clr_rules.specs.Needs.{BreaksNoMore, Holds, IsBroken, IsMet, IsNeed, View}
use Rattle.clr_needs.specs.declared.needs.Need.{Need}
use Rattle.clr_needs.specs.declared.needs.VersionId.{VersionId}
use Rattle.clr_needs.specs.Blocking.{IsBlockerOf}
use Rattle.clr_needs.specs.Covers.{AreBlockers, AreCovered, Entry, IsUncovered, IsUncoveredNeed}
use Rattle.clr_needs.specs.Independence.{AreDependent}
use Rattle.clr_needs.specs.Needs.{AreTouchedNeeds, IsPossible, IsServing, IsTouched, IsTouchedBy}
use Rattle.clr_needs.specs.Picks.{Blocks, Picks}
use Rattle.clr_needs.specs.Settings.{Setting, AreAmong, AreDisjoint, DoChange, Lived, view_with}
use Rattle.clr_cuts.specs.Audits.{AreSections, AreServed}
use Rattle.clr_cuts.specs.Cuts.{HasChanged, HasInvolved, IsCut, AreSomeOf, IsSafeCut, with_root}
use Rattle.clr_cuts.specs.Others.{IsCutBesideOthers}
use Rattle.clr_cuts.specs.Passes.{AreRowsOf, IsPass, TakesReach, lacked}
use Rattle.clr_cuts.specs.Reach.{HasReach, HasTied}

-- safe cuts ------------------------------------------------------------------------------------

-- the same needs are touched, and what covers over the cut covers over the whole. So where no cell is changed by two members, the whole with the changes
-- of more members over it breaks no need but those that it breaks with fewer; and where every rule holds in the whole, it holds with those of any members
pub record AnswersSafely {A : Type 0} (c : Setting A) (rows : View) : Type 0 where
  pub touched : (n : Need) → IsTouched (with_root c rows) n ↔ IsTouched c n
  pub covered : (es : List Entry) → AreCovered (with_root c rows) es → AreCovered c es
  pub no_more : (es : List Entry) → AreDisjoint c → AreCovered (with_root c rows) es
      → (fewer more : List A) → AreAmong c fewer more → AreAmong c more c.members → BreaksNoMore c.rules (view_with c fewer) (view_with c more)
  pub holds : (es : List Entry) → AreDisjoint c → AreCovered (with_root c rows) es → Holds c.rules c.root
      → (ts : List A) → AreAmong c ts c.members → Holds c.rules (view_with c ts)

abbrev pub SafeCutLaw : Type 0
SafeCutLaw = (c : Setting ℕ) (rows : View) → IsSafeCut c rows → AnswersSafely c rows

-- cuts -------------------------------------------------------------------------------------------

-- a touched need has the same subjects, servers, picks and blockers over the cut and over the whole
pub record IsSameNeed (c : Setting ℕ) (rows : View) (n : Need) : Type 0 where
  pub possible : (a : Lived ℕ) (b : Option (Lived ℕ)) → IsPossible (with_root c rows) n a b ↔ IsPossible c n a b
  pub servers : (v : VersionId) → IsServing (with_root c rows) n v ↔ IsServing c n v
  pub uncovered : IsUncoveredNeed (with_root c rows) n ↔ IsUncoveredNeed c n
  pub picks : (pick : Option (VersionId × Option VersionId)) → Picks (with_root c rows) n pick ↔ Picks c n pick
  pub blocks : (list : List ℕ) → Blocks (with_root c rows) n list ↔ Blocks c n list
  pub blockers : (x : ℕ) → IsBlockerOf (with_root c rows) n x ↔ IsBlockerOf c n x

-- the answers over the cut are those over the whole: the list of touched needs, what covers them, and each of them; and one that nothing covers over the
-- cut is newly broken in the whole where its blockers' changes are over it
pub record AnswersTheSame (c : Setting ℕ) (rows : View) : Type 0 where
  pub safely : AnswersSafely c rows
  pub lists : (ns : List Need) → AreTouchedNeeds (with_root c rows) ns ↔ AreTouchedNeeds c ns
  pub covered : (es : List Entry) → AreCovered (with_root c rows) es ↔ AreCovered c es
  pub needs : (n : Need) → IsTouched c n → IsSameNeed c rows n
  pub breaks : (ts : List ℕ) (n : Need) (a : Lived ℕ) (b : Option (Lived ℕ))
      → AreDisjoint c
      → DoChange (with_root c rows)
      → IsUncovered (with_root c rows) n a b
      → IsTouchedBy (with_root c rows) n a b
      → AreBlockers (with_root c rows) n a b ts
      → ¬ (BreaksNoMore c.rules c.root (view_with c ts))

abbrev pub CutLaw : Type 0
CutLaw = (c : Setting ℕ) (rows : View) → IsCut c rows → AnswersTheSame c rows

-- the whole is a cut of itself
abbrev pub WholeLaw : Type 0
WholeLaw = (c : Setting ℕ) → IsCut c c.root

-- where the cut has all subjects of needs that involve a member, the same members are dependent
abbrev pub DependentLaw : Type 0
DependentLaw = (c : Setting ℕ) (rows : View)
    → AreSomeOf rows c.root
    → HasChanged c rows
    → HasInvolved c rows
    → (x y : ℕ) → AreDependent (with_root c rows) x y ↔ AreDependent c x y

-- reach --------------------------------------------------------------------------------------------

abbrev pub ReachLaw : Type 0
ReachLaw = (c : Setting ℕ) (rows : View) → HasReach c rows → IsCut c rows

abbrev pub TiedLaw : Type 0
TiedLaw = (c : Setting ℕ) (rows : View) → HasChanged c rows → HasTied c rows → HasInvolved c rows

-- passes ---------------------------------------------------------------------------------------------

-- some rows of a root have all in their reach where a pass over all rows of the root, by a test that takes each row in reach, answers none
abbrev pub PassLaw : Type 0
PassLaw = (c : Setting ℕ) (rows : View) (test : Held → Bool) (list : List Held)
    → AreRowsOf c.root list
    → AreSomeOf rows c.root
    → TakesReach c rows test
    → lacked c rows test list ≡ []
    → HasReach c rows

-- from any rows of a root three passes lead to rows that have all in their reach
abbrev pub ThreePassesLaw : Type 0
ThreePassesLaw = (c : Setting ℕ) (list : List Held) (start first second third : View)
    → AreRowsOf c.root list
    → AreSomeOf start c.root
    → IsPass c list start first
    → IsPass c list first second
    → IsPass c list second third
    → HasReach c third

-- a pass over one list and then over another answers what it answers of the one, and then what it answers of the other
abbrev pub SplitPassLaw : Type 0
SplitPassLaw = (c : Setting ℕ) (rows : View) (test : Held → Bool) (one other : List Held)
    → lacked c rows test (one ++ other) ≡ lacked c rows test one ++ lacked c rows test other

-- where another root still has these rows, and of its rows that the root hasn't none is lacked, they have all in their reach of the other root too
abbrev pub ChangedRootLaw : Type 0
ChangedRootLaw = (c : Setting ℕ) (rows other : View) (test : Held → Bool) (news : List Held)
    → HasReach c rows
    → TakesReach c rows test
    → AreSomeOf rows other
    → ((s : Held) → other s.0 ≡ Some s.1 → (c.root s.0 ≡ Some s.1) ⊎ Contains news s)
    → lacked c rows test news ≡ []
    → HasReach (with_root c other) rows

-- audits -------------------------------------------------------------------------------------------

-- a need of rows that have what serves it is met there just where it is met in the root, and so every rule that holds in the root holds there
pub record IsAuditedAlike (rules : List Rule) (root rows : View) : Type 0 where
  pub met : (ask : Ask) (s : Held) (t : Option Held) → IsNeed rules rows ask s t → IsMet rules rows ask s t ↔ IsMet rules root ask s t
  pub holds : Holds rules root → Holds rules rows

abbrev pub ServedLaw : Type 0
ServedLaw = (rules : List Rule) (root rows : View) → AreServed rules root rows → IsAuditedAlike rules root rows

-- the broken needs of a root are those of its sections, and every rule holds in it where every rule holds in each
pub record IsAuditedBySections {K : Type 0} (rules : List Rule) (root : View) (sections : K → View) : Type 0 where
  pub broken : (b : Broken) → IsBroken rules root b ↔ ((k : K) × IsBroken rules (sections k) b)
  pub holds : ((k : K) → Holds rules (sections k)) → Holds rules root

abbrev pub AuditLaw : Type 0
AuditLaw = (rules : List Rule) (root : View) (sections : ℕ → View) → AreSections rules root sections → IsAuditedBySections rules root sections

-- other members --------------------------------------------------------------------------------------

-- none of the chosen members depends on another one
abbrev pub OthersLaw : Type 0
OthersLaw = (c : Setting ℕ) (rows : View) (chosen : ℕ → Bool)
    → IsCutBesideOthers c rows chosen
    → (x y : ℕ) → chosen x ≡ true → chosen y ≡ false → ¬ (AreDependent c x y)
