-- Needs that may tie members, with the members that they involve.
use Rattle.std.specs.Prelude.{◌≡◌, ◌≢◌, ◌<◌, ◌⊎◌, ℕ, Bool, true, false, List, Some, Contains}
use Rattle.std.specs.List.Sorted.{IsStrictlySortedBy}
use Rattle.std.specs.Ordering.{bool_cmp, nat_cmp, ordering_then}
use Rattle.std.specs.declared.cmp.Ordering.{Ordering}
use Rattle.clr_foot.specs.Involvement.{IsInvolving}
use Rattle.clr_foot.specs.declared.ties.TieKind.{TieKind}
use Rattle.clr_foot.specs.declared.ties.TieKind.TheVariants.{Touching, Other}
use Rattle.clr_foot.specs.Ties.{IsTie}
use Rattle.clr_needs.specs.declared.needs.Need.{Need}
use Rattle.clr_needs.specs.declared.needs.VersionId.{VersionId}
use Rattle.clr_needs.specs.Independence.{Names}
use Rattle.clr_needs.specs.Needs.{IsTouched}
use Rattle.clr_needs.specs.Orders.{need_cmp}
use Rattle.clr_needs.specs.Settings.{Setting, Lived, changer, version}
use Rattle.clr_row_versions.specs.Candidates.{IsSubject}
use Rattle.clr_groups.specs.declared.member_needs.MemberNeed.{MemberNeed}

-- pairs of a need and a member are ordered by need, then by member, then by whether the member touches the need
abbrev pub member_need_cmp : MemberNeed → MemberNeed → Ordering
member_need_cmp x y = ordering_then (need_cmp x.need y.need) (ordering_then (nat_cmp x.member y.member) (bool_cmp x.touches y.touches))

-- a need that involves a member, and is touched if the member is said to touch it
abbrev pub IsPairOf : Setting ℕ → ℕ → Bool → Need → Type 0
IsPairOf c member touches n = IsInvolving c member n × (touches ≡ true → IsTouched c n)

abbrev pub IsPair : Setting ℕ → MemberNeed → Type 0
IsPair c x = IsPairOf c x.member x.touches x.need

-- the need is touched, or involves another member too
abbrev pub IsTying : Setting ℕ → ℕ → Need → Type 0
IsTying c member n = IsTouched c n ⊎ ((y : ℕ) × (y ≢ member) × IsInvolving c y n)

-- the need with the member, said to be touched by it or not
abbrev pub HasPair : List MemberNeed → Need → ℕ → Type 0
HasPair pairs n member = (touches : Bool) × Contains pairs (record { need = n; member = member; touches = touches })

-- pairs of needs and members below a number, ascending, among them all of needs that are touched or involve two members, and each touched need with a
-- member that touches it
pub record TieMembers (c : Setting ℕ) (count : ℕ) (pairs : List MemberNeed) : Type 0 where
  pub ascending : IsStrictlySortedBy member_need_cmp pairs
  pub only : (x : MemberNeed) → Contains pairs x → (x.member < count) × IsPair c x
  pub every : (n : Need) (member : ℕ) → member < count → IsInvolving c member n → IsTying c member n → HasPair pairs n member
  pub touched : (n : Need) → IsTouched c n → (member : ℕ) × Contains pairs (record { need = n; member = member; touches = true })

-- what is added for a need --------------------------------------------------------------------

-- the need with the member that changes the cell of a subject, if it is another than the given one
pub record IsOfChanger (c : Setting ℕ) (n : Need) (member : ℕ) (subject : VersionId) (x : MemberNeed) : Type 0 where
  pub need : x.need ≡ n
  pub changes : changer c subject.cell ≡ Some x.member
  pub other : x.member ≢ member
  pub untouched : x.touches ≡ false

-- a subject's life names the member
abbrev pub NamesSubject : Setting ℕ → Need → ℕ → Type 0
NamesSubject c n x = (v : VersionId) × (l : Lived ℕ) × IsSubject n v × (version c v ≡ Some l) × Names l.life x

-- the need with a member, or with another one that the life of a subject names
pub data IsOfNeed (c : Setting ℕ) (member : ℕ) (touches : Bool) (n : Need) (x : MemberNeed) : Type 0 where
  itself : x ≡ record { need = n; member = member; touches = touches } → IsOfNeed c member touches n x
  of_subject : x.need ≡ n → x.member ≢ member → x.touches ≡ false → NamesSubject c n x.member → IsOfNeed c member touches n x

-- a need of a kind of a version whose life names the member
abbrev pub IsTied : TieKind → Setting ℕ → ℕ → Need → Type 0
IsTied kind c member n = (v : VersionId) × (l : Lived ℕ) × (version c v ≡ Some l) × Names l.life member × IsTie kind v.fresh c n.rule v n

-- such a need, by which the member touches something or not, with the member or with another one that the life of a subject names
abbrev pub IsOfTies : Setting ℕ → ℕ → MemberNeed → Type 0
IsOfTies c member x = (IsTied Touching c member x.need × IsOfNeed c member true x.need x) ⊎ (IsTied Other c member x.need × IsOfNeed c member false x.need x)
