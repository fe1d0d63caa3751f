-- The members of a merge set in which no test of names fails: other workspaces than LIVE, each once, so that they are at most `MOST_MEMBERS`.
use Rattle.std.proofs.Common.{◌≡◌, ℕ, suc, ◌≤◌, Bool, true, false, cond, ◌||◌, List, [], ◌∷◌, Some, None, length, map, refl, sym, ap, ◌∙◌, arith}
use Rattle.std.specs.Prelude.{slice_get}
use Rattle.std.specs.Cmp.{IsEquivalence}
use Rattle.std.specs.List.{AllByRecursion, IsDistinct, list_any}
use Rattle.std.proofs.lemmas.Bool.{or_left, or_right}
use Rattle.std.proofs.lemmas.List.{length-map}
use Rattle.std.proofs.lemmas.Map.Made.{length-le_from_is_member}
use Rattle.clr_workspaces.specs.Marks.{Name}
use Rattle.clr_workspaces.specs.Workspaces.{Workspace, live_workspace}
use Rattle.clr_workspaces.specs.Soundness.{IsSound}
use Rattle.clr_needs.specs.declared.limits.TheConstants.{MOST_MEMBERS}
use Rattle.clr_steps.specs.Names.{has, is_live, same_name}
use Rattle.clr_steps.specs.Offices.{Office, find_name, workspace}
use Rattle.clr_steps.specs.Quiet.{MergeSet}
use Rattle.clr_steps.proofs.FindLemmas.{other_way, same_is, same_itself}
use Rattle.clr_clearance.specs.Verdicts.{member_fault}
use Rattle.clr_clearance.proofs.ClearLemmas.{AllDiffer, faultless}
use Rattle.clr_clearance.proofs.StaticLemmas.{child_under}

-- names as keys ------------------------------------------------------------------------------------

turned : (x y : Name) → same_name x y ≡ same_name y x
turned x y = by (same_name x y) refl
  where
    by : (b : Bool) → same_name x y ≡ b → same_name x y ≡ same_name y x
    by true e = let one = same_is x y e in ap (λ z. same_name z y) one ∙ ap (same_name y) (sym one)
    by false e = e ∙ sym (other_way x y e)

same_equiv : IsEquivalence same_name
same_equiv = record { refl = same_itself; symm = turned; congr = λ x y z e. ap (λ w. same_name w z) (same_is x y e) }

apart : (n : Name) (ns : List Name) → ((k : ℕ) (m : Name) → slice_get ns k ≡ Some m → same_name n m ≡ false) → AllByRecursion (λ m. same_name n m ≡ false) ns
apart n [] f = tt
apart n (m ∷ ms) f = (f 0 m refl, apart n ms (λ k. f (suc k)))

distinct : (names : List Name) → AllDiffer names → IsDistinct same_name names
unfolding IsDistinct
distinct [] differ = tt
distinct (n ∷ ns) differ = (
  apart n ns (λ k m e. other k m e (same_name n m) refl),
  distinct ns (λ j k name e f. let next = differ (suc j) (suc k) name e f in
      omega (arith, next)),
)
  where
    other : (k : ℕ) (m : Name) → slice_get ns k ≡ Some m → (b : Bool) → same_name n m ≡ b → same_name n m ≡ false
    other k m e true same = absurd (let first : 0 ≡ suc k = differ 0 (suc k) n refl (e ∙ ap Some (sym (same_is n m same))) in omega (arith, first))
    other k m e false same = same

-- among the names of workspaces --------------------------------------------------------------------

abbrev names_of : List Workspace → List Name
names_of ws = map (λ w. w.name) ws

any_is : (names : List Name) (name : Name) → list_any (same_name name) names ≡ has names name
any_is [] name = refl
any_is (n ∷ ns) name = ap (λ b. b || list_any (same_name name) ns) (turned name n) ∙ ap (λ b. same_name n name || b) (any_is ns name)

named : (name : Name) (ws : List Workspace) (w : Workspace) → find_name name ws ≡ Some w → list_any (same_name name) (names_of ws) ≡ true
named name [] w e = absurd (cc)
named name (v ∷ vs) w e = by (named name vs w) (same_name name v.name) refl e
  where
    by : (find_name name vs ≡ Some w → list_any (same_name name) (names_of vs) ≡ true) → (b : Bool) → same_name name v.name ≡ b
        → cond b (Some v) (find_name name vs) ≡ Some w
        → list_any (same_name name) (names_of (v ∷ vs)) ≡ true
    by rest true same f = or_left (same_name name v.name) (list_any (same_name name) (names_of vs)) same
    by rest false same f = or_right (same_name name v.name) (list_any (same_name name) (names_of vs)) (rest f)

module _ (o : Office) (s : MergeSet) (free : member_fault o s ≡ None) where
  found : (name : Name) → list_any (same_name name) s.members ≡ true → list_any (same_name name) (names_of o.workspaces) ≡ true
  unfolding workspace
  found name h =
      let child = child_under o s name ((faultless o s free).children name (sym (any_is s.members name) ∙ h)) in
      by (is_live name) child.at child.is
    where
      by : (b : Bool) (w : Workspace) → cond b None (find_name name o.workspaces) ≡ Some w → list_any (same_name name) (names_of o.workspaces) ≡ true
      by true w e = absurd (cc)
      by false w e = named name o.workspaces w e

  pub few_members : IsSound (live_workspace o.live ∷ o.workspaces) → length s.members ≤ MOST_MEMBERS
  few_members sound =
      let fewer = length-le_from_is_member same_equiv s.members (names_of o.workspaces) (distinct s.members (faultless o s free).differ) found in
      let long = length-map o.workspaces (λ (w : Workspace). w.name) in
      let few = sound.few in
      omega (arith, fewer, long, few)
