use Rattle.std.proofs.Common.{◌∙◌, ◌≡◌, ◌+◌, ◌==◌, ◌∷◌, [], ℕ, true, false, Contains, arith, List, Global, Vec, ap, map, subst, sym}
use Rattle.std.specs.Vec.{vec_len}
use Rattle.std.proofs.lemmas.Bool.{false≢true}
use Rattle.std.proofs.lemmas.Bool.Decides.{Decides-eqb}
use Rattle.std.proofs.lemmas.List.{map-append}
use Rattle.clr_groups.proofs.LabelledGroups.{AreGroupsTo, no_elements, no_group, one_group, some_element}
use Rattle.clr_groups.proofs.member_groups.groups_by.Goals as goal
use Rattle.clr_groups.proofs.member_groups.groups_by.Goals.{then-not-is_empty+in_ok-push, else-not-is_empty}

-- the groups as lists
abbrev lists : Vec (Vec ℕ Global) Global → List (List ℕ)
lists groups = map (λ (g : Vec ℕ Global). g.items) groups.items

nothing : (v : Vec ℕ Global) → vec_len v == 0 ≡ true → v.items ≡ []
nothing v e = let none = (Decides-eqb (vec_len v) 0).0 e in no_elements v.items (omega (arith, none))

something : (v : Vec ℕ Global) → vec_len v == 0 ≡ false → (x : ℕ) × Contains v.items x
something v e = some_element v.items (λ none. false≢true (sym e ∙ (Decides-eqb (vec_len v) 0).1 (omega (arith, none))))

pub loop-label-preserved : goal.loop-label-preserved
loop-label-preserved c = elim c.if-not-is_empty.branch [
  | then-not-is_empty+in_ok-push w ↦ one_group c.args.labels.now c.loop-label.label (lists c.loop-label.groups) c.in_ok-group.group.items c.loop-label.invariant
      c.in_ok-group.ensures (lists c.if-not-is_empty.groups)
      (ap lists w.groups-is ∙ ap (map (λ (g : Vec ℕ Global). g.items)) w.in_ok-push.ensures.items
      ∙ map-append (λ (g : Vec ℕ Global). g.items) c.loop-label.groups.items (c.in_ok-group.group ∷ []))
      (something c.in_ok-group.group (sym w.if-not-is_empty.ensures))
  | else-not-is_empty w ↦ subst (λ (v : Vec (Vec ℕ Global) Global). AreGroupsTo c.args.labels.now (c.loop-label.label + 1) (lists v)) (sym w.groups-is)
      (no_group c.args.labels.now c.loop-label.label (lists c.loop-label.groups) c.in_ok-group.group.items c.loop-label.invariant c.in_ok-group.ensures
      (nothing c.in_ok-group.group (sym w.if-not-is_empty.ensures)))
]
