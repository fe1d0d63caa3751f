-- The members of each label are groups.
use Rattle.std.proofs.Common.{◌≡◌, ◌∙◌, ◌<◌, ◌+◌, ℕ, zero, suc, List, [], ◌∷◌, ◌++◌, inl, inr, Contains, length, refl, sym, ap, subst}
use Rattle.std.proofs.Common.{arith, Some}
use Rattle.std.specs.Prelude.{slice_get}
use Rattle.std.specs.Ordering.{nat_cmp}
use Rattle.std.proofs.lemmas.Bool.{cases_lt}
use Rattle.std.proofs.lemmas.List.Elements.{Contains-append_left, Contains-append_right}
use Rattle.std.proofs.lemmas.Option.{slice_get_read}
use Rattle.clr_rows.specs.Contents.{Changes, Content}
use Rattle.clr_rules.specs.declared.rules.Rule.{Rule}
use Rattle.clr_rules.proofs.Elements.{among, contained}
use Rattle.clr_needs.specs.Members.{setting}
use Rattle.clr_needs.specs.Needs.{Lists}
use Rattle.clr_groups.specs.Groups.{AreGroups}
use Rattle.clr_groups.specs.Labels.{AreGroupsBy, AreLabels, IsLabelled, label}
use Rattle.clr_needs.proofs.BlockerLaws.{member_below}
use Rattle.clr_needs.proofs.PartPositions.{below_member}

pub no_elements : (list : List ℕ) → length list ≡ 0 → list ≡ []
no_elements [] e = refl
no_elements (x ∷ xs) e = absurd (omega (arith, e))

pub some_element : (list : List ℕ) → ¬ (length list ≡ 0) → (x : ℕ) × Contains list x
some_element [] e = absurd (e refl)
some_element (x ∷ xs) e = (x, contained x (x ∷ xs) (inl refl))

-- groups, one label after another ----------------------------------------------------------------

-- where the element at a position of a longer list stands
pub data PutAt {X : Type 0} (old : List X) (g : X) (i : ℕ) (h : X) : Type 0 where
  earlier : slice_get old i ≡ Some h → PutAt old g i h
  last : i ≡ length old → h ≡ g → PutAt old g i h

pub put_at : {X : Type 0} (old : List X) (g : X) (i : ℕ) (h : X) → slice_get (old ++ g ∷ []) i ≡ Some h → PutAt old g i h
put_at [] g zero h e = last refl (cc)
put_at [] g (suc i) h e = cc
put_at (x ∷ xs) g zero h e = earlier e
put_at (x ∷ xs) g (suc i) h e = by (put_at xs g i h e)
  where
    by : PutAt xs g i h → PutAt (x ∷ xs) g (suc i) h
    by (earlier f) = earlier f
    by (last k f) = last (ap suc k) f

module _ (labels : List ℕ) where
  -- the groups of the labels below a number
  pub record AreGroupsTo (bound : ℕ) (groups : List (List ℕ)) : Type 0 where
    pub each : (i : ℕ) (g : List ℕ) → slice_get groups i ≡ Some g → (l : ℕ) × (l < bound) × Lists nat_cmp (IsLabelled labels l) g
    pub filled : (i : ℕ) (g : List ℕ) → slice_get groups i ≡ Some g → (x : ℕ) × Contains g x
    pub every : (x : ℕ) → x < length labels → label labels x < bound → (g : List ℕ) × Contains groups g × Contains g x
    pub one : (i j : ℕ) (g h : List ℕ) (x y : ℕ) → slice_get groups i ≡ Some g → slice_get groups j ≡ Some h → Contains g x → Contains h y → label labels x
        ≡ label labels y → i ≡ j

  module _ (bound : ℕ) (old : List (List ℕ)) (g : List ℕ) (are : AreGroupsTo bound old) (these : Lists nat_cmp (IsLabelled labels bound) g) where
    -- a label that nobody has
    pub no_group : g ≡ [] → AreGroupsTo (bound + 1) old
    no_group none = record {
      each = λ i h e. (let (l, less, list) = are.each i h e in (l, omega (arith, less), list));
      filled = are.filled;
      every = λ x within less. elim (cases_lt (label labels x) bound) [
        | inl below ↦ are.every x within below
        | inr most ↦ absurd (among x [] (subst (λ xs. Contains xs x) none ((these.exactly x).1 (record { within = within; is = omega (arith, less, most) }))))
      ];
      one = are.one;
    }

    one_group_at : (x : ℕ) × Contains g x → AreGroupsTo (bound + 1) (old ++ g ∷ [])
    one_group_at some = record {
      each = λ i h e. each i h (put_at old g i h e);
      filled = λ i h e. filled i h (put_at old g i h e);
      every = λ x within less. elim (cases_lt (label labels x) bound) [
        | inl below ↦ (let (h, there, in_it) = are.every x within below in (h, Contains-append_left old (g ∷ []) h there, in_it))
        | inr most ↦ (
          g,
          Contains-append_right old (g ∷ []) g (contained g (g ∷ []) (inl refl)),
          (these.exactly x).1
              (record { within = within; is = omega (arith, less, most) }),
        )
      ];
      one = λ i j h k x y e f in_it other_in_it same. one i j h k x y (put_at old g i h e) (put_at old g j k f) in_it other_in_it same;
    }
      where
        each : (i : ℕ) (h : List ℕ) → PutAt old g i h → (l : ℕ) × (l < bound + 1) × Lists nat_cmp (IsLabelled labels l) h
        each i h (earlier e) = let (l, less, list) = are.each i h e in (l, omega (arith, less), list)
        each i h (last at is) = (bound, omega arith, subst (Lists nat_cmp (IsLabelled labels bound)) (sym is) these)

        filled : (i : ℕ) (h : List ℕ) → PutAt old g i h → (x : ℕ) × Contains h x
        filled i h (earlier e) = are.filled i h e
        filled i h (last at is) = let (x, in_it) = some in (x, subst (λ xs. Contains xs x) (sym is) in_it)

        below : (i : ℕ) (h : List ℕ) (x : ℕ) → slice_get old i ≡ Some h → Contains h x → label labels x < bound
        below i h x e in_it = let (l, less, list) = are.each i h e in let is = ((list.exactly x).0 in_it).is in omega (arith, less, is)

        here : (h : List ℕ) (x : ℕ) → h ≡ g → Contains h x → label labels x ≡ bound
        here h x is in_it = ((these.exactly x).0 (subst (λ xs. Contains xs x) is in_it)).is

        one : (i j : ℕ) (h k : List ℕ) (x y : ℕ) → PutAt old g i h → PutAt old g j k → Contains h x → Contains k y → label labels x ≡ label labels y → i ≡ j
        one i j h k x y (earlier e) (earlier f) in_it other_in_it same = are.one i j h k x y e f in_it other_in_it same
        one i j h k x y (earlier e) (last at is) in_it other_in_it same = let low = below i h x e in_it in let high = here k y is other_in_it in
            absurd (omega (arith, low, high, same))
        one i j h k x y (last at is) (earlier f) in_it other_in_it same = let low = below j k y f other_in_it in let high = here h x is in_it in
            absurd (omega (arith, low, high, same))
        one i j h k x y (last at is) (last other_at other_is) in_it other_in_it same = at ∙ sym other_at

    pub one_group : (new : List (List ℕ)) → new ≡ old ++ g ∷ [] → (x : ℕ) × Contains g x → AreGroupsTo (bound + 1) new
    one_group new put some = subst (AreGroupsTo (bound + 1)) (sym put) (one_group_at some)

-- groups of dependent members ----------------------------------------------------------------

pub are_groups : (rules : List Rule) (root : Content) (sets : List Changes) (labels : List ℕ) (groups : List (List ℕ))
    → AreLabels (setting rules root sets) (length sets) labels → AreGroupsBy labels groups
    → AreGroups (setting rules root sets) groups
are_groups rules root sets labels groups are by = record {
  ascending = λ g there. (let (i, at) = at_of g there in (by.each i g at).1.ascending);
  filled = λ g there. (let (i, at) = at_of g there in by.filled i g at);
  members = λ g x there in_it. (let (i, at) = at_of g there in below_member rules root sets x (below i g x at in_it));
  every = λ x member. by.every x (let less = member_below rules root sets x member in let long = are.long in omega (arith, less, long));
  joined = λ i j g h x y at other_at in_it other_in_it. (
    λ same. (are.exact x y (below i g x at in_it) (below j h y other_at other_in_it)).0 (same_label i j g h x y at other_at in_it other_in_it same),
    λ chain. by.one i j g h x y at other_at in_it other_in_it ((are.exact x y (below i g x at in_it) (below j h y other_at other_in_it)).1 chain),
  );
}
  where
    at_of : (g : List ℕ) → Contains groups g → (i : ℕ) × (slice_get groups i ≡ Some g)
    at_of g (i, less, is) = (i, slice_get_read groups (length groups) i g refl less (sym is))

    below : (i : ℕ) (g : List ℕ) (x : ℕ) → slice_get groups i ≡ Some g → Contains g x → x < length sets
    below i g x at in_it = let (l, list) = by.each i g at in let within = ((list.exactly x).0 in_it).within in let long = are.long in
        omega (arith, within, long)

    same_label : (i j : ℕ) (g h : List ℕ) (x y : ℕ) → slice_get groups i ≡ Some g → slice_get groups j ≡ Some h → Contains g x → Contains h y → i ≡ j
        → label labels x ≡ label labels y
    same_label i j g h x y at other_at in_it other_in_it same =
        let both : Some g ≡ Some h = sym at ∙ ap (slice_get groups) same ∙ other_at in
        let alike : g ≡ h = cc in
        let (l, list) = by.each i g at in
        ((list.exactly x).0 in_it).is ∙ sym ((list.exactly y).0 (subst (λ xs. Contains xs y) (sym alike) other_in_it)).is
