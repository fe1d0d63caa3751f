-- The members in an order that was found: a list of all of them, in which the first of each pair stands before the second.
use Rattle.std.proofs.Common.{◌≡◌, ◌∙◌, ◌==◌, ◌&&◌, ◌||◌, ◌⊎◌, ℕ, zero, suc, Bool, true, false, cond, List, [], ◌∷◌, Option, Some, None, inl, inr}
use Rattle.std.proofs.Common.{map, slice_get, refl, sym, ap, subst, arith}
use Rattle.std.specs.List.{cons_option}
use Rattle.std.specs.Option.{option_map}
use Rattle.std.proofs.lemmas.Bool.{and_parts, false≢true, or_cases, or_left, or_right, true≢false}
use Rattle.std.proofs.lemmas.List.{length-map}
use Rattle.std.proofs.lemmas.Option.{slice_get-get_or, slice_get-map, slice_get_within}
use Rattle.clr_rules.proofs.Elements.{among_mapped, some_of}
use Rattle.clr_workspaces.specs.Marks.{Name}
use Rattle.clr_needs.specs.Covers.{Entry}
use Rattle.clr_needs.specs.Settings.{Setting}
use Rattle.clr_needs.specs.Settings as settings
use Rattle.clr_needs.proofs.BlockerLaws.{member_below}
use Rattle.clr_needs.proofs.PartPositions.{below_member}
use Rattle.clr_steps.specs.Names.{same_name}
use Rattle.clr_steps.specs.Offices.{Office}
use Rattle.clr_steps.specs.Quiet.{MergeSet, is_member, is_root, root_content}
use Rattle.clr_steps.specs.Readings.{changes_in}
use Rattle.clr_steps.proofs.FindLemmas.{same_is, same_itself}
use Rattle.clr_clearance.specs.MergeSets.{AreMergeable, change_sets, is_child, setting_by_position}
use Rattle.clr_clearance.specs.Plans.{members_at}
use Rattle.clr_clearance.proofs.ClearLemmas.{mergeable_of}
use Rattle.clr_clearance.proofs.NameLemmas.{has_is}
use Rattle.clr_clearance.proofs.RefusedLemmas.{names_part}
use Rattle.clr_ordered_needs.specs.Turns.{ListsAll, is_earlier}
use Rattle.clr_ordered_clearance.specs.Laws.{CanBeMergedAs}
use Rattle.clr_ordered_clearance.specs.MergeSets.{CoversInTurn, goes_before}
use Rattle.clr_ordered_clearance.proofs.ListedLemmas.{listed_merges, unrefused}
use Rattle.clr_merge_sets.specs.Plans.{is_cleared, is_out_of_memory}
use Rattle.clr_merge_sets.specs.declared.plans.Plan.{Plan}
use Rattle.clr_plan.specs.OrderedPlans.{IsExactInOrder}
use Rattle.clr_order_search.proofs.Rests.{has_at, itself, same_of}
use Rattle.clr_order_answers.specs.declared.pairs.Pair.{Pair}
use Rattle.clr_scene_orders.specs.declared.scene_orders.SceneOrder.{SceneOrder}
use Rattle.clr_scene_orders.specs.declared.scene_orders.SceneOrder.TheVariants as scene_order
use Rattle.clr_scene_orders.specs.SceneOrders.{IsOrderBy, order_by}
use Rattle.clr_scene_orders.proofs.Covering.{goes_by}
use Rattle.clr_scene_orders.proofs.Sides.{has_same}
use Rattle.clr_merge_orders.specs.declared.merge_orders.MergeOrder.TheVariants as merge_order
use Rattle.clr_merge_orders.specs.Laws.{FoundOrderLaw}
use Rattle.clr_merge_orders.specs.MergeOrders.{IsOrderOf, PromisesOrder, in_this_order, name_at, order_in_scene, ordered_by}

-- who stands before another in a list is in it
pub earlier_there : (xs : List ℕ) (x y : ℕ) → is_earlier (λ m n. m == n) xs x y ≡ true → settings.has (λ m n. m == n) xs x ≡ true
earlier_there [] x y h = absurd (false≢true h)
earlier_there (z ∷ zs) x y h = by (z == x) refl h (earlier_there zs x y)
  where
    by : (b : Bool) → (z == x) ≡ b → cond b (settings.has (λ m n. m == n) zs y) (is_earlier (λ m n. m == n) zs x y) ≡ true
        → (is_earlier (λ m n. m == n) zs x y ≡ true → settings.has (λ m n. m == n) zs x ≡ true) → (z == x) || settings.has (λ m n. m == n) zs x ≡ true
    by true e g rest = or_left (z == x) (settings.has (λ m n. m == n) zs x) e
    by false e g rest = or_right (z == x) (settings.has (λ m n. m == n) zs x) (rest g)

-- a name of a list stands at a place of it
place_of_name : (ns : List Name) (name : Name) → settings.has same_name ns name ≡ true → (k : ℕ) × (slice_get ns k ≡ Some name)
place_of_name [] name h = absurd (false≢true h)
place_of_name (n ∷ ns) name h = by (or_cases (same_name n name) (settings.has same_name ns name) h) (place_of_name ns name)
  where
    by : (same_name n name ≡ true) ⊎ (settings.has same_name ns name ≡ true)
        → (settings.has same_name ns name ≡ true → (k : ℕ) × (slice_get ns k ≡ Some name)) → (k : ℕ) × (slice_get (n ∷ ns) k ≡ Some name)
    by (inl same) more = (zero, ap Some (same_is n name same))
    by (inr behind) more = let (k, e) = more behind in (suc k, e)

name_same : (m n : Name) → Some m ≡ Some n → m ≡ n
name_same m n e = cc

module _ (o : Office) (s : MergeSet) where
  abbrev c : Setting ℕ
  c = setting_by_position o s

  -- positions and names ------------------------------------------------------------------------------------------

  -- at each of some positions a member stands
  abbrev AreNamed : List ℕ → Type 0
  AreNamed xs = (x : ℕ) → settings.has (λ m n. m == n) xs x ≡ true → slice_get s.members x ≡ Some (name_at s x)

  first_named : (x : ℕ) (xs : List ℕ) → AreNamed (x ∷ xs) → slice_get s.members x ≡ Some (name_at s x)
  first_named x xs all = all x (or_left (x == x) (settings.has (λ m n. m == n) xs x) (itself x))

  rest_named : (x : ℕ) (xs : List ℕ) → AreNamed (x ∷ xs) → AreNamed xs
  rest_named x xs all y h = all y (or_right (x == y) (settings.has (λ m n. m == n) xs y) h)

  names_are : (xs : List ℕ) → AreNamed xs → members_at s xs ≡ map (name_at s) xs
  names_are [] all = refl
  names_are (x ∷ xs) all =
      ap (λ r. cons_option r (members_at s xs)) (first_named x xs all)
      ∙ ap (λ (ns : List Name). name_at s x ∷ ns) (names_are xs (rest_named x xs all))

  same_names : (x y : ℕ) → x ≡ y → same_name (name_at s x) (name_at s y) ≡ true
  same_names x y one = ap (λ z. same_name (name_at s z) (name_at s y)) one ∙ same_itself (name_at s y)

  -- who stands at one of some positions is among their names
  name_there : (xs : List ℕ) (x : ℕ) → settings.has (λ m n. m == n) xs x ≡ true → settings.has same_name (map (name_at s) xs) (name_at s x) ≡ true
  name_there [] x h = absurd (false≢true h)
  name_there (y ∷ ys) x h = by (or_cases (y == x) (settings.has (λ m n. m == n) ys x) h) (name_there ys x)
    where
      by : ((y == x) ≡ true) ⊎ (settings.has (λ m n. m == n) ys x ≡ true)
          → (settings.has (λ m n. m == n) ys x ≡ true → settings.has same_name (map (name_at s) ys) (name_at s x) ≡ true)
          → same_name (name_at s y) (name_at s x) || settings.has same_name (map (name_at s) ys) (name_at s x) ≡ true
      by (inl same) more = or_left (same_name (name_at s y) (name_at s x)) (settings.has same_name (map (name_at s) ys) (name_at s x))
          (same_names y x (same_of y x same))
      by (inr behind) more = or_right (same_name (name_at s y) (name_at s x)) (settings.has same_name (map (name_at s) ys) (name_at s x)) (more behind)

  -- the positions of a list of all members
  pub positions_named : (order : List ℕ) → ListsAll c order → (x : ℕ) → settings.has c.same order x ≡ true → slice_get s.members x ≡ Some (name_at s x)
  positions_named order all x h =
      let less = member_below o.book (root_content o s) (change_sets o s) x (sym (all.members x) ∙ h) in
      let long = length-map s.members (changes_in o) in
      slice_get-get_or s.members x [] (omega (arith, less, long))

  module _ (mergeable : AreMergeable o s) where
    -- positions of one name are one
    one_position : (x y : ℕ) → slice_get s.members x ≡ Some (name_at s x) → slice_get s.members y ≡ Some (name_at s y)
        → same_name (name_at s x) (name_at s y) ≡ true → x ≡ y
    one_position x y first second same =
        mergeable.distinct x y (name_at s y) (first ∙ ap Some (same_is (name_at s x) (name_at s y) same)) second

    -- who stands before another by position stands before it by name
    earlier_by_name : (xs : List ℕ) → AreNamed xs → (x y : ℕ) → slice_get s.members x ≡ Some (name_at s x) → is_earlier (λ m n. m == n) xs x y ≡ true
        → is_earlier same_name (map (name_at s) xs) (name_at s x) (name_at s y) ≡ true
    earlier_by_name [] all x y there h = absurd (false≢true h)
    earlier_by_name (z ∷ zs) all x y there h =
        by (z == x) refl (same_name (name_at s z) (name_at s x)) refl h (earlier_by_name zs (rest_named z zs all) x y there)
      where
        by : (b : Bool) → (z == x) ≡ b → (d : Bool) → same_name (name_at s z) (name_at s x) ≡ d
            → cond b (settings.has (λ m n. m == n) zs y) (is_earlier (λ m n. m == n) zs x y) ≡ true
            → (is_earlier (λ m n. m == n) zs x y ≡ true → is_earlier same_name (map (name_at s) zs) (name_at s x) (name_at s y) ≡ true)
            → cond d (settings.has same_name (map (name_at s) zs) (name_at s y)) (is_earlier same_name (map (name_at s) zs) (name_at s x) (name_at s y))
            ≡ true
        by true e true f g more = name_there zs y g
        by true e false f g more = absurd (true≢false (sym (same_names z x (same_of z x e)) ∙ f))
        by false e true f g more =
            absurd (true≢false (sym (ap (λ w. w == x) (one_position z x (first_named z zs all) there f) ∙ itself x) ∙ e))
        by false e false f g more = more g

    module _ (order : List ℕ) (all : ListsAll c order) where
      abbrev names : List Name
      names = members_at s order

      named : AreNamed order
      named = positions_named order all

      names_in_order : names ≡ map (name_at s) order
      names_in_order = names_are order named

      -- they are exactly the members, each once -------------------------------------------------------------------

      each_there : (name : Name) → settings.has same_name s.members name ≡ true → settings.has same_name names name ≡ true
      each_there name h =
          let (k, e) = place_of_name s.members name h in
          let short = slice_get_within s.members k name e in
          let long = length-map s.members (changes_in o) in
          let there : settings.has (λ m n. m == n) order k ≡ true =
          all.members k ∙ below_member o.book (root_content o s) (change_sets o s) k (omega (arith, short, long)) in
          let one : name_at s k ≡ name = name_same (name_at s k) name (sym (named k there) ∙ e) in
          subst (λ (ns : List Name). settings.has same_name ns name ≡ true) (sym names_in_order)
          (subst (λ (m : Name). settings.has same_name (map (name_at s) order) m ≡ true) one (name_there order k there))

      those_members : (name : Name) → settings.has same_name names name ≡ settings.has same_name s.members name
      those_members name = by (settings.has same_name names name) refl (settings.has same_name s.members name) refl
        where
          by : (a : Bool) → settings.has same_name names name ≡ a → (b : Bool) → settings.has same_name s.members name ≡ b → a ≡ b
          by true e true f = refl
          by false e false f = refl
          by true e false f = absurd (true≢false (sym (names_part o s order name e) ∙ f))
          by false e true f = absurd (true≢false (sym (each_there name f) ∙ e))

      each_once : (j k : ℕ) (name : Name) → slice_get names j ≡ Some name → slice_get names k ≡ Some name → j ≡ k
      each_once j k name e f = by (slice_get order j) refl (told j e) (slice_get order k) refl (told k f)
        where
          told : (i : ℕ) → slice_get names i ≡ Some name → option_map (name_at s) (slice_get order i) ≡ Some name
          told i g = sym (slice_get-map (name_at s) order i) ∙ ap (λ (ns : List Name). slice_get ns i) (sym names_in_order) ∙ g

          member_at : (i x : ℕ) → slice_get order i ≡ Some x → Some (name_at s x) ≡ Some name → slice_get s.members x ≡ Some name
          member_at i x g is = named x (has_same order x ∙ has_at order i x g) ∙ is

          by : (q : Option ℕ) → slice_get order j ≡ q → option_map (name_at s) q ≡ Some name → (r : Option ℕ) → slice_get order k ≡ r
              → option_map (name_at s) r ≡ Some name → j ≡ k
          by None g h r i l = absurd (cc)
          by (Some x) g h None i l = absurd (cc)
          by (Some x) g h (Some y) i l =
              let one = mergeable.distinct x y name (member_at j x g h) (member_at k y i l) in
              all.once j k y (g ∙ ap Some one) i

      -- and so they can be merged in this order -------------------------------------------------------------------

      module _ (pairs : List Pair) (goes : (x y : ℕ) → order_by pairs x y ≡ true → is_earlier c.same order x y ≡ true) where
        abbrev names_of : Pair → (Name × Name)
        names_of p = (name_at s p.earlier, name_at s p.later)

        pairs_in_turn : (m n : Name) → goes_before (ordered_by s pairs) m n ≡ true → is_earlier same_name names m n ≡ true
        pairs_in_turn m n h =
            let (q, among_named, says) = some_of (λ (q : Name × Name). same_name q.0 m && same_name q.1 n) (map names_of pairs) h in
            let (p, there, same) = among_mapped names_of q pairs among_named in
            let both = and_parts (same_name q.0 m) (same_name q.1 n) says in
            let first : name_at s p.earlier ≡ m = ap (λ (r : Name × Name). r.0) same ∙ same_is q.0 m both.0 in
            let second : name_at s p.later ≡ n = ap (λ (r : Name × Name). r.1) same ∙ same_is q.1 n both.1 in
            let before = goes p.earlier p.later (goes_by pairs p there) in
            let stands = named p.earlier (earlier_there order p.earlier p.later before) in
            subst (λ (ns : List Name). is_earlier same_name ns m n ≡ true) (sym names_in_order)
            (subst (λ (k : Name). is_earlier same_name (map (name_at s) order) k n ≡ true) first
            (subst (λ (k : Name). is_earlier same_name (map (name_at s) order) (name_at s p.earlier) k ≡ true) second
            (earlier_by_name order named p.earlier p.later stands before)))

        pub merged_in_order : (es : List Entry) → CoversInTurn o (ordered_by s pairs) es → CanBeMergedAs o (ordered_by s pairs) (members_at s order)
        merged_in_order es covers = listed_merges o (ordered_by s pairs) es (members_at s order) covers (record {
          lists = record { members = those_members; once = each_once };
          in_turn = λ m n h is_one is_other. pairs_in_turn m n h;
        })

      -- and are mergeable in this order, too ------------------------------------------------------------------------

      child_alike : (name : Name) → is_child o (in_this_order s order) name ≡ is_child o s name
      unfolding is_root
      child_alike name = refl

      pub mergeable_in_order : AreMergeable o (in_this_order s order)
      mergeable_in_order = record {
        kept = mergeable.kept;
        distinct = each_once;
        children = λ name h. child_alike name ∙ mergeable.children name (member name h);
        free = λ name h. mergeable.free name (member name h);
        apart = λ m n cell hm hn. mergeable.apart m n cell (names_part o s order m hm) (names_part o s order n hn);
      }
        where
          member : (name : Name) → is_member (in_this_order s order) name ≡ true → is_member s name ≡ true
          member name h = sym (has_is s.members name) ∙ names_part o s order name (has_is (members_at s order) name ∙ h)

  -- the plan of the members in this order ---------------------------------------------------------------------------

  cleared_in : (order : List ℕ) (pairs : List Pair) → AreMergeable o s → IsOrderBy c order pairs
      → CanBeMergedAs o (ordered_by s pairs) (members_at s order) → (p : Plan) → IsExactInOrder o (in_this_order s order) p → is_out_of_memory p ≡ false
      → is_cleared p ≡ true
  cleared_in order pairs mergeable is merged p exact memory =
      (exact (mergeable_in_order mergeable order is.lists) memory).1 (unrefused o (ordered_by s pairs) (members_at s order) merged)

  none_said : (list : List ℕ) → None ≡ Some list → ⊥
  none_said list e = absurd (cc)

  list_same : (xs ys : List ℕ) → Some xs ≡ Some ys → xs ≡ ys
  list_same xs ys e = cc

  scene_cleared : (order : SceneOrder) (list : List ℕ) (p : Plan) → IsOrderOf o s order → PromisesOrder o s order → order_in_scene order ≡ Some list
      → IsExactInOrder o (in_this_order s list) p → is_out_of_memory p ≡ false → is_cleared p ≡ true
  scene_cleared (scene_order.Order order pairs) list p told promises is exact memory =
      subst (λ (xs : List ℕ). IsExactInOrder o (in_this_order s xs) p → is_cleared p ≡ true) (list_same order.items list is)
      (λ e. cleared_in order.items pairs.items (mergeable_of o s told.free told.apart) told.told.2 promises.1 p e memory) exact
  scene_cleared (scene_order.Final need members) list p told promises is exact memory = absurd (none_said list is)
  scene_cleared (scene_order.Stuck members) list p told promises is exact memory = absurd (none_said list is)
  scene_cleared (scene_order.TooMany members) list p told promises is exact memory = absurd (none_said list is)

pub found_is_cleared : FoundOrderLaw
found_is_cleared o s (merge_order.Ordered order) list p found is exact memory = scene_cleared o s order list p found.told found.promises is exact memory
found_is_cleared o s (merge_order.Planned q) list p found is exact memory = absurd (none_said o s list is)
