-- Members who break a need by themselves, and whom nobody helps, break it whichever others come before, between or behind them.
use Rattle.std.proofs.Common.{◌≡◌, ◌∙◌, ◌<◌, ◌==◌, ◌++◌, ◌⊎◌, ℕ, zero, suc, Bool, true, false, List, [], ◌∷◌, inl, inr, Contains, Option, Some, None}
use Rattle.std.proofs.Common.{ap, arith, get_or, is_some, length, map, refl, subst, sym}
use Rattle.std.specs.Prelude.{slice_get}
use Rattle.std.specs.List.{cons_option, list_any}
use Rattle.std.specs.Option.{option_map}
use Rattle.std.proofs.lemmas.Bool.{false≢true, true≢false}
use Rattle.std.proofs.lemmas.Bool.Decides.{Decides-eqb}
use Rattle.std.proofs.lemmas.List.{length-map}
use Rattle.std.proofs.lemmas.List.Elements.{Contains-append_left}
use Rattle.std.proofs.lemmas.Option.{slice_get-get_or, slice_get-map, slice_get_within}
use Rattle.clr_rows.specs.declared.cells.CellId.{CellId}
use Rattle.clr_rules.proofs.Elements.{Among, among, among_either, any_by, contained, some_of}
use Rattle.clr_workspaces.specs.Marks.{Name}
use Rattle.clr_needs.specs.declared.needs.Need.{Need}
use Rattle.clr_needs.specs.declared.needs.VersionId.{VersionId}
use Rattle.clr_needs.specs.Covers.{IsBlocker, IsLifeOf}
use Rattle.clr_needs.specs.Independence.{Names}
use Rattle.clr_needs.specs.Members.{after_at}
use Rattle.clr_needs.specs.Needs.{IsBesideIfAny, IsChanged, IsTouchedBy, Serves}
use Rattle.clr_needs.specs.Renamings.{IsSameLife, IsSameVersion}
use Rattle.clr_needs.specs.Settings.{Setting, Lifetime, Always, With, Without, Lived, changer, version}
use Rattle.clr_needs.specs.Settings as settings
use Rattle.clr_needs.proofs.Agreement.{IsOneToOne}
use Rattle.clr_needs.proofs.BlockerLaws.{member_below}
use Rattle.clr_needs.proofs.Merges.{IsChanger, changer_is}
use Rattle.clr_needs.proofs.NeedSubjects.{subjects_once}
use Rattle.clr_needs.proofs.PartLaws.{HasSubjects, IsChangerIn, IsPart, possible_up, serves_down, serves_up, versions_of_part}
use Rattle.clr_needs.proofs.PartLives.{AreInside, IsLifeIn, IsSecondIn, IsVersionIn, IsVersionOfPart}
use Rattle.clr_needs.proofs.PartPositions.{below_member, stands_among, stands_of}
use Rattle.clr_ordered_needs.specs.Covers.{HasCover}
use Rattle.clr_ordered_needs.specs.Helpers.{HelpComesFirst, IsHelper, IsServedAlways}
use Rattle.clr_ordered_needs.specs.Turns.{Order}
use Rattle.clr_ordered_needs.proofs.CoverLaws.{each_has_cover}
use Rattle.clr_ordered_needs.proofs.HelpLaws.{cover_is_help}
use Rattle.clr_open_needs.proofs.HelperLaws.{helper_below}
use Rattle.clr_scene_orders.proofs.Sides.{Opens, opens, sides_differ}
use Rattle.clr_steps.specs.Names.{same_name}
use Rattle.clr_steps.specs.Offices.{Office}
use Rattle.clr_steps.specs.Quiet.{MergeSet, is_member, is_root, root_content}
use Rattle.clr_steps.specs.Readings.{changes_in}
use Rattle.clr_clearance.specs.MergeSets.{AreMergeable, change_sets, setting_by_position}
use Rattle.clr_clearance.specs.Plans.{members_at}
use Rattle.clr_clearance.proofs.ClearLemmas.{has_at, mergeable_of, no_member_fault, position_of}
use Rattle.clr_clearance.proofs.NameLemmas.{has_is}
use Rattle.clr_clearance.proofs.StaticLemmas.{apart_sets}
use Rattle.clr_clashes.specs.Clashes.{IsAllIn}
use Rattle.clr_ordered_clearance.specs.MergeSets.{position_goes_before}
use Rattle.clr_merge_sets.specs.Certificates.{entries_in, ordered_merge_set_of}
use Rattle.clr_merge_sets.specs.declared.plans.Plan.TheVariants as plan
use Rattle.clr_merge_clashes.specs.Laws.{merge_set_of_part}
use Rattle.clr_clash_helpers.specs.Helpers.{AreHelpers, AreTogether}
use Rattle.clr_clash_helpers.specs.Laws.{BreakAlone, UnhelpedSetLaw}

-- lists --------------------------------------------------------------------------------------------------------

missing : (xs : List Name) (k : ℕ) → k < length xs → slice_get xs k ≡ None → ⊥
missing [] k less none = absurd (omega (arith, less))
missing (x ∷ xs) zero less none = absurd (cc)
missing (x ∷ xs) (suc k) less none = missing xs k (omega (arith, less)) none

some_name : (xs : List Name) (k : ℕ) → k < length xs → (name : Name) × (slice_get xs k ≡ Some name)
some_name [] k less = absurd (omega (arith, less))
some_name (x ∷ xs) zero less = (x, refl)
some_name (x ∷ xs) (suc k) less = some_name xs k (omega (arith, less))

number_same : (x y : ℕ) → Some x ≡ Some y → x ≡ y
number_same x y e = cc

last_there : (xs : List ℕ) (x : ℕ) → slice_get (xs ++ x ∷ []) (length xs) ≡ Some x
last_there [] x = refl
last_there (y ∷ ys) x = last_there ys x

place_behind : (xs : List ℕ) (x k y : ℕ) → slice_get (xs ++ x ∷ []) k ≡ Some y → (slice_get xs k ≡ Some y) ⊎ ((k ≡ length xs) × (x ≡ y))
place_behind [] x zero y e = inr (refl, number_same x y e)
place_behind [] x (suc k) y e = absurd (cc)
place_behind (z ∷ zs) x zero y e = inl e
place_behind (z ∷ zs) x (suc k) y e = by (place_behind zs x k y e)
  where
    by : (slice_get zs k ≡ Some y) ⊎ ((k ≡ length zs) × (x ≡ y)) → (slice_get zs k ≡ Some y) ⊎ ((suc k ≡ suc (length zs)) × (x ≡ y))
    by (inl there) = inl there
    by (inr (last, same)) = inr (ap suc last, same)

-- each stands at one place
abbrev IsOnce : List ℕ → Type 0
IsOnce ps = (j k x : ℕ) → slice_get ps j ≡ Some x → slice_get ps k ≡ Some x → j ≡ k

once_behind : (xs : List ℕ) (x : ℕ) → IsOnce xs → ((k : ℕ) → slice_get xs k ≡ Some x → ⊥) → IsOnce (xs ++ x ∷ [])
once_behind xs x once new j k y e f = by (place_behind xs x j y e) (place_behind xs x k y f)
  where
    by : (slice_get xs j ≡ Some y) ⊎ ((j ≡ length xs) × (x ≡ y)) → (slice_get xs k ≡ Some y) ⊎ ((k ≡ length xs) × (x ≡ y)) → j ≡ k
    by (inl first) (inl second) = once j k y first second
    by (inl first) (inr (last, same)) = absurd (new j (first ∙ ap Some (sym same)))
    by (inr (last, same)) (inl second) = absurd (new k (second ∙ ap Some (sym same)))
    by (inr (last, same)) (inr (last_too, same_too)) = last ∙ sym last_too

-- one position, by its places in two lists
abbrev Stands : List ℕ → List ℕ → ℕ → ℕ → Type 0
Stands ps qs k j = (x : ℕ) × (slice_get ps k ≡ Some x) × (slice_get qs j ≡ Some x)

module _ (o : Office) (s : MergeSet) where
  abbrev setting_in : List ℕ → Setting ℕ
  setting_in ps = setting_by_position o (merge_set_of_part s ps)

  abbrev AreBelow : List ℕ → Type 0
  AreBelow ps = (x : ℕ) → Among x ps → x < length s.members

  -- members at some positions ------------------------------------------------------------------------------------

  name_at : (ps : List ℕ) → AreBelow ps → (k x : ℕ) → slice_get ps k ≡ Some x → slice_get (members_at s ps) k ≡ slice_get s.members x
  name_at [] below k x e = absurd (cc)
  name_at (y ∷ ys) below k x e = by (slice_get s.members y) refl k e (λ j f. name_at ys (λ z h. below z (inr h)) j x f)
    where
      by : (r : Option Name) → slice_get s.members y ≡ r → (k : ℕ) → slice_get (y ∷ ys) k ≡ Some x
          → ((j : ℕ) → slice_get ys j ≡ Some x → slice_get (members_at s ys) j ≡ slice_get s.members x)
          → slice_get (cons_option r (members_at s ys)) k ≡ slice_get s.members x
      by None f k e more = absurd (missing s.members y (below y (inl refl)) f)
      by (Some n) f zero e more = sym f ∙ ap (slice_get s.members) (number_same y x e)
      by (Some n) f (suc k) e more = more k e

  position_at : (ps : List ℕ) → AreBelow ps → (k : ℕ) (name : Name) → slice_get (members_at s ps) k ≡ Some name
      → (x : ℕ) × (slice_get ps k ≡ Some x) × (slice_get s.members x ≡ Some name)
  position_at [] below k name e = absurd (cc)
  position_at (y ∷ ys) below k name e = by (slice_get s.members y) refl k e (λ j f. position_at ys (λ z h. below z (inr h)) j name f)
    where
      by : (r : Option Name) → slice_get s.members y ≡ r → (k : ℕ) → slice_get (cons_option r (members_at s ys)) k ≡ Some name
          → ((j : ℕ) → slice_get (members_at s ys) j ≡ Some name → (x : ℕ) × (slice_get ys j ≡ Some x) × (slice_get s.members x ≡ Some name))
          → (x : ℕ) × (slice_get (y ∷ ys) k ≡ Some x) × (slice_get s.members x ≡ Some name)
      by None f k e more = absurd (missing s.members y (below y (inl refl)) f)
      by (Some n) f zero e more = (y, refl, f ∙ e)
      by (Some n) f (suc k) e more = more k e

  names_counted : (ps : List ℕ) → AreBelow ps → length (members_at s ps) ≡ length ps
  names_counted [] below = refl
  names_counted (y ∷ ys) below = by (slice_get s.members y) refl (names_counted ys (λ z h. below z (inr h)))
    where
      by : (r : Option Name) → slice_get s.members y ≡ r → length (members_at s ys) ≡ length ys → length (cons_option r (members_at s ys)) ≡ suc (length ys)
      by None f more = absurd (missing s.members y (below y (inl refl)) f)
      by (Some n) f more = ap suc more

  sets_counted : (ps : List ℕ) → AreBelow ps → length (change_sets o (merge_set_of_part s ps)) ≡ length ps
  sets_counted ps below = length-map (members_at s ps) (changes_in o) ∙ names_counted ps below

  set_at : (ps : List ℕ) → AreBelow ps → (k x : ℕ) → slice_get ps k ≡ Some x
      → slice_get (change_sets o (merge_set_of_part s ps)) k ≡ slice_get (change_sets o s) x
  set_at ps below k x e =
      slice_get-map (changes_in o) (members_at s ps) k ∙ ap (option_map (changes_in o)) (name_at ps below k x e)
      ∙ sym (slice_get-map (changes_in o) s.members x)

  member_in : (ps : List ℕ) → AreBelow ps → (k : ℕ) → k < length ps → settings.has (setting_in ps).same (setting_in ps).members k ≡ true
  member_in ps below k less =
      let count = sets_counted ps below in
      below_member o.book (root_content o (merge_set_of_part s ps)) (change_sets o (merge_set_of_part s ps)) k (omega (arith, less, count))

  below_in : (ps : List ℕ) → AreBelow ps → (k : ℕ) → settings.has (setting_in ps).same (setting_in ps).members k ≡ true → k < length ps
  below_in ps below k h =
      let count = sets_counted ps below in
      let less = member_below o.book (root_content o (merge_set_of_part s ps)) (change_sets o (merge_set_of_part s ps)) k h in
      omega (arith, less, count)

  once_of : (ps : List ℕ) → AreBelow ps → AreMergeable o (merge_set_of_part s ps) → IsOnce ps
  once_of ps below mergeable j k x e f =
      let (name, is) = some_name s.members x (below x (among x ps (stands_among ps j x e))) in
      mergeable.distinct j k name (name_at ps below j x e ∙ is) (name_at ps below k x f ∙ is)

  -- some of the members at some positions ---------------------------------------------------------------------------

  module _ (ps qs : List ℕ) (below : AreBelow qs) (once : IsOnce ps) (within : (x : ℕ) → Among x ps → Among x qs)
      (mergeable : AreMergeable o (merge_set_of_part s qs)) where
    abbrev c : Setting ℕ
    c = setting_in qs

    abbrev d : Setting ℕ
    d = setting_in ps

    fewer_below : AreBelow ps
    fewer_below x h = below x (within x h)

    place_in_more : (k x : ℕ) → slice_get ps k ≡ Some x → (j : ℕ) × (slice_get qs j ≡ Some x)
    place_in_more k x e = stands_of qs x (contained x qs (within x (among x ps (stands_among ps k x e))))

    named_too : (name : Name) → is_member (merge_set_of_part s ps) name ≡ true → is_member (merge_set_of_part s qs) name ≡ true
    named_too name h =
        let (k, e) = position_of (members_at s ps) name h in
        let (x, at, is) = position_at ps fewer_below k name e in
        let (j, there) = place_in_more k x at in
        has_at (members_at s qs) j name (name_at qs below j x there ∙ is)

    has_too : (name : Name) → settings.has same_name (members_at s ps) name ≡ true → settings.has same_name (members_at s qs) name ≡ true
    has_too name h = has_is (members_at s qs) name ∙ named_too name (sym (has_is (members_at s ps) name) ∙ h)

    fewer_mergeable : AreMergeable o (merge_set_of_part s ps)
    unfolding is_root
    fewer_mergeable = record {
      kept = mergeable.kept;
      distinct = λ j k name e f. (
          let (x, at, is) = position_at ps fewer_below j name e in
          let (y, there, is_too) = position_at ps fewer_below k name f in
          let (i, more) = place_in_more j x at in
          let (l, more_too) = place_in_more k y there in
          let places : i ≡ l = mergeable.distinct i l name (name_at qs below i x more ∙ is) (name_at qs below l y more_too ∙ is_too) in
          let one : x ≡ y = number_same x y (sym more ∙ ap (slice_get qs) places ∙ more_too) in
          once j k y (at ∙ ap Some one) there
          );
      children = λ name h. mergeable.children name (named_too name h);
      free = λ name h. mergeable.free name (named_too name h);
      apart = λ m n cell hm hn. mergeable.apart m n cell (has_too m hm) (has_too n hn);
    }

    fewer_together : AreTogether o (merge_set_of_part s ps)
    fewer_together = record {
      free = no_member_fault o (merge_set_of_part s ps) fewer_mergeable;
      apart = apart_sets o (merge_set_of_part s ps) fewer_mergeable;
    }

    -- the setting of the fewer is a part of that of the more

    one_to_one : IsOneToOne (Stands ps qs)
    one_to_one = record {
      one_right = λ k i j (x, e, f) (y, g, h). once_of qs below mergeable i j x f (h ∙ ap Some (number_same y x (sym g ∙ e)));
      one_left = λ i k j (x, e, f) (y, g, h). once i k x e (g ∙ ap Some (number_same y x (sym h ∙ f)));
    }

    after : (k j : ℕ) (q : CellId) → Stands ps qs k j → d.after k q ≡ c.after j q
    after k j q (x, e, f) = ap (λ r. after_at r q) (set_at ps fewer_below k x e ∙ sym (set_at qs below j x f))

    stands_for : (k : ℕ) → settings.has d.same d.members k ≡ true → (j : ℕ) × Stands ps qs k j
    stands_for k h =
        let e = slice_get-get_or ps k 0 (below_in ps fewer_below k h) in
        let (j, f) = place_in_more k (get_or ps k 0) e in
        (j, (get_or ps k 0, e, f))

    member_of_fewer : (k j : ℕ) → Stands ps qs k j → settings.has d.same d.members k ≡ true
    member_of_fewer k j (x, e, f) = member_in ps fewer_below k (slice_get_within ps k x e)

    member_of_more : (k j : ℕ) → Stands ps qs k j → settings.has c.same c.members j ≡ true
    member_of_more k j (x, e, f) = member_in qs below j (slice_get_within qs j x f)

    changers_in : (q : CellId) (x y : Option ℕ) → IsChanger d d.members q x → IsChanger c c.members q y → IsChangerIn c d (Stands ps qs) x y
    changers_in q None None h j = tt
    changers_in q None (Some y) h (member, changes) = λ (k, stands).
        (let none = sym (after k y q stands) ∙ h k (member_of_fewer k y stands) in absurd (false≢true (sym (ap is_some none) ∙ changes)))
    changers_in q (Some k) None (member, changes) j =
        let (y, stands) = stands_for k member in
        let none = after k y q stands ∙ j y (member_of_more k y stands) in
        absurd (false≢true (sym (ap is_some none) ∙ changes))
    changers_in q (Some k) (Some y) (member, changes) (one, its) =
        let (z, stands) = stands_for k member in
        let same : z ≡ y = apart_sets o (merge_set_of_part s qs) mergeable q z y (sym (ap is_some (after k z q stands)) ∙ changes) its in
        subst (λ (i : ℕ). Stands ps qs k i) same stands

    same_root : (q : CellId) → d.root q ≡ c.root q
    unfolding root_content
    same_root q = refl

    is_part : IsPart c d (Stands ps qs)
    is_part = record {
      one = one_to_one;
      rules = refl;
      versions = versions_of_part c d (Stands ps qs) same_root after
          (λ q. changers_in q (changer d q) (changer c q) (changer_is d q) (changer_is c q));
    }

    -- lives in both ---------------------------------------------------------------------------------------------------

    without_down : (l m : Lifetime ℕ) (k j : ℕ) → IsLifeIn (Stands ps qs) l m → Stands ps qs k j → m ≡ Without j → l ≡ Without k
    without_down Always Always k j h stands e = absurd (cc)
    without_down Always (With y) k j h stands e = absurd h
    without_down Always (Without y) k j h stands e =
        let one : y ≡ j = cc in absurd (h (k, subst (λ (i : ℕ). Stands ps qs k i) (sym one) stands))
    without_down (With x) Always k j h stands e = absurd h
    without_down (With x) (With y) k j h stands e = absurd (cc)
    without_down (With x) (Without y) k j h stands e = absurd h
    without_down (Without x) Always k j h stands e = absurd h
    without_down (Without x) (With y) k j h stands e = absurd h
    without_down (Without x) (Without y) k j h stands e =
        let one : y ≡ j = cc in ap Without (one_to_one.one_left x k j (subst (λ (i : ℕ). Stands ps qs x i) one h) stands)

    second_without_down : (q b : Option (Lived ℕ)) (k j : ℕ) → IsSecondIn (Stands ps qs) q b → Stands ps qs k j → IsLifeOf (Without j) b → IsLifeOf (Without k) q
    second_without_down None None k j h stands e = absurd e
    second_without_down None (Some m) k j h stands e = absurd h
    second_without_down (Some l) None k j h stands e = absurd h
    second_without_down (Some l) (Some m) k j h stands e = sym (without_down l.life m.life k j h.life stands (sym e))

    with_down : (l m : Lifetime ℕ) (k j : ℕ) → IsSameLife (Stands ps qs) l m → Stands ps qs k j → m ≡ With j → l ≡ With k
    with_down Always Always k j h stands e = absurd (cc)
    with_down (Without x) (Without y) k j h stands e = absurd (cc)
    with_down (With x) (With y) k j h stands e =
        let one : y ≡ j = cc in ap With (one_to_one.one_left x k j (subst (λ (i : ℕ). Stands ps qs x i) one h) stands)
    with_down _ _ k j h stands e = absurd h

    always_down : (l m : Lifetime ℕ) → IsSameLife (Stands ps qs) l m → m ≡ Always → l ≡ Always
    always_down Always Always h e = refl
    always_down (With x) (With y) h e = absurd (cc)
    always_down (Without x) (Without y) h e = absurd (cc)
    always_down _ _ h e = absurd h

    changed_up : (l m : Lifetime ℕ) → IsLifeIn (Stands ps qs) l m → IsChanged l → IsChanged m
    changed_up Always m h e = absurd e
    changed_up (With x) m h e = absurd e
    changed_up (Without x) Always h e = absurd h
    changed_up (Without x) (With y) h e = absurd h
    changed_up (Without x) (Without y) h e = tt

    -- a need in both --------------------------------------------------------------------------------------------------

    module _ (n : Need) (p : Lived ℕ) (q : Option (Lived ℕ)) (a : Lived ℕ) (b : Option (Lived ℕ)) (first : IsVersionIn (Stands ps qs) p a)
        (second : IsSecondIn (Stands ps qs) q b) where
      serve_up : (v : VersionId) (l : Lived ℕ) → Serves d n p q v l → (m : Lived ℕ) × Serves c n a b v m × IsVersionIn (Stands ps qs) l m
      serve_up v l = by q b second
        where
          by : (q b : Option (Lived ℕ)) → IsSecondIn (Stands ps qs) q b → Serves d n p q v l
              → (m : Lived ℕ) × Serves c n a b v m × IsVersionIn (Stands ps qs) l m
          by None None h serve = serves_up c d (Stands ps qs) is_part n p None a None first.row tt v l serve
          by None (Some m) h serve = absurd h
          by (Some k) None h serve = absurd h
          by (Some k) (Some m) h serve = serves_up c d (Stands ps qs) is_part n p (Some k) a (Some m) first.row h.row v l serve

      serve_down : (v : VersionId) (m : Lived ℕ) → Serves c n a b v m → AreInside (Stands ps qs) m.life
          → (l : Lived ℕ) × Serves d n p q v l × IsSameVersion (Stands ps qs) l m
      serve_down v m serve inside = by q b second serve
        where
          by : (q b : Option (Lived ℕ)) → IsSecondIn (Stands ps qs) q b → Serves c n a b v m
              → (l : Lived ℕ) × Serves d n p q v l × IsSameVersion (Stands ps qs) l m
          by None None h serve = serves_down c d (Stands ps qs) is_part n p None a None first.row tt v m serve inside
          by None (Some i) h serve = absurd h
          by (Some k) None h serve = absurd h
          by (Some k) (Some i) h serve = serves_down c d (Stands ps qs) is_part n p (Some k) a (Some i) first.row h.row v m serve inside

      touched_up : IsTouchedBy d n p q → IsTouchedBy c n a b
      touched_up (inl fresh) = inl fresh
      touched_up (inr (v, l, serve, changed)) =
          let (m, serve_too, in_more) = serve_up v l serve in inr (v, m, serve_too, changed_up l.life m.life in_more.life changed)

      none_always : ((v : VersionId) (l : Lived ℕ) → Serves d n p q v l → l.life ≡ Always → ⊥) → ¬ (IsServedAlways c n a b)
      none_always none (v, m, serve, e) =
          let (l, serve_too, same) = serve_down v m serve (λ y names. absurd (subst (λ (life : Lifetime ℕ). Names life y) e names)) in
          none v l serve_too (always_down l.life m.life same.life e)

      -- who helps and is one of the fewer helps there
      helper_down : (k j : ℕ) → Stands ps qs k j → IsHelper c n a b j → IsHelper d n p q k
      helper_down k j stands (inl e) = inl (without_down p.life a.life k j first.life stands e)
      helper_down k j stands (inr (inl e)) = inr (inl (second_without_down q b k j second stands e))
      helper_down k j stands (inr (inr (v, m, serve, e))) =
          let (l, serve_too, same) =
          serve_down v m serve (λ y names. (k, subst (λ (i : ℕ). Stands ps qs k i) (subst (λ (life : Lifetime ℕ). Names life y) e names) stands)) in
          inr (inr (v, l, serve_too, with_down l.life m.life k j same.life stands e))

  -- members whom nobody helps -------------------------------------------------------------------------------------------

  module _ (others list : List ℕ) (n : Need) (alone : BreakAlone o s others n) (nobody : AreHelpers o s others n []) (all : IsAllIn others list)
      (among_members : (at : ℕ) → Contains list at → at < length s.members) (together : AreTogether o (merge_set_of_part s list)) where
    list_below : AreBelow list
    list_below x h = among_members x (contained x list h)

    in_list : (x : ℕ) → Among x others → Among x list
    in_list x h = among x list (all x (contained x others h))

    list_mergeable : AreMergeable o (merge_set_of_part s list)
    list_mergeable = mergeable_of o (merge_set_of_part s list) together.free together.apart

    others_below : AreBelow others
    others_below x h = list_below x (in_list x h)

    others_once : IsOnce others
    others_once = once_of others others_below (mergeable_of o (merge_set_of_part s others) alone.together.free alone.together.apart)

    here : Opens (setting_in others) n
    here = opens (setting_in others) n alone.is_open

    up : HasSubjects (setting_in list) (setting_in others) (Stands others list) n here.first here.second
    up = possible_up (setting_in list) (setting_in others) (Stands others list) (is_part others list list_below others_once in_list list_mergeable) n
        here.first here.second here.possible

    -- none of them helps, since each blocks the need
    none_inside : (k : ℕ) → IsHelper (setting_in others) n here.first here.second k → ⊥
    none_inside k helps =
        let count = sets_counted others others_below in
        let less =
        helper_below o.book (root_content o (merge_set_of_part s others)) (change_sets o (merge_set_of_part s others)) n here.first here.second here.possible k
        helps in
        let (a, b, possible, blocks) = alone.block k (omega (arith, less, count)) in
        let once = subjects_once (setting_in others) n here.first a here.second b here.possible possible in
        sides_differ (setting_in others) n here k helps
        (subst (λ l. IsBlocker (setting_in others) n l here.second k) once.0 (subst (λ m. IsBlocker (setting_in others) n a m k) once.1 blocks))

    -- nor does another one
    module _ (j x : ℕ) (at : slice_get list j ≡ Some x) (new : Among x others → ⊥) where
      abbrev more : List ℕ
      more = others ++ x ∷ []

      more_in_list : (y : ℕ) → Among y more → Among y list
      more_in_list y h = by (among_either y others (x ∷ []) h)
        where
          by : Among y others ⊎ Among y (x ∷ []) → Among y list
          by (inl one) = in_list y one
          by (inr (inl same)) = subst (λ (z : ℕ). Among z list) same (among x list (stands_among list j x at))
          by (inr (inr none)) = absurd none

      more_below : AreBelow more
      more_below y h = list_below y (more_in_list y h)

      more_once : IsOnce more
      more_once = once_behind others x others_once (λ k e. new (among x others (stands_among others k x e)))

      others_in_more : (y : ℕ) → Among y others → Among y more
      others_in_more y h = among y more (Contains-append_left others (x ∷ []) y (contained y others h))

      more_mergeable : AreMergeable o (merge_set_of_part s more)
      more_mergeable = fewer_mergeable more list list_below more_once more_in_list list_mergeable

      between : HasSubjects (setting_in more) (setting_in others) (Stands others more) n here.first here.second
      between = possible_up (setting_in more) (setting_in others) (Stands others more)
          (is_part others more more_below others_once others_in_more more_mergeable) n here.first here.second here.possible

      version_in : (v : VersionId) (l m : Lived ℕ) → version (setting_in more) v ≡ Some l → version (setting_in list) v ≡ Some m
          → IsVersionIn (Stands more list) l m
      version_in v l m e f =
          subst (λ (r : Option (Lived ℕ)). IsVersionOfPart (Stands more list) (Some l) r) f
          (subst (λ (r : Option (Lived ℕ)). IsVersionOfPart (Stands more list) r (version (setting_in list) v)) e
          ((is_part more list list_below more_once more_in_list list_mergeable).versions v))

      second_in : (w : Option VersionId) (q b : Option (Lived ℕ)) → IsBesideIfAny (setting_in more) n.first between.first w q
          → IsBesideIfAny (setting_in list) n.first up.first w b → IsSecondIn (Stands more list) q b
      second_in None None None h k = tt
      second_in None None (Some m) h k = absurd k
      second_in None (Some l) b h k = absurd h
      second_in (Some w) None b h k = absurd h
      second_in (Some w) (Some l) None h k = absurd k
      second_in (Some w) (Some l) (Some m) h k = version_in w l m h.is k.is

      none_outside : IsHelper (setting_in list) n up.first up.second j → ⊥
      none_outside helps =
          let it : IsHelper (setting_in more) n between.first between.second (length others) =
          helper_down more list list_below more_once more_in_list list_mergeable n between.first between.second up.first up.second
          (version_in n.first between.first up.first between.possible.first_is up.possible.first_is)
          (second_in n.second between.second up.second between.possible.second_is up.possible.second_is) (length others) j (x, last_there others x, at)
          helps in
          absurd (among x [] ((nobody.exactly x).1 (record {
            touched = record { together = alone.together; touched = alone.is_open.touched };
            member = list_below x (among x list (stands_among list j x at));
            helps = record {
              together = fewer_together more list list_below more_once more_in_list list_mergeable;
              helps = (between.first, between.second, between.possible, it);
            };
          })))

    none_helps : (j : ℕ) → IsHelper (setting_in list) n up.first up.second j → ⊥
    none_helps j helps =
        let count = sets_counted list list_below in
        let less =
        helper_below o.book (root_content o (merge_set_of_part s list)) (change_sets o (merge_set_of_part s list)) n up.first up.second up.possible j helps in
        by (get_or list j 0) (slice_get-get_or list j 0 (omega (arith, less, count))) (list_any (λ y. y == get_or list j 0) others) refl
      where
        inside : (x : ℕ) → slice_get list j ≡ Some x → Among x others → ⊥
        inside x at h =
            let (k, e) = stands_of others x (contained x others h) in
            none_inside k (helper_down others list list_below others_once in_list list_mergeable n here.first here.second up.first up.second
            up.in_first up.in_second k j (x, e, at) helps)

        by : (x : ℕ) → slice_get list j ≡ Some x → (told : Bool) → list_any (λ y. y == x) others ≡ told → ⊥
        by x at true e =
            let (y, there, same) = some_of (λ y. y == x) others e in
            inside x at (subst (λ (z : ℕ). Among z others) ((Decides-eqb y x).0 same) there)
        by x at false e =
            none_outside j x at (λ h. true≢false (sym (any_by (λ y. y == x) x others h ((Decides-eqb x x).1 refl)) ∙ e)) helps

    -- so nothing covers the need, whoever goes before whom
    never_covered : (before : Order ℕ) → HasCover before (setting_in list) n up.first up.second → ⊥
    never_covered before cover = by ((cover_is_help before (setting_in list) n up.first up.second up.possible).0 cover)
      where
        by : IsServedAlways (setting_in list) n up.first up.second ⊎ HelpComesFirst before (setting_in list) n up.first up.second → ⊥
        by (inl always) =
            none_always others list list_below others_once in_list list_mergeable n here.first here.second up.first up.second up.in_first up.in_second
            (λ v l serve e. here.uncovered.not_alone v (l, serve, inl e)) always
        by (inr (x, y, helps, blocks, first)) = none_helps x helps

    touched_in_list : IsTouchedBy (setting_in list) n up.first up.second
    touched_in_list =
        touched_up others list list_below others_once in_list list_mergeable n here.first here.second up.first up.second up.in_first up.in_second here.touched

pub never_cleared : UnhelpedSetLaw
never_cleared o s others list n (plan.Cleared c) alone nobody all among_members is =
    let together : AreTogether o (merge_set_of_part s list) = record { free = is.free; apart = is.apart } in
    let its = up o s others list n alone nobody all among_members together in
    let before = position_goes_before (ordered_merge_set_of c) in
    let cover =
    each_has_cover before (setting_by_position o (merge_set_of_part s list)) (entries_in c.entries) is.covered n its.first its.second its.possible
    (touched_in_list o s others list n alone nobody all among_members together) in
    absurd (never_covered o s others list n alone nobody all among_members together before cover)
never_cleared o s others list n (plan.Blocked order cause) alone nobody all among_members is = refl
never_cleared o s others list n (plan.Unfit v) alone nobody all among_members is = refl
never_cleared o s others list n plan.OutOfMemory alone nobody all among_members is = refl
