-- Under pairs that serve the open needs each touched need is covered, and some entries cover them all.
use Rattle.std.proofs.Common.{◌≡◌, ◌∙◌, ◌==◌, ◌&&◌, ◌⊎◌, ℕ, zero, suc, Bool, true, false, List, [], ◌∷◌, ◌++◌, Option, Some, None, inl, inr, Contains}
use Rattle.std.proofs.Common.{slice_get, refl, sym, ap, subst, arith}
use Rattle.std.specs.List.{list_all, list_any}
use Rattle.std.proofs.lemmas.Bool.{and_from, and_parts, false≢true, true≢false}
use Rattle.std.proofs.lemmas.Bool.Decides.{Decides-eqb}
use Rattle.clr_rules.proofs.Elements.{Among, among, any_by, contained, some_of}
use Rattle.clr_needs.specs.declared.needs.Need.{Need}
use Rattle.clr_needs.specs.declared.needs.VersionId.{VersionId}
use Rattle.clr_needs.specs.Covers.{Entry, IsLifeOf}
use Rattle.clr_needs.specs.Covers as unordered
use Rattle.clr_needs.specs.Needs.{AreTouchedNeeds, IsPossible, IsTouched, IsTouchedBy, Serves}
use Rattle.clr_needs.specs.Picks.{IsPick, Picks}
use Rattle.clr_needs.specs.Settings.{Setting, Lifetime, Always, With, Without, Lived}
use Rattle.clr_needs.proofs.NeedSubjects.{subjects_once}
use Rattle.clr_order_search.specs.declared.open_needs.OpenNeed.{OpenNeed}
use Rattle.clr_order_search.specs.OpenNeeds.{has}
use Rattle.clr_ordered_needs.specs.Covers.{AreCovered, EachHasCover, HasCover, HasEntry, SubjectsNeverMeet, WitnessesCover}
use Rattle.clr_ordered_needs.specs.Helpers.{HelpComesFirst, IsHelper, IsServedAlways}
use Rattle.clr_ordered_needs.specs.Turns.{Order}
use Rattle.clr_ordered_needs.proofs.HelpLaws.{cover_is_help}
use Rattle.clr_order_answers.specs.declared.pairs.Pair.{Pair}
use Rattle.clr_order_answers.specs.Pairs.{are_served, is_served, serves}
use Rattle.clr_order_knots.proofs.Lists.{all_at, contained_at}
use Rattle.clr_open_needs.specs.declared.listing.OpenNeeds.{OpenNeeds}
use Rattle.clr_open_needs.specs.OpenNeeds.{AreOpenNeeds, AreSidesOf, HasSides}
use Rattle.clr_scene_orders.specs.SceneOrders.{order_by}
use Rattle.clr_scene_orders.proofs.Sides.{Opens, blocks_of, helps_of, is_open, need_at, of_blocks, of_helps, of_has, opens, sides_at, sides_differ}

-- who stands at a place of a list is in it
pub contained_of : {X : Type 0} (xs : List X) (at : ℕ) (x : X) → slice_get xs at ≡ Some x → Contains xs x
contained_of {X = X} xs at x e = contained x xs (there xs at e)
  where
    there : (ys : List X) (k : ℕ) → slice_get ys k ≡ Some x → Among x ys
    there [] k e = absurd (cc)
    there (y ∷ ys) zero e = inl (cc)
    there (y ∷ ys) (suc k) e = inr (there ys k e)

-- what is picked helps in every order ----------------------------------------------------------------------------

module _ (before : Order ℕ) (c : Setting ℕ) (n : Need) (a : Lived ℕ) (b : Option (Lived ℕ)) where
  abbrev IsHelped : Type 0
  IsHelped = IsServedAlways c n a b ⊎ HelpComesFirst before c n a b

  -- a serving version that lives as long as the first subject
  first_lasts : (v : VersionId) (l : Lived ℕ) → Serves c n a b v l → (k : Lifetime ℕ) → a.life ≡ k → l.life ≡ k → IsHelped
  first_lasts v l serve Always e f = inl (v, l, serve, f)
  first_lasts v l serve (With x) e f = inr (x, x, inr (inr (v, l, serve, f)), inl e, inl refl)
  first_lasts v l serve (Without x) e f = inr (x, x, inl e, inr (inr (v, l, serve, f)), inl refl)

  second_lasts : (v : VersionId) (l : Lived ℕ) → Serves c n a b v l → (k : Lifetime ℕ) → IsLifeOf k b → l.life ≡ k → IsHelped
  second_lasts v l serve Always e f = inl (v, l, serve, f)
  second_lasts v l serve (With x) e f = inr (x, x, inr (inr (v, l, serve, f)), inr (inl e), inl refl)
  second_lasts v l serve (Without x) e f = inr (x, x, inr (inl e), inr (inr (v, l, serve, f)), inl refl)

  pub picked_helps : (p : VersionId × Option VersionId) → IsPick c n a b (Some p) → IsHelped
  picked_helps (v, None) pick = by pick.0.0 pick.0.1 pick.0.2
    where
      by : (l : Lived ℕ) → Serves c n a b v l → unordered.Lasts l.life a b → IsHelped
      by l serve (inl e) = inl (v, l, serve, e)
      by l serve (inr (inl e)) = first_lasts v l serve a.life refl e
      by l serve (inr (inr e)) = second_lasts v l serve l.life e refl
  picked_helps (v, Some w) pick =
      let x = pick.1.0 in
      let old = pick.1.3.0 in
      let new = pick.1.4.0 in
      inr (x, x, inr (inr (w, new.0, new.1, new.2)), inr (inr (v, old.0, old.1, old.2)), inl refl)

-- pairs and the needs that they serve ------------------------------------------------------------------------------

-- where a pair serves a need, its helper goes before its blocker; and who goes before whom is a pair
pub goes_by : (pairs : List Pair) (p : Pair) → Among p pairs → order_by pairs p.earlier p.later ≡ true
goes_by pairs p h = any_by (λ q. (q.earlier == p.earlier) && (q.later == p.later)) p pairs h
    (and_from (p.earlier == p.earlier) (p.later == p.later) ((Decides-eqb p.earlier p.earlier).1 refl) ((Decides-eqb p.later p.later).1 refl))

pub pair_by : (pairs : List Pair) (x y : ℕ) → order_by pairs x y ≡ true → (p : Pair) × Among p pairs × (p.earlier ≡ x) × (p.later ≡ y)
pair_by pairs x y h =
    let (p, there, is) = some_of (λ q. (q.earlier == x) && (q.later == y)) pairs h in
    let both = and_parts (p.earlier == x) (p.later == y) is in
    (p, there, (Decides-eqb p.earlier x).0 both.0, (Decides-eqb p.later y).0 both.1)

module _ (c : Setting ℕ) (n : Need) (o : Opens c n) (sides : OpenNeed) (are : HasSides c n sides) (pairs : List Pair) where
  pub served_helps : is_served pairs sides ≡ true → HelpComesFirst (order_by pairs) c n o.first o.second
  served_helps served =
      let (p, there, is) = some_of (λ q. serves q sides) pairs served in
      let both = and_parts (has sides.helpers.items p.earlier) (has sides.blockers.items p.later) is in
      (p.earlier, p.later, helps_of c n o sides are p.earlier both.0, blocks_of c n o sides are p.later both.1, inr (goes_by pairs p there))

  pub helped_is_served : HelpComesFirst (order_by pairs) c n o.first o.second → is_served pairs sides ≡ true
  helped_is_served (x, y, helps, blocks, inl same) = absurd (sides_differ c n o y
      (subst (λ z. IsHelper c n o.first o.second z) same helps) blocks)
  helped_is_served (x, y, helps, blocks, inr goes) =
      let (p, there, is, is_too) = pair_by pairs x y goes in
      any_by (λ q. serves q sides) p pairs there (and_from (has sides.helpers.items p.earlier) (has sides.blockers.items p.later)
      (ap (has sides.helpers.items) is ∙ of_helps c n o sides are x helps) (ap (has sides.blockers.items) is_too ∙ of_blocks c n o sides are y blocks))

  pub covered_is_served : HasCover (order_by pairs) c n o.first o.second → is_served pairs sides ≡ true
  covered_is_served cover = elim ((cover_is_help (order_by pairs) c n o.first o.second o.possible).0 cover) [
    | inl always ↦ absurd ((is_open c n o).none_always always)
    | inr help ↦ helped_is_served help
  ]

module _ (c : Setting ℕ) (found : OpenNeeds) (are : AreOpenNeeds c found) (pairs : List Pair) where
  -- ---- each touched need is covered

  pub each_covered : are_served pairs found.sides.items ≡ true → EachHasCover (order_by pairs) c
  each_covered served n a b possible touched = (cover_is_help (order_by pairs) c n a b possible).1 (by (are.told n (a, b, possible, touched)))
    where
      by : Contains found.needs.items n ⊎ ((p : VersionId × Option VersionId) × Picks c n (Some p)) → IsServedAlways c n a b
          ⊎ HelpComesFirst (order_by pairs) c n a b
      by (inr (p, picks)) = picked_helps (order_by pairs) c n a b p (picks a b possible)
      by (inl listed) =
          let o = opens c n ((are.needs.exactly n).0 listed) in
          let (at, e) = contained_at found.needs.items n listed in
          let (sides, f, has_sides) = sides_at c found.needs.items found.sides.items are.sides at n e in
          let once = subjects_once c n a o.first b o.second possible o.possible in
          inr (subst (λ l. HelpComesFirst (order_by pairs) c n l b) once.0 (subst (λ m. HelpComesFirst (order_by pairs) c n o.first m) once.1
          (served_helps c n o sides has_sides pairs (all_at (is_served pairs) found.sides.items served at sides f))))

  -- ---- where a need has no pair, it isn't

  pub none_covered : are_served pairs found.sides.items ≡ false → ¬ (EachHasCover (order_by pairs) c)
  none_covered out each =
      let (at, sides, e, unserved) = left_out found.sides.items out in
      let (n, f, has_sides) = need_at c found.needs.items found.sides.items are.sides at sides e in
      let o = opens c n ((are.needs.exactly n).0 (contained_of found.needs.items at n f)) in
      true≢false (sym (covered_is_served c n o sides has_sides pairs (each n o.first o.second o.possible o.touched)) ∙ unserved)
    where
      left_out : (ss : List OpenNeed) → are_served pairs ss ≡ false → (at : ℕ) × (s : OpenNeed) × (slice_get ss at ≡ Some s) × (is_served pairs s ≡ false)
      left_out [] e = absurd (true≢false e)
      left_out (s ∷ ss) e = by (is_served pairs s) refl e (left_out ss)
        where
          by : (t : Bool) → is_served pairs s ≡ t → t && are_served pairs ss ≡ false
              → (are_served pairs ss ≡ false → (at : ℕ) × (r : OpenNeed) × (slice_get ss at ≡ Some r) × (is_served pairs r ≡ false))
              → (at : ℕ) × (r : OpenNeed) × (slice_get (s ∷ ss) at ≡ Some r) × (is_served pairs r ≡ false)
          by false f g more = (zero, s, refl, f)
          by true f g more = let (at, r, h, k) = more g in (suc at, r, h, k)

-- entries for the needs that are covered -----------------------------------------------------------------------------

module _ (before : Order ℕ) (c : Setting ℕ) (each : EachHasCover before c) where
  -- each of some needs has an entry, or its subjects never meet
  abbrev HaveEntries : List Need → List Entry → Type 0
  HaveEntries ns es = (n : Need) → Among n ns → (a : Lived ℕ) (b : Option (Lived ℕ)) → IsPossible c n a b → SubjectsNeverMeet before a b
      ⊎ HasEntry before c n a b es

  entries_for : (ns : List Need) → ((n : Need) → Among n ns → IsTouched c n) → (es : List Entry) × HaveEntries ns es
  entries_for [] touched = ([], λ n h a b p. absurd h)
  entries_for (m ∷ ms) touched =
      let (x, y, possible, by) = touched m (inl refl) in
      let (es, have) = entries_for ms (λ n h. touched n (inr h)) in
      more x y possible es have (each m x y possible by)
    where
      more : (x : Lived ℕ) (y : Option (Lived ℕ)) → IsPossible c m x y → (es : List Entry) → HaveEntries ms es → HasCover before c m x y
          → (fs : List Entry) × HaveEntries (m ∷ ms) fs
      more x y possible es have (inl never) = (es, here)
        where
          here : HaveEntries (m ∷ ms) es
          here n (inl e) a b p =
              let q = subst (λ k. IsPossible c k x y) e possible in
              let once = subjects_once c n a x b y p q in
              inl (subst (λ l. SubjectsNeverMeet before l b) once.0 (subst (λ k. SubjectsNeverMeet before x k) once.1 never))
          here n (inr h) a b p = have n h a b p
      more x y possible es have (inr (v, w, cover)) = ((m, v, w) ∷ es, here)
        where
          here : HaveEntries (m ∷ ms) ((m, v, w) ∷ es)
          here n (inl e) a b p =
              let q = subst (λ k. IsPossible c k x y) e possible in
              let once = subjects_once c n a x b y p q in
              inr (inl (
                e,
                subst (λ l. WitnessesCover before c n l b v w) once.0 (subst (λ k. WitnessesCover before c n x k v w) once.1
                    (subst (λ k. WitnessesCover before c k x y v w) e cover)),
              ))
          here n (inr h) a b p = elim (have n h a b p) [ inl never ↦ inl never | inr there ↦ inr (inr there) ]

  pub covering_entries : (ns : List Need) → AreTouchedNeeds c ns → (es : List Entry) × AreCovered before c es
  covering_entries ns are =
      let (es, have) = entries_for ns (λ n h. (are.exactly n).0 (contained n ns h)) in
      (es, λ n a b possible touched. have n (among n ns ((are.exactly n).1 (a, b, possible, touched))) a b possible)
