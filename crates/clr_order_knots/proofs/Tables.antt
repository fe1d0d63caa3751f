-- Tables in which members are marked, one after another.
use Rattle.std.proofs.Common.{◌≡◌, ◌∙◌, ◌<◌, ◌≤◌, ◌+◌, ◌==◌, ◌||◌, ◌&&◌, ℕ, zero, suc, Bool, true, false, List, [], ◌∷◌, ◌++◌, Option, Some, None, inl, inr}
use Rattle.std.proofs.Common.{get_or, length, set, slice_get, take, refl, sym, ap, subst, arith}
use Rattle.std.specs.List.{cons_option, list_any}
use Rattle.std.proofs.Math.Bool.{or-false, or_assoc}
use Rattle.std.proofs.lemmas.Bool.{cases_Bool, true≢false, or_left, or_right}
use Rattle.std.proofs.lemmas.Bool.Decides.{Decides-eqb}
use Rattle.std.proofs.lemmas.List.{get_or-set_other, get_or-set_same, take_more}
use Rattle.std.proofs.lemmas.List.Elements.{filter_map-append}
use Rattle.std.proofs.lemmas.List.Folds.{list_any-append}
use Rattle.std.proofs.lemmas.Option.{slice_get_read}
use Rattle.clr_order_search.specs.declared.open_needs.OpenNeed.{OpenNeed}
use Rattle.clr_order_search.specs.OpenNeeds.{has}
use Rattle.clr_order_search.proofs.Rests.{itself, same_of}
use Rattle.clr_order_knots.specs.declared.sides.NeedSide.{NeedSide}
use Rattle.clr_order_knots.specs.declared.sides.NeedSide.TheVariants as side
use Rattle.clr_order_knots.specs.Members.{is_at, is_on, needs_at, on_side}
use Rattle.clr_order_knots.specs.OpenNeeds.{AreWithin}

-- a table that says more than another just of those that pass a test
abbrev pub Adds : List Bool → List Bool → (ℕ → Bool) → Type 0
Adds old new test = (m : ℕ) → get_or new m false ≡ (get_or old m false || test m)

pub none_marked_yet : (table : List Bool) (test : ℕ → Bool) → ((m : ℕ) → test m ≡ false) → Adds table table test
none_marked_yet table test none m = sym (or-false (get_or table m false)) ∙ (λ i. get_or table m false || sym (none m) i)

-- one more member of a list
module _ (start old : List Bool) (members : List ℕ) (k : ℕ) (less : k < length members) (within : get_or members k 0 < length old)
    (adds : Adds start old (has (take k members))) where
  abbrev it : ℕ
  it = get_or members k 0

  next_is : take (k + 1) members ≡ take k members ++ it ∷ []
  next_is = take_more members k 0 less

  there : (x : ℕ) → (it == x) ≡ true → has (take (k + 1) members) x ≡ true
  there x same = ap (λ xs. has xs x) next_is ∙ list_any-append (λ y. y == x) (take k members) (it ∷ [])
      ∙ or_right (has (take k members) x) (has (it ∷ []) x) (or_left (it == x) false same)

  stays : (x : ℕ) → (it == x) ≡ false → has (take (k + 1) members) x ≡ has (take k members) x
  stays x other = ap (λ xs. has xs x) next_is ∙ list_any-append (λ y. y == x) (take k members) (it ∷ [])
      ∙ (λ i. has (take k members) x || (other i || false)) ∙ or-false (has (take k members) x)

  pub one_marked : Adds start (set old it true) (has (take (k + 1) members))
  one_marked x = elim (cases_Bool (it == x)) [
    | inl same ↦ ap (λ y. get_or (set old it true) y false) (sym (same_of it x same)) ∙ get_or-set_same old it true false within
        ∙ sym (or_right (get_or start x false) (has (take (k + 1) members) x) (there x same))
    | inr other ↦ get_or-set_other old it x true false (λ e. true≢false (sym ((Decides-eqb it x).1 (sym e)) ∙ other)) ∙ adds x
        ∙ (λ i. get_or start x false || sym (stays x other) i)
  ]

-- one more element of a list, with what its test adds
module _ {X : Type 0} (test : X → ℕ → Bool) where
  pub one_added : (start old new : List Bool) (xs : List X) (k : ℕ) (x : X) → take (k + 1) xs ≡ take k xs ++ x ∷ [] → Adds start old (λ m. list_any (λ y. test y m) (take k xs))
      → Adds old new (test x) → Adds start new (λ m. list_any (λ y. test y m) (take (k + 1) xs))
  one_added start old new xs k x next adds more m =
      more m ∙ (λ i. adds m i || test x m) ∙ or_assoc (get_or start m false) (list_any (λ y. test y m) (take k xs)) (test x m)
      ∙ (λ i. get_or start m false || sym behind i)
    where
      behind : list_any (λ y. test y m) (take (k + 1) xs) ≡ (list_any (λ y. test y m) (take k xs) || test x m)
      behind = ap (list_any (λ y. test y m)) next ∙ list_any-append (λ y. test y m) (take k xs) (x ∷ [])
          ∙ (λ i. list_any (λ y. test y m) (take k xs) || or-false (test x m) i)

-- one more place, with the need that stands there, if any
module _ (needs : List OpenNeed) (places : List ℕ) (s : NeedSide) (start old : List Bool) (k : ℕ) (less : k < length places)
    (adds : Adds start old (is_on s (needs_at needs (take k places)))) where
  abbrev at : ℕ
  at = get_or places k 0

  abbrev seen : List OpenNeed
  seen = needs_at needs (take k places)

  next : needs_at needs (take (k + 1) places) ≡ seen ++ cons_option (slice_get needs at) []
  next = ap (needs_at needs) (take_more places k 0 less) ∙ filter_map-append (slice_get needs) (take k places) (at ∷ [])

  one_behind : (o : Option OpenNeed) (m : ℕ) → is_on s (seen ++ cons_option o []) m ≡ (is_on s seen m || is_at s o m)
  one_behind None m = list_any-append (λ n. has (on_side s n) m) seen []
  one_behind (Some need) m = list_any-append (λ n. has (on_side s n) m) seen (need ∷ []) ∙ (λ i. is_on s seen m || or-false (has (on_side s need) m) i)

  pub one_place : (new : List Bool) → Adds old new (is_at s (slice_get needs at)) → Adds start new (is_on s (needs_at needs (take (k + 1) places)))
  one_place new more m =
      more m ∙ (λ i. adds m i || is_at s (slice_get needs at) m) ∙ or_assoc (get_or start m false) (is_on s seen m) (is_at s (slice_get needs at) m)
      ∙ (λ i. get_or start m false || sym (ap (λ ns. is_on s ns m) next ∙ one_behind (slice_get needs at) m) i)

-- past the needs stands none
pub none_past : (ns : List OpenNeed) (j : ℕ) → length ns ≤ j → slice_get ns j ≡ None
none_past [] j long = refl
none_past (n ∷ ns) zero long = absurd (omega (arith, long))
none_past (n ∷ ns) (suc j) long = none_past ns j (omega (arith, long))

-- the members on a side are below the count
pub side_below : (needs : List OpenNeed) (count : ℕ) → AreWithin needs count → (s : NeedSide) (need : OpenNeed) (at : ℕ) → slice_get needs at ≡ Some need → (m : ℕ)
    → has (on_side s need) m ≡ true → m < count
side_below needs count within side.Blockers need at e m h = (within need at e).blockers m h
side_below needs count within side.Helpers need at e m h = (within need at e).helpers m h

pub nothing_taken : {X : Type 0} (test : X → ℕ → Bool) (xs : List X) (m : ℕ) → list_any (λ y. test y m) (take 0 xs) ≡ false
nothing_taken test [] m = refl
nothing_taken test (x ∷ xs) m = refl

pub no_place_taken : (needs : List OpenNeed) (places : List ℕ) (s : NeedSide) (m : ℕ) → is_on s (needs_at needs (take 0 places)) m ≡ false
no_place_taken needs [] s m = refl
no_place_taken needs (p ∷ ps) s m = refl

pub none_taken : (xs : List ℕ) (m : ℕ) → has (take 0 xs) m ≡ false
none_taken [] m = refl
none_taken (x ∷ xs) m = refl

-- what is added to an empty table is all that it says
pub only_added : (old new : List Bool) (test : ℕ → Bool) → ((m : ℕ) → get_or old m false ≡ false) → Adds old new test → (m : ℕ) → get_or new m false ≡ test m
only_added old new test empty adds m = adds m ∙ (λ i. empty m i || test m)
