-- The keys of tips.
use Rattle.std.proofs.Common.{◌≡◌, ◌∙◌, ℕ, ℤ, pos, Bor, map, ◌+◌, ◌-◌, ◌*◌, ◌/◌, ◌%◌, ◌<◌, ◌≤◌, Bool, true, false, cond, List, [], ◌∷◌, ◌++◌, Option, None}
use Rattle.std.proofs.Common.{Some, ap, arith, get_or, length, nat_le, nat_lt, refl, subst, suc, sym, take, to_z, unsigned_abs, w64, zero}
use Rattle.std.specs.Prelude.{position, slice_get}
use Rattle.std.specs.Option.{option_and_then, option_map}
use Rattle.std.specs.Str.{bytes_eq}
use Rattle.std.specs.Cmp.Lexicographic.{bytes_decides}
use Rattle.std.proofs.lemmas.Bool.{le-leb}
use Rattle.std.proofs.lemmas.Bool.Decides.{nat_tests}
use Rattle.std.proofs.lemmas.Int.{ints}
use Rattle.std.proofs.lemmas.List.{take_more}
use Rattle.std.proofs.lemmas.List.Sums.{position_or_len_is}
use Rattle.std.proofs.lemmas.Nat.{mod-mul-add}
use Rattle.std.proofs.lemmas.Option.{get_or_from_slice_get, slice_get-get_or, slice_get-map, slice_get_within}
use Rattle.std.proofs.lemmas.List.Quantifiers.{position-Some}
use Rattle.clr_rows.specs.declared.limits.TheConstants.{GREATEST_KEY}
use Rattle.clr_workspaces.specs.Marks.{Name}
use Rattle.clr_steps.specs.Offices.{Office}
use Rattle.clr_steps.specs.Readings.{name_at}
use Rattle.clr_tips.specs.Keys.{all_names, greatest_key, key_among, own_key, tip_key, within_keys}

-- an own key leaves the position when it is divided by the count
own_left : (count at key : ℕ) → at < count → own_key count at key % count ≡ at
unfolding own_key
own_left count at key less =
    let whole : key - key % count + count + at ≡ (key / count + 1) * count + at = omega arith in
    ap (λ n. n % count) whole ∙ mod-mul-add (key / count + 1) count at less

within : (n : ℕ) (key : ℤ) → within_keys n ≡ Some key → pos n ≡ key
within n key e = by (nat_le n (unsigned_abs GREATEST_KEY)) e
  where
    by : (b : Bool) → cond b (Some (pos n)) None ≡ Some key → pos n ≡ key
    by true e = cc
    by false e = absurd (cc)

-- what is known of a key that is told
pub record IsOwn (names : List Name) (greatest : ℕ) (name : Name) (key : ℤ) : Type 0 where
  pub at : ℕ
  pub found : position (λ other. bytes_eq other name) names ≡ Some at
  pub is : pos (own_key (length names) at greatest) ≡ key

pub own : (names : List Name) (greatest : ℕ) (name : Name) (key : ℤ) → key_among names greatest name ≡ Some key → IsOwn names greatest name key
own names greatest name key e = by (position (λ other. bytes_eq other name) names) refl e
  where
    by : (r : Option ℕ) → position (λ other. bytes_eq other name) names ≡ r
        → option_and_then (λ at. within_keys (own_key (length names) at greatest)) r ≡ Some key → IsOwn names greatest name key
    by None found e = absurd (cc)
    by (Some at) found e = record { at = at; found = found; is = within (own_key (length names) at greatest) key e }

-- the name at the position of a name is the name itself
pub named : (names : List Name) (name d : Name) (at : ℕ) → position (λ other. bytes_eq other name) names ≡ Some at → (at < length names)
    × (get_or names at d ≡ name)
named names name d at found =
    let is = position-Some (λ other. bytes_eq other name) names at d found in
    (is.0, (bytes_decides (get_or names at d) name).0 is.1)

one_place : (n at at' g g' : ℕ) → at < n → at' < n → own_key n at g ≡ own_key n at' g' → at ≡ at'
one_place n at at' g g' less less' e = sym (own_left n at g less) ∙ ap (λ k. k % n) e ∙ own_left n at' g' less'

one_name : (names : List Name) (g g' : ℕ) (a b : Name) (key : ℤ) → IsOwn names g a key → IsOwn names g' b key → a ≡ b
one_name names g g' a b key one other =
    let here = named names a [] one.at one.found in
    let there = named names b [] other.at other.found in
    let same : own_key (length names) one.at g ≡ own_key (length names) other.at g' = let e = one.is ∙ sym other.is in cc in
    let at = one_place (length names) one.at other.at g g' here.0 there.0 same in
    sym here.1 ∙ ap (λ k. get_or names k []) at ∙ there.1

pub tips_differ : (o later : Office) → all_names later ≡ all_names o → (root other : Name) (table : ℕ) (a b : Name) (key : ℤ)
    → tip_key o root table a ≡ Some key → tip_key later other table b ≡ Some key → a ≡ b
tips_differ o later same root other table a b key first second =
    let moved = subst (λ (names : List Name). key_among names (greatest_key later other table) b ≡ Some key) same second in
    one_name (all_names o) (greatest_key o root table) (greatest_key later other table) a b key
    (own (all_names o) (greatest_key o root table) a key first) (own (all_names o) (greatest_key later other table) b key moved)

-- what is told within the keys ------------------------------------------------------------------------

pub told_within : (n m : ℕ) → m ≡ n → m ≤ unsigned_abs GREATEST_KEY → ◌≡◌ {A = Option ℤ} (Some (to_z w64 m)) (within_keys n)
told_within n m e less =
    let fits : to_z w64 m ≡ pos m = omega (arith, ints) in
    let here = le-leb m (unsigned_abs GREATEST_KEY) less in
    rw (← e) (rw here (ap (λ (z : ℤ). Some z) fits))

pub none_within : (n m : ℕ) → m ≡ n → unsigned_abs GREATEST_KEY < m → ◌≡◌ {A = Option ℤ} None (within_keys n)
none_within n m e more =
    let there : nat_le m (unsigned_abs GREATEST_KEY) ≡ false = grind (arith, nat_tests) in
    rw (← e) (rw there refl)

-- names by position ------------------------------------------------------------------------------------

pub name_is : (o : Office) (at : ℕ) → name_at o at ≡ slice_get (all_names o) at
name_is o zero = refl
name_is o (suc at) = sym (slice_get-map (λ w. w.name) o.workspaces at)

pub one_more : (names : List Name) (at : ℕ) (name : Name) (told : List Name) → slice_get names at ≡ Some name → told ≡ take at names
    → told ++ name ∷ [] ≡ take (at + 1) names
one_more names at name told get e =
    let less = slice_get_within names at name get in
    let here = get_or_from_slice_get names at name [] get in
    rw (take_more names at [] less, here, e) refl

pub none_left : (names : List Name) (at : ℕ) → at < length names → slice_get names at ≡ None → ⊥
none_left names at less none = let some = slice_get-get_or names at [] less in let same = sym some ∙ none in cc

-- a name that is read at a position
pub named_at : (names : List (Bor (List ℕ))) (at : ℕ) (d : Bor (List ℕ)) → at < length names
    → get_or (map (λ (n : Bor (List ℕ)). n.now) names) at [] ≡ (get_or names at d).now
named_at names at d less =
    get_or_from_slice_get (map (λ (n : Bor (List ℕ)). n.now) names) at (get_or names at d).now []
    (slice_get-map (λ (n : Bor (List ℕ)). n.now) names at ∙ ap (option_map (λ (n : Bor (List ℕ)). n.now)) (slice_get-get_or names at d less))

-- the position of a name ------------------------------------------------------------------------------

pub found_at : (names : List Name) (name : Name) (at : ℕ) → at < length names → ((k : ℕ) → k < at → bytes_eq (get_or names k []) name ≡ false)
    → bytes_eq (get_or names at []) name ≡ true → Some at ≡ position (λ other. bytes_eq other name) names
found_at names name at less below here =
    let first = position_or_len_is (λ other. bytes_eq other name) names at [] (omega arith) below (λ h. here) in
    rw first (let within : nat_lt at (length names) ≡ true = grind (arith, nat_tests) in rw within refl)

pub found_none : (names : List Name) (name : Name) → ((k : ℕ) → k < length names → bytes_eq (get_or names k []) name ≡ false)
    → ◌≡◌ {A = Option ℕ} None (position (λ other. bytes_eq other name) names)
found_none names name below =
    let first = position_or_len_is (λ other. bytes_eq other name) names (length names) [] (omega arith) below (λ h. absurd (omega (arith, h))) in
    rw first (let past : nat_lt (length names) (length names) ≡ false = grind (arith, nat_tests) in rw past refl)
