-- Names that stand earlier in a list, and the first of them.
use Rattle.std.proofs.Common.{◌≡◌, ℕ, zero, suc, ◌+◌, ◌<◌, ◌≤◌, Bool, true, false, not, cond, ◌||◌, List, [], ◌∷◌, Some, None, Bor, BTreeSet, get_or, length}
use Rattle.std.proofs.Common.{nat_lt, take, refl, sym, ap, ◌∙◌, arith}
use Rattle.std.proofs.lemmas.Bool.{lt-ltb, le-ltb}
use Rattle.std.specs.Prelude.{position, slice_get}
use Rattle.std.specs.BTreeSet.{IsEmpty, Updates, contains}
use Rattle.std.specs.Cmp.Lexicographic.{slice_cmp}
use Rattle.std.specs.List.{list_any, position_or_len, range_with_len}
use Rattle.std.specs.Ordering.{is_eq, nat_cmp}
use Rattle.std.specs.Str.{bytes_eq}
use Rattle.std.specs.declared.cmp.Ordering.{Ordering}
use Rattle.std.proofs.lemmas.List.{take_all}
use Rattle.std.proofs.lemmas.List.FromFn.{length-range_with_len}
use Rattle.std.proofs.lemmas.List.Sums.{position_or_len_is}
use Rattle.std.proofs.lemmas.Map.Text.{is_eq-slice_cmp}
use Rattle.std.proofs.lemmas.Option.{get_or_from_slice_get, slice_get_within}
use Rattle.std.proofs.Math.Bool.{or-false, or_assoc}
use Rattle.clr_workspaces.specs.Marks.{Name}
use Rattle.clr_steps.specs.Names.{has, same_name}
use Rattle.clr_clearance.specs.Verdicts.{first_repeated, is_repeated}

-- one more name -------------------------------------------------------------------------------

pub has_none : (names : List Name) (name : Name) → has (take 0 names) name ≡ false
has_none [] name = refl
has_none (n ∷ ns) name = refl

has_suc : (names : List Name) (k : ℕ) (n name : Name) → slice_get names k ≡ Some n → has (take (suc k) names) name ≡ has (take k names) name || same_name n name
has_suc [] k n name e = absurd (cc)
has_suc (m ∷ ms) zero n name e = let one : m ≡ n = cc in ap (λ x. x || false) (ap (λ x. same_name x name) one) ∙ or-false (same_name n name)
has_suc (m ∷ ms) (suc k) n name e = ap (λ b. same_name m name || b) (has_suc ms k n name e)
    ∙ sym (or_assoc (same_name m name) (has (take k ms) name) (same_name n name))

pub has_more : (names : List Name) (k : ℕ) (n name : Name) → slice_get names k ≡ Some n → has (take (k + 1) names) name ≡ has (take k names) name
    || same_name n name
has_more names k n name e = let next : k + 1 ≡ suc k = omega arith in ap (λ m. has (take m names) name) next ∙ has_suc names k n name e

-- an earlier name that is the same -------------------------------------------------------------

has_before : (names : List Name) (k i : ℕ) (n name : Name) → k < i → slice_get names k ≡ Some n → same_name n name ≡ true → has (take i names) name ≡ true
has_before [] k i n name less e same = absurd (cc)
has_before (m ∷ ms) k zero n name less e same = absurd (omega (arith, less))
has_before (m ∷ ms) zero (suc i) n name less e same = let one : n ≡ m = cc in ap (λ b. b || has (take i ms) name) (ap (λ x. same_name x name) (sym one) ∙ same)
has_before (m ∷ ms) (suc k) (suc i) n name less e same = ap (λ b. same_name m name || b) (has_before ms k i n name (omega (arith, less)) e same)
    ∙ or_true (same_name m name)
  where
    or_true : (b : Bool) → b || true ≡ true
    or_true true = refl
    or_true false = refl

pub repeated_is : (names : List Name) (at : ℕ) (name : Name) → slice_get names at ≡ Some name → is_repeated names at ≡ has (take at names) name
repeated_is names at name e = ap (has (take at names)) (get_or_from_slice_get names at name [] e)

pub found_earlier : (names : List Name) (k at : ℕ) (n name : Name) → k < at → slice_get names k ≡ Some n → slice_get names at ≡ Some name → bytes_eq n name
    ≡ true → true ≡ is_repeated names at
unfolding same_name
found_earlier names k at n name less e f same = sym (repeated_is names at name f ∙ has_before names k at n name less e same)

pub not_earlier : (names : List Name) (k : ℕ) (n name : Name) → slice_get names k ≡ Some n → bytes_eq n name ≡ false → has (take k names) name ≡ false
    → has (take (k + 1) names) name ≡ false
unfolding same_name
not_earlier names k n name e apart before = has_more names k n name e ∙ (λ i. before i || apart i)

-- a name that stands in a list -----------------------------------------------------------------

pub found_in : (names : List Name) (k : ℕ) (n name : Name) → slice_get names k ≡ Some n → bytes_eq n name ≡ true → true ≡ has names name
unfolding same_name
found_in names k n name e same =
    let within = slice_get_within names k n e in
    sym (ap (λ ns. has ns name) (sym (take_all (length names) names (omega arith))) ∙ has_before names k (length names) n name within e same)

-- the first position that passes a test ----------------------------------------------------------

range_at : (a n k d : ℕ) → k < n → get_or (range_with_len a n) k d ≡ a + k
range_at a zero k d less = absurd (omega (arith, less))
range_at a (suc n) zero d less = omega arith
range_at a (suc n) (suc k) d less = let rest = range_at (a + 1) n k d (omega (arith, less)) in omega (arith, rest)

first_at : (names : List Name) (at : ℕ) → at ≤ length names → ((k : ℕ) → k < at → is_repeated names k ≡ false) → (at < length names → is_repeated names at
    ≡ true)
    → position_or_len (is_repeated names) (range_with_len 0 (length names)) ≡ at
first_at names at le before here =
    let long = length-range_with_len 0 (length names) in
    position_or_len_is (is_repeated names) (range_with_len 0 (length names)) at 0 (omega (arith, le, long))
    (λ k less. (let below : k < length names = omega (arith, less, le) in let same : 0 + k ≡ k = omega arith in ap (is_repeated names)
    (range_at 0 (length names) k 0 below ∙ same) ∙ before k less))
    (λ less. (let below : at < length names = omega (arith, less, long) in let same : 0 + at ≡ at = omega arith in ap (is_repeated names)
    (range_at 0 (length names) at 0 below ∙ same) ∙ here below))

position_at : (p : ℕ → Bool) (xs : List ℕ) (at : ℕ) → position_or_len p xs ≡ at → position p xs ≡ cond (nat_lt at (length xs)) (Some at) None
position_at p xs at e = λ i. cond (nat_lt (e i) (length xs)) (Some (e i)) None

pub first_is : (names : List Name) (at : ℕ) → at < length names → ((k : ℕ) → k < at → is_repeated names k ≡ false) → is_repeated names at ≡ true → Some at
    ≡ first_repeated names
first_is names at less before here =
    sym (position_at (is_repeated names) (range_with_len 0 (length names)) at (first_at names at (omega (arith, less)) before (λ _. here))
    ∙ ap (λ b. cond b (Some at) None) (ap (nat_lt at) (length-range_with_len 0 (length names)) ∙ lt-ltb at (length names) less))

pub none_is : (names : List Name) (at : ℕ) → length names ≤ at → ((k : ℕ) → k < at → is_repeated names k ≡ false) → None ≡ first_repeated names
none_is names at past before =
    let whole = length names in
    sym (position_at (is_repeated names) (range_with_len 0 whole) whole (first_at names whole (omega arith) (λ k less. before k (omega (arith, less, past)))
    (λ less. absurd (omega (arith, less))))
    ∙ ap (λ b. cond b (Some whole) None) (ap (nat_lt whole) (length-range_with_len 0 whole) ∙ le-ltb whole whole (omega arith)))

-- sets of names ----------------------------------------------------------------------------------

abbrev pub key_cmp : Bor (List ℕ) → Bor (List ℕ) → Ordering
key_cmp x y = slice_cmp nat_cmp x.now y.now

-- the set has the names before a position
abbrev pub HasNames : List Name → ℕ → BTreeSet (Bor (List ℕ)) → Type 0
HasNames names at keys = (key : Bor (List ℕ)) → contains key_cmp keys key ≡ has (take at names) key.now

pub no_names : (names : List Name) (keys : BTreeSet (Bor (List ℕ))) → IsEmpty keys → HasNames names 0 keys
no_names names keys empty key = ap (list_any (λ k. is_eq (key_cmp key k))) empty ∙ sym (has_none names key.now)

pub one_name : (names : List Name) (at : ℕ) (old new : BTreeSet (Bor (List ℕ))) (added : Bor (List ℕ)) → slice_get names at ≡ Some added.now
    → Updates key_cmp old new added true → HasNames names at old → HasNames names (at + 1) new
unfolding same_name
one_name names at old new added e updates before key =
    updates.0 key ∙ (λ i. cond (is_eq-slice_cmp added.now key.now i) true (before key i)) ∙ by (bytes_eq added.now key.now) (has (take at names) key.now)
    ∙ sym (has_more names at added.now key.now e)
  where
    by : (a b : Bool) → cond a true b ≡ b || a
    by true true = refl
    by true false = refl
    by false true = refl
    by false false = refl

pub told_new : (names : List Name) (at : ℕ) (old : BTreeSet (Bor (List ℕ))) (added : Bor (List ℕ)) (new : Bool) → slice_get names at ≡ Some added.now → new
    ≡ not (contains key_cmp old added) → HasNames names at old
    → is_repeated names at ≡ not new
told_new names at old added new e told before = repeated_is names at added.now e ∙ sym (before added) ∙ by (contains key_cmp old added) ∙ ap not (sym told)
  where
    by : (b : Bool) → b ≡ not (not b)
    by true = refl
    by false = refl
