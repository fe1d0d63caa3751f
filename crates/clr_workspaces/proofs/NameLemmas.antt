-- The names of savepoints.
use Rattle.std.proofs.Common.{◌≡◌, ℕ, suc, zero, ◌+◌, ◌<◌, ◌≤◌, Bool, true, false, cond, not, nat_le, nat_lt, ◌&&◌, ◌||◌, List, [], ◌∷◌, ◌++◌, length, take}
use Rattle.std.proofs.Common.{drop, Some, None, refl, ap, sym, ◌∙◌, arith, remove, ◌⊎◌, inl, inr}
use Rattle.std.specs.List.{list_all, list_any, position_or_len}
use Rattle.std.specs.Str.{bytes_eq}
use Rattle.std.proofs.lemmas.Grind.{common_steps}
use Rattle.std.proofs.lemmas.Bool.{false≢true, le-leb, ltb-false, and_parts, or_parts}
use Rattle.std.proofs.lemmas.Option.{none-some}
use Rattle.clr_rows.specs.Contents.{Content}
use Rattle.clr_rows.specs.Names.{is_good_name}
use Rattle.clr_rows.specs.Schemas.{are_distinct}
use Rattle.clr_workspaces.specs.Marks.{Name, Mark, Saved, ChildMark, is_saved, is_saved_as, saved_count, saved_names, find_mark, without_saved, without_mark_of}
use Rattle.clr_workspaces.specs.Marks.{mark_last}
use Rattle.clr_workspaces.proofs.FindLemmas.{differ_back}
use Rattle.clr_workspaces.specs.Soundness.{are_good_savepoints}
use Rattle.clr_workspaces.proofs.CountLemmas.{tally, count-tally}
use Rattle.clr_workspaces.specs.declared.limits.TheConstants.{MOST_SAVEPOINTS}

-- some of the names, in their order
abbrev IsSubsequence : List Name → List Name → Type 0
IsSubsequence [] ys = Unit {0}
IsSubsequence (x ∷ xs) [] = ⊥
IsSubsequence (x ∷ xs) (y ∷ ys) = ((x ≡ y) × IsSubsequence xs ys) ⊎ IsSubsequence (x ∷ xs) ys

part_skip : (xs : List Name) (y : Name) (ys : List Name) → IsSubsequence xs ys → IsSubsequence xs (y ∷ ys)
part_skip [] y ys part = tt
part_skip (x ∷ xs) y ys part = inr part

any_part : (p : Name → Bool) (xs ys : List Name) → IsSubsequence xs ys → list_any p ys ≡ false → list_any p xs ≡ false
any_part p [] ys part e = refl
any_part p (x ∷ xs) [] part e = absurd part
any_part p (x ∷ xs) (y ∷ ys) (inl kept) e = let parts = or_parts (p y) (list_any p ys) e in rw (kept.0, parts.0, any_part p xs ys kept.1 parts.1) refl
any_part p (x ∷ xs) (y ∷ ys) (inr part) e = any_part p (x ∷ xs) ys part (or_parts (p y) (list_any p ys) e).1

all_part : (p : Name → Bool) (xs ys : List Name) → IsSubsequence xs ys → list_all p ys ≡ true → list_all p xs ≡ true
all_part p [] ys part e = refl
all_part p (x ∷ xs) [] part e = absurd part
all_part p (x ∷ xs) (y ∷ ys) (inl kept) e = let parts = and_parts (p y) (list_all p ys) e in rw (kept.0, parts.0, all_part p xs ys kept.1 parts.1) refl
all_part p (x ∷ xs) (y ∷ ys) (inr part) e = all_part p (x ∷ xs) ys part (and_parts (p y) (list_all p ys) e).1

turned : (b : Bool) → not b ≡ true → b ≡ false
turned true e = absurd (false≢true e)
turned false e = refl

distinct_part : (xs ys : List Name) → IsSubsequence xs ys → are_distinct ys ≡ true → are_distinct xs ≡ true
distinct_part [] ys part e = refl
distinct_part (x ∷ xs) [] part e = absurd part
distinct_part (x ∷ xs) (y ∷ ys) (inl kept) e =
    let parts = and_parts (not (list_any (bytes_eq y) ys)) (are_distinct ys) e in
    rw (kept.0, any_part (bytes_eq y) xs ys kept.1 (turned (list_any (bytes_eq y) ys) parts.0), distinct_part xs ys kept.1 parts.1) refl
distinct_part (x ∷ xs) (y ∷ ys) (inr part) e = distinct_part (x ∷ xs) ys part (and_parts (not (list_any (bytes_eq y) ys)) (are_distinct ys) e).1

length_part : (xs ys : List Name) → IsSubsequence xs ys → length xs ≤ length ys
length_part [] ys part = omega arith
length_part (x ∷ xs) [] part = absurd part
length_part (x ∷ xs) (y ∷ ys) (inl kept) = let less = length_part xs ys kept.1 in omega (arith, less)
length_part (x ∷ xs) (y ∷ ys) (inr part) = let less = length_part (x ∷ xs) ys part in omega (arith, less)

-- good names by their three tests
record AreGood (names : List Name) : Type 0 where
  pub good : list_all is_good_name names ≡ true
  pub distinct : are_distinct names ≡ true
  pub few : length names ≤ MOST_SAVEPOINTS

at_most : (a b : ℕ) → nat_le a b ≡ true → a ≤ b
at_most a b e = grind (arith, common_steps)

split_good : (names : List Name) → are_good_savepoints names ≡ true → AreGood names
split_good names e = by (list_all is_good_name names) (are_distinct names) (nat_le (length names) MOST_SAVEPOINTS) refl refl refl e
  where
    by : (a b c : Bool) → list_all is_good_name names ≡ a → are_distinct names ≡ b → nat_le (length names) MOST_SAVEPOINTS ≡ c → (a && b && c) ≡ true →
        AreGood names
    by true true true ea eb ec e = record { good = ea; distinct = eb; few = at_most _ _ ec }
    by true true false ea eb ec e = absurd (cc)
    by true false c ea eb ec e = absurd (cc)
    by false b c ea eb ec e = absurd (cc)

join_good : (names : List Name) → AreGood names → are_good_savepoints names ≡ true
join_good names g = rw (g.good, g.distinct, le-leb (length names) MOST_SAVEPOINTS g.few) refl

good_part : (xs ys : List Name) → IsSubsequence xs ys → are_good_savepoints ys ≡ true → are_good_savepoints xs ≡ true
good_part xs ys part e =
    let g = split_good ys e in
    let less = length_part xs ys part in
    join_good xs (record {
      good = all_part is_good_name xs ys part g.good;
      distinct = distinct_part xs ys part g.distinct;
      few = let few = g.few in
          omega (arith, less, few);
    })

-- marks that stay ------------------------------------------------------------------------------------

part_remove : (ms : List Mark) (i : ℕ) → IsSubsequence (saved_names (remove ms i)) (saved_names ms)
part_remove [] zero = tt
part_remove [] (suc i) = tt
part_remove (Saved name content ∷ ms) zero = part_skip (saved_names ms) name (saved_names ms) (part_all (saved_names ms))
  where
    part_all : (xs : List Name) → IsSubsequence xs xs
    part_all [] = tt
    part_all (x ∷ xs) = inl (refl, part_all xs)
part_remove (ChildMark name ∷ ms) zero = part_all (saved_names ms)
  where
    part_all : (xs : List Name) → IsSubsequence xs xs
    part_all [] = tt
    part_all (x ∷ xs) = inl (refl, part_all xs)
part_remove (Saved name content ∷ ms) (suc i) = inl (refl, part_remove ms i)
part_remove (ChildMark name ∷ ms) (suc i) = part_remove ms i

part_take : (ms : List Mark) (i : ℕ) → IsSubsequence (saved_names (take i ms)) (saved_names ms)
part_take ms zero = tt
part_take [] (suc i) = tt
part_take (Saved name content ∷ ms) (suc i) = inl (refl, part_take ms i)
part_take (ChildMark name ∷ ms) (suc i) = part_take ms i

none_saved : (ms : List Mark) → saved_names (without_saved ms) ≡ []
none_saved [] = refl
none_saved (Saved name content ∷ ms) = none_saved ms
none_saved (ChildMark name ∷ ms) = none_saved ms

names-append : (ms ns : List Mark) → saved_names (ms ++ ns) ≡ saved_names ms ++ saved_names ns
names-append [] ns = refl
names-append (Saved name content ∷ ms) ns = ap (λ names. name ∷ names) (names-append ms ns)
names-append (ChildMark name ∷ ms) ns = names-append ms ns

append-none : (xs : List Name) → xs ++ [] ≡ xs
append-none [] = refl
append-none (x ∷ xs) = ap (λ ys. x ∷ ys) (append-none xs)

pub names_dropped : (child : Name) (ms : List Mark) → saved_names (without_mark_of child ms) ≡ saved_names ms
names_dropped child [] = refl
names_dropped child (Saved name content ∷ ms) = ap (λ names. name ∷ names) (names_dropped child ms)
names_dropped child (ChildMark name ∷ ms) = by (bytes_eq child name) (names_dropped child ms)
  where
    by : (b : Bool) → saved_names (without_mark_of child ms) ≡ saved_names ms →
        saved_names (cond (not b) (ChildMark name ∷ without_mark_of child ms) (without_mark_of child ms)) ≡ saved_names ms
    by true e = e
    by false e = e

pub names_marked : (child : Name) (ms : List Mark) → saved_names (ms ++ ChildMark child ∷ []) ≡ saved_names ms
names_marked child ms = names-append ms (ChildMark child ∷ []) ∙ append-none (saved_names ms)

pub names_last : (child : Name) (ms : List Mark) → saved_names (mark_last child ms) ≡ saved_names ms
names_last child ms = names_marked child (without_mark_of child ms) ∙ names_dropped child ms

pub good_none : (ms : List Mark) → are_good_savepoints (saved_names (without_saved ms)) ≡ true
good_none ms = ap are_good_savepoints (none_saved ms)

pub good_removed : (ms : List Mark) (i : ℕ) → are_good_savepoints (saved_names ms) ≡ true → are_good_savepoints (saved_names (remove ms i)) ≡ true
good_removed ms i e = good_part _ _ (part_remove ms i) e

pub good_cut : (ms : List Mark) (i : ℕ) → are_good_savepoints (saved_names ms) ≡ true →
    are_good_savepoints (saved_names (take i ms ++ without_saved (drop i ms))) ≡ true
good_cut ms i e =
    ap are_good_savepoints (names-append (take i ms) (without_saved (drop i ms)) ∙ ap (λ (names : List Name). saved_names (take i ms) ++ names)
    (none_saved (drop i ms)) ∙ append-none (saved_names (take i ms)))
    ∙ good_part _ _ (part_take ms i) e

-- a new name -------------------------------------------------------------------------------------------

all_more : (p : Name → Bool) (xs : List Name) (x : Name) → list_all p xs ≡ true → p x ≡ true → list_all p (xs ++ x ∷ []) ≡ true
all_more p [] x e h = rw h refl
all_more p (y ∷ xs) x e h = let parts = and_parts (p y) (list_all p xs) e in rw (parts.0, all_more p xs x parts.1 h) refl

any_more : (p : Name → Bool) (xs : List Name) (x : Name) → list_any p xs ≡ false → p x ≡ false → list_any p (xs ++ x ∷ []) ≡ false
any_more p [] x e h = rw h refl
any_more p (y ∷ xs) x e h = let parts = or_parts (p y) (list_any p xs) e in rw (parts.0, any_more p xs x parts.1 h) refl

distinct_more : (xs : List Name) (x : Name) → are_distinct xs ≡ true → list_any (bytes_eq x) xs ≡ false → are_distinct (xs ++ x ∷ []) ≡ true
distinct_more [] x e h = refl
distinct_more (y ∷ xs) x e h =
    let parts = and_parts (not (list_any (bytes_eq y) xs)) (are_distinct xs) e in
    let apart = or_parts (bytes_eq x y) (list_any (bytes_eq x) xs) h in
    rw (any_more (bytes_eq y) xs x (turned (list_any (bytes_eq y) xs) parts.0) (differ_back x y apart.0), distinct_more xs x parts.1 apart.1) refl

length_more : (xs : List Name) (x : Name) → length (xs ++ x ∷ []) ≡ length xs + 1
length_more [] x = refl
length_more (y ∷ xs) x = let more = length_more xs x in omega (arith, more)

pub good_more : (ms : List Mark) (name : Name) → are_good_savepoints (saved_names ms) ≡ true → is_good_name name ≡ true →
    list_any (bytes_eq name) (saved_names ms) ≡ false → length (saved_names ms) < MOST_SAVEPOINTS
    → (content : Content) → are_good_savepoints (saved_names (ms ++ Saved name content ∷ [])) ≡ true
good_more ms name e good absent room content =
    let g = split_good (saved_names ms) e in
    ap are_good_savepoints (names-append ms (Saved name content ∷ []))
    ∙ join_good (saved_names ms ++ name ∷ []) (record {
      good = all_more is_good_name (saved_names ms) name g.good good;
      distinct = distinct_more (saved_names ms) name g.distinct absent;
      few = let more = length_more (saved_names ms) name in omega (arith, more, room);
    })

not_among : (name : Name) (ms : List Mark) → length ms ≤ position_or_len (is_saved_as name) ms → list_any (bytes_eq name) (saved_names ms) ≡ false
not_among name [] le = refl
not_among name (Saved other content ∷ ms) le = by (bytes_eq name other) le (λ less. not_among name ms less)
  where
    by : (b : Bool) → suc (length ms) ≤ cond (not b) (1 + position_or_len (is_saved_as name) ms) 0 → (length ms ≤ position_or_len (is_saved_as name) ms →
        list_any (bytes_eq name) (saved_names ms) ≡ false) → (b || list_any (bytes_eq name) (saved_names ms)) ≡ false
    by true le rest = absurd (omega arith)
    by false le rest = rest (omega arith)
not_among name (ChildMark other ∷ ms) le = not_among name ms (omega arith)

-- what has the name of a savepoint is one
pub saved_as : (name : Name) (mark : Mark) → is_saved_as name mark ≡ true → is_saved mark ≡ true
saved_as name (Saved other content) e = refl
saved_as name (ChildMark other) e = absurd (cc)

-- a name that no savepoint has
pub absent_name : (ms : List Mark) (name : Name) → find_mark ms name ≡ None → list_any (bytes_eq name) (saved_names ms) ≡ false
absent_name ms name e = not_among name ms (missing (position_or_len (is_saved_as name) ms) (length ms) e)
  where
    missing : (a b : ℕ) → cond (nat_lt a b) (Some a) None ≡ None → b ≤ a
    missing a b e = go (nat_lt a b) refl e
      where
        go : (t : Bool) → nat_lt a b ≡ t → cond t (Some a) None ≡ None → b ≤ a
        go true lt e = absurd (none-some a (sym e))
        go false lt e = ltb-false a b lt

pub count_names : (ms : List Mark) → length (saved_names ms) ≡ saved_count ms
count_names ms = by ms ∙ sym (count-tally is_saved ms)
  where
    by : (ms : List Mark) → length (saved_names ms) ≡ tally is_saved ms
    by [] = refl
    by (Saved name content ∷ ms) = ap suc (by ms)
    by (ChildMark name ∷ ms) = by ms
