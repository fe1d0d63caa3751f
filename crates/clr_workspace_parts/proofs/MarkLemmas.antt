-- Tests of marks are those of what is stored of them.
use Rattle.std.proofs.Common.{◌≡◌, ℕ, suc, zero, ◌+◌, cond, not, List, [], ◌∷◌, map, drop, Some, None, refl, ap, sym, ◌∙◌}
use Rattle.std.proofs.lemmas.List.{length-map}
use Rattle.std.specs.List.{list_any, position_or_len}
use Rattle.std.specs.Prelude.{fold, count_by, position, nat_lt}
use Rattle.std.specs.Str.{bytes_eq}
use Rattle.clr_rows.specs.Contents.{Content}
use Rattle.clr_workspaces.specs.Marks.{Name, Mark, is_child_mark, is_saved, is_saved_as, is_mark_of, saved_count, mark_count, find_mark, is_held}
use Rattle.clr_deltas.specs.Deltas.{whole_mark, is_stored_child, is_stored_saved, is_stored_saved_as, is_stored_mark_of}
use Rattle.clr_deltas.specs.declared.stored_marks.StoredMark.{StoredMark}
use Rattle.clr_deltas.specs.declared.stored_marks.StoredMark.TheVariants as stored

counted : (b : Content) (ms : List StoredMark) (n : ℕ) → fold (λ a (m : Mark). a + cond (is_saved m) 1 0) n (map (whole_mark b) ms)
    ≡ fold (λ a (m : StoredMark). a + cond (is_stored_saved m) 1 0) n ms
counted b [] n = refl
counted b (stored.Saved name d ∷ ms) n = counted b ms (n + 1)
counted b (stored.Child name ∷ ms) n = counted b ms (n + 0)

pub saved_as_stored : (b : Content) (ms : List StoredMark) → saved_count (map (whole_mark b) ms) ≡ count_by is_stored_saved ms
saved_as_stored b ms = counted b ms 0

marks_counted : (b : Content) (child : Name) (ms : List StoredMark) (n : ℕ) → fold (λ a (m : Mark). a + cond (is_mark_of child m) 1 0) n (map (whole_mark b) ms)
    ≡ fold (λ a (m : StoredMark). a + cond (is_stored_mark_of child m) 1 0) n ms
marks_counted b child [] n = refl
marks_counted b child (stored.Saved name d ∷ ms) n = marks_counted b child ms (n + 0)
marks_counted b child (stored.Child name ∷ ms) n = marks_counted b child ms (n + cond (bytes_eq child name) 1 0)

pub marks_as_stored : (b : Content) (child : Name) (ms : List StoredMark) → mark_count (map (whole_mark b) ms) child ≡ count_by (is_stored_mark_of child) ms
marks_as_stored b child ms = marks_counted b child ms 0

first_saved : (b : Content) (name : Name) (ms : List StoredMark) → position_or_len (is_saved_as name) (map (whole_mark b) ms)
    ≡ position_or_len (is_stored_saved_as name) ms
first_saved b name [] = refl
first_saved b name (stored.Saved other d ∷ ms) = ap (λ n. cond (not (bytes_eq name other)) (1 + n) 0) (first_saved b name ms)
first_saved b name (stored.Child other ∷ ms) = ap (λ n. 1 + n) (first_saved b name ms)

pub found_as_stored : (b : Content) (name : Name) (ms : List StoredMark) → find_mark (map (whole_mark b) ms) name ≡ position (is_stored_saved_as name) ms
found_as_stored b name ms = ap (λ (p : ℕ × ℕ). cond (nat_lt p.0 p.1) (Some p.0) None) (λ i. (first_saved b name ms i, length-map ms (whole_mark b) i))

map_drop : {A B : Type 0} (f : A → B) (n : ℕ) (xs : List A) → map f (drop n xs) ≡ drop n (map f xs)
map_drop f zero xs = refl
map_drop f (suc n) [] = refl
map_drop f (suc n) (x ∷ xs) = map_drop f n xs

any_child : (b : Content) (ms : List StoredMark) → list_any is_child_mark (map (whole_mark b) ms) ≡ list_any is_stored_child ms
any_child b [] = refl
any_child b (stored.Saved name d ∷ ms) = any_child b ms
any_child b (stored.Child name ∷ ms) = refl

pub held_as_stored : (b : Content) (ms : List StoredMark) (i : ℕ) → is_held (map (whole_mark b) ms) i ≡ list_any is_stored_child (drop (suc i) ms)
held_as_stored b ms i = ap (list_any is_child_mark) (sym (map_drop (whole_mark b) (suc i) ms)) ∙ any_child b (drop (suc i) ms)
