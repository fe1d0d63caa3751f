-- How many edits are to come, record by record, as a loop counts them.
use Rattle.std.proofs.Common.{◌≡◌, ℕ, ◌+◌, ◌-◌, ◌≤◌, ◌<◌, cond, List, [], length, get_or, take, drop, map, refl, sym, ap, ◌∙◌, add-one, arith}
use Rattle.std.specs.Prelude.{nat_lt, option_map}
use Rattle.std.proofs.Math.Seq.{drop-cons}
use Rattle.std.proofs.lemmas.Bool.{le-ltb, lt-ltb}
use Rattle.std.proofs.lemmas.List.{drop_all, length-map, take-map}
use Rattle.std.proofs.lemmas.Option.{get_or_from_slice_get, slice_get-map, slice_get_read}
use Rattle.csv.specs.Records.{Row, fields_of}
use Rattle.clr_record_explanations.specs.declared.roles.Role.TheVariants as role
use Rattle.clr_record_explanations.specs.ScriptFaults.{edits_asked, edits_left, left_after, role_in}

pub goes_on : (rows : List Row) (i : ℕ) (r : Row) (left total : ℕ) → i < length rows → r ≡ get_or rows i r → edits_left (map fields_of (drop i rows)) left ≡
    total
    → edits_left (map fields_of (drop (i + 1) rows)) (left_after (fields_of r) left) ≡ total
goes_on rows i r left total lt is so_far = sym (rw (add-one i, drop-cons rows i r) (rw (← is) refl)) ∙ so_far

pub is_done : (rows : List Row) (i left total : ℕ) → length rows ≤ i → edits_left (map fields_of (drop i rows)) left ≡ total → left ≡ total
is_done rows i left total le so_far = sym (rw (drop_all i rows le) refl) ∙ so_far

item_at : (rows : List Row) (at : ℕ) (x : Row) → at < length rows → x ≡ get_or rows at x → get_or (map fields_of rows) at [] ≡ fields_of x
item_at rows at x lt is = get_or_from_slice_get (map fields_of rows) at (fields_of x) [] (slice_get-map fields_of rows at ∙ ap (λ o. option_map fields_of o)
    (slice_get_read rows (length rows) at x refl lt is))

pub as_edit : (rows : List Row) (at left : ℕ) → left ≡ edits_left (map fields_of (take at rows)) 0 → 0 < left → role.Edit ≡ role_in (map fields_of rows) at
as_edit rows at left is more = rw (take-map fields_of at rows, ← is, lt-ltb 0 left more) refl

-- a record that is no edit
module _ (rows : List Row) (at left asked : ℕ) (x : Row) (lt : at < length rows) (item : x ≡ get_or rows at x)
    (is : left ≡ edits_left (map fields_of (take at rows)) 0) (none : left ≤ 0) (asks : asked ≡ edits_asked (fields_of x)) where
  as_by : cond (nat_lt (length rows - at - 1) asked) role.ShortApply role.Step ≡ role_in (map fields_of rows) at
  as_by =
      let zero : edits_left (map fields_of (take at rows)) 0 ≡ 0 = omega (arith, is, none) in
      rw (take-map fields_of at rows, zero, item_at rows at x lt item, asks, length-map rows fields_of) refl

  pub as_short : length rows - at - 1 < asked → role.ShortApply ≡ role_in (map fields_of rows) at
  as_short more = rw (lt-ltb (length rows - at - 1) asked more) at as_by

  pub as_step : asked ≤ length rows - at - 1 → role.Step ≡ role_in (map fields_of rows) at
  as_step le = rw (le-ltb (length rows - at - 1) asked le) at as_by
