-- Where records and fields begin, by the machine that reads them.
use Rattle.std.proofs.Common.{◌≡◌, ◌≢◌, ◌∙◌, ℕ, ◌+◌, ◌<◌, ◌≤◌, ◌&&◌, ◌==◌, Bool, true, false, cond, List, [], ◌∷◌, ◌++◌, Option, Some, ap, arith, drop}
use Rattle.std.proofs.Common.{eq-eqb, get_or, length, nat_eq, refl, sym, take, unwrap_or}
use Rattle.std.specs.Cmp.Lexicographic.{bytes_decides}
use Rattle.std.specs.List.{All, find, range_with_len}
use Rattle.std.specs.Prelude.{slice_get}
use Rattle.std.proofs.lemmas.Bool.{and_parts, and_right, eqb-true, false≢true, ne_eqb, true≢false}
use Rattle.std.proofs.lemmas.List.{take-append-drop}
use Rattle.std.proofs.lemmas.List.Elements.{All-filter}
use Rattle.std.proofs.lemmas.List.FromFn.{get_or-range_with_len, length-range_with_len}
use Rattle.std.proofs.lemmas.List.Sums.{fold_more}
use Rattle.std.proofs.lemmas.Option.{get_or_from_slice_get, slice_get_within}
use Rattle.csv.specs.Reading.{is_bom, strip_bom}
use Rattle.csv.specs.declared.parser.State.{State}
use Rattle.csv.specs.declared.parser.State.TheVariants as st
use Rattle.clr_hints.specs.Encodings.{has_mark}
use Rattle.clr_layer_changes.proofs.KeyLemmas.{first_behind, first_here, first_within, none_within}
use Rattle.clr_layer_faults.specs.FieldPlaces.{Scan, begins_record_at, ended_fields, ends_before, field_offset, next_scan, record_starts, scan_of}

-- fields ------------------------------------------------------------------------------------------------

pub scan_more : (bytes : List ℕ) (at : ℕ) (s : Scan) → at < length bytes → s ≡ scan_of (take at bytes) → next_scan s (get_or bytes at 0)
    ≡ scan_of (take (at + 1) bytes)
scan_more bytes at s lt is = ap (λ (x : Scan). next_scan x (get_or bytes at 0)) is ∙ sym (fold_more next_scan (st.StartRecord, 0) bytes at 0 lt)

-- no more fields have ended than bytes have passed
pub few_ended : (test : Bool) (ended now at : ℕ) → ended ≤ at → now ≡ cond test (ended + 1) ended → now ≤ at + 1
few_ended true ended now at le is = omega (arith, le, is)
few_ended false ended now at le is = omega (arith, le, is)

ended_is : (bytes : List ℕ) (at ended : ℕ) (s : State) → ◌≡◌ {A = Scan} (s, ended) (scan_of (take at bytes)) → ended ≡ ended_fields (take at bytes)
ended_is bytes at ended s is = ap (λ (x : Scan). x.1) is

module _ (bytes : List ℕ) (field at ended : ℕ) (s : State) (is : ◌≡◌ {A = Scan} (s, ended) (scan_of (take at bytes)))
    (left : first_within (ends_before bytes field) (length bytes + 1) at ≡ find (ends_before bytes field) (range_with_len 0 (length bytes + 1))) where
  pub begins_here : at ≤ length bytes → ended ≡ field → at ≡ field_offset bytes field
  begins_here le same =
      let here : ends_before bytes field at ≡ true = eq-eqb (ended_fields (take at bytes)) field (sym (ended_is bytes at ended s is) ∙ same) in
      let lt : at < length bytes + 1 = omega (arith, le) in
      sym (ap (λ (o : Option ℕ). unwrap_or o 0) (sym left ∙ first_here (ends_before bytes field) (length bytes + 1) at lt here))

  not_here : ended ≢ field → ends_before bytes field at ≡ false
  not_here other = ne_eqb (ended_fields (take at bytes)) field (λ e. other (ended_is bytes at ended s is ∙ e))

  pub begins_later : at ≤ length bytes → ended ≢ field → first_within (ends_before bytes field) (length bytes + 1) (at + 1)
      ≡ find (ends_before bytes field) (range_with_len 0 (length bytes + 1))
  begins_later le other =
      let lt : at < length bytes + 1 = omega (arith, le) in
      sym (first_behind (ends_before bytes field) (length bytes + 1) at lt (not_here other)) ∙ left

  pub begins_nowhere : at ≡ length bytes → ended ≢ field → 0 ≡ field_offset bytes field
  begins_nowhere whole other =
      let le : at ≤ length bytes = omega (arith, whole) in
      let past : length bytes + 1 ≤ at + 1 = omega (arith, whole) in
      sym (ap (λ (o : Option ℕ). unwrap_or o 0) (sym (begins_later le other) ∙ none_within (ends_before bytes field) (length bytes + 1) (at + 1) past))

-- records -----------------------------------------------------------------------------------------------

range_below : (n : ℕ) → All (λ k. k < n) (range_with_len 0 n)
range_below n k d lt =
    let inside : k < n = omega (arith, lt, length-range_with_len 0 n) in
    let is = get_or-range_with_len 0 n k d inside in
    omega (arith, is, inside)

-- a record begins within the text
pub start_within : (bytes : List ℕ) (k start : ℕ) → slice_get (record_starts bytes) k ≡ Some start → start ≤ length bytes
start_within bytes k start is =
    let all = All-filter (begins_record_at bytes) (λ n. n < length bytes) (range_with_len 0 (length bytes)) (range_below (length bytes)) in
    let there = slice_get_within (record_starts bytes) k start is in
    let same = get_or_from_slice_get (record_starts bytes) k start 0 is in
    let below = all k 0 there in
    omega (arith, below, same)

-- marks -------------------------------------------------------------------------------------------------

abbrev mark : List ℕ
mark = 239 ∷ 187 ∷ 191 ∷ []

-- a text that begins with a byte order mark
pub marked : (text : List ℕ) → has_mark text ≡ true → strip_bom text ≡ drop 3 text
unfolding strip_bom
marked text is =
    let front : mark ≡ take 3 text = (bytes_decides mark (take 3 text)).0 is in
    let whole : text ≡ mark ++ drop 3 text = sym (take-append-drop 3 text) ∙ ap (λ xs. xs ++ drop 3 text) (sym front) in
    ap strip_bom whole

pub is_long : (text : List ℕ) → has_mark text ≡ true → 3 ≤ length text
is_long [] is = absurd (cc)
is_long (a ∷ []) is = absurd (true≢false (sym is ∙ and_right (nat_eq 239 a) false refl))
is_long (a ∷ b ∷ []) is = absurd (true≢false (sym is ∙ and_right (nat_eq 239 a) (nat_eq 187 b && false) (and_right (nat_eq 187 b) false refl)))
is_long (a ∷ b ∷ c ∷ rest) is = omega arith

pub unmarked : (text : List ℕ) → has_mark text ≡ false → strip_bom text ≡ text
unfolding strip_bom
unmarked [] is = refl
unmarked (a ∷ []) is = refl
unmarked (a ∷ b ∷ []) is = refl
unmarked (a ∷ b ∷ c ∷ rest) is = by (is_bom a b c) refl
  where
    by : (t : Bool) → is_bom a b c ≡ t → cond t rest (a ∷ b ∷ c ∷ rest) ≡ a ∷ b ∷ c ∷ rest
    by false e = refl
    by true e =
        let ab = and_parts ((a == 239) && (b == 187)) (c == 191) e in
        let both = and_parts (a == 239) (b == 187) ab.0 in
        let has : has_mark (a ∷ b ∷ c ∷ rest) ≡ true = (λ i. has_mark (eqb-true a 239 both.0 i ∷ eqb-true b 187 both.1 i ∷ eqb-true c 191 ab.1 i ∷ rest)) in
        absurd (false≢true (sym is ∙ has))
