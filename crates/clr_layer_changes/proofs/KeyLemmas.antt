-- The least free key, looked for from one key to the next.
use Rattle.std.proofs.Common.{◌≡◌, ℕ, zero, suc, ◌+◌, ◌-◌, ◌<◌, ◌≤◌, ◌&&◌, Bool, true, false, cond, Option, Some, None, is_none, is_some, Ok, Err, unsigned_abs}
use Rattle.std.proofs.Common.{nat_lt, refl, sym, ap, ◌∙◌, ltb, arith}
use Rattle.std.proofs.lemmas.Bool.Decides.{nat_tests}
use Rattle.std.specs.List.{find, range_with_len}
use Rattle.clr_rows.specs.declared.limits.TheConstants.{GREATEST_KEY}
use Rattle.std.specs.FinMap as finite
use Rattle.std.specs.Ordering.{eq_by_cmp}
use Rattle.clr_rows.specs.declared.cells.CellId.{CellId}
use Rattle.clr_rows.specs.declared.rows.Row.{Row}
use Rattle.clr_rows.specs.Cells.{cell_cmp}
use Rattle.clr_rows.specs.Contents.{Content, row_at}
use Rattle.clr_rows.proofs.CellOrder.{cell_cmp_total}
use Rattle.clr_rows.proofs.ChangeLemmas.{tied_self}
use Rattle.clr_readings.specs.Readings.{◌>>=◌, or_fault}
use Rattle.clr_layer_text.specs.declared.rows.LayerRow.{LayerRow}
use Rattle.clr_layer_changes.specs.Keys.{ArePassed, cell_of, is_free, keys_from, least_free}
use Rattle.clr_layer_changes.specs.LayerRows.{with_given}

-- one more than the greatest key
abbrev pub keys_end : ℕ
keys_end = unsigned_abs GREATEST_KEY + 1

-- the first number that does, of those from one on up to an end
abbrev pub first_within : (ℕ → Bool) → ℕ → ℕ → Option ℕ
first_within p end a = find p (range_with_len a (end - a))

one_more : (p : ℕ → Bool) (a n m : ℕ) → n ≡ m + 1 → find p (range_with_len a n) ≡ cond (p a) (Some a) (find p (range_with_len (a + 1) m))
one_more p a n m e =
    let same : n ≡ suc m = omega arith in
    ap (λ x. find p (range_with_len a x)) same

pub first_here : (p : ℕ → Bool) (end a : ℕ) → a < end → p a ≡ true → first_within p end a ≡ Some a
first_here p end a lt is = one_more p a (end - a) (end - (a + 1)) (omega arith) ∙ ap (λ b. cond b (Some a) (find p (range_with_len (a + 1) (end - (a + 1))))) is

pub first_behind : (p : ℕ → Bool) (end a : ℕ) → a < end → p a ≡ false → first_within p end a ≡ first_within p end (a + 1)
first_behind p end a lt is = one_more p a (end - a) (end - (a + 1)) (omega arith)
    ∙ ap (λ b. cond b (Some a) (find p (range_with_len (a + 1) (end - (a + 1))))) is

pub none_within : (p : ℕ → Bool) (end a : ℕ) → end ≤ a → first_within p end a ≡ None
none_within p end a le =
    let none : end - a ≡ 0 = omega arith in
    ap (λ n. find p (range_with_len a n)) none

-- the keys that were passed change nothing
pub first_passed : (p : ℕ → Bool) (end a n : ℕ) → ((k : ℕ) → a ≤ k → k < a + n → p k ≡ false) → first_within p end a ≡ first_within p end (a + n)
first_passed p end a zero passed =
    let same : a ≡ a + 0 = omega arith in
    ap (first_within p end) same
first_passed p end a (suc n) passed =
    first_passed p end a n (λ k le lt. passed k le (omega arith)) ∙ by (ltb (a + n) end) refl
  where
    by : (b : Bool) → ltb (a + n) end ≡ b → first_within p end (a + n) ≡ first_within p end (a + suc n)
    by true t =
        let less : a + n < end = grind (arith, nat_tests) in
        let next : a + n + 1 ≡ a + suc n = omega arith in
        first_behind p end (a + n) less (passed (a + n) (omega arith) (omega arith)) ∙ ap (first_within p end) next
    by false t =
        let le : end ≤ a + n = grind (arith, nat_tests) in
        none_within p end (a + n) le ∙ sym (none_within p end (a + suc n) (omega arith))

pub first_from : (p : ℕ → Bool) (end a b : ℕ) → a ≤ b → ((k : ℕ) → a ≤ k → k < b → p k ≡ false) → first_within p end a ≡ first_within p end b
first_from p end a b le passed =
    let same : a + (b - a) ≡ b = omega arith in
    first_passed p end a (b - a) (λ k low high. passed k low (omega arith)) ∙ ap (first_within p end) same

pub first_of_keys : (p : ℕ → Bool) (a : ℕ) → first_within p keys_end a ≡ find p (keys_from a)
unfolding keys_from
first_of_keys p a = refl

module _ (p : ℕ → Bool) where
  pub none_passed : (a : ℕ) → ArePassed p a a
  none_passed a = record { reached = omega arith; taken = λ k low high. absurd (omega arith) }

  -- one more key that was passed
  pub one_passed : (a b : ℕ) → ArePassed p a b → p b ≡ false → ArePassed p a (b + 1)
  one_passed a b passed here = record { reached = omega (arith, passed.reached); taken = λ k low high. by k low high (ltb k b) refl }
    where
      by : (k : ℕ) → a ≤ k → k < b + 1 → (t : Bool) → ltb k b ≡ t → p k ≡ false
      by k low high true t = let less : k < b = grind (arith, nat_tests) in passed.taken k low less
      by k low high false t = let same : k ≡ b = grind (arith, nat_tests) in ap p same ∙ here

  -- keys passed behind others
  pub more_passed : (a b d : ℕ) → ArePassed p a b → ArePassed p b d → ArePassed p a d
  more_passed a b d passed more = record { reached = omega (arith, passed.reached, more.reached); taken = λ k low high. by k low high (ltb k b) refl }
    where
      by : (k : ℕ) → a ≤ k → k < d → (t : Bool) → ltb k b ≡ t → p k ≡ false
      by k low high true t = let less : k < b = grind (arith, nat_tests) in passed.taken k low less
      by k low high false t = let from : b ≤ k = grind (arith, nat_tests) in more.taken k from high

  -- where keys were passed, the least free key is the least from the next on
  pub least_behind : (a b : ℕ) → ArePassed p a b → find p (keys_from a) ≡ find p (keys_from b)
  least_behind a b passed = sym (first_of_keys p a) ∙ first_from p keys_end a b passed.reached passed.taken ∙ first_of_keys p b

-- a key stays taken where one more row is put
pub stays_taken : (live rows : Content) (table k : ℕ) (cell : CellId) (row : Row) → is_free live rows table k ≡ false
    → is_free live (finite.insert rows cell row) table k ≡ false
stays_taken live rows table k cell row taken =
    let at = cell_of table k in
    ap (λ (r : Option Row). nat_lt 0 k && is_none (row_at live at) && is_none r) (finite.get-insert cell_cmp_total rows cell row at)
    ∙ elim (eq_by_cmp cell_cmp at cell) as (λ t. (nat_lt 0 k && is_none (row_at live at) && is_none (cond t (Some row) (row_at rows at))) ≡ false) [
      | true ↦ and_false (nat_lt 0 k && is_none (row_at live at))
      | false ↦ taken
    ]
  where
    and_false : (b : Bool) → (b && false) ≡ false
    and_false true = refl
    and_false false = refl

-- the key of a row that was put is taken
pub is_taken : (live rows : Content) (table k : ℕ) (row : Row) → is_free live (finite.insert rows (cell_of table k) row) table k ≡ false
is_taken live rows table k row =
    let at = cell_of table k in
    ap (λ (r : Option Row). nat_lt 0 k && is_none (row_at live at) && is_none r) (finite.get-insert cell_cmp_total rows at row at
    ∙ ap (λ t. cond t (Some row) (row_at rows at)) (tied_self at))
    ∙ and_false (nat_lt 0 k && is_none (row_at live at))
  where
    and_false : (b : Bool) → (b && false) ≡ false
    and_false true = refl
    and_false false = refl

pub stay_passed : (live rows : Content) (table : ℕ) (cell : CellId) (row : Row) (a b : ℕ) → ArePassed (is_free live rows table) a b
    → ArePassed (is_free live (finite.insert rows cell row) table) a b
stay_passed live rows table cell row a b passed = record {
  reached = passed.reached;
  taken = λ k low high. stays_taken live rows table k cell row (passed.taken k low high);
}

-- a row without a key of its own is put at the least key that is free, if there is one
module _ (live : Content) (table first number : ℕ) (rows : Content) (r : LayerRow) where
  given : (found : Option ℕ) → is_some r.key ≡ false → least_free live rows table first ≡ found
      → with_given live table first number rows r ≡ (or_fault number found >>= λ key. Ok (finite.insert rows (cell_of table key) r.row))
  given found has is =
      ap (λ b. cond b (Ok rows) (or_fault number (least_free live rows table first) >>= λ key. Ok (finite.insert rows (cell_of table key) r.row))) has
      ∙ ap (λ (o : Option ℕ). or_fault number o >>= λ key. Ok (finite.insert rows (cell_of table key) r.row)) is

  pub no_key : is_some r.key ≡ false → least_free live rows table first ≡ None → with_given live table first number rows r ≡ Err number
  no_key = given None

  pub given_key : (key : ℕ) → is_some r.key ≡ false → least_free live rows table first ≡ Some key → with_given live table first number rows r
      ≡ Ok (finite.insert rows (cell_of table key) r.row)
  given_key key = given (Some key)
