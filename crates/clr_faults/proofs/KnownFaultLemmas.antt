-- The first name that is no need of its rule, as a loop finds it, and what a fault of a name says.
use Rattle.std.proofs.Common.{◌≡◌, ℕ, suc, ◌+◌, ◌<◌, ◌≤◌, ℤ, pos, negsuc, Bool, true, false, List, [], ◌∷◌, length, get_or, drop, Option, Some, None, Result, Ok, Err, refl, sym, ap, subst, ◌∙◌, add-one}
use Rattle.std.specs.Prelude.{IsOk, MatchOption, is_err, if◌then◌else◌}
use Rattle.std.specs.Ordering.{is_lt}
use Rattle.std.proofs.Math.Seq.{drop-cons}
use Rattle.std.proofs.lemmas.List.{drop_all}
use Rattle.clr_rows.specs.declared.cells.CellId.{CellId}
use Rattle.clr_rows.specs.declared.tables.TableDef.{TableDef}
use Rattle.clr_rows.specs.Cells.{cell_cmp}
use Rattle.clr_rows.specs.Schemas.{cell_fault}
use Rattle.clr_rules.specs.declared.needs.Broken.{Broken}
use Rattle.clr_rules.specs.declared.rules.Rule.{Rule}
use Rattle.clr_readings.specs.Readings.{◌>>=◌}
use Rattle.clr_rule_text.specs.declared.faults.TextFault.{TextFault}
use Rattle.clr_rule_text.specs.declared.faults.TextFault.TheVariants.{BadRule}
use Rattle.clr_rule_text.specs.declared.need_names.NeedName.{NeedName}
use Rattle.clr_rule_text.specs.Fields.{none_or_fault}
use Rattle.clr_rule_text.specs.Known.{greater_table, if_greater, known_cell, known_need, known_part, lesser_table, second_cell}
use Rattle.clr_faults.specs.declared.known_faults.BadNeed.{BadNeed}
use Rattle.clr_faults.specs.declared.known_faults.NeedFault.{NeedFault}
use Rattle.clr_faults.specs.declared.known_faults.NeedFault.TheVariants.{FirstKey, SecondKey, NotAscending, FirstPart, SecondPart}
use Rattle.clr_faults.specs.KnownFaults.{NeedFaultLaw, cell_in, fault_at, first_bad_name, first_bad_need, need_fault, of_number, part_fault, second_fault}

-- one name after another ---------------------------------------------------------------------

module _ (tables : List TableDef) (rule : Rule) (names : List NeedName) (at : ℕ) (d : NeedName) where
  next_name : at < length names → first_bad_name tables rule at (drop at names)
      ≡ fault_at at (need_fault tables rule (get_or names at d)) (first_bad_name tables rule (suc at) (drop (suc at) names))
  unfolding first_bad_name
  next_name lt = rw (drop-cons names at d) refl

  pub name_passed : at < length names → need_fault tables rule (get_or names at d) ≡ None → (whole : Option (ℕ × NeedFault))
      → first_bad_name tables rule at (drop at names) ≡ whole → first_bad_name tables rule (at + 1) (drop (at + 1) names) ≡ whole
  name_passed lt good whole so_far = rw (add-one at) (sym (next_name lt ∙ rw good refl) ∙ so_far)

  pub name_found : at < length names → (fault : NeedFault) → need_fault tables rule (get_or names at d) ≡ Some fault
      → first_bad_name tables rule at (drop at names) ≡ Some (at, fault)
  name_found lt fault bad = next_name lt ∙ rw bad refl

pub no_name : (tables : List TableDef) (rule : Rule) (names : List NeedName) (at : ℕ) → length names ≤ at → first_bad_name tables rule at (drop at names) ≡ None
unfolding first_bad_name
no_name tables rule names at le = rw (drop_all at names le) refl

-- one rule after another ---------------------------------------------------------------------

module _ (tables : List TableDef) (number : ℕ) (rule : Rule) (rules : List Rule) (names : List NeedName) (others : List (List NeedName)) where
  pub rule_passed : first_bad_name tables rule 0 names ≡ None → first_bad_need tables number (rule ∷ rules) (names ∷ others)
      ≡ first_bad_need tables (number + 1) rules others
  unfolding first_bad_need
  rule_passed good = rw (good, add-one number) refl

  pub rule_found : (place : ℕ) (fault : NeedFault) → first_bad_name tables rule 0 names ≡ Some (place, fault)
      → first_bad_need tables number (rule ∷ rules) (names ∷ others) ≡ Some (record { rule = number; place = place; fault = fault })
  unfolding first_bad_need
  rule_found place fault bad = rw bad refl

pub no_rule : (tables : List TableDef) (number : ℕ) (rules : List Rule) → first_bad_need tables number rules [] ≡ None
unfolding first_bad_need
no_rule tables number [] = refl
no_rule tables number (rule ∷ rules) = refl

-- what a fault says --------------------------------------------------------------------------

-- what a fault says of a reading
abbrev Says : {A : Type 0} → Option NeedFault → Result A TextFault → Type 0
Says fault read = MatchOption fault (IsOk read) (λ _. read ≡ Err BadRule)

-- a reading fails with BadRule alone
abbrev FailsSo : {A : Type 0} → Result A TextFault → Type 0
FailsSo read = (e : TextFault) → read ≡ Err e → e ≡ BadRule

-- a part of a reading that comes first
first_part : {A B : Type 0} (one : Result A TextFault) (next : A → Result B TextFault) (fault : NeedFault) (later : Option NeedFault) → FailsSo one
    → ((x : A) → one ≡ Ok x → Says later (next x)) → Says (if is_err one then Some fault else later) (one >>= next)
first_part (Ok x) next fault later so rest = rest x refl
first_part (Err e) next fault later so rest = ap Err (so e refl)

-- a part that comes second, and what is made of it
first_of_two : {A B C : Type 0} (one : Result A TextFault) (mid : A → Result B TextFault) (next : B → Result C TextFault) (fault : NeedFault)
    (later : Option NeedFault) → FailsSo one → ((x : A) → one ≡ Ok x → Says later (mid x >>= next))
    → Says (if is_err one then Some fault else later) ((one >>= mid) >>= next)
first_of_two (Ok x) mid next fault later so rest = rest x refl
first_of_two (Err e) mid next fault later so rest = ap Err (so e refl)

cell_so : (tables : List TableDef) (table : ℕ) (key : ℤ) → FailsSo (known_cell tables table key)
cell_so tables table key = by (cell_fault tables (cell_in table key))
  where
    by : {F : Type 0} (found : Option F) → FailsSo (none_or_fault BadRule found >>= λ _. Ok (cell_in table key))
    by None e is = absurd cc
    by (Some f) e is = let same : BadRule ≡ e = cc in sym same

cell_is : (tables : List TableDef) (table : ℕ) (key : ℤ) (cell : CellId) → known_cell tables table key ≡ Ok cell → cell_in table key ≡ cell
cell_is tables table key cell is = by (cell_fault tables (cell_in table key)) is
  where
    by : {F : Type 0} (found : Option F) → none_or_fault BadRule found >>= (λ _. Ok (cell_in table key)) ≡ Ok cell → cell_in table key ≡ cell
    by None is = cc
    by (Some f) is = absurd cc

part_so : (number : ℤ) → FailsSo (known_part number)
part_so (pos n) e is = by _ is
  where
    by : (b : Bool) → (if b then Ok n else Err BadRule) ≡ Err e → e ≡ BadRule
    by true is = absurd cc
    by false is = let same : BadRule ≡ e = cc in sym same
part_so (negsuc n) e is = let same : BadRule ≡ e = cc in sym same

module _ (tables : List TableDef) (number : ℕ) (rule : Rule) (name : NeedName) where
  abbrev made : CellId → Option CellId → Result Broken TextFault
  made first second = known_part name.first_part >>= λ m. known_part name.second_part >>= λ n.
      Ok (record { rule = number; first = first; second = second; first_part = m; second_part = n })

  parts_say : (first : CellId) (second : Option CellId) → Says (part_fault name) (made first second)
  parts_say first second =
      first_part (known_part name.first_part) _ FirstPart _ (part_so name.first_part) (λ m _.
      first_part (known_part name.second_part) _ SecondPart None (part_so name.second_part) (λ n _. refl))

  ascending_say : (first : CellId) (cell : CellId) (less : Bool)
      → Says (if less then part_fault name else Some NotAscending) ((if less then Ok (Some cell) else Err BadRule) >>= made first)
  ascending_say first cell true = parts_say first (Some cell)
  ascending_say first cell false = refl

  second_says : (first : CellId) → cell_in (lesser_table rule) name.first ≡ first → (second : Option ℤ)
      → Says (second_fault tables rule name second) (second_cell tables first (greater_table rule) second >>= made first)
  second_says first is None = parts_say first None
  second_says first is (Some key) =
      first_of_two (known_cell tables (greater_table rule) key) (if_greater first) (made first) SecondKey _ (cell_so tables (greater_table rule) key) (λ cell found.
      subst (λ c. Says (if is_lt (cell_cmp (cell_in (lesser_table rule) name.first) (cell_in (greater_table rule) key)) then part_fault name
      else Some NotAscending) (if_greater first c >>= made first)) (cell_is tables (greater_table rule) key cell found)
      (subst (λ f. Says (if is_lt (cell_cmp (cell_in (lesser_table rule) name.first) (cell_in (greater_table rule) key)) then part_fault name
      else Some NotAscending) (if_greater f (cell_in (greater_table rule) key) >>= made first)) is
      (ascending_say first (cell_in (greater_table rule) key) (is_lt (cell_cmp (cell_in (lesser_table rule) name.first) (cell_in (greater_table rule) key))))))

  says : MatchOption (need_fault tables rule name) (IsOk (known_need tables number rule name)) (λ _. known_need tables number rule name ≡ Err BadRule)
  unfolding need_fault known_need
  says = first_part (known_cell tables (lesser_table rule) name.first) _ FirstKey _ (cell_so tables (lesser_table rule) name.first) (λ first found.
      second_says first (cell_is tables (lesser_table rule) name.first first found) name.second)

pub fault_says : NeedFaultLaw
fault_says tables number rule name = says tables number rule name
