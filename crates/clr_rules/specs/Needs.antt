-- Needs of a content: the subjects of a rule that stand, whether a row serves them, and those that none serves.
use Rattle.std.specs.Prelude.{◌≡◌, ◌↔◌, ℕ, zero, suc, Bool, true, false, not, List, [], ◌∷◌, ◌++◌, ◌&&◌, Option, Some, None}
use Rattle.std.specs.Prelude.{MatchOption, ⊤, Contains, map, filter, length, slice_get}
use Rattle.std.specs.List.{list_any, flat_map}
use Rattle.std.specs.List.Sorted.{IsStrictlySortedBy}
use Rattle.std.specs.Option.{option_map, option_cmp}
use Rattle.std.specs.Ordering.{nat_cmp, ordering_then, is_eq, is_lt, is_gt}
use Rattle.std.specs.declared.cmp.Ordering.{Ordering}
use Rattle.std.specs.declared.cmp.Ordering.TheVariants.{Less}
use Rattle.std.specs.FinMap as finite
use Rattle.clr_rows.specs.declared.cells.CellId.{CellId}
use Rattle.clr_rows.specs.declared.rows.Row.{Row}
use Rattle.clr_rows.specs.Cells.{cell_cmp}
use Rattle.clr_rows.specs.Contents.{Content, row_at}
use Rattle.clr_rows.specs.Same.{same}
use Rattle.clr_rows.specs.Held.{Held}
use Rattle.clr_rules.specs.declared.needs.Ask.{Ask}
use Rattle.clr_rules.specs.declared.needs.Broken.{Broken}
use Rattle.clr_rules.specs.declared.rules.Rule.{Rule}
use Rattle.clr_rules.specs.Calls.{ask_of_parts, asks, calls, serves}

-- rows by cell, of a content or of what contents would make
abbrev pub View : Type 0
View = CellId → Option Row

abbrev pub Stands : View → Held → Type 0
Stands view s = view s.0 ≡ Some s.1

-- a second subject, if there is one, stands too, at a greater cell
abbrev pub StandsBeside : View → Held → Option Held → Type 0
StandsBeside view s None = ⊤
StandsBeside view s (Some t) = Stands view t × (cell_cmp s.0 t.0 ≡ Less)

-- the subjects stand, and they call the rule
pub record IsNeed (rules : List Rule) (view : View) (ask : Ask) (first : Held) (second : Option Held) : Type 0 where
  pub stands : Stands view first
  pub beside : StandsBeside view first second
  pub they_call : calls rules ask first second ≡ true

-- some row that stands serves the subjects
abbrev pub IsMet : List Rule → View → Ask → Held → Option Held → Type 0
IsMet rules view ask first second = (server : Held) × Stands view server × (serves rules ask first second server ≡ true)

-- every need of every rule is met
abbrev pub Holds : List Rule → View → Type 0
Holds rules view = (ask : Ask) (first : Held) (second : Option Held) → IsNeed rules view ask first second → IsMet rules view ask first second

-- needs that are broken anew ------------------------------------------------------------------

-- where the subjects stand and call the rule, some row that stands serves them
abbrev pub IsKept : List Rule → View → Ask → Held → Option Held → Type 0
IsKept rules view ask first second = IsNeed rules view ask first second → IsMet rules view ask first second

-- the rows after break no need but those that the rows before break too, with the same subjects
abbrev pub BreaksNoMore : List Rule → View → View → Type 0
BreaksNoMore rules before after = (ask : Ask) (first : Held) (second : Option Held) → IsKept rules before ask first second → IsKept rules after ask first second

-- broken needs -------------------------------------------------------------------------------

-- broken needs are ordered by rule, then by the first cell, by the second, and by the part of each
unfoldable pub broken_cmp : Broken → Broken → Ordering
broken_cmp a b = ordering_then (nat_cmp a.rule b.rule)
    (ordering_then (cell_cmp a.first b.first)
    (ordering_then (option_cmp cell_cmp a.second b.second)
    (ordering_then (nat_cmp a.first_part b.first_part) (nat_cmp a.second_part b.second_part))))

-- the need of an ask of the rows at these cells
abbrev pub need_named : Ask → CellId → Option CellId → Broken
need_named ask first second = record {
  rule = ask.rule;
  first = first;
  second = second;
  first_part = ask.first_part;
  second_part = ask.second_part;
}

abbrev pub broken_at : Ask → Held → Option Held → Broken
broken_at ask s t = need_named ask s.0 (option_map (λ x. x.0) t)

-- what a broken need was asked
abbrev pub ask_of : Broken → Ask
ask_of b = ask_of_parts b.rule b.first_part b.second_part

-- a broken need of rows by cell
pub record IsBroken (rules : List Rule) (view : View) (b : Broken) : Type 0 where
  pub first : Held
  pub second : Option Held
  pub need : IsNeed rules view (ask_of b) first second
  pub unmet : IsMet rules view (ask_of b) first second → ⊥
  pub named : b ≡ broken_at (ask_of b) first second

-- a broken need that no other comes before
pub record IsLeastBroken (rules : List Rule) (view : View) (b : Broken) : Type 0 where
  pub broken : IsBroken rules view b
  pub least : (c : Broken) → IsBroken rules view c → is_gt (broken_cmp b c) ≡ false

-- every rule holds where none is listed first, and else the first is the least
abbrev pub IsFirstBroken : List Rule → View → Option Broken → Type 0
IsFirstBroken rules view first = MatchOption first (Holds rules view) (IsLeastBroken rules view)

-- exactly the broken needs, ascending, each once; every rule holds where there is none, and else
-- the first is the least
pub record IsAudit (rules : List Rule) (view : View) (list : List Broken) : Type 0 where
  pub ascending : IsStrictlySortedBy broken_cmp list
  pub exactly : (b : Broken) → Contains list b ↔ IsBroken rules view b
  pub first : IsFirstBroken rules view (slice_get list 0)

-- a need that the rows after break, and the rows before don't
pub record IsNewlyBroken (rules : List Rule) (before after : View) (b : Broken) : Type 0 where
  pub first : Held
  pub second : Option Held
  pub need : IsNeed rules after (ask_of b) first second
  pub unmet : IsMet rules after (ask_of b) first second → ⊥
  pub kept : IsKept rules before (ask_of b) first second
  pub named : b ≡ broken_at (ask_of b) first second

-- a newly broken need that no other comes before
pub record IsLeastNewlyBroken (rules : List Rule) (before after : View) (b : Broken) : Type 0 where
  pub broken : IsNewlyBroken rules before after b
  pub least : (c : Broken) → IsNewlyBroken rules before after c → is_gt (broken_cmp b c) ≡ false

-- nothing more is broken where none is listed first, and else the first is the least
abbrev pub IsFirstNewlyBroken : List Rule → View → View → Option Broken → Type 0
IsFirstNewlyBroken rules before after first = MatchOption first (BreaksNoMore rules before after) (IsLeastNewlyBroken rules before after)

-- exactly the newly broken needs, ascending, each once
pub record IsNewAudit (rules : List Rule) (before after : View) (list : List Broken) : Type 0 where
  pub ascending : IsStrictlySortedBy broken_cmp list
  pub exactly : (b : Broken) → Contains list b ↔ IsNewlyBroken rules before after b
  pub first : IsFirstNewlyBroken rules before after (slice_get list 0)

-- broken needs, listed -----------------------------------------------------------------------

-- the row at a greater cell
abbrev pub is_after : Held → Held → Bool
is_after s t = is_lt (cell_cmp s.0 t.0)

-- a row alone, and beside each row at a greater cell
abbrev pub choices : Held → List Held → List (Option Held)
choices s rows = None ∷ map Some (filter (is_after s) rows)

-- the subjects call the rule, and none of the rows serves them
abbrev pub is_broken : List Rule → Ask → List Held → Held → Option Held → Bool
is_broken rules ask rows s t = calls rules ask s t && not (list_any (serves rules ask s t) rows)

-- the broken needs of one rule whose subjects are these
abbrev pub broken_between : List Rule → ℕ → List Held → Held → Option Held → List Broken
broken_between rules number rows s t = map (λ ask. broken_at ask s t) (filter (λ ask. is_broken rules ask rows s t) (asks rules number s t))

-- the broken needs of one rule whose lesser subject is one row
unfoldable pub broken_from : List Rule → ℕ → List Held → Held → List Broken
broken_from rules number rows s = flat_map (broken_between rules number rows s) (choices s rows)

-- the broken needs of one rule
unfoldable pub broken_of : List Rule → ℕ → List Held → List Broken
broken_of rules number rows = flat_map (broken_from rules number rows) rows

-- the broken needs of the rules below a number
unfoldable pub broken_below : List Rule → ℕ → List Held → List Broken
broken_below rules zero rows = []
broken_below rules (suc number) rows = broken_below rules number rows ++ broken_of rules number rows

-- the rows of a content, ascending by cell
abbrev pub rows_in : Content → List Held
rows_in content = finite.entries content

-- all broken needs of a content
unfoldable pub broken_needs : List Rule → Content → List Broken
broken_needs rules content = broken_below rules (length rules) (rows_in content)

-- broken needs of one content that another hasn't --------------------------------------------

-- the same row, or none, stands at the cell of a second subject, if there is one
abbrev pub same_beside : Content → Content → Option CellId → Bool
same_beside before after None = true
same_beside before after (Some cell) = same (row_at before cell) (row_at after cell)

-- a broken need is listed, too, for the content before, and both have the same rows at the cells of its subjects
abbrev pub was_broken : List Rule → Content → Content → Broken → Bool
was_broken rules before after b =
    list_any (λ c. is_eq (broken_cmp c b)) (broken_needs rules before)
    && (same (row_at before b.first) (row_at after b.first) && same_beside before after b.second)

-- all needs that the content after breaks, and the content before doesn't
unfoldable pub newly_broken_needs : List Rule → Content → Content → List Broken
newly_broken_needs rules before after = filter (λ b. not (was_broken rules before after b)) (broken_needs rules after)
