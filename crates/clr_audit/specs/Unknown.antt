-- Broken needs beside some that are known by name.
use Rattle.std.specs.Prelude.{Bool, not, List, Option, filter, slice_get}
use Rattle.std.specs.List.{list_any}
use Rattle.std.specs.Ordering.{is_eq}
use Rattle.clr_rows.specs.Contents.{Content}
use Rattle.clr_rules.specs.declared.needs.Broken.{Broken}
use Rattle.clr_rules.specs.declared.rules.Rule.{Rule}
use Rattle.clr_rules.specs.Needs.{broken_cmp, broken_needs}

-- a need is among known ones, in whatever order these are
abbrev pub is_known : List Broken → Broken → Bool
is_known known need = list_any (λ k. is_eq (broken_cmp k need)) known

-- the first of some needs that isn't known
unfoldable pub first_beside : List Broken → List Broken → Option Broken
first_beside known needs = slice_get (filter (λ need. not (is_known known need)) needs) 0

-- the least broken need of a content that isn't known
abbrev pub first_unknown : List Rule → List Broken → Content → Option Broken
first_unknown book known rows = first_beside known (broken_needs book rows)
