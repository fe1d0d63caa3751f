-- The orders of versions and of needs.
use Rattle.std.specs.Ordering.{nat_cmp, bool_cmp, ordering_then}
use Rattle.std.specs.Option.{option_cmp}
use Rattle.std.specs.declared.cmp.Ordering.{Ordering}
use Rattle.clr_rows.specs.Cells.{cell_cmp}
use Rattle.clr_needs.specs.declared.needs.Need.{Need}
use Rattle.clr_needs.specs.declared.needs.VersionId.{VersionId}

-- versions are ordered by cell, old before new
abbrev pub version_cmp : VersionId → VersionId → Ordering
version_cmp v w = ordering_then (cell_cmp v.cell w.cell) (bool_cmp v.fresh w.fresh)

-- needs are ordered by rule, first version and second version, and then by the part of each
abbrev pub need_cmp : Need → Need → Ordering
need_cmp m n = ordering_then (nat_cmp m.rule n.rule)
    (ordering_then (version_cmp m.first n.first)
    (ordering_then (option_cmp version_cmp m.second n.second)
    (ordering_then (nat_cmp m.first_part n.first_part) (nat_cmp m.second_part n.second_part))))
