-- Roles as they are handed about, and what they are.
use Rattle.std.specs.Prelude.{ℕ, List}
use Rattle.clr_cut_proposals.specs.declared.roles.RuleRole.{RuleRole}
use Rattle.clr_cut_proposals.specs.declared.roles.RoleMark.{RoleMark}
use Rattle.clr_cut_proposals.specs.declared.roles.RoleMark.TheVariants as mark
use Rattle.clr_cut_proposals.specs.declared.searches.Versions.{Versions}
use Rattle.clr_cut_proposals.specs.declared.searches.Versions.TheVariants as versions
use Rattle.clr_cut_proposals.specs.Roles.{Mark, ByColumns, Whole, AtEnd, Within, Role}
use Rattle.clr_cut_proposals.specs.Searches.{kept_table, new_table, old_table}

abbrev pub mark_of : RoleMark → Mark
mark_of (mark.ByColumns columns) = ByColumns columns.now
mark_of mark.Whole = Whole
mark_of (mark.AtEnd tip) = AtEnd tip
mark_of (mark.Within d) = Within d

abbrev pub role_of : RuleRole → Role
role_of role = (role.side.now, mark_of role.mark)

-- the temporary table of versions
abbrev pub table_of : Versions → List ℕ → List ℕ
table_of versions.New name = new_table name
table_of versions.Old name = old_table name
table_of versions.Kept name = kept_table name
