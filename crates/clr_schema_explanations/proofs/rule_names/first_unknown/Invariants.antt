use Rattle.std.proofs.Common.{◌≡◌, drop, map}
use Rattle.std.specs.List.{find}
use Rattle.clr_schema_explanations.specs.Names.{is_unknown, name_in_rule}
use Rattle.clr_schema_explanations.proofs.rule_names.first_unknown.Given as goal

-- none of the names so far is unknown
abbrev pub invariant-loop-name : goal.invariant-loop-name
invariant-loop-name l =
    find (is_unknown l.schema) (map name_in_rule (drop l.name-index l.names)) ≡ find (is_unknown l.schema) (map name_in_rule l.names)
