use Rattle.std.specs.Option.{option_copied}
use Rattle.clr_merge_sets.proofs.VersionLemmas.{new_row_is, old_row_is}
use Rattle.clr_merge_sets.proofs.member_changes.row_of_version.Goals as goal

pub returns-then-version : goal.returns-then-version
returns-then-version c s are =
    new_row_is c.args.office.now s c.args.version c.args.members.now.changes.items
    (option_copied c.new_row.result) are.changes c.if-version.true c.new_row.ensures

pub returns-else-version : goal.returns-else-version
returns-else-version c s are =
    old_row_is c.args.office.now s c.args.version c.args.members.now.root.now (option_copied c.read.result) are.root c.if-version.false c.read.ensures
