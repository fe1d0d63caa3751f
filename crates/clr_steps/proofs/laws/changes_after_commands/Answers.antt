use Rattle.clr_steps.proofs.WorkspaceLemmas.{conflict_law, merge_law, refresh_law, resolve_law, roll_all_law}
use Rattle.clr_steps.proofs.laws.changes_after_commands.Goals as goal

pub returns : goal.returns
returns c = record { conflict = conflict_law; merge = merge_law; roll_all = roll_all_law; refresh = refresh_law; resolve = resolve_law }
