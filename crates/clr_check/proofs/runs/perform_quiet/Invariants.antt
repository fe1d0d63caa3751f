use Rattle.std.proofs.Common.{◌≡◌, ◌≤◌, length, map, take, vec_len, vec_capacity}
use Rattle.clr_clearance.specs.Runs.{merged_in}
use Rattle.clr_merge_sets.specs.Certificates.{merge_set_of, ordered_merge_set_of}
use Rattle.clr_check.proofs.RunLemmas.{ArePerformed}
use Rattle.clr_check.proofs.runs.perform_quiet.Given as goal

-- the commands so far are quiet and come in turn, and were answered; these are the members that they merged
abbrev pub invariant-loop-command : goal.invariant-loop-command
invariant-loop-command l = record {
  performed : ArePerformed l.fn.office (ordered_merge_set_of l.certificate) (take l.command-index l.commands) l.replies.items l.office;
  names : map (λ name. name.now) l.merged.items ≡ merged_in (merge_set_of l.certificate) l.commands l.replies.items;
  count : vec_len l.replies ≡ l.command-index;
  room : length l.commands ≤ vec_capacity l.replies;
  merged_count : vec_len l.merged ≤ l.command-index;
  room_for_names : length l.commands ≤ vec_capacity l.merged;
}
