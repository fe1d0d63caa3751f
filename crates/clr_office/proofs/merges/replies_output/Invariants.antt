use Rattle.std.proofs.Common.{◌≡◌, ◌++◌, ◌||◌, drop}
use Rattle.std.specs.List.{flat_map, list_any}
use Rattle.clr_steps.specs.Steps.{is_lost}
use Rattle.clr_lines.specs.Replies.{reply_text}
use Rattle.clr_office_reports.specs.Outcomes.{is_refused}
use Rattle.clr_office.proofs.merges.replies_output.Given as goal

-- what was said of the replies so far makes with what is to be said of the rest the whole
abbrev pub invariant-loop-reply : goal.invariant-loop-reply
invariant-loop-reply l = record {
  lines : l.all.lines.items ++ flat_map (reply_text l.schema) (drop l.reply-index l.replies) ≡ flat_map (reply_text l.schema) l.replies;
  refused : (l.all.refused || list_any is_refused (drop l.reply-index l.replies)) ≡ list_any is_refused l.replies;
  lost : (l.all.lost || list_any is_lost (drop l.reply-index l.replies)) ≡ list_any is_lost l.replies;
}
