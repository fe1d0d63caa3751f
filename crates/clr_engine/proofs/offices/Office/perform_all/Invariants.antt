use Rattle.std.proofs.Common.{◌≡◌, ◌≤◌, length, take, vec_len, vec_capacity}
use Rattle.clr_steps.specs.Steps.{AreAnswers}
use Rattle.clr_engine.proofs.offices.Office.perform_all.Given as goal

abbrev pub invariant-loop-command : goal.invariant-loop-command
invariant-loop-command l = record {
  answers : AreAnswers l.fn.self (take l.command-index l.commands) l.replies.items l.self;
  count : vec_len l.replies ≡ l.command-index;
  room : length l.commands ≤ vec_capacity l.replies;
}
