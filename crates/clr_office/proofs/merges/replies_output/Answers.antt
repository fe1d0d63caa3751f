use Rattle.clr_steps.specs.Steps.{is_lost}
use Rattle.clr_lines.specs.Replies.{reply_text}
use Rattle.clr_office_reports.specs.Outcomes.{is_refused}
use Rattle.clr_office.proofs.ReplyLines.{any_end, any_more, lines_end, lines_more}
use Rattle.clr_office.proofs.merges.replies_output.Goals as goal

pub loop-reply-preserved : goal.loop-reply-preserved
loop-reply-preserved c =
    let replies = c.args.replies.now in
    let i = c.loop-reply.reply-index in
    let below = c.loop-reply-test.true in
    let before = c.loop-reply.all in
    let output = c.in_ok-output.output in
    let made = c.in_ok-output.ensures in
    let so_far = c.loop-reply.invariant in
    record {
      lines = rw c.in_ok-append.ensures.lines (lines_more replies i (reply_text c.args.schema.now) _ before.lines.items output.lines.items below made.lines
          so_far.lines);
      refused = rw c.in_ok-append.ensures.refused (any_more replies i is_refused _ before.refused output.refused below made.refused so_far.refused);
      lost = rw c.in_ok-append.ensures.lost (any_more replies i is_lost _ before.lost output.lost below made.lost so_far.lost);
    }

pub returns-clause-lines : goal.returns-clause-lines
returns-clause-lines c =
    lines_end c.args.replies.now c.loop-reply.reply-index (reply_text c.args.schema.now) c.loop-reply.all.lines.items c.loop-reply-test.false
    c.loop-reply.invariant.lines

pub returns-clause-refused : goal.returns-clause-refused
returns-clause-refused c = any_end c.args.replies.now c.loop-reply.reply-index is_refused c.loop-reply.all.refused c.loop-reply-test.false
    c.loop-reply.invariant.refused

pub returns-clause-lost : goal.returns-clause-lost
returns-clause-lost c = any_end c.args.replies.now c.loop-reply.reply-index is_lost c.loop-reply.all.lost c.loop-reply-test.false c.loop-reply.invariant.lost
