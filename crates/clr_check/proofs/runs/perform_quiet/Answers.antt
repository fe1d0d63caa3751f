use Rattle.std.proofs.Common.{◌≡◌, Bool, cond, List, ◌∷◌, [], ◌++◌, ◌+◌, length, map, take, sym, ap, subst, ◌∙◌, arith}
use Rattle.std.specs.Result.{is_ok}
use Rattle.std.proofs.lemmas.Grind.{common_steps}
use Rattle.clr_needs.proofs.TestLemmas.{it_is, it_is_not}
use Rattle.clr_steps.specs.declared.commands.Reply.{Reply}
use Rattle.clr_clearance.specs.Runs.{merged_in}
use Rattle.clr_ordered_clearance.specs.Runs.{IsQuietStartInTurn}
use Rattle.clr_merge_sets.specs.Certificates.{ordered_merge_set_of}
use Rattle.clr_check.specs.declared.runs.ClearedRun.{ClearedRun}
use Rattle.clr_check.proofs.RunLemmas.{ArePerformed, names_more, none_merged, none_performed, one_performed, stops_at_noise, stops_too_early}
use Rattle.clr_check.proofs.runs.perform_quiet.Goals as goal

pub loop-command-init : goal.loop-command-init
loop-command-init c =
    let first = c.args.office.now in
    let ordered = ordered_merge_set_of c.args.certificate.now in
    let commands = c.args.commands.now in
    record {
      performed = subst (λ (rs : List Reply). ArePerformed first ordered (take 0 commands) rs first) (sym c.requires.empty) (none_performed first ordered commands);
      names = ap (map (λ name. name.now)) c.requires.none ∙ sym (ap (merged_in ordered.merge_set commands) c.requires.empty ∙ none_merged ordered.merge_set commands);
      count = grind (arith, common_steps);
      room = c.requires.room;
      merged_count = grind (arith, common_steps);
      room_for_names = c.requires.room_for_names;
    }

pub returns-then-not-is_quiet : goal.returns-then-not-is_quiet
returns-then-not-is_quiet c =
    let first = c.args.office.now in
    let ordered = ordered_merge_set_of c.args.certificate.now in
    let at = c.loop-command.command-index in
    let commands = c.args.commands.now in
    let replies = c.loop-command.replies.items in
    let command = c.command-item.result in
    let long : length replies ≡ at = grind (arith, common_steps) in
    subst (λ (run : ClearedRun). IsQuietStartInTurn first ordered commands run.replies.items c.loop-command.office run.stopped) (sym c.stopped_behind.ensures)
    (stops_at_noise first ordered commands at replies c.loop-command.office command command c.loop-command-test.true c.command-item.is long
    c.loop-command.invariant.performed (sym c.is_quiet.ensures ∙ c.if-not-is_quiet.true))

pub returns-then-not-is_due : goal.returns-then-not-is_due
returns-then-not-is_due c =
    let first = c.args.office.now in
    let ordered = ordered_merge_set_of c.args.certificate.now in
    let at = c.loop-command.command-index in
    let commands = c.args.commands.now in
    let replies = c.loop-command.replies.items in
    let command = c.command-item.result in
    let long : length replies ≡ at = grind (arith, common_steps) in
    let names = ap (map (λ name. name.now)) c.as_slice.ensures.value ∙ c.loop-command.invariant.names in
    subst (λ (run : ClearedRun). IsQuietStartInTurn first ordered commands run.replies.items c.loop-command.office run.stopped) (sym c.stopped_behind-then-not-is_due.ensures)
    (stops_too_early first ordered commands at replies c.loop-command.office command command c.loop-command-test.true c.command-item.is long
    c.loop-command.invariant.performed _ names (it_is_not _ _ c.if-not-is_due.true c.is_due.ensures))

pub loop-command-preserved : goal.loop-command-preserved
loop-command-preserved c =
    let first = c.args.office.now in
    let ordered = ordered_merge_set_of c.args.certificate.now in
    let at = c.loop-command.command-index in
    let commands = c.args.commands.now in
    let left = c.perform-reply.new.self in
    let replies = c.loop-command.replies.items in
    let reply = c.perform-reply.result in
    let command = c.command-item.result in
    let all = replies ++ reply ∷ [] in
    let long : length replies ≡ at = grind (arith, common_steps) in
    let due_names = ap (map (λ name. name.now)) c.as_slice.ensures.value ∙ c.loop-command.invariant.names in
    let pushed : c.push.new.self.items ≡ all = c.push.ensures.items ∙ ap (λ (made : Bool). cond made all replies)
    (ap is_ok c.unwrap.ensures) in
    let performed = one_performed first ordered commands at replies c.loop-command.office command command reply left _ c.loop-command-test.true c.command-item.is
    long c.loop-command.invariant.performed due_names (sym c.is_quiet.ensures ∙ c.if-not-is_quiet.false)
    (it_is _ _ c.if-not-is_due.false c.is_due.ensures) c.perform-reply.ensures.answer in
    let names = names_more first ordered commands at replies command command reply _ _ c.loop-command-test.true c.command-item.is long
    c.loop-command.invariant.names c.add_merged.ensures.names in
    record {
      performed = subst (λ (rs : List Reply). ArePerformed first ordered (take (at + 1) commands) rs left) (sym pushed) performed;
      names = names ∙ ap (merged_in ordered.merge_set commands) (sym pushed);
      count = grind (arith, common_steps);
      room = grind (arith, common_steps);
      merged_count = grind (arith, common_steps);
      room_for_names = grind (arith, common_steps);
    }
