use Rattle.std.proofs.Common.{◌≡◌, ◌∙◌, ◌++◌, ◌||◌, false}
use Rattle.std.specs.List.{flat_map, list_any}
use Rattle.std.proofs.Math.Bool.{or-false}
use Rattle.clr_steps.specs.Steps.{is_lost}
use Rattle.clr_merge_sets.specs.Certificates.{ordered_merge_set_of}
use Rattle.clr_lines.specs.Replies.{reply_text}
use Rattle.clr_office_reports.specs.Outcomes.{is_refused}
use Rattle.clr_desk_merges.specs.Waiting.{waiting_text}
use Rattle.clr_desk_prints.specs.Printing.{printout_of}
use Rattle.clr_desk_merges.proofs.merges.run_print.Goals as goal

pub returns : goal.returns
returns c =
    let ordered = ordered_merge_set_of c.args.certificate.now in
    let names = c.args.names.now in
    let same = c.as_slice-replies.ensures.value in
    let made = c.in_ok-all.ensures in
    let stop = c.in_ok-stop_output.ensures in
    let all = c.in_ok-append.ensures in
    let replies = made.lines ∙ (λ i. flat_map (reply_text (c.schema.ensures.value i)) (same i)) in
    let lines = all.lines ∙ (λ i. replies i ++ stop.lines i) in
    let waiting = c.as_slice.ensures.value ∙ c.in_ok-waiting.ensures ∙ (λ i. waiting_text ordered names (same i)) in
    let notes = c.in_ok-extend_from_slice.ensures.items ∙ (λ i. lines i ++ waiting i) in
    let refused = all.refused ∙ (λ i. (made.refused ∙ (λ j. list_any is_refused (same j))) i || stop.refused i) in
    let lost = all.lost ∙ (λ i. (made.lost ∙ (λ j. list_any is_lost (same j))) i || stop.lost i) ∙ or-false _ in
    c.new.ensures ∙ (λ i. printout_of (c.in_ok-dump_text.ensures.text i) (notes i) (refused i) (lost i))
