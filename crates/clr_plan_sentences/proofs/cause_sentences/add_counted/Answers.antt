use Rattle.std.proofs.Common.{codes, string_bytes}
use Rattle.std.specs.Fmt.{decimal}
use Rattle.clr_plan_answers.proofs.PieceLemmas.{three_behind}
use Rattle.clr_plan_sentences.proofs.cause_sentences.add_counted.Goals as goal

pub returns : goal.returns
returns c =
    rw (c.in_ok-push_str-2.ensures.bytes, c.in_ok-write.ensures.bytes, c.in_ok-push_str.ensures.bytes)
    (three_behind (string_bytes c.args.text.now) (codes ", and so were others: ") (decimal c.args.count) (codes " rows in all"))
