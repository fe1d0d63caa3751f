use Rattle.std.proofs.Common.{codes, string_bytes}
use Rattle.clr_plan_answers.proofs.PieceLemmas.{three_behind}
use Rattle.clr_whereabouts.specs.Words.{near_text}
use Rattle.clr_plan_sentences.proofs.need_causes.add_between.Goals as goal

pub returns : goal.returns
returns c =
    rw (c.in_ok-push_str-2.ensures.bytes, c.in_ok-add_near.ensures, c.in_ok-push_str.ensures.bytes)
    (three_behind (string_bytes c.args.text.now) (codes "  They meet ") (near_text c.args.near)
    (codes "at no whole millimetre, where no row can stand: give both a vertex or an end at one place.\n"))
