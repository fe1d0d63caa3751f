use Rattle.std.proofs.lemmas.Result.{on_ok_weaker}
use Rattle.clr_phrases.proofs.PathLemmas.{added_path}
use Rattle.clr_phrases.proofs.rows.add_path.Goals as goal

pub returns-in_ok-push_str-in-len2-up-2 : goal.returns-in_ok-push_str-in-len2-up-2
returns-in_ok-push_str-in-len2-up-2 c =
    on_ok_weaker c.add_place-in-len2-up.result (added_path _ _ c.args.vertices.now _ _ _ _ _ _ c.in-len2-up.len_at_least
    c.in_ok-push_str-in-len2-up.ensures.bytes c.in_ok-add_place-in-len2-up.ensures c.in_ok-add_between-in-len2-up.ensures
    c.in_ok-push_str-in-len2-up-2.ensures.bytes) c.add_place-in-len2-up.ensures
