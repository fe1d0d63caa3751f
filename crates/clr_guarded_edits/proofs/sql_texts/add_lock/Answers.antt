use Rattle.std.proofs.Common.{◌∙◌, append_assoc}
use Rattle.std.proofs.lemmas.Result.{on_ok_weaker}
use Rattle.clr_guarded_edits.proofs.Turns.{last_piece}
use Rattle.clr_guarded_edits.proofs.sql_texts.add_lock.Goals as goal

pub returns : goal.returns
returns c =
    on_ok_weaker c.extend_from_slice-2.result
    (λ e. e ∙ rw (
      c.in_ok-add_name.ensures,
      c.in_ok-extend_from_slice.ensures.items,
      c.as_str.ensures,
    ) (simp append_assoc)) (last_piece c.extend_from_slice-2.result _ _ _ c.extend_from_slice-2.ensures.items)
