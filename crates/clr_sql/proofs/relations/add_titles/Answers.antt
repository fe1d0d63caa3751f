use Rattle.std.proofs.Common.{◌≡◌, ◌++◌, ◌∙◌, append_assoc}
use Rattle.std.proofs.lemmas.Result.{on_ok_weaker}
use Rattle.clr_sql.proofs.relations.add_titles.Goals as goal

pub returns : goal.returns
returns c =
    on_ok_weaker c.add_shape_title.result
    (λ e. e ∙ rw (
      c.in_ok-add_column_titles.ensures,
      c.in_ok-extend_from_slice.ensures.items,
      c.as_slice.ensures,
    ) (simp append_assoc)) c.add_shape_title.ensures
