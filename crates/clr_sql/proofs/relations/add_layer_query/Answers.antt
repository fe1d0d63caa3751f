use Rattle.std.proofs.Common.{◌≡◌, ◌++◌, ◌∙◌, append_assoc}
use Rattle.std.proofs.lemmas.Result.{on_ok_weaker}
use Rattle.clr_sql.proofs.relations.add_layer_query.Goals as goal

pub returns : goal.returns
returns c =
    on_ok_weaker c.add_from.result
    (λ e. e ∙ rw (
      c.in_ok-add_shape_column.ensures,
      c.in_ok-add_columns.ensures,
      c.in_ok-extend_from_slice.ensures.items,
      c.as_slice.ensures,
      c.as_str.ensures,
    ) (simp append_assoc)) c.add_from.ensures
