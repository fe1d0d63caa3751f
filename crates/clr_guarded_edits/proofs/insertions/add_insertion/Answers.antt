use Rattle.std.proofs.Common.{◌∙◌, codes, FitsSigned, rules, w64}
use Rattle.std.proofs.lemmas.Int.{to_z-of_z}
use Rattle.std.proofs.lemmas.Result.{on_ok_weaker}
use Rattle.std.specs.Fmt.{signed_decimal}
use Rattle.std.specs.List.{flat_map}
use Rattle.clr_sql.specs.Quoting.{quoted_name}
use Rattle.clr_sql.specs.Relations.{column_name}
use Rattle.clr_guarded_edits.specs.SqlTexts.{given_shape, guard_text, insertion_text, named_shape, with_comma}
use Rattle.clr_guarded_edits.proofs.Turns.{pieces_10}
use Rattle.clr_guarded_edits.proofs.insertions.add_insertion.Goals as goal

pub returns : goal.returns
unfolding insertion_text
returns c =
    let fits : FitsSigned w64 c.args.key = search rules in
    on_ok_weaker c.add_guard.result
    (λ e. e ∙ rw (
      c.in_ok-add_given_shape.ensures,
      c.in_ok-add_values.ensures,
      c.in_ok-add_select.ensures,
      c.in_ok-add_named_shape.ensures,
      c.in_ok-add_columns.ensures,
      c.in_ok-extend_from_slice-2.ensures.items,
      c.in_ok-add_name.ensures,
      c.in_ok-extend_from_slice.ensures.items,
      c.as_slice-2.ensures,
      c.as_slice.ensures,
      c.as_str.ensures,
      to_z-of_z w64 c.args.key fits,
    )
    (pieces_10 c.args.text.now.items
    (codes "INSERT INTO ")
    (quoted_name c.args.table.now.name)
    (codes " (\"KEY\"")
    (flat_map column_name c.args.table.now.columns)
    (named_shape c.args.row.now.shape)
    (codes ") SELECT ")
    (signed_decimal c.args.key)
    (flat_map with_comma c.args.row.now.values)
    (given_shape c.args.target.now c.args.row.now.shape)
    (guard_text c.args.table.now c.args.key))) c.add_guard.ensures
