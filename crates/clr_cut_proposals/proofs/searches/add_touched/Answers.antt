use Rattle.std.proofs.Common.{◌∙◌}
use Rattle.std.specs.List.{flat_map}
use Rattle.std.proofs.lemmas.Result.{on_ok_weaker}
use Rattle.clr_cut_proposals.specs.Roles.{all_roles, paired_roles, serving_marks}
use Rattle.clr_cut_proposals.specs.Searches.{new_table, old_table, searches, wide_text}
use Rattle.clr_cut_proposals.proofs.Pieces.{pieces_3}
use Rattle.clr_cut_proposals.proofs.searches.add_touched.Goals as goal

pub returns : goal.returns
returns c =
    let target = c.args.target.now in
    let tables = c.args.schema.now in
    let rule = c.args.rule.now in
    on_ok_weaker c.add_wide_rows.result
    (λ e. e ∙ rw (
      c.in_ok-add_searches-2.ensures,
      c.in_ok-add_searches.ensures,
      c.as_slice-serving.ensures.value,
      c.as_slice-paired.ensures.value,
      c.as_slice-all.ensures.value,
      c.in_ok-all.ensures,
      c.in_ok-paired.ensures,
      c.in_ok-serving.ensures,
    )
    (pieces_3 c.args.text.now.items
    (searches target tables new_table (paired_roles rule) (all_roles rule))
    (searches target tables old_table (serving_marks rule) (all_roles rule))
    (flat_map (wide_text target tables) (paired_roles rule)))) c.add_wide_rows.ensures
