use Rattle.std.proofs.Common.{◌≡◌, ◌++◌, [], ◌∷◌, ap, ◌∙◌, sym, arith, append_assoc, codes, map, take}
use Rattle.std.specs.List.{zip}
use Rattle.clr_plan_features.specs.RowFeatures.{column_property, value_property}
use Rattle.clr_plan_features.proofs.Pairs.{all_pairs, map_one_more}
use Rattle.clr_plan_features.proofs.row_features.add_values.Goals as goal

pub loop-at-preserved : goal.loop-at-preserved
loop-at-preserved c =
    let columns = c.args.columns.now in
    let values = c.args.values.now in
    let at = c.loop-at.at in
    let column = c.index-columns-at.result in
    let value = c.index-values-at.result in
    let more = map_one_more columns values column_property at column value (omega arith) (omega arith) c.index-columns-at.is c.index-values-at.is in
    let property : c.in_ok-value_property.field-0 ≡ column_property (column, value) =
    c.in_ok-value_property.ensures
    ∙ ap (λ name. value_property (codes "v_" ++ name) value) (c.as_str.ensures ∙ ap (λ p. p.0) (sym c.index-columns-at.is)) in
    c.in_ok-push.ensures.items ∙ ap (λ l. l ++ c.in_ok-value_property.field-0 ∷ []) c.loop-at.invariant
    ∙ ap (λ p. c.args.list.now.items ++ map column_property (take at (zip columns values)) ++ p ∷ []) property
    ∙ append_assoc c.args.list.now.items (map column_property (take at (zip columns values))) (column_property (column, value) ∷ [])
    ∙ ap (λ l. c.args.list.now.items ++ l) (sym more)

pub returns : goal.returns
returns c =
    c.loop-at.invariant
    ∙ ap (λ l. c.args.list.now.items ++ map column_property l) (all_pairs c.args.columns.now c.args.values.now c.loop-at.at
    (omega (arith, c.min-count.ensures)))
