use Rattle.std.proofs.Common.{◌∙◌, ◌++◌, ◌∷◌, [], ◌-◌, ◌<◌, ℕ, List, ap, arith, length, length-append, map, take}
use Rattle.std.specs.FinMap as finite
use Rattle.std.specs.Map.Iter.{deref_pair}
use Rattle.std.proofs.lemmas.List.{map-append}
use Rattle.std.proofs.lemmas.Map.Iter.{rest_more}
use Rattle.clr_html.specs.Words.{words_of_row}
use Rattle.clr_plan_page.specs.Designs.{change_row}
use Rattle.clr_plan_page.proofs.DesignLemmas.{one_more}
use Rattle.clr_plan_page.proofs.designs.first_changes.Goals as goal

pub loop-cell-preserved-in_ok-push : goal.loop-cell-preserved-in_ok-push
loop-cell-preserved-in_ok-push c =
    let row = change_row c.args.setting.office.now.schema in
    let left = c.next.new.self in
    let begun = rest_more deref_pair c.loop-cell.cell-iterator left c.next.result (c.in-Some.cell, c.in-Some.change) c.in-Some.is c.next.ensures.steps in
    let rows = c.loop-cell.rows.items in
    let new = c.push.new.self.items in
    let one = c.in_ok-change_row.field-0 in
    let told = map words_of_row rows in
    let below : length rows < 400 = grind (arith, c.len-told.ensures, c.if-told-lt-MOST_ROWS.true) in
    let added = ap (map words_of_row) c.in_ok-push.ensures.items ∙ map-append words_of_row rows (one ∷ [])
    ∙ ap (λ (cells : List (List ℕ)). told ++ cells ∷ []) c.in_ok-change_row.ensures in
    let longer = ap length c.in_ok-push.ensures.items ∙ length-append rows (one ∷ []) in
    ap (λ (n : ℕ). map words_of_row new ++ map row (take (400 - n) left)) longer
    ∙ one_more row told (map words_of_row new) (map row (take 400 (finite.entries c.args.set.now))) (c.in-Some.cell.now, c.in-Some.change.now)
    c.loop-cell.cell-iterator left (length rows) begun below added c.loop-cell.invariant
