use Rattle.std.proofs.Common.{◌∙◌, ℕ, ℤ, List, Some, subst, sym, ap}
use Rattle.std.specs.Prelude.{if◌then◌else◌}
use Rattle.std.specs.Map.Iter.{deref_pair}
use Rattle.std.proofs.lemmas.Map.Iter.{rest_more, rest_all}
use Rattle.clr_rows.specs.declared.cells.CellId.{CellId}
use Rattle.clr_rows.specs.declared.cells.Change.{Change}
use Rattle.clr_row_versions.specs.declared.changers.Changers.{Changers}
use Rattle.clr_row_versions.specs.Changers.{are_same_keys, key_of, noted_changers, with_member}
use Rattle.clr_row_versions.proofs.ChangedCells.{cells_of}
use Rattle.clr_row_versions.proofs.ChangerSteps.{IsNoting, all_noted, found_at, first_noting, is_cell, noting_further}
use Rattle.clr_row_versions.proofs.Searches.{set_at, sets_of}
use Rattle.clr_row_versions.proofs.changers.note_member.Goals as goal

pub loop-cell-init : goal.loop-cell-init
loop-cell-init c =
    let sets = sets_of c.args.sets.now in
    let found = noted_changers c.args.changers.now in
    let at = set_at c.args.sets.now c.args.position c.index-sets-position.result c.requires.within c.index-sets-position.is in
    let all = c.into_iter-cell-iterator.ensures.into_iter_gives ∙ c.iter-cell-items.ensures.rest in
    subst (λ (es : List (CellId × Change)). IsNoting sets c.args.position found (cells_of es)) (sym all)
    (first_noting sets c.args.position c.index-sets-position.result.now found at c.requires.before)

pub loop-cell-preserved : goal.loop-cell-preserved
loop-cell-preserved c =
    let sets = sets_of c.args.sets.now in
    let found = noted_changers c.loop-cell.changers in
    let next = noted_changers c.insert.new.self in
    let left = c.next.new.self in
    let changes = rest_more deref_pair c.loop-cell.cell-iterator left c.next.result (c.in-Some.cell, c.in-Some.field-0-1) c.in-Some.is c.next.ensures.steps in
    let key = c.key_of-key.ensures in
    let before_it = found_at c.loop-cell.changers c.in-Some.cell.now c.key_of-key.result _ key (c.copied.ensures ∙ c.get.ensures.value) in
    let made = c.with_member-noted.ensures ∙ ap (λ x. with_member x c.args.position) before_it in
    let before = subst (λ (es : List (CellId × Change)). IsNoting sets c.args.position found (cells_of es)) changes c.loop-cell.invariant in
    let steps = λ (q : CellId). c.in_ok-insert.ensures.updates.0 (key_of q)
    ∙ ap (λ (k : ℕ × ℤ). if are_same_keys k (key_of q) then Some c.with_member-noted.result else found q) key
    ∙ ap (λ (m : Changers). if is_cell c.in-Some.cell.now q then Some m else found q) made in
    noting_further sets c.args.position c.in-Some.cell.now (cells_of left) found next steps before

pub returns : goal.returns
returns c =
    let sets = sets_of c.args.sets.now in
    let found = noted_changers c.loop-cell.changers in
    let ended = rest_all deref_pair c.loop-cell.cell-iterator c.next.new.self c.next.result c.in-None.is c.next.ensures.steps in
    all_noted sets c.args.position found (subst (λ (es : List (CellId × Change)). IsNoting sets c.args.position found (cells_of es)) ended
    c.loop-cell.invariant)
