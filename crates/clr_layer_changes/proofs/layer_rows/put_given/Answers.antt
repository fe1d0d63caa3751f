use Rattle.std.proofs.Common.{◌≡◌, ◌∙◌, sym}
use Rattle.std.specs.FinMap as finite
use Rattle.clr_layer_changes.specs.Keys.{cell_of, is_free}
use Rattle.clr_layer_changes.proofs.KeyLemmas.{given_key, is_taken, least_behind, more_passed, no_key, one_passed, stay_passed}
use Rattle.clr_layer_changes.proofs.layer_rows.put_given.Goals as goal

pub returns-in_default : goal.returns-in_default
returns-in_default c = λ first passed.
    let live = c.args.live.now in
    let rows = c.args.rows.now in
    let none = sym c.in_default.ensures.value in (
      λ number. no_key live c.args.table first number rows c.args.row.now (sym c.is_some.ensures ∙ c.if-is_some.false)
          (least_behind (is_free live rows c.args.table) first c.args.next.now passed ∙ none),
      passed,
    )

pub returns : goal.returns
returns c = λ first passed.
    let live = c.args.live.now in
    let rows = c.args.rows.now in
    let table = c.args.table in
    let row = c.args.row.now in
    let key = c.in-Some.key in
    let is : c.put.new.self ≡ finite.insert rows (cell_of table key) row.row = rw (← c.cell_of.ensures, ← c.in_ok-copy.ensures) c.in_ok-put.ensures.ok in
    let up_to = more_passed (is_free live rows table) first c.args.next.now key passed c.in-Some.ensures.passed in
    rw is (
      λ number. given_key live table first number rows row key (sym c.is_some.ensures ∙ c.if-is_some.false)
          (least_behind (is_free live rows table) first c.args.next.now passed ∙ sym c.in-Some.ensures.value),
      one_passed (is_free live (finite.insert rows (cell_of table key) row.row) table) first key (stay_passed live rows table (cell_of table key) row.row first
          key up_to)
          (is_taken live rows table key row.row),
    )
