use Rattle.std.proofs.Common.{◌≡◌, ◌+◌, map, sym, subst, take, List, Contains}
use Rattle.std.proofs.lemmas.List.{take_all}
use Rattle.clr_rows.specs.declared.cells.Held.{Held as Borrowed}
use Rattle.clr_rows.specs.Held.{held_of}
use Rattle.clr_audit.specs.Searches.{IsOfRule}
use Rattle.clr_audit.proofs.Gaining.{gains_less, gains_same}
use Rattle.clr_audit.proofs.LeastLaws.{least_found, row_gained}
use Rattle.clr_audit.proofs.searching.Search.add_until_least.Goals as goal

pub loop-first-preserved : goal.loop-first-preserved
loop-first-preserved c =
    let book = c.args.self.now.book.now in
    let n = c.args.self.now.rule in
    let rows = c.args.self.now.rows.now in
    let i = c.loop-first.first-index in
    gains_same book (map held_of rows) (λ b h. (b.rule ≡ n) × Contains (map held_of (take (i + 1) rows)) h.first) c.args.list.now.items
    c.add_of_row.new.list.items c.least_up_to.new.list.items
    (row_gained book rows n i c.first-item.result c.args.list.now.items c.loop-first.list.items c.add_of_row.new.list.items c.loop-first-test.true
    c.first-item.is c.loop-first.invariant c.in_ok-add_of_row.ensures.ok)
    c.least_up_to.ensures.same

pub returns-in-Some : goal.returns-in-Some
returns-in-Some c =
    let book = c.args.self.now.book.now in
    let n = c.args.self.now.rule in
    let rows = c.args.self.now.rows.now in
    let i = c.loop-first.first-index in
    least_found book rows n i c.first-item.result c.args.list.now.items c.add_of_row.new.list.items c.in-Some.need c.loop-first-test.true c.first-item.is
    c.requires.in_order
    (row_gained book rows n i c.first-item.result c.args.list.now.items c.loop-first.list.items c.add_of_row.new.list.items c.loop-first-test.true
    c.first-item.is c.loop-first.invariant c.in_ok-add_of_row.ensures.ok)
    c.in-Some.ensures.least c.in-Some.ensures.early

pub returns : goal.returns
returns c =
    let n = c.args.self.now.rule in
    let rows = c.args.self.now.rows.now in
    gains_less c.args.self.now.book.now (map held_of rows) (λ b h. (b.rule ≡ n) × Contains (map held_of (take c.loop-first.first-index rows)) h.first)
    (IsOfRule n) c.args.list.now.items c.loop-first.list.items c.loop-first.invariant
    (λ b h w. (
      w,
      subst (λ (held : List Borrowed). Contains (map held_of held) h.first) (sym (take_all c.loop-first.first-index rows c.loop-first-test.false))
          h.listed,
    ))
