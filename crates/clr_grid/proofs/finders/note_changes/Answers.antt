use Rattle.std.proofs.Common.{◌∙◌, Option, refl, sym, ap, subst}
use Rattle.std.specs.FinMap as finite
use Rattle.std.specs.Option.{option_map}
use Rattle.std.specs.Map.Iter.{deref_pair}
use Rattle.std.proofs.lemmas.Map.Iter.{rest_all, rest_more}
use Rattle.clr_rows.specs.declared.rows.Row.{Row}
use Rattle.clr_rules.specs.Books.{FitTogether}
use Rattle.clr_finders.specs.Sharing.{row_spots, rows_at}
use Rattle.clr_grid.specs.Finders.{spots_after}
use Rattle.clr_grid.proofs.Noting.{AreLeft, all_left, next_among, next_free, none_left, one_noted}
use Rattle.clr_grid.proofs.finders.note_changes.Goals as goal

pub loop-cell-init : goal.loop-cell-init
loop-cell-init c =
    let all = finite.entries c.args.changed.now in
    let same = c.into_iter-cell-iterator.ensures.into_iter_gives ∙ c.iter-cell-items.ensures.rest in
    record {
      settled = refl;
      left = all_left (spots_after c.args.book.now) all c.into_iter-cell-iterator.result c.args.finder.now.pending
          (finite.entries_sorted c.args.changed.now) same c.requires.free;
    }

pub note-requires-clause-fit : goal.note-requires-clause-fit
note-requires-clause-fit c =
    let left = c.next.new.self in
    let rest = rest_more deref_pair c.loop-cell.cell-iterator left c.next.result (c.in-Some.cell, c.in-Some.change) c.in-Some.is c.next.ensures.steps in
    let all = finite.entries c.args.changed.now in
    let noted = spots_after c.args.book.now in
    let is = next_among noted all left c.in-Some.cell.now c.in-Some.change.now c.loop-cell.finder.pending
    (subst (λ es. AreLeft noted all es c.loop-cell.finder.pending) rest c.loop-cell.invariant.left) in
    subst (λ row. FitTogether c.args.book.now (rows_at c.in-Some.cell.now row)) (sym c.as_ref.ensures.value)
    (c.requires.fit c.in-Some.cell.now c.in-Some.change.now (finite.get-entries c.args.changed.now c.in-Some.cell.now ∙ is))

pub note-requires-clause-free : goal.note-requires-clause-free
note-requires-clause-free c =
    let left = c.next.new.self in
    let rest = rest_more deref_pair c.loop-cell.cell-iterator left c.next.result (c.in-Some.cell, c.in-Some.change) c.in-Some.is c.next.ensures.steps in
    let all = finite.entries c.args.changed.now in
    let noted = spots_after c.args.book.now in
    next_free noted all left c.in-Some.cell.now c.in-Some.change.now c.loop-cell.finder.pending (subst (λ es. AreLeft noted all es c.loop-cell.finder.pending)
    rest c.loop-cell.invariant.left)

pub loop-cell-preserved : goal.loop-cell-preserved
loop-cell-preserved c =
    let left = c.next.new.self in
    let rest = rest_more deref_pair c.loop-cell.cell-iterator left c.next.result (c.in-Some.cell, c.in-Some.change) c.in-Some.is c.next.ensures.steps in
    let all = finite.entries c.args.changed.now in
    let noted = spots_after c.args.book.now in
    record {
      settled = c.in_ok-note.ensures.settled ∙ c.loop-cell.invariant.settled;
      left = one_noted noted all left c.in-Some.cell.now c.in-Some.change.now c.loop-cell.finder.pending
          (subst (λ es. AreLeft noted all es c.loop-cell.finder.pending) rest c.loop-cell.invariant.left)
          c.note.new.self.pending (c.in_ok-note.ensures.ok
          ∙ ap (λ (row : Option Row). finite.insert c.loop-cell.finder.pending c.in-Some.cell.now
          (option_map (λ r. row_spots c.args.book.now (c.in-Some.cell.now, r)) row)) c.as_ref.ensures.value);
    }

pub returns-clause-pending : goal.returns-clause-pending
returns-clause-pending c = λ q.
    let all = finite.entries c.args.changed.now in
    let noted = spots_after c.args.book.now in
    let ended = rest_all deref_pair c.loop-cell.cell-iterator c.next.new.self c.next.result c.in-None.is c.next.ensures.steps in
    none_left noted all c.loop-cell.cell-iterator c.loop-cell.finder.pending ended c.loop-cell.invariant.left q
    ∙ ap (λ o. option_map (noted q) o) (sym (finite.get-entries c.args.changed.now q))
