use Rattle.std.proofs.Common.{◌≡◌, ◌∙◌, ap, sym, subst, None}
use Rattle.std.specs.FinMap as finite
use Rattle.std.specs.Option.{option_copied, option_flatten}
use Rattle.clr_grid.specs.Filing.{GainOnly, IsFiledExactly, IsFiledIfAny}
use Rattle.clr_finders.specs.RowMaps.{FiledRows, RowOrNone}
use Rattle.clr_grid.proofs.IndexLemmas.{filed_noted, filed_refused, noted_row, noted_dropped, others_noted, others_refused}
use Rattle.clr_grid.proofs.spot_index.SpotIndex.note_spots.Goals as goal

pub invariant_of-self : goal.invariant_of-self
invariant_of-self c = subst (λ (r : FiledRows). IsFiledExactly r c.self.inside.rules.items) (sym c.in_err-note.ensures.err) c.self.invariant

pub invariant_of-self-in-Ok : goal.invariant_of-self-in-Ok
invariant_of-self-in-Ok c =
    let free : finite.get c.self.inside.rows.pending c.args.cell ≡ None = ap (λ (r : FiledRows). finite.get r.pending c.args.cell) c.self.view_is
    ∙ c.requires in
    let row : option_copied c.pending_row.result ≡ c.args.spots = c.pending_row.ensures ∙ noted_row c.self.inside.rows c.note.new.self c.args.cell c.args.spots
    c.in_ok-note.ensures.ok in
    record {
      filed = filed_noted c.self.inside.rows c.note.new.self c.args.cell c.args.spots c.self.inside.rules.items c.file_row.new.rules.items
          c.self.invariant.filed c.in-Ok.ensures.kept
          (subst (λ (o : RowOrNone). IsFiledIfAny c.file_row.new.rules.items c.args.cell o) row c.in-Ok.ensures.filed) c.in_ok-note.ensures.ok;
      others = others_noted c.self.inside.rows c.note.new.self c.args.cell c.args.spots c.self.inside.rules.items c.file_row.new.rules.items free
          c.self.invariant.others
          (subst (λ (o : RowOrNone). GainOnly c.args.cell o c.self.inside.rules.items c.file_row.new.rules.items) row c.in-Ok.ensures.only)
          c.in_ok-note.ensures.ok;
      lean = c.in-Ok.ensures.lean c.self.invariant.lean;
    }

pub invariant_of-self-in-Err : goal.invariant_of-self-in-Err
invariant_of-self-in-Err c =
    let free : finite.get c.self.inside.rows.pending c.args.cell ≡ None = ap (λ (r : FiledRows). finite.get r.pending c.args.cell) c.self.view_is
    ∙ c.requires in
    let noted : option_flatten (finite.get c.note.new.self.pending c.args.cell) ≡ c.args.spots =
    noted_row c.self.inside.rows c.note.new.self c.args.cell c.args.spots c.in_ok-note.ensures.ok in
    let left : c.forget_at-refused.new.self ≡ c.self.inside.rows =
    noted_dropped c.self.inside.rows c.note.new.self c.forget_at-refused.new.self c.args.cell c.args.spots free c.in_ok-note.ensures.ok
    c.forget_at-refused.ensures.after in
    let row : option_copied c.pending_row.result ≡ c.forget_at-refused.result = c.pending_row.ensures ∙ noted
    ∙ sym (c.forget_at-refused.ensures.before ∙ noted) in
    record {
      filed = filed_refused c.self.inside.rows c.forget_at-refused.new.self c.args.cell (option_copied c.settled_row.result) c.self.inside.rules.items
          c.file_row.new.rules.items c.unfile_row.new.rules.items
          free c.self.invariant.filed c.in-Err.ensures.kept c.unfile_row.ensures.kept left c.settled_row.ensures;
      others = others_refused c.self.inside.rows c.forget_at-refused.new.self c.args.cell c.forget_at-refused.result (option_copied c.settled_row.result)
          c.self.inside.rules.items c.file_row.new.rules.items c.unfile_row.new.rules.items
          c.self.invariant.others (subst (λ (o : RowOrNone). GainOnly c.args.cell o c.self.inside.rules.items c.file_row.new.rules.items) row
          c.in-Err.ensures.only)
          c.unfile_row.ensures.fewer c.unfile_row.ensures.gone left c.settled_row.ensures;
      lean = c.unfile_row.ensures.lean (c.in-Err.ensures.lean c.self.invariant.lean);
    }

pub returns-in-Err-clause-err : goal.returns-in-Err-clause-err
returns-in-Err-clause-err c =
    let free : finite.get c.self.inside.rows.pending c.args.cell ≡ None = ap (λ (r : FiledRows). finite.get r.pending c.args.cell) c.self.view_is
    ∙ c.requires in
    noted_dropped c.self.inside.rows c.note.new.self c.forget_at-refused.new.self c.args.cell c.args.spots free c.in_ok-note.ensures.ok
    c.forget_at-refused.ensures.after ∙ c.self.view_is
