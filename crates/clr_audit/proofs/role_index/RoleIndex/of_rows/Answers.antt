use Rattle.std.proofs.Common.{◌≡◌, ◌∙◌, ℕ, ◌+◌, ◌<◌, List, length, get_or, drop, map, ap, sym, add-one}
use Rattle.std.proofs.Math.Seq.{drop-cons}
use Rattle.clr_rows.specs.Held.{held_of}
use Rattle.clr_rules.proofs.Fits.{held_among}
use Rattle.clr_rows.specs.declared.cells.Held.{Held as HeldRow}
use Rattle.clr_rules.specs.declared.rules.Rule.{Rule}
use Rattle.clr_audit.specs.declared.role_index.RoleIndex.{RoleIndex}
use Rattle.clr_audit.specs.RoleFiling.{with_pairs, with_row, filed_rows}
use Rattle.clr_audit.proofs.FitLaws.{fit_first, fit_again}
use Rattle.clr_audit.proofs.role_index.RoleIndex.of_rows.Goals as goal

pub file_server-requires-clause-fit : goal.file_server-requires-clause-fit
file_server-requires-clause-fit c = fit_first c.args.book.now (held_of c.index-rows-position.result) (map held_of c.args.rows.now)
    (fit_again c.args.book.now (held_of c.index-rows-position.result) (map held_of c.args.rows.now) c.requires.fit
    (held_among c.args.rows.now c.loop-position.position c.index-rows-position.result c.loop-position-test.true c.index-rows-position.is))

pub file_parts-requires-clause-fit : goal.file_parts-requires-clause-fit
file_parts-requires-clause-fit c = fit_first c.args.book.now (held_of c.index-rows-position.result) (map held_of c.args.rows.now)
    (fit_again c.args.book.now (held_of c.index-rows-position.result) (map held_of c.args.rows.now) c.requires.fit
    (held_among c.args.rows.now c.loop-position.position c.index-rows-position.result c.loop-position-test.true c.index-rows-position.is))

-- one more row is filed
one_more : (rules : List Rule) (n position : ℕ) (index next : RoleIndex) (rows : List HeldRow) (s : HeldRow) (whole : RoleIndex) → position < length rows
    → s ≡ get_or rows position s → next ≡ with_row rules n index position (held_of s)
    → filed_rows rules n index position (map held_of (drop position rows)) ≡ whole
    → filed_rows rules n next (position + 1) (map held_of (drop (position + 1) rows)) ≡ whole
one_more rules n position index next rows s whole lt is made so_far = rw (made, add-one position) (rw (drop-cons rows position s, sym is) at so_far)

pub loop-position-preserved : goal.loop-position-preserved
loop-position-preserved c = one_more c.args.book.now c.args.rule c.loop-position.position c.loop-position.index c.file_parts.new.self c.args.rows.now
    c.index-rows-position.result _ c.loop-position-test.true c.index-rows-position.is
    (c.in_ok-file_parts.ensures
    ∙ ap (λ (i : RoleIndex). with_pairs c.args.book.now c.args.rule i c.loop-position.position (held_of c.index-rows-position.result))
    c.in_ok-file_server.ensures) c.loop-position.invariant
