use Rattle.std.proofs.Common.{◌≡◌, ◌≤◌, Ok, length, sym, arith}
use Rattle.std.proofs.lemmas.Result.{err_from_is_err_and}
use Rattle.csv.specs.Records.{fields_of}
use Rattle.clr_records.specs.Records.{field_of}
use Rattle.clr_scripts.proofs.ScriptTurns.{apply_stops, apply_whole}
use Rattle.clr_scripts.proofs.script.apply.Goals as goal

pub returns-in_err-edits : goal.returns-in_err-edits
returns-in_err-edits c =
    let e = err_from_is_err_and c.from_residual.result c.from_residual.ensures.1 in
    rw (e.1, e.2) (apply_stops c.args.schema.now c.args.at (fields_of c.args.fields.now) c.args.rest.now c.in-Ok.count _ _ (sym c.in-Ok.ensures)
    (rw c.min-there.ensures at c.in_err-edits.ensures))

pub returns-in-Ok-words : goal.returns-in-Ok-words
returns-in-Ok-words c =
    let there = c.min-there.ensures in
    let le : c.in-Ok.count ≤ length c.args.rest.now = omega (arith, c.if-there-count.false) in
    let ws : Ok (field_of (fields_of c.args.fields.now) 1) ≡ Ok c.in-Ok-words.ws = c.in-Ok-words.ensures in
    let same : field_of (fields_of c.args.fields.now) 1 ≡ c.in-Ok-words.ws = cc in
    rw same at (apply_whole c.args.schema.now c.args.at (fields_of c.args.fields.now) c.args.rest.now c.in-Ok.count c.in_ok-edits.edits (sym c.in-Ok.ensures) le
    (rw c.min-there.ensures at c.in_ok-edits.ensures))
