use Rattle.std.proofs.Common.{◌≡◌, Ok}
use Rattle.clr_scripts.specs.Scripts.{script_in_text}
use Rattle.clr_office.proofs.ScriptOutcomes.{script_made}
use Rattle.clr_office.proofs.run_script.run_text.Goals as goal

pub returns : goal.returns
returns c =
    let o = c.args.office.now in
    let read : script_in_text o.schema c.args.script.now ≡ Ok c.in-Ok.steps.items = rw (← c.schema.ensures.value) c.in-Ok.ensures.steps in
    script_made o c.run_script.new.office (script_in_text o.schema c.args.script.now) c.in-Ok.steps.items c.in_ok-run_script.field-0 read
    (rw c.as_slice.ensures.value at c.in_ok-run_script.ensures)
