use Rattle.std.proofs.Common.{◌∙◌, Some, ap, codes}
use Rattle.std.specs.Option.{option_map_or}
use Rattle.std.proofs.lemmas.Result.{IfOk-weaker}
use Rattle.clap.proofs.WalkLemmas.{first_value-rows}
use Rattle.clap.specs.Words.{found_of, rows_of}
use Rattle.clr_desk_command_line.specs.declared.asks.DatabaseAsk.TheVariants.{Edits}
use Rattle.clr_desk_command_line.specs.Databases.{sql_edits}
use Rattle.clr_desk_command_line.proofs.database_reading.edits_ask.Goals as goal

pub returns-in-Some : goal.returns-in-Some
returns-in-Some c =
    let rows = rows_of (found_of c.args.matches.now) in
    let e = c.in-Some.ensures ∙ first_value-rows (found_of c.args.matches.now) (codes "sql") in
    IfOk-weaker c.sql_edits.result _ _ (λ ask is. is ∙ ap (λ o. option_map_or (sql_edits rows) o (Some Edits)) e) c.sql_edits.ensures

pub returns-in-None : goal.returns-in-None
returns-in-None c =
    let rows = rows_of (found_of c.args.matches.now) in
    let e = c.in-None.ensures ∙ first_value-rows (found_of c.args.matches.now) (codes "sql") in
    ap (λ o. option_map_or (sql_edits rows) o (Some Edits)) e
