use Rattle.std.proofs.Common.{◌∙◌, ap, codes}
use Rattle.std.specs.Option.{option_map_or}
use Rattle.std.proofs.lemmas.Result.{IfOk-weaker}
use Rattle.clap.proofs.WalkLemmas.{first_value-rows}
use Rattle.clap.specs.Words.{found_of, rows_of}
use Rattle.clr_sql.specs.declared.targets.Dialect.TheVariants.{PostGis}
use Rattle.clr_desk_command_line.specs.Databases.{sql_by, sql_in}
use Rattle.clr_desk_command_line.proofs.database_reading.proposal_sql.Goals as goal

pub returns-in-Some : goal.returns-in-Some
returns-in-Some c =
    let rows = rows_of (found_of c.args.matches.now) in
    let e = c.in-Some.ensures ∙ first_value-rows (found_of c.args.matches.now) (codes "sql") in
    IfOk-weaker c.sql_by.result _ _ (λ sql is. is ∙ ap (λ o. option_map_or (sql_by rows) o (sql_in rows PostGis)) e) c.sql_by.ensures

pub returns-in-None : goal.returns-in-None
returns-in-None c =
    let rows = rows_of (found_of c.args.matches.now) in
    let e = c.in-None.ensures ∙ first_value-rows (found_of c.args.matches.now) (codes "sql") in
    IfOk-weaker c.sql_in.result _ _ (λ sql is. is ∙ ap (λ o. option_map_or (sql_by rows) o (sql_in rows PostGis)) e) c.sql_in.ensures
