-- What is printed for a database.
use Rattle.std.specs.Prelude.{ℕ, List}
use Rattle.clr_office_texts.specs.Drafts.{draft_in}
use Rattle.clr_desk_command_line.specs.declared.asks.DatabaseAsk.{DatabaseAsk}
use Rattle.clr_desk_command_line.specs.declared.asks.DatabaseAsk.TheVariants.{Edits, SqlEdits, Proposal}
use Rattle.clr_desk_edits.specs.declared.forms.EditsForm.TheVariants.{Records}
use Rattle.clr_desk_edits.specs.Edits.{IsEditsAnswer, IsSqlEditsAnswer}
use Rattle.clr_desk_edits.specs.Proposals.{IsProposalAnswer}
use Rattle.clr_desk_prints.specs.Printing.{PrintoutOrFault}

-- what is to be printed for what is asked of an office text, and of a second one, which is that of the office that merges left
abbrev pub IsDatabaseAnswer : DatabaseAsk → (office second : List ℕ) → PrintoutOrFault → Type 0
IsDatabaseAnswer Edits old new print = IsEditsAnswer Records old new print
IsDatabaseAnswer (SqlEdits sql) old new print = IsSqlEditsAnswer sql.dialect sql.origin sql.system old new print
IsDatabaseAnswer (Proposal sql) office second print = IsProposalAnswer sql.dialect sql.origin sql.system office print
