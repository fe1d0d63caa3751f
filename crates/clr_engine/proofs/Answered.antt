-- What a command is answered by what its calls were.
use Rattle.std.proofs.Common.{◌≡◌, Bool, List, Option, Some, None, refl, sym, ap, ◌∙◌}
use Rattle.std.specs.Prelude.{ℕ, Result, Ok, Err, OnOk, OnErr}
use Rattle.std.specs.Option.{option_map, option_or}
use Rattle.std.specs.declared.alloc.AllocError.{AllocError}
use Rattle.clr_rows.specs.Contents.{Content}
use Rattle.clr_change.specs.declared.edits.EditFault.{EditFault}
use Rattle.clr_rules.specs.declared.needs.Broken.{Broken}
use Rattle.clr_rules.specs.declared.rules.Rule.{Rule}
use Rattle.clr_workspaces.specs.Workspaces.{Workspace}
use Rattle.clr_steps.specs.declared.commands.Reply.{Reply}
use Rattle.clr_steps.specs.declared.commands.Reply.TheVariants.{Done, OutOfMemory, RuleBroken}
use Rattle.clr_steps.specs.Laws.{IsPerformed, without_memory, done}
use Rattle.clr_steps.specs.Refusals.{bad_edit, broken_where}

-- nothing refuses, and all is done but where no memory is found
pub ends : (refusal : Option Reply) (ws next left : List Workspace) (made : Result Unit AllocError) (reply : Reply) → refusal ≡ None
    → OnOk made (left ≡ next) → OnErr made (left ≡ ws) → OnOk made (reply ≡ Done) → OnErr made (reply ≡ OutOfMemory) → IsPerformed refusal ws next reply left
ends refusal ws next left (Ok u) reply none ok err is lost = done none is ok
ends refusal ws next left (Err x) reply none ok err is lost = without_memory lost err

or_none : (r : Option Reply) → option_or r None ≡ r
or_none None = refl
or_none (Some reply) = refl

-- edits that can be made are refused for what they break
pub edits_break : (bad : Option (ℕ × EditFault)) (kept judged : Bool) (book : List Rule) (before content other : Content) (need : Option Broken) → bad ≡ None → judged
    ≡ kept → other ≡ content
    → option_map RuleBroken need ≡ broken_where judged book before other → option_or (option_map bad_edit bad) (option_or (broken_where kept book before content) None)
    ≡ option_map RuleBroken need
edits_break bad kept judged book before content other need none same is e =
    ap (λ r. option_or (option_map bad_edit r) (option_or (broken_where kept book before content) None)) none ∙ or_none (broken_where kept book before content)
    ∙ sym (e ∙ ap (λ b. broken_where b book before other) same ∙ ap (broken_where kept book before) is)
