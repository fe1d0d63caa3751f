-- A design that is brought again, or made anew, is printed in one way alone.
use Rattle.std.proofs.Common.{◌≡◌, ◌∙◌, Bool, true, false, List, Option, Some, None, ap, sym}
use Rattle.std.proofs.lemmas.Bool.{true≢false}
use Rattle.clr_rows.specs.Contents.{Content}
use Rattle.clr_workspaces.specs.Marks.{Name}
use Rattle.clr_steps.specs.declared.commands.Command.{Command}
use Rattle.clr_steps.specs.declared.commands.Command.TheVariants.{Remove, RollAll}
use Rattle.clr_steps.specs.declared.commands.Reply.{Reply}
use Rattle.clr_steps.specs.Effects.{effect}
use Rattle.clr_steps.specs.Offices.{Office, content_of}
use Rattle.clr_layer_changes.specs.Wanted.{united}
use Rattle.clr_layer_changes.specs.declared.options.GivenLayer.{GivenLayer}
use Rattle.clr_layer_changes.specs.declared.options.LayerOptions.{LayerOptions}
use Rattle.clr_desk_layers.specs.Counted.{IsCounted}
use Rattle.clr_desk_layers.specs.Designs.{refusal_print, text_print}
use Rattle.clr_desk_layers.specs.Since.{IsSincePrint}
use Rattle.clr_desk_designs.specs.Again as again
use Rattle.clr_desk_designs.specs.Again.{IsAgainPrint, IsAnewPrint, IsPrintBehind, IsPrintOfChange, IsPrintOfContent, IsPrintOfScript, IsPrintOverBase}
use Rattle.clr_desk_prints.specs.Printing.{PrintoutOrFault}
use Rattle.clr_desk.specs.OneAnswer.{IsOnePrint}
use Rattle.clr_desk.proofs.OneAnswer.{one_counted, one_of_layers, one_since}

one_content : (name : Name) (o : Office) (content : Content) (print other : PrintoutOrFault) → IsPrintOfContent name o content print
    → IsPrintOfContent name o content other → print ≡ other
one_content name o content print other (again.of_set text none made is) (again.of_set text_too none_too made_too is_too) =
    is ∙ ap text_print (made.bytes ∙ sym made_too.bytes) ∙ sym is_too
one_content name o content print other (again.of_set text none made is) (again.of_unset reply refused is_too) =
    absurd (let e : None ≡ Some reply = sym none ∙ refused in cc)
one_content name o content print other (again.of_unset reply refused is) (again.of_set text none made is_too) =
    absurd (let e : None ≡ Some reply = sym none ∙ refused in cc)
one_content name o content print other (again.of_unset reply refused is) (again.of_unset answer refused_too is_too) =
    let e : Some reply ≡ Some answer = sym refused ∙ refused_too in
    let same : reply ≡ answer = cc in
    is ∙ ap (refusal_print o.schema) same ∙ sym is_too

one_script : (name : Name) (o : Office) (content : Content) (print other : PrintoutOrFault) → IsPrintOfScript name o content print
    → IsPrintOfScript name o content other → print ≡ other
one_script name o content print other (again.of_script text none made is) (again.of_script text_too none_too made_too is_too) =
    is ∙ ap text_print (made.bytes ∙ sym made_too.bytes) ∙ sym is_too
one_script name o content print other (again.of_script text none made is) (again.of_unset_script reply refused is_too) =
    absurd (let e : None ≡ Some reply = sym none ∙ refused in cc)
one_script name o content print other (again.of_unset_script reply refused is) (again.of_script text none made is_too) =
    absurd (let e : None ≡ Some reply = sym none ∙ refused in cc)
one_script name o content print other (again.of_unset_script reply refused is) (again.of_unset_script answer refused_too is_too) =
    let e : Some reply ≡ Some answer = sym refused ∙ refused_too in
    let same : reply ≡ answer = cc in
    is ∙ ap (refusal_print o.schema) same ∙ sym is_too

one_change : (is_script : Bool) (name : Name) (o : Office) (content : Content) (print other : PrintoutOrFault) → IsPrintOfChange is_script name o content print
    → IsPrintOfChange is_script name o content other → print ≡ other
one_change true name o content print other one two = one_script name o content print other one two
one_change false name o content print other one two = one_content name o content print other one two

-- behind a command
one_behind : (command : Command) (name : Name) (P : Office → PrintoutOrFault → Type 0) → ((o : Office) → IsOnePrint (P o)) → (o : Office)
    → IsOnePrint (IsPrintBehind command name P o)
one_behind command name P one_print o print other (again.of_next here may made) (again.of_next here_too may_too made_too) found found_too =
    one_print (effect o command) print other made made_too found found_too
one_behind command name P one_print o print other (again.of_next here may made) (again.of_refused reply here_too refused is) found found_too =
    absurd (let e : None ≡ Some reply = sym may ∙ refused in cc)
one_behind command name P one_print o print other (again.of_next here may made) (again.of_elsewhere away is) found found_too =
    absurd (true≢false (sym away ∙ here))
one_behind command name P one_print o print other (again.of_refused reply here refused is) (again.of_next here_too may made) found found_too =
    absurd (let e : None ≡ Some reply = sym may ∙ refused in cc)
one_behind command name P one_print o print other (again.of_refused reply here refused is) (again.of_refused answer here_too refused_too is_too) found
    found_too =
    let e : Some reply ≡ Some answer = sym refused ∙ refused_too in
    let same : reply ≡ answer = cc in
    is ∙ ap (refusal_print o.schema) same ∙ sym is_too
one_behind command name P one_print o print other (again.of_refused reply here refused is) (again.of_elsewhere away is_too) found found_too =
    absurd (true≢false (sym away ∙ here))
one_behind command name P one_print o print other (again.of_elsewhere away is) (again.of_next here may made) found found_too =
    absurd (true≢false (sym away ∙ here))
one_behind command name P one_print o print other (again.of_elsewhere away is) (again.of_refused reply here refused is_too) found found_too =
    absurd (true≢false (sym away ∙ here))
one_behind command name P one_print o print other (again.of_elsewhere away is) (again.of_elsewhere away_too is_too) found found_too = is ∙ sym is_too

module _ (name : Name) (options : LayerOptions) (may_remove : Bool) (layers : List GivenLayer) where
  one_over_base : (is_script : Bool) (o : Office) → IsOnePrint (IsPrintOverBase is_script name options may_remove layers o)
  one_over_base is_script o =
      let base = content_of o name in
      one_of_layers options layers (IsCounted may_remove base (IsPrintOfChange is_script name))
      (one_counted may_remove base (IsPrintOfChange is_script name) (one_change is_script name)) o base (united o.live base)

  pub one_brought : (is_script : Bool) (o : Office) → IsOnePrint (IsAgainPrint is_script name options may_remove layers o)
  one_brought is_script o =
      one_behind (RollAll name) name (IsPrintOverBase is_script name options may_remove layers) (one_over_base is_script) o

  pub one_anew : (o copied : Office) → IsOnePrint (IsAnewPrint name options may_remove layers o copied)
  one_anew o copied =
      one_behind (Remove name) name (λ next. IsSincePrint name options may_remove layers next copied)
      (λ next. one_since name options may_remove layers next copied) o

pub one_again : (is_script : Bool) (name : Name) (options : LayerOptions) (may_remove : Bool) (layers : List GivenLayer) (o : Office)
    → IsOnePrint (IsAgainPrint is_script name options may_remove layers o)
one_again is_script name options may_remove layers o = one_brought name options may_remove layers is_script o
