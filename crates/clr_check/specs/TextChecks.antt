-- What is said of an office and of a certificate, both given as texts.
use Rattle.std.specs.Prelude.{◌≡◌, [], Ok, Err}
use Rattle.clr_steps.specs.Offices.{Office}
use Rattle.clr_clearance.specs.declared.verdicts.Verdict.{Verdict}
use Rattle.clr_clearance.specs.declared.verdicts.Verdict.TheVariants as verdict
use Rattle.clr_ordered_clearance.specs.VerdictLaws.{IsClearedInEveryOrder, IsClearedInTurn}
use Rattle.clr_cert.specs.declared.certificates.Certificate.{Certificate}
use Rattle.clr_check.specs.Answers.{IsCheckAnswer}
use Rattle.clr_merge_sets.specs.Certificates.{entries_in, merge_set_of, ordered_merge_set_of}
use Rattle.clr_check.specs.Cases.{Case}
use Rattle.clr_check.specs.declared.cases.CaseFault.{CaseFault}
use Rattle.clr_check.specs.declared.cases.CaseFault.TheVariants as fault
use Rattle.clr_check.specs.declared.checked.Checked.{Checked}
use Rattle.clr_check.specs.declared.checked.Checked.TheVariants as checked

-- the verdict on a certificate, or want of memory where no test of names fails. Where it is clear, the members are safe where they are merged in turn, as
-- the headline says in one sentence; the root with the changes of any of them who have come in turn breaks no need but those that it breaks itself; they can
-- be merged as they are listed; and a run of quiet commands in which merges come in turn is a cleared one. Where nobody goes before another, all this is
-- promised of merges in every order
pub record IsCheckedVerdict (o : Office) (c : Certificate) (v : Verdict) : Type 0 where
  pub answer : IsCheckAnswer o (ordered_merge_set_of c) (entries_in c.entries) v
  pub cleared : v ≡ verdict.Clear → IsClearedInTurn o (ordered_merge_set_of c)
  pub every_order : c.before ≡ [] → v ≡ verdict.Clear → IsClearedInEveryOrder o (merge_set_of c)

-- the verdict is the one on what the texts give
abbrev pub IsVerdictOn : Case → Verdict → Type 0
IsVerdictOn (Ok given) v = IsCheckedVerdict given.0 given.1 v
IsVerdictOn (Err why) v = ⊥

-- what is answered, memory aside: the verdict where the texts give an office and a certificate, and else why they don't
abbrev pub IsChecked : Case → Checked → Type 0
IsChecked given (checked.Answer v) = IsVerdictOn given v
IsChecked given (checked.BadOffice e) = given ≡ Err (fault.BadOffice e)
IsChecked given (checked.BadCertificate n e) = given ≡ Err (fault.BadCertificate n e)
IsChecked given (checked.Unheld position need) = (o : Office) × (given ≡ Err (fault.Unheld o position need))
IsChecked given checked.OutOfMemory = Unit {0}

-- what is said where they don't give both
abbrev pub said_of : CaseFault → Checked
said_of (fault.BadOffice e) = checked.BadOffice e
said_of (fault.Unheld o position need) = checked.Unheld position need
said_of (fault.BadCertificate n e) = checked.BadCertificate n e
said_of fault.OutOfMemory = checked.OutOfMemory
