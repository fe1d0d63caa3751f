-- What is answered of two texts, by what they give.
use Rattle.std.proofs.Common.{◌≡◌, Ok, sym, subst}
use Rattle.clr_steps.specs.Offices.{Office}
use Rattle.clr_clearance.specs.declared.verdicts.Verdict.{Verdict}
use Rattle.clr_cert.specs.declared.certificates.Certificate.{Certificate}
use Rattle.clr_check.specs.Cases.{Case, IsCaseFault}
use Rattle.clr_check.specs.TextChecks.{IsChecked, IsCheckedVerdict, IsVerdictOn, said_of}
use Rattle.clr_check.specs.declared.cases.CaseFault.{CaseFault}
use Rattle.clr_check.specs.declared.cases.CaseFault.TheVariants as fault

pub said : (given : Case) (why : CaseFault) → IsCaseFault given why → IsChecked given (said_of why)
said given (fault.BadOffice e) is = is
said given (fault.Unheld o position need) is = (o, is)
said given (fault.BadCertificate n e) is = is
said given fault.OutOfMemory is = tt

pub judged : (given : Case) (o : Office) (c : Certificate) (v : Verdict) → given ≡ Ok (o, c) → IsCheckedVerdict o c v → IsVerdictOn given v
judged given o c v is h = subst (λ g. IsVerdictOn g v) (sym is) h
