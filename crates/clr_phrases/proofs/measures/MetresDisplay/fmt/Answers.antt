use Rattle.std.proofs.Common.{◌≡◌, rules, arith, w64, to_z-of_z, ◌∙◌, ap, SFits, unsigned_abs}
use Rattle.std.proofs.Output.{has_written_of_eq}
use Rattle.clr_metres.specs.Metres.{sign_text}
use Rattle.clr_phrases.proofs.PlaceLemmas.{metres_by_digits}
use Rattle.clr_phrases.proofs.measures.MetresDisplay.fmt.Goals as goal
use Rattle.clr_phrases.proofs.measures.MetresDisplay.fmt.Goals.{then-self-lt0, else-self-lt0}

pub returns-clause-writes : goal.returns-clause-writes
returns-clause-writes g c plain ok =
    let fits : SFits w64 c.args.self.now.0 = search rules in
    let sign : c.if-self-lt0.sign.now ≡ sign_text c.args.self.now.0 =
    elim c.if-self-lt0.branch [ then-self-lt0 w ↦ grind arith | else-self-lt0 w ↦ grind arith ] in
    has_written_of_eq _ _ _ _ _ (metres_by_digits _ _ _ sign (c.unsigned_abs-size.ensures.value ∙ ap unsigned_abs (to_z-of_z fits)))
    (c.write.ensures.writes plain ok)
