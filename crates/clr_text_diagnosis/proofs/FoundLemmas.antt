-- What holds where nothing is found, or something is.
use Rattle.std.proofs.Common.{◌≡◌, ◌==◌, ◌∙◌, ◌∷◌, List, [], Option, Some, None, ap, arith, length, refl, sym, true, false}
use Rattle.std.specs.Prelude.{◌≢◌, IfNone}
use Rattle.std.proofs.lemmas.Bool.{false≢true}
use Rattle.clr_rules.specs.declared.needs.Broken.{Broken}
use Rattle.clr_steps.specs.Offices.{Office}
use Rattle.clr_engine.specs.BrokenNow.{AreBrokenNow}
use Rattle.clr_engine.specs.Drafts.{unheld_in}
use Rattle.clr_engine.proofs.BrokenNow.{none_broken}
use Rattle.clr_office_texts.proofs.Held.{held_law}

pub of_none : {A : Type 0} (found : Option A) (P : Type 0) → found ≡ None → IfNone found P → P
of_none None P is holds = holds
of_none (Some y) P is holds = absurd cc

pub no_needs : (needs : List Broken) → (length needs == 0) ≡ true → needs ≡ []
no_needs [] is = refl
no_needs (b ∷ bs) is = absurd (grind arith)

pub some_needs : (needs : List Broken) → (length needs == 0) ≡ false → needs ≢ []
some_needs needs is none = false≢true (sym is ∙ ap (λ (list : List Broken). length list == 0) none)

-- where no need is known and each that is broken is known, none is broken
pub none_known : (o : Office) (known : List Broken) → (length known == 0) ≡ true → unheld_in o known ≡ None → AreBrokenNow o []
none_known o [] is none = none_broken o (held_law o none)
none_known o (b ∷ bs) is none = absurd (grind arith)
