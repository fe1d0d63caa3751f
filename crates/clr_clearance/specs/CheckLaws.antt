-- How a verdict comes about need by need, and a run command by command.
use Rattle.std.specs.Prelude.{◌≡◌, ℕ, ◌<◌, true, List, [], ◌∷◌, ◌++◌, Option, Some, Contains, slice_get}
use Rattle.clr_needs.specs.declared.needs.Need.{Need}
use Rattle.clr_needs.specs.Covers.{AreCovered, Entry, HasEntry}
use Rattle.clr_needs.specs.Needs.{AreTouchedNeeds, IsPossible}
use Rattle.clr_needs.specs.Settings.{Setting, Lived}
use Rattle.clr_steps.specs.declared.commands.Command.{Command}
use Rattle.clr_steps.specs.declared.commands.Reply.{Reply}
use Rattle.clr_steps.specs.Offices.{Office}
use Rattle.clr_steps.specs.Quiet.{MergeSet, is_quiet}
use Rattle.clr_steps.specs.Steps.{AreAnswers, IsAnswer, lost_in}
use Rattle.clr_clearance.specs.Runs.{AreQuiet}
use Rattle.clr_clearance.specs.Verdicts.{IsFirstUncovered}

-- an entry covers the need, whatever rows and lives its subjects have
abbrev pub IsCovered : Setting ℕ → List Entry → Need → Type 0
IsCovered c entries n = (a : Lived ℕ) (b : Option (Lived ℕ)) → IsPossible c n a b → HasEntry c n a b entries

-- where each of the touched needs, listed, is covered, the entries cover all touched needs
abbrev pub AllJudgedLaw : Type 0
AllJudgedLaw = (c : Setting ℕ) (entries : List Entry) (needs : List Need)
    → AreTouchedNeeds c needs
    → ((n : Need) → Contains needs n → IsCovered c entries n)
    → AreCovered c entries

-- the first of the touched needs, listed, that isn't covered is the least such need
abbrev pub FirstJudgedLaw : Type 0
FirstJudgedLaw = (c : Setting ℕ) (entries : List Entry) (needs : List Need) (at : ℕ) (n : Need)
    → AreTouchedNeeds c needs
    → slice_get needs at ≡ Some n
    → ((before : ℕ) (m : Need) → before < at → slice_get needs before ≡ Some m → IsCovered c entries m)
    → ¬ (IsCovered c entries n)
    → (a : Lived ℕ) × (b : Option (Lived ℕ)) × IsFirstUncovered c entries n a b

-- a list of quiet commands with the replies to them, and one more, is again such a list
abbrev pub OneMoreLaw : Type 0
OneMoreLaw = (o : Office) (merge_set : MergeSet) (commands : List Command) (replies : List Reply) (now : Office) (c : Command) (reply : Reply) (left : Office)
    → AreAnswers o commands replies now
    → AreQuiet o merge_set commands (lost_in replies)
    → is_quiet now merge_set c ≡ true
    → IsAnswer now c reply left
    → AreAnswers o (commands ++ c ∷ []) (replies ++ reply ∷ []) left × AreQuiet o merge_set (commands ++ c ∷ []) (lost_in (replies ++ reply ∷ []))
