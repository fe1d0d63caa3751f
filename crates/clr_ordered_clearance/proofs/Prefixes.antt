-- The first commands of a list, and the reply at a position.
use Rattle.std.proofs.Common.{◌≡◌, ◌∙◌, ◌<◌, ◌+◌, ℕ, zero, suc, Bool, List, [], ◌∷◌, sym, ap, subst, arith, Some, slice_get, take}
use Rattle.std.proofs.lemmas.List.{take-take}
use Rattle.clr_steps.specs.declared.commands.Command.{Command}
use Rattle.clr_steps.specs.declared.commands.Command.TheVariants as command
use Rattle.clr_steps.specs.declared.commands.Reply.{Reply}
use Rattle.clr_steps.specs.Offices.{Office}
use Rattle.clr_steps.specs.Steps.{run, step_or_lost}
use Rattle.clr_clearance.specs.Headline.{merged_after}
use Rattle.clr_clearance.specs.Runs.{office_before}
use Rattle.clr_ordered_clearance.specs.MergeSets.{OrderedMergeSet}
use Rattle.clr_ordered_clearance.specs.Turns.{IsTurnOf, MergesComeInTurn}

-- the reply at a position is that to the command there, in the office in which it is given
pub reply_at : (o : Office) (cs : List Command) (lost : ℕ → Bool) (at : ℕ) (c : Command) (reply : Reply)
    → slice_get cs at ≡ Some c → slice_get (run o cs lost).replies at ≡ Some reply
    → (step_or_lost (lost at) (office_before o cs lost at) c).reply ≡ reply
reply_at o [] lost at c reply e f = absurd (cc)
reply_at o (d ∷ cs) lost zero c reply e f =
    let same : d ≡ c = cc in
    let one : (step_or_lost (lost 0) o d).reply ≡ reply = cc in
    ap (λ x. (step_or_lost (lost 0) o x).reply) (sym same) ∙ one
reply_at o (d ∷ cs) lost (suc at) c reply e f =
    let next : suc at ≡ at + 1 = omega arith in
    ap (λ k. (step_or_lost (lost k) (office_before o (d ∷ cs) lost (suc at)) c).reply) next
    ∙ reply_at (step_or_lost (lost 0) o d).office cs (λ k. lost (k + 1)) at c reply e f

taken_at : {X : Type 0} (xs : List X) (n k : ℕ) (x : X) → slice_get (take n xs) k ≡ Some x → (k < n) × (slice_get xs k ≡ Some x)
taken_at [] zero k x e = absurd (cc)
taken_at [] (suc n) k x e = absurd (cc)
taken_at (y ∷ ys) zero k x e = absurd (cc)
taken_at (y ∷ ys) (suc n) zero x e = (omega arith, e)
taken_at (y ∷ ys) (suc n) (suc k) x e = let (less, is) = taken_at ys n k x e in (omega (arith, less), is)

-- in the first commands of a list merges come in turn where they do in all
pub first_come : (o : Office) (ordered : OrderedMergeSet) (commands : List Command) (lost : ℕ → Bool) (n : ℕ)
    → MergesComeInTurn o ordered commands lost → MergesComeInTurn o ordered (take n commands) lost
first_come o ordered commands lost n come at name remove e member =
    let (less, is) = taken_at commands n at (command.Merge name remove) e in
    subst (λ cs. IsTurnOf ordered (merged_after o ordered.merge_set cs lost) name) (sym (take-take at n commands (omega (arith, less)))) (come at name remove is
    member)
