-- What a command leaves, told of its reply.
use Rattle.std.proofs.Common.{◌≡◌, false, Option, Some, None, refl, sym, ap, subst, ◌∙◌}
use Rattle.clr_steps.specs.declared.commands.Command.{Command}
use Rattle.clr_steps.specs.declared.commands.Reply.{Reply}
use Rattle.clr_steps.specs.declared.commands.Reply.TheVariants.{Done, OutOfMemory}
use Rattle.clr_steps.specs.Effects.{effect}
use Rattle.clr_steps.specs.Offices.{Office}
use Rattle.clr_steps.specs.Refusals.{refusal}
use Rattle.clr_steps.specs.Steps.{Answer, IsAnswer, answer, is_lost, refused_or_done, step, step_or_lost}

module _ (o : Office) (c : Command) (left : Office) where
  pub is_done : (reply : Reply) → reply ≡ Done → IsAnswer o c reply left → step o c ≡ answer Done left
  is_done reply is h = sym (subst (λ r. answer r left ≡ step_or_lost (is_lost r) o c) is h)

  not_lost : (reply : Reply) → (reply ≡ OutOfMemory → ⊥) → is_lost reply ≡ false
  not_lost OutOfMemory other = absurd (other refl)
  not_lost reply other = refl

  pub is_refused : (reply : Reply) → (reply ≡ Done → ⊥) → (reply ≡ OutOfMemory → ⊥) → IsAnswer o c reply left → (refusal o c ≡ Some reply) × (left ≡ o)
  unfolding step
  is_refused reply undone found h = by (refusal o c) (h ∙ ap (λ lost. step_or_lost lost o c) (not_lost reply found))
    where
      by : (why : Option Reply) → answer reply left ≡ refused_or_done why o (effect o c) → (why ≡ Some reply) × (left ≡ o)
      by None e = absurd (undone (ap (λ (a : Answer). a.reply) e))
      by (Some other) e = (sym (ap (λ (a : Answer). Some a.reply) e), ap (λ (a : Answer). a.office) e)

  -- a step that is done isn't refused, unless a refusal could say so
  pub not_refused : (refusal o c ≡ Some Done → ⊥) → step o c ≡ answer Done left → (refusal o c ≡ None) × (left ≡ effect o c)
  unfolding step
  not_refused never h = by (refusal o c) refl h
    where
      by : (why : Option Reply) → refusal o c ≡ why → refused_or_done why o (effect o c) ≡ answer Done left → (why ≡ None) × (left ≡ effect o c)
      by None is e = (refl, sym (ap (λ (a : Answer). a.office) e))
      by (Some other) is e = absurd (never (is ∙ ap (λ (a : Answer). Some a.reply) e))
