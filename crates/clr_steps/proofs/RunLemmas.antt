-- Answers one after another are a run.
use Rattle.std.proofs.Common.{◌≡◌, ℕ, suc, ◌+◌, List, [], ◌∷◌, refl, sym, ap, subst, ◌∙◌, arith}
use Rattle.clr_steps.specs.declared.commands.Reply.{Reply}
use Rattle.clr_steps.specs.Offices.{Office}
use Rattle.clr_steps.specs.Steps.{Answer, answer, step_or_lost, is_lost, IsAnswer, Run, run, lost_in}
use Rattle.clr_steps.specs.Laws.{MoreLaw, RunLaw}

-- what is lost after the first is lost in the rest
pub lost_later : (reply : Reply) (replies : List Reply) (k : ℕ) → lost_in (reply ∷ replies) (k + 1) ≡ lost_in replies k
lost_later reply replies k = let e : k + 1 ≡ suc k = omega arith in ap (lost_in (reply ∷ replies)) e

pub run_law : RunLaw
run_law o [] [] left e = ap (λ (p : Office). let r : Run = record { replies = []; office = p } in r) (sym e)
run_law o [] (reply ∷ replies) left e = absurd e
run_law o (c ∷ cs) [] left e = absurd e
run_law o (c ∷ cs) (reply ∷ replies) left e =
    let first : answer reply e.0 ≡ step_or_lost (is_lost reply) o c = e.1 in
    let same : (λ k. lost_in (reply ∷ replies) (k + 1)) ≡ lost_in replies = λ i k. lost_later reply replies k i in
    ap (λ (a : Answer). let rest = run a.office cs (λ k. lost_in (reply ∷ replies) (k + 1)) in
    let r : Run = record { replies = a.reply ∷ rest.replies; office = rest.office } in r) (sym first)
    ∙ ap (λ lost. let rest = run e.0 cs lost in let r : Run = record { replies = reply ∷ rest.replies; office = rest.office } in r) same
    ∙ ap (λ (rest : Run). let r : Run = record { replies = reply ∷ rest.replies; office = rest.office } in r) (run_law e.0 cs replies left e.2)

pub more_law : MoreLaw
more_law o [] [] now c reply left h e = (left, subst (λ p. IsAnswer p c reply left) h e, refl)
more_law o [] (r ∷ rs) now c reply left h e = absurd h
more_law o (d ∷ cs) [] now c reply left h e = absurd h
more_law o (d ∷ cs) (r ∷ rs) now c reply left h e = (h.0, h.1, more_law h.0 cs rs now c reply left h.2 e)
