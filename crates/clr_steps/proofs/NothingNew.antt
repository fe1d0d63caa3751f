-- What commands leave breaks nothing that wasn't broken before.
use Rattle.std.proofs.Common.{◌≡◌, ◌∙◌, Bool, true, false, List, [], ◌∷◌, refl, sym, ap, subst}
use Rattle.clr_rows.specs.Contents.{row_at}
use Rattle.clr_rows.specs.Held.{Held}
use Rattle.clr_rules.specs.declared.needs.Ask.{Ask}
use Rattle.clr_rules.specs.declared.rules.Rule.{Rule}
use Rattle.clr_rules.specs.Needs.{BreaksNoMore, IsKept}
use Rattle.clr_workspaces.specs.Marks.{Name}
use Rattle.clr_steps.specs.declared.commands.Command.{Command}
use Rattle.clr_steps.specs.declared.commands.Reply.{Reply}
use Rattle.clr_steps.specs.Laws.{BreaksNothingNew, NothingNewLaw}
use Rattle.clr_steps.specs.Offices.{Office, content_of, is_kept}
use Rattle.clr_steps.specs.Steps.{IsAnswer, is_lost, step, step_or_lost}
use Rattle.clr_steps.proofs.LiveLemmas.{live_law}
use Rattle.clr_steps.proofs.RuleLemmas.{kept_law, rules_law}
use Rattle.clr_steps.proofs.SchemaLemmas.{schema_law}

unchanged : (o : Office) → BreaksNothingNew o o
unchanged o = record { book = refl; rules = λ held. held; live = λ ask s t kept. kept; kept = λ name is ask s t all. all name is }

after_step : (o : Office) (c : Command) → BreaksNothingNew o (step o c).office
after_step o c = record { book = (schema_law o c).1; rules = rules_law o c; live = live_law o c; kept = kept_law o c }

after_answer : (o : Office) (c : Command) (reply : Reply) (left : Office) → IsAnswer o c reply left → BreaksNothingNew o left
after_answer o c reply left is = subst (BreaksNothingNew o) (sym (ap (λ a. a.office) is)) (by (is_lost reply))
  where
    by : (b : Bool) → BreaksNothingNew o (step_or_lost b o c).office
    by true = unchanged o
    by false = after_step o c

one_after_another : (a b c : Office) → BreaksNothingNew a b → BreaksNothingNew b c → BreaksNothingNew a c
one_after_another a b c first next = record {
  book = next.book ∙ first.book;
  rules = λ held. next.rules (first.rules held);
  live = λ ask s t kept. subst (λ (book : List Rule). BreaksNoMore book (row_at b.live) (row_at c.live)) first.book next.live ask s t (first.live ask s t kept);
  kept = λ name is ask s t all. by_book first.book name is ask s t (λ other kept. first.kept other kept ask s t all);
}
  where
    by_book : {book : List Rule} → b.book ≡ book → (name : Name) → is_kept c name ≡ true → (ask : Ask) (s : Held) (t : _)
        → ((other : Name) → is_kept b other ≡ true → IsKept book (row_at (content_of b other)) ask s t)
        → IsKept book (row_at (content_of c name)) ask s t
    by_book same name is ask s t all = subst (λ (book : List Rule). IsKept book (row_at (content_of c name)) ask s t) same
        (next.kept name is ask s t (λ other kept. subst (λ (book : List Rule). IsKept book (row_at (content_of b other)) ask s t) (sym same) (all other kept)))

pub nothing_new_law : NothingNewLaw
nothing_new_law o [] [] left is = subst (BreaksNothingNew o) (sym is) (unchanged o)
nothing_new_law o [] (reply ∷ replies) left h = absurd h
nothing_new_law o (c ∷ cs) [] left h = absurd h
nothing_new_law o (c ∷ cs) (reply ∷ replies) left (next, is, rest) =
    one_after_another o next left (after_answer o c reply next is) (nothing_new_law next cs replies left rest)
