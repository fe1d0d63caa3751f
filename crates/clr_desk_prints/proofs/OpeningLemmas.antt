-- What is answered over the office of a text, by what each call answers that prints it.
use Rattle.std.proofs.Common.{◌≡◌, ◌∷◌, ℕ, IfOk, List, Bor, MutBor, Result, Ok, Err, map, refl, subst, sym}
use Rattle.clr_workspaces.specs.Marks.{Name}
use Rattle.clr_steps.specs.Offices.{Office}
use Rattle.clr_office.specs.Drafts.{Opened}
use Rattle.clr_process_io.specs.declared.faults.RunFault.{RunFault}
use Rattle.clr_desk_prints.specs.Calls.{PrintsAsked, PrintsOf, PrintsOffice}
use Rattle.clr_desk_prints.specs.Members.{members_or_children}
use Rattle.clr_desk_prints.specs.NameHints.{IsHinted}
use Rattle.clr_desk_prints.specs.Printing.{IsMadePrintout, IsPrintoutIn, PrintoutOrFault, of_fault, of_office, printed}
use Rattle.clr_desk_prints.specs.declared.prints.Print.{Print}
use Rattle.clr_desk_prints.proofs.Made.{made_as}

-- what leads to another print leads there behind a text too
module _ (P Q : Office → PrintoutOrFault → Type 0) (leads : (o : Office) (out : PrintoutOrFault) → P o out → Q o out) where
  opened : (names : List Name) (given : Opened) (out : PrintoutOrFault) → IsPrintoutIn (IsHinted P names) given out
      → IsPrintoutIn (IsHinted Q names) given out
  opened names given out (of_office o meant (bare, is, hints)) = of_office o meant (bare, leads o bare is, hints)
  opened names given out (of_fault lines are is) = of_fault lines are is

  answered : (names : List Name) (given : Opened) (result : Result Print RunFault)
      → IsMadePrintout (IsPrintoutIn (IsHinted P names) given) result → IsMadePrintout (IsPrintoutIn (IsHinted Q names) given) result
  answered names given = made_as (IsPrintoutIn (IsHinted P names) given) (IsPrintoutIn (IsHinted Q names) given) (opened names given)

-- each call prints what is to be printed of the office
pub office_answered : {E : Type 0} (answers : MutBor Office → Result Print E → MutBor Office → Type 0) (P : Office → PrintoutOrFault → Type 0)
    (names : List Name) (given : Opened) (result : Result Print RunFault)
    → IsMadePrintout (IsPrintoutIn (IsHinted (PrintsOffice answers) names) given) result
    → ((shown : MutBor Office) (r : Result Print E) (left : MutBor Office) → answers shown r left → IfOk r (λ p. P shown.now (printed p)))
    → IsMadePrintout (IsPrintoutIn (IsHinted P names) given) result
office_answered {E} answers P names given result is meets = answered (PrintsOffice answers) P leads names given result is
  where
    leads : (o : Office) (out : PrintoutOrFault) → PrintsOffice answers o out → P o out
    leads o out h = subst (P o) (sym h.prints) (subst (λ (x : Office). P x (printed h.print)) h.shows (meets h.shown (Ok h.print) h.left h.met))

-- each call prints what is to be printed of the office and the members
pub members_answered : {E : Type 0} (answers : MutBor Office → Bor (List (Bor (List ℕ))) → Result Print E → MutBor Office → Type 0)
    (P : List Name → Office → PrintoutOrFault → Type 0) (root : Name) (names : List Name) (given : Opened) (result : Result Print RunFault)
    → IsMadePrintout (IsPrintoutIn (IsHinted (PrintsAsked answers root names) (root ∷ names)) given) result
    → ((shown : MutBor Office) (members : Bor (List (Bor (List ℕ)))) (r : Result Print E) (left : MutBor Office) → answers shown members r left
    → IfOk r (λ p. P (map (λ name. name.now) members.now) shown.now (printed p)))
    → IsMadePrintout (IsPrintoutIn (IsHinted (λ o. P (members_or_children o root names) o) (root ∷ names)) given) result
members_answered {E} answers P root names given result is meets =
    answered (PrintsAsked answers root names) (λ o. P (members_or_children o root names) o) (λ o out. leads (members_or_children o root names) o out)
    (root ∷ names) given result is
  where
    leads : (members : List Name) (o : Office) (out : PrintoutOrFault) → PrintsOf answers members o out → P members o out
    leads members o out h =
        subst (P members o) (sym h.prints) (subst (λ (ms : List Name). P ms o (printed h.print)) h.gives
        (subst (λ (x : Office). P (map (λ name. name.now) h.given.now) x (printed h.print)) h.shows (meets h.shown h.given (Ok h.print) h.left h.met)))

-- what a call answers, if it is Ok, is a print of it
pub prints_by : {E : Type 0} (answers : MutBor Office → Bor (List (Bor (List ℕ))) → Result Print E → MutBor Office → Type 0) (members : List Name)
    (shown : MutBor Office) (given : Bor (List (Bor (List ℕ)))) (r : Result Print E) (left : MutBor Office) → answers shown given r left
    → map (λ name. name.now) given.now ≡ members → IfOk r (λ p. PrintsOf answers members shown.now (printed p))
prints_by answers members shown given (Ok p) left met gives =
    record { shown = shown; shows = refl; given = given; gives = gives; print = p; left = left; met = met; prints = refl }
prints_by answers members shown given (Err e) left met gives = tt
