-- What calls print that are handed an office, or an office and members.
use Rattle.std.specs.Prelude.{◌≡◌, ℕ, List, Result, Ok, map}
use Rattle.std.specs.Borrow.{Bor, MutBor}
use Rattle.clr_workspaces.specs.Marks.{Name}
use Rattle.clr_steps.specs.Offices.{Office}
use Rattle.clr_desk_prints.specs.Members.{members_or_children}
use Rattle.clr_desk_prints.specs.Printing.{PrintoutOrFault, printed}
use Rattle.clr_desk_prints.specs.declared.prints.Print.{Print}

-- a call at an office may answer a print of this
pub record PrintsOffice {E : Type 0} (answers : MutBor Office → Result Print E → MutBor Office → Type 0) (o : Office) (out : PrintoutOrFault) : Type 0 where
  pub shown : MutBor Office
  pub shows : shown.now ≡ o
  pub print : Print
  pub left : MutBor Office
  pub met : answers shown (Ok print) left
  pub prints : out ≡ printed print

-- a call at an office and members may answer a print of this
pub record PrintsOf {E : Type 0} (answers : MutBor Office → Bor (List (Bor (List ℕ))) → Result Print E → MutBor Office → Type 0)
    (members : List Name) (o : Office) (out : PrintoutOrFault) : Type 0 where
  pub shown : MutBor Office
  pub shows : shown.now ≡ o
  pub given : Bor (List (Bor (List ℕ)))
  pub gives : map (λ name. name.now) given.now ≡ members
  pub print : Print
  pub left : MutBor Office
  pub met : answers shown given (Ok print) left
  pub prints : out ≡ printed print

-- the members are those that names ask for
abbrev pub PrintsAsked : {E : Type 0} → (MutBor Office → Bor (List (Bor (List ℕ))) → Result Print E → MutBor Office → Type 0)
    → Name → List Name → Office → PrintoutOrFault → Type 0
PrintsAsked answers root names o = PrintsOf answers (members_or_children o root names) o
