-- Lists of names as sets.
use Rattle.std.proofs.Common.{◌≡◌, Bool, true, false, ◌||◌, List, [], ◌∷◌, ◌++◌, refl, sym, ap, ◌∙◌}
use Rattle.std.proofs.Math.Bool.{or-false, or_assoc}
use Rattle.clr_workspaces.specs.Marks.{Name}
use Rattle.clr_needs.specs.Settings.{has as has_by}
use Rattle.clr_steps.specs.Names.{same_name, has}

-- two definitions of membership agree
pub has_is : (names : List Name) (name : Name) → has_by same_name names name ≡ has names name
has_is [] name = refl
has_is (n ∷ ns) name = ap (λ b. same_name n name || b) (has_is ns name)

or_turned : (a b : Bool) → a || b ≡ b || a
or_turned true true = refl
or_turned true false = refl
or_turned false true = refl
or_turned false false = refl

pub has_last : (names : List Name) (n name : Name) → has (names ++ n ∷ []) name ≡ has names name || same_name n name
has_last [] n name = or-false (same_name n name)
has_last (m ∷ ms) n name = ap (λ b. same_name m name || b) (has_last ms n name) ∙ sym (or_assoc (same_name m name) (has ms name) (same_name n name))

-- one more name, wherever it stands
pub has_moved : (names : List Name) (n name : Name) → has (n ∷ names) name ≡ has (names ++ n ∷ []) name
has_moved names n name = or_turned (same_name n name) (has names name) ∙ sym (has_last names n name)
