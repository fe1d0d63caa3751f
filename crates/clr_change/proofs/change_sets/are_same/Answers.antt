use Rattle.std.proofs.Common.{◌≡◌, Bool, true, false, not, Bor, Option, Some, None, is_some, IsTrue, ◌↔◌, refl, sym, ap, ◌∙◌}
use Rattle.std.specs.Option.{option_copied}
use Rattle.std.proofs.lemmas.Bool.Decides.{same_from_decides}
use Rattle.clr_rows.specs.declared.rows.Row.{Row}
use Rattle.clr_rows.specs.Same.{same}
use Rattle.clr_rows.proofs.SameLemmas.{same_decides}
use Rattle.std.proofs.lemmas.Option.{same_Some}
use Rattle.clr_change.proofs.change_sets.are_same.Goals as goal

same_rows : (r : Bool) (a b : Row) → (IsTrue r ↔ (a ≡ b)) → r ≡ same (Some a) (Some b)
same_rows r a b h = same_from_decides r (same (Some a) (Some b)) (λ e. ap Some (h.0 e), λ e. h.1 (same_Some a b e)) (same_decides (Some a) (Some b))

same_as_none : (r : Bool) (b : Option (Bor Row)) → is_some b ≡ not r → r ≡ same None (option_copied b)
unfolding same
same_as_none true None e = refl
same_as_none true (Some b) e = e
same_as_none false None e = e
same_as_none false (Some b) e = refl

pub returns-in-Some-b : goal.returns-in-Some-b
returns-in-Some-b c =
    same_rows c.same.result c.in-Some.a.now c.in-Some-b.b.now c.same.ensures
    ∙ (λ i. same (option_copied (sym c.in-Some.is i)) (option_copied (sym c.in-Some-b.is i)))

pub returns-in-None-b : goal.returns-in-None-b
unfolding same
returns-in-None-b c = λ i. same (option_copied (sym c.in-Some.is i)) (option_copied (sym c.in-None-b.is i))

pub returns-in-None : goal.returns-in-None
returns-in-None c = same_as_none c.is_none.result c.args.b c.is_none.ensures ∙ (λ i. same (option_copied (sym c.in-None.is i)) (option_copied c.args.b))
