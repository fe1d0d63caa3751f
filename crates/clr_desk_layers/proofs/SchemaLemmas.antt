-- Tables that are the same in two schemas, and the first that isn't.
use Rattle.std.proofs.Common.{◌≡◌, ◌≢◌, ◌≤◌, ◌<◌, ◌+◌, ℕ, zero, suc, List, [], ◌∷◌, Option, Some, None, get_or, length, slice_get, take, ap, arith, refl, sym, ◌∙◌}
use Rattle.std.proofs.lemmas.List.{take_all, take_more_same}
use Rattle.std.proofs.lemmas.Option.{get_or_from_slice_get, none-some, slice_get_within}
use Rattle.clr_rows.specs.declared.tables.TableDef.{TableDef}
use Rattle.clr_desk_layers.specs.Since.{IsFirstOther, name_of_other}

-- a list has no more elements than the first number at which it has none
none_past : {A : Type 0} (xs : List A) (n : ℕ) → slice_get xs n ≡ None → length xs ≤ n
none_past [] n e = omega arith
none_past (x ∷ xs) zero e = absurd (none-some x (sym e))
none_past (x ∷ xs) (suc n) e = omega (arith, none_past xs n e)

-- the element at a number
pub there : {A : Type 0} (xs : List A) (n : ℕ) (x : A) → n < length xs → x ≡ get_or xs n x → slice_get xs n ≡ Some x
there [] n x lt is = absurd (omega (arith, lt))
there (y ∷ xs) zero x lt is = ap Some (sym is)
there (y ∷ xs) (suc n) x lt is = there xs n x (omega (arith, lt)) is

module _ (tables others : List TableDef) where
  pub one_more_same : (i : ℕ) (table : TableDef) → i < length tables → table ≡ get_or tables i table → slice_get others i ≡ Some table
      → take i tables ≡ take i others → take (i + 1) tables ≡ take (i + 1) others
  one_more_same i table lt is found same =
      take_more_same tables others i table lt (slice_get_within others i table found) same (sym is ∙ sym (get_or_from_slice_get others i table table found))

  pub all_same : take (length tables) tables ≡ take (length tables) others → slice_get others (length tables) ≡ None → tables ≡ others
  all_same same none =
      sym (take_all (length tables) tables (omega arith)) ∙ same ∙ take_all (length tables) others (none_past others (length tables) none)

  pub other_at : (i : ℕ) (table : TableDef) → i < length tables → table ≡ get_or tables i table → take i tables ≡ take i others
      → (slice_get others i ≡ Some table → ⊥) → IsFirstOther tables others table.name
  other_at i table lt is same differs = record {
    at = i;
    before = same;
    other = λ e. differs (sym e ∙ there tables i table lt is);
    named = ap (λ (found : Option TableDef). name_of_other found (slice_get others i)) (sym (there tables i table lt is));
  }

  pub other_behind : (table : TableDef) → take (length tables) tables ≡ take (length tables) others → slice_get others (length tables) ≡ Some table
      → slice_get tables (length tables) ≡ None → IsFirstOther tables others table.name
  other_behind table same found none = record {
    at = length tables;
    before = same;
    other = λ e. none-some table (sym none ∙ e ∙ found);
    named = (λ i. name_of_other (sym none i) (sym found i));
  }

  pub none_at_end : {A : Type 0} (xs : List A) → slice_get xs (length xs) ≡ None
  none_at_end [] = refl
  none_at_end (x ∷ xs) = none_at_end xs
