-- Designs that are made one after another, with one more behind them.
use Rattle.std.proofs.Common.{◌≡◌, ◌∙◌, ◌∷◌, ◌++◌, ◌+◌, ◌<◌, ◌≤◌, [], ℕ, zero, suc, Bool, List, Some, get_or, length, slice_get, take}
use Rattle.std.proofs.Common.{ap, append-nil, append_assoc, arith, refl, subst, sym}
use Rattle.std.proofs.lemmas.List.{take_all, take_more}
use Rattle.clr_rows.specs.Contents.{Content}
use Rattle.clr_steps.specs.Offices.{Office}
use Rattle.clr_layer_changes.specs.declared.options.LayerOptions.{LayerOptions}
use Rattle.clr_designs.specs.Designs.{with_design}
use Rattle.clr_desk_prints.specs.Printing.{PrintoutOrFault}
use Rattle.clr_desk_designs.specs.InTurn.{AreMade, IsFirstRefused, IsMakeable, IsRefusal, counts_text, with_name}
use Rattle.clr_design_folders.specs.declared.layered_designs.LayeredDesign.{LayeredDesign}

-- the element at a number
there : {A : Type 0} (xs : List A) (n : ℕ) (x : A) → n < length xs → x ≡ get_or xs n x → slice_get xs n ≡ Some x
there [] n x lt is = absurd (omega (arith, lt))
there (y ∷ xs) zero x lt is = ap Some (sym is)
there (y ∷ xs) (suc n) x lt is = there xs n x (omega (arith, lt)) is

module _ (taken : Content) (options : LayerOptions) (may_remove : Bool) where
  abbrev Made : Office → List LayeredDesign → Office → List ℕ → Type 0
  Made o designs left notes = AreMade taken options may_remove o designs left notes

  abbrev Makeable : Office → LayeredDesign → Content → Type 0
  Makeable o design content = IsMakeable taken options may_remove o design content

  pub none_made : (o : Office) → Made o [] o []
  none_made o = (refl, refl)

  pub one_more_made : (o : Office) (designs : List LayeredDesign) (mid : Office) (notes : List ℕ) (design : LayeredDesign) (content : Content)
      → Made o designs mid notes → Makeable mid design content
      → Made o (designs ++ design ∷ []) (with_design mid design.name content) (notes ++ counts_text mid design content)
  one_more_made o [] mid notes design content (same, none) able = (
    content,
    [],
    subst (λ (p : Office). Makeable p design content) same able,
    (ap (λ (p : Office). with_design p design.name content) same, refl),
    (λ i. none i ++ counts_text (same i) design content) ∙ sym (append-nil (counts_text o design content)),
  )
  one_more_made o (first ∷ designs) mid notes design content (seen, rest, able_first, made, is) able = (
    seen,
    rest ++ counts_text mid design content,
    able_first,
    one_more_made (with_design o first.name seen) designs mid rest design content made able,
    ap (λ (lines : List ℕ). lines ++ counts_text mid design content) is ∙ append_assoc (counts_text o first seen) rest (counts_text mid design content),
  )

  -- designs change no table
  pub same_tables : (o : Office) (designs : List LayeredDesign) (left : Office) (notes : List ℕ) → Made o designs left notes → left.schema ≡ o.schema
  same_tables o [] left notes (same, none) = ap (λ (p : Office). p.schema) same
  same_tables o (design ∷ designs) left notes (content, rest, able, made, is) = same_tables (with_design o design.name content) designs left rest made

  module _ (o : Office) (designs : List LayeredDesign) (i : ℕ) where
    pub next_made : (mid left : Office) (notes note all : List ℕ) (design : LayeredDesign) (content : Content) → i < length designs
        → design ≡ get_or designs i design → Made o (take i designs) mid notes → Makeable mid design content → left ≡ with_design mid design.name content
        → note ≡ counts_text mid design content → all ≡ notes ++ note → Made o (take (i + 1) designs) left all
    next_made mid left notes note all design content lt is made able left_is note_is all_is =
        let more = one_more_made o (take i designs) mid notes design content made able in
        let designs_are : take i designs ++ design ∷ [] ≡ take (i + 1) designs =
        ap (λ (d : LayeredDesign). take i designs ++ d ∷ []) is ∙ sym (take_more designs i design lt) in
        let lines_are : notes ++ counts_text mid design content ≡ all = ap (λ (n : List ℕ). notes ++ n) (sym note_is) ∙ sym all_is in
        subst (λ (p : Office). Made o (take (i + 1) designs) p all) (sym left_is)
        (subst (λ (ns : List ℕ). Made o (take (i + 1) designs) (with_design mid design.name content) ns) lines_are
        (subst (λ (ds : List LayeredDesign). Made o ds (with_design mid design.name content) (notes ++ counts_text mid design content)) designs_are more))

    pub first_refused : (mid : Office) (notes : List ℕ) (design : LayeredDesign) (bare print : PrintoutOrFault) → i < length designs
        → design ≡ get_or designs i design → Made o (take i designs) mid notes → IsRefusal taken options may_remove mid design bare
        → print ≡ with_name design.name bare → IsFirstRefused taken options may_remove o designs print
    first_refused mid notes design bare print lt is made refused named = record {
      at = i;
      design = design;
      there = there designs i design lt is;
      before = mid;
      notes = notes;
      made = made;
      bare = bare;
      refused = refused;
      named = named;
    }

    pub all_made : (left : Office) (notes : List ℕ) → length designs ≤ i → Made o (take i designs) left notes → Made o designs left notes
    all_made left notes le made = subst (λ (ds : List LayeredDesign). Made o ds left notes) (take_all i designs le) made
