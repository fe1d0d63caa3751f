-- The change sets at some positions, one after another.
use Rattle.std.proofs.Common.{◌≡◌, ◌∙◌, ◌<◌, ◌≤◌, ◌+◌, ℕ, List, [], ◌∷◌, ◌++◌, Bor, Option, Some, None, get_or, length, sym, ap, arith, take}
use Rattle.std.specs.List.{cons_option, slice_index_or}
use Rattle.std.proofs.lemmas.List.{map-append, take_all, take_more}
use Rattle.std.proofs.lemmas.List.Elements.{filter_map-append}
use Rattle.std.specs.Prelude.{slice_get}
use Rattle.clr_rows.specs.Contents.{Changes}
use Rattle.clr_needs.specs.Parts.{sets_at}
use Rattle.clr_row_versions.proofs.Searches.{set_at, sets_of}

module _ (refs : List (Bor Changes)) (positions : List ℕ) (i : ℕ) where
  pub one_more_set : (ref : Bor Changes) (old new : List (Bor Changes)) → i < length positions → get_or positions i 0 < length refs → ref
      ≡ slice_index_or refs (get_or positions i 0) ref → new ≡ old ++ ref ∷ []
      → sets_of old ≡ sets_at (sets_of refs) (take i positions)
      → sets_of new ≡ sets_at (sets_of refs) (take (i + 1) positions)
  one_more_set ref old new less within read is so_far =
      ap sets_of is ∙ map-append (λ s. s.now) old (ref ∷ []) ∙ (λ j. so_far j ++ ref.now ∷ [])
      ∙ sym (ap (sets_at (sets_of refs)) (take_more positions i 0 less)
      ∙ filter_map-append (slice_get (sets_of refs)) (take i positions) (get_or positions i 0 ∷ [])
      ∙ ap (λ o. sets_at (sets_of refs) (take i positions) ++ cons_option o []) (set_at refs (get_or positions i 0) ref within read))

  pub all_sets : (list : List (Bor Changes)) → length positions ≤ i → sets_of list ≡ sets_at (sets_of refs) (take i positions) → sets_of list
      ≡ sets_at (sets_of refs) positions
  all_sets list past so_far = so_far ∙ ap (sets_at (sets_of refs)) (take_all i positions past)

-- the sets at some positions are no more than the positions
few_of : (o : Option Changes) (sets : List Changes) (n : ℕ) → length sets ≤ n → length (cons_option o sets) ≤ n + 1
few_of None sets n few = omega (arith, few)
few_of (Some s) sets n few = omega (arith, few)

pub few_sets : (sets : List Changes) (positions : List ℕ) → length (sets_at sets positions) ≤ length positions
few_sets sets [] = omega arith
few_sets sets (k ∷ ks) = let few = few_of (slice_get sets k) (sets_at sets ks) (length ks) (few_sets sets ks) in omega (arith, few)
