-- The known needs of rules, read rule by rule: those read before, and then the others.
use Rattle.std.proofs.Common.{◌≡◌, ℕ, zero, suc, ◌+◌, List, [], ◌∷◌, ◌++◌, length, drop, Some, Result, Ok, Err, refl, sym, ap, ◌∙◌, add-one, append_assoc}
use Rattle.std.specs.Prelude.{slice_get}
use Rattle.std.proofs.lemmas.List.{append-nil}
use Rattle.std.proofs.lemmas.Option.{none-some, same_Some}
use Rattle.clr_rows.specs.declared.tables.TableDef.{TableDef}
use Rattle.clr_rules.specs.declared.needs.Broken.{Broken}
use Rattle.clr_rules.specs.declared.rules.Rule.{Rule}
use Rattle.clr_readings.specs.Readings.{◌>>=◌, Fails, Gives}
use Rattle.clr_readings.proofs.FaultTurns.{fails_with, same_fault}
use Rattle.clr_readings.proofs.Fronts.{with_front}
use Rattle.clr_rule_text.specs.declared.faults.TextFault.{TextFault}
use Rattle.clr_rule_text.specs.declared.need_names.NeedName.{NeedName}
use Rattle.clr_rule_text.specs.Fields.{each_in, text_lacks_memory}
use Rattle.clr_rule_text.specs.Known.{known_need, known_needs}

regroup_lists : (front : List Broken) (one more : Result (List Broken) TextFault) → with_front front (one >>= λ needs. more >>= λ others. Ok (needs ++ others))
    ≡ one >>= λ needs. with_front (front ++ needs) more
regroup_lists front (Ok needs) (Ok others) = ap (λ bs. Ok bs) (sym (append_assoc front needs others))
regroup_lists front (Ok needs) (Err e) = refl
regroup_lists front (Err e) more = refl

dropped : {A : Type 0} (xs : List A) (n : ℕ) (x : A) → slice_get xs n ≡ Some x → drop n xs ≡ x ∷ drop (suc n) xs
dropped [] n x is = absurd (none-some x is)
dropped (y ∷ ys) zero x is = ap (λ z. z ∷ ys) (same_Some y x is)
dropped (y ∷ ys) (suc n) x is = dropped ys n x is

pub dropped_at : {A : Type 0} (xs : List A) (n : ℕ) (x : A) → slice_get xs n ≡ Some x → drop n xs ≡ x ∷ drop (n + 1) xs
dropped_at xs n x is = rw (add-one n) (dropped xs n x is)

module _ (tables : List TableDef) (n : ℕ) (front : List Broken) (rule : Rule) (rules : List Rule) (names : List NeedName) (others : List (List NeedName)) where
  -- the needs of the next rule are read
  begins : with_front front (known_needs tables n (rule ∷ rules) (names ∷ others))
      ≡ each_in (known_need tables n rule) names >>= λ needs. with_front (front ++ needs) (known_needs tables (n + 1) rules others)
  unfolding known_needs
  begins =
      rw (add-one n) (regroup_lists front (each_in (known_need tables n rule) names) (known_needs tables (suc n) rules others))

  pub goes_on : (needs : List Broken) (whole : Result (List Broken) TextFault) → each_in (known_need tables n rule) names ≡ Ok needs
      → with_front front (known_needs tables n (rule ∷ rules) (names ∷ others)) ≡ whole
      → with_front (front ++ needs) (known_needs tables (n + 1) rules others) ≡ whole
  goes_on needs whole was so_far = sym (begins ∙ rw was refl) ∙ so_far

  pub ends : (e : TextFault) (whole : Result (List Broken) TextFault) → Fails text_lacks_memory e (each_in (known_need tables n rule) names)
      → with_front front (known_needs tables n (rule ∷ rules) (names ∷ others)) ≡ whole → Fails text_lacks_memory e whole
  ends e whole failed so_far = fails_with text_lacks_memory e (each_in (known_need tables n rule) names) _ whole failed (sym begins ∙ so_far)

none_left : (tables : List TableDef) (n : ℕ) (rules : List Rule) → known_needs tables n rules [] ≡ Ok []
unfolding known_needs
none_left tables n [] = refl
none_left tables n (rule ∷ rules) = refl

pub is_done : (tables : List TableDef) (n : ℕ) (front : List Broken) (rules : List Rule) (whole : Result (List Broken) TextFault)
    → with_front front (known_needs tables n rules []) ≡ whole → whole ≡ Ok front
is_done tables n front rules whole so_far =
    sym so_far ∙ ap (λ r. with_front front r) (none_left tables n rules) ∙ ap (λ bs. Ok bs) (append-nil front)

-- as many are read as there are
pub each_in_length : {X A : Type 0} (f : X → Result A TextFault) (xs : List X) (ys : List A) → each_in f xs ≡ Ok ys → length ys ≡ length xs
unfolding each_in
each_in_length f [] ys e = let same : [] ≡ ys = cc in ap length (sym same)
each_in_length {X} {A} f (x ∷ xs) ys e = by (f x) (each_in f xs) (λ zs h. each_in_length f xs zs h) e
  where
    by : (one : Result A TextFault) (others : Result (List A) TextFault) → ((zs : List A) → others ≡ Ok zs → length zs ≡ length xs)
        → one >>= (λ first. others >>= λ more. Ok (first ∷ more)) ≡ Ok ys → length ys ≡ length (x ∷ xs)
    by (Ok y) (Ok zs) shorter h = let same : y ∷ zs ≡ ys = cc in ap length (sym same) ∙ ap suc (shorter zs refl)
    by (Ok y) (Err fault) shorter h = absurd cc
    by (Err fault) others shorter h = absurd cc

-- what is answered is just what is read
pub given_exactly : {A : Type 0} (result read : Result A TextFault) → result ≡ read → Gives text_lacks_memory (λ x. x) result read
given_exactly (Ok x) read is = sym is
given_exactly (Err e) read is = same_fault text_lacks_memory e read (sym is)
