-- Lists, numbers and values that are written are read back.
use Rattle.std.proofs.Common.{◌≡◌, ℤ, pos, negsuc, Bool, true, List, [], ◌∷◌, map, Result, Ok, refl}
use Rattle.std.specs.List.{AllByRecursion, list_all}
use Rattle.std.proofs.lemmas.Bool.{and_parts}
use Rattle.serde_json.specs.Data.{Data}
use Rattle.serde_json.specs.View.{items_of}
use Rattle.clr_rows.specs.declared.rows.Value.{Value}
use Rattle.clr_rows.specs.declared.rows.Value.TheVariants.{Int, Words}
use Rattle.clr_rows.specs.Numbers.{is_i64}
use Rattle.clr_rows.specs.Schemas.{is_number}
use Rattle.clr_rule_text.specs.declared.faults.TextFault.{TextFault}
use Rattle.clr_rule_text.specs.Values.{value_of}
use Rattle.clr_rule_text.specs.Fields.{each, each_in, number_of}
use Rattle.clr_office_writing.specs.Values.{number_data, value_data}

-- what holds of each element is asked for its reading
pub each_read : {A : Type 0} (P : A → Type 0) (f : Data → Result A TextFault) (g : A → Data) → ((x : A) → P x → f (g x) ≡ Ok x) → (xs : List A)
    → AllByRecursion P xs → each f (items_of (map g xs)) ≡ Ok xs
unfolding each
each_read P f g one [] all = refl
each_read P f g one (x ∷ xs) all = rw (one x all.0, each_read P f g one xs all.1) refl

pub any_read : {A : Type 0} (f : Data → Result A TextFault) (g : A → Data) → ((x : A) → f (g x) ≡ Ok x) → (xs : List A) → each f (items_of (map g xs)) ≡ Ok xs
unfolding each
any_read f g one [] = refl
any_read f g one (x ∷ xs) = rw (one x, any_read f g one xs) refl

pub each_found : {X A : Type 0} (P : A → Type 0) (f : X → Result A TextFault) (g : A → X) → ((x : A) → P x → f (g x) ≡ Ok x) → (xs : List A)
    → AllByRecursion P xs → each_in f (map g xs) ≡ Ok xs
unfolding each_in
each_found P f g one [] all = refl
each_found P f g one (x ∷ xs) all = rw (one x all.0, each_found P f g one xs all.1) refl

-- a test that all pass
pub all_pass : {A : Type 0} (p : A → Bool) (xs : List A) → list_all p xs ≡ true → AllByRecursion (λ x. p x ≡ true) xs
all_pass p [] h = tt
all_pass p (x ∷ xs) h = let a = and_parts (p x) (list_all p xs) h in (a.0, all_pass p xs a.1)

pub all_mapped : {A B : Type 0} (P : A → Type 0) (Q : B → Type 0) (f : A → B) → ((x : A) → P x → Q (f x)) → (xs : List A) → AllByRecursion P xs
    → AllByRecursion Q (map f xs)
all_mapped P Q f one [] all = tt
all_mapped P Q f one (x ∷ xs) all = (one x all.0, all_mapped P Q f one xs all.1)

pub number_read : (z : ℤ) → is_i64 z ≡ true → number_of (number_data z) ≡ Ok z
number_read (pos n) e = rw e refl
number_read (negsuc n) e = refl

pub value_read : (v : Value) → is_number v ≡ true → value_of (value_data v) ≡ Ok v
value_read (Int n) e = rw (number_read n e) refl
value_read (Words text) e = refl
