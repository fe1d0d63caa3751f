-- What adding a clash leaves, told by lists of members and needs.
use Rattle.std.proofs.Common.{◌≡◌, ◌∙◌, ◌||◌, ℕ, Bool, true, false, cond, not, List, [], ◌∷◌, ◌++◌, map, refl, sym, ap}
use Rattle.std.proofs.lemmas.List.{map-append}
use Rattle.std.specs.List.{filter, list_any}
use Rattle.clr_clashes.specs.declared.listing.Clash.{Clash}
use Rattle.clr_clashes.specs.Keeping.{is_all_in, with_clash}
use Rattle.clr_clashes.specs.ListedClashes.{ListedClash, listed_clash_of}

module _ {X Y : Type 0} (f : X → Y) (p : Y → Bool) where
  any_mapped : (xs : List X) → list_any p (map f xs) ≡ list_any (λ x. p (f x)) xs
  any_mapped [] = refl
  any_mapped (x ∷ xs) = ap (λ b. p (f x) || b) (any_mapped xs)

  filter_mapped : (xs : List X) → filter p (map f xs) ≡ map f (filter (λ x. p (f x)) xs)
  filter_mapped [] = refl
  filter_mapped (x ∷ xs) = by (p (f x)) (filter p (map f xs)) (filter (λ y. p (f y)) xs) (filter_mapped xs)
    where
      by : (b : Bool) (ys : List Y) (zs : List X) → ys ≡ map f zs → cond b (f x ∷ ys) ys ≡ map f (cond b (x ∷ zs) zs)
      by true ys zs e = ap (λ ws. f x ∷ ws) e
      by false ys zs e = e

-- whether one of some clashes is within some members
abbrev pub hold_one : List Clash → List ℕ → Bool
hold_one ks members = list_any (λ (j : Clash). is_all_in j.members.items members) ks

-- whether a clash doesn't hold some members
abbrev pub stays : List ℕ → ListedClash → Bool
stays members j = not (is_all_in members j.members)

pub told : (r b : Bool) (ks read : List Clash) (members listed : List ℕ) → r ≡ hold_one read listed → read ≡ ks → listed ≡ members → r ≡ b → hold_one ks members
    ≡ b
told r b ks read members listed is same same_members e = (λ i. hold_one (sym same i) (sym same_members i)) ∙ sym is ∙ e

module _ (ks : List Clash) (k : Clash) where
  abbrev members : List ℕ
  members = k.members.items

  added_by : (b : Bool) → hold_one ks members ≡ b → with_clash (map listed_clash_of ks) (listed_clash_of k)
      ≡ cond b (map listed_clash_of ks) (filter (stays members) (map listed_clash_of ks) ++ listed_clash_of k ∷ [])
  added_by b e =
      ap (λ t. cond t (map listed_clash_of ks) (filter (stays members) (map listed_clash_of ks) ++ listed_clash_of k ∷ []))
      (any_mapped listed_clash_of (λ (j : ListedClash). is_all_in j.members members) ks ∙ e)

  pub not_added : hold_one ks members ≡ true → map listed_clash_of ks ≡ with_clash (map listed_clash_of ks) (listed_clash_of k)
  not_added e = sym (added_by true e)

  pub added : (kept new : List Clash) → hold_one ks members ≡ false → kept ≡ filter (λ j. stays members (listed_clash_of j)) ks → new ≡ kept ++ k ∷ []
      → map listed_clash_of new ≡ with_clash (map listed_clash_of ks) (listed_clash_of k)
  added kept new e is put =
      ap (map listed_clash_of) put ∙ map-append listed_clash_of kept (k ∷ [])
      ∙ ap (λ js. js ++ listed_clash_of k ∷ []) (ap (map listed_clash_of) is ∙ sym (filter_mapped listed_clash_of (stays members) ks))
      ∙ sym (added_by false e)
