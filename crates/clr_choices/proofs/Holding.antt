-- Members by their positions among names, and the first need of which positions hold all members.
use Rattle.std.proofs.Common.{◌≡◌, ◌∙◌, ◌<◌, ◌≤◌, ◌+◌, ◌⊎◌, ℕ, suc, Bool, true, false, List, [], ◌∷◌, ◌++◌, inl, inr, Contains, Option, Some, None}
use Rattle.std.proofs.Common.{get_or, length, map, take, refl, sym, ap, ap₂, subst, arith}
use Rattle.std.specs.Prelude.{option_to_list, slice_get}
use Rattle.std.specs.List.{filter_map}
use Rattle.std.specs.List.Sorted.{IsStrictlySortedBy}
use Rattle.std.specs.Option.{option_map_or}
use Rattle.std.specs.Ordering.{nat_cmp}
use Rattle.std.specs.declared.cmp.Ordering.TheVariants.{Less}
use Rattle.std.proofs.lemmas.Bool.{false≢true, true≢false}
use Rattle.std.proofs.lemmas.List.{length-append, length-map, map-append, take_all, take_more}
use Rattle.std.proofs.lemmas.List.Elements.{Contains-append_cases}
use Rattle.std.proofs.lemmas.Option.{slice_get_read, slice_get_within, get_or_from_slice_get}
use Rattle.clr_rules.proofs.AskLemmas.{less_number}
use Rattle.clr_rules.proofs.Elements.{Among, among, contained, not_both, not_itself, rising_joined}
use Rattle.clr_workspaces.specs.Marks.{Name}
use Rattle.clr_needs.specs.Orders.{need_cmp}
use Rattle.clr_needs.proofs.NeedOrder.{need_total}
use Rattle.clr_needs.proofs.Placing.{PlaceOf, after, before, here, place_of}
use Rattle.clr_needs.proofs.Reading.{alone, read_in}
use Rattle.clr_steps.specs.Names.{same_name}
use Rattle.clr_steps.proofs.FindLemmas.{same_is}
use Rattle.clr_merge_sets.proofs.ListLemmas.{filter_map_last}
use Rattle.clr_clashes.specs.BrokenNeeds.{ArePlaces, IsFirstHeld}
use Rattle.clr_clashes.specs.Clashes.{IsAllIn}
use Rattle.clr_clashes.specs.Keeping.{is_all_in}
use Rattle.clr_clashes.specs.ListedClashes.{ListedClash, listed_clash_of, listed_cmp}
use Rattle.clr_clashes.specs.declared.listing.Clash.{Clash}
use Rattle.std.proofs.Math.ListN.{get_or-map}
use Rattle.clr_clashes.proofs.Kept.{told_within, within_told}
use Rattle.clr_choices.specs.Looked.{ArePositionsOf, is_member_at, with_position}

-- positions --------------------------------------------------------------------------------------------

-- the members so far stand at these positions
pub record AreFoundTo (names members : List Name) (at : ℕ) (positions : List ℕ) : Type 0 where
  pub ascending : IsStrictlySortedBy nat_cmp positions
  pub below : (x : ℕ) → Contains positions x → x < at
  pub inside : (x : ℕ) → Contains positions x → x < length names
  pub few : length positions ≤ length members
  pub read : filter_map (slice_get names) positions ≡ take (length positions) members

module _ (names members : List Name) where
  pub none_found : (positions : List ℕ) → positions ≡ [] → AreFoundTo names members 0 positions
  unfolding IsStrictlySortedBy
  none_found positions none = subst (AreFoundTo names members 0) (sym none)
      (record { ascending = tt; below = λ x h. absurd (among x [] h); inside = λ x h. absurd (among x [] h); few = omega arith; read = first members })
    where
      first : (list : List Name) → [] ≡ take 0 list
      first [] = refl
      first (x ∷ xs) = refl

  pub none_more : (at : ℕ) (positions : List ℕ) → AreFoundTo names members at positions → AreFoundTo names members (at + 1) positions
  none_more at positions are = record {
    ascending = are.ascending;
    below = λ x h. (let less = are.below x h in omega (arith, less));
    inside = are.inside;
    few = are.few;
    read = are.read;
  }

  member_is : (at : ℕ) (name : Name) → is_member_at members at name ≡ true → slice_get members at ≡ Some name
  member_is at name e = by (slice_get members at) e
    where
      by : (r : Option Name) → option_map_or (λ member. same_name member name) r false ≡ true → r ≡ Some name
      by None e = absurd (false≢true e)
      by (Some m) e = ap Some (same_is m name e)

  pub one_found : (at : ℕ) (name : Name) (old new : List ℕ) → at < length names → name ≡ get_or names at name → is_member_at members (length old) name ≡ true
      → new ≡ old ++ at ∷ [] → AreFoundTo names members at old → AreFoundTo names members (at + 1) new
  unfolding IsStrictlySortedBy
  one_found at name old new less is told put are = subst (AreFoundTo names members (at + 1)) (sym put) (record {
    ascending = rises;
    below = λ x h. elim (Contains-append_cases old (at ∷ []) x h) [
      | inl earlier ↦ (let low = are.below x earlier in omega (arith, low))
      | inr last ↦ (let same = alone at x last in omega (arith, same))
    ];
    inside = λ x h. elim (Contains-append_cases old (at ∷ []) x h) [
      | inl earlier ↦ are.inside x earlier
      | inr last ↦ (let same = alone at x last in omega (arith, same, less))
    ];
    few = (let count = length-append old (at ∷ []) in omega (arith, count, within));
    read = filter_map_last (slice_get names) old at
        ∙ ap₂ (λ (xs ys : List Name). xs ++ ys) are.read (ap option_to_list (slice_get_read names (length names) at name refl less is))
        ∙ sym (ap (λ n. take n members) (let count = length-append old (at ∷ []) in let sum : length (old ++ at ∷ []) ≡ length old + 1 = omega (arith, count) in sum)
        ∙ take_more members (length old) name within ∙ ap (λ n. take (length old) members ++ n ∷ []) (get_or_from_slice_get members (length old) name name there));
  })
    where
      there : slice_get members (length old) ≡ Some name
      there = member_is (length old) name told

      within : length old < length members
      within = slice_get_within members (length old) name there

      rises : IsStrictlySortedBy nat_cmp (old ++ at ∷ [])
      rises = rising_joined nat_cmp old (at ∷ []) are.ascending (tt, tt) apart
        where
          apart : (x y : ℕ) → Among x old → Among y (at ∷ []) → nat_cmp x y ≡ Less
          apart x y h (inl e) = subst (λ z. nat_cmp x z ≡ Less) e (less_number x at (are.below x (contained x old h)))
          apart x y h (inr j) = absurd j

  pub found_more : (at : ℕ) (name : Name) (old new : List ℕ) → at < length names → name ≡ get_or names at name
      → new ≡ with_position (is_member_at members (length old) name) old at → AreFoundTo names members at old → AreFoundTo names members (at + 1) new
  found_more at name old new less is put are = by (is_member_at members (length old) name) refl put
    where
      by : (b : Bool) → is_member_at members (length old) name ≡ b → new ≡ with_position b old at → AreFoundTo names members (at + 1) new
      by true told added = one_found at name old new less is told added are
      by false told same = subst (AreFoundTo names members (at + 1)) (sym same) (none_more at old are)

  pub all_found : (at : ℕ) (positions : List ℕ) → length members ≤ length positions → AreFoundTo names members at positions
      → ArePositionsOf names members positions
  all_found at positions past are = record {
    ascending = are.ascending;
    below = are.inside;
    read = are.read ∙ take_all (length positions) members past;
  }

-- the first that is held -------------------------------------------------------------------------------

module _ (ks : List ListedClash) (positions : List ℕ) where
  abbrev pub NoneHeld : ℕ → Type 0
  NoneHeld k = (j : ListedClash) → Contains (take k ks) j → ¬ (IsAllIn j.members positions)

  pub first_is_held : (k : ℕ) (d : ListedClash) → k < length ks → IsStrictlySortedBy listed_cmp ks → is_all_in (get_or ks k d).members positions ≡ true
      → NoneHeld k → IsFirstHeld ks positions (get_or ks k d)
  first_is_held k d less ascending told none = record {
    listed = read_in ks k d less;
    held = told_within (get_or ks k d).members positions told;
    first = λ j h lesser held. by j lesser held (place_of listed_cmp ks k (get_or ks k d) d j less refl ascending h);
  }
    where
      by : (j : ListedClash) → need_cmp j.need (get_or ks k d).need ≡ Less → IsAllIn j.members positions → PlaceOf listed_cmp ks j k (get_or ks k d) → ⊥
      by j lesser held (before h) = none j h held
      by j lesser held (here e) = not_itself need_total j.need (subst (λ (x : ListedClash). need_cmp j.need x.need ≡ Less) e lesser)
      by j lesser held (after e) = not_both need_total j.need (get_or ks k d).need lesser e

  pub none_more_held : (k : ℕ) (d : ListedClash) → k < length ks → is_all_in (get_or ks k d).members positions ≡ false → NoneHeld k → NoneHeld (k + 1)
  none_more_held k d less told none j h held =
      elim (Contains-append_cases (take k ks) (get_or ks k d ∷ []) j (subst (λ xs. Contains xs j) (take_more ks k d less) h)) [
        | inl earlier ↦ none j earlier held
        | inr last ↦ true≢false (sym (within_told (get_or ks k d).members positions (subst (λ (x : ListedClash). IsAllIn x.members positions)
            (alone (get_or ks k d) j last) held)) ∙ told)
      ]

-- the same of clashes as they are stored
module _ (xs : List Clash) (positions : List ℕ) (k : ℕ) (x : Clash) (less : k < length xs) (is : x ≡ get_or xs k x) where
  listed_less : k < length (map listed_clash_of xs)
  listed_less = let count = length-map xs listed_clash_of in omega (arith, less, count)

  listed_is : get_or (map listed_clash_of xs) k (listed_clash_of x) ≡ listed_clash_of x
  listed_is = get_or-map listed_clash_of xs k x ∙ ap listed_clash_of (sym is)

  pub held_at : (told : Bool) (members : List ℕ) → IsStrictlySortedBy listed_cmp (map listed_clash_of xs) → told ≡ is_all_in members positions
      → members ≡ x.members.items → told ≡ true → NoneHeld (map listed_clash_of xs) positions k → IsFirstHeld (map listed_clash_of xs) positions (listed_clash_of x)
  held_at told members ascending said same holds none =
      subst (IsFirstHeld (map listed_clash_of xs) positions) listed_is
      (first_is_held (map listed_clash_of xs) positions k (listed_clash_of x) listed_less ascending
      (ap (λ (j : ListedClash). is_all_in j.members positions) listed_is ∙ ap (λ (ms : List ℕ). is_all_in ms positions) (sym same) ∙ sym said ∙ holds) none)

  pub not_held_at : (told : Bool) (members : List ℕ) → told ≡ is_all_in members positions → members ≡ x.members.items → told ≡ false
      → NoneHeld (map listed_clash_of xs) positions k → NoneHeld (map listed_clash_of xs) positions (k + 1)
  not_held_at told members said same fails none =
      none_more_held (map listed_clash_of xs) positions k (listed_clash_of x) listed_less
      (ap (λ (j : ListedClash). is_all_in j.members positions) listed_is ∙ ap (λ (ms : List ℕ). is_all_in ms positions) (sym same) ∙ sym said ∙ fails) none

-- places -----------------------------------------------------------------------------------------------

module _ (positions members : List ℕ) where
  abbrev pub ArePlacedTo : ℕ → List ℕ → Type 0
  ArePlacedTo k places = ArePlaces positions (take k members) places

  pub none_placed : (places : List ℕ) → places ≡ [] → ArePlacedTo 0 places
  none_placed places none = subst (ArePlacedTo 0) (sym none) (record { stand = first members; below = λ x h. absurd (among x [] h) })
    where
      first : (list : List ℕ) → [] ≡ take 0 list
      first [] = refl
      first (x ∷ xs) = refl

  pub one_placed : (k d place : ℕ) (old new : List ℕ) → k < length members → place < length positions → get_or positions place 0 ≡ get_or members k d
      → new ≡ old ++ place ∷ [] → ArePlacedTo k old → ArePlacedTo (k + 1) new
  one_placed k d place old new less within stands put are = subst (ArePlacedTo (k + 1)) (sym put) (record {
    stand = map-append (λ at. get_or positions at 0) old (place ∷ []) ∙ ap₂ (λ (xs : List ℕ) (x : ℕ). xs ++ x ∷ []) are.stand stands
        ∙ sym (take_more members k d less);
    below = λ x h. elim (Contains-append_cases old (place ∷ []) x h) [
      | inl earlier ↦ are.below x earlier
      | inr last ↦ (let same = alone place x last in omega (arith, same, within))
    ];
  })

  pub all_placed : (k : ℕ) (places : List ℕ) → length members ≤ k → ArePlacedTo k places → ArePlaces positions members places
  all_placed k places past are = subst (λ (xs : List ℕ). ArePlaces positions xs places) (take_all k members past) are
