-- Entries sorted by need, and those of one need.
use Rattle.std.proofs.Common.{◌≡◌, ℕ, ◌+◌, ◌-◌, ◌<◌, ◌≤◌, ◌⊎◌, inl, inr, Bool, true, false, List, [], ◌∷◌, Contains, get_or, length, drop, take, refl, sym, ap}
use Rattle.std.proofs.Common.{◌∙◌, subst, arith, Option}
use Rattle.std.specs.Cmp.{IsTotalOrder, tied_itself}
use Rattle.std.specs.List.Sorted.{IsPartitionedBy, IsPartitionPoint}
use Rattle.std.specs.Ordering.{is_gt, is_le, is_lt, ordering_reverse}
use Rattle.std.specs.declared.cmp.Ordering.{Ordering}
use Rattle.std.specs.declared.cmp.Ordering.TheVariants.{Less, Equal, Greater}
use Rattle.std.proofs.lemmas.Bool.{false≢true}
use Rattle.std.proofs.lemmas.Cmp.{upto}
use Rattle.std.proofs.lemmas.List.{get_or-drop, get_or-take, length-drop, length-take-le}
use Rattle.std.proofs.lemmas.List.Sorted.{ranks_by, sorted_far}
use Rattle.clr_rules.proofs.Elements.{Among, among, contained}
use Rattle.clr_rules.proofs.BrokenLemmas.{lt_is}
use Rattle.clr_needs.specs.declared.needs.Need.{Need}
use Rattle.clr_ordered_needs.specs.Covers.{HasEntry, WitnessesCover}
use Rattle.clr_ordered_needs.specs.Turns.{Order}
use Rattle.clr_needs.specs.Orders.{need_cmp}
use Rattle.clr_needs.specs.Settings.{Setting, Lived}
use Rattle.clr_merge_sets.specs.Certificates.{entries_in}
use Rattle.clr_check.specs.Entries.{HasCover, IsEntryOf, RiseByNeed}
use Rattle.clr_cert.specs.declared.certificates.Entry.{Entry}

-- by need ----------------------------------------------------------------------------------------

abbrev pub is_before : Need → Entry → Bool
is_before n k = is_lt (need_cmp k.need n)

abbrev pub is_up_to : Need → Entry → Bool
is_up_to n k = is_le (need_cmp k.need n)

module _ (total : IsTotalOrder need_cmp) (entries : List Entry) (rises : RiseByNeed entries) (n : Need) where
  not_above : (o : Ordering) → is_le o ≡ true → is_gt o ≡ false
  not_above Less e = refl
  not_above Equal e = refl
  not_above Greater e = absurd (false≢true e)

  up_to : (o : Ordering) → is_gt o ≡ false → is_le o ≡ true
  up_to Less e = refl
  up_to Equal e = refl
  up_to Greater e = absurd (false≢true (sym e))

  -- an earlier entry isn't of a greater need
  rising : (i j : ℕ) (d : Entry) → i ≤ j → j < length entries → is_gt (need_cmp (get_or entries i d).need (get_or entries j d).need) ≡ false
  rising i j d le less =
      let far = sorted_far (λ (x y : Entry). is_lt (need_cmp x.need y.need)) (ranks_by total (λ (k : Entry). k.need)) entries rises i j d le less in
      by (need_cmp (get_or entries j d).need (get_or entries i d).need) far (total.antisymm (get_or entries i d).need (get_or entries j d).need)
    where
      by : {p : Ordering} (o : Ordering) → is_lt o ≡ false → p ≡ ordering_reverse o → is_gt p ≡ false
      by Less e f = absurd (false≢true (sym e))
      by Equal e f = ap is_gt f
      by Greater e f = ap is_gt f

  pub parted_up_to : IsPartitionedBy (is_up_to n) entries
  parted_up_to i j d le less e = up_to _ (upto total (get_or entries i d).need (get_or entries j d).need n (rising i j d le less) (not_above _ e))

  pub parted_before : IsPartitionedBy (is_before n) entries
  parted_before i j d le less e = by (need_cmp (get_or entries i d).need n) refl
    where
      -- n isn't above the earlier need, which isn't above the later one, which is before n
      not_both : is_gt (need_cmp n (get_or entries i d).need) ≡ false → ⊥
      not_both f =
          let over = upto total n (get_or entries i d).need (get_or entries j d).need f (rising i j d le less) in
          let turned : need_cmp n (get_or entries j d).need ≡ Greater = total.antisymm n (get_or entries j d).need ∙ ap ordering_reverse (lt_is _ e) in
          false≢true (sym over ∙ ap is_gt turned)

      turned_back : (o : Ordering) → need_cmp (get_or entries i d).need n ≡ o → need_cmp n (get_or entries i d).need ≡ ordering_reverse o
      turned_back o f = total.antisymm n (get_or entries i d).need ∙ ap ordering_reverse f

      by : (o : Ordering) → need_cmp (get_or entries i d).need n ≡ o → is_lt (need_cmp (get_or entries i d).need n) ≡ true
      by Less f = ap is_lt f
      by Equal f = absurd (not_both (ap is_gt (turned_back Equal f)))
      by Greater f = absurd (not_both (ap is_gt (turned_back Greater f)))

  module _ (exact : (x y : Need) → need_cmp x y ≡ Equal → x ≡ y) (low high : ℕ)
      (before : IsPartitionPoint (λ k. is_before n k ≡ true) (λ k. is_before n k ≡ false) entries low)
      (after : IsPartitionPoint (λ k. is_up_to n k ≡ true) (λ k. is_up_to n k ≡ false) entries high) where
    both_tests : (o : Ordering) → is_lt o ≡ true → is_le o ≡ false → ⊥
    both_tests Less e f = false≢true (sym f)
    both_tests Equal e f = false≢true e
    both_tests Greater e f = false≢true e

    neither_test : (o : Ordering) → is_lt o ≡ false → is_le o ≡ true → o ≡ Equal
    neither_test Less e f = absurd (false≢true (sym e))
    neither_test Equal e f = refl
    neither_test Greater e f = absurd (false≢true f)

    side : (m k : ℕ) → (m ≤ k) ⊎ (k < m)
    side m k = grind arith

    pub in_turn : low ≤ length entries → (d : Entry) → low ≤ high
    in_turn within d = elim (side low high) [
      | inl le ↦ le
      | inr more ↦ absurd (both_tests _ (before.0 high d (omega arith) more) (after.1 high d (omega arith) (omega (arith, more, within))))
    ]

    module _ (within : high ≤ length entries) where
      abbrev pub part : List Entry
      part = take (high - low) (drop low entries)

      part_at : (i : ℕ) (d : Entry) → i < high - low → get_or part i d ≡ get_or entries (low + i) d
      part_at i d less = get_or-take (high - low) (drop low entries) i d less ∙ get_or-drop low entries i d

      part_long : low ≤ high → length part ≡ high - low
      part_long le = length-take-le (high - low) (drop low entries) (let long = length-drop low entries in omega (arith, long, within))

      pub part_is : low ≤ high → (k : Entry) → Contains part k → IsEntryOf entries n k
      part_is le k (i, less, is) =
          let below : i < high - low = omega (arith, less, part_long le) in
          let there = sym (part_at i k below) ∙ is in
          let from = before.1 (low + i) k (omega arith) (omega (arith, below, within)) in
          let to = after.0 (low + i) k (omega arith) (omega (arith, below)) in
          ((low + i, omega (arith, below, within), there), subst (λ (x : Entry). x.need ≡ n) there (exact _ n (neither_test _ from to)))

      pub is_part : low ≤ high → (k : Entry) → IsEntryOf entries n k → Contains part k
      is_part le k ((j, less, is), same) =
          let tie : need_cmp (get_or entries j k).need n ≡ Equal = ap (λ (x : Entry). need_cmp x.need n) is ∙ ap (λ m. need_cmp m n) same
          ∙ tied_itself total n in
          let above : low ≤ j = elim (side low j) [ inl h ↦ h | inr h ↦ absurd (false≢true (sym (ap is_lt tie) ∙ before.0 j k (omega arith) h)) ] in
          let below : j < high = elim (side high j) [ inl h ↦ absurd (false≢true (sym (after.1 j k h less) ∙ ap is_le tie)) | inr h ↦ h ] in
          let here : j - low < high - low = omega (arith, above, below) in
          let again : low + (j - low) ≡ j = omega (arith, above) in
          (j - low, omega (arith, here, part_long le), part_at (j - low) k here ∙ ap (λ i. get_or entries i k) again ∙ is)

-- of entries ---------------------------------------------------------------------------------------

module _ (before : Order ℕ) (c : Setting ℕ) (n : Need) (a : Lived ℕ) (b : Option (Lived ℕ)) where
  -- an entry of the list covers the need
  abbrev pub IsCovering : List Entry → Entry → Type 0
  IsCovering entries e = Among e entries × (e.need ≡ n) × WitnessesCover before c n a b e.one e.two

  pub has_entry : (entries : List Entry) (e : Entry) → IsCovering entries e → HasEntry before c n a b (entries_in entries)
  has_entry [] e (h, same, covers) = absurd h
  has_entry (f ∷ fs) e (inl is, same, covers) = inl (
    ap (λ (x : Entry). x.need) is
        ∙ same,
    subst (λ (x : Entry). WitnessesCover before c n a b x.one x.two) (sym is) covers,
  )
  has_entry (f ∷ fs) e (inr h, same, covers) = inr (has_entry fs e (h, same, covers))

  pub entry_of : (entries : List Entry) → HasEntry before c n a b (entries_in entries) → (e : Entry) × IsCovering entries e
  entry_of [] h = absurd h
  entry_of (f ∷ fs) (inl (same, covers)) = (f, (inl refl, same, covers))
  entry_of (f ∷ fs) (inr h) = let (e, rest) = entry_of fs h in (e, (inr rest.0, rest.1, rest.2))

  module _ (entries sorted found : List Entry) (same : (e : Entry) → (Contains sorted e → Contains entries e) × (Contains entries e → Contains sorted e))
      (those : (e : Entry) → (Contains found e → IsEntryOf sorted n e) × (IsEntryOf sorted n e → Contains found e)) where
    pub covered_has : HasCover before c n a b found → HasEntry before c n a b (entries_in entries)
    covered_has (e, h, covers) =
        let there = (those e).0 h in
        has_entry entries e (among e entries ((same e).0 there.0), there.1, covers)

    pub has_covered : HasEntry before c n a b (entries_in entries) → HasCover before c n a b found
    has_covered h =
        let (e, rest) = entry_of entries h in
        (e, (those e).1 ((same e).1 (contained e entries rest.0), rest.1), rest.2)
