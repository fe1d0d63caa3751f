-- Which needs of two new versions are found among the parts that were filed before.
use Rattle.std.proofs.Common.{◌≡◌, ◌∙◌, ◌<◌, ◌≤◌, ◌+◌, ◌-◌, ◌==◌, ℕ, zero, suc, Bool, true, false, ◌&&◌, List, [], ◌∷◌, ◌⊎◌, inl, inr, Option, Some, None}
use Rattle.std.proofs.Common.{Contains, get_or, length, slice_get, refl, sym, ap, subst, arith}
use Rattle.std.specs.Prelude.{IfSome}
use Rattle.std.specs.Cmp.{tied_itself}
use Rattle.std.specs.Option.{option_cmp}
use Rattle.std.specs.Ordering.{bool_cmp, is_gt, nat_cmp, ordering_reverse, ordering_then}
use Rattle.std.proofs.lemmas.Bool.{and_parts, cases_lt, false≢true}
use Rattle.std.proofs.lemmas.Bool.Decides.{Decides-eqb}
use Rattle.std.proofs.lemmas.Cmp.{nat_cmp_total}
use Rattle.std.proofs.lemmas.List.Elements.{All-nil}
use Rattle.std.proofs.lemmas.Option.{slice_get_read}
use Rattle.std.specs.declared.cmp.Ordering.{Ordering}
use Rattle.std.specs.declared.cmp.Ordering.TheVariants.{Less, Equal, Greater}
use Rattle.clr_rows.specs.declared.cells.CellId.{CellId}
use Rattle.clr_rows.specs.Cells.{cell_cmp}
use Rattle.clr_rows.specs.Held.{Held}
use Rattle.clr_rows.proofs.CellOrder.{cell_cmp_total}
use Rattle.clr_rules.specs.declared.needs.Ask.{Ask}
use Rattle.clr_rules.specs.declared.rules.Rule.{Rule}
use Rattle.clr_rules.specs.Books.{FitTogether, FitsCell}
use Rattle.clr_rules.specs.Calls.{ask_of_parts, part_count}
use Rattle.clr_rules.proofs.Elements.{Among, contained, not_both, not_itself}
use Rattle.clr_spots.specs.declared.spots.Spot.{Spot}
use Rattle.clr_spots.specs.RoleSpots.{subject_spots_under}
use Rattle.clr_spots.specs.Spots.{are_many, unless_many}
use Rattle.clr_spots.proofs.RoleLaws.{subjects_meet}
use Rattle.clr_spots.proofs.SharedSpots.{Common}
use Rattle.clr_spots.specs.declared.spot_maps.FiledPart.{FiledPart}
use Rattle.clr_spots.specs.Filing.{Filed, IsFiled, near}
use Rattle.clr_spots.proofs.Filed.{new_part_filed, part_stays, found_near}
use Rattle.clr_needs.specs.declared.needs.Need.{Need}
use Rattle.clr_needs.specs.Needs.{ask_of, is_fresh}
use Rattle.clr_needs.specs.Orders.{need_cmp, version_cmp}
use Rattle.clr_needs.specs.Settings.{Setting}
use Rattle.clr_row_versions.specs.declared.versions.Version.{Version}
use Rattle.clr_row_versions.specs.Candidates.{IsNeedAmong, IsNeedOf, IsNeedOfAsk, IsNeedOfPair, are_opposed, may_be_paired}
use Rattle.clr_row_versions.specs.Gains.{Gains, IsListedOrPassed, OfSome, Reaches}
use Rattle.clr_new_pairs.specs.NewPairs.{AreFiledBefore, ArePartsFiled, IsNeedAtPosition, IsNeedOfFiledPart, IsNeedOfItsPart, IsNeedOfParts, IsNeedOfTwo}
use Rattle.clr_new_pairs.specs.NewPairs.{IsNeedWithBefore, IsNeedWithPart, filed_part, with_part}
use Rattle.clr_new_pairs.specs.NewPairs.{HasBreakAt, Passes, UpTo, is_past, is_unserved_under}
use Rattle.clr_row_versions.specs.Versions.{FitsSetting, row_and_life, row_of}
use Rattle.clr_row_versions.proofs.CandidateLaws.{first_counted, first_within, one_cell, opposed_pair, ordered_pair, pair_back, second_counted, second_within}
use Rattle.clr_row_versions.proofs.CandidateLaws.{they_call, turned_less, turned_told}
use Rattle.clr_row_versions.proofs.Gaining.{gains_as, gains_both, gains_none, reaches_as, reaches_both}
use Rattle.clr_row_versions.proofs.CandidateLaws.{both_paired}

-- ---- positions

among_got : {X : Type 0} → (xs : List X) (k : ℕ) (x : X) → slice_get xs k ≡ Some x → Among x xs
among_got [] k x e = absurd (cc)
among_got (y ∷ xs) zero x e = inl (cc)
among_got (y ∷ xs) (suc k) x e = inr (among_got xs k x e)

pub got_in : {X : Type 0} → (xs : List X) (k : ℕ) (x : X) → slice_get xs k ≡ Some x → Contains xs x
got_in xs k x e = contained x xs (among_got xs k x e)

got_by : {X : Type 0} → (xs : List X) (k : ℕ) (x : X) → k < length xs → get_or xs k x ≡ x → slice_get xs k ≡ Some x
got_by xs k x less e = slice_get_read xs (length xs) k x refl less (sym e)

-- ---- needs whose first subject isn't past a cell

module _ (last : Option CellId) where
  pub gains_up_to : (allowed wanted : Need → Type 0) (old new : List Need) → Gains allowed wanted old new → Gains allowed (UpTo last wanted) old new
  gains_up_to allowed wanted old new g = gains_as allowed wanted allowed (UpTo last wanted) old new (λ n a. a) (λ n w. w.0) g

  up_to_either : (P Q : Need → Type 0) (n : Need) → P n ⊎ Q n → is_past last n.first.cell ≡ false → UpTo last P n ⊎ UpTo last Q n
  up_to_either P Q n (inl p) e = inl (p, e)
  up_to_either P Q n (inr q) e = inr (q, e)

-- what is told of the last need of a list
pub break_told : (rules : List Rule) (leaves_out : Bool) (number : ℕ) (list : List Need) (k : ℕ) (n : Need) (unserved told : Bool) → leaves_out ≡ true
    → unserved ≡ is_unserved_under rules number
    → unserved ≡ true
    → slice_get list k ≡ Some n
    → told ≡ (is_fresh n.second && (n.first.fresh && (n.rule == number)))
    → told ≡ true
    → HasBreakAt rules leaves_out number list n.first.cell
break_told rules leaves_out number list k n unserved told allowed is holds at tells two =
    let parts = and_parts (is_fresh n.second) (n.first.fresh && (n.rule == number)) (sym tells ∙ two) in
    let rest = and_parts n.first.fresh (n.rule == number) parts.1 in
    let its : n.rule ≡ number = (Decides-eqb n.rule number).0 rest.1 in (
      n,
      got_in list k n at,
      record { allowed = allowed; unserved = ap (is_unserved_under rules) its ∙ sym is ∙ holds; first = rest.0; second = parts.0 },
      its,
      refl,
    )

gt_is : (o : Ordering) → is_gt o ≡ true → o ≡ Greater
gt_is Less e = cc
gt_is Equal e = cc
gt_is Greater e = refl

-- of two needs of one rule that one is less whose first subject has the lesser cell
less_by_cell : (m n : Need) → n.rule ≡ m.rule → is_gt (cell_cmp n.first.cell m.first.cell) ≡ true → need_cmp m n ≡ Less
less_by_cell m n rule past = λ i. ordering_then (tie i)
    (ordering_then (ordering_then (less i) (bool_cmp m.first.fresh n.first.fresh)) (ordering_then (option_cmp version_cmp m.second n.second)
    (ordering_then (nat_cmp m.first_part n.first_part) (nat_cmp m.second_part n.second_part))))
  where
    tie : nat_cmp m.rule n.rule ≡ Equal
    tie = ap (nat_cmp m.rule) rule ∙ tied_itself nat_cmp_total m.rule

    less : cell_cmp m.first.cell n.first.cell ≡ Less
    less = cell_cmp_total.antisymm m.first.cell n.first.cell ∙ ap ordering_reverse (gt_is (cell_cmp n.first.cell m.first.cell) past)

-- ---- a part of each of two versions

module _ (rules : List Rule) (number : ℕ) where
  pub parts_pair : (s : Version) (p : ℕ) (t : Version) (q : ℕ) (n : Need) → IsNeedOfParts rules number s p t q n → IsNeedOfPair rules number None s t n
  parts_pair s p t q n (inl w) = inl w.0
  parts_pair s p t q n (inr w) = inr w.0

  turned_parts : (s : Version) (p : ℕ) (t : Version) (q : ℕ) (n : Need) → IsNeedOfParts rules number s p t q n → IsNeedOfParts rules number t q s p n
  turned_parts s p t q n (inl w) = inr w
  turned_parts s p t q n (inr w) = inl w

  abbrev Pair : Version → Version → Need → Type 0
  Pair s t = IsNeedOfPair rules number None s t

  -- of two versions that never stand together, and of one cell
  pub opposed_parts : (s : Version) (p : ℕ) (t : Version) (q : ℕ) (needs : List Need) → are_opposed (row_and_life s).life (row_and_life t).life ≡ true
      → Gains (Pair s t) (IsNeedOfParts rules number s p t q) needs needs
  opposed_parts s p t q needs opposed = gains_as (Pair s t) (Pair s t) (Pair s t) (IsNeedOfParts rules number s p t q) needs needs (λ n w. w)
      (parts_pair s p t q) (opposed_pair rules number None s t needs opposed)

  pub parts_of_one : (s : Version) (p : ℕ) (t : Version) (q : ℕ) (needs : List Need) → cell_cmp s.id.cell t.id.cell ≡ Equal
      → Gains (Pair s t) (IsNeedOfParts rules number s p t q) needs needs
  parts_of_one s p t q needs tie = gains_as (Pair s t) (Pair s t) (Pair s t) (IsNeedOfParts rules number s p t q) needs needs (λ n w. w) (parts_pair s p t q)
      (one_cell rules number None s t needs tie)

  -- in the order of their cells
  pub parts_in_order : (s : Version) (p : ℕ) (t : Version) (q : ℕ) (ask : Ask) (old new : List Need) → ask ≡ ask_of_parts number p q
      → are_opposed (row_and_life s).life (row_and_life t).life ≡ false → cell_cmp s.id.cell t.id.cell ≡ Less
      → Gains (IsNeedOf rules ask.rule None s (Some t)) (IsNeedOfAsk rules ask None s t) old new
      → Gains (Pair s t) (IsNeedOfParts rules number s p t q) old new
  parts_in_order s p t q ask old new is fails less g =
      gains_as (IsNeedOf rules number None s (Some t)) (IsNeedOfAsk rules (ask_of_parts number p q) None s t) (Pair s t) (IsNeedOfParts rules number s p t q)
      old new
      (ordered_pair rules number None s t fails less) asked
      (subst (λ a. Gains (IsNeedOf rules a.rule None s (Some t)) (IsNeedOfAsk rules a None s t) old new) is g)
    where
      asked : (n : Need) → IsNeedOfParts rules number s p t q n → IsNeedOfAsk rules (ask_of_parts number p q) None s t n
      asked n (inl w) = record { need = w.0.need; is = λ i. record { rule = w.0.need.rule i; first_part = w.1 i; second_part = w.2 i } }
      asked n (inr w) = absurd (not_both cell_cmp_total s.id.cell t.id.cell less w.0.ascending)

  pub parts_in_turned_order : (s : Version) (p : ℕ) (t : Version) (q : ℕ) (ask : Ask) (old new : List Need) → ask ≡ ask_of_parts number q p
      → are_opposed (row_and_life s).life (row_and_life t).life ≡ false → cell_cmp s.id.cell t.id.cell ≡ Greater
      → Gains (IsNeedOf rules ask.rule None t (Some s)) (IsNeedOfAsk rules ask None t s) old new
      → Gains (Pair s t) (IsNeedOfParts rules number s p t q) old new
  parts_in_turned_order s p t q ask old new is fails more g =
      gains_as (Pair t s) (IsNeedOfParts rules number t q s p) (Pair s t) (IsNeedOfParts rules number s p t q) old new (pair_back rules number None s t)
      (turned_parts s p t q)
      (parts_in_order t q s p ask old new is (turned_told rules number None s t (row_and_life s).life (row_and_life t).life fails)
      (turned_less rules number None s t more) g)

  -- ---- filed parts

  module _ (fresh : List Version) (s : Version) (p : ℕ) where
    pub no_filed_part : (e : FiledPart) (needs : List Need) → slice_get fresh e.position ≡ None
        → Gains (IsNeedAmong rules number None s fresh) (IsNeedOfFiledPart rules number fresh s p e) needs needs
    no_filed_part e needs none = gains_none (IsNeedAmong rules number None s fresh) (IsNeedOfFiledPart rules number fresh s p e) needs (λ n w. by w.0 w.1)
      where
        by : (t : Version) → slice_get fresh e.position ≡ Some t → ⊥
        by t at = let clash : None ≡ Some t = sym none ∙ at in cc

    pub its_filed_part : (e : FiledPart) (t : Version) (old new : List Need) → slice_get fresh e.position ≡ Some t
        → Gains (Pair s t) (IsNeedOfParts rules number s p t e.part) old new
        → Gains (IsNeedAmong rules number None s fresh) (IsNeedOfFiledPart rules number fresh s p e) old new
    its_filed_part e t old new at g = gains_as (Pair s t) (IsNeedOfParts rules number s p t e.part) (IsNeedAmong rules number None s fresh)
        (IsNeedOfFiledPart rules number fresh s p e) old new
        (λ n w. (t, got_in fresh e.position t at, w)) (λ n w. by n w.0 w.1 w.2) g
      where
        by : (n : Need) (u : Version) → slice_get fresh e.position ≡ Some u → IsNeedOfParts rules number s p u e.part n
            → IsNeedOfParts rules number s p t e.part n
        by n u there w = let same : u ≡ t = let both : Some u ≡ Some t = sym there ∙ at in cc in subst (λ v. IsNeedOfParts rules number s p v e.part n) same w

    -- both cells are past the last one that counts
    pub filed_part_past : (last : Option CellId) (e : FiledPart) (t : Version) (needs : List Need) → slice_get fresh e.position ≡ Some t
        → (is_past last s.id.cell && is_past last t.id.cell) ≡ true
        → Gains (IsNeedAmong rules number None s fresh) (UpTo last (IsNeedOfFiledPart rules number fresh s p e)) needs needs
    filed_part_past last e t needs at past =
        gains_none (IsNeedAmong rules number None s fresh) (UpTo last (IsNeedOfFiledPart rules number fresh s p e)) needs
        (λ n w. none n w.0.0 (let both : Some w.0.0 ≡ Some t = sym w.0.1 ∙ at in cc) w.0.2 w.1)
      where
        two : (is_past last s.id.cell ≡ true) × (is_past last t.id.cell ≡ true)
        two = and_parts (is_past last s.id.cell) (is_past last t.id.cell) past

        none : (n : Need) (u : Version) → u ≡ t → IsNeedOfParts rules number s p u e.part n → is_past last n.first.cell ≡ false → ⊥
        none n u same (inl w) within = false≢true (sym within ∙ ap (λ v. is_past last v.cell) w.0.need.first ∙ two.0)
        none n u same (inr w) within = false≢true (sym within ∙ ap (λ v. is_past last v.cell) w.0.need.first ∙ ap (λ x. is_past last x.id.cell) same ∙ two.1)

-- the needs with a part are those of filed parts that are near its spots
module _ (c : Setting ℕ) (fits : FitsSetting c) (number : ℕ) (fresh : List Version) (k : ℕ) (m : Filed) (before : AreFiledBefore c.rules number fresh k m)
    (s : Version) (p : ℕ) where
  abbrev its_spots : List Spot
  its_spots = subject_spots_under c.rules number p (row_of s)

  fit : FitTogether c.rules []
  fit = record { tables = fits.tables; book = fits.book; each = All-nil (FitsCell fits.tables) }

  common_back : (xs ys : List Spot) → Common xs ys → Common ys xs
  common_back xs ys h = (h.0, h.2, h.1)

  spots_by : (r q : ℕ) (x : Held) → r ≡ number → subject_spots_under c.rules r q x ≡ subject_spots_under c.rules number q x
  spots_by r q x e = ap (λ j. subject_spots_under c.rules j q x) e

  filed_part_found : (i : ℕ) (t : Version) (q : ℕ) → i < k → slice_get fresh i ≡ Some t → may_be_paired c.rules number (row_of t) ≡ true → 1 ≤ q
      → q ≤ part_count c.rules number (row_of t)
      → Common its_spots (subject_spots_under c.rules number q (row_of t)) → Contains (near m (unless_many its_spots) (are_many its_spots)) (filed_part i q)
  filed_part_found i t q less at paired low high common =
      found_near m (filed_part i q) its_spots (subject_spots_under c.rules number q (row_of t)) (before i t less at paired q low high) common

  pub part_found : (list : List Spot) (wide : Bool) (n : Need) → list ≡ unless_many its_spots → wide ≡ are_many its_spots
      → IsNeedWithPart c.rules number fresh k s p n
      → OfSome (IsNeedOfFiledPart c.rules number fresh s p) (near m list wide) n
  part_found list wide n is is_wide (i, t, less, at, w) =
      subst (λ es. OfSome (IsNeedOfFiledPart c.rules number fresh s p) es n) (λ j. near m (sym is j) (sym is_wide j)) (by w)
    where
      by : IsNeedOfItsPart c.rules number s p t n → OfSome (IsNeedOfFiledPart c.rules number fresh s p) (near m (unless_many its_spots) (are_many its_spots)) n
      by (inl (between, part)) =
          let called = they_call c.rules number None s (Some t) n between.need in
          let met = subjects_meet c.rules [] (ask_of n) (row_of s) (row_of t) fit called in
          let common : Common its_spots (subject_spots_under c.rules number n.second_part (row_of t)) =
          subst (λ xs. Common xs (subject_spots_under c.rules number n.second_part (row_of t))) (λ j. subject_spots_under c.rules (between.need.rule j) (part j)
          (row_of s))
          (subst (Common (subject_spots_under c.rules n.rule n.first_part (row_of s))) (spots_by n.rule n.second_part (row_of t) between.need.rule) met) in
          let paired = subst (λ j. may_be_paired c.rules j (row_of t) ≡ true) between.need.rule
          (both_paired c.rules (ask_of n) (row_of s) (row_of t) called).1 in (
            filed_part i n.second_part,
            filed_part_found i t n.second_part less at paired (second_counted c.rules number None s t n between.need)
                (second_within c.rules number None s t n between.need) common,
            (t, at, inl (between, part, refl)),
          )
      by (inr (between, part)) =
          let called = they_call c.rules number None t (Some s) n between.need in
          let met = common_back _ _ (subjects_meet c.rules [] (ask_of n) (row_of t) (row_of s) fit called) in
          let common : Common its_spots (subject_spots_under c.rules number n.first_part (row_of t)) =
          subst (λ xs. Common xs (subject_spots_under c.rules number n.first_part (row_of t))) (λ j. subject_spots_under c.rules (between.need.rule j) (part j)
          (row_of s))
          (subst (Common (subject_spots_under c.rules n.rule n.second_part (row_of s))) (spots_by n.rule n.first_part (row_of t) between.need.rule) met) in
          let paired = subst (λ j. may_be_paired c.rules j (row_of t) ≡ true) between.need.rule
          (both_paired c.rules (ask_of n) (row_of t) (row_of s) called).0 in (
            filed_part i n.first_part,
            filed_part_found i t n.first_part less at paired (first_counted c.rules number None t s n between.need)
                (first_within c.rules number None t s n between.need) common,
            (t, at, inr (between, refl, part)),
          )

-- ---- filing

module _ (rules : List Rule) (number : ℕ) (fresh : List Version) where
  pub before_stays : (k : ℕ) (m n : Filed) (position part : ℕ) (s : Held) → n ≡ with_part rules number m position part s → AreFiledBefore rules number fresh k m
      → AreFiledBefore rules number fresh k n
  before_stays k m n position part s is before i t less at paired q low high =
      subst (λ x. IsFiled x (filed_part i q) (subject_spots_under rules number q (row_of t))) (sym is)
      (part_stays m (filed_part position part) (filed_part i q) (unless_many (subject_spots_under rules number part s))
      (subject_spots_under rules number q (row_of t)) (are_many (subject_spots_under rules number part s)) (before i t less at paired q low high))

  pub one_part_filed : (m n : Filed) (position part : ℕ) (s : Version) → n ≡ with_part rules number m position (part + 1) (row_of s)
      → ArePartsFiled rules number m position s part → ArePartsFiled rules number n position s (part + 1)
  one_part_filed m n position part s is parts q low high = subst (λ x. IsFiled x (filed_part position q) (subject_spots_under rules number q (row_of s)))
      (sym is)
      (elim (cases_lt part q) [
        | inl above ↦ (let last : part + 1 ≡ q = omega (arith, above, high) in
            subst (λ j. IsFiled (with_part rules number m position (part + 1) (row_of s)) (filed_part position j)
            (subject_spots_under rules number j (row_of s)))
            last
            (new_part_filed m (filed_part position (part + 1)) (subject_spots_under rules number (part + 1) (row_of s))))
        | inr most ↦ part_stays m (filed_part position (part + 1)) (filed_part position q)
            (unless_many (subject_spots_under rules number (part + 1) (row_of s)))
            (subject_spots_under rules number q (row_of s))
            (are_many (subject_spots_under rules number (part + 1) (row_of s))) (parts q low most)
      ])

  pub no_part_filed : (m : Filed) (position : ℕ) (s : Version) → ArePartsFiled rules number m position s 0
  no_part_filed m position s q low high = absurd (omega (arith, low, high))

  pub none_filed : (m : Filed) → AreFiledBefore rules number fresh 0 m
  none_filed m i t less = absurd (omega (arith, less))

  -- one version more is filed, may be no subject of two, or isn't there
  more_filed : (k : ℕ) (m : Filed) → ((t : Version) → slice_get fresh k ≡ Some t → may_be_paired rules number (row_of t) ≡ true
      → ArePartsFiled rules number m k t (part_count rules number (row_of t)))
      → AreFiledBefore rules number fresh k m → AreFiledBefore rules number fresh (k + 1) m
  more_filed k m last before i t less at paired = elim (cases_lt i k) [
    | inl earlier ↦ before i t earlier at paired
    | inr late ↦ (let here : k ≡ i = omega (arith, less, late) in
        subst (λ j. ArePartsFiled rules number m j t (part_count rules number (row_of t))) here (last t (ap (slice_get fresh) here ∙ at) paired))
  ]

  pub version_filed : (k : ℕ) (m : Filed) (s : Version) (count part : ℕ) → slice_get fresh k ≡ Some s → count ≡ part_count rules number (row_of s)
      → count ≤ part → ArePartsFiled rules number m k s part
      → AreFiledBefore rules number fresh k m → AreFiledBefore rules number fresh (k + 1) m
  version_filed k m s count part at is past parts before = more_filed k m (λ t there paired. by t (let both : Some s ≡ Some t = sym at ∙ there in cc)) before
    where
      by : (t : Version) → s ≡ t → ArePartsFiled rules number m k t (part_count rules number (row_of t))
      by t same = subst (λ u. ArePartsFiled rules number m k u (part_count rules number (row_of u))) same
          (λ q low high. parts q low (omega (arith, high, is, past)))

  pub unpaired_filed : (k : ℕ) (m : Filed) (s : Version) (told : Bool) → slice_get fresh k ≡ Some s → told ≡ may_be_paired rules number (row_of s) → told
      ≡ false
      → AreFiledBefore rules number fresh k m → AreFiledBefore rules number fresh (k + 1) m
  unpaired_filed k m s told at is fails before = more_filed k m (λ t there paired. absurd (by t (let both : Some s ≡ Some t = sym at ∙ there in cc) paired))
      before
    where
      by : (t : Version) → s ≡ t → may_be_paired rules number (row_of t) ≡ true → ⊥
      by t same paired = false≢true (sym fails ∙ is ∙ ap (λ u. may_be_paired rules number (row_of u)) same ∙ paired)

  pub past_filed : (k : ℕ) (m : Filed) → slice_get fresh k ≡ None → AreFiledBefore rules number fresh k m → AreFiledBefore rules number fresh (k + 1) m
  past_filed k m none before = more_filed k m (λ t there paired. absurd (let clash : None ≡ Some t = sym none ∙ there in cc)) before

  -- ---- part after part

  module _ (k : ℕ) (s : Version) where
    abbrev Beside : Need → Type 0
    Beside = IsNeedAmong rules number None s fresh

    abbrev pub IsNeedWithPartTo : ℕ → Need → Type 0
    IsNeedWithPartTo most n = (p : ℕ) × (p < most) × IsNeedWithPart rules number fresh k s (p + 1) n

    pub no_part_yet : (needs : List Need) → Gains Beside (IsNeedWithPartTo 0) needs needs
    no_part_yet needs = gains_none Beside (IsNeedWithPartTo 0) needs (λ n w. let less = w.1 in omega (arith, less))

    pub one_part_more : (last : Option CellId) (p : ℕ) (old middle new : List Need) → Gains Beside (UpTo last (IsNeedWithPartTo p)) old middle
        → Gains Beside (UpTo last (IsNeedWithPart rules number fresh k s (p + 1))) middle new → Gains Beside (UpTo last (IsNeedWithPartTo (p + 1))) old new
    one_part_more last p old middle new g h =
        gains_both Beside (UpTo last (IsNeedWithPartTo p)) (UpTo last (IsNeedWithPart rules number fresh k s (p + 1))) (UpTo last (IsNeedWithPartTo (p + 1)))
        old
        middle new
        (λ n w. up_to_either last (IsNeedWithPartTo p) (IsNeedWithPart rules number fresh k s (p + 1)) n (split n w.0) w.1) g h
      where
        split : (n : Need) → IsNeedWithPartTo (p + 1) n → IsNeedWithPartTo p n ⊎ IsNeedWithPart rules number fresh k s (p + 1) n
        split n (q, less, w) = elim (cases_lt q p) [
          | inl earlier ↦ inl (q, earlier, w)
          | inr late ↦ (let here : q ≡ p = omega (arith, less, late) in inr (subst (λ j. IsNeedWithPart rules number fresh k s (j + 1) n) here w))
        ]

    its_part : (count part : ℕ) → count ≡ part_count rules number (row_of s) → count ≤ part → (n : Need) → IsNeedWithBefore rules number fresh k s n
        → IsNeedWithPartTo part n
    its_part count part is past n (i, t, less, at, inl w) =
        let low = first_counted rules number None s t n w.need in
        let high = first_within rules number None s t n w.need in
        (n.first_part - 1, omega (arith, low, high, is, past), (i, t, less, at, inl (w, omega (arith, low))))
    its_part count part is past n (i, t, less, at, inr w) =
        let low = second_counted rules number None t s n w.need in
        let high = second_within rules number None t s n w.need in
        (n.second_part - 1, omega (arith, low, high, is, past), (i, t, less, at, inr (w, omega (arith, low))))

    pub all_parts : (last : Option CellId) (count part : ℕ) (old new : List Need) → count ≡ part_count rules number (row_of s) → count ≤ part
        → Gains Beside (UpTo last (IsNeedWithPartTo part)) old new → Gains Beside (UpTo last (IsNeedWithBefore rules number fresh k s)) old new
    all_parts last count part old new is past g =
        gains_as Beside (UpTo last (IsNeedWithPartTo part)) Beside (UpTo last (IsNeedWithBefore rules number fresh k s))
        old new (λ n w. w)
        (λ n w. (its_part count part is past n w.0, w.1)) g

    pub unpaired_needs : (told : Bool) (needs : List Need) → told ≡ may_be_paired rules number (row_of s) → told ≡ false
        → Gains Beside (IsNeedWithBefore rules number fresh k s) needs needs
    unpaired_needs told needs is fails = gains_none Beside (IsNeedWithBefore rules number fresh k s) needs none
      where
        clash : (r : ℕ) → r ≡ number → may_be_paired rules r (row_of s) ≡ true → ⊥
        clash r rule paired = false≢true (sym fails ∙ is ∙ ap (λ j. may_be_paired rules j (row_of s)) (sym rule) ∙ paired)

        none : (n : Need) → IsNeedWithBefore rules number fresh k s n → ⊥
        none n (i, t, less, at, inl w) = clash n.rule w.need.rule (both_paired rules (ask_of n) (row_of s) (row_of t)
            (they_call rules number None s (Some t) n w.need)).0
        none n (i, t, less, at, inr w) = clash n.rule w.need.rule (both_paired rules (ask_of n) (row_of t) (row_of s)
            (they_call rules number None t (Some s) n w.need)).1

    -- ---- at a position

    pub at_position : (last : Option CellId) (old new : List Need) → slice_get fresh k ≡ Some s
        → Gains Beside (UpTo last (IsNeedWithBefore rules number fresh k s)) old new
        → Gains (IsNeedOfTwo rules number fresh) (UpTo last (IsNeedAtPosition rules number fresh k)) old new
    at_position last old new at g = gains_as Beside (UpTo last (IsNeedWithBefore rules number fresh k s)) (IsNeedOfTwo rules number fresh)
        (UpTo last (IsNeedAtPosition rules number fresh k)) old new two (λ n w. (its n w.0, w.1)) g
      where
        two : (n : Need) → Beside n → IsNeedOfTwo rules number fresh n
        two n (t, h, inl w) = (s, t, got_in fresh k s at, h, w)
        two n (t, h, inr w) = (t, s, h, got_in fresh k s at, w)

        its : (n : Need) → IsNeedAtPosition rules number fresh k n → IsNeedWithBefore rules number fresh k s n
        its n (t, there, w) = subst (λ u. IsNeedWithBefore rules number fresh k u n) (let both : Some t ≡ Some s = sym there ∙ at in cc) w

  pub none_at : (k : ℕ) (needs : List Need) → slice_get fresh k ≡ None → Gains (IsNeedOfTwo rules number fresh) (IsNeedAtPosition rules number fresh k) needs
      needs
  none_at k needs none = gains_none (IsNeedOfTwo rules number fresh) (IsNeedAtPosition rules number fresh k) needs (λ n w. by w.0 w.1)
    where
      by : (t : Version) → slice_get fresh k ≡ Some t → ⊥
      by t at = let clash : None ≡ Some t = sym none ∙ at in cc

  -- ---- position after position

  abbrev pub IsNeedBefore : ℕ → Need → Type 0
  IsNeedBefore m n = (k : ℕ) × (k < m) × IsNeedAtPosition rules number fresh k n

  abbrev Two : Need → Type 0
  Two = IsNeedOfTwo rules number fresh

  pub no_position_yet : (needs : List Need) → Gains Two (IsNeedBefore 0) needs needs
  no_position_yet needs = gains_none Two (IsNeedBefore 0) needs (λ n w. let less = w.1 in omega (arith, less))

  -- what isn't added stands behind a need of the list
  its_rule : (m : ℕ) (n : Need) → IsNeedAtPosition rules number fresh m n → n.rule ≡ number
  its_rule m n (s, at, (i, t, less, got, inl w)) = w.need.rule
  its_rule m n (s, at, (i, t, less, got, inr w)) = w.need.rule

  passed : (last : Option CellId) (leaves_out : Bool) (needs : List Need) → IfSome last (HasBreakAt rules leaves_out number needs) → (n : Need) →
      n.rule ≡ number
      → is_past last n.first.cell ≡ true → (m : Need) × Contains needs m × Passes rules leaves_out m n
  passed None leaves_out needs breaking n rule e = absurd (false≢true e)
  passed (Some q) leaves_out needs (m, listed, breaking, its, cell) n rule e =
      (m, listed, (breaking, less_by_cell m n (rule ∙ sym its) (ap (λ r. is_gt (cell_cmp n.first.cell r)) cell ∙ e)))

  pub one_position_more : (last : Option CellId) (leaves_out : Bool) (m : ℕ) (old middle new : List Need)
      → IfSome last (HasBreakAt rules leaves_out number middle)
      → Reaches (Passes rules leaves_out) Two (IsNeedBefore m) old middle
      → Gains Two (UpTo last (IsNeedAtPosition rules number fresh m)) middle new → Reaches (Passes rules leaves_out) Two (IsNeedBefore (m + 1)) old new
  one_position_more last leaves_out m old middle new breaking g h =
      reaches_both (Passes rules leaves_out) Two (IsNeedBefore m) (IsNeedAtPosition rules number fresh m) (IsNeedBefore (m + 1)) old middle new split g
      (record { kept = h.kept; only = h.only; every = λ n w. by n w (is_past last n.first.cell) refl })
    where
      split : (n : Need) → IsNeedBefore (m + 1) n → IsNeedBefore m n ⊎ IsNeedAtPosition rules number fresh m n
      split n (k, less, w) = elim (cases_lt k m) [
        | inl earlier ↦ inl (k, earlier, w)
        | inr late ↦ (let here : k ≡ m = omega (arith, less, late) in inr (subst (λ j. IsNeedAtPosition rules number fresh j n) here w))
      ]

      by : (n : Need) → IsNeedAtPosition rules number fresh m n → (b : Bool) → is_past last n.first.cell ≡ b → IsListedOrPassed (Passes rules leaves_out) new n
      by n w false e = inl (h.every n (w, e))
      by n w true e = let (j, listed, passes) = passed last leaves_out middle breaking n (its_rule m n w) e in inr (j, h.kept j listed, passes)

  two_before : (m : ℕ) → length fresh ≤ m → (n : Need) → Two n → IsNeedBefore m n
  two_before m past n (s, t, (i, below, is), (j, under, is_too), w) = by
    where
      first : slice_get fresh i ≡ Some s
      first = got_by fresh i s below is

      second : slice_get fresh j ≡ Some t
      second = got_by fresh j t under is_too

      one : i ≡ j → ⊥
      one same =
          let alike : s ≡ t = let both : Some s ≡ Some t = sym first ∙ ap (slice_get fresh) same ∙ second in cc in
          not_itself cell_cmp_total s.id.cell (ap (λ u. cell_cmp s.id.cell u.id.cell) alike ∙ w.ascending)

      by : IsNeedBefore m n
      by = elim (cases_lt i j) [
        | inl less ↦ (j, omega (arith, under, past), (t, second, (i, s, less, first, inr w)))
        | inr most ↦ elim (cases_lt j i) [
          | inl less ↦ (i, omega (arith, below, past), (s, first, (j, t, less, second, inl w)))
          | inr least ↦ absurd (one (omega (arith, most, least)))
        ]
      ]

  pub all_positions : (leaves_out : Bool) (m : ℕ) (old new : List Need) → length fresh ≤ m → Reaches (Passes rules leaves_out) Two (IsNeedBefore m) old new
      → Reaches (Passes rules leaves_out) Two Two old new
  all_positions leaves_out m old new past g = reaches_as (Passes rules leaves_out) Two (IsNeedBefore m) Two Two old new (λ n w. w) (two_before m past) g
