-- Needs of versions that are held against one another: which one is added, and which others are wanted.
use Rattle.std.proofs.Common.{◌≡◌, ◌∙◌, ◌<◌, ◌≤◌, ◌+◌, ℕ, Bool, true, false, ◌&&◌, List, [], ◌∷◌, ◌++◌, ◌⊎◌, inl, inr, Option, Some, None, refl, sym, ap, subst}
use Rattle.std.proofs.Common.{arith, Contains, length, get_or, take}
use Rattle.std.specs.Option.{option_map}
use Rattle.std.specs.declared.cmp.Ordering.{Ordering}
use Rattle.std.specs.declared.cmp.Ordering.TheVariants.{Less, Equal, Greater}
use Rattle.std.specs.Ordering.{ordering_reverse}
use Rattle.std.proofs.lemmas.Bool.{and_from, and_parts, cases_lt, false≢true, or_left, or_right}
use Rattle.std.proofs.lemmas.Bool.Decides.{Decides-eqb}
use Rattle.clr_rows.specs.Cells.{cell_cmp}
use Rattle.clr_rows.specs.Held.{Held}
use Rattle.clr_rows.proofs.CellOrder.{cell_cmp_total}
use Rattle.clr_rules.specs.declared.needs.Ask.{Ask}
use Rattle.clr_rules.specs.declared.rules.Rule.{Rule}
use Rattle.clr_rules.specs.Calls.{ask_of_parts, calls, part_count, plain_ask, serves}
use Rattle.clr_rules.proofs.CallLaws.{alone_parts, first_part_there, second_part_there, subjects_beside}
use Rattle.clr_rules.proofs.Elements.{not_both}
use Rattle.clr_needs.specs.declared.needs.Need.{Need}
use Rattle.clr_needs.specs.declared.needs.VersionId.{VersionId}
use Rattle.clr_row_versions.specs.declared.versions.Version.{Version}
use Rattle.clr_row_versions.specs.Candidates.{IsNeedAmong, IsServerAmong, IsNeedOf, IsNeedOfAsk, IsNeedOfPair, IsNeedOfPart, are_opposed, id_of, is_asked}
use Rattle.clr_row_versions.specs.Candidates.{is_of_two_under, may_be_paired, serves_if_any}
use Rattle.clr_row_versions.specs.Gains.{Gains, GainsSome}
use Rattle.clr_needs.specs.Needs.{AreOpposed, ask_of, need_of}
use Rattle.clr_needs.specs.Settings.{Lifetime, With, Without}
use Rattle.clr_row_versions.specs.Versions.{row_and_life, row_of}
use Rattle.clr_row_versions.proofs.AskLaws.{two_asked}
use Rattle.clr_needs.proofs.Reading.{all_taken, item_in, none_taken, one_more}
use Rattle.clr_row_versions.proofs.Gaining.{gains_as, gains_both, gains_none, gains_one, some_as, then_some}

-- ---- opposed lives

pub opposed_told : (l m : Lifetime ℕ) → AreOpposed l m → are_opposed l m ≡ true
opposed_told (With m) (Without n) e = (Decides-eqb m n).1 e
opposed_told (Without m) (With n) e = (Decides-eqb m n).1 e
opposed_told _ _ e = absurd e

pub told_opposed : (l m : Lifetime ℕ) → are_opposed l m ≡ true → AreOpposed l m
told_opposed (With m) (Without n) e = (Decides-eqb m n).0 e
told_opposed (Without m) (With n) e = (Decides-eqb m n).0 e
told_opposed _ _ e = absurd (false≢true e)

-- ---- one need

pub asked_without_server : (x y z : Bool) → z ≡ x → z ≡ false → (x && y) ≡ false
asked_without_server x y z is fails = ap (λ b. b && y) (sym is ∙ fails)

pub asked_without_call : (x y z : Bool) → z ≡ y → z ≡ false → (x && y) ≡ false
asked_without_call true y z is fails = sym is ∙ fails
asked_without_call false y z is fails = refl

pub both_told : (x y v w : Bool) → v ≡ x → w ≡ y → v ≡ true → w ≡ true → (x && y) ≡ true
both_told x y v w is is_too passes passes_too = (λ i. sym is i && sym is_too i) ∙ (λ i. passes i && passes_too i)

module _ (rules : List Rule) (number : ℕ) (r : Option Version) (s : Version) where
  pub they_call : (t : Option Version) (n : Need) → IsNeedOf rules number r s t n → calls rules (ask_of n) (row_of s) (option_map row_of t) ≡ true
  they_call t n w = (and_parts (serves_if_any rules (ask_of n) s t r) (calls rules (ask_of n) (row_of s) (option_map row_of t)) w.asked).1

  -- the need of an ask
  pub asked_need : (t : Option Version) (ask : Ask) (n : Need) → ask.rule ≡ number → n ≡ need_of ask s.id (option_map id_of t) → is_asked rules ask r s t ≡ true
      → IsNeedOf rules number r s t n
  asked_need t ask n rule is asked = subst (IsNeedOf rules number r s t) (sym is) (record { rule = rule; first = refl; second = refl; asked = asked })

  need_is : (t : Option Version) (n : Need) → IsNeedOf rules number r s t n → n ≡ need_of (ask_of n) s.id (option_map id_of t)
  need_is t n w = λ i. record { rule = n.rule; first = w.first i; second = w.second i; first_part = n.first_part; second_part = n.second_part }

  pub same_need : (t : Option Version) (ask : Ask) (n : Need) → IsNeedOf rules number r s t n → ask_of n ≡ ask → n ≡ need_of ask s.id (option_map id_of t)
  same_need t ask n w is = need_is t n w ∙ ap (λ a. need_of a s.id (option_map id_of t)) is

  -- a version alone is asked as a whole
  pub plain_need : (n : Need) → IsNeedOf rules number r s None n → ask_of n ≡ plain_ask number
  plain_need n w = let parts = alone_parts rules (ask_of n) (row_of s) (they_call None n w) in λ i. record {
    rule = w.rule i;
    first_part =
        parts.0 i;
    second_part = parts.1 i;
  }

  not_asked : (t : Option Version) (ask : Ask) (n : Need) → is_asked rules ask r s t ≡ false → IsNeedOf rules number r s t n → ask_of n ≡ ask → ⊥
  not_asked t ask n fails w is = false≢true (sym fails ∙ ap (λ a. is_asked rules a r s t) (sym is) ∙ w.asked)

  module _ (needs : List Need) where
    pub add_alone : (new : List Need) (n : Need) → new ≡ needs ++ n ∷ [] → n ≡ need_of (plain_ask number) s.id None → is_asked rules (plain_ask number) r s None
        ≡ true
        → Gains (IsNeedOf rules number r s None) (IsNeedOf rules number r s None) needs new
    add_alone new n is named asked = gains_one (IsNeedOf rules number r s None) (IsNeedOf rules number r s None) needs new n is
        (asked_need None (plain_ask number) n refl named asked)
        (λ x w. same_need None (plain_ask number) x w (plain_need x w) ∙ sym named)

    pub none_alone : is_asked rules (plain_ask number) r s None ≡ false → Gains (IsNeedOf rules number r s None) (IsNeedOf rules number r s None) needs needs
    none_alone fails = gains_none (IsNeedOf rules number r s None) (IsNeedOf rules number r s None) needs (λ x w. not_asked None (plain_ask number) x fails w
        (plain_need x w))

  -- the number of a part
  pub first_within : (t : Version) (n : Need) → IsNeedOf rules number r s (Some t) n → n.first_part ≤ part_count rules number (row_of s)
  first_within t n w =
      let (k, less, is) = first_part_there rules (ask_of n) (row_of s) (Some (row_of t)) (they_call (Some t) n w) in
      let below : k < part_count rules number (row_of s) = subst (λ j. k < part_count rules j (row_of s)) w.rule less in
      omega (arith, below, is)

  pub second_within : (t : Version) (n : Need) → IsNeedOf rules number r s (Some t) n → n.second_part ≤ part_count rules number (row_of t)
  second_within t n w =
      let (k, less, is) = second_part_there rules (ask_of n) (row_of s) (row_of t) (they_call (Some t) n w) in
      let below : k < part_count rules number (row_of t) = subst (λ j. k < part_count rules j (row_of t)) w.rule less in
      omega (arith, below, is)

  -- the parts are numbered from 1
  pub first_counted : (t : Version) (n : Need) → IsNeedOf rules number r s (Some t) n → 1 ≤ n.first_part
  first_counted t n w = let (k, less, is) = first_part_there rules (ask_of n) (row_of s) (Some (row_of t)) (they_call (Some t) n w) in omega (arith, is)

  pub second_counted : (t : Version) (n : Need) → IsNeedOf rules number r s (Some t) n → 1 ≤ n.second_part
  second_counted t n w = let (k, less, is) = second_part_there rules (ask_of n) (row_of s) (row_of t) (they_call (Some t) n w) in omega (arith, is)

module _ (rules : List Rule) (ask : Ask) (r : Option Version) (s t : Version) (needs : List Need) where
  pub add_asked : (new : List Need) (n : Need) → new ≡ needs ++ n ∷ [] → n ≡ need_of ask s.id (Some t.id) → is_asked rules ask r s (Some t) ≡ true
      → Gains (IsNeedOf rules ask.rule r s (Some t)) (IsNeedOfAsk rules ask r s t) needs new
  add_asked new n is named asked = gains_one (IsNeedOf rules ask.rule r s (Some t)) (IsNeedOfAsk rules ask r s t) needs new n is
      (asked_need rules ask.rule r s (Some t) ask n refl named asked)
      (λ x w. same_need rules ask.rule r s (Some t) ask x w.need w.is ∙ sym named)

  pub none_asked : is_asked rules ask r s (Some t) ≡ false → Gains (IsNeedOf rules ask.rule r s (Some t)) (IsNeedOfAsk rules ask r s t) needs needs
  none_asked fails = gains_none (IsNeedOf rules ask.rule r s (Some t)) (IsNeedOfAsk rules ask r s t) needs (λ x w. not_asked rules ask.rule r s (Some t) ask x
      fails w.need w.is)

-- ---- part after part

module _ (rules : List Rule) (number : ℕ) (r : Option Version) (s t : Version) where
  -- the needs of one part with the parts up to a number
  pub record IsUpTo (from to : ℕ) (n : Need) : Type 0 where
    pub of : IsNeedOfPart rules number r s t from n
    pub most : n.second_part ≤ to

  -- the needs of the parts up to a number
  pub record IsFromUpTo (to : ℕ) (n : Need) : Type 0 where
    pub of : IsNeedOf rules number r s (Some t) n
    pub most : n.first_part ≤ to

  pub no_part_yet : (from : ℕ) (needs : List Need) → Gains (IsNeedOf rules number r s (Some t)) (IsUpTo from 0) needs needs
  no_part_yet from needs = gains_none (IsNeedOf rules number r s (Some t)) (IsUpTo from 0) needs
      (λ n w. let low = second_counted rules number r s t n w.of.need in let high = w.most in omega (arith, low, high))

  pub one_part_more : (from k : ℕ) (ask : Ask) (old middle new : List Need) → ask ≡ ask_of_parts number from (k + 1)
      → Gains (IsNeedOf rules number r s (Some t)) (IsUpTo from k) old middle
      → Gains (IsNeedOf rules ask.rule r s (Some t)) (IsNeedOfAsk rules ask r s t) middle new
      → Gains (IsNeedOf rules number r s (Some t)) (IsUpTo from (k + 1)) old new
  one_part_more from k ask old middle new is g h =
      gains_both (IsNeedOf rules number r s (Some t)) (IsUpTo from k) (IsNeedOfAsk rules (ask_of_parts number from (k + 1)) r s t) (IsUpTo from (k + 1)) old
      middle new split g
      (subst (λ a. Gains (IsNeedOf rules a.rule r s (Some t)) (IsNeedOfAsk rules a r s t) middle new) is h)
    where
      split : (n : Need) → IsUpTo from (k + 1) n → IsUpTo from k n ⊎ IsNeedOfAsk rules (ask_of_parts number from (k + 1)) r s t n
      split n w = elim (cases_lt n.second_part (k + 1)) [
        | inl less ↦ inl (record { of = w.of; most = omega (arith, less) })
        | inr last ↦ (let high = w.most in
            let here : n.second_part ≡ k + 1 = omega (arith, last, high) in
            inr (record { need = w.of.need; is = λ i. record { rule = w.of.need.rule i; first_part = w.of.part i; second_part = here i } }))
      ]

  pub all_parts : (from k : ℕ) (old new : List Need) → part_count rules number (row_of t) ≤ k
      → Gains (IsNeedOf rules number r s (Some t)) (IsUpTo from k) old new
      → Gains (IsNeedOf rules number r s (Some t)) (IsNeedOfPart rules number r s t from) old new
  all_parts from k old new past g = gains_as (IsNeedOf rules number r s (Some t)) (IsUpTo from k) (IsNeedOf rules number r s (Some t))
      (IsNeedOfPart rules number r s t from) old new (λ n w. w)
      (λ n w. record { of = w; most = (let high = second_within rules number r s t n w.need in omega (arith, high, past)) }) g

  pub no_first_yet : (needs : List Need) → Gains (IsNeedOf rules number r s (Some t)) (IsFromUpTo 0) needs needs
  no_first_yet needs = gains_none (IsNeedOf rules number r s (Some t)) (IsFromUpTo 0) needs
      (λ n w. let low = first_counted rules number r s t n w.of in let high = w.most in omega (arith, low, high))

  pub one_first_more : (k from : ℕ) (old middle new : List Need) → from ≡ k + 1 → Gains (IsNeedOf rules number r s (Some t)) (IsFromUpTo k) old middle
      → Gains (IsNeedOf rules number r s (Some t)) (IsNeedOfPart rules number r s t from) middle new
      → Gains (IsNeedOf rules number r s (Some t)) (IsFromUpTo (k + 1)) old new
  one_first_more k from old middle new is g h =
      gains_both (IsNeedOf rules number r s (Some t)) (IsFromUpTo k) (IsNeedOfPart rules number r s t from) (IsFromUpTo (k + 1)) old middle new split g h
    where
      split : (n : Need) → IsFromUpTo (k + 1) n → IsFromUpTo k n ⊎ IsNeedOfPart rules number r s t from n
      split n w = elim (cases_lt n.first_part (k + 1)) [
        | inl less ↦ inl (record { of = w.of; most = omega (arith, less) })
        | inr last ↦ (let high = w.most in inr (record { need = w.of; part = omega (arith, last, high, is) }))
      ]

  pub all_firsts : (k : ℕ) (old new : List Need) → part_count rules number (row_of s) ≤ k → Gains (IsNeedOf rules number r s (Some t)) (IsFromUpTo k) old new
      → Gains (IsNeedOf rules number r s (Some t)) (IsNeedOf rules number r s (Some t)) old new
  all_firsts k old new past g = gains_as (IsNeedOf rules number r s (Some t)) (IsFromUpTo k) (IsNeedOf rules number r s (Some t))
      (IsNeedOf rules number r s (Some t)) old new (λ n w. w)
      (λ n w. record { of = w; most = (let high = first_within rules number r s t n w in omega (arith, high, past)) }) g

-- ---- pairs

module _ (rules : List Rule) (number : ℕ) (r : Option Version) (s t : Version) where
  abbrev Pair : Need → Type 0
  Pair = IsNeedOfPair rules number r s t

  -- never both
  pub opposed_pair : (needs : List Need) → are_opposed (row_and_life s).life (row_and_life t).life ≡ true → Gains Pair Pair needs needs
  opposed_pair needs opposed = gains_none Pair Pair needs none
    where
      none : (n : Need) → Pair n → ⊥
      none n (inl w) = w.not_opposed (told_opposed (row_and_life s).life (row_and_life t).life opposed)
      none n (inr w) = w.not_opposed (opposed_back (row_and_life s).life (row_and_life t).life (told_opposed (row_and_life s).life (row_and_life t).life
          opposed))
        where
          opposed_back : (l m : Lifetime ℕ) → AreOpposed l m → AreOpposed m l
          opposed_back (With m) (Without n) e = sym e
          opposed_back (Without m) (With n) e = sym e
          opposed_back _ _ e = absurd e

  pub one_cell : (needs : List Need) → cell_cmp s.id.cell t.id.cell ≡ Equal → Gains Pair Pair needs needs
  one_cell needs tie = gains_none Pair Pair needs none
    where
      back : cell_cmp t.id.cell s.id.cell ≡ Equal
      back = cell_cmp_total.antisymm t.id.cell s.id.cell ∙ ap ordering_reverse tie

      differ : (o : Ordering) → o ≡ Equal → o ≡ Less → ⊥
      differ Less e f = cc
      differ Equal e f = cc
      differ Greater e f = cc

      none : (n : Need) → Pair n → ⊥
      none n (inl w) = differ (cell_cmp s.id.cell t.id.cell) tie w.ascending
      none n (inr w) = differ (cell_cmp t.id.cell s.id.cell) back w.ascending

  not_told : are_opposed (row_and_life s).life (row_and_life t).life ≡ false → ¬ (AreOpposed (row_and_life s).life (row_and_life t).life)
  not_told fails opposed = false≢true (sym fails ∙ opposed_told (row_and_life s).life (row_and_life t).life opposed)

  pub ordered_pair : are_opposed (row_and_life s).life (row_and_life t).life ≡ false → cell_cmp s.id.cell t.id.cell ≡ Less → (n : Need)
      → IsNeedOf rules number r s (Some t) n → Pair n
  ordered_pair fails less n w = inl (record { ascending = less; not_opposed = not_told fails; need = w })

  pub in_order : (old new : List Need) → are_opposed (row_and_life s).life (row_and_life t).life ≡ false → cell_cmp s.id.cell t.id.cell ≡ Less
      → Gains (IsNeedOf rules number r s (Some t)) (IsNeedOf rules number r s (Some t)) old new → Gains Pair Pair old new
  in_order old new fails less g = gains_as (IsNeedOf rules number r s (Some t)) (IsNeedOf rules number r s (Some t)) Pair Pair old new
      (ordered_pair fails less) back g
    where
      back : (n : Need) → Pair n → IsNeedOf rules number r s (Some t) n
      back n (inl w) = w.need
      back n (inr w) = absurd (not_both cell_cmp_total s.id.cell t.id.cell less w.ascending)

  pub some_in_order : (old new : List Need) → are_opposed (row_and_life s).life (row_and_life t).life ≡ false → cell_cmp s.id.cell t.id.cell ≡ Less
      → GainsSome (IsNeedOf rules number r s (Some t)) old new → GainsSome Pair old new
  some_in_order old new fails less g = some_as Pair (IsNeedOf rules number r s (Some t)) old new (ordered_pair fails less) g

module _ (rules : List Rule) (number : ℕ) (r : Option Version) (s t : Version) where
  turned_pair : (n : Need) → IsNeedOfPair rules number r s t n → IsNeedOfPair rules number r t s n
  turned_pair n (inl w) = inr w
  turned_pair n (inr w) = inl w

  pub pair_back : (n : Need) → IsNeedOfPair rules number r t s n → IsNeedOfPair rules number r s t n
  pair_back n (inl w) = inr w
  pair_back n (inr w) = inl w

  pub turned_less : cell_cmp s.id.cell t.id.cell ≡ Greater → cell_cmp t.id.cell s.id.cell ≡ Less
  turned_less more = cell_cmp_total.antisymm t.id.cell s.id.cell ∙ ap ordering_reverse more

  pub turned_told : (l m : Lifetime ℕ) → are_opposed l m ≡ false → are_opposed m l ≡ false
  turned_told l m fails = by (are_opposed m l) refl
    where
      back : AreOpposed m l → AreOpposed l m
      back e = go m l e
        where
          go : (m l : Lifetime ℕ) → AreOpposed m l → AreOpposed l m
          go (With m) (Without n) e = sym e
          go (Without m) (With n) e = sym e
          go _ _ e = absurd e

      by : (b : Bool) → are_opposed m l ≡ b → are_opposed m l ≡ false
      by false e = e
      by true e = absurd (false≢true (sym fails ∙ opposed_told l m (back (told_opposed m l e))))

  pub in_turned_order : (old new : List Need) → are_opposed (row_and_life s).life (row_and_life t).life ≡ false → cell_cmp s.id.cell t.id.cell ≡ Greater
      → Gains (IsNeedOf rules number r t (Some s)) (IsNeedOf rules number r t (Some s)) old new
      → Gains (IsNeedOfPair rules number r s t) (IsNeedOfPair rules number r s t) old new
  in_turned_order old new fails more g =
      gains_as (IsNeedOfPair rules number r t s) (IsNeedOfPair rules number r t s) (IsNeedOfPair rules number r s t) (IsNeedOfPair rules number r s t) old new
      pair_back turned_pair
      (in_order rules number r t s old new (turned_told (row_and_life s).life (row_and_life t).life fails) (turned_less more) g)

  pub some_in_turned_order : (old new : List Need) → are_opposed (row_and_life s).life (row_and_life t).life ≡ false → cell_cmp s.id.cell t.id.cell ≡ Greater
      → GainsSome (IsNeedOf rules number r t (Some s)) old new → GainsSome (IsNeedOfPair rules number r s t) old new
  some_in_turned_order old new fails more g =
      some_as (IsNeedOfPair rules number r s t) (IsNeedOfPair rules number r t s) old new pair_back
      (some_in_order rules number r t s old new (turned_told (row_and_life s).life (row_and_life t).life fails) (turned_less more) g)

-- ---- one version after another

module _ (rules : List Rule) (number : ℕ) (r : Option Version) (s : Version) (others : List Version) where
  abbrev Among : List Version → Need → Type 0
  Among ts = IsNeedAmong rules number r s ts

  pub no_pairs : (needs : List Need) (told : Bool) → told ≡ is_of_two_under rules number → told ≡ false → Gains (Among others) (Among others) needs needs
  no_pairs needs told is fails = gains_none (Among others) (Among others) needs (λ n w. by n w.0 w.2)
    where
      two : (x y : Version) (n : Need) → IsNeedOf rules number r x (Some y) n → ⊥
      two x y n w = false≢true (sym fails ∙ is ∙ ap (is_of_two_under rules) (sym w.rule)
          ∙ two_asked rules (ask_of n) (row_of x) (row_of y) (they_call rules number r x (Some y) n w))

      by : (n : Need) (t : Version) → IsNeedOfPair rules number r s t n → ⊥
      by n t (inl w) = two s t n w.need
      by n t (inr w) = two t s n w.need

  pub no_pair_yet : (needs : List Need) → Gains (Among others) (Among (take 0 others)) needs needs
  no_pair_yet needs = gains_none (Among others) (Among (take 0 others)) needs (λ n w. none_taken others w.0 w.1)

  pub one_pair_more : (k : ℕ) (t : Version) (old middle new : List Need) → k < length others → t ≡ get_or others k t
      → Gains (Among others) (Among (take k others)) old middle
      → Gains (IsNeedOfPair rules number r s t) (IsNeedOfPair rules number r s t) middle new
      → Gains (Among others) (Among (take (k + 1) others)) old new
  one_pair_more k t old middle new less is g h =
      gains_both (Among others) (Among (take k others)) (IsNeedOfPair rules number r s t) (Among (take (k + 1) others)) old middle new split g
      (gains_as (IsNeedOfPair rules number r s t) (IsNeedOfPair rules number r s t) (Among others) (IsNeedOfPair rules number r s t) middle new
      (λ n w. (t, item_in others k t less is, w)) (λ n w. w) h)
    where
      split : (n : Need) → Among (take (k + 1) others) n → Among (take k others) n ⊎ IsNeedOfPair rules number r s t n
      split n w = by (one_more others k t w.0 less w.1)
        where
          by : Contains (take k others) w.0 ⊎ (w.0 ≡ get_or others k t) → Among (take k others) n ⊎ IsNeedOfPair rules number r s t n
          by (inl before) = inl (w.0, before, w.2)
          by (inr last) = inr (subst (λ u. IsNeedOfPair rules number r s u n) (last ∙ sym is) w.2)

  -- a call for one of them that finds no memory
  pub some_pairs : (k : ℕ) (t : Version) (old middle new : List Need) → k < length others → t ≡ get_or others k t
      → Gains (Among others) (Among (take k others)) old middle
      → GainsSome (IsNeedOfPair rules number r s t) middle new
      → GainsSome (Among others) old new
  some_pairs k t old middle new less is g h = then_some (Among others) (Among (take k others)) (IsNeedOfPair rules number r s t) old middle new
      (λ n w. (t, item_in others k t less is, w)) g h

  pub all_pairs : (k : ℕ) (old new : List Need) → length others ≤ k → Gains (Among others) (Among (take k others)) old new
      → Gains (Among others) (Among others) old new
  all_pairs k old new past g = gains_as (Among others) (Among (take k others)) (Among others) (Among others) old new (λ n w. w)
      (λ n w. (w.0, all_taken others k w.0 past w.1, w.2)) g

module _ (rules : List Rule) (ask : Ask) (s : Version) (t : Option Version) (others : List Version) where
  abbrev Serving : List Version → VersionId → Type 0
  Serving rs = IsServerAmong rules ask s t rs

  abbrev is_serving : Version → Bool
  is_serving r = serves rules ask (row_of s) (option_map row_of t) (row_of r)

  pub no_server_yet : (names : List VersionId) → Gains (Serving others) (Serving (take 0 others)) names names
  no_server_yet names = gains_none (Serving others) (Serving (take 0 others)) names (λ v w. none_taken others w.0 w.1)

  -- one that serves, and one that doesn't
  abbrev IsLast : Version → VersionId → Type 0
  IsLast r v = (r.id ≡ v) × (is_serving r ≡ true)

  split_server : (k : ℕ) (r : Version) (v : VersionId) → k < length others → r ≡ get_or others k r → Serving (take (k + 1) others) v → Serving (take k others) v
      ⊎ IsLast r v
  split_server k r v less is w = by (one_more others k r w.0 less w.1)
    where
      by : Contains (take k others) w.0 ⊎ (w.0 ≡ get_or others k r) → Serving (take k others) v ⊎ IsLast r v
      by (inl before) = inl (w.0, before, w.2, w.3)
      by (inr last) = inr (subst (λ u. IsLast u v) (last ∙ sym is) (w.2, w.3))

  pub one_server_more : (k : ℕ) (r : Version) (old middle new : List VersionId) → k < length others → r ≡ get_or others k r → is_serving r ≡ true → new ≡ middle
      ++ r.id ∷ []
      → Gains (Serving others) (Serving (take k others)) old middle → Gains (Serving others) (Serving (take (k + 1) others)) old new
  one_server_more k r old middle new less is serve put g =
      gains_both (Serving others) (Serving (take k others)) (IsLast r) (Serving (take (k + 1) others)) old middle new (λ v w. split_server k r v less is w) g
      (gains_one (Serving others) (IsLast r) middle new r.id put (r, item_in others k r less is, refl, serve) (λ v w. sym w.0))

  pub not_one_server : (k : ℕ) (r : Version) (old new : List VersionId) → k < length others → r ≡ get_or others k r → is_serving r ≡ false
      → Gains (Serving others) (Serving (take k others)) old new → Gains (Serving others) (Serving (take (k + 1) others)) old new
  not_one_server k r old new less is fails g =
      gains_both (Serving others) (Serving (take k others)) (IsLast r) (Serving (take (k + 1) others)) old new new (λ v w. split_server k r v less is w) g
      (gains_none (Serving others) (IsLast r) new (λ v w. false≢true (sym fails ∙ w.1)))

  pub all_servers : (k : ℕ) (old new : List VersionId) → length others ≤ k → Gains (Serving others) (Serving (take k others)) old new
      → Gains (Serving others) (Serving others) old new
  all_servers k old new past g = gains_as (Serving others) (Serving (take k others)) (Serving others) (Serving others) old new (λ v w. w)
      (λ v w. (w.0, all_taken others k w.0 past w.1, w.2, w.3)) g

-- ---- the sides of two subjects

-- each of two that call is of a side of two subjects
pub both_paired : (rules : List Rule) (ask : Ask) (s t : Held) → calls rules ask s (Some t) ≡ true → (may_be_paired rules ask.rule s ≡ true)
    × (may_be_paired rules ask.rule t ≡ true)
unfolding may_be_paired
both_paired rules ask s t e =
    let two = two_asked rules ask s t e in
    elim (subjects_beside rules ask s t e) [
      | inl w ↦ (and_from _ _ two (or_left _ _ w.0), and_from _ _ two (or_right _ _ w.1))
      | inr w ↦ (and_from _ _ two (or_right _ _ w.1), and_from _ _ two (or_left _ _ w.0))
    ]
