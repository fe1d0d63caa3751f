-- The least broken need of all, found among the needs of the first rules and rows.
use Rattle.std.proofs.Common.{◌≡◌, ◌⊎◌, inl, inr, ℕ, zero, suc, ◌<◌, ◌≤◌, ◌+◌, true, false, List, [], ◌∷◌, Option, Some, None, Contains, slice_get, map, take}
use Rattle.std.proofs.Common.{drop, length, get_or, refl, sym, ap, subst, ◌∙◌, arith}
use Rattle.std.proofs.lemmas.Bool.{cases_lt, false≢true, true≢false}
use Rattle.std.proofs.lemmas.Cmp.{ranked}
use Rattle.std.specs.Cmp.{nat_cmp_total, tied_itself}
use Rattle.std.specs.List.Sorted.{IsStrictlySortedBy}
use Rattle.std.specs.Option.{option_cmp}
use Rattle.std.specs.Ordering.{is_gt, is_le, nat_cmp, ordering_reverse, ordering_then}
use Rattle.std.specs.declared.cmp.Ordering.{Ordering}
use Rattle.std.specs.declared.cmp.Ordering.TheVariants.{Less, Equal, Greater}
use Rattle.clr_rows.specs.declared.cells.CellId.{CellId}
use Rattle.clr_rows.specs.Cells.{cell_cmp}
use Rattle.clr_rows.specs.Contents.{Content, row_at}
use Rattle.clr_rows.specs.Held.{Held, held_of}
use Rattle.clr_rows.specs.declared.cells.Held.{Held as Borrowed}
use Rattle.clr_rows.proofs.CellOrder.{cell_cmp_total}
use Rattle.clr_rules.specs.declared.needs.Broken.{Broken}
use Rattle.clr_rules.specs.declared.rules.Rule.{Rule}
use Rattle.clr_rules.specs.Needs.{IsBroken, IsFirstBroken, ask_of, broken_cmp, broken_needs, rows_in}
use Rattle.clr_rules.proofs.AskLemmas.{less_number}
use Rattle.clr_rules.proofs.BrokenOrder.{broken_exact, broken_total}
use Rattle.clr_rules.proofs.BrokenLemmas.{lists_broken}
use Rattle.clr_rules.proofs.Elements.{Among, among, among_either, contained, each_of}
use Rattle.clr_audit.specs.Searches.{GainsBroken, AreInCellOrder, IsOfRow, IsBrokenAmong, IsLeastAmong, IsLeastListed, is_up_to}
use Rattle.clr_audit.proofs.AuditLaws.{broken_among, is_broken}
use Rattle.clr_audit.proofs.FitLaws.{rows_more}
use Rattle.clr_audit.proofs.Gaining.{gains_more}

-- ---- orders
first_differs : (x y : Ordering) → x ≡ Less → ordering_then x y ≡ Less
first_differs x y e = ap (λ o. ordering_then o y) e

lower_rule : (m c : Broken) → m.rule < c.rule → is_gt (broken_cmp m c) ≡ false
unfolding broken_cmp
lower_rule m c less = ap is_gt (first_differs _ _ (less_number m.rule c.rule less))

-- how needs of one rule are ordered, and those of one first cell
abbrev by_others : Broken → Broken → Ordering
by_others a b = ordering_then (option_cmp cell_cmp a.second b.second) (ordering_then (nat_cmp a.first_part b.first_part) (nat_cmp a.second_part b.second_part))

abbrev by_cells : Broken → Broken → Ordering
by_cells a b = ordering_then (cell_cmp a.first b.first) (by_others a b)

lower_first : (m c : Broken) → m.rule ≡ c.rule → cell_cmp m.first c.first ≡ Less → is_gt (broken_cmp m c) ≡ false
unfolding broken_cmp
lower_first m c same less = ap is_gt (ap (λ o. ordering_then o (by_cells m c)) (ap (nat_cmp m.rule) (sym same) ∙ tied_itself nat_cmp_total m.rule)
    ∙ first_differs (cell_cmp m.first c.first) (by_others m c) less)

before_next : (a x y : CellId) → is_gt (cell_cmp a x) ≡ false → cell_cmp x y ≡ Less → cell_cmp a y ≡ Less
before_next a x y not_after less = go (cell_cmp a x) refl
  where
    go : (r : Ordering) → cell_cmp a x ≡ r → cell_cmp a y ≡ Less
    go Less e = cell_cmp_total.trans a x y e less
    go Equal e = cell_cmp_total.congr a x y e ∙ less
    go Greater e = absurd (true≢false (sym (ap is_gt e) ∙ not_after))

not_greater : (r : Ordering) → is_le r ≡ true → is_gt r ≡ false
not_greater Less h = refl
not_greater Equal h = refl
not_greater Greater h = absurd (false≢true h)

up_to : (n : ℕ) (cell : CellId) (m : Broken) → is_up_to n cell m ≡ true → (m.rule < n) ⊎ ((m.rule ≡ n) × (is_gt (cell_cmp m.first cell) ≡ false))
up_to n cell m e = go (nat_cmp m.rule n) refl e
  where
    go : (r : Ordering) → r ≡ nat_cmp m.rule n → is_le (ordering_then r (cell_cmp m.first cell)) ≡ true → (m.rule < n)
        ⊎ ((m.rule ≡ n) × (is_gt (cell_cmp m.first cell) ≡ false))
    go Less is h = inl (ranked m.rule n Less is)
    go Equal is h = inr (ranked m.rule n Equal is, not_greater (cell_cmp m.first cell) h)
    go Greater is h = absurd (false≢true h)

same_least : (m b : Broken) → is_gt (broken_cmp m b) ≡ false → is_gt (broken_cmp b m) ≡ false → m ≡ b
same_least m b h k = go (broken_cmp m b) refl
  where
    go : (r : Ordering) → broken_cmp m b ≡ r → m ≡ b
    go Less e = absurd (true≢false (sym (ap is_gt (broken_total.antisymm b m ∙ ap ordering_reverse e)) ∙ k))
    go Equal e = broken_exact m b e
    go Greater e = absurd (true≢false (sym (ap is_gt e) ∙ h))

-- ---- a list in order
pub least_listed : (old new : List Broken) (m : Broken) → IsStrictlySortedBy broken_cmp new → ((b : Broken) → (Contains new b → Contains old b)
    × (Contains old b → Contains new b)) → slice_get new 0 ≡ Some m → IsLeastListed old m
unfolding IsStrictlySortedBy
least_listed old new m rising same is = record {
  listed = (same m).0 (contained m new (there new is));
  least = λ c h. go new rising is c (among c new ((same c).1 h));
}
  where
    there : (xs : List Broken) → slice_get xs 0 ≡ Some m → Among m xs
    there [] e = absurd (cc)
    there (x ∷ xs) e = inl (let first : x ≡ m = cc in first)

    go : (xs : List Broken) → IsStrictlySortedBy broken_cmp xs → slice_get xs 0 ≡ Some m → (c : Broken) → Among c xs → is_gt (broken_cmp m c) ≡ false
    go [] p e c h = absurd (cc)
    go (x ∷ xs) p e c (inl one) = let first : x ≡ m = cc in ap is_gt (ap (λ z. broken_cmp m z) (sym one ∙ first) ∙ tied_itself broken_total m)
    go (x ∷ xs) p e c (inr later) = let first : x ≡ m = cc in ap is_gt (ap (λ z. broken_cmp z c) (sym first)
        ∙ each_of (λ y. broken_cmp x y ≡ Less) c xs p.0 later)

-- ---- rows in order
later_row : (rows : List Borrowed) → AreInCellOrder (map held_of rows) → (i : ℕ) (s : Borrowed) (t : Held) → i < length rows → s ≡ get_or rows i s
    → Among t (map held_of (drop (i + 1) rows)) → cell_cmp s.cell t.0 ≡ Less
unfolding IsStrictlySortedBy
later_row [] p i s t less is h = absurd (omega (arith, less))
later_row (r ∷ rows) p zero s t less is h = subst (λ (x : Borrowed). cell_cmp x.cell t.0 ≡ Less) (sym is) (each_of (λ y. cell_cmp r.cell y.0
    ≡ Less) t (map held_of rows) p.0 h)
later_row (r ∷ rows) p (suc i) s t less is h = later_row rows p.1 i s t (omega (arith, less)) is
    (let next : suc i + 1 ≡ suc (i + 1) = omega arith in subst (λ (k : ℕ). Among t (map held_of (drop k (r ∷ rows)))) next h)

either_part : (rows : List Borrowed) (k : ℕ) (t : Held) → Among t (map held_of rows) → Among t (map held_of (take k rows)) ⊎ Among t (map held_of (drop k rows))
either_part [] k t h = absurd h
either_part (r ∷ rows) zero t h = inr h
either_part (r ∷ rows) (suc k) t (inl e) = inl (inl e)
either_part (r ∷ rows) (suc k) t (inr h) = elim (either_part rows k t h) [ inl a ↦ inl (inr a) | inr b ↦ inr b ]

-- ---- the needs of one row more
pub row_gained : (rules : List Rule) (rows : List Borrowed) (n i : ℕ) (s : Borrowed) (before list after : List Broken) → i < length rows → s ≡ get_or rows i s
    → GainsBroken rules (map held_of rows) (λ b h. (b.rule ≡ n) × Contains (map held_of (take i rows)) h.first) before list
    → GainsBroken rules (map held_of rows) (IsOfRow n (held_of s)) list after
    → GainsBroken rules (map held_of rows) (λ b h. (b.rule ≡ n) × Contains (map held_of (take (i + 1) rows)) h.first) before after
row_gained rules rows n i s before list after less is g k =
    gains_more rules (map held_of rows) (λ b h. (b.rule ≡ n) × Contains (map held_of (take i rows)) h.first) (IsOfRow n (held_of s)) (λ b h. (b.rule ≡ n)
    × Contains (map held_of (take (i + 1) rows)) h.first)
    before list after g k
    (λ b h w. elim (among_either h.first (map held_of (take i rows)) (held_of s
    ∷ []) (subst (Among h.first) (rows_more rows i s less is) (among h.first (map held_of (take (i + 1) rows)) w.1))) [
      | inl l ↦ inl (w.0, contained h.first (map held_of (take i rows)) l)
      | inr (inl e) ↦ inr (w.0, sym e)
      | inr (inr l) ↦ absurd l
    ])

-- ---- the least
pub least_found : (rules : List Rule) (rows : List Borrowed) (n i : ℕ) (s : Borrowed) (before list : List Broken) (m : Broken) → i < length rows → s
    ≡ get_or rows i s → AreInCellOrder (map held_of rows)
    → GainsBroken rules (map held_of rows) (λ b h. (b.rule ≡ n) × Contains (map held_of (take (i + 1) rows)) h.first) before list
    → IsLeastListed list m → is_up_to n s.cell m ≡ true → IsLeastAmong rules (map held_of rows) n before m
least_found rules rows n i s before list m less is rise gains first early = record { broken = gains.only m first.listed; least = least }
  where
    up : (m.rule < n) ⊎ ((m.rule ≡ n) × (is_gt (cell_cmp m.first s.cell) ≡ false))
    up = up_to n s.cell m early

    rule_low : (k : ℕ) → n < k → m.rule < k
    rule_low k more = elim up [ inl lower ↦ omega (arith, lower, more) | inr same ↦ omega (arith, same.0, more) ]

    later : (c : Broken) (h : IsBrokenAmong rules (map held_of rows) c) → c.rule ≡ n → Among h.first (map held_of (drop (i + 1) rows)) → is_gt (broken_cmp m c)
        ≡ false
    later c h same there = elim up [
      | inl lower ↦ lower_rule m c (omega (arith, lower, same))
      | inr equal ↦ lower_first m c (equal.0 ∙ sym same) (subst (λ q. cell_cmp m.first q ≡ Less) (sym (ap (λ (b : Broken). b.first) h.named))
          (before_next m.first s.cell h.first.0 equal.1 (later_row rows rise i s h.first less is there)))
    ]

    least : (c : Broken) → IsBrokenAmong rules (map held_of rows) c → Contains before c ⊎ (n ≤ c.rule) → is_gt (broken_cmp m c) ≡ false
    least c h (inl old) = first.least c (gains.stay c old)
    least c h (inr from) = elim (cases_lt n c.rule) [
      | inl more ↦ lower_rule m c (rule_low c.rule more)
      | inr no_more ↦ (let same : c.rule ≡ n = omega (arith, from, no_more) in
          elim (either_part rows (i + 1) h.first (among h.first (map held_of rows) h.listed)) [
            | inl found ↦ first.least c (gains.found c h (same, contained h.first (map held_of (take (i + 1) rows)) found))
            | inr there ↦ later c h same there
          ])
    ]

-- the least of all is the first that an audit lists
pub first_is : (rules : List Rule) (content : Content) (rows : List Held) (n : ℕ) (before : List Broken) (m : Broken) → rows ≡ rows_in content
    → GainsBroken rules rows (λ b h. b.rule < n) [] before
    → IsLeastAmong rules rows n before m → Some m ≡ slice_get (broken_needs rules content) 0
first_is rules content rows n before m rows_are gains_rows least_rows = go (slice_get (broken_needs rules content) 0) (lists_broken rules content).first
  where
    gains : GainsBroken rules (rows_in content) (λ b h. b.rule < n) [] before
    gains = subst (λ (r : List Held). GainsBroken rules r (λ b h. b.rule < n) [] before) rows_are gains_rows

    least : IsLeastAmong rules (rows_in content) n before m
    least = subst (λ (r : List Held). IsLeastAmong rules r n before m) rows_are least_rows

    among_rows : Contains [] m ⊎ IsBrokenAmong rules (rows_in content) m → IsBrokenAmong rules (rows_in content) m
    among_rows (inl h) = absurd (among m [] h)
    among_rows (inr h) = h

    is : IsBroken rules (row_at content) m
    is = is_broken rules content m (elim least.broken [ inl listed ↦ among_rows (gains.only m listed) | inr one ↦ one ])

    all : (c : Broken) → IsBroken rules (row_at content) c → is_gt (broken_cmp m c) ≡ false
    all c broken = let h = broken_among rules content c broken in elim (cases_lt c.rule n) [
      | inl lower ↦ least.least c h (inl (gains.found c h lower))
      | inr from ↦ least.least c h (inr from)
    ]

    go : (o : Option Broken) → IsFirstBroken rules (row_at content) o → Some m ≡ o
    go None holds = absurd (is.unmet (holds (ask_of m) is.first is.second is.need))
    go (Some b) first = ap Some (same_least m b (all b first.broken) (first.least m is))
