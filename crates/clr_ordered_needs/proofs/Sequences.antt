-- Members merged one after another: those up to a position have come in turn, and members that have come in turn are those up to a position.
use Rattle.std.proofs.Common.{◌≡◌, ◌∙◌, ◌≤◌, ℕ, zero, suc, Bool, true, false, ◌||◌, cond, List, [], ◌∷◌, inl, inr, refl, sym, ap, subst, arith}
use Rattle.std.proofs.Common.{Option, Some, None, take, unwrap_or}
use Rattle.std.proofs.lemmas.Bool.{cases_Bool, false≢true, true≢false, or_cases, or_left, or_right}
use Rattle.clr_rows.specs.declared.cells.CellId.{CellId}
use Rattle.clr_rules.specs.Needs.{BreaksNoMore, View}
use Rattle.clr_needs.specs.declared.needs.Need.{Need}
use Rattle.clr_needs.specs.Covers.{AreBlockers}
use Rattle.clr_needs.specs.Settings.{Setting, AreAmong, AreDisjoint, DoChange, Lived, changer, has, view_with}
use Rattle.clr_needs.proofs.Merges.{standing_row, taken_is}
use Rattle.clr_ordered_needs.specs.Covers.{EachHasCover, IsUncovered}
use Rattle.clr_ordered_needs.specs.Laws.{MergesInListAreTold}
use Rattle.clr_ordered_needs.specs.Turns.{Order, IsTransitive, ListsAll, is_earlier}
use Rattle.clr_ordered_needs.proofs.BreakLaws.{uncovered_breaks}
use Rattle.clr_ordered_needs.proofs.CoverLaws.{each_breaks_no_more}
use Rattle.clr_ordered_needs.proofs.Lists.{AreOnce, alike, stands_once}
use Rattle.clr_ordered_needs.proofs.UpToBlockers.{up_to_blockers_are_listed}

module _ {A : Type 0} (c : Setting A) where
  -- one after another ----------------------------------------------------------------------------

  pub later_there : (xs : List A) (n p : A) → is_earlier c.same xs n p ≡ true → has c.same xs p ≡ true
  later_there [] n p h = absurd (false≢true h)
  later_there (x ∷ xs) n p h = by (c.same x n) h (later_there xs n p)
    where
      by : (b : Bool) → cond b (has c.same xs p) (is_earlier c.same xs n p) ≡ true → (is_earlier c.same xs n p ≡ true → has c.same xs p ≡ true)
          → has c.same (x ∷ xs) p ≡ true
      by true g more = or_right (c.same x p) (has c.same xs p) g
      by false g more = or_right (c.same x p) (has c.same xs p) (more g)

  earlier_there : (xs : List A) (n p : A) → is_earlier c.same xs n p ≡ true → has c.same xs n ≡ true
  earlier_there [] n p h = absurd (false≢true h)
  earlier_there (x ∷ xs) n p h = by (c.same x n) refl h (earlier_there xs n p)
    where
      by : (b : Bool) → c.same x n ≡ b → cond b (has c.same xs p) (is_earlier c.same xs n p) ≡ true → (is_earlier c.same xs n p ≡ true
          → has c.same xs n ≡ true) → c.same x n || has c.same xs n ≡ true
      by true e g more = or_left (c.same x n) (has c.same xs n) e
      by false e g more = or_right (c.same x n) (has c.same xs n) (more g)

  -- a member that stands once stands nowhere behind itself
  not_behind : (x : A) (xs : List A) (p : A) → AreOnce c (x ∷ xs) → c.same x p ≡ true → has c.same xs p ≡ true → ⊥
  not_behind x xs p once same h = true≢false (sym h ∙ sym (alike c (has c.same xs) x p same) ∙ once.0)

  -- who is earlier among the rest is earlier
  earlier_too : (x : A) (xs : List A) (n p : A) → is_earlier c.same xs n p ≡ true → is_earlier c.same (x ∷ xs) n p ≡ true
  earlier_too x xs n p h = by (c.same x n)
    where
      by : (b : Bool) → cond b (has c.same xs p) (is_earlier c.same xs n p) ≡ true
      by true = later_there xs n p h
      by false = h

  transitive : (xs : List A) → AreOnce c xs → IsTransitive (is_earlier c.same xs)
  transitive [] once m n p h k = absurd (false≢true h)
  transitive (x ∷ xs) once m n p h k = by (c.same x m) refl h (c.same x n) refl k (transitive xs once.1 m n p)
    where
      by : (b : Bool) → c.same x m ≡ b → cond b (has c.same xs n) (is_earlier c.same xs m n) ≡ true → (d : Bool) → c.same x n ≡ d
          → cond d (has c.same xs p) (is_earlier c.same xs n p) ≡ true
          → (is_earlier c.same xs m n ≡ true → is_earlier c.same xs n p ≡ true → is_earlier c.same xs m p ≡ true)
          → cond b (has c.same xs p) (is_earlier c.same xs m p) ≡ true
      by true e g true f j more = absurd (not_behind x xs n once f g)
      by true e g false f j more = later_there xs n p j
      by false e g true f j more = absurd (not_behind x xs n once f (later_there xs m n g))
      by false e g false f j more = more g j

  -- the members up to a position have come in turn
  pub first_in_turn : (xs : List A) → AreOnce c xs → (k : ℕ) (n p : A) → is_earlier c.same xs n p ≡ true → has c.same (take k xs) p ≡ true
      → has c.same (take k xs) n ≡ true
  first_in_turn [] once k n p goes h = absurd (false≢true goes)
  first_in_turn (x ∷ xs) once zero n p goes h = absurd (false≢true h)
  first_in_turn (x ∷ xs) once (suc k) n p goes h = by (c.same x n) refl goes (first_in_turn xs once.1 k n p)
    where
      by : (b : Bool) → c.same x n ≡ b → cond b (has c.same xs p) (is_earlier c.same xs n p) ≡ true
          → (is_earlier c.same xs n p ≡ true → has c.same (take k xs) p ≡ true → has c.same (take k xs) n ≡ true) → c.same x n || has c.same (take k xs) n ≡ true
      by true e g more = or_left (c.same x n) (has c.same (take k xs) n) e
      by false e g more = elim (or_cases (c.same x p) (has c.same (take k xs) p) h) [
        | inl same ↦ absurd (not_behind x xs p once same (later_there xs n p g))
        | inr behind ↦ or_right (c.same x n) (has c.same (take k xs) n) (more g behind)
      ]

  -- members that have come in turn are those up to a position
  abbrev AreFirst : (A → Bool) → List A → ℕ → Type 0
  AreFirst s xs k = (y : A) → has c.same xs y ≡ true → s y ≡ has c.same (take k xs) y

  are_first : (s : A → Bool) (xs : List A) → AreOnce c xs → ((n p : A) → is_earlier c.same xs n p ≡ true → s p ≡ true → s n ≡ true) → (k : ℕ) × AreFirst s xs k
  are_first s [] once closed = (0, λ y h. absurd (false≢true h))
  are_first s (x ∷ xs) once closed = elim (cases_Bool (s x)) [
    | inl merged ↦ (let (k, first) = are_first s xs once.1 (λ n p goes. closed n p (earlier_too x xs n p goes)) in (suc k, with_head merged k first))
    | inr out ↦ (0, none out)
  ]
    where
      with_head : s x ≡ true → (k : ℕ) → AreFirst s xs k → (y : A) → has c.same (x ∷ xs) y ≡ true → s y ≡ c.same x y || has c.same (take k xs) y
      with_head merged k first y h = by (c.same x y) refl h
        where
          by : (b : Bool) → c.same x y ≡ b → b || has c.same xs y ≡ true → s y ≡ b || has c.same (take k xs) y
          by true e g = sym (alike c s x y e) ∙ merged
          by false e g = first y g

      none : s x ≡ false → (y : A) → has c.same (x ∷ xs) y ≡ true → s y ≡ false
      none out y h = elim (cases_Bool (s y)) [
        | inl merged ↦ elim (or_cases (c.same x y) (has c.same xs y) h) [
          | inl same ↦ sym (alike c s x y same) ∙ out
          | inr behind ↦ absurd (true≢false (sym (closed x y (ap (λ b. cond b (has c.same xs y) (is_earlier c.same xs x y)) ((c.decides x x).1 refl) ∙ behind)
              merged) ∙ out))
        ]
        | inr waits ↦ waits
      ]

  -- the first members of a list ------------------------------------------------------------------

  first_among : (xs : List A) (k : ℕ) (x : A) → has c.same (take k xs) x ≡ true → has c.same xs x ≡ true
  first_among [] zero x h = absurd (false≢true h)
  first_among [] (suc k) x h = absurd (false≢true h)
  first_among (y ∷ ys) zero x h = absurd (false≢true h)
  first_among (y ∷ ys) (suc k) x h = elim (or_cases (c.same y x) (has c.same (take k ys) x) h) [
    | inl same ↦ or_left (c.same y x) (has c.same ys x) same
    | inr g ↦ or_right (c.same y x) (has c.same ys x) (first_among ys k x g)
  ]

  first_among_more : (xs : List A) (j k : ℕ) → j ≤ k → (x : A) → has c.same (take j xs) x ≡ true → has c.same (take k xs) x ≡ true
  first_among_more [] zero k most x h = absurd (false≢true h)
  first_among_more [] (suc j) k most x h = absurd (false≢true h)
  first_among_more (y ∷ ys) zero k most x h = absurd (false≢true h)
  first_among_more (y ∷ ys) (suc j) zero most x h = absurd (omega (arith, most))
  first_among_more (y ∷ ys) (suc j) (suc k) most x h = elim (or_cases (c.same y x) (has c.same (take j ys) x) h) [
    | inl same ↦ or_left (c.same y x) (has c.same (take k ys) x) same
    | inr g ↦ or_right (c.same y x) (has c.same (take k ys) x) (first_among_more ys j k (omega (arith, most)) x g)
  ]

  -- the rows that some members give depend on who they are alone
  rows_of : AreDisjoint c → (ts us : List A) → AreAmong c ts c.members → AreAmong c us c.members → ((x : A) → has c.same ts x ≡ has c.same us x)
      → (q : CellId) → view_with c ts q ≡ view_with c us q
  rows_of apart ts us part part_too same q =
      taken_is c ts (record { apart = apart; part = part }) q ∙ by (changer c q) ∙ sym (taken_is c us (record { apart = apart; part = part_too }) q)
    where
      by : (x : Option A) → standing_row c ts q x ≡ standing_row c us q x
      by None = refl
      by (Some n) = ap (λ b. cond b (unwrap_or (c.after n q) (c.root q)) (c.root q)) (same n)

  module _ (list : List A) (all : ListsAll c list) where
    abbrev goes_first : Order A
    goes_first = is_earlier c.same list

    differ : AreOnce c list
    differ = stands_once c list all.once

    firsts_are_members : (k : ℕ) → AreAmong c (take k list) c.members
    firsts_are_members k x h = sym (all.members x) ∙ first_among list k x h

    order_breaks_no_more : AreDisjoint c → EachHasCover goes_first c → (j k : ℕ) → j ≤ k
        → BreaksNoMore c.rules (view_with c (take j list)) (view_with c (take k list))
    order_breaks_no_more apart each j k most =
        each_breaks_no_more goes_first c each apart (take j list) (take k list) (first_among_more list j k most) (firsts_are_members k)
        (λ n p goes member h. first_in_turn list differ k n p goes h)

    uncovered_breaks_on_the_way : AreDisjoint c → DoChange c → (n : Need) (a : Lived A) (b : Option (Lived A)) (blockers : List A)
        → AreBlockers c n a b blockers → IsUncovered goes_first c n a b → (k : ℕ) × ¬ (BreaksNoMore c.rules c.root (view_with c (take k list)))
    uncovered_breaks_on_the_way apart changes n a b blockers are uncovered =
        let (ts, up) = up_to_blockers_are_listed c goes_first n a b blockers uncovered.possible are in
        let (in_turn, broken) = uncovered_breaks goes_first c ts n a b apart changes (transitive list differ) uncovered up in
        let (k, first) = are_first (has c.same ts) list differ
        (λ m p goes h. in_turn m p goes (sym (all.members m) ∙ earlier_there list m p goes) h) in (
          k,
          λ works. broken (subst (λ (view : View). BreaksNoMore c.rules c.root view)
              (λ i q. sym (rows_of apart ts (take k list) up.part (firsts_are_members k) (same_as ts up.part k first) q) i) works),
        )
      where
        same_as : (ts : List A) → AreAmong c ts c.members → (k : ℕ) → AreFirst (has c.same ts) list k → (x : A) → has c.same ts x ≡ has c.same (take k list) x
        same_as ts part k first x = elim (cases_Bool (has c.same list x)) [
          | inl there ↦ first x there
          | inr out ↦ none (has c.same ts x) (has c.same (take k list) x) (λ h. all.members x ∙ part x h) (first_among list k x) out
        ]
          where
            none : (s t : Bool) → (s ≡ true → has c.same list x ≡ true) → (t ≡ true → has c.same list x ≡ true) → has c.same list x ≡ false → s ≡ t
            none false false one two out = refl
            none true t one two out = absurd (true≢false (sym (one refl) ∙ out))
            none false true one two out = absurd (true≢false (sym (two refl) ∙ out))

  pub merges_in_list_are_told : MergesInListAreTold c
  merges_in_list_are_told = record {
    covered = λ list apart all each. order_breaks_no_more list all apart each;
    uncovered = λ list apart changes all. uncovered_breaks_on_the_way list all apart changes;
  }
