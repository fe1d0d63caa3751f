-- Passes that show nothing show that the cut has all that it needs of the rows that they went over; and passes over two parts of a table make one.
use Rattle.std.proofs.Common.{◌≡◌, ◌∙◌, ◌⊎◌, ◌+◌, ◌<◌, ℕ, Bool, true, false, cond, List, [], ◌∷◌, ◌++◌, Option, Some, None, Contains, ap, arith, inl, inr}
use Rattle.std.proofs.Common.{count_by, is_some, length, length-append, map, refl, subst, sym}
use Rattle.std.specs.FinMap as finite
use Rattle.std.specs.List.{IsDistinct, flat_map}
use Rattle.std.specs.Ordering.{eq_by_cmp}
use Rattle.std.proofs.lemmas.Bool.{false≢true}
use Rattle.std.proofs.lemmas.Grind.{flat_map-append}
use Rattle.std.proofs.lemmas.List.{map-append}
use Rattle.std.proofs.lemmas.List.Folds.{list_all-append}
use Rattle.std.proofs.lemmas.List.Sums.{sum_by-cons}
use Rattle.clr_rows.specs.declared.cells.CellId.{CellId}
use Rattle.clr_rows.specs.declared.rows.Row.{Row}
use Rattle.clr_rows.specs.declared.tables.TableDef.{TableDef}
use Rattle.clr_rows.specs.Cells.{cell_cmp}
use Rattle.clr_rows.specs.Contents.{Changes, Content}
use Rattle.clr_rows.specs.Held.{Held}
use Rattle.clr_deltas.specs.Differences.{Differences}
use Rattle.clr_rules.specs.declared.rules.Rule.{Rule}
use Rattle.clr_rules.specs.Needs.{View}
use Rattle.clr_rules.proofs.Elements.{Among, among, among_either}
use Rattle.clr_needs.specs.Members.{setting}
use Rattle.clr_needs.specs.Settings.{Setting}
use Rattle.clr_row_versions.specs.Versions.{FitsSetting}
use Rattle.clr_cuts.specs.Cuts.{HasCell}
use Rattle.clr_cuts.specs.Passes.{AreRowsOf}
use Rattle.clr_reach.specs.declared.aims.Aim.{Aim}
use Rattle.clr_cut_rows.specs.declared.standings.Standing.{Standing}
use Rattle.clr_cut_rows.specs.declared.standings.Standing.TheVariants.{Has, HasOther, Lacks, Beyond}
use Rattle.clr_cut_rows.specs.Laws.{AreAllRight}
use Rattle.clr_cut_rows.specs.Standings.{IsStanding}
use Rattle.clr_cut_rows.proofs.StandingLemmas.{all_right}
use Rattle.clr_cut_passes.specs.declared.counts.PassCounts.{PassCounts}
use Rattle.clr_cut_passes.specs.Counts.{IsClean, counts_of, greatest, is_lacked, is_other, together, up_to_greatest}
use Rattle.clr_cut_passes.specs.Passes.{AreCountsOf, AreOfOwnCells, AreStandings}
use Rattle.clr_cut_passes.proofs.CleanLemmas.{clean_told}
use Rattle.clr_cut_passes.proofs.OfficeLemmas.{parts}
use Rattle.clr_layer_text.specs.declared.rows.LayerRow.{LayerRow}
use Rattle.clr_layer_text.specs.Layers.{cell_of, row_line}
use Rattle.clr_cut_streams.specs.declared.told.Told.{Told}
use Rattle.clr_cut_streams.specs.Laws.{HasToldOf, HaveTold, IsCutBesideListed, PrintNone, ShowNothing, TablePass, counts_passed, rows_passed, told_together}
use Rattle.clr_cut_streams.specs.Told.{HasTold, cells_of_cut, has_key, held_in, is_shown, other_line, others, shown, taken}
use Rattle.clr_cut_streams.proofs.TellingOn.{stand_both, taken_both}

-- a row stands in one way --------------------------------------------------------------------------

module _ (aim : Aim) (c : Setting ℕ) where
  one_standing : (s : Held) (x y : Standing) → IsStanding aim c s x → IsStanding aim c s y → x ≡ y
  one_standing s Has Has a b = refl
  one_standing s Has HasOther a (r, there, other) = let same : Some r ≡ Some s.1 = sym there ∙ a in absurd (other cc)
  one_standing s Has Lacks a b = let clash : None ≡ Some s.1 = sym b.0 ∙ a in absurd cc
  one_standing s Has Beyond a b = let clash : None ≡ Some s.1 = sym b.0 ∙ a in absurd cc
  one_standing s HasOther Has (r, there, other) b = let same : Some r ≡ Some s.1 = sym there ∙ b in absurd (other cc)
  one_standing s HasOther HasOther a b = refl
  one_standing s HasOther Lacks (r, there, other) b = let clash : None ≡ Some r = sym b.0 ∙ there in absurd cc
  one_standing s HasOther Beyond (r, there, other) b = let clash : None ≡ Some r = sym b.0 ∙ there in absurd cc
  one_standing s Lacks Has a b = let clash : None ≡ Some s.1 = sym a.0 ∙ b in absurd cc
  one_standing s Lacks HasOther a (r, there, other) = let clash : None ≡ Some r = sym a.0 ∙ there in absurd cc
  one_standing s Lacks Lacks a b = refl
  one_standing s Lacks Beyond a b = absurd (b.1 a.1)
  one_standing s Beyond Has a b = let clash : None ≡ Some s.1 = sym a.0 ∙ b in absurd cc
  one_standing s Beyond HasOther a (r, there, other) = let clash : None ≡ Some r = sym a.0 ∙ there in absurd cc
  one_standing s Beyond Lacks a b = absurd (a.1 b.1)
  one_standing s Beyond Beyond a b = refl

  same_standings : (list : List Held) (xs ys : List Standing) → AreStandings aim c list xs → AreStandings aim c list ys → xs ≡ ys
  same_standings [] [] [] a b = refl
  same_standings [] [] (y ∷ ys) a b = absurd b
  same_standings [] (x ∷ xs) ys a b = absurd a
  same_standings (s ∷ list) [] ys a b = absurd a
  same_standings (s ∷ list) (x ∷ xs) [] a b = absurd b
  same_standings (s ∷ list) (x ∷ xs) (y ∷ ys) a b = λ i. one_standing s x y a.0 b.0 i ∷ same_standings list xs ys a.1 b.1 i

-- rows of which none is shown ----------------------------------------------------------------------

lacked_is_shown : (listed : Differences) (q : CellId) (x : Standing) → is_lacked x ≡ true → is_shown listed q x ≡ true
lacked_is_shown listed q Has e = absurd (false≢true e)
lacked_is_shown listed q HasOther e = absurd (false≢true e)
lacked_is_shown listed q Lacks e = refl
lacked_is_shown listed q Beyond e = absurd (false≢true e)

module _ (aim : Aim) (c : Setting ℕ) (listed : Differences) where
  -- a row that stands so isn't shown
  abbrev IsHidden : Held → Type 0
  IsHidden t = (x : Standing) × IsStanding aim c t x × (is_shown listed t.0 x ≡ false)

  none_lacked : (table : ℕ) (rows : List LayerRow) (xs : List Standing) → AreStandings aim c (map (held_in table) rows) xs
      → length (shown listed table rows xs) ≡ 0 → count_by is_lacked xs ≡ 0
  unfolding taken
  none_lacked table [] [] are none = refl
  none_lacked table [] (x ∷ xs) are none = absurd are
  none_lacked table (s ∷ rows) [] are none = absurd are
  none_lacked table (s ∷ rows) (x ∷ xs) are none = sum_by-cons (λ y. cond (is_lacked y) 1 0) x xs
      ∙ by (is_shown listed (cell_of table s.key) x) (is_lacked x) (lacked_is_shown listed (cell_of table s.key) x)
      (λ e. none_lacked table rows xs are.1 e) none
    where
      by : (b lacks : Bool) → (lacks ≡ true → b ≡ true) → (length (shown listed table rows xs) ≡ 0 → count_by is_lacked xs ≡ 0)
          → length (cond b (s ∷ shown listed table rows xs) (shown listed table rows xs)) ≡ 0 → cond lacks 1 0 + count_by is_lacked xs ≡ 0
      by true lacks h later e = absurd (omega (arith, e))
      by false true h later e = absurd (false≢true (h refl))
      by false false h later e = let rest = later e in omega (arith, rest)

  each_hidden : (table : ℕ) (rows : List LayerRow) (xs : List Standing) → AreStandings aim c (map (held_in table) rows) xs
      → length (shown listed table rows xs) ≡ 0 → (t : Held) → Among t (map (held_in table) rows) → IsHidden t
  unfolding taken
  each_hidden table [] xs are none t h = absurd h
  each_hidden table (s ∷ rows) [] are none t h = absurd are
  each_hidden table (s ∷ rows) (x ∷ xs) are none t (inl e) = subst IsHidden e (x, are.0, by (is_shown listed (cell_of table s.key) x) none)
    where
      by : (b : Bool) → length (cond b (s ∷ shown listed table rows xs) (shown listed table rows xs)) ≡ 0 → b ≡ false
      by true k = absurd (omega (arith, k))
      by false k = refl
  each_hidden table (s ∷ rows) (x ∷ xs) are none t (inr h) = each_hidden table rows xs are.1 (by (is_shown listed (cell_of table s.key) x) none) t h
    where
      by : (b : Bool) → length (cond b (s ∷ shown listed table rows xs) (shown listed table rows xs)) ≡ 0 → length (shown listed table rows xs) ≡ 0
      by true k = absurd (omega (arith, k))
      by false k = k

  -- passes -------------------------------------------------------------------------------------------

  module _ (tables : List TableDef) where
    none_shown : (p : TablePass) (told : HasToldOf aim c listed tables p) → p.told.printed ≡ 0
        → length (shown listed p.table p.rows told.2.standings) ≡ 0
    none_shown p told none = let all = sym told.2.printed ∙ none in omega (arith, all)

    lacks_none : (p : TablePass) → HasToldOf aim c listed tables p → p.told.printed ≡ 0 → p.told.counts.lacked ≡ 0
    lacks_none p told none =
        let h = told.2 in
        let same = same_standings aim c (map (held_in p.table) p.rows) h.counts.0 h.standings h.counts.1 h.are in
        ap (λ (n : PassCounts). n.lacked) (h.counts.2 ∙ ap counts_of same)
        ∙ ap up_to_greatest (none_lacked p.table p.rows h.standings h.are (none_shown p told none))

    are_counted : (passes : List TablePass) → HaveTold aim c listed tables passes → AreCountsOf aim c (rows_passed passes) (counts_passed passes)
    are_counted [] told = ([], tt, refl)
    are_counted (p ∷ passes) told = parts aim c (map (held_in p.table) p.rows) (rows_passed passes) p.told.counts (counts_passed passes)
        told.0.2.counts (are_counted passes told.1)

    lack_none : (passes : List TablePass) → HaveTold aim c listed tables passes → PrintNone passes → (counts_passed passes).lacked ≡ 0
    lack_none [] told none = refl
    lack_none (p ∷ passes) told none =
        let first = lacks_none p told.0 none.0 in
        let later = lack_none passes told.1 none.1 in
        omega (arith, first, later)

    all_hidden : (passes : List TablePass) → HaveTold aim c listed tables passes → PrintNone passes → (t : Held) → Among t (rows_passed passes) → IsHidden t
    all_hidden [] told none t h = absurd h
    all_hidden (p ∷ passes) told none t h =
        by (λ there. all_hidden passes told.1 none.1 t there) (among_either t (map (held_in p.table) p.rows) (rows_passed passes) h)
      where
        by : (Among t (rows_passed passes) → IsHidden t) → Among t (map (held_in p.table) p.rows) ⊎ Among t (rows_passed passes) → IsHidden t
        by later (inl here) = each_hidden p.table p.rows told.0.2.standings told.0.2.are (none_shown p told.0 none.0) t here
        by later (inr there) = later there

  -- at a listed cell the rows of the cut are as the whole, where no row of the whole is shown
  as_whole : (whole : View) (list : List Held) → AreRowsOf whole list → AreAllRight aim c list → ((t : Held) → Among t list → IsHidden t) → (q : CellId)
      → is_some (finite.get listed q) ≡ true → HasCell c.root whole q
  as_whole whole list rows right hidden q is_listed = by (whole q) refl
    where
      none : (o : Option Row) → c.root q ≡ o → whole q ≡ None → o ≡ None
      none None e there = refl
      none (Some r) e there = sym ((rows (q, r)).0 (right.met (q, r) e)) ∙ there

      unlisted : (r : Row) → IsStanding aim c (q, r) Beyond → IsHidden (q, r) → is_some (finite.get listed q) ≡ false
      unlisted r beyond (x, stands, unshown) =
          subst (λ (y : Standing). is_shown listed q y ≡ false) (one_standing aim c (q, r) x Beyond stands beyond) unshown

      some : (r : Row) → Contains list (q, r) → IsStanding aim c (q, r) Has ⊎ IsStanding aim c (q, r) Beyond → c.root q ≡ Some r
      some r in_list (inl has) = has
      some r in_list (inr beyond) = absurd (false≢true (sym (unlisted r beyond (hidden (q, r) (among (q, r) list in_list))) ∙ is_listed))

      by : (o : Option Row) → whole q ≡ o → HasCell c.root whole q
      by None e = none (c.root q) refl e ∙ sym e
      by (Some r) e =
          let in_list = (rows (q, r)).1 e in
          some r in_list (right.right (q, r) in_list) ∙ sym e

pub nothing_shown : (aim : Aim) (rules : List Rule) (root : Content) (sets : List Changes) (listed : Differences) (tables : List TableDef) (whole : View)
    (passes : List TablePass)
    → finite.len root < greatest
    → FitsSetting (setting rules root sets)
    → AreRowsOf whole (rows_passed passes)
    → AreOfOwnCells (rows_passed passes)
    → HaveTold aim (setting rules root sets) listed tables passes
    → ShowNothing passes (finite.len root)
    → IsCutBesideListed aim (setting rules root sets) listed whole
nothing_shown aim rules root sets listed tables whole passes less fits rows apart told nothing =
    let c = setting rules root sets in
    let list = rows_passed passes in
    let clean : IsClean (counts_passed passes) (finite.len root) = record {
      had = nothing.had;
      others = nothing.others;
      lacked = lack_none aim c listed tables passes told nothing.printed;
    } in
    let right : AreAllRight aim c list =
    (clean_told aim rules root sets list (counts_passed passes) less apart (are_counted aim c listed tables passes told)).0 clean in
    record {
      cut = all_right aim c fits whole list rows right;
      as_listed = as_whole aim c listed whole list rows right (all_hidden aim c listed tables passes told nothing.printed);
    }

-- parts --------------------------------------------------------------------------------------------

module _ (aim : Aim) (c : Setting ℕ) (table : ℕ) where
  lines_both : (line : LayerRow → List ℕ) (test : CellId → Standing → Bool) (one other : List LayerRow) (xs ys : List Standing)
      → AreStandings aim c (map (held_in table) one) xs
      → flat_map line (taken test table one xs) ++ flat_map line (taken test table other ys)
      ≡ flat_map line (taken test table (one ++ other) (xs ++ ys))
  lines_both line test one other xs ys first = sym (flat_map-append line (taken test table one xs) (taken test table other ys))
      ∙ ap (flat_map line) (sym (taken_both aim c table test one other xs ys first))

  printed_both : (m n : ℕ) (one other : List LayerRow) → m ≡ up_to_greatest (length one) → n ≡ up_to_greatest (length other)
      → up_to_greatest (m + n) ≡ up_to_greatest (length (one ++ other))
  printed_both m n one other first second = let long = length-append one other in omega (arith, long, first, second)

  pub both_told : (listed : Differences) (tables : List TableDef) (one other : List LayerRow) (text more_text notes more_notes : List ℕ) (a b : Told)
      → IsDistinct (eq_by_cmp cell_cmp) (cells_of_cut c table (one ++ other))
      → HasTold aim c listed tables table one text notes a
      → HasTold aim c listed tables table other more_text more_notes b
      → HasTold aim c listed tables table (one ++ other) (text ++ more_text) (notes ++ more_notes) (told_together a b)
  both_told listed tables one other text more_text notes more_notes a b apart first second =
      let xs = first.standings in
      let ys = second.standings in
      record {
        standings = xs ++ ys;
        are = stand_both aim c table one other xs ys first.are second.are;
        counts = subst (λ (l : List Held). AreCountsOf aim c l (together a.counts b.counts)) (sym (map-append (held_in table) one other))
            (parts aim c (map (held_in table) one) (map (held_in table) other) a.counts b.counts first.counts second.counts);
        keyed = list_all-append has_key one other ∙ rw (first.keyed, second.keyed) refl;
        once = apart;
        lines = (λ i. first.lines i ++ second.lines i) ∙ lines_both row_line (is_shown listed) one other xs ys first.are;
        remarks = (λ i. first.remarks i ++ second.remarks i)
            ∙ lines_both (λ r. other_line tables (cell_of table r.key)) (λ q. is_other) one other xs ys first.are;
        printed = printed_both a.printed b.printed (shown listed table one xs) (shown listed table other ys) first.printed second.printed
            ∙ ap (λ (l : List LayerRow). up_to_greatest (length l)) (sym (taken_both aim c table (is_shown listed) one other xs ys first.are));
      }
