-- What a pass has told of one row more.
use Rattle.std.proofs.Common.{◌≡◌, ◌∙◌, ◌+◌, ◌==◌, ℕ, Bool, Bor, Option, Some, None, true, false, cond, List, [], ◌∷◌, ◌++◌, append-nil, length, length-append, map, refl, sym, ap}
use Rattle.std.proofs.Common.{arith, subst}
use Rattle.std.proofs.lemmas.List.{map-append}
use Rattle.std.proofs.lemmas.Grind.{flat_map-append}
use Rattle.std.proofs.lemmas.List.Elements.{All-cons, All-nil, filter-append}
use Rattle.std.proofs.lemmas.Bool.Decides.{Decides-eqb}
use Rattle.std.proofs.lemmas.Cmp.{eq_by_cmp_equiv}
use Rattle.std.proofs.lemmas.Map.Keys.{IsDistinct-push}
use Rattle.std.proofs.lemmas.List.Folds.{list_all-append}
use Rattle.std.specs.Prelude.{is_some, ◌&&◌, if◌then◌else◌}
use Rattle.std.specs.List.{IsDistinct, filter, flat_map, list_all, list_any}
use Rattle.std.specs.Io.KnownBytes.{Appends}
use Rattle.std.specs.Option.{option_copied}
use Rattle.std.specs.Ordering.{eq_by_cmp}
use Rattle.clr_rows.specs.declared.cells.CellId.{CellId}
use Rattle.clr_rows.specs.declared.tables.TableDef.{TableDef}
use Rattle.clr_rows.specs.Cells.{cell_cmp}
use Rattle.clr_rows.specs.Held.{Held}
use Rattle.clr_rows.proofs.CellOrder.{cell_cmp_total}
use Rattle.clr_deltas.specs.Differences.{Differences}
use Rattle.clr_needs.specs.Settings.{Setting}
use Rattle.clr_rules.specs.declared.rules.Rule.{Rule}
use Rattle.clr_rules.specs.Books.{FitTogether, FitsBook, FitsCell}
use Rattle.clr_reach.specs.declared.aims.Aim.{Aim}
use Rattle.clr_streams.proofs.Appending.{nothing_more}
use Rattle.clr_cut_rows.specs.declared.standings.Standing.{Standing}
use Rattle.clr_cut_rows.specs.declared.standings.Standing.TheVariants.{Has, HasOther, Lacks, Beyond}
use Rattle.clr_cut_rows.specs.Standings.{IsStanding}
use Rattle.clr_cut_passes.specs.Counts.{is_other, up_to_greatest}
use Rattle.clr_cut_passes.specs.Passes.{AreCountsOf, AreStandings, CountsOneMoreRow}
use Rattle.clr_layer_text.specs.declared.rows.LayerRow.{LayerRow}
use Rattle.clr_layer_text.specs.Layers.{cell_of, row_line}
use Rattle.clr_cut_streams.specs.declared.told.Told.{Told}
use Rattle.clr_cut_streams.specs.Told.{HasTold, cells_of_cut, has_key, held_in, is_shown, line_if_other, line_if_shown, one_more_if, other_line, others, shown, taken}

-- what a look-up tells, copied or not
pub there_as_copied : {X : Type 0} (o : Option (Bor X)) → is_some (option_copied o) ≡ is_some o
there_as_copied (Some x) = refl
there_as_copied None = refl

-- an empty line that isn't put
pub nothing_put : (held : Option (List ℕ)) (line : List ℕ) → (length line == 0) ≡ true → Appends held held line
nothing_put held [] e = nothing_more held
nothing_put held (b ∷ line) e = let none = (Decides-eqb (length (b ∷ line)) 0).0 e in absurd (omega (arith, none))

module _ (aim : Aim) (c : Setting ℕ) (table : ℕ) where
  abbrev pub Stand : List LayerRow → List Standing → Type 0
  Stand rows xs = AreStandings aim c (map (held_in table) rows) xs

  pub stand_both : (one other : List LayerRow) (xs ys : List Standing) → Stand one xs → Stand other ys → Stand (one ++ other) (xs ++ ys)
  stand_both [] other [] ys first second = second
  stand_both [] other (x ∷ xs) ys first second = absurd first
  stand_both (s ∷ one) other [] ys first second = absurd first
  stand_both (s ∷ one) other (x ∷ xs) ys first second = (first.0, stand_both one other xs ys first.1 second)

  pub taken_both : (test : CellId → Standing → Bool) (one other : List LayerRow) (xs ys : List Standing) → Stand one xs
      → taken test table (one ++ other) (xs ++ ys) ≡ taken test table one xs ++ taken test table other ys
  unfolding taken
  taken_both test [] other [] ys first = refl
  taken_both test [] other (x ∷ xs) ys first = absurd first
  taken_both test (s ∷ one) other [] ys first = absurd first
  taken_both test (s ∷ one) other (x ∷ xs) ys first = by (test (cell_of table s.key) x) (taken_both test one other xs ys first.1)
    where
      by : (b : Bool) → taken test table (one ++ other) (xs ++ ys) ≡ taken test table one xs ++ taken test table other ys
          → cond b (s ∷ taken test table (one ++ other) (xs ++ ys)) (taken test table (one ++ other) (xs ++ ys))
          ≡ cond b (s ∷ taken test table one xs) (taken test table one xs) ++ taken test table other ys
      by true e = ap (λ rest. s ∷ rest) e
      by false e = e

  one_stands : (rows : List LayerRow) (xs : List Standing) (r : LayerRow) (x : Standing) → Stand rows xs → IsStanding aim c (held_in table r) x
      → Stand (rows ++ r ∷ []) (xs ++ x ∷ [])
  one_stands rows xs r x are is = stand_both rows (r ∷ []) xs (x ∷ []) are (is, tt)

  one_taken : (test : CellId → Standing → Bool) (rows : List LayerRow) (xs : List Standing) (r : LayerRow) (x : Standing) → Stand rows xs
      → taken test table (rows ++ r ∷ []) (xs ++ x ∷ []) ≡ taken test table rows xs ++ (if test (cell_of table r.key) x then r ∷ [] else [])
  unfolding taken
  one_taken test rows xs r x are = taken_both test rows (r ∷ []) xs (x ∷ []) are

  -- the lines of one row more that may be taken
  lines_of_one : (line : LayerRow → List ℕ) (b : Bool) (r : LayerRow) → flat_map line (if b then r ∷ [] else []) ≡ (if b then line r else [])
  lines_of_one line true r = append-nil (line r)
  lines_of_one line false r = refl

  lines_more : (line : LayerRow → List ℕ) (test : CellId → Standing → Bool) (rows : List LayerRow) (xs : List Standing) (r : LayerRow) (x : Standing)
      → Stand rows xs
      → flat_map line (taken test table rows xs) ++ (if test (cell_of table r.key) x then line r else [])
      ≡ flat_map line (taken test table (rows ++ r ∷ []) (xs ++ x ∷ []))
  lines_more line test rows xs r x are =
      ap (λ end. flat_map line (taken test table rows xs) ++ end) (sym (lines_of_one line (test (cell_of table r.key) x) r))
      ∙ sym (flat_map-append line (taken test table rows xs) (if test (cell_of table r.key) x then r ∷ [] else []))
      ∙ ap (flat_map line) (sym (one_taken test rows xs r x are))

  count_more : (rows : List LayerRow) (b : Bool) (r : LayerRow) → one_more_if b (up_to_greatest (length rows))
      ≡ up_to_greatest (length (rows ++ (if b then r ∷ [] else [])))
  count_more rows true r = let long = length-append rows (r ∷ []) in omega (arith, long)
  count_more rows false r = ap (λ (l : List LayerRow). up_to_greatest (length l)) (sym (append-nil rows))

  if_other : (tables : List TableDef) (q : CellId) (x : Standing) → line_if_other tables q x ≡ (if is_other x then other_line tables q else [])
  if_other tables q Has = refl
  if_other tables q HasOther = refl
  if_other tables q Lacks = refl
  if_other tables q Beyond = refl

  -- the cells of one row more
  pub cells_more : (rows : List LayerRow) (r : LayerRow) → cells_of_cut c table (rows ++ r ∷ [])
      ≡ cells_of_cut c table rows ++ (if is_some (c.root (cell_of table r.key)) then cell_of table r.key ∷ [] else [])
  cells_more rows r = ap (filter there) (map-append (λ (s : LayerRow). cell_of table s.key) rows (r ∷ []))
      ∙ filter-append there (map (λ (s : LayerRow). cell_of table s.key) rows) (cell_of table r.key ∷ [])
    where
      there : CellId → Bool
      there q = is_some (c.root q)

  once_more : (rows : List LayerRow) (r : LayerRow) → IsDistinct (eq_by_cmp cell_cmp) (cells_of_cut c table rows)
      → list_any (eq_by_cmp cell_cmp (cell_of table r.key)) (cells_of_cut c table rows) ≡ false
      → IsDistinct (eq_by_cmp cell_cmp) (cells_of_cut c table (rows ++ r ∷ []))
  once_more rows r apart new = rw (cells_more rows r) (by (is_some (c.root (cell_of table r.key))))
    where
      by : (b : Bool) → IsDistinct (eq_by_cmp cell_cmp) (cells_of_cut c table rows ++ (if b then cell_of table r.key ∷ [] else []))
      by true = IsDistinct-push (eq_by_cmp_equiv cell_cmp_total) (cells_of_cut c table rows) (cell_of table r.key) apart new
      by false = rw append-nil apart

  pub one_told : (listed : Differences) (tables : List TableDef) (rows : List LayerRow) (text notes : List ℕ) (told next : Told) (r : LayerRow) (x : Standing)
      → HasTold aim c listed tables table rows text notes told
      → IsStanding aim c (held_in table r) x
      → CountsOneMoreRow aim c told.counts (held_in table r) next.counts
      → is_some r.key ≡ true
      → list_any (eq_by_cmp cell_cmp (cell_of table r.key)) (cells_of_cut c table rows) ≡ false
      → next.printed ≡ one_more_if (is_shown listed (cell_of table r.key) x) told.printed
      → HasTold aim c listed tables table (rows ++ r ∷ []) (text ++ line_if_shown (is_shown listed (cell_of table r.key) x) r)
      (notes ++ line_if_other tables (cell_of table r.key) x) next
  one_told listed tables rows text notes told next r x so_far stands counted key new printed =
      let xs = so_far.standings in
      let held = map-append (held_in table) rows (r ∷ []) in
      record {
        standings = xs ++ x ∷ [];
        are = one_stands rows xs r x so_far.are stands;
        counts = subst (λ (l : List Held). AreCountsOf aim c l next.counts) (sym held) (counted (map (held_in table) rows) so_far.counts);
        keyed = list_all-append has_key rows (r ∷ []) ∙ rw (so_far.keyed, key) refl;
        once = once_more rows r so_far.once new;
        lines = ap (λ front. front ++ line_if_shown (is_shown listed (cell_of table r.key) x) r) so_far.lines
            ∙ lines_more row_line (is_shown listed) rows xs r x so_far.are;
        remarks = (λ i. so_far.remarks i ++ if_other tables (cell_of table r.key) x i)
            ∙ lines_more (λ s. other_line tables (cell_of table s.key)) (λ q. is_other) rows xs r x so_far.are;
        printed = printed ∙ ap (one_more_if (is_shown listed (cell_of table r.key) x)) so_far.printed
            ∙ count_more (shown listed table rows xs) (is_shown listed (cell_of table r.key) x) r
            ∙ ap (λ (l : List LayerRow). up_to_greatest (length l)) (sym (one_taken (is_shown listed) rows xs r x so_far.are));
      }

-- a book and one row that fit a schema
pub one_fits : (tables : List TableDef) (rules : List Rule) (s : Held) → FitsBook tables rules → FitsCell tables s → FitTogether rules (s ∷ [])
one_fits tables rules s book row = record { tables = tables; book = book; each = All-cons (FitsCell tables) s [] row (All-nil (FitsCell tables)) }
