-- What is found: the cells of some that pass, where each that passes is among them.
use Rattle.std.proofs.Common.{◌≡◌, ◌+◌, ◌<◌, ℕ, Bool, true, cond, List, [], ◌∷◌, ◌++◌, is_some, map, filter, length, take, get_or, Option, Some, None, refl}
use Rattle.std.proofs.Common.{sym, ap, ◌∙◌}
use Rattle.std.proofs.lemmas.Bool.{false≢true}
use Rattle.std.proofs.lemmas.List.{take_more}
use Rattle.std.proofs.lemmas.List.Elements.{filter-append}
use Rattle.std.proofs.lemmas.List.Kept.{IsStrictlySortedBy-filter}
use Rattle.std.specs.FinMap as finite
use Rattle.std.specs.List.Sorted.{IsStrictlySortedBy}
use Rattle.clr_rows.specs.declared.cells.CellId.{CellId}
use Rattle.clr_rows.specs.Cells.{cell_cmp}
use Rattle.clr_rows.proofs.CellOrder.{cell_cmp_total}
use Rattle.clr_rules.proofs.Elements.{Among, kept_among, among_kept, same_rising}
use Rattle.clr_finders.specs.CellLists.{is_one_of}
use Rattle.clr_finders.specs.Sharing.{Settled, is_met_at, found_cells}
use Rattle.clr_finders.specs.declared.row_spots.RuleSpots.{RuleSpots}
use Rattle.clr_finders.proofs.PassingCells.{one_among, passing_rise, passes_in, in_passes}

-- ---- a filter in a loop
pub kept_more : {X : Type 0} (p : X → Bool) (xs : List X) (k : ℕ) (b : Bool) (old new : List X) (d : X) → k < length xs → b ≡ p (get_or xs k d) → new ≡ old
    ++ cond b (get_or xs k d ∷ []) [] → old ≡ filter p (take k xs) → new ≡ filter p (take (k + 1) xs)
kept_more p xs k b old new d less test push all =
    push ∙ ap (λ (ys : List _). ys ++ cond b (get_or xs k d ∷ []) []) all ∙ ap (λ (c : Bool). filter p (take k xs) ++ cond c (get_or xs k d ∷ []) []) test
    ∙ sym (filter-append p (take k xs) (get_or xs k d ∷ [])) ∙ ap (filter p) (sym (take_more xs k d less))

-- ---- cells
pub met_there : (servers : Bool) (x : RuleSpots) (number : ℕ) (o : Option (List RuleSpots)) → is_met_at servers x number o ≡ true → is_some o ≡ true
met_there servers x number None e = absurd (false≢true e)
met_there servers x number (Some ys) e = refl

pub found_is : (servers : Bool) (settled : Settled) (number : ℕ) (x : RuleSpots) (cells : List CellId) → IsStrictlySortedBy cell_cmp cells
    → ((q : CellId) → is_met_at servers x number (finite.get settled q) ≡ true → is_one_of cells q ≡ true)
    → filter (λ q. is_met_at servers x number (finite.get settled q)) cells ≡ found_cells servers settled number x
unfolding found_cells
found_is servers settled number x cells rising all =
    let pass : CellId × List RuleSpots → Bool = λ e. is_met_at servers x number (Some e.1) in
    let test : CellId → Bool = λ q. is_met_at servers x number (finite.get settled q) in
    same_rising cell_cmp_total (filter test cells) _ (IsStrictlySortedBy-filter cell_cmp test cells rising) (passing_rise pass settled)
    (λ q h. there q (among_kept test q cells h).1)
    (λ q h. let (ys, e, f) = in_passes pass settled q h in
    let met : test q ≡ true = ap (is_met_at servers x number) e ∙ f in
    kept_among test q cells (one_among cells q (all q met)) met)
  where
    there : (q : CellId) → is_met_at servers x number (finite.get settled q) ≡ true →
        Among q (map (λ (e : CellId × List RuleSpots). e.0) (filter (λ e. is_met_at servers x number (Some e.1)) (finite.entries settled)))
    there q h = go (finite.get settled q) refl h
      where
        go : (o : Option (List RuleSpots)) → finite.get settled q ≡ o → is_met_at servers x number o ≡ true →
            Among q (map (λ (e : CellId × List RuleSpots). e.0) (filter (λ e. is_met_at servers x number (Some e.1)) (finite.entries settled)))
        go None e f = absurd (false≢true f)
        go (Some ys) e f = passes_in (λ e. is_met_at servers x number (Some e.1)) settled q ys e f
