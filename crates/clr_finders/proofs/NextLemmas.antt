-- Searches for the next cell, one beside another.
use Rattle.std.proofs.Common.{◌≡◌, ◌∙◌, ℕ, Bool, true, false, cond, ◌⊎◌, inl, inr, Option, Some, None, Contains, refl, sym, ap, subst}
use Rattle.std.specs.Prelude.{IfSome}
use Rattle.std.specs.Cmp.{upto}
use Rattle.std.specs.FinMap as finite
use Rattle.std.specs.Ordering.{is_gt, is_lt, ordering_reverse}
use Rattle.std.specs.declared.cmp.Ordering.{Ordering}
use Rattle.std.specs.declared.cmp.Ordering.TheVariants.{Less, Equal, Greater}
use Rattle.std.proofs.lemmas.Bool.{true≢false, false≢true}
use Rattle.clr_rows.specs.declared.cells.CellId.{CellId}
use Rattle.clr_rows.specs.Cells.{cell_cmp}
use Rattle.clr_rows.proofs.CellOrder.{cell_cmp_total}
use Rattle.clr_rules.proofs.Elements.{among}
use Rattle.clr_finders.specs.declared.row_spots.RuleSpots.{RuleSpots}
use Rattle.clr_finders.specs.NextCells.{IsBehind, IsNextOf, IsReached, lesser_cell}
use Rattle.clr_finders.specs.Sharing.{Settled, found_cells, is_met_at}
use Rattle.clr_finders.proofs.PassingCells.{in_passes}

less_not_more : (o : Ordering) → is_lt o ≡ true → is_gt o ≡ false
less_not_more Less e = refl
less_not_more Equal e = refl
less_not_more Greater e = absurd (false≢true e)

not_less_turned : (o : Ordering) → is_lt o ≡ false → is_gt (ordering_reverse o) ≡ false
not_less_turned Less e = absurd (true≢false e)
not_less_turned Equal e = refl
not_less_turned Greater e = refl

-- ---- the lesser of two cells

lesser_behind : (after one other : Option CellId) → IfSome one (IsBehind after) → IfSome other (IsBehind after)
    → IfSome (lesser_cell one other) (IsBehind after)
lesser_behind after None other f g = g
lesser_behind after (Some p) None f g = f
lesser_behind after (Some p) (Some q) f g = by (is_lt (cell_cmp q p))
  where
    by : (b : Bool) → IfSome (cond b (Some q) (Some p)) (IsBehind after)
    by true = g
    by false = f

lesser_left : (one other : Option CellId) (q : CellId) → IsReached one q → IsReached (lesser_cell one other) q
lesser_left None other q h = absurd h
lesser_left (Some p) None q h = h
lesser_left (Some p) (Some r) q h = by (is_lt (cell_cmp r p)) refl
  where
    by : (b : Bool) → is_lt (cell_cmp r p) ≡ b → IsReached (cond b (Some r) (Some p)) q
    by true e = upto cell_cmp_total r p q (less_not_more (cell_cmp r p) e) h
    by false e = h

lesser_right : (one other : Option CellId) (q : CellId) → IsReached other q → IsReached (lesser_cell one other) q
lesser_right None other q h = h
lesser_right (Some p) None q h = absurd h
lesser_right (Some p) (Some r) q h = by (is_lt (cell_cmp r p)) refl
  where
    by : (b : Bool) → is_lt (cell_cmp r p) ≡ b → IsReached (cond b (Some r) (Some p)) q
    by true e = h
    by false e = upto cell_cmp_total p r q (ap is_gt (cell_cmp_total.antisymm p r) ∙ not_less_turned (cell_cmp r p) e) h

-- ---- one search beside another

module _ (after : Option CellId) where
  -- what is looked for may be less
  pub next_as : (P Q : CellId → Type 0) (next : Option CellId) → ((q : CellId) → Q q → P q) → IsNextOf P after next → IsNextOf Q after next
  next_as P Q next may h = record { behind = h.behind; reached = λ q w. h.reached q (may q w) }

  -- nothing is looked for
  pub next_none : (P : CellId → Type 0) → ((q : CellId) → P q → ⊥) → IsNextOf P after None
  next_none P none = record { behind = tt; reached = λ q w _. none q w }

  pub next_of_two : (P Q R : CellId → Type 0) (one other next : Option CellId) → next ≡ lesser_cell one other → ((q : CellId) → R q → P q ⊎ Q q)
      → IsNextOf P after one → IsNextOf Q after other → IsNextOf R after next
  next_of_two P Q R one other next is split f g = subst (IsNextOf R after) (sym is) (record {
    behind = lesser_behind after one other f.behind g.behind;
    reached = λ q w behind. by q behind (split q w);
  })
    where
      by : (q : CellId) → IsBehind after q → P q ⊎ Q q → IsReached (lesser_cell one other) q
      by q behind (inl w) = lesser_left one other q (f.reached q w behind)
      by q behind (inr w) = lesser_right one other q (g.reached q w behind)

-- ---- what is found meets

pub found_met : (servers : Bool) (settled : Settled) (number : ℕ) (x : RuleSpots) (q : CellId) → Contains (found_cells servers settled number x) q
    → is_met_at servers x number (finite.get settled q) ≡ true
unfolding found_cells
found_met servers settled number x q h =
    let (ys, at, met) = in_passes (λ e. is_met_at servers x number (Some e.1)) settled q (among q (found_cells servers settled number x) h) in
    ap (is_met_at servers x number) at ∙ met
