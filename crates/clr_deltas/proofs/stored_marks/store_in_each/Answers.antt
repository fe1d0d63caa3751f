use Rattle.std.proofs.Common.{◌≡◌, ℕ, suc, zero, ◌+◌, List, [], ◌∷◌, take, slice_set, subst, sym, arith, ◌∙◌, ap}
use Rattle.std.proofs.Math.Seq.{map-set_same}
use Rattle.clr_rows.specs.declared.cells.CellId.{CellId}
use Rattle.clr_deltas.specs.declared.stored_marks.StoredMark.{StoredMark}
use Rattle.clr_deltas.specs.Deltas.{whole_mark, MarkStores, EachMarkStores, AreOwnOver}
use Rattle.clr_deltas.proofs.MarkLemmas.{own_set}
use Rattle.clr_deltas.proofs.stored_marks.store_in_each.Goals as goal

-- one more mark has a difference
one_more : (cell : CellId) (ms : List StoredMark) (i : ℕ) (m : StoredMark) → EachMarkStores (take i ms) cell → MarkStores cell m
    → EachMarkStores (take (i + 1) (slice_set ms i m)) cell
one_more cell ms i m is_stored one = subst (λ j. EachMarkStores (take j (slice_set ms i m)) cell) same (next ms i is_stored)
  where
    same : suc i ≡ i + 1
    same = omega arith

    next : (ms : List StoredMark) (i : ℕ) → EachMarkStores (take i ms) cell → EachMarkStores (take (suc i) (slice_set ms i m)) cell
    next [] i is_stored = tt
    next (x ∷ ms) zero is_stored = (one, tt)
    next (x ∷ ms) (suc i) is_stored = (is_stored.0, next ms i is_stored.1)

pub returns-in_err-store_seen-clause-seen : goal.returns-in_err-store_seen-clause-seen
returns-in_err-store_seen-clause-seen c = λ base is.
    map-set_same (whole_mark base) c.loop-i.marks.items c.loop-i.i c.store_seen.new.mark c.index_mut.result.now (c.store_seen.ensures.seen base is
    ∙ ap (whole_mark base) c.index_mut.ensures.value) ∙ c.loop-i.invariant.seen base is

pub returns-in_err-store_seen-clause-others : goal.returns-in_err-store_seen-clause-others
returns-in_err-store_seen-clause-others c = λ q apart base own.
    own_set base q c.loop-i.marks.items c.loop-i.i c.store_seen.new.mark c.index_mut.result.now
    (λ was. c.store_seen.ensures.others q apart base (subst (λ (m : StoredMark). AreOwnOver base q (m ∷ [])) (sym c.index_mut.ensures.value) was))
    (c.loop-i.invariant.others q apart base own)

pub loop-i-preserved : goal.loop-i-preserved
loop-i-preserved c = record {
  seen = λ base is.
      map-set_same (whole_mark base) c.loop-i.marks.items c.loop-i.i c.store_seen.new.mark c.index_mut.result.now (c.store_seen.ensures.seen base is
      ∙ ap (whole_mark base) c.index_mut.ensures.value) ∙ c.loop-i.invariant.seen base is;
  others = λ q apart base own.
      own_set base q c.loop-i.marks.items c.loop-i.i c.store_seen.new.mark c.index_mut.result.now
      (λ was. c.store_seen.ensures.others q apart base (subst (λ (m : StoredMark). AreOwnOver base q (m ∷ [])) (sym c.index_mut.ensures.value) was))
      (c.loop-i.invariant.others q apart base own);
  is_stored = one_more c.args.cell c.loop-i.marks.items c.loop-i.i c.store_seen.new.mark c.loop-i.invariant.is_stored c.in_ok-store_seen.ensures.is_stored;
}
