-- Counts of two passes together.
use Rattle.std.proofs.Common.{◌≡◌, ◌∙◌, ◌+◌, ℕ, Bool, cond, List, ◌++◌, length, length-append, sym, ap, arith}
use Rattle.std.specs.Prelude.{count_by}
use Rattle.std.proofs.lemmas.List.Sums.{sum_by-append}
use Rattle.clr_cut_rows.specs.declared.standings.Standing.{Standing}
use Rattle.clr_cut_passes.specs.Counts.{counts_of, is_had, is_lacked, is_other, together, up_to_greatest}

both : (m n : ℕ) → up_to_greatest (up_to_greatest m + up_to_greatest n) ≡ up_to_greatest (m + n)
both m n = omega arith

module _ (xs ys : List Standing) where
  counted_both : (p : Standing → Bool) → up_to_greatest (up_to_greatest (count_by p xs) + up_to_greatest (count_by p ys))
      ≡ up_to_greatest (count_by p (xs ++ ys))
  counted_both p = both (count_by p xs) (count_by p ys) ∙ ap up_to_greatest (sym (sum_by-append (λ y. cond (p y) 1 0) xs ys))

  pub together_counted : together (counts_of xs) (counts_of ys) ≡ counts_of (xs ++ ys)
  together_counted = λ i. record {
    read = (both (length xs) (length ys) ∙ ap up_to_greatest (sym (length-append xs ys))) i;
    had = counted_both is_had i;
    others = counted_both is_other i;
    lacked = counted_both is_lacked i;
  }
