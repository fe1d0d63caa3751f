-- The table of sets whose members can follow, and the search for the first member that can be next.
use Rattle.std.proofs.Common.{◌≡◌, ◌∙◌, ◌<◌, ◌≤◌, ◌+◌, ℕ, zero, suc, Bool, true, false, List, [], ◌∷◌, ◌++◌, ◌⊎◌, inl, inr, refl, sym, ap, subst, arith}
use Rattle.std.proofs.Common.{get_or, length, None, Some}
use Rattle.std.proofs.lemmas.Bool.{cases_lt}
use Rattle.std.proofs.lemmas.List.{length-append}
use Rattle.clr_order_search.specs.declared.open_needs.OpenNeed.{OpenNeed}
use Rattle.clr_order_search.specs.Searching.{CanBeNext, CanFollow, IsNext, IsTestOf, TellsBelow, and_also, outside}
use Rattle.clr_order_search.proofs.Following.{told_false, told_true}

-- the first member ------------------------------------------------------------------------------------

module _ (needs : List OpenNeed) (count left : ℕ) where
  -- no member below a number can be next
  abbrev pub NoneBelow : ℕ → Type 0
  NoneBelow end = (m : ℕ) → m < end → outside count left m ≡ false → ¬ (CanFollow needs count (and_also (outside count left) m))

  pub none_at_first : NoneBelow 0
  none_at_first m less = absurd (omega (arith, less))

  pub none_below_more : (m : ℕ) (told : Bool) → NoneBelow m → IsTestOf told (CanBeNext needs count left m) → told ≡ false → NoneBelow (m + 1)
  none_below_more m told none is e k less out can = by (cases_lt k m)
    where
      by : (k < m) ⊎ (m ≤ k) → ⊥
      by (inl lower) = none k lower out can
      by (inr most) =
          let same : m ≡ k = omega (arith, less, most) in
          told_false told (CanBeNext needs count left m) is e
          (ap (outside count left) same ∙ out, subst (λ x. CanFollow needs count (and_also (outside count left) x)) (sym same) can)

  pub found_next : (m : ℕ) (told : Bool) → m < count → NoneBelow m → IsTestOf told (CanBeNext needs count left m) → told ≡ true
      → IsNext needs count (outside count left) (Some m)
  found_next m told less none is e = let (out, can) = told_true told (CanBeNext needs count left m) is e in (less, out, can, none)

  pub none_found : (end : ℕ) → count ≤ end → NoneBelow end → IsNext needs count (outside count left) None
  none_found end most none m less out can = none m (omega (arith, most, less)) out can

-- the table ---------------------------------------------------------------------------------------------

get_or-last : (xs : List Bool) (b d : Bool) → get_or (xs ++ b ∷ []) (length xs) d ≡ b
get_or-last [] b d = refl
get_or-last (x ∷ xs) b d = get_or-last xs b d

get_or-before : (xs : List Bool) (b d : Bool) (k : ℕ) → k < length xs → get_or (xs ++ b ∷ []) k d ≡ get_or xs k d
get_or-before [] b d k less = absurd (omega (arith, less))
get_or-before (x ∷ xs) b d zero less = refl
get_or-before (x ∷ xs) b d (suc k) less = get_or-before xs b d k (omega (arith, less))

module _ (needs : List OpenNeed) (count : ℕ) where
  -- a table of exactly the sets below a number
  pub record IsTable (table : List Bool) (end : ℕ) : Type 0 where
    pub size : length table ≡ end
    pub tells : TellsBelow needs count table end

  pub no_table : IsTable [] 0
  no_table = record { size = refl; tells = record { long = omega arith; told = λ set less. absurd (omega (arith, less)) } }

  pub one_more : (table : List Bool) (end : ℕ) (told : Bool) (new : List Bool) → IsTable table end → IsTestOf told (CanFollow needs count (outside count end))
      → new ≡ table ++ told ∷ [] → IsTable new (end + 1)
  one_more table end told new is test e = subst (λ t. IsTable t (end + 1)) (sym e) (record {
    size = long;
    tells = record { long = (let size = long in omega (arith, size)); told = at };
  })
    where
      long : length (table ++ told ∷ []) ≡ end + 1
      long = length-append table (told ∷ []) ∙ (let size = is.size in omega (arith, size))

      at : (set : ℕ) → set < end + 1 → IsTestOf (get_or (table ++ told ∷ []) set false) (CanFollow needs count (outside count set))
      at set less = by (cases_lt set end)
        where
          by : (set < end) ⊎ (end ≤ set) → IsTestOf (get_or (table ++ told ∷ []) set false) (CanFollow needs count (outside count set))
          by (inl lower) =
              let size = is.size in
              subst (λ b. IsTestOf b (CanFollow needs count (outside count set))) (sym (get_or-before table told false set (omega (arith, lower, size))))
              (is.tells.told set lower)
          by (inr most) =
              let same : end ≡ set = omega (arith, less, most) in
              subst (λ k. IsTestOf (get_or (table ++ told ∷ []) k false) (CanFollow needs count (outside count k))) same
              (subst (λ b. IsTestOf b (CanFollow needs count (outside count end)))
              (sym (ap (λ k. get_or (table ++ told ∷ []) k false) (sym is.size) ∙ get_or-last table told false)) test)

  -- it tells of fewer sets too
  pub fewer_told : (table : List Bool) (end less : ℕ) → less ≤ end → TellsBelow needs count table end → TellsBelow needs count table less
  fewer_told table end less most tells = record {
    long = (let long = tells.long in omega (arith, most, long));
    told = λ set lower. tells.told set (omega (arith, lower, most));
  }
