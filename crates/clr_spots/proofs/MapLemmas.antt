-- Parts by spot, as a table lists them.
use Rattle.std.proofs.Common.{◌≡◌, ℕ, Bool, true, false, cond, List, [], ◌∷◌, ◌++◌, Option, Some, append_assoc, length, take, unwrap_or, refl, ap, sym, ◌∙◌}
use Rattle.std.proofs.Math.Seq.{take-append_seam}
use Rattle.std.proofs.lemmas.List.{nil_from_length}
use Rattle.std.specs.Map.{lookup}
use Rattle.std.specs.FinMap as finite
use Rattle.std.specs.Ordering.{eq_by_cmp}
use Rattle.clr_rows.proofs.SortedMaps.{find_row}
use Rattle.clr_spots.specs.declared.spots.Spot.{Spot}
use Rattle.clr_spots.specs.SpotOrder.{same_spot, spot_cmp}
use Rattle.clr_spots.specs.SpotOrderLaws.{same_spot_equiv, same_spot_is, spot_cmp_exact, spot_cmp_total, spots_tie}
use Rattle.clr_spots.specs.declared.spot_maps.FiledPart.{FiledPart}
use Rattle.clr_spots.specs.Filing.{PartsBySpot, parts_at, filed_at, filed_at_all}

module _ {X : Type 0} where
  -- what the map that a list makes has at a spot
  pub get_listed : (es : List (Spot × X)) (q : Spot) → finite.get (finite.from_entries {R = spot_cmp} es) q ≡ lookup (same_spot q) es
  get_listed es q = finite.get-from_entries spot_cmp_total es q ∙ find_row spot_cmp es q ∙ λ i. lookup (λ x. sym (spots_tie q x) i) es

  -- lists that differ at one spot make maps that differ there
  pub one_listed : (es fs : List (Spot × X)) (k : Spot) (x : X) →
      ((q : Spot) → lookup (same_spot q) fs ≡ cond (same_spot k q) (Some x) (lookup (same_spot q) es))
      → finite.from_entries {R = spot_cmp} fs ≡ finite.insert (finite.from_entries es) k x
  one_listed es fs k x h = finite.same_map spot_cmp_total spot_cmp_exact _ _ (λ q.
      get_listed fs q ∙ h q ∙ ap (λ b. cond b (Some x) (lookup (same_spot q) es)) (same_spot_equiv.symm k q ∙ spots_tie q k)
      ∙ sym (finite.get-insert spot_cmp_total (finite.from_entries es) k x q ∙ ap (cond (eq_by_cmp spot_cmp q k) (Some x)) (get_listed es q)))

  -- lists with the same values make one map
  pub same_listed : (es fs : List (Spot × X)) → ((q : Spot) → lookup (same_spot q) fs ≡ lookup (same_spot q) es) → finite.from_entries {R = spot_cmp} fs
      ≡ finite.from_entries es
  same_listed es fs h = finite.same_map spot_cmp_total spot_cmp_exact _ _ (λ q. get_listed fs q ∙ h q ∙ sym (get_listed es q))

-- nothing is filed at a spot of an empty table
pub none_at : (es : List (Spot × List FiledPart)) (x : Spot) → length es ≡ 0 → [] ≡ parts_at (finite.from_entries es) x
none_at es x none = sym (ap (λ fs. parts_at (finite.from_entries fs) x) (nil_from_length es none)
    ∙ ap (λ o. unwrap_or o []) (finite.get-empty spot_cmp x))

-- a list that is written back as it was
pub same_written : (f g : Spot → Option (List FiledPart)) (s : Spot) (w m : List FiledPart) → ((x : Spot) → g x ≡ cond (same_spot s x) (Some w) (f x))
    → w ≡ m → Some m ≡ f s
    → (x : Spot) → g x ≡ f x
same_written f g s w m is same here x = is x ∙ go (same_spot s x) refl
  where
    go : (b : Bool) → same_spot s x ≡ b → cond b (Some w) (f x) ≡ f x
    go true tie = ap Some same ∙ here ∙ ap f (same_spot_is s x tie)
    go false tie = refl

-- spot after spot ------------------------------------------------------------------------------------

-- a part is filed at all spots but those that are left
abbrev pub IsFiledTo : PartsBySpot → List Spot → FiledPart → PartsBySpot → List Spot → Type 0
IsFiledTo m xs e n left = (done : List Spot) × (n ≡ filed_at_all m done e) × (done ++ left ≡ xs)

filed_last : (m : PartsBySpot) (done : List Spot) (x : Spot) (e : FiledPart) → filed_at_all m (done ++ x ∷ []) e ≡ filed_at (filed_at_all m done e) x e
filed_last m [] x e = refl
filed_last m (y ∷ done) x e = filed_last (filed_at m y e) done x e

pub filed_next : (m : PartsBySpot) (xs : List Spot) (e : FiledPart) (n : PartsBySpot) (x : Spot) (left : List Spot) → IsFiledTo m xs e n (x ∷ left)
    → IsFiledTo m xs e (filed_at n x e) left
filed_next m xs e n x left (done, is, whole) = (
  done ++ x ∷ [],
  ap (λ n. filed_at n x e) is ∙ sym (filed_last m done x e),
  append_assoc done (x ∷ []) left
      ∙ whole,
)

-- a part is filed at the first of some spots
pub filed_some : (m : PartsBySpot) (xs : List Spot) (e : FiledPart) (n : PartsBySpot) (left : List Spot) → IsFiledTo m xs e n left → (k : ℕ)
    × (n ≡ filed_at_all m (take k xs) e)
filed_some m xs e n left (done, is, whole) = (
  length done,
  is
      ∙ ap (λ ys. filed_at_all m ys e) (sym (ap (take (length done)) (sym whole) ∙ take-append_seam done left)),
)

pub filed_more : (es : List (Spot × List FiledPart)) (x : Spot) (e : FiledPart)
    → finite.insert (finite.from_entries es) x (unwrap_or (lookup (same_spot x) es) [] ++ e ∷ []) ≡ filed_at (finite.from_entries es) x e
filed_more es x e = ap (λ o. finite.insert (finite.from_entries es) x (unwrap_or o [] ++ e ∷ [])) (sym (get_listed es x))
