-- Lists that gain broken needs, one step after another.
use Rattle.std.proofs.Common.{◌≡◌, ◌⊎◌, inl, inr, List, ◌++◌, Contains, drop, length, sym, subst}
use Rattle.clr_rules.specs.declared.needs.Broken.{Broken}
use Rattle.clr_rules.specs.declared.rules.Rule.{Rule}
use Rattle.clr_rows.specs.Held.{Held}
use Rattle.clr_rules.proofs.Elements.{Among, among, contained, among_left, among_right, among_either}
use Rattle.clr_rows.specs.Beginnings.{IsBegun}
use Rattle.clr_rows.proofs.BeginningLaws.{added_is, parts_of}
use Rattle.clr_audit.specs.Searches.{GainsBroken, IsBrokenAmong}

module _ (rules : List Rule) (rows : List Held) where
  abbrev pub Wanted : Type 1
  Wanted = (b : Broken) → IsBrokenAmong rules rows b → Type 0

  -- nothing is wanted, and nothing is added
  pub gains_none : (W : Wanted) (xs : List Broken) → ((b : Broken) (h : IsBrokenAmong rules rows b) → W b h → ⊥) → GainsBroken rules rows W xs xs
  gains_none W xs none = record { stay = λ b h. h; only = λ b h. inl h; found = λ b h w. absurd (none b h w) }

  -- what is wanted is gained in the first step or in the second
  pub gains_more : (U V W : Wanted) (xs ys zs : List Broken) → GainsBroken rules rows U xs ys → GainsBroken rules rows V ys zs
      → ((b : Broken) (h : IsBrokenAmong rules rows b) → W b h → U b h ⊎ V b h) → GainsBroken rules rows W xs zs
  gains_more U V W xs ys zs g k split = record {
    stay = λ b h. k.stay b (g.stay b h);
    only = λ b h. elim (k.only b h) [ inl m ↦ g.only b m | inr m ↦ inr m ];
    found = λ b h w. elim (split b h w) [ inl u ↦ k.stay b (g.found b h u) | inr v ↦ k.found b h v ];
  }

  -- less is wanted
  pub gains_less : (V W : Wanted) (xs ys : List Broken) → GainsBroken rules rows V xs ys → ((b : Broken) (h : IsBrokenAmong rules rows b) → W b h → V b h)
      → GainsBroken rules rows W xs ys
  gains_less V W xs ys g less = record { stay = g.stay; only = g.only; found = λ b h w. g.found b h (less b h w) }

  -- a list of the same needs
  pub gains_same : (W : Wanted) (xs ys zs : List Broken) → GainsBroken rules rows W xs ys → ((b : Broken) → (Contains zs b → Contains ys b)
      × (Contains ys b → Contains zs b)) → GainsBroken rules rows W xs zs
  gains_same W xs ys zs g same = record {
    stay = λ b h. (same b).1 (g.stay b h);
    only = λ b h. g.only b ((same b).0 h);
    found = λ b h w. (same b).1 (g.found b h w);
  }

  -- a list of broken needs is added, with all that are wanted
  pub gains_listed : (W : Wanted) (xs ys more : List Broken) → ys ≡ xs ++ more → ((b : Broken) → Among b more → IsBrokenAmong rules rows b)
      → ((b : Broken) (h : IsBrokenAmong rules rows b) → W b h → Among b more) → GainsBroken rules rows W xs ys
  gains_listed W xs ys more is each all = record {
    stay = λ b h. subst (λ l. Contains l b) (sym is) (contained b (xs ++ more) (among_left b xs more (among b xs h)));
    only = λ b h. elim (among_either b xs more (among b (xs ++ more) (subst (λ l. Contains l b) is h))) [
      | inl m ↦ inl (contained b xs m)
      | inr m ↦ inr
          (each b m)
    ];
    found = λ b h w. subst (λ l. Contains l b) (sym is) (contained b (xs ++ more) (among_right b xs more (all b h w)));
  }

  -- ---- until there is no memory

  pub gains_no_more : (xs ys : List Broken) → ys ≡ xs → GainsBroken rules rows (λ b h. ⊥) xs ys
  gains_no_more xs ys same = subst (λ l. GainsBroken rules rows (λ b h. ⊥) xs l) (sym same) (gains_none (λ b h. ⊥) xs (λ b h w. w))

  -- a beginning of a list of broken needs is added
  pub gains_begun : (xs ys more : List Broken) → IsBegun xs more ys → ((b : Broken) → Among b more → IsBrokenAmong rules rows b)
      → GainsBroken rules rows (λ b h. ⊥) xs ys
  gains_begun xs ys more begun each =
      let added = drop (length xs) ys in
      gains_listed (λ b h. ⊥) xs ys added (added_is xs more ys begun)
      (λ b h. each b (subst (Among b) (sym (parts_of xs more ys begun)) (among_left b added (drop (length ys) (xs ++ more)) h)))
      (λ b h w. absurd w)

  -- one step is made, and some of the next one
  pub gains_until : (U : Wanted) (xs ys zs : List Broken) → GainsBroken rules rows U xs ys → GainsBroken rules rows (λ b h. ⊥) ys zs →
      GainsBroken rules rows (λ b h. ⊥) xs zs
  gains_until U xs ys zs g k = gains_more U (λ b h. ⊥) (λ b h. ⊥) xs ys zs g k (λ b h w. inr w)
