-- The nearest of names, one name after another.
use Rattle.std.proofs.Common.{◌≡◌, ◌∙◌, ◌≢◌, ℕ, ◌+◌, ◌<◌, nat_eq, Bool, true, false, cond, T, not, List, [], ◌∷◌, ◌++◌, All, length, map, take, get_or}
use Rattle.std.proofs.Common.{Bor, Option, Some, None, Result, Ok, refl, sym, ap, subst, append_assoc}
use Rattle.std.specs.Prelude.{IfOk}
use Rattle.std.specs.Float.{Float, ◌<ᶠ◌, ◌≤ᶠ◌, NotNan, float_one}
use Rattle.std.specs.Float.Ieee.{is_nan, lt, of_bits}
use Rattle.std.specs.Str.{bytes_eq, chars}
use Rattle.std.proofs.lemmas.Bool.{false≢true}
use Rattle.std.proofs.lemmas.Float.{T_from_false, T_from_true, le_of_lt, le_of_not-lt, le_right, lt_of_le_of_lt, lt_trans}
use Rattle.std.proofs.lemmas.List.{map_more}
use Rattle.std.proofs.lemmas.List.Elements.{All-append, All-cons, All-nil, All-push, All-same, All-weaker}
use Rattle.std.proofs.lemmas.Slice.Eq.{bytes_eq-Decides}
use Rattle.strsim.specs.Edits.{common_prefix, held, jaro_score, winkler_boost}
use Rattle.clr_hints.specs.declared.names.TheConstants.{LEAST_LIKENESS}
use Rattle.clr_hints.specs.Names.{IsNearest, likeness}

-- what jaro_winkler says of two names
pub likeness_is : {E : Type 0} (name other : List ℕ) (r : Result Float E) → ((name ≡ other) → r ≡ Ok float_one)
    → ((name ≢ other) → IfOk r (λ s. s
    ≡ held (winkler_boost (jaro_score nat_eq (chars name) (chars other)) (common_prefix nat_eq 4 (chars name) (chars other)))))
    → IfOk r (λ s. s ≡ likeness name other)
unfolding likeness
likeness_is name other r same differ = by (bytes_eq name other) refl
  where
    score : Float
    score = held (winkler_boost (jaro_score nat_eq (chars name) (chars other)) (common_prefix nat_eq 4 (chars name) (chars other)))

    by : (b : Bool) → bytes_eq name other ≡ b → IfOk r (λ s. s ≡ cond b float_one score)
    by true e = rw (same ((bytes_eq-Decides name other).0 e)) refl
    by false e = differ (λ is. false≢true (sym e ∙ (bytes_eq-Decides name other).1 is))

module _ (name : List ℕ) where
  -- the likeness that a later name has to pass
  abbrev pub bar : Option (List ℕ) → Float
  bar None = LEAST_LIKENESS
  bar (Some near) = likeness name near

  abbrev Below : Float → List ℕ → Type 0
  Below most n = likeness name n <ᶠ most

  abbrev AtMost : Float → List ℕ → Type 0
  AtMost most n = likeness name n ≤ᶠ most

  is_bar : (names : List (List ℕ)) (near : Option (List ℕ)) → IsNearest name names near → NotNan (bar near)
  unfolding is_nan of_bits
  is_bar names None is = tt
  is_bar names (Some near) is = le_right _ _ (le_of_lt _ _ is.enough)

  all_below : (names : List (List ℕ)) (near : Option (List ℕ)) (other : List ℕ) → IsNearest name names near → bar near <ᶠ likeness name other
      → All (λ n. likeness name n <ᶠ likeness name other) names
  all_below names None other is more =
      All-weaker (AtMost LEAST_LIKENESS) (Below (likeness name other)) (λ n le. lt_of_le_of_lt _ _ _ le more) names is
  all_below names (Some near) other is more =
      let most = likeness name near in
      let above = Below (likeness name other) in
      let front = All-weaker (Below most) above (λ n lt. lt_trans _ _ _ lt more) is.front is.first in
      let behind = All-weaker (AtMost most) above (λ n le. lt_of_le_of_lt _ _ _ le more) is.behind is.most in
      All-same above names (is.front ++ near ∷ is.behind) is.stands
      (All-append above is.front (near ∷ is.behind) front (All-cons above near is.behind more behind))

  enough : (names : List (List ℕ)) (near : Option (List ℕ)) (other : List ℕ) → IsNearest name names near → bar near <ᶠ likeness name other
      → LEAST_LIKENESS <ᶠ likeness name other
  enough names None other is more = more
  enough names (Some near) other is more = lt_trans _ _ _ is.enough more

  -- a later name that is more alike is the nearest
  pub passes : (names : List (List ℕ)) (near : Option (List ℕ)) (other : List ℕ) → IsNearest name names near → bar near <ᶠ likeness name other
      → IsNearest name (names ++ other ∷ []) (Some other)
  passes names near other is more = record {
    front = names;
    behind = [];
    stands = refl;
    enough = enough names near other is more;
    first = all_below names near other is more;
    most = All-nil (AtMost (likeness name other));
  }

  -- a later name that isn't more alike leaves the nearest
  pub stays : (names : List (List ℕ)) (near : Option (List ℕ)) (other : List ℕ) → IsNearest name names near → NotNan (likeness name other)
      → T (not (lt (bar near) (likeness name other))) → IsNearest name (names ++ other ∷ []) near
  stays names None other is number less = All-push (AtMost LEAST_LIKENESS) names other is (le_of_not-lt _ _ (is_bar names None is) number less)
  stays names (Some near) other is number less = record {
    front = is.front;
    behind = is.behind ++ other ∷ [];
    stands = ap (λ ns. ns ++ other ∷ []) is.stands ∙ append_assoc is.front (near ∷ is.behind) (other ∷ []);
    enough = is.enough;
    first = is.first;
    most = All-push (AtMost (likeness name near)) is.behind other is.most (le_of_not-lt _ _ (is_bar names (Some near) is) number less);
  }

  -- the names as calls hold them
  abbrev texts : List (Bor (List ℕ)) → List (List ℕ)
  texts names = map (λ other. other.now) names

  module _ (names : List (Bor (List ℕ))) (at : ℕ) (near : Option (List ℕ)) (past : Bor (List ℕ)) (most alike : Float) where
    abbrev here : List ℕ
    here = (get_or names at past).now

    module _ (less : at < length names) (is : IsNearest name (texts (take at names)) near) (so_far : most ≡ bar near) (read : alike ≡ likeness name here) where
      compared : lt most alike ≡ lt (bar near) (likeness name here)
      compared = λ i. lt (so_far i) (read i)

      one_more : texts (take (at + 1) names) ≡ texts (take at names) ++ here ∷ []
      one_more = map_more (λ other. other.now) names at past less

      pub turn_passes : lt most alike ≡ true → IsNearest name (texts (take (at + 1) names)) (Some here)
      turn_passes more =
          subst (λ ns. IsNearest name ns (Some here)) (sym one_more)
          (passes (texts (take at names)) near here is (T_from_true _ (sym compared ∙ more)))

      pub turn_stays : NotNan alike → lt most alike ≡ false → IsNearest name (texts (take (at + 1) names)) near
      turn_stays number less_alike =
          subst (λ ns. IsNearest name ns near) (sym one_more)
          (stays (texts (take at names)) near here is (subst NotNan read number) (T_from_false _ (sym compared ∙ less_alike)))
