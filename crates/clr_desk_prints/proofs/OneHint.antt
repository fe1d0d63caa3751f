-- At names there is one list of hints alone.
use Rattle.std.proofs.Common.{◌≡◌, ◌∙◌, List, ℕ, [], ◌∷◌, ◌++◌, All, Option, Some, None, ap, inl, inr, refl, subst, sym}
use Rattle.std.specs.Float.{Float, ◌<ᶠ◌, ◌≤ᶠ◌}
use Rattle.std.proofs.lemmas.Float.{lt_irrefl, lt_of_le_of_lt}
use Rattle.std.proofs.lemmas.List.Elements.{All-head, All-tail}
use Rattle.clr_hints.specs.Names.{IsNearest, likeness}
use Rattle.clr_workspaces.specs.Marks.{Name}
use Rattle.clr_steps.specs.Offices.{Office}
use Rattle.clr_office.specs.NameHints.{AreNameHints, IsHintAt, IsMeant, hint_at, workspace_names}

-- what holds of all of a list holds of one in its middle
middle : {X : Type 0} (P : X → Type 0) (front : List X) (x : X) (behind : List X) → All P (front ++ x ∷ behind) → P x
middle P [] x behind all = All-head P x behind all
middle P (y ∷ front) x behind all = middle P front x behind (All-tail P y (front ++ x ∷ behind) all)

module _ (name : List ℕ) where
  abbrev Below : List ℕ → List ℕ → Type 0
  Below near other = likeness name other <ᶠ likeness name near

  abbrev AtMost : List ℕ → List ℕ → Type 0
  AtMost near other = likeness name other ≤ᶠ likeness name near

  -- two names that are first of those most alike
  same_place : (front others : List (List ℕ)) (near far : List ℕ) (behind after : List (List ℕ)) → front ++ near ∷ behind ≡ others ++ far ∷ after
      → All (Below near) front → All (AtMost near) behind → All (Below far) others → All (AtMost far) after → near ≡ far
  same_place [] [] near far behind after e first most first_too most_too = cc
  same_place [] (y ∷ others) near far behind after e first most first_too most_too =
      let here : near ≡ y = cc in
      let rest : behind ≡ others ++ far ∷ after = cc in
      let less = subst (λ n. likeness name n <ᶠ likeness name far) (sym here) (All-head (Below far) y others first_too) in
      let most_of : likeness name far ≤ᶠ likeness name near = middle (AtMost near) others far after (subst (All (AtMost near)) rest most) in
      absurd (lt_irrefl _ (lt_of_le_of_lt _ _ _ most_of less))
  same_place (x ∷ front) [] near far behind after e first most first_too most_too =
      let here : x ≡ far = cc in
      let rest : front ++ near ∷ behind ≡ after = cc in
      let less = subst (λ n. likeness name n <ᶠ likeness name near) here (All-head (Below near) x front first) in
      let most_of : likeness name near ≤ᶠ likeness name far = middle (AtMost far) front near behind (subst (All (AtMost far)) (sym rest) most_too) in
      absurd (lt_irrefl _ (lt_of_le_of_lt _ _ _ most_of less))
  same_place (x ∷ front) (y ∷ others) near far behind after e first most first_too most_too =
      let rest : front ++ near ∷ behind ≡ others ++ far ∷ after = cc in
      same_place front others near far behind after rest (All-tail (Below near) x front first) most (All-tail (Below far) y others first_too) most_too

  -- a name that is more alike than all are
  too_low : (least : Float) (names front behind : List (List ℕ)) (near : List ℕ) → names ≡ front ++ near ∷ behind
      → All (λ other. likeness name other ≤ᶠ least) names → least <ᶠ likeness name near → ⊥
  too_low least names front behind near stands low enough =
      lt_irrefl _ (lt_of_le_of_lt _ _ _ (middle (λ other. likeness name other ≤ᶠ least) front near behind
      (subst (All (λ other. likeness name other ≤ᶠ least)) stands low)) enough)

  one_nearest : (names : List (List ℕ)) (near far : Option (List ℕ)) → IsNearest name names near → IsNearest name names far → near ≡ far
  one_nearest names None None one two = refl
  one_nearest names None (Some far) one two = absurd (too_low _ names two.front two.behind far two.stands one two.enough)
  one_nearest names (Some near) None one two = absurd (too_low _ names one.front one.behind near one.stands two one.enough)
  one_nearest names (Some near) (Some far) one two =
      ap Some (same_place one.front two.front near far one.behind two.behind (sym one.stands ∙ two.stands) one.first one.most two.first two.most)

module _ (o : Office) where
  one_meant : (name : Name) (near far : Option Name) → IsMeant o name near → IsMeant o name far → near ≡ far
  one_meant name near far (inl one) (inl two) = one_nearest name (workspace_names o) near far one.1 two.1
  one_meant name near far (inl one) (inr two) = absurd (two.0 one.0)
  one_meant name near far (inr one) (inl two) = absurd (one.0 two.0)
  one_meant name near far (inr one) (inr two) = one.1 ∙ sym two.1

  one_hint : (name : Name) (line other : List ℕ) → IsHintAt o name line → IsHintAt o name other → line ≡ other
  one_hint name line other (near, meant, is) (far, meant_too, is_other) = is ∙ ap (hint_at name) (one_meant name near far meant meant_too) ∙ sym is_other

  pub one_hints : (names : List Name) (lines others : List ℕ) → AreNameHints o names lines → AreNameHints o names others → lines ≡ others
  one_hints [] lines others one two = one ∙ sym two
  one_hints (name ∷ names) lines others (line, rest, here, behind, is) (other, more, there, after, is_other) =
      is ∙ (λ i. one_hint name line other here there i ++ one_hints names rest more behind after i) ∙ sym is_other
