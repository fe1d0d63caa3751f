-- Which name is meant by one that is nearly right.
use Rattle.std.specs.Prelude.{◌≡◌, ℕ, nat_eq, List, ◌∷◌, ◌++◌, ◌||◌, ◌==◌, nat_lt, codes, length, All, Option, Some, None, if◌then◌else◌}
use Rattle.std.specs.List.{join_by}
use Rattle.std.specs.Float.{Float, ◌<ᶠ◌, ◌≤ᶠ◌, float_one}
use Rattle.std.specs.Str.{bytes_eq, chars}
use Rattle.strsim.specs.Edits.{common_prefix, held, jaro_score, winkler_boost}
use Rattle.clr_hints.specs.declared.names.TheConstants.{LEAST_LIKENESS, MOST_LISTED}

-- how alike two names are, from 0 to 1: 1 where they are the same, and else the score of Jaro and Winkler of their characters
unfoldable pub likeness : List ℕ → List ℕ → Float
likeness name other =
    if bytes_eq name other then float_one
    else held (winkler_boost (jaro_score nat_eq (chars name) (chars other)) (common_prefix nat_eq 4 (chars name) (chars other)))

-- a name stands among others, is like enough, and is the first of those that are most alike
pub record IsMostLike (name : List ℕ) (names : List (List ℕ)) (near : List ℕ) : Type 0 where
  pub front : List (List ℕ)
  pub behind : List (List ℕ)
  pub stands : names ≡ front ++ near ∷ behind
  pub enough : LEAST_LIKENESS <ᶠ likeness name near
  pub first : All (λ other. likeness name other <ᶠ likeness name near) front
  pub most : All (λ other. likeness name other ≤ᶠ likeness name near) behind

-- the name that may be meant by one, and none where no name is like enough
abbrev pub IsNearest : List ℕ → List (List ℕ) → Option (List ℕ) → Type 0
IsNearest name names None = All (λ other. likeness name other ≤ᶠ LEAST_LIKENESS) names
IsNearest name names (Some near) = IsMostLike name names near

-- the hint at names that are so many, by how they are listed: none where there are none, or more than a hint lists
abbrev pub hint_listing : ℕ → List ℕ → Option (List ℕ)
hint_listing count listed = if count == 0 || nat_lt MOST_LISTED count then None else Some (codes "known: " ++ listed)

abbrev pub hint_at_all : List (List ℕ) → Option (List ℕ)
hint_at_all names = hint_listing (length names) (join_by (λ name. name) (codes ", ") names)

-- the hint at the name that may be meant, and where there is none the one at all names
abbrev pub hint_by : List (List ℕ) → Option (List ℕ) → Option (List ℕ)
hint_by names None = hint_at_all names
hint_by names (Some near) = Some (codes "did you mean '" ++ near ++ codes "'?")

abbrev pub IsHintAtName : List ℕ → List (List ℕ) → Option (List ℕ) → Type 0
IsHintAtName name names hint = (near : Option (List ℕ)) × IsNearest name names near × (hint ≡ hint_by names near)
