-- Chains of dependent pairs.
use Rattle.std.proofs.Common.{◌≡◌, ℕ, List, [], ◌∷◌, refl, sym, subst}
use Rattle.clr_needs.specs.Independence.{AreDependent}
use Rattle.clr_needs.specs.Settings.{Setting}
use Rattle.clr_groups.specs.Groups.{AreJoined, IsChain}

module _ (c : Setting ℕ) where
  pub joined_itself : (x y : ℕ) → x ≡ y → AreJoined c x y
  joined_itself x y e = ([], e)

  pub joined_by : (x y : ℕ) → AreDependent c x y → AreJoined c x y
  joined_by x y dependent = (y ∷ [], (dependent, refl))

  behind : (x : ℕ) (zs : List ℕ) (y z : ℕ) → IsChain c x zs y → AreJoined c y z → AreJoined c x z
  behind x [] y z e joined = subst (λ k. AreJoined c k z) (sym e) joined
  behind x (w ∷ ws) y z (dependent, rest) joined = let (vs, chain) = behind w ws y z rest joined in (w ∷ vs, (dependent, chain))

  pub joined_through : (x y z : ℕ) → AreJoined c x y → AreJoined c y z → AreJoined c x z
  joined_through x y z (zs, chain) joined = behind x zs y z chain joined
