-- Values that are given, or others.
use Rattle.std.proofs.Common.{◌≡◌, List, ℕ, Option, Some, None, option_map, refl, unwrap_or}

pub given : {A : Type 0} (f : A → List ℕ) (o : Option A) (otherwise : A) → f (unwrap_or o otherwise) ≡ unwrap_or (option_map f o) (f otherwise)
given f (Some a) otherwise = refl
given f None otherwise = refl
