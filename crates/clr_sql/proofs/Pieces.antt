-- Pieces of a text that were added one after another.
use Rattle.std.proofs.Common.{◌≡◌, ◌++◌, List, append_assoc}

pub pieces_3 : {A : Type 0} (old a b c : List A) → ((old ++ a) ++ b) ++ c ≡ old ++ ((a ++ b) ++ c)
pieces_3 old a b c = simp append_assoc
