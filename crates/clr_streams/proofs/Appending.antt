-- What is put by two puts, one after the other.
use Rattle.std.proofs.Common.{◌∙◌, ℕ, List, [], ◌++◌, Option, None, Some, ap, append-nil, append_assoc, sym}
use Rattle.std.specs.Io.KnownBytes.{Appends}

pub nothing_more : (held : Option (List ℕ)) → Appends held held []
nothing_more None = tt
nothing_more (Some xs) = sym (append-nil xs)

pub two_puts : (held between holds : Option (List ℕ)) (first later : List ℕ) → Appends held between first → Appends between holds later
    → Appends held holds (first ++ later)
two_puts None between holds first later _ _ = tt
two_puts (Some xs) None holds first later h _ = absurd h
two_puts (Some xs) (Some ys) None first later _ h = absurd h
two_puts (Some xs) (Some ys) (Some zs) first later h g = g ∙ ap (λ bs. bs ++ later) h ∙ append_assoc xs first later
