-- Those that go before a member, one turn after another.
use Rattle.std.proofs.Common.{◌≡◌, ◌∙◌, ◌==◌, ◌+◌, ◌<◌, ℕ, List, [], ◌∷◌, ◌++◌, ap, filter, get_or, length, map, take}
use Rattle.std.proofs.lemmas.List.{map-append, take_more}
use Rattle.std.proofs.lemmas.List.Elements.{filter-append}
use Rattle.clr_board.specs.declared.turns.Turn.{Turn}
use Rattle.clr_board.specs.Boards.{earlier_of}

pub earlier_more : (turns : List Turn) (at k : ℕ) (none : Turn) → k < length turns
    → earlier_of (take (k + 1) turns) at ≡ earlier_of (take k turns) at ++ earlier_of (get_or turns k none ∷ []) at
earlier_more turns at k none less =
    ap (λ ts. earlier_of ts at) (take_more turns k none less)
    ∙ ap (map (λ (t : Turn). t.earlier)) (filter-append (λ (t : Turn). t.later == at) (take k turns) (get_or turns k none ∷ []))
    ∙ map-append (λ (t : Turn). t.earlier) (filter (λ (t : Turn). t.later == at) (take k turns))
    (filter (λ (t : Turn). t.later == at) (get_or turns k none ∷ []))
