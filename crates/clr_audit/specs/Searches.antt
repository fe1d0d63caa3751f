-- The broken needs of listed rows, and what a search among them adds to a list.
use Rattle.std.specs.Prelude.{◌≡◌, ◌⊎◌, ◌≤◌, ℕ, Bool, true, false, not, List, [], ◌∷◌, ◌&&◌, Option, Some, None, Contains, ⊤, IsSome}
use Rattle.std.specs.Prelude.{map, slice_get, if◌then◌else◌}
use Rattle.std.specs.List.{flat_map, list_any}
use Rattle.std.specs.List.Sorted.{IsStrictlySortedBy}
use Rattle.std.specs.Ordering.{is_gt, is_le, nat_cmp, ordering_then}
use Rattle.clr_rows.specs.Cells.{cell_cmp}
use Rattle.clr_rows.specs.declared.cells.CellId.{CellId}
use Rattle.clr_rows.specs.Held.{Held, held_of}
use Rattle.clr_rules.specs.declared.needs.Ask.{Ask}
use Rattle.clr_rules.specs.declared.needs.Broken.{Broken}
use Rattle.clr_rules.specs.declared.rules.Rule.{Rule}
use Rattle.clr_spots.specs.declared.spots.Spot.{Spot}
use Rattle.clr_spots.specs.declared.spots.Spots.{Spots}
use Rattle.clr_rules.specs.Calls.{ask_of_parts, calls, serves}
use Rattle.clr_rules.specs.Needs.{ask_of, broken_at, broken_cmp, is_after}
use Rattle.clr_audit.specs.declared.searching.Search.{Search}
use Rattle.clr_spots.specs.declared.spot_maps.FiledPart.{FiledPart}
use Rattle.clr_spots.specs.Filing.{parts_at, near}
use Rattle.clr_audit.specs.PartServers.{may_serve_part_under}
use Rattle.clr_audit.specs.RoleFiling.{filed_rows, no_rows_filed}

abbrev pub serves_if : List Rule → Ask → Held → Option Held → Option Held → Bool
serves_if rules ask s t None = false
serves_if rules ask s t (Some r) = serves rules ask s t r

-- the row of a filed part serves these subjects
abbrev pub serves_at : List Rule → Ask → List Held → Held → Option Held → FiledPart → Bool
serves_at rules ask rows s t e = serves_if rules ask s t (slice_get rows e.position)

-- the rows of a search
abbrev pub rows_of : Search → List Held
rows_of search = map held_of search.rows.now

-- all rows of a search are filed under its rule
abbrev pub AreRowsFiled : Search → Type 0
AreRowsFiled search = search.index.now ≡ filed_rows search.book.now search.rule no_rows_filed 0 (rows_of search)

-- one of some filed parts is of a row that serves these subjects
abbrev pub serves_among : Search → Ask → Held → Option Held → List FiledPart → Bool
serves_among search ask s t parts = list_any (serves_at search.book.now ask (rows_of search) s t) parts

-- the servers of some spots
abbrev pub servers_at_spots : Search → List Spot → List FiledPart
servers_at_spots search spots = flat_map (parts_at search.index.now.servers.by_spot) spots

-- the servers that may serve a row of these spots
abbrev pub servers_near : Search → Spots → List FiledPart
servers_near search spots = near search.index.now.servers spots.list spots.wide

abbrev pub may_serve_if : List Rule → ℕ → ℕ → Held → Option Held → Bool
may_serve_if rules number part s None = false
may_serve_if rules number part s (Some r) = may_serve_part_under rules number part s r

-- the row of a filed part may serve a part of a row
abbrev pub may_serve_at : Search → ℕ → Held → FiledPart → Bool
may_serve_at search part s e = may_serve_if search.book.now search.rule part s (slice_get (rows_of search) e.position)

-- the filed part, if its row may serve a part of a row
abbrev pub server_if : Search → ℕ → Held → FiledPart → List FiledPart
server_if search part s e = if may_serve_at search part s e then e ∷ [] else []

-- the servers that may serve a part of a row of these spots
abbrev pub servers_of_part : Search → ℕ → Held → Spots → List FiledPart
servers_of_part search part s spots = flat_map (server_if search part s) (servers_near search spots)

-- the need, where its subjects call and no server among these serves them
abbrev pub need_if_broken : Search → List FiledPart → Ask → Held → Option Held → List Broken
need_if_broken search servers ask s t =
    if calls search.book.now ask s t && not (serves_among search ask s t servers)
    then broken_at ask s t ∷ []
    else []

abbrev pub need_with : Search → List FiledPart → Ask → Held → Option Held → List Broken
need_with search servers ask s None = []
need_with search servers ask s (Some t) = if is_after s t then need_if_broken search servers ask s (Some t) else []

-- the need of a part of a row with a filed part, if the row of that part comes after the first one
abbrev pub need_beside : Search → List FiledPart → Held → ℕ → FiledPart → List Broken
need_beside search servers s part e = need_with search servers (ask_of_parts search.rule part e.part) s (slice_get (map held_of search.rows.now) e.position)

-- a second subject is one of the rows too, at a greater cell
abbrev pub IsSecondAmong : List Held → Held → Option Held → Type 0
IsSecondAmong rows s None = ⊤
IsSecondAmong rows s (Some t) = Contains rows t × (is_after s t ≡ true)

-- a need of listed rows that none of them serves
pub record IsBrokenAmong (rules : List Rule) (rows : List Held) (b : Broken) : Type 0 where
  pub first : Held
  pub second : Option Held
  pub listed : Contains rows first
  pub beside : IsSecondAmong rows first second
  pub they_call : calls rules (ask_of b) first second ≡ true
  pub unmet : list_any (serves rules (ask_of b) first second) rows ≡ false
  pub named : b ≡ broken_at (ask_of b) first second

-- which broken needs are wanted
abbrev pub WantedOf : List Rule → List Held → Type 1
WantedOf rules rows = (b : Broken) → IsBrokenAmong rules rows b → Type 0

-- the later list has the earlier one, besides it broken needs alone, and of those all that are wanted
pub record GainsBroken (rules : List Rule) (rows : List Held) (Wanted : WantedOf rules rows) (before after : List Broken) : Type 0 where
  pub stay : (b : Broken) → Contains before b → Contains after b
  pub only : (b : Broken) → Contains after b → Contains before b ⊎ IsBrokenAmong rules rows b
  pub found : (b : Broken) (h : IsBrokenAmong rules rows b) → Wanted b h → Contains after b

-- the broken needs of one rule are wanted
abbrev pub IsOfRule : {rules : List Rule} {rows : List Held} → ℕ → (b : Broken) → IsBrokenAmong rules rows b → Type 0
IsOfRule n b h = b.rule ≡ n

-- the broken needs whose first subject is this row are wanted
abbrev pub IsOfRow : {rules : List Rule} {rows : List Held} → ℕ → Held → (b : Broken) → IsBrokenAmong rules rows b → Type 0
IsOfRow n s b h = (b.rule ≡ n) × (h.first ≡ s)

-- the broken needs of this row alone are wanted
abbrev pub IsAlone : {rules : List Rule} {rows : List Held} → ℕ → Held → (b : Broken) → IsBrokenAmong rules rows b → Type 0
IsAlone n s b h = (b.rule ≡ n) × (h.first ≡ s) × (h.second ≡ None)

-- the broken needs of this row and another are wanted
abbrev pub IsPaired : {rules : List Rule} {rows : List Held} → ℕ → Held → (b : Broken) → IsBrokenAmong rules rows b → Type 0
IsPaired n s b h = (b.rule ≡ n) × (h.first ≡ s) × IsSome h.second

-- the broken needs of this part of the row and another row are wanted
abbrev pub IsOfPart : {rules : List Rule} {rows : List Held} → ℕ → Held → ℕ → (b : Broken) → IsBrokenAmong rules rows b → Type 0
IsOfPart n s part b h = (b.rule ≡ n) × (h.first ≡ s) × IsSome h.second × (b.first_part ≡ part)

-- the later list has the earlier one, besides it broken needs of a search's rows alone, and of those all that are wanted
abbrev pub GainsAll : (search : Search) → WantedOf search.book.now (rows_of search) → List Broken → List Broken → Type 0
GainsAll search Wanted before after = GainsBroken search.book.now (rows_of search) Wanted before after

-- the later list has the earlier one, and besides it broken needs alone
abbrev pub GainsBrokenAlone : Search → List Broken → List Broken → Type 0
GainsBrokenAlone search before after = GainsAll search (λ b h. ⊥) before after

-- the least of all -------------------------------------------------------------------------------

-- a broken need comes at or before all that have a row of a rule as their first subject
abbrev pub is_up_to : ℕ → CellId → Broken → Bool
is_up_to n cell b = is_le (ordering_then (nat_cmp b.rule n) (cell_cmp b.first cell))

-- the rows stand in the order of their cells
abbrev pub AreInCellOrder : List Held → Type 0
AreInCellOrder rows = IsStrictlySortedBy (λ s t. cell_cmp s.0 t.0) rows

-- a need of a list that no need of the list comes before
pub record IsLeastListed (list : List Broken) (b : Broken) : Type 0 where
  pub listed : Contains list b
  pub least : (c : Broken) → Contains list c → is_gt (broken_cmp b c) ≡ false

-- a broken need before which none comes of those that were listed, and of those of a rule and of later ones
pub record IsLeastAmong (rules : List Rule) (rows : List Held) (n : ℕ) (before : List Broken) (b : Broken) : Type 0 where
  pub broken : Contains before b ⊎ IsBrokenAmong rules rows b
  pub least : (c : Broken) → IsBrokenAmong rules rows c → Contains before c ⊎ (n ≤ c.rule) → is_gt (broken_cmp b c) ≡ false

-- a broken need before which none comes of those listed before, and of those of a search's rule and of later ones
abbrev pub IsLeastFrom : Search → List Broken → Broken → Type 0
IsLeastFrom search before b = IsLeastAmong search.book.now (rows_of search) search.rule before b
