-- A key above all keys of a table is free.
use Rattle.std.proofs.Common.{◌≡◌, ◌==◌, ◌∙◌, ℕ, zero, suc, ℤ, pos, ◌<◌, ◌≤◌, Bool, true, false, cond, max, List, [], ◌∷◌, None, Some, ap, arith, length, map}
use Rattle.std.proofs.Common.{refl, subst, unsigned_abs}
use Rattle.std.specs.Prelude.{slice_get}
use Rattle.std.specs.FinMap as finite
use Rattle.std.specs.FinMap.{find, get-entries}
use Rattle.std.specs.Option.{option_map}
use Rattle.std.specs.Ordering.{is_eq}
use Rattle.std.specs.declared.cmp.Ordering.{Ordering}
use Rattle.std.specs.declared.cmp.Ordering.TheVariants.{Less, Equal, Greater}
use Rattle.std.proofs.lemmas.Bool.Decides.{nat_tests}
use Rattle.std.proofs.lemmas.Nat.{mod_below}
use Rattle.std.proofs.lemmas.Option.{slice_get-map}
use Rattle.clr_rows.specs.declared.cells.CellId.{CellId}
use Rattle.clr_rows.specs.Cells.{cell_cmp}
use Rattle.clr_rows.specs.Contents.{Changes, Content, row_at}
use Rattle.clr_rows.proofs.CellOrder.{cell_cmp_exact}
use Rattle.clr_workspaces.specs.Marks.{Name}
use Rattle.clr_steps.specs.Offices.{Office, content_of}
use Rattle.clr_steps.specs.Readings.{changes_in, if_stands}
use Rattle.clr_tips.specs.Keys.{all_names, greater_key, greatest_in, greatest_key, greatest_of, own_key, standing_key, tip_key}
use Rattle.clr_tips.proofs.KeyLemmas.{own, named}

-- the cell of a table with a key
abbrev pub cell_at : ℕ → ℕ → CellId
cell_at table n = record { table = table; key = pos n }

no_less : (table key : ℕ) (q : CellId) → key ≤ greater_key table key q
no_less table key q = by (q.table == table)
  where
    by : (b : Bool) → key ≤ cond b (max key (unsigned_abs q.key)) key
    by true = omega arith
    by false = omega arith

as_great : (table key n : ℕ) → n ≤ greater_key table key (cell_at table n)
as_great table key n = let same : (table == table) ≡ true = grind (arith, nat_tests) in rw same (omega arith)

grows : {A : Type 0} (table key : ℕ) (es : List (CellId × A)) → key ≤ greatest_of table key es
grows table key [] = omega arith
grows table key (e ∷ es) = let first = no_less table key e.0 in let rest = grows table (greater_key table key e.0) es in omega arith

all_grow : (table key : ℕ) (sets : List Changes) → key ≤ greatest_in table key sets
all_grow table key [] = omega arith
all_grow table key (set ∷ sets) =
    let first = grows table key (finite.entries set) in
    let rest = all_grow table (greatest_of table key (finite.entries set)) sets in
    omega arith

-- no cell of the table has a key above the greatest
not_found : {A : Type 0} (table key n : ℕ) (es : List (CellId × A)) → greatest_of table key es < n → find cell_cmp (cell_at table n) es ≡ None
not_found table key n [] less = refl
not_found {A} table key n (e ∷ es) less =
    by (cell_cmp (cell_at table n) e.0) refl (not_found table (greater_key table key e.0) n es less)
  where
    by : (r : Ordering) → cell_cmp (cell_at table n) e.0 ≡ r → find cell_cmp (cell_at table n) es ≡ None
        → cond (is_eq r) (Some e.1) (find cell_cmp (cell_at table n) es) ≡ None
    by Less is deep = deep
    by Greater is deep = deep
    by Equal is deep =
        let same = cell_cmp_exact (cell_at table n) e.0 is in
        let great = as_great table key n in
        let here : n ≤ greater_key table key e.0 = subst (λ (q : CellId). n ≤ greater_key table key q) same great in
        let rest = grows table (greater_key table key e.0) es in
        absurd (omega (arith, less, here, rest))

not_changed : (table key n at : ℕ) (sets : List Changes) (set : Changes) → greatest_in table key sets < n → slice_get sets at ≡ Some set
    → finite.get set (cell_at table n) ≡ None
not_changed table key n at [] set less here = absurd (cc)
not_changed table key n zero (first ∷ sets) set less here =
    let rest = all_grow table (greatest_of table key (finite.entries first)) sets in
    let same : first ≡ set = cc in
    subst (λ (c : Changes). finite.get c (cell_at table n) ≡ None) same
    (get-entries first (cell_at table n) ∙ not_found table key n (finite.entries first) (omega arith))
not_changed table key n (suc at) (first ∷ sets) set less here =
    not_changed table (greatest_of table key (finite.entries first)) n at sets set less here

above : (count at key : ℕ) → at < count → key < own_key count at key
unfolding own_key
above count at key less = let rest = mod_below key count (omega arith) in omega arith

pub tips_are_free : (o : Office) (root : Name) (table : ℕ) (name : Name) (key : ℤ) → tip_key o root table name ≡ Some key
    → ((content : Content) → if_stands o root (content_of o root) ≡ Some content → row_at content (record { table = table; key = key }) ≡ None)
    × ((at : ℕ) (ws : Name) → slice_get (all_names o) at ≡ Some ws → finite.get (changes_in o ws) (record { table = table; key = key }) ≡ None)
tips_are_free o root table name key told =
    let it = own (all_names o) (greatest_key o root table) name key told in
    let place = named (all_names o) name [] it.at it.found in
    let n = own_key (length (all_names o)) it.at (greatest_key o root table) in
    let over : greatest_key o root table < n = above (length (all_names o)) it.at (greatest_key o root table) place.0 in
    let standing = standing_key table (if_stands o root (content_of o root)) in
    let grown : standing ≤ greatest_key o root table = all_grow table standing (map (changes_in o) (all_names o)) in (
      λ content stands. subst (λ (k : ℤ). row_at content (record { table = table; key = k }) ≡ None) it.is
          (get-entries content (cell_at table n) ∙ not_found table 0 n (finite.entries content)
          (let same = ap (standing_key table) stands in omega (arith, over, grown, same))),
      λ at ws here. subst (λ (k : ℤ). finite.get (changes_in o ws) (record { table = table; key = k }) ≡ None) it.is
          (not_changed table standing n at (map (changes_in o) (all_names o)) (changes_in o ws) over
          (slice_get-map (changes_in o) (all_names o) at ∙ ap (option_map (changes_in o)) here)),
    )
