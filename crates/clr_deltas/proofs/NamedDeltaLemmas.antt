-- What an indexed map has by names, beside the deltas that it stands for.
use Rattle.std.proofs.Common.{◌≡◌, ℕ, suc, zero, ◌+◌, ◌<◌, true, not, cond, nat_lt, List, [], ◌∷◌, ◌++◌, Some, None, is_some, length, refl, ap, sym, ◌∙◌, subst}
use Rattle.std.proofs.Common.{arith, string_bytes, String, Global, slice_get}
use Rattle.std.specs.Prelude.{position, count_by, fold}
use Rattle.std.specs.Str.{bytes_eq}
use Rattle.std.specs.String.{string_eq}
use Rattle.std.specs.List.{position_or_len}
use Rattle.std.specs.Map.{keys_of, values_of}
use Rattle.std.proofs.lemmas.List.{map-append}
use Rattle.indexmap.proofs.MapLemmas.{insert_entry-absent, Missing-position}
use Rattle.indexmap.specs.IndexMap.{insert_entry, set_value_at}
use Rattle.clr_workspaces.specs.Marks.{Name}
use Rattle.clr_deltas.specs.Deltas.{Delta, delta_at, delta_changed, find_delta}
use Rattle.clr_deltas.specs.NamedDeltas.{delta_of, deltas_of}
use Rattle.clr_deltas.specs.declared.workspace_maps.Delta.{Delta as Parts}

abbrev pub NameMap : Type 0
NameMap = List (String Global × Parts)

-- a search over the keys is one over the names -------------------------------------------------

first_key : (name : Name) (es : NameMap) → position_or_len (λ (k : String Global). bytes_eq name (string_bytes k)) (keys_of es)
    ≡ position_or_len (λ (l : Delta). bytes_eq name l.name) (deltas_of es)
first_key name [] = refl
first_key name (e ∷ es) = ap (λ n. cond (not (bytes_eq name (string_bytes e.0))) (1 + n) 0) (first_key name es)

length_keys : (es : NameMap) → length (keys_of es) ≡ length (deltas_of es)
length_keys [] = refl
length_keys (e ∷ es) = ap suc (length_keys es)

pub find_key : (name : Name) (es : NameMap) → position (λ (k : String Global). bytes_eq name (string_bytes k)) (keys_of es) ≡ find_delta (deltas_of es) name
find_key name es = ap (λ (p : ℕ × ℕ). cond (nat_lt p.0 p.1) (Some p.0) None) (λ i. (first_key name es i, length_keys es i))

-- a new name goes last
pub insert_last : (k : String Global) (l : Parts) (es : NameMap) → find_delta (deltas_of es) (string_bytes k) ≡ None → deltas_of (insert_entry string_eq es k l)
    ≡ deltas_of es ++ delta_of (k, l) ∷ []
insert_last k l es none =
    ap deltas_of (insert_entry-absent string_eq k l es (Missing-position (string_eq k) es (find_key (string_bytes k) es ∙ none)).absent)
    ∙ map-append delta_of es ((k, l) ∷ [])

children_from : (name : Name) (es : NameMap) (n : ℕ) → fold (λ a (l : Parts). a + cond (bytes_eq name l.parent) 1 0) n (values_of es)
    ≡ fold (λ a (l : Delta). a + cond (bytes_eq name l.parent) 1 0) n (deltas_of es)
children_from name [] n = refl
children_from name (e ∷ es) n = children_from name es (n + cond (bytes_eq name e.1.parent) 1 0)

pub children_here : (name : Name) (es : NameMap) → count_by (λ (l : Parts). bytes_eq name l.parent) (values_of es)
    ≡ count_by (λ (l : Delta). bytes_eq name l.parent) (deltas_of es)
children_here name es = children_from name es 0

-- what stands at a position --------------------------------------------------------------------

-- the value there, under any name
pub value_at : (es : NameMap) (at : ℕ) (v : Parts) (k : Name) → slice_get (values_of es) at ≡ Some v
    → ◌≡◌ {A = Delta} (let l = delta_at (deltas_of es) at in record l { name = k })
    (record { name = k; parent = v.parent; base = v.base; current = v.current; marks = v.marks.items; kept = v.kept })
value_at [] at v k h = absurd (cc)
value_at (e ∷ es) zero v k h = let same : e.1 ≡ v = cc in
    ap (λ (p : Parts). let l : Delta = record { name = k; parent = p.parent; base = p.base; current = p.current; marks = p.marks.items; kept = p.kept } in l)
    same
value_at (e ∷ es) (suc at) v k h = value_at es at v k h

here : (es : NameMap) (at : ℕ) (e : String Global × Parts) → slice_get es at ≡ Some e → delta_at (deltas_of es) at ≡ delta_of e
here [] at e h = absurd (cc)
here (d ∷ es) zero e h = let same : d ≡ e = cc in ap delta_of same
here (d ∷ es) (suc at) e h = here es at e h

pub named_at : (es : NameMap) (ls : List Delta) (at : ℕ) (e : String Global × Parts) → deltas_of es ≡ ls → slice_get es at ≡ Some e → delta_at ls at
    ≡ delta_of e
named_at es ls at e is h = sym (ap (λ (xs : List Delta). delta_at xs at) is) ∙ here es at e h

there : (es : NameMap) (at : ℕ) → at < length (deltas_of es) → is_some (slice_get es at) ≡ true
there [] at lt = absurd (omega arith)
there (d ∷ es) zero lt = refl
there (d ∷ es) (suc at) lt = there es at (omega arith)

pub some_named : (es : NameMap) (ls : List Delta) (at : ℕ) → deltas_of es ≡ ls → at < length ls → is_some (slice_get es at) ≡ true
some_named es ls at is lt = there es at (subst (λ (xs : List Delta). at < length xs) (sym is) lt)

-- one value changes ----------------------------------------------------------------------------

changed_here : (es : NameMap) (at : ℕ) (e : String Global × Parts) (v : Parts) (f : Delta → Delta) → slice_get es at ≡ Some e → delta_of (e.0, v)
    ≡ f (delta_of e)
    → deltas_of (set_value_at es at v) ≡ delta_changed (deltas_of es) at f
changed_here [] at e v f h same = absurd (cc)
changed_here (d ∷ es) zero e v f h same =
    let one : d ≡ e = cc in
    ap (λ (c : String Global × Parts). delta_of (c.0, v) ∷ deltas_of es) one ∙ ap (λ l. l ∷ deltas_of es) same
    ∙ ap (λ (c : String Global × Parts). f (delta_of c) ∷ deltas_of es) (sym one)
changed_here (d ∷ es) (suc at) e v f h same = ap (λ ls. delta_of d ∷ ls) (changed_here es at e v f h same)

pub changed : (es : NameMap) (ls : List Delta) (at : ℕ) (k : String Global) (u v : Parts) (f : Delta → Delta) → deltas_of es ≡ ls → slice_get es at
    ≡ Some (k, u) → delta_of (k, v) ≡ f (delta_of (k, u))
    → deltas_of (set_value_at es at v) ≡ delta_changed ls at f
changed es ls at k u v f is h same = changed_here es at (k, u) v f h same ∙ ap (λ (xs : List Delta). delta_changed xs at f) is

stays_here : (es : NameMap) (at : ℕ) (e : String Global × Parts) (v : Parts) → slice_get es at ≡ Some e → delta_of (e.0, v) ≡ delta_of e
    → deltas_of (set_value_at es at v) ≡ deltas_of es
stays_here [] at e v h same = absurd (cc)
stays_here (d ∷ es) zero e v h same =
    let one : d ≡ e = cc in
    ap (λ (c : String Global × Parts). delta_of (c.0, v) ∷ deltas_of es) one ∙ ap (λ l. l ∷ deltas_of es) same ∙ ap (λ (c : String Global × Parts). delta_of c
    ∷ deltas_of es) (sym one)
stays_here (d ∷ es) (suc at) e v h same = ap (λ ls. delta_of d ∷ ls) (stays_here es at e v h same)

-- a value that means the same
pub stays : (es : NameMap) (ls : List Delta) (at : ℕ) (k : String Global) (u v : Parts) → deltas_of es ≡ ls → slice_get es at ≡ Some (k, u) → delta_of (k, v)
    ≡ delta_of (k, u) → deltas_of (set_value_at es at v) ≡ ls
stays es ls at k u v is h same = stays_here es at (k, u) v h same ∙ is
