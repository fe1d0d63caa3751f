-- The first item of a list whose own reading answers a fault.
use Rattle.std.specs.Prelude.{◌≡◌, ℕ, suc, zero, ◌<◌, Option, Some, None, Result, Ok, Err}
use Rattle.serde_json.specs.Data.{Data, Items, no_items, item}
use Rattle.clr_rule_text.specs.declared.faults.TextFault.{TextFault}
use Rattle.clr_readings.specs.Readings.{◌>>=◌}

-- an item on its own is read by f
abbrev pub alone : (Data → Result Unit TextFault) → Unit {0} → Data → Result Unit TextFault
alone f u d = f d

abbrev pub fault_or : {S : Type 0} → Result S TextFault → ℕ → (S → Option (ℕ × TextFault)) → Option (ℕ × TextFault)
fault_or (Ok s) at others = others s
fault_or (Err e) at others = Some (at, e)

-- the place of the first item whose reading answers a fault, and that fault; an item is read over what those before it left
unfoldable pub first_fault_from : {S : Type 0} → (S → Data → Result S TextFault) → S → ℕ → Items → Option (ℕ × TextFault)
first_fault_from f s at no_items = None
first_fault_from f s at (item d ds) = fault_or (f s d) at (λ t. first_fault_from f t (suc at) ds)

abbrev pub item_at : Items → ℕ → Option Data
item_at no_items k = None
item_at (item d ds) zero = Some d
item_at (item d ds) (suc k) = item_at ds k

-- what the first items of a list leave, that many of them
abbrev pub left_by : {S : Type 0} → (S → Data → Result S TextFault) → S → Items → ℕ → Result S TextFault
left_by f s items zero = Ok s
left_by f s no_items (suc k) = Ok s
left_by f s (item d ds) (suc k) = f s d >>= λ t. left_by f t ds k

-- all items before a place can be read, and the one there answers this fault over what they left
pub record IsFirstFault {S : Type 0} (f : S → Data → Result S TextFault) (s : S) (items : Items) (at : ℕ) (e : TextFault) : Type 0 where
  pub left : S
  pub earlier : left_by f s items at ≡ Ok left
  pub there : (d : Data) × (item_at items at ≡ Some d) × (f left d ≡ Err e)

abbrev pub LeftLaw : Type 0 → Type 0
LeftLaw S = (f : S → Data → Result S TextFault) (s : S) (items : Items) (at : ℕ) (e : TextFault) → first_fault_from f s 0 items ≡ Some (at, e)
    → IsFirstFault f s items at e

-- the item at a place answers this fault, and each before it can be read
pub record IsFirstAlone (f : Data → Result Unit TextFault) (items : Items) (at : ℕ) (e : TextFault) : Type 0 where
  pub there : (d : Data) × (item_at items at ≡ Some d) × (f d ≡ Err e)
  pub earlier : (k : ℕ) (d : Data) → k < at → item_at items k ≡ Some d → f d ≡ Ok tt

abbrev pub AloneLaw : Type 0
AloneLaw = (f : Data → Result Unit TextFault) (items : Items) (at : ℕ) (e : TextFault) → first_fault_from (alone f) tt 0 items ≡ Some (at, e)
    → IsFirstAlone f items at e
