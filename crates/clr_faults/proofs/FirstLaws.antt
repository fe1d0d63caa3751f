-- What the first fault of a list says of the item and of those before it.
use Rattle.std.proofs.Common.{◌≡◌, ℕ, suc, zero, ◌+◌, ◌<◌, Some, Result, Ok, Err, refl, ap, arith}
use Rattle.serde_json.specs.Data.{Data, Items, no_items, item}
use Rattle.clr_rule_text.specs.declared.faults.TextFault.{TextFault}
use Rattle.clr_faults.specs.FirstFaults.{AloneLaw, IsFirstAlone, IsFirstFault, LeftLaw, alone, fault_or, first_fault_from, item_at}

-- the first fault of a list from a place on is that of its first item, or stands behind what that leaves
left_step : {S : Type 0} (f : S → Data → Result S TextFault) (s : S) (d : Data) (ds : Items) (from at : ℕ) (e : TextFault) (r : Result S TextFault) → f s d ≡ r
    → ((t : S) → first_fault_from f t (suc from) ds ≡ Some (at, e) → (k : ℕ) × (at ≡ suc from + k) × IsFirstFault f t ds k e)
    → fault_or r from (λ t. first_fault_from f t (suc from) ds) ≡ Some (at, e) → (k : ℕ) × (at ≡ from + k) × IsFirstFault f s (item d ds) k e
left_step f s d ds from at e (Err g) was behind some =
    let told : (from, g) ≡ (at, e) = cc in
    let same : from ≡ at = ap (λ (p : ℕ × TextFault). p.0) told in
    let fault : g ≡ e = ap (λ (p : ℕ × TextFault). p.1) told in
    (0, omega (arith, same), record { left = s; earlier = refl; there = (d, refl, cc) })
left_step f s d ds from at e (Ok t) was behind some =
    let more = behind t some in
    (suc (more.0), omega (arith, more.1), record { left = more.2.left; earlier = rw was more.2.earlier; there = more.2.there })

left_from : {S : Type 0} (f : S → Data → Result S TextFault) (s : S) (items : Items) (from at : ℕ) (e : TextFault)
    → first_fault_from f s from items ≡ Some (at, e)
    → (k : ℕ) × (at ≡ from + k) × IsFirstFault f s items k e
unfolding first_fault_from
left_from f s no_items from at e is = absurd cc
left_from f s (item d ds) from at e is = left_step f s d ds from at e (f s d) refl (λ t some. left_from f t ds (suc from) at e some) is

pub first_left : (S : Type 0) → LeftLaw S
first_left S f s items at e is =
    let found = left_from f s items 0 at e is in
    let same : at ≡ found.0 = omega (arith, found.1) in
    rw same found.2

-- the items before one behind the first are this one and those before that one
before : (f : Data → Result Unit TextFault) (d : Data) (ds : Items) (k : ℕ) (e : TextFault) → f d ≡ Ok tt → IsFirstAlone f ds k e → (j : ℕ) (x : Data)
    → j < suc k
    → item_at (item d ds) j ≡ Some x → f x ≡ Ok tt
before f d ds k e was first zero x lt found = let same : d ≡ x = cc in rw (← same) was
before f d ds k e was first (suc j) x lt found = first.earlier j x (omega (arith, lt)) found

alone_step : (f : Data → Result Unit TextFault) (d : Data) (ds : Items) (from at : ℕ) (e : TextFault) (r : Result Unit TextFault) → f d ≡ r
    → (first_fault_from (alone f) tt (suc from) ds ≡ Some (at, e) → (k : ℕ) × (at ≡ suc from + k) × IsFirstAlone f ds k e)
    → fault_or r from (λ t. first_fault_from (alone f) t (suc from) ds) ≡ Some (at, e) → (k : ℕ) × (at ≡ from + k) × IsFirstAlone f (item d ds) k e
alone_step f d ds from at e (Err g) was behind some =
    let told : (from, g) ≡ (at, e) = cc in
    let same : from ≡ at = ap (λ (p : ℕ × TextFault). p.0) told in
    let fault : g ≡ e = ap (λ (p : ℕ × TextFault). p.1) told in
    (0, omega (arith, same), record { there = (d, refl, cc); earlier = λ k x lt found. absurd (omega (arith, lt)) })
alone_step f d ds from at e (Ok u) was behind some =
    let more = behind some in
    (suc (more.0), omega (arith, more.1), record { there = more.2.there; earlier = before f d ds (more.0) e was more.2 })

alone_from : (f : Data → Result Unit TextFault) (items : Items) (from at : ℕ) (e : TextFault) → first_fault_from (alone f) tt from items ≡ Some (at, e)
    → (k : ℕ) × (at ≡ from + k) × IsFirstAlone f items k e
unfolding first_fault_from
alone_from f no_items from at e is = absurd cc
alone_from f (item d ds) from at e is = alone_step f d ds from at e (f d) refl (λ some. alone_from f ds (suc from) at e some) is

pub first_alone : AloneLaw
first_alone f items at e is =
    let found = alone_from f items 0 at e is in
    let same : at ≡ found.0 = omega (arith, found.1) in
    rw same found.2
