-- Pairs of members by position, and the names of the two.
use Rattle.std.proofs.Common.{◌≡◌, ◌∙◌, ◌<◌, ◌&&◌, ℕ, zero, suc, Bool, true, false, cond, List, [], ◌∷◌, ◌++◌, Option, Some, None, Contains}
use Rattle.std.proofs.Common.{drop, length, map, slice_get, take, refl, sym, ap, subst, arith}
use Rattle.std.proofs.lemmas.Bool.{and_from, and_parts, false≢true}
use Rattle.std.proofs.lemmas.List.{length-map, map-append}
use Rattle.clr_rules.proofs.Elements.{Among, among, among_mapped, any_by, contained, mapped_among, some_of}
use Rattle.clr_workspaces.specs.Marks.{Name}
use Rattle.clr_needs.specs.Settings.{Setting, has as has_by}
use Rattle.clr_needs.proofs.BlockerLaws.{member_below}
use Rattle.clr_steps.specs.Names.{same_name}
use Rattle.clr_steps.specs.Offices.{Office}
use Rattle.clr_steps.specs.Quiet.{MergeSet, root_content}
use Rattle.clr_steps.specs.Readings.{changes_in}
use Rattle.clr_steps.proofs.FindLemmas.{same_is, same_itself}
use Rattle.clr_clearance.specs.MergeSets.{change_sets, setting_by_position}
use Rattle.clr_clearance.proofs.ClearLemmas.{AllDiffer, has_at}
use Rattle.clr_clearance.proofs.NameLemmas.{has_is}
use Rattle.clr_ordered_needs.specs.Positions.{goes_before_if_any}
use Rattle.clr_ordered_needs.specs.Turns.{is_earlier}
use Rattle.clr_ordered_clearance.specs.MergeSets.{AreListedInTurn, OrderedMergeSet, goes_before, position_goes_before}
use Rattle.clr_cert.specs.declared.certificates.Certificate.{Certificate}
use Rattle.clr_member_changes.specs.Names.{member_name}
use Rattle.clr_merge_sets.specs.Certificates.{merge_set_of, ordered_merge_set_of, pairs_in}
use Rattle.clr_plan.specs.OrderedPlans.{without_pair}
use Rattle.clr_order_answers.specs.declared.pairs.Pair.{Pair}
use Rattle.clr_scene_orders.specs.SceneOrders.{order_by}
use Rattle.clr_scene_orders.proofs.Covering.{goes_by}
use Rattle.clr_listed_covers.specs.Covers.{Keeps}
use Rattle.clr_listed_covers.specs.ListedCovers.{IsSaidBy, StandsAsListed}
use Rattle.clr_ordered_plans.specs.Listed.{precedence_of}

-- the names of the two
abbrev names_of : List Name → Pair → (Name × Name)
names_of members p = (member_name members p.earlier, member_name members p.later)

-- the members, of whom the first of each pair goes before the second
abbrev pub listed_set : MergeSet → List Pair → OrderedMergeSet
listed_set s pairs = record { merge_set = s; before = map (names_of s.members) pairs }

pairs_named : (members : List Name) (pairs : List Pair) → pairs_in (map (precedence_of members) pairs) ≡ map (names_of members) pairs
pairs_named members [] = refl
pairs_named members (p ∷ ps) = ap (λ (ns : List (Name × Name)). names_of members p ∷ ns) (pairs_named members ps)

pub certificate_is : (s : MergeSet) (c : Certificate) (pairs : List Pair) → merge_set_of c ≡ s → c.before ≡ map (precedence_of s.members) pairs
    → ordered_merge_set_of c ≡ listed_set s pairs
certificate_is s c pairs same is =
    let before : pairs_in c.before ≡ map (names_of s.members) pairs = ap pairs_in is ∙ pairs_named s.members pairs in
    λ i. record { merge_set = same i; before = before i }

-- a pair is left out -----------------------------------------------------------------------------------

taken : (f : Pair → (Name × Name)) (k : ℕ) (ps : List Pair) → take k (map f ps) ≡ map f (take k ps)
taken f zero [] = refl
taken f zero (p ∷ ps) = refl
taken f (suc k) [] = refl
taken f (suc k) (p ∷ ps) = ap (λ (ns : List (Name × Name)). f p ∷ ns) (taken f k ps)

dropped : (f : Pair → (Name × Name)) (k : ℕ) (ps : List Pair) → drop k (map f ps) ≡ map f (drop k ps)
dropped f zero [] = refl
dropped f zero (p ∷ ps) = refl
dropped f (suc k) [] = refl
dropped f (suc k) (p ∷ ps) = dropped f k ps

pub without_is : (s : MergeSet) (pairs : List Pair) (at : ℕ) → without_pair (listed_set s pairs) at ≡ listed_set s (take at pairs ++ drop (suc at) pairs)
without_is s pairs at =
    let f = names_of s.members in
    let rest : take at (map f pairs) ++ drop (suc at) (map f pairs) ≡ map f (take at pairs ++ drop (suc at) pairs) =
    (λ i. taken f at pairs i ++ dropped f (suc at) pairs i) ∙ sym (map-append f (take at pairs) (drop (suc at) pairs)) in
    λ i. record { merge_set = s; before = rest i }

-- the pair at a position, between those before it and those behind
pub record IsSplitAt (pairs : List Pair) (at : ℕ) : Type 0 where
  pub pair : Pair
  pub split : pairs ≡ take at pairs ++ pair ∷ drop (suc at) pairs

pub split_at : (pairs : List Pair) (at : ℕ) → at < length pairs → IsSplitAt pairs at
split_at [] at less = absurd (omega (arith, less))
split_at (p ∷ ps) zero less = record { pair = p; split = refl }
split_at (p ∷ ps) (suc at) less = let rest = split_at ps at (omega (arith, less)) in
    record { pair = rest.pair; split = (let split = rest.split in ap (λ (qs : List Pair). p ∷ qs) split) }

-- who stands before another is earlier -----------------------------------------------------------------------

rises : (names : List Name) (i j : ℕ) (e l : Name) → i < j → slice_get names i ≡ Some e → slice_get names j ≡ Some l → is_earlier same_name names e l ≡ true
rises [] i j e l less is at = absurd (cc)
rises (n ∷ ns) i zero e l less is at = absurd (omega (arith, less))
rises (n ∷ ns) zero (suc j) e l less is at =
    let one : n ≡ e = cc in
    ap (λ b. cond b (has_by same_name ns l) (is_earlier same_name ns e l)) (ap (same_name n) (sym one) ∙ same_itself n) ∙ has_is ns l ∙ has_at ns j l at
rises (n ∷ ns) (suc i) (suc j) e l less is at = by (same_name n e) (rises ns i j e l (omega (arith, less)) is at)
  where
    by : (b : Bool) → is_earlier same_name ns e l ≡ true → cond b (has_by same_name ns l) (is_earlier same_name ns e l) ≡ true
    by true more = has_is ns l ∙ has_at ns j l at
    by false more = more

module _ (o : Office) (s : MergeSet) where
  abbrev c : Setting ℕ
  c = setting_by_position o s

  pub named : (x : ℕ) → has_by c.same c.members x ≡ true → slice_get s.members x ≡ Some (member_name s.members x)
  named x h =
      let less = member_below o.book (root_content o s) (change_sets o s) x h in
      let long = length-map s.members (changes_in o) in
      there s.members x (omega (arith, less, long))
    where
      there : (names : List Name) (k : ℕ) → k < length names → slice_get names k ≡ Some (member_name names k)
      there [] k less = absurd (omega (arith, less))
      there (n ∷ ns) zero less = refl
      there (n ∷ ns) (suc k) less = there ns k (omega (arith, less))

  module _ (pairs : List Pair) (each : (p : Pair) → Contains pairs p → StandsAsListed c p) where
    -- a pair that says of two names who goes before whom
    pub record IsPairOf (m n : Name) : Type 0 where
      pub pair : Pair
      pub there : Among pair pairs
      pub earlier : slice_get s.members pair.earlier ≡ Some m
      pub later : slice_get s.members pair.later ≡ Some n

    pub pair_of : (m n : Name) → goes_before (listed_set s pairs) m n ≡ true → IsPairOf m n
    pair_of m n goes =
        let (q, among_named, says) = some_of (λ (q : Name × Name). same_name q.0 m && same_name q.1 n) (map (names_of s.members) pairs) goes in
        let (p, there, same) = among_mapped (names_of s.members) q pairs among_named in
        let both = and_parts (same_name q.0 m) (same_name q.1 n) says in
        let stands = each p (contained p pairs there) in
        record {
          pair = p;
          there = there;
          earlier = named p.earlier stands.earlier ∙ ap Some (ap (λ (r : Name × Name). r.0) same ∙ same_is q.0 m both.0);
          later = named p.later stands.later ∙ ap Some (ap (λ (r : Name × Name). r.1) same ∙ same_is q.1 n both.1);
        }

    pub listed_in_turn : AreListedInTurn (listed_set s pairs)
    listed_in_turn m n goes =
        let p = pair_of m n goes in
        let stands = each p.pair (contained p.pair pairs p.there) in
        rises s.members p.pair.earlier p.pair.later m n stands.in_order p.earlier p.later

    -- in the order of the names the pairs are kept
    pub keeps : Keeps (position_goes_before (listed_set s pairs)) pairs
    keeps p h =
        let stands = each p h in
        let first = named p.earlier stands.earlier in
        let second = named p.later stands.later in
        let name = member_name s.members p.earlier in
        let name_too = member_name s.members p.later in
        (λ i. goes_before_if_any (goes_before (listed_set s pairs)) (first i) (second i))
        ∙ any_by (λ (q : Name × Name). same_name q.0 name && same_name q.1 name_too) (names_of s.members p) (map (names_of s.members) pairs)
        (mapped_among (names_of s.members) p pairs (among p pairs h)) (and_from (same_name name name) (same_name name_too name_too)
        (same_itself name) (same_itself name_too))

    -- and whoever goes before another does so by a pair
    pub said_by : AllDiffer s.members → IsSaidBy (position_goes_before (listed_set s pairs)) pairs
    said_by differ x y = by (slice_get s.members x) refl (slice_get s.members y) refl
      where
        by : (q : Option Name) → slice_get s.members x ≡ q → (r : Option Name) → slice_get s.members y ≡ r
            → goes_before_if_any (goes_before (listed_set s pairs)) q r ≡ true → order_by pairs x y ≡ true
        by None e r f h = absurd (false≢true h)
        by (Some m) e None f h = absurd (false≢true h)
        by (Some m) e (Some n) f h =
            let p = pair_of m n h in
            let same = differ p.pair.earlier x m p.earlier e in
            let same_too = differ p.pair.later y n p.later f in
            subst (λ k. order_by pairs k y ≡ true) same (subst (λ k. order_by pairs p.pair.earlier k ≡ true) same_too (goes_by pairs p.pair p.there))
