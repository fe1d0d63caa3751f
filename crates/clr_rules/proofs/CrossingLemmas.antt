-- A crossing and the relations of common points.
use Rattle.std.proofs.Common.{◌≡◌, Bool, true, false, not, ◌&&◌, List, Option, Some, None, refl}
use Rattle.std.proofs.lemmas.Bool.{and_parts, and_from, false≢true}
use Rattle.clr_rows.specs.declared.places.Place.{Place}
use Rattle.clr_rows.specs.declared.tables.TableDef.{TableDef}
use Rattle.clr_rows.specs.Held.{Held}
use Rattle.clr_rows.specs.Parts.{part_of}
use Rattle.clr_segments.specs.Searches.{lies_on, have_two_common_points}
use Rattle.clr_segments.proofs.SearchLemmas.{on_from_search, search_from_on, common_from_search, search_from_common, two_from_search, search_from_two}
use Rattle.clr_rules.specs.declared.needs.Ask.{Ask}
use Rattle.clr_rules.specs.Books.{FitsCell}
use Rattle.clr_rules.specs.Calls.{have_meeting, is_crossing_at, are_subjects, is_server}
use Rattle.clr_rules.specs.Laws.{PartsMeet, IsAtCrossing, CrossingSubjects, CrossingServers}
use Rattle.clr_rules.specs.Sides.{Segment, is_of_side, are_of_sides, point_of}
use Rattle.clr_rules.proofs.Elements.{clash}
use Rattle.clr_rules.proofs.FittingLemmas.{sound_part}

parts_meet : (ask : Ask) (s t : Held) → have_meeting (part_of s.1.shape ask.first_part) (part_of t.1.shape ask.second_part) ≡ true → PartsMeet ask s t
parts_meet ask s t e = go (part_of s.1.shape ask.first_part) (part_of t.1.shape ask.second_part) refl refl e
  where
    go : (o p : Option Segment) → part_of s.1.shape ask.first_part ≡ o → part_of t.1.shape ask.second_part ≡ p → have_meeting o p ≡ true → PartsMeet ask s t
    go None p i j e = absurd (false≢true e)
    go (Some a) None i j e = absurd (false≢true e)
    go (Some a) (Some b) i j e = record { one = a; other = b; is_one = i; is_other = j; common = common_from_search a.0 a.1 b.0 b.1 e }

meet_parts : (tables : List TableDef) (ask : Ask) (s t : Held) → FitsCell tables s → FitsCell tables t → PartsMeet ask s t
    → have_meeting (part_of s.1.shape ask.first_part) (part_of t.1.shape ask.second_part) ≡ true
meet_parts tables ask s t f g m =
    let a = m.one in
    let b = m.other in
    rw (m.is_one, m.is_other) (search_from_common a.0 a.1 b.0 b.1 (sound_part tables s ask.first_part a f m.is_one).differ
    (sound_part tables t ask.second_part b g m.is_other).differ m.common)

pub crossing_subjects : CrossingSubjects
unfolding are_subjects
crossing_subjects tables a b server ask s t f g = (
  λ e. let p = and_parts (are_of_sides a b s t) _ e in (p.0, parts_meet ask s t p.1),
  λ h. and_from _ _ h.0 (meet_parts tables ask s t f g h.1),
)

-- servers ----------------------------------------------------------------------------------------
not_from : (b : Bool) → (b ≡ true → ⊥) → not b ≡ true
not_from true h = absurd (h refl)
not_from false h = refl

at_crossing : (tables : List TableDef) (ask : Ask) (s t r : Held) → FitsCell tables s → FitsCell tables t
    → is_crossing_at (part_of s.1.shape ask.first_part) (part_of t.1.shape ask.second_part) (point_of r) ≡ true
    → IsAtCrossing ask s t r
at_crossing tables ask s t r f g e = go (part_of s.1.shape ask.first_part) (part_of t.1.shape ask.second_part) (point_of r) refl refl refl e
  where
    go : (o p : Option Segment) (q : Option Place) → part_of s.1.shape ask.first_part ≡ o → part_of t.1.shape ask.second_part ≡ p → point_of r ≡ q
        → is_crossing_at o p q ≡ true → IsAtCrossing ask s t r
    go None p q i j k e = absurd (false≢true e)
    go (Some a) None q i j k e = absurd (false≢true e)
    go (Some a) (Some b) None i j k e = absurd (false≢true e)
    go (Some a) (Some b) (Some x) i j k e =
        let parts = and_parts (not (have_two_common_points a.0 a.1 b.0 b.1)) (lies_on x a.0 a.1 && lies_on x b.0 b.1) e in
        let both = and_parts (lies_on x a.0 a.1) (lies_on x b.0 b.1) parts.1 in
        let one = sound_part tables s ask.first_part a f i in
        let other = sound_part tables t ask.second_part b g j in
        record {
          one = a;
          other = b;
          point = x;
          is_one = i;
          is_other = j;
          is_point = k;
          on_one = on_from_search x a.0 a.1 both.0;
          on_other = on_from_search x b.0 b.1 both.1;
          no_two = λ h. clash (have_two_common_points a.0 a.1 b.0 b.1) (search_from_two a.0 a.1 b.0 b.1 one.differ other.differ h) parts.0;
        }

crossing_at : (tables : List TableDef) (ask : Ask) (s t r : Held) → FitsCell tables s → FitsCell tables t → IsAtCrossing ask s t r
    → is_crossing_at (part_of s.1.shape ask.first_part) (part_of t.1.shape ask.second_part) (point_of r) ≡ true
crossing_at tables ask s t r f g h =
    let a = h.one in
    let b = h.other in
    let x = h.point in
    let one = sound_part tables s ask.first_part a f h.is_one in
    let other = sound_part tables t ask.second_part b g h.is_other in
    rw (h.is_one, h.is_other, h.is_point)
    (and_from (not (have_two_common_points a.0 a.1 b.0 b.1)) (lies_on x a.0 a.1 && lies_on x b.0 b.1)
    (not_from (have_two_common_points a.0 a.1 b.0 b.1) (λ e. h.no_two (two_from_search a.0 a.1 b.0 b.1 e)))
    (and_from (lies_on x a.0 a.1) (lies_on x b.0 b.1) (search_from_on x a.0 a.1 one.differ h.on_one) (search_from_on x b.0 b.1 other.differ h.on_other)))

pub crossing_servers : CrossingServers
unfolding is_server
crossing_servers tables a b server ask s t r f g = (
  λ e. let p = and_parts (is_of_side server r) _ e in (p.0, at_crossing tables ask s t r f g p.1),
  λ h. and_from _ _ h.0 (crossing_at tables ask s t r f g h.1),
)
