-- A search among the rows that are near adds just the broken needs that all rows have.
use Rattle.std.proofs.Common.{◌≡◌, ◌⊎◌, inl, inr, ℕ, zero, suc, ◌+◌, ◌<◌, Bool, true, false, cond, not, ◌&&◌, List, [], ◌∷◌, ◌++◌, Option, Some, None, Contains}
use Rattle.std.proofs.Common.{map, slice_get, refl, sym, ap, subst, ◌∙◌, arith}
use Rattle.std.proofs.lemmas.Bool.{and_parts, cases_Bool, false≢true, not-true}
use Rattle.std.specs.Cmp.{both_ways}
use Rattle.std.specs.List.{list_any, flat_map}
use Rattle.std.specs.Prelude.{IsSome}
use Rattle.clr_rows.specs.declared.places.Place.{Place}
use Rattle.clr_rows.specs.Held.{Held, held_of}
use Rattle.clr_rows.specs.Parts.{part_of}
use Rattle.clr_segments.specs.Searches.{lies_on, have_two_common_points}
use Rattle.clr_rules.specs.declared.needs.Ask.{Ask}
use Rattle.clr_rules.specs.declared.needs.Broken.{Broken}
use Rattle.clr_rules.specs.declared.rules.Rule.{Rule}
use Rattle.clr_rules.specs.declared.rules.Rule.TheVariants.{Crossing}
use Rattle.clr_rules.specs.Sides.{Segment, is_of_side, point_of}
use Rattle.clr_spots.specs.declared.spots.Spot.{Spot}
use Rattle.clr_spots.specs.declared.spots.Spots.{Spots}
use Rattle.clr_rules.specs.declared.roles.Roles.{Roles}
use Rattle.clr_rules.specs.Books.{FitTogether}
use Rattle.clr_rules.specs.Calls.{ask_of_parts, plain_ask, calls, is_crossing_at, is_server, is_server_of, serves, part_count}
use Rattle.clr_rules.specs.Needs.{ask_of, broken_at, is_after}
use Rattle.clr_rules.specs.Roles.{roles_under}
use Rattle.clr_spots.specs.RoleSpots.{subject_spots_under, server_spots_under}
use Rattle.clr_spots.specs.Spots.{unless_many, are_many}
use Rattle.clr_rules.proofs.Elements.{Among, among, contained, among_left, among_right, flat_among, among_flat, some_of, any_by}
use Rattle.clr_rules.proofs.CallLaws.{alone_parts, first_part_there, second_part_there, subject_alone, subjects_beside, server_role}
use Rattle.clr_spots.proofs.RoleLaws.{servers_meet, subjects_meet}
use Rattle.clr_spots.proofs.SharedSpots.{Common}
use Rattle.clr_audit.specs.declared.role_index.RoleIndex.{RoleIndex}
use Rattle.clr_audit.specs.declared.searching.Search.{Search}
use Rattle.clr_spots.specs.declared.spot_maps.FiledPart.{FiledPart}
use Rattle.clr_rows.specs.Beginnings.{IsBegun}
use Rattle.clr_spots.specs.Filing.{Filed, IsFiled, near}
use Rattle.clr_audit.specs.RoleFiling.{filed_rows, no_rows_filed, partners}
use Rattle.clr_audit.specs.PartServers.{is_on, may_serve_part, may_serve_part_by}
use Rattle.clr_audit.specs.Searches.{may_serve_at, may_serve_if, server_if, servers_of_part, serves_if, serves_at, need_if_broken, need_with, need_beside}
use Rattle.clr_audit.specs.Searches.{IsSecondAmong, IsBrokenAmong, GainsBroken, GainsBrokenAlone, IsAlone, IsOfPart, IsOfRow, IsPaired}
use Rattle.clr_spots.proofs.Filed.{found_near}
use Rattle.clr_audit.proofs.Gaining.{gains_begun, gains_listed, gains_none, gains_more}
use Rattle.clr_audit.proofs.RoleFiled.{IsRowFiled, IsSubjectFiled, filed_part, rows_filed}

-- a part that is filed where a row may stand beside it is among those near that row
found_among : (m : Filed) (e : FiledPart) (xs ys : List Spot) → IsFiled m e ys → Common xs ys → Among e (near m (unless_many xs) (are_many xs))
found_among m e xs ys h w = among e (near m (unless_many xs) (are_many xs)) (found_near m e xs ys h w)

-- lists by position ----------------------------------------------------------------------------
placed : (t : Held) (rows : List Held) → Among t rows → (k : ℕ) × (slice_get rows k ≡ Some t)
placed t [] h = absurd h
placed t (s ∷ rows) (inl e) = (0, ap Some e)
placed t (s ∷ rows) (inr h) = let p = placed t rows h in (suc p.0, p.1)

pub at_among : (rows : List Held) (k : ℕ) (t : Held) → slice_get rows k ≡ Some t → Among t rows
at_among [] k t e = absurd (cc)
at_among (s ∷ rows) zero t e = inl (cc)
at_among (s ∷ rows) (suc k) t e = inr (at_among rows k t e)

-- what is found in one of the lists is found in them all
pub any_flat : {X Y : Type 0} (p : Y → Bool) (f : X → List Y) (x : X) (xs : List X) → Among x xs → list_any p (f x) ≡ true → list_any p (flat_map f xs) ≡ true
any_flat p f x xs h e = let (y, k, g) = some_of p (f x) e in any_by p y (flat_map f xs) (flat_among f x y xs h k) g

-- what a step of a search stands on --------------------------------------------------------------
pub record IsReady (search : Search) (spots : Spots) (part : ℕ) (s : Held) : Type 0 where
  pub fit : FitTogether search.book.now (map held_of search.rows.now)
  pub filed : search.index.now ≡ filed_rows search.book.now search.rule no_rows_filed 0 (map held_of search.rows.now)
  pub list : spots.list ≡ unless_many (subject_spots_under search.book.now search.rule part s)
  pub wide : spots.wide ≡ are_many (subject_spots_under search.book.now search.rule part s)

-- a row is filed at its position
row_filed : (search : Search) (spots : Spots) (part : ℕ) (s : Held) → IsReady search spots part s → (k : ℕ) (t : Held)
    → slice_get (map held_of search.rows.now) k ≡ Some t
    → IsRowFiled search.book.now search.rule search.index.now k t
row_filed search spots part s ready k t at =
    let here : 0 + k ≡ k = omega arith in
    subst (λ (index : RoleIndex). IsRowFiled search.book.now search.rule index k t) (sym ready.filed)
    (subst (λ (i : ℕ). IsRowFiled search.book.now search.rule (filed_rows search.book.now search.rule no_rows_filed 0 (map held_of search.rows.now)) i t) here
    (rows_filed search.book.now search.rule no_rows_filed 0 (map held_of search.rows.now) k t at))

-- servers ----------------------------------------------------------------------------------------
served_by_row : (rules : List Rule) (ask : Ask) (rows : List Held) (s : Held) (t : Option Held) (e : FiledPart) → serves_at rules ask rows s t e ≡ true
    → list_any (serves rules ask s t) rows ≡ true
served_by_row rules ask rows s t e f = go (slice_get rows e.position) refl f
  where
    go : (o : Option Held) → slice_get rows e.position ≡ o → serves_if rules ask s t o ≡ true → list_any (serves rules ask s t) rows ≡ true
    go None at g = absurd (false≢true g)
    go (Some r) at g = any_by (serves rules ask s t) r rows (at_among rows e.position r at) g

-- among these filed parts a server is found exactly where some row serves
abbrev pub FindServers : Search → ℕ → ℕ → Held → Option Held → List FiledPart → Type 0
FindServers search part other s t servers = calls search.book.now (ask_of_parts search.rule part other) s t ≡ true
    → list_any (serves_at search.book.now (ask_of_parts search.rule part other) (map held_of search.rows.now) s t) servers
    ≡ list_any (serves search.book.now (ask_of_parts search.rule part other) s t) (map held_of search.rows.now)

-- whatever stands beside a part
abbrev pub FindAll : Search → ℕ → Held → List FiledPart → Type 0
FindAll search part s servers = (other : ℕ) (t : Held) → FindServers search part other s (Some t) servers

-- a server is found near the first subject's spots exactly where some row serves
served_alike : (search : Search) (spots : Spots) (part other : ℕ) (s : Held) (t : Option Held) → IsReady search spots part s
    → calls search.book.now (ask_of_parts search.rule part other) s t ≡ true
    → list_any (serves_at search.book.now (ask_of_parts search.rule part other) (map held_of search.rows.now) s t)
    (near search.index.now.servers spots.list spots.wide)
    ≡ list_any (serves search.book.now (ask_of_parts search.rule part other) s t) (map held_of search.rows.now)
served_alike search spots part other s t ready called =
    let rules = search.book.now in
    let n = search.rule in
    let ask = ask_of_parts n part other in
    let rows = map held_of search.rows.now in
    let servers = search.index.now.servers in
    let xs = subject_spots_under rules n part s in
    both_ways (list_any (serves_at rules ask rows s t) (near servers spots.list spots.wide)) (list_any (serves rules ask s t) rows)
    (λ f. let (e, _, g) = some_of (serves_at rules ask rows s t) (near servers spots.list spots.wide) f in served_by_row rules ask rows s t e g)
    (λ f. let (r, h, g) = some_of (serves rules ask s t) rows f in
    let (k, at) = placed r rows h in
    let filed = (row_filed search spots part s ready k r at).server (server_role rules ask s t r g) in
    let found : Among (filed_part k 1) (near servers (unless_many xs) (are_many xs)) =
    found_among servers (filed_part k 1) xs (server_spots_under rules n r) filed
    (servers_meet rules ask s t r called g) in
    let here : Among (filed_part k 1) (near servers spots.list spots.wide) =
    subst (λ (ys : List Spot). Among (filed_part k 1) (near servers ys spots.wide)) (sym ready.list)
    (subst (λ (b : Bool). Among (filed_part k 1) (near servers (unless_many xs) b)) (sym ready.wide) found) in
    any_by (serves_at rules ask rows s t) (filed_part k 1) (near servers spots.list spots.wide) here (ap (serves_if rules ask s t) at ∙ g))

-- what serves two parts may serve the first of them
crossed : (e f : Option Segment) (p : Option Place) → is_crossing_at e f p ≡ true → is_on p e ≡ true
crossed None f p h = absurd (false≢true h)
crossed (Some a) None p h = absurd (false≢true h)
crossed (Some a) (Some b) None h = absurd (false≢true h)
crossed (Some a) (Some b) (Some p) h =
    (and_parts (lies_on p a.0 a.1) (lies_on p b.0 b.1) (and_parts (not (have_two_common_points a.0 a.1 b.0 b.1)) (lies_on p a.0 a.1
    && lies_on p b.0 b.1) h).1).0

part_served : (rule : Option Rule) (ask : Ask) (s t r : Held) → is_server_of rule ask s (Some t) r ≡ true → may_serve_part_by rule ask.first_part s r ≡ true
unfolding is_server may_serve_part
part_served (Some (Crossing a b server)) ask s t r h =
    crossed (part_of s.1.shape ask.first_part) (part_of t.1.shape ask.second_part) (point_of r)
    (and_parts (is_of_side server r) (is_crossing_at (part_of s.1.shape ask.first_part) (part_of t.1.shape ask.second_part) (point_of r)) h).1
part_served _ ask s t r h = refl

filed_part_served : (search : Search) (part other : ℕ) (s t : Held) (e : FiledPart)
    → serves_at search.book.now (ask_of_parts search.rule part other) (map held_of search.rows.now) s (Some t) e ≡ true → may_serve_at search part s e ≡ true
unfolding serves
filed_part_served search part other s t e h = go (slice_get (map held_of search.rows.now) e.position) h
  where
    go : (o : Option Held) → serves_if search.book.now (ask_of_parts search.rule part other) s (Some t) o ≡ true
        → may_serve_if search.book.now search.rule part s o ≡ true
    go None g = absurd (false≢true g)
    go (Some r) g = part_served (slice_get search.book.now search.rule) (ask_of_parts search.rule part other) s t r g

-- the servers of a part that are found are all that a search has to look at
pub part_alike : (search : Search) (spots : Spots) (part : ℕ) (s : Held) → IsReady search spots part s
    → FindAll search part s (servers_of_part search part s spots)
part_alike search spots part s ready other t called =
    let rules = search.book.now in
    let ask = ask_of_parts search.rule part other in
    let rows = map held_of search.rows.now in
    let found = near search.index.now.servers spots.list spots.wide in
    let test = serves_at rules ask rows s (Some t) in
    both_ways (list_any test (servers_of_part search part s spots)) (list_any (serves rules ask s (Some t)) rows)
    (λ f. let (e, _, g) = some_of test (servers_of_part search part s spots) f in served_by_row rules ask rows s (Some t) e g)
    (λ f. let (e, h, g) = some_of test found (served_alike search spots part other s (Some t) ready called ∙ f) in
    any_flat test (server_if search part s) e found h
    (ap (λ (b : Bool). list_any test (cond b (e ∷ []) [])) (filed_part_served search part other s t e g) ∙ any_by test e (e ∷ []) (inl refl) g))

-- needs --------------------------------------------------------------------------------------------
-- the need of these subjects, if no row serves them
abbrev need_of : List Rule → Ask → List Held → Held → Option Held → List Broken
need_of rules ask rows s t = cond (calls rules ask s t && not (list_any (serves rules ask s t) rows)) (broken_at ask s t ∷ []) []

need_is : (search : Search) (servers : List FiledPart) (part other : ℕ) (s : Held) (t : Option Held) → FindServers search part other s t servers
    → need_if_broken search servers (ask_of_parts search.rule part other) s t
    ≡ need_of search.book.now (ask_of_parts search.rule part other) (map held_of search.rows.now) s t
need_is search servers part other s t alike = go (calls search.book.now (ask_of_parts search.rule part other) s t) refl
  where
    ask : Ask
    ask = ask_of_parts search.rule part other

    go : (b : Bool) → calls search.book.now ask s t ≡ b
        → ◌≡◌ {A = List Broken} (cond (b && not (list_any (serves_at search.book.now ask (map held_of search.rows.now) s t) servers)) (broken_at ask s t
        ∷ []) [])
        (cond (b && not (list_any (serves search.book.now ask s t) (map held_of search.rows.now))) (broken_at ask s t ∷ []) [])
    go false e = refl
    go true e = ap (λ (served : Bool). cond (not served) (broken_at ask s t ∷ []) []) (alike e)

need_broken : (rules : List Rule) (ask : Ask) (rows : List Held) (s : Held) (t : Option Held) (b : Broken) → Contains rows s → IsSecondAmong rows s t
    → Among b (need_of rules ask rows s t) → IsBrokenAmong rules rows b
need_broken rules ask rows s t b listed beside h = go (calls rules ask s t && not (list_any (serves rules ask s t) rows)) refl h
  where
    go : (c : Bool) → (calls rules ask s t && not (list_any (serves rules ask s t) rows)) ≡ c → Among b (cond c (broken_at ask s t ∷ []) [])
        → IsBrokenAmong rules rows b
    go false e k = absurd k
    go true e (inr k) = absurd k
    go true e (inl is) =
        let parts = and_parts (calls rules ask s t) (not (list_any (serves rules ask s t) rows)) e in
        subst (IsBrokenAmong rules rows) is (record {
          first = s;
          second = t;
          listed = listed;
          beside = beside;
          they_call = parts.0;
          unmet = not-true (list_any (serves rules ask s t) rows) parts.1;
          named = refl;
        })

-- a broken need of this ask and this first row
record IsNeeded (rules : List Rule) (rows : List Held) (ask : Ask) (s : Held) (t : Option Held) (b : Broken) : Type 0 where
  pub beside : IsSecondAmong rows s t
  pub they_call : calls rules ask s t ≡ true
  pub unmet : list_any (serves rules ask s t) rows ≡ false
  pub named : b ≡ broken_at ask s t

needed : (rules : List Rule) (rows : List Held) (n part other : ℕ) (s : Held) (b : Broken) (h : IsBrokenAmong rules rows b) → b.rule ≡ n → b.first_part ≡ part
    → b.second_part ≡ other → h.first ≡ s
    → IsNeeded rules rows (ask_of_parts n part other) s h.second b
needed rules rows n part other s b h number one two first =
    let is : ask_of b ≡ ask_of_parts n part other = λ i. ask_of_parts (number i) (one i) (two i) in
    subst (λ (ask : Ask). IsNeeded rules rows ask s h.second b) is (subst (λ (f : Held). IsNeeded rules rows (ask_of b) f h.second b) first
    (record { beside = h.beside; they_call = h.they_call; unmet = h.unmet; named = h.named }))

needed_listed : (rules : List Rule) (rows : List Held) (ask : Ask) (s : Held) (t : Option Held) (b : Broken) → IsNeeded rules rows ask s t b
    → Among b (need_of rules ask rows s t)
needed_listed rules rows ask s t b h = rw (h.they_call, h.unmet) (inl (sym h.named))

-- a row alone --------------------------------------------------------------------------------------
-- a need whose second subject is known
at_second : (rules : List Rule) (rows : List Held) (ask : Ask) (s : Held) (t u : Option Held) (b : Broken) → t ≡ u → IsNeeded rules rows ask s t b
    → IsNeeded rules rows ask s u b
at_second rules rows ask s t u b is h = subst (λ (o : Option Held). IsNeeded rules rows ask s o b) is h

pub alone_gains : (search : Search) (spots : Spots) (s : Held) (before after : List Broken) → IsReady search spots 1 s
    → Contains (map held_of search.rows.now) s
    → after ≡ before ++ need_if_broken search (near search.index.now.servers spots.list spots.wide) (plain_ask search.rule) s None
    → GainsBroken search.book.now (map held_of search.rows.now) (IsAlone search.rule s) before after
alone_gains search spots s before after ready listed added =
    let rules = search.book.now in
    let rows = map held_of search.rows.now in
    let ask = plain_ask search.rule in
    let found = near search.index.now.servers spots.list spots.wide in
    let same = need_is search found 1 1 s None (served_alike search spots 1 1 s None ready) in
    gains_listed rules rows (IsAlone search.rule s) before after (need_if_broken search found ask s None) added
    (λ b k. need_broken rules ask rows s None b listed tt (subst (Among b) same k))
    (λ b h w.
    let whole = at_second rules rows (ask_of_parts search.rule b.first_part b.second_part) s h.second None b w.2
    (needed rules rows search.rule b.first_part b.second_part s b h w.0 refl refl w.1) in
    let parts = alone_parts rules (ask_of_parts search.rule b.first_part b.second_part) s whole.they_call in
    subst (Among b) (sym same) (needed_listed rules rows ask s None b
    (at_second rules rows ask s h.second None b w.2 (needed rules rows search.rule 1 1 s b h w.0 parts.0 parts.1 w.1))))

-- two rows -----------------------------------------------------------------------------------------
beside_broken : (search : Search) (servers : List FiledPart) (part : ℕ) (s : Held) → FindAll search part s servers → Contains (map held_of search.rows.now) s
    → (es : List FiledPart) (b : Broken)
    → Among b (flat_map (need_beside search servers s part) es) → IsBrokenAmong search.book.now (map held_of search.rows.now) b
beside_broken search servers part s alike listed es b h =
    let (e, _, m) = among_flat (need_beside search servers s part) b es h in
    go e (slice_get (map held_of search.rows.now) e.position) refl m
  where
    by : (e : FiledPart) (t : Held) (after : Bool) → is_after s t ≡ after → Contains (map held_of search.rows.now) t
        → Among b (cond after (need_if_broken search servers (ask_of_parts search.rule part e.part) s (Some t)) [])
        → IsBrokenAmong search.book.now (map held_of search.rows.now) b
    by e t false after here k = absurd k
    by e t true after here k = need_broken search.book.now (ask_of_parts search.rule part e.part) (map held_of search.rows.now) s (Some t) b listed
        (here, after)
        (subst (Among b) (need_is search servers part e.part s (Some t) (alike e.part t)) k)

    go : (e : FiledPart) (o : Option Held) → slice_get (map held_of search.rows.now) e.position ≡ o
        → Among b (need_with search servers (ask_of_parts search.rule part e.part) s o)
        → IsBrokenAmong search.book.now (map held_of search.rows.now) b
    go e None at m = absurd m
    go e (Some t) at m = by e t (is_after s t) refl (contained t (map held_of search.rows.now) (at_among (map held_of search.rows.now) e.position t at)) m

-- the filed part of a row that may stand beside another is one of its partners
partner_found : (index : RoleIndex) (roles others : Roles) (e : FiledPart) (xs ys : List Spot) → IsSubjectFiled index others e ys → Common xs ys
    → ((roles.first ≡ true) × (others.second ≡ true)) ⊎ ((others.first ≡ true) × (roles.second ≡ true))
    → Among e (partners index roles (unless_many xs) (are_many xs))
partner_found index roles others e xs ys filed common (inl h) = elim (cases_Bool others.first) [
  | inl both ↦ among_left e _ _ (found_among index.boths e xs ys (filed.both both h.1) common)
  | inr alone ↦ among_right e (near index.boths (unless_many xs) (are_many xs)) _
      (among_right e (cond roles.second (near index.firsts (unless_many xs) (are_many xs)) []) _
      (subst (λ (b : Bool). Among e (cond b (near index.seconds (unless_many xs) (are_many xs)) [])) (sym h.0)
      (found_among index.seconds e xs ys (filed.second alone h.1) common)))
]
partner_found index roles others e xs ys filed common (inr h) = elim (cases_Bool others.second) [
  | inl both ↦ among_left e _ _ (found_among index.boths e xs ys (filed.both h.0 both) common)
  | inr alone ↦ among_right e (near index.boths (unless_many xs) (are_many xs)) _
      (among_left e (cond roles.second (near index.firsts (unless_many xs) (are_many xs)) []) _
      (subst (λ (b : Bool). Among e (cond b (near index.firsts (unless_many xs) (are_many xs)) [])) (sym h.1)
      (found_among index.firsts e xs ys (filed.first h.0 alone) common)))
]

pair_found : (search : Search) (spots : Spots) (servers : List FiledPart) (part other : ℕ) (s : Held) (roles : Roles) (es : List FiledPart)
    → IsReady search spots part s → FindAll search part s servers → roles ≡ roles_under search.book.now search.rule s
    → ((e : FiledPart) → Among e (partners search.index.now roles spots.list spots.wide) → Among e es) → (t : Held) (b : Broken)
    → IsNeeded search.book.now (map held_of search.rows.now) (ask_of_parts search.rule part other) s (Some t) b
    → Among b (flat_map (need_beside search servers s part) es)
pair_found search spots servers part other s roles es ready alike is all t b h =
    let rules = search.book.now in
    let n = search.rule in
    let ask = ask_of_parts n part other in
    let rows = map held_of search.rows.now in
    let index = search.index.now in
    let (k, at) = placed t rows (among t rows h.beside.0) in
    let xs = subject_spots_under rules n part s in
    let there = second_part_there rules ask s t h.they_call in
    let filed : IsSubjectFiled index (roles_under rules n t) (filed_part k other) (subject_spots_under rules n other t) =
    subst (λ (j : ℕ). IsSubjectFiled index (roles_under rules n t) (filed_part k j) (subject_spots_under rules n j t)) (sym there.2)
    ((row_filed search spots part s ready k t at).subject there.0 there.1) in
    let beside = subst (λ (r : Roles). ((r.first ≡ true) × ((roles_under rules n t).second ≡ true))
    ⊎ (((roles_under rules n t).first ≡ true) × (r.second ≡ true))) (sym is) (subjects_beside rules ask s t h.they_call) in
    let found : Among (filed_part k other) (partners index roles (unless_many xs) (are_many xs)) =
    partner_found index roles (roles_under rules n t) (filed_part k other) xs (subject_spots_under rules n other t) filed
    (subjects_meet rules rows ask s t ready.fit h.they_call) beside in
    let here : Among (filed_part k other) (partners index roles spots.list spots.wide) =
    subst (λ (ys : List Spot). Among (filed_part k other) (partners index roles ys spots.wide)) (sym ready.list)
    (subst (λ (w : Bool). Among (filed_part k other) (partners index roles (unless_many xs) w)) (sym ready.wide) found) in
    let one : Among b (need_if_broken search servers ask s (Some t)) = subst (Among b) (sym (need_is search servers part other s (Some t) (alike other t)))
    (needed_listed rules rows ask s (Some t) b h) in
    let own : Among b (need_beside search servers s part (filed_part k other)) =
    subst (λ (o : Option Held). Among b (need_with search servers ask s o)) (sym at)
    (subst (λ (after : Bool). Among b (cond after (need_if_broken search servers ask s (Some t)) [])) (sym h.beside.1) one) in
    flat_among (need_beside search servers s part) (filed_part k other) b es (all (filed_part k other) here) own

-- the broken needs of a part of a row are gained
pub part_gains : (search : Search) (spots : Spots) (servers : List FiledPart) (part : ℕ) (s : Held) (roles : Roles) (es : List FiledPart)
    (before after : List Broken) → IsReady search spots part s
    → FindAll search part s servers
    → Contains (map held_of search.rows.now) s → roles ≡ roles_under search.book.now search.rule s
    → ((e : FiledPart) → Among e (partners search.index.now roles spots.list spots.wide) → Among e es)
    → after ≡ before ++ flat_map (need_beside search servers s part) es
    → GainsBroken search.book.now (map held_of search.rows.now) (IsOfPart search.rule s part) before after
part_gains search spots servers part s roles es before after ready alike listed is all added =
    gains_listed search.book.now (map held_of search.rows.now) (IsOfPart search.rule s part) before after (flat_map (need_beside search servers s part) es)
    added
    (λ b k. beside_broken search servers part s alike listed es b k)
    (λ b h w. go h.second b w.2 (needed search.book.now (map held_of search.rows.now) search.rule part b.second_part s b h w.0 w.3 refl w.1))
  where
    go : (o : Option Held) (b : Broken) → IsSome o → IsNeeded search.book.now (map held_of search.rows.now) (ask_of_parts search.rule part b.second_part) s o b
        → Among b (flat_map (need_beside search servers s part) es)
    go None b some k = absurd (false≢true some)
    go (Some t) b some k = pair_found search spots servers part b.second_part s roles es ready alike is all t b k

-- the first of them
pub part_some : (search : Search) (servers : List FiledPart) (part : ℕ) (s : Held) (es : List FiledPart) (before after : List Broken)
    → FindAll search part s servers
    → Contains (map held_of search.rows.now) s
    → IsBegun before (flat_map (need_beside search servers s part) es) after
    → GainsBrokenAlone search before after
part_some search servers part s es before after alike listed begun =
    gains_begun search.book.now (map held_of search.rows.now) before after (flat_map (need_beside search servers s part) es) begun
    (λ b k. beside_broken search servers part s alike listed es b k)

-- the part of a broken need is there
pub first_there : (rules : List Rule) (rows : List Held) (n : ℕ) (s : Held) (b : Broken) (h : IsBrokenAmong rules rows b) → b.rule ≡ n → h.first ≡ s → (k : ℕ)
    × (k < part_count rules n s) × (b.first_part ≡ suc k)
first_there rules rows n s b h number first =
    first_part_there rules (ask_of_parts n b.first_part b.second_part) s h.second (needed rules rows n b.first_part b.second_part s b h number refl refl
    first).they_call

-- the need with the row of a filed part
module _ (search : Search) (servers : List FiledPart) (s : Held) (part k j : ℕ) (o : Option Held) (t : Held)
    (at : o ≡ slice_get (map held_of search.rows.now) k) (is : o ≡ Some t) where
  beside_told : (after : Bool) → is_after s t ≡ after → need_beside search servers s part (filed_part k j)
      ≡ cond after (need_if_broken search servers (ask_of_parts search.rule part j) s (Some t)) []
  beside_told after same = ap (need_with search servers (ask_of_parts search.rule part j) s) (sym at ∙ is)
      ∙ ap (λ (b : Bool). cond b (need_if_broken search servers (ask_of_parts search.rule part j) s (Some t)) []) same

  pub beside_is : is_after s t ≡ true → need_beside search servers s part (filed_part k j)
      ≡ need_if_broken search servers (ask_of_parts search.rule part j) s (Some t)
  beside_is after = beside_told true after

  pub beside_before : is_after s t ≡ false → need_beside search servers s part (filed_part k j) ≡ []
  beside_before before = beside_told false before

pub beside_none : (search : Search) (servers : List FiledPart) (s : Held) (part k j : ℕ) (o : Option Held) → o ≡ slice_get (map held_of search.rows.now) k → o
    ≡ None → need_beside search servers s part (filed_part k j) ≡ []
beside_none search servers s part k j o at is = ap (need_with search servers (ask_of_parts search.rule part j) s) (sym at ∙ is)

-- rows ---------------------------------------------------------------------------------------------
-- a row that may not be a subject alone has no broken need alone
pub none_alone : (rules : List Rule) (rows : List Held) (n : ℕ) (s : Held) (roles : Roles) (xs : List Broken) → roles ≡ roles_under rules n s → roles.alone
    ≡ false → GainsBroken rules rows (IsAlone n s) xs xs
none_alone rules rows n s roles xs is none = gains_none rules rows (IsAlone n s) xs (λ b h w.
    let whole = at_second rules rows (ask_of_parts n b.first_part b.second_part) s h.second None b w.2
    (needed rules rows n b.first_part b.second_part s b h w.0 refl refl w.1) in
    false≢true (sym none ∙ ap (λ (r : Roles). r.alone) is ∙ subject_alone rules (ask_of_parts n b.first_part b.second_part) s whole.they_call))

-- a row that may be neither of two subjects has no broken need with another row
pub none_paired : (rules : List Rule) (rows : List Held) (n : ℕ) (s : Held) (roles : Roles) (xs : List Broken) → roles ≡ roles_under rules n s → roles.first
    ≡ false → roles.second ≡ false → GainsBroken rules rows (IsPaired n s) xs xs
none_paired rules rows n s roles xs is not_first not_second = gains_none rules rows (IsPaired n s) xs
    (λ b h w. go h.second b w.2 (needed rules rows n b.first_part b.second_part s b h w.0 refl refl w.1))
  where
    go : (o : Option Held) (b : Broken) → IsSome o → IsNeeded rules rows (ask_of_parts n b.first_part b.second_part) s o b → ⊥
    go None b some k = false≢true some
    go (Some t) b some k = elim (subjects_beside rules (ask_of_parts n b.first_part b.second_part) s t k.they_call) [
      | inl m ↦ false≢true (sym not_first ∙ ap (λ (r : Roles). r.first) is ∙ m.0)
      | inr m ↦ false≢true (sym not_second ∙ ap (λ (r : Roles). r.second) is ∙ m.1)
    ]

-- alone and with others
pub row_gains : (rules : List Rule) (rows : List Held) (n : ℕ) (s : Held) (xs ys zs : List Broken) → GainsBroken rules rows (IsAlone n s) xs ys
    → GainsBroken rules rows (IsPaired n s) ys zs → GainsBroken rules rows (IsOfRow n s) xs zs
row_gains rules rows n s xs ys zs g k = gains_more rules rows (IsAlone n s) (IsPaired n s) (IsOfRow n s) xs ys zs g k
    (λ b h w. elim (either h.second) [ inl none ↦ inl (w.0, w.1, none) | inr some ↦ inr (w.0, w.1, some) ])
  where
    either : (o : Option Held) → (o ≡ None) ⊎ IsSome o
    either None = inl refl
    either (Some t) = inr refl
