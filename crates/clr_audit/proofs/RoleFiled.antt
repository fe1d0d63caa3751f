-- Each row is filed in its roles, by its position.
use Rattle.std.proofs.Common.{◌≡◌, inl, inr, ℕ, zero, suc, ◌+◌, ◌<◌, Bool, true, false, cond, ◌||◌, List, [], ◌∷◌, Some, slice_get, refl, sym, subst, ◌∙◌}
use Rattle.std.proofs.Common.{arith}
use Rattle.std.proofs.lemmas.Bool.{cases_lt, false≢true, or_left, or_right}
use Rattle.clr_rules.specs.declared.roles.Roles.{Roles}
use Rattle.clr_rules.specs.declared.rules.Rule.{Rule}
use Rattle.clr_spots.specs.declared.spots.Spot.{Spot}
use Rattle.clr_rules.specs.Calls.{part_count}
use Rattle.clr_rules.specs.Roles.{roles_under}
use Rattle.clr_spots.specs.RoleSpots.{subject_spots_under, server_spots_under}
use Rattle.clr_rows.specs.Held.{Held}
use Rattle.clr_spots.specs.Spots.{unless_many, are_many}
use Rattle.clr_audit.specs.declared.role_index.RoleIndex.{RoleIndex}
use Rattle.clr_spots.specs.declared.spot_maps.FiledPart.{FiledPart}
use Rattle.clr_spots.specs.Filing.{Filed, IsFiled, with_filed}
use Rattle.clr_audit.specs.RoleFiling.{with_subject, with_parts, with_pairs, with_server, with_row, filed_rows}
use Rattle.clr_spots.proofs.Filed.{part_stays, new_part_filed}

-- what is filed in one map is filed in another
abbrev Stays : Filed → Filed → Type 0
Stays m m' = (q : FiledPart) (ys : List Spot) → IsFiled m q ys → IsFiled m' q ys

-- what is filed in a role of one index is filed in that role of another
record Grows (index index' : RoleIndex) : Type 0 where
  pub firsts : Stays index.firsts index'.firsts
  pub seconds : Stays index.seconds index'.seconds
  pub boths : Stays index.boths index'.boths
  pub servers : Stays index.servers index'.servers

more_stays : (m : Filed) (e : FiledPart) (xs : List Spot) (wide : Bool) → Stays m (with_filed m e xs wide)
more_stays m e xs wide q ys h = part_stays m e q xs ys wide h

grows_same : (index : RoleIndex) → Grows index index
grows_same index = record { firsts = λ q ys h. h; seconds = λ q ys h. h; boths = λ q ys h. h; servers = λ q ys h. h }

grows_on : (a b c : RoleIndex) → Grows a b → Grows b c → Grows a c
grows_on a b c g h = record {
  firsts = λ q ys k. h.firsts q ys (g.firsts q ys k);
  seconds = λ q ys k. h.seconds q ys (g.seconds q ys k);
  boths = λ q ys k. h.boths q ys (g.boths q ys k);
  servers = λ q ys k. h.servers q ys (g.servers q ys k);
}

-- subjects -----------------------------------------------------------------------------------

grows_subject : (index : RoleIndex) (roles : Roles) (e : FiledPart) (xs : List Spot) (wide : Bool) → Grows index (with_subject index roles e xs wide)
grows_subject index roles e xs wide = go roles.first roles.second
  where
    go : (a b : Bool) → Grows index (cond a
        (cond b (record index { boths = with_filed index.boths e xs wide }) (record index { firsts = with_filed index.firsts e xs wide }))
        (cond b (record index { seconds = with_filed index.seconds e xs wide }) index))
    go true true = record { firsts = λ q ys h. h; seconds = λ q ys h. h; boths = more_stays index.boths e xs wide; servers = λ q ys h. h }
    go true false = record { firsts = more_stays index.firsts e xs wide; seconds = λ q ys h. h; boths = λ q ys h. h; servers = λ q ys h. h }
    go false true = record { firsts = λ q ys h. h; seconds = more_stays index.seconds e xs wide; boths = λ q ys h. h; servers = λ q ys h. h }
    go false false = grows_same index

-- the part of a subject is filed where its roles say
pub record IsSubjectFiled (index : RoleIndex) (roles : Roles) (e : FiledPart) (xs : List Spot) : Type 0 where
  pub both : roles.first ≡ true → roles.second ≡ true → IsFiled index.boths e xs
  pub first : roles.first ≡ true → roles.second ≡ false → IsFiled index.firsts e xs
  pub second : roles.first ≡ false → roles.second ≡ true → IsFiled index.seconds e xs

subject_stays : (index index' : RoleIndex) (roles : Roles) (e : FiledPart) (xs : List Spot) → Grows index index' → IsSubjectFiled index roles e xs
    → IsSubjectFiled index' roles e xs
subject_stays index index' roles e xs g h = record {
  both = λ a b. g.boths e xs (h.both a b);
  first = λ a b. g.firsts e xs (h.first a b);
  second = λ a b. g.seconds e xs (h.second a b);
}

subject_filed : (index : RoleIndex) (roles : Roles) (e : FiledPart) (xs : List Spot)
    → IsSubjectFiled (with_subject index roles e (unless_many xs) (are_many xs)) roles e xs
subject_filed index roles e xs = record {
  both = λ a b. rw (a, b) (new_part_filed index.boths e xs);
  first = λ a b. rw (a, b) (new_part_filed index.firsts e xs);
  second = λ a b. rw (a, b) (new_part_filed index.seconds e xs);
}

abbrev pub filed_part : ℕ → ℕ → FiledPart
filed_part position part = record { position = position; part = part }

grows_parts : (rules : List Rule) (n : ℕ) (index : RoleIndex) (position : ℕ) (s : Held) (k : ℕ) → Grows index (with_parts rules n index position s k)
grows_parts rules n index position s zero = grows_same index
grows_parts rules n index position s (suc k) = grows_on index (with_parts rules n index position s k) (with_parts rules n index position s (suc k))
    (grows_parts rules n index position s k)
    (grows_subject (with_parts rules n index position s k) (roles_under rules n s) (filed_part position (suc k))
    (unless_many (subject_spots_under rules n (suc k) s)) (are_many (subject_spots_under rules n (suc k) s)))

part_filed : (rules : List Rule) (n : ℕ) (index : RoleIndex) (position : ℕ) (s : Held) (k part : ℕ) → part < k
    → IsSubjectFiled (with_parts rules n index position s k) (roles_under rules n s) (filed_part position (suc part)) (subject_spots_under rules n (suc part) s)
part_filed rules n index position s zero part less = absurd (omega (arith, less))
part_filed rules n index position s (suc k) part less =
    let before = with_parts rules n index position s k in
    elim (cases_lt part k) [
      | inl l ↦ subject_stays before (with_parts rules n index position s (suc k)) (roles_under rules n s) (filed_part position (suc part))
          (subject_spots_under rules n (suc part) s)
          (grows_subject before (roles_under rules n s) (filed_part position (suc k)) (unless_many (subject_spots_under rules n (suc k) s))
          (are_many (subject_spots_under rules n (suc k) s))) (part_filed rules n index position s k part l)
      | inr l ↦ (let same : k ≡ part = omega (arith, less, l) in
          subst (λ (i : ℕ). IsSubjectFiled (with_parts rules n index position s (suc k)) (roles_under rules n s) (filed_part position (suc i))
          (subject_spots_under rules n (suc i) s)) same
          (subject_filed before (roles_under rules n s) (filed_part position (suc k)) (subject_spots_under rules n (suc k) s)))
    ]

-- all parts of a row, if it may be one of two
grows_pairs : (rules : List Rule) (n : ℕ) (index : RoleIndex) (position : ℕ) (s : Held) → Grows index (with_pairs rules n index position s)
grows_pairs rules n index position s = go ((roles_under rules n s).first || (roles_under rules n s).second)
  where
    go : (b : Bool) → Grows index (cond b (with_parts rules n index position s (part_count rules n s)) index)
    go true = grows_parts rules n index position s (part_count rules n s)
    go false = grows_same index

pair_filed : (rules : List Rule) (n : ℕ) (index : RoleIndex) (position : ℕ) (s : Held) (part : ℕ) → part < part_count rules n s
    → IsSubjectFiled (with_pairs rules n index position s) (roles_under rules n s) (filed_part position (suc part)) (subject_spots_under rules n (suc part) s)
pair_filed rules n index position s part less = go ((roles_under rules n s).first || (roles_under rules n s).second) refl
  where
    go : (b : Bool) → ((roles_under rules n s).first || (roles_under rules n s).second) ≡ b
        → IsSubjectFiled (cond b (with_parts rules n index position s (part_count rules n s)) index) (roles_under rules n s) (filed_part position (suc part))
        (subject_spots_under rules n (suc part) s)
    go true e = part_filed rules n index position s (part_count rules n s) part less
    go false e = record {
      both = λ a b. absurd (false≢true (sym e ∙ or_left _ _ a));
      first = λ a b. absurd (false≢true (sym e ∙ or_left _ _ a));
      second = λ a b. absurd (false≢true (sym e ∙ or_right _ _ b));
    }

-- servers and rows ---------------------------------------------------------------------------

grows_server : (rules : List Rule) (n : ℕ) (index : RoleIndex) (position : ℕ) (s : Held) → Grows index (with_server rules n index position s)
grows_server rules n index position s = go (roles_under rules n s).server
  where
    go : (b : Bool) → Grows index (cond b (record index {
      servers = with_filed index.servers (filed_part position 1) (unless_many (server_spots_under rules n s))
          (are_many (server_spots_under rules n s));
    }) index)
    go true = record {
      firsts = λ q ys h. h;
      seconds = λ q ys h. h;
      boths = λ q ys h. h;
      servers = more_stays index.servers (filed_part position 1)
          (unless_many (server_spots_under rules n s)) (are_many (server_spots_under rules n s));
    }
    go false = grows_same index

server_filed : (rules : List Rule) (n : ℕ) (index : RoleIndex) (position : ℕ) (s : Held) → (roles_under rules n s).server ≡ true
    → IsFiled (with_server rules n index position s).servers (filed_part position 1) (server_spots_under rules n s)
server_filed rules n index position s has = rw has (new_part_filed index.servers (filed_part position 1) (server_spots_under rules n s))

-- a row is filed at its position
pub record IsRowFiled (rules : List Rule) (n : ℕ) (index : RoleIndex) (position : ℕ) (s : Held) : Type 0 where
  pub subject : (part : ℕ) → part < part_count rules n s → IsSubjectFiled index (roles_under rules n s) (filed_part position (suc part))
      (subject_spots_under rules n (suc part) s)
  pub server : (roles_under rules n s).server ≡ true → IsFiled index.servers (filed_part position 1) (server_spots_under rules n s)

row_stays : (rules : List Rule) (n : ℕ) (index index' : RoleIndex) (position : ℕ) (s : Held) → Grows index index' → IsRowFiled rules n index position s
    → IsRowFiled rules n index' position s
row_stays rules n index index' position s g h = record {
  subject = λ part less. subject_stays index index' (roles_under rules n s) (filed_part position (suc part)) (subject_spots_under rules n (suc part) s) g
      (h.subject part less);
  server = λ has. g.servers (filed_part position 1) (server_spots_under rules n s) (h.server has);
}

row_filed : (rules : List Rule) (n : ℕ) (index : RoleIndex) (position : ℕ) (s : Held) → IsRowFiled rules n (with_row rules n index position s) position s
row_filed rules n index position s =
    let before = with_server rules n index position s in record {
      subject = λ part less. pair_filed rules n before position s part less;
      server = λ has. (grows_pairs rules n before position s).servers (filed_part position 1) (server_spots_under rules n s)
          (server_filed rules n index position s has);
    }

grows_row : (rules : List Rule) (n : ℕ) (index : RoleIndex) (position : ℕ) (s : Held) → Grows index (with_row rules n index position s)
grows_row rules n index position s = grows_on index (with_server rules n index position s) (with_row rules n index position s)
    (grows_server rules n index position s)
    (grows_pairs rules n (with_server rules n index position s) position s)

grows_rows : (rules : List Rule) (n : ℕ) (index : RoleIndex) (position : ℕ) (rows : List Held) → Grows index (filed_rows rules n index position rows)
grows_rows rules n index position [] = grows_same index
grows_rows rules n index position (s ∷ rows) = grows_on index (with_row rules n index position s) (filed_rows rules n index position (s ∷ rows))
    (grows_row rules n index position s)
    (grows_rows rules n (with_row rules n index position s) (suc position) rows)

pub rows_filed : (rules : List Rule) (n : ℕ) (index : RoleIndex) (position : ℕ) (rows : List Held) (k : ℕ) (t : Held) → slice_get rows k ≡ Some t
    → IsRowFiled rules n (filed_rows rules n index position rows) (position + k) t
rows_filed rules n index position [] k t e = absurd (cc)
rows_filed rules n index position (s ∷ rows) zero t e =
    let same : s ≡ t = cc in
    let here : position ≡ position + 0 = omega arith in
    subst (λ (u : Held). IsRowFiled rules n (filed_rows rules n index position (s ∷ rows)) (position + 0) u) same
    (subst (λ (i : ℕ). IsRowFiled rules n (filed_rows rules n index position (s ∷ rows)) i s) here
    (row_stays rules n (with_row rules n index position s) (filed_rows rules n index position (s ∷ rows)) position s
    (grows_rows rules n (with_row rules n index position s) (suc position) rows)
    (row_filed rules n index position s)))
rows_filed rules n index position (s ∷ rows) (suc k) t e =
    let there : suc position + k ≡ position + suc k = omega arith in
    subst (λ (i : ℕ). IsRowFiled rules n (filed_rows rules n index position (s ∷ rows)) i t) there (rows_filed rules n (with_row rules n index position s)
    (suc position) rows k t e)
