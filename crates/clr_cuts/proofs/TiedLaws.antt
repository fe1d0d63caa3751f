-- A part of the root with all rows that are tied to members has all subjects of needs that involve one.
use Rattle.std.proofs.Common.{◌≡◌, ◌∙◌, inl, inr, Option, Some, None}
use Rattle.clr_rows.specs.Held.{Held}
use Rattle.clr_rules.specs.Needs.{View}
use Rattle.clr_needs.specs.declared.needs.Need.{Need}
use Rattle.clr_needs.specs.declared.needs.VersionId.{VersionId}
use Rattle.clr_needs.specs.Independence.{Involves, Names, NamesIfAny}
use Rattle.clr_needs.specs.Needs.{IsBesideIfAny, IsPossible, ask_of}
use Rattle.clr_needs.specs.Settings.{Setting, Lived, held_row, version}
use Rattle.clr_cuts.specs.Cuts.{HasCell, HasCellIfAny, HasChanged, HasInvolved, HasSubjects, with_root}
use Rattle.clr_cuts.specs.Reach.{CallBeside, HasTied, IsTied, ServesSubject}
use Rattle.clr_cuts.proofs.CutLaws.{named_kept, same_versions}
use Rattle.clr_cuts.proofs.ReachLaws.{Calls, ServedBy, first_served, of_member_or_root, second_served}

module _ {A : Type 0} (c : Setting A) (rows : View) (changed : HasChanged c rows) (tied : HasTied c rows) where
  abbrev d : Setting A
  d = with_root c rows

  -- a version is of the part if it is tied, should it be a row of the root
  has_if : (v : VersionId) (l : Lived A) → version c v ≡ Some l → IsTied d (held_row v l) → HasCell rows c.root v.cell
  has_if v l e tie = elim (of_member_or_root c v l e) [ inl (x, h) ↦ changed v.cell x h | inr h ↦ tied v.cell l.row h.there tie ]

  module _ (v : VersionId) (l : Lived A) (x : A) (is : version c v ≡ Some l) (names : Names l.life x) where
    is_there : version d v ≡ Some l
    is_there = same_versions c rows v (named_kept c rows changed v l x is names) ∙ is

    beside_it : (s : Held) → CallBeside c.rules (held_row v l) s → IsTied d s
    beside_it s call = inl (record { id = v; lived = l; is = is_there; holds = (x, names); they_call = call })

    served_by_it : (s : Held) → ServesSubject c.rules (held_row v l) s → IsTied d s
    served_by_it s it = inr (record { id = v; lived = l; is = is_there; holds = (x, names); it_serves = it })

  module _ (n : Need) (a : Lived A) (b : Option (Lived A)) (x : A) (possible : IsPossible c n a b) where
    -- the first subject is of a member
    second_beside : (w : Option VersionId) (b : Option (Lived A)) → IsBesideIfAny c n.first a w b → Calls c n a w b → Names a.life x
        → HasCellIfAny rows c.root w
    second_beside None b beside they_call names = tt
    second_beside (Some w) None beside they_call names = absurd beside
    second_beside (Some w) (Some m) beside they_call names =
        has_if w m beside.is (beside_it n.first a x possible.first_is names (held_row w m) (ask_of n, inl they_call))

    -- the second subject is of a member
    of_second : (w : Option VersionId) (b : Option (Lived A)) → IsBesideIfAny c n.first a w b → Calls c n a w b → NamesIfAny b x
        → HasCell rows c.root n.first.cell × HasCellIfAny rows c.root w
    of_second None None beside they_call names = absurd names
    of_second None (Some m) beside they_call names = absurd beside
    of_second (Some w) None beside they_call names = absurd beside
    of_second (Some w) (Some m) beside they_call names = (
      has_if n.first a possible.first_is (beside_it w m x beside.is names (held_row n.first a) (ask_of n, inr they_call)),
      named_kept c rows changed w m x beside.is names,
    )

    -- a server is of a member
    of_server : (v : VersionId) (l : Lived A) → version c v ≡ Some l → Names l.life x → (w : Option VersionId) (b : Option (Lived A))
        → IsBesideIfAny c n.first a w b → Calls c n a w b → ServedBy c n a w b (held_row v l) → HasCellIfAny rows c.root w
    of_server v l is names None b beside they_call it = tt
    of_server v l is names (Some w) None beside they_call it = absurd beside
    of_server v l is names (Some w) (Some m) beside they_call it =
        has_if w m beside.is (served_by_it v l x is names (held_row w m) (second_served c n a w m (held_row v l) they_call it))

    has_subjects : Involves c n a b x → HasSubjects rows c.root n
    has_subjects (inl names) = (
      named_kept c rows changed n.first a x possible.first_is names,
      second_beside n.second b possible.second_is possible.they_call names,
    )
    has_subjects (inr (inl names)) = of_second n.second b possible.second_is possible.they_call names
    has_subjects (inr (inr (v, l, serve, names))) = (
      has_if n.first a possible.first_is (served_by_it v l x serve.is names (held_row n.first a)
          (first_served c n a n.second b (held_row v l) possible.second_is possible.they_call serve.it_serves)),
      of_server v l serve.is names n.second b possible.second_is possible.they_call serve.it_serves,
    )

  pub has_involved : HasInvolved c rows
  has_involved n a b x possible involves = has_subjects n a b x possible involves
