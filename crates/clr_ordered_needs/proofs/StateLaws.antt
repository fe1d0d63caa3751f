-- No more is broken where each touched need is served always, or one of its blockers isn't merged, or one of its helpers is.
use Rattle.std.proofs.Common.{◌≡◌, ◌∙◌, true, false, List, ◌⊎◌, inl, inr, refl, sym, ap, Option, not}
use Rattle.std.proofs.lemmas.Bool.{false≢true, true≢false}
use Rattle.clr_needs.specs.declared.needs.Need.{Need}
use Rattle.clr_needs.specs.declared.needs.VersionId.{VersionId}
use Rattle.clr_needs.specs.Needs.{Serves}
use Rattle.clr_needs.specs.Settings.{Setting, Lifetime, Always, With, Without, Lived, has}
use Rattle.clr_needs.proofs.Lives.{lives}
use Rattle.clr_needs.proofs.Meetings.{HasServer, IsStandingNeed, IsSubjectLife}
use Rattle.clr_ordered_needs.specs.Helpers.{IsServedAlways}
use Rattle.clr_ordered_needs.specs.Laws.{StatesAreTold}
use Rattle.clr_ordered_needs.specs.States.{IsSparedWith}
use Rattle.clr_ordered_needs.proofs.BreakLaws.{newly_broken}
use Rattle.clr_ordered_needs.proofs.CoverLaws.{no_more_where_served}

module _ {A : Type 0} (c : Setting A) (ts : List A) (n : Need) (a : Lived A) (b : Option (Lived A)) (need : IsStandingNeed c ts n a b) where
  serving : (v : VersionId) (l : Lived A) (life : Lifetime A) → Serves c n a b v l → l.life ≡ life → lives c ts life ≡ true → HasServer c ts n a b
  serving v l life serve e h = record { id = v; lived = l; serves = serve; lives = ap (lives c ts) e ∙ h }

  waits : (y : A) → IsSubjectLife c a b (With y) → has c.same ts y ≡ false → ⊥
  waits y h out = true≢false (sym (need.live (With y) h) ∙ out)

  stays : (x : A) → IsSubjectLife c a b (Without x) → has c.same ts x ≡ true → ⊥
  stays x h merged = false≢true (sym (ap not merged) ∙ need.live (Without x) h)

  spared_is_served : IsSparedWith c n a b ts → HasServer c ts n a b
  spared_is_served (inl (y, inl e, out)) = absurd (waits y (inl (sym e)) out)
  spared_is_served (inl (y, inr (inl h), out)) = absurd (waits y (inr h) out)
  spared_is_served (inl (y, inr (inr (v, l, serve, e)), out)) = serving v l (Without y) serve e (ap not out)
  spared_is_served (inr (x, inl e, merged)) = absurd (stays x (inl (sym e)) merged)
  spared_is_served (inr (x, inr (inl h), merged)) = absurd (stays x (inr h) merged)
  spared_is_served (inr (x, inr (inr (v, l, serve, e)), merged)) = serving v l (With x) serve e merged

  pub told_is_served : IsServedAlways c n a b ⊎ IsSparedWith c n a b ts → HasServer c ts n a b
  told_is_served (inl (v, l, serve, e)) = serving v l Always serve e refl
  told_is_served (inr spared) = spared_is_served spared

pub states_are_told : {A : Type 0} (c : Setting A) → StatesAreTold c
states_are_told c = record {
  broken = λ ts n a b apart changes part is_open broken. newly_broken c ts n a b is_open broken apart changes part;
  spared = λ fewer ts apart part members each. no_more_where_served c apart fewer ts part members
      (λ n a b need touched. told_is_served c ts n a b need (each n a b need.possible touched));
}
