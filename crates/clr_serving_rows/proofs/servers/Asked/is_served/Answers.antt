use Rattle.std.proofs.Common.{◌≤◌, ◌∙◌, length, sym, ap, subst}
use Rattle.std.proofs.lemmas.Option.{slice_get_past}
use Rattle.clr_rows.specs.Held.{held_of}
use Rattle.clr_serving_rows.specs.Servers.{subjects_of}
use Rattle.clr_serving_rows.proofs.ServerLemmas.{first_unfit, no_rule}
use Rattle.clr_serving_rows.proofs.servers.Asked.is_served.Goals.{then-self-len-via-then-self-len, then-self-len-via-else-self-len+then-not-fits}
use Rattle.clr_serving_rows.proofs.servers.Asked.is_served.Goals as goal

pub returns-then-self-len : goal.returns-then-self-len
returns-then-self-len c =
    let o = c.args.office.now in
    let need = c.args.self.now.need.now in
    let subjects = subjects_of c.args.self.now in
    let server = held_of c.args.server in
    elim c.then-self-len.branch [
      | then-self-len-via-then-self-len w ↦
          let past = subst (λ n. n ≤ need.rule) (c.len.ensures.value ∙ ap length c.book-book.ensures.value) w.if-self-len.true in
          sym (no_rule o need subjects server (slice_get_past o.book need.rule past))
      | then-self-len-via-else-self-len+then-not-fits w ↦ sym (first_unfit o need subjects server (sym w.fits.ensures.value ∙ w.if-not-fits.true))
    ]
