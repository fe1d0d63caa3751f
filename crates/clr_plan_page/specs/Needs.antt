-- What serves the needs of a certificate, as a report tells it.
use Rattle.std.specs.Prelude.{ℕ, ◌-◌, ◌==◌, List, [], ◌∷◌, ◌++◌, codes, decimal, length, map, nat_lt, take, if◌then◌else◌}
use Rattle.clr_rows.specs.Contents.{Changes}
use Rattle.clr_cert.specs.declared.certificates.Entry.{Entry}
use Rattle.clr_workspaces.specs.Marks.{Name}
use Rattle.clr_steps.specs.Offices.{Office}
use Rattle.clr_plan_sentences.specs.declared.served_needs.NeedWords.{NeedWords}
use Rattle.clr_plan_sentences.specs.ServedNeeds.{told_need}
use Rattle.clr_page_parts.specs.Shown.{Shown, Paragraph, Table}

-- the rule of a need, the rows that ask, and the rows that serve it until when
abbrev pub need_row : NeedWords → List (List ℕ)
need_row need = need.rule ∷ need.rows ∷ need.servers ∷ []

-- the row of a certificate's entry, of members that make these changes
abbrev pub entry_row : Office → List Name → List Changes → Entry → List (List ℕ)
entry_row o members sets entry = need_row (told_need o members sets entry)

abbrev pub need_heads : List (List ℕ)
need_heads = codes "Rule" ∷ codes "Asked by" ∷ codes "Served by" ∷ []

-- the first 400 needs
abbrev pub need_rows : Office → List Name → List Changes → List Entry → List (List (List ℕ))
need_rows o members sets entries = map (entry_row o members sets) (take 400 entries)

-- how many of so many needs are left out, if some are
abbrev pub more_needs : ℕ → List Shown
more_needs count =
    if nat_lt 400 count then Paragraph (codes "And " ++ decimal (count - 400) ++ codes " more, which the certificate at the end names.") ∷ [] else []

abbrev pub some_needs : Office → List Name → List Changes → List Entry → List Shown
some_needs o members sets entries =
    Paragraph (codes "Each need that the designs touch is served, whatever is merged first.")
    ∷ Table need_heads (need_rows o members sets entries) ∷ more_needs (length entries)

-- the needs of a certificate, or that there is none
abbrev pub needs_shown : Office → List Name → List Changes → List Entry → List Shown
needs_shown o members sets entries =
    if length entries == 0 then Paragraph (codes "No rule is touched.") ∷ [] else some_needs o members sets entries
