-- A pass that has gone over some rows of a layer, and one row more.
use Rattle.std.proofs.Common.{◌≡◌, ◌∙◌, ◌+◌, ℕ, Bool, List, [], ◌∷◌, ◌++◌, None, Option, Some, Err, append-nil, cond, false, length, length-append, min}
use Rattle.std.proofs.Common.{ap, arith, refl, subst, sym, true}
use Rattle.std.specs.Prelude.{is_some, ℤ, pos, unwrap_or, ◌||◌, if◌then◌else◌}
use Rattle.std.specs.FinMap as finite
use Rattle.std.specs.Io.KnownBytes.{Appends}
use Rattle.std.specs.List.{IsDistinct, list_any}
use Rattle.std.specs.Ordering.{eq_by_cmp}
use Rattle.std.proofs.lemmas.List.Folds.{list_any-append}
use Rattle.std.proofs.lemmas.Map.Views.{Contains-from_any}
use Rattle.clr_rows.specs.declared.cells.CellId.{CellId}
use Rattle.clr_rows.specs.declared.tables.TableDef.{TableDef}
use Rattle.clr_rows.specs.declared.rows.Row.{Row}
use Rattle.clr_rows.specs.Cells.{cell_cmp}
use Rattle.clr_rows.specs.Contents.{Content}
use Rattle.clr_rows.proofs.CellOrder.{cell_cmp_total}
use Rattle.clr_rows.proofs.RowLemmas.{tied_cells}
use Rattle.clr_deltas.specs.Differences.{Differences, no_differences}
use Rattle.clr_finders.specs.declared.finders.RowFinder.{Ghosts}
use Rattle.clr_needs.specs.Settings.{Setting}
use Rattle.clr_rules.specs.Books.{FitsCell}
use Rattle.clr_reach.specs.declared.aims.Aim.{Aim}
use Rattle.clr_streams.proofs.Appending.{nothing_more, two_puts}
use Rattle.clr_cut_rows.specs.declared.standings.Standing.{Standing}
use Rattle.clr_cut_rows.specs.declared.standings.Standing.TheVariants.{Has, HasOther, Lacks, Beyond}
use Rattle.clr_cut_rows.specs.Searches.{aim_of, setting_in}
use Rattle.clr_cut_rows.specs.Standings.{IsStanding}
use Rattle.clr_cut_passes.specs.Counts.{counts_of}
use Rattle.clr_cut_passes.specs.Passes.{CountsOneMoreRow}
use Rattle.clr_layer_text.specs.declared.rows.LayerRow.{LayerRow}
use Rattle.clr_layer_text.specs.Layers.{IsFitting, cell_of}
use Rattle.clr_layer_streams.specs.declared.sources.LayerSource.{LayerSource}
use Rattle.clr_layer_streams.specs.declared.streams.LayerStream.{LayerStream}
use Rattle.clr_layer_streams.specs.declared.faults.StreamFault.{StreamFault}
use Rattle.clr_layer_streams.specs.declared.faults.StreamFault.TheVariants as of_stream
use Rattle.clr_layer_streams.specs.Faults.{is_unreadable as is_unreadable_stream}
use Rattle.clr_layer_streams.specs.Sources.{CanGoOn, is_failed}
use Rattle.clr_layer_streams.specs.Streams.{AreAllRows, AreFirstRows, HasRead, IsFaultOfFields, IsFaultOfNext, LayerForm, form_of, greatest}
use Rattle.clr_layer_streams.specs.Streams.{number_behind, record_behind}
use Rattle.clr_layer_streams.proofs.ReadingOn.{read_first, taken_behind}
use Rattle.clr_layer_changes.specs.declared.faults.LayersFault.TheVariants.{KeyTwice, NoKey}
use Rattle.clr_cut_streams.specs.declared.told.CutText.{CutText}
use Rattle.clr_cut_streams.specs.declared.told.Told.{Told}
use Rattle.clr_cut_streams.specs.declared.faults.PassFault.{PassFault}
use Rattle.clr_cut_streams.specs.declared.faults.PassFault.TheVariants as of_pass
use Rattle.clr_cut_streams.specs.Faults.{IsTellingFault, is_unreadable, pass_fault}
use Rattle.clr_cut_streams.specs.Passes.{AreRead, EndsAt, IsPassFault, IsWholePass, Tells}
use Rattle.clr_cut_streams.specs.Seen.{AreNoted, with_cell_if}
use Rattle.clr_cut_streams.specs.Sinks.{Sinks}
use Rattle.clr_cut_streams.specs.Told.{cells_of_cut, held_in, is_row_there, is_shown, line_if_other, line_if_shown, one_more_if, taken}
use Rattle.clr_cut_streams.proofs.TellingOn.{cells_more, one_told}

-- the cell of a row with a key
pub cell_is : (table own : ℕ) (key : ℤ) (r : LayerRow) → table ≡ own → r.key ≡ Some key
    → ◌≡◌ {A = CellId} (record { table = table; key = key }) (cell_of own r.key)
cell_is table own key r e keyed = λ i. record { table = e i; key = sym (ap (λ (o : Option ℤ). unwrap_or o (pos 1)) keyed) i }

-- a row that fits its table fits at its cell
pub fits_there : (form now : LayerForm) (tables : List TableDef) (r : LayerRow) (q : CellId) → IsFitting now.tables now.table r → now ≡ form
    → form.tables ≡ tables → q ≡ cell_of form.table r.key → FitsCell tables (q, r.row)
fits_there form now tables r q fits same schema here =
    subst (λ (k : CellId). FitsCell tables (k, r.row)) (sym here)
    (subst (λ (ts : List TableDef). FitsCell ts (cell_of form.table r.key, r.row)) schema
    (subst (λ (f : LayerForm). IsFitting f.tables f.table r) same fits))

-- what a row's standing says of its cell
there_by_standing : (aim : Aim) (c : Setting ℕ) (table : ℕ) (r : LayerRow) (x : Standing) → IsStanding aim c (held_in table r) x
    → is_row_there x ≡ is_some (c.root (cell_of table r.key))
there_by_standing aim c table r Has is = sym (ap is_some is)
there_by_standing aim c table r HasOther is = sym (ap is_some is.1)
there_by_standing aim c table r Lacks is = sym (ap is_some is.0)
there_by_standing aim c table r Beyond is = sym (ap is_some is.0)

one_looked_up : (t : Bool) (o : Option (Option Row)) (b : Bool) → is_some o ≡ b → is_some (cond t (Some None) o) ≡ (b || (t || false))
one_looked_up true o true e = refl
one_looked_up true o false e = refl
one_looked_up false o true e = e
one_looked_up false o false e = e

-- one cell more is noted, or none
one_noted : (b : Bool) (seen : Differences) (cells : List CellId) (k : CellId) → AreNoted seen cells
    → AreNoted (with_cell_if b seen k) (cells ++ (if b then k ∷ [] else []))
one_noted false seen cells k noted q = noted q ∙ ap (list_any (eq_by_cmp cell_cmp q)) (sym (append-nil cells))
one_noted true seen cells k noted q = ap (λ (o : Option (Option Row)). is_some o) (finite.get-insert cell_cmp_total seen k None q)
    ∙ one_looked_up (eq_by_cmp cell_cmp q k) (finite.get seen q) (list_any (eq_by_cmp cell_cmp q) cells) (noted q)
    ∙ sym (list_any-append (eq_by_cmp cell_cmp q) cells (k ∷ []))

number_on : (rows : List LayerRow) (r : LayerRow) (n m : ℕ) → n ≡ min (length rows + 1) greatest → m ≡ number_behind n
    → m ≡ min (length (rows ++ r ∷ []) + 1) greatest
number_on rows r n m is next = let long = length-append rows (r ∷ []) in omega (arith, long)

number_here : (rows : List LayerRow) (n m : ℕ) → n ≡ min (length rows + 1) greatest → m ≡ number_behind n → m ≡ record_behind rows
number_here rows n m is next = omega arith

-- what is told of the source by a fault of its stream
pub told_on : (X Y : Type 0) (failed : Bool) (e : StreamFault) → failed ≡ is_unreadable_stream {X = X} (Err e)
    → failed ≡ is_unreadable {X = Y} (Err (pass_fault e))
told_on X Y failed of_stream.OutOfMemory tells = tells
told_on X Y failed of_stream.Unreadable tells = tells
told_on X Y failed (of_stream.Record m fault) tells = tells

-- where a row isn't told of, the source hasn't failed
pub told_of_row : (Y : Type 0) (failed text_failed notes_failed : Bool) (e : PassFault) → failed ≡ false → IsTellingFault text_failed notes_failed e
    → failed ≡ is_unreadable {X = Y} (Err e)
told_of_row Y failed text_failed notes_failed of_pass.OutOfMemory unfailed why = unfailed
told_of_row Y failed text_failed notes_failed of_pass.Unreadable unfailed why = absurd why
told_of_row Y failed text_failed notes_failed of_pass.WriteFailed unfailed why = unfailed
told_of_row Y failed text_failed notes_failed (of_pass.Record m fault) unfailed why = absurd why

module _ {R V F : Type 0} {finder : Ghosts F} (remaining : R → Option (List ℕ)) (content : V → Content) (cut : CutText V F finder) (source : LayerSource R)
    (start : LayerStream) where
  abbrev pub cells : List LayerRow → List CellId
  cells rows = cells_of_cut (setting_in content cut.rows.now) (form_of start).table rows

  -- the rows so far were read from the stream as it was at first, what was told of them went out, and their cells at which the cut has a row are noted
  pub record IsGoing (to : LayerSource R) (now : LayerStream) (seen : Differences) (sinks : Sinks) (told : Told) : Type 0 where
    pub going : CanGoOn to
    pub form : form_of now ≡ form_of start
    pub rows : List LayerRow
    pub number : now.number ≡ min (length rows + 1) greatest
    pub read : (bytes : List ℕ) → HasRead remaining bytes [] source start → HasRead remaining bytes rows to now
    pub noted : AreNoted seen (cells rows)
    pub out : Tells content cut (form_of start).table sinks rows told

  pub begun : (text notes : Option (List ℕ)) (text_failed notes_failed : Bool) → CanGoOn source → start.number ≡ 1 → text_failed ≡ false → notes_failed ≡ false
      → IsGoing source start no_differences
      (record { text_held = text; text_holds = text; text_failed = text_failed; notes_held = notes; notes_hold = notes; notes_failed = notes_failed })
      (record { counts = counts_of []; printed = 0 })
  unfolding IsDistinct taken
  begun text notes text_failed notes_failed going first text_sink notes_sink = record {
    going = going;
    form = refl;
    rows = [];
    number = first;
    read = λ bytes h. h;
    noted = λ q. ap (λ (o : Option (Option Row)). is_some o) (finite.get-empty {X = Option Row} cell_cmp q);
    out = record {
      text = [];
      notes = [];
      has_told = record { standings = []; are = tt; counts = ([], tt, refl); keyed = refl; once = tt; lines = refl; remarks = refl; printed = refl };
      out = record { text_out = nothing_more text; notes_out = nothing_more notes; text_sink = text_sink; notes_sink = notes_sink };
    };
  }

  -- one row more was told of, as it stands to the cut at its cell, and the cell was noted
  pub record IsToldAt (seen noted : Differences) (text_between text_holds notes_between notes_hold : Option (List ℕ)) (told next : Told) (r : LayerRow)
      (x : Standing) (q : CellId) : Type 0 where
    pub is_new : is_some (finite.get seen q) ≡ false
    pub stands : IsStanding (aim_of cut.rows.now) (setting_in content cut.rows.now) (q, r.row) x
    pub counted : CountsOneMoreRow (aim_of cut.rows.now) (setting_in content cut.rows.now) told.counts (q, r.row) next.counts
    pub text_out : Appends text_between text_holds (line_if_shown (is_shown cut.listed.now q x) r)
    pub notes_out : Appends notes_between notes_hold (line_if_other cut.schema.now q x)
    pub printed : next.printed ≡ one_more_if (is_shown cut.listed.now q x) told.printed
    pub is_noted : noted ≡ with_cell_if (is_row_there x) seen q

  -- so its cell is noted where the cut has a row
  noted_too : (seen noted : Differences) (rows : List LayerRow) (r : LayerRow) (x : Standing)
      → IsStanding (aim_of cut.rows.now) (setting_in content cut.rows.now) (held_in (form_of start).table r) x
      → noted ≡ with_cell_if (is_row_there x) seen (cell_of (form_of start).table r.key)
      → AreNoted seen (cells rows)
      → AreNoted noted (cells (rows ++ r ∷ []))
  noted_too seen noted rows r x stands is so_far =
      let aim = aim_of cut.rows.now in
      let c = setting_in content cut.rows.now in
      let table = (form_of start).table in
      let q = cell_of table r.key in
      let there = there_by_standing aim c table r x stands in
      subst (λ (d : Differences). AreNoted d (cells (rows ++ r ∷ []))) (sym (is ∙ ap (λ (b : Bool). with_cell_if b seen q) there))
      (subst (λ (l : List CellId). AreNoted (with_cell_if (is_some (c.root q)) seen q) l) (sym (cells_more aim c table rows r))
      (one_noted (is_some (c.root q)) seen (cells rows) q so_far))

  pub goes_on : (from to : LayerSource R) (old now : LayerStream) (seen noted : Differences)
      (text_held text_between text_holds notes_held notes_between notes_hold : Option (List ℕ))
      (text_failed text_fails notes_failed notes_fail : Bool) (told next : Told) (r : LayerRow) (x : Standing) (q : CellId)
      → IsGoing from old seen (record {
        text_held = text_held;
        text_holds = text_between;
        text_failed = text_failed;
        notes_held = notes_held;
        notes_hold = notes_between;
        notes_failed = notes_failed;
      }) told
      → CanGoOn to
      → form_of now ≡ form_of old
      → now.number ≡ number_behind old.number
      → ((bytes : List ℕ) (rows : List LayerRow) → HasRead remaining bytes rows from old → HasRead remaining bytes (rows ++ r ∷ []) to now)
      → is_some r.key ≡ true
      → q ≡ cell_of (form_of start).table r.key
      → IsToldAt seen noted text_between text_holds notes_between notes_hold told next r x q
      → (text_fails ≡ text_failed) × (notes_fail ≡ notes_failed)
      → IsGoing to now noted (record {
        text_held = text_held;
        text_holds = text_holds;
        text_failed = text_fails;
        notes_held = notes_held;
        notes_hold = notes_hold;
        notes_failed = notes_fail;
      }) next
  goes_on from to old now seen noted text_held text_between text_holds notes_held notes_between notes_hold text_failed text_fails
      notes_failed notes_fail told next r x q so_far going form number more key here told_at sound =
      let out = so_far.out in
      let k = cell_of (form_of start).table r.key in
      let one = subst (IsToldAt seen noted text_between text_holds notes_between notes_hold told next r x) here told_at in
      record {
        going = going;
        form = form ∙ so_far.form;
        rows = so_far.rows ++ r ∷ [];
        number = number_on so_far.rows r old.number now.number so_far.number number;
        read = λ bytes h. more bytes so_far.rows (so_far.read bytes h);
        noted = noted_too seen noted so_far.rows r x one.stands one.is_noted so_far.noted;
        out = record {
          text = out.text ++ line_if_shown (is_shown cut.listed.now k x) r;
          notes = out.notes ++ line_if_other cut.schema.now k x;
          has_told = one_told (aim_of cut.rows.now) (setting_in content cut.rows.now)
              (form_of start).table cut.listed.now cut.schema.now so_far.rows out.text out.notes
              told next r x out.has_told one.stands one.counted key (sym (so_far.noted k) ∙ one.is_new) one.printed;
          out = record {
            text_out = two_puts text_held text_between text_holds out.text (line_if_shown (is_shown cut.listed.now k x) r) out.out.text_out one.text_out;
            notes_out = two_puts notes_held notes_between notes_hold out.notes (line_if_other cut.schema.now k x) out.out.notes_out one.notes_out;
            text_sink = sound.0 ∙ out.out.text_sink;
            notes_sink = sound.1 ∙ out.out.notes_sink;
          };
        };
      }

  pub ends : (from : LayerSource R) (old now : LayerStream) (seen : Differences) (sinks : Sinks) (told : Told) → IsGoing from old seen sinks told
      → form_of now ≡ form_of old
      → ((bytes : List ℕ) (rows : List LayerRow) → HasRead remaining bytes rows from old → AreAllRows (form_of now) bytes rows)
      → IsWholePass remaining content source start cut sinks told
  ends from old now seen sinks told so_far form all = (
    so_far.rows,
    λ bytes h. subst (λ (f : LayerForm). AreAllRows f bytes so_far.rows) (form ∙ so_far.form) (all bytes so_far.rows (so_far.read bytes h)),
    so_far.out,
  )

  -- one row more was read
  pub read_with : (from to : LayerSource R) (old now : LayerStream) (seen : Differences) (sinks : Sinks) (told : Told) (r : LayerRow)
      (so_far : IsGoing from old seen sinks told)
      → form_of now ≡ form_of old
      → ((bytes : List ℕ) (rows : List LayerRow) → HasRead remaining bytes rows from old → HasRead remaining bytes (rows ++ r ∷ []) to now)
      → AreRead (λ bytes. HasRead remaining bytes [] source start) (form_of start) (so_far.rows ++ r ∷ []) []
  read_with from to old now seen sinks told r so_far form more bytes h =
      subst (λ (f : LayerForm). AreFirstRows f bytes (so_far.rows ++ r ∷ []) []) (form ∙ so_far.form)
      (read_first remaining bytes (so_far.rows ++ r ∷ []) to now (more bytes so_far.rows (so_far.read bytes h)))

  -- the row has no key
  pub without_key : (from to : LayerSource R) (old now : LayerStream) (seen : Differences) (sinks : Sinks) (told : Told) (r : LayerRow) (m : ℕ)
      → IsGoing from old seen sinks told
      → form_of now ≡ form_of old
      → now.number ≡ number_behind old.number
      → ((bytes : List ℕ) (rows : List LayerRow) → HasRead remaining bytes rows from old → HasRead remaining bytes (rows ++ r ∷ []) to now)
      → r.key ≡ None
      → m ≡ now.number
      → EndsAt remaining content source start cut sinks m NoKey
  without_key from to old now seen sinks told r m so_far form number more none here = (
    so_far.rows,
    told,
    so_far.out,
    number_here so_far.rows old.number m so_far.number (here ∙ number),
    (r, read_with from to old now seen sinks told r so_far form more, none),
  )

  -- the row has the key of one before it, at which the cut has a row
  pub again : (from to : LayerSource R) (old now : LayerStream) (seen : Differences) (sinks : Sinks) (told : Told) (r : LayerRow) (m : ℕ) (q : CellId)
      → IsGoing from old seen sinks told
      → form_of now ≡ form_of old
      → now.number ≡ number_behind old.number
      → ((bytes : List ℕ) (rows : List LayerRow) → HasRead remaining bytes rows from old → HasRead remaining bytes (rows ++ r ∷ []) to now)
      → q ≡ cell_of (form_of start).table r.key
      → is_some (finite.get seen q) ≡ true
      → m ≡ now.number
      → EndsAt remaining content source start cut sinks m KeyTwice
  again from to old now seen sinks told r m q so_far form number more at_cell is_seen here = (
    so_far.rows,
    told,
    so_far.out,
    number_here so_far.rows old.number m so_far.number (here ∙ number),
    (
      r,
      read_with from to old now seen sinks told r so_far form more,
      Contains-from_any tied_cells (cell_of (form_of start).table r.key) (cells so_far.rows)
          (sym (so_far.noted (cell_of (form_of start).table r.key)) ∙ subst (λ (k : CellId). is_some (finite.get seen k) ≡ true) at_cell is_seen),
    ),
  )

  -- the record can't be read
  pub unread : (from to : LayerSource R) (old : LayerStream) (seen : Differences) (sinks : Sinks) (told : Told) (number : ℕ) (e : StreamFault)
      → IsGoing from old seen sinks told
      → number ≡ number_behind old.number
      → IsFaultOfNext remaining from to (form_of old) number e
      → IsPassFault remaining content source start cut sinks (is_failed to) (pass_fault e)
  unread from to old seen sinks told number of_stream.OutOfMemory so_far next why = tt
  unread from to old seen sinks told number of_stream.Unreadable so_far next why = why
  unread from to old seen sinks told number (of_stream.Record m fault) so_far next why = (
    so_far.rows,
    told,
    so_far.out,
    number_here so_far.rows old.number m so_far.number (why.0 ∙ next),
    (
      why.1.0,
      λ bytes h.
          subst (λ (f : LayerForm). AreFirstRows f bytes so_far.rows (why.1.0 ∷ [])) so_far.form
          (taken_behind remaining bytes so_far.rows from to old why.1.0 (so_far.read bytes h) so_far.going.config why.1.1),
      subst (λ (f : LayerForm). IsFaultOfFields f why.1.0 fault) so_far.form why.1.2,
    ),
  )

  -- a row wasn't told of
  pub untold : (sinks : Sinks) (failed : Bool) (e : PassFault) → IsTellingFault sinks.text_failed sinks.notes_failed e
      → IsPassFault remaining content source start cut sinks failed e
  untold sinks failed of_pass.OutOfMemory why = tt
  untold sinks failed of_pass.Unreadable why = absurd why
  untold sinks failed of_pass.WriteFailed why = why
  untold sinks failed (of_pass.Record m fault) why = absurd why
