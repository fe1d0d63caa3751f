-- One record more is read of a layer, or there is none.
use Rattle.std.proofs.Common.{◌≡◌, ◌∙◌, ◌+◌, ℕ, List, [], ◌∷◌, ◌++◌, Option, Some, None, Result, Ok, Err, true, false, length, min, refl}
use Rattle.std.proofs.Common.{ap, append-nil, arith, length-append}
use Rattle.csv.specs.Machine.{Read, next_record}
use Rattle.csv.specs.Reading.{NextIs, ReadRecord, Reached, ReadsNext, TookRecord, default_config, pending_of, records, strip_bom}
use Rattle.csv.specs.declared.parser.State.{State}
use Rattle.csv.specs.declared.parser.State.TheVariants as st
use Rattle.csv.proofs.ReadFacts.{reached-more, rows-end, rows-more}
use Rattle.clr_readings.specs.Readings.{◌>>=◌}
use Rattle.clr_records.specs.Records.{at_record, in_turn}
use Rattle.clr_records.proofs.RecordTurns.{all_read}
use Rattle.clr_layer_text.specs.declared.rows.LayerRow.{LayerRow}
use Rattle.clr_layer_text.specs.Headings.{seen_headings}
use Rattle.clr_layer_text.specs.Layers.{row_of}
use Rattle.clr_layer_streams.specs.declared.sources.LayerSource.{LayerSource}
use Rattle.clr_layer_streams.specs.declared.streams.LayerStream.{LayerStream}
use Rattle.clr_layer_streams.specs.Sources.{below}
use Rattle.clr_layer_streams.specs.Streams.{AreAllRows, AreFirstRows, BeginsWith, HasRead, form_of, greatest, number_behind}

-- items read in turn, and one more
in_turn_more : {X A E : Type 0} (f : ℕ → X → Result A E) (n : ℕ) (xs : List X) (x : X) (found : List A) (a : A) → in_turn f n xs ≡ Ok found
    → ((m : ℕ) → f m x ≡ Ok a) → in_turn f n (xs ++ x ∷ []) ≡ Ok (found ++ a ∷ [])
unfolding in_turn
in_turn_more f n [] x found a e h = let none : [] ≡ found = cc in rw (h n, ← none) refl
in_turn_more {X} {A} {E} f n (y ∷ ys) x found a e h = by (f n y) e (λ bs is. in_turn_more f (n + 1) ys x bs a is h)
  where
    More : Type 0
    More = (bs : List A) → in_turn f (n + 1) ys ≡ Ok bs → in_turn f (n + 1) (ys ++ x ∷ []) ≡ Ok (bs ++ a ∷ [])

    later : (b : A) (r : Result (List A) E) → in_turn f (n + 1) ys ≡ r → (r >>= λ others. Ok (b ∷ others)) ≡ Ok found → More
        → (in_turn f (n + 1) (ys ++ x ∷ []) >>= λ others. Ok (b ∷ others)) ≡ Ok (found ++ a ∷ [])
    later b (Ok bs) is e2 more =
        let one : b ∷ bs ≡ found = cc in
        rw (more bs is, ← one) refl
    later b (Err w) is e2 more = absurd cc

    by : (r : Result A E) → (r >>= λ b. in_turn f (n + 1) ys >>= λ others. Ok (b ∷ others)) ≡ Ok found → More
        → (r >>= λ b. in_turn f (n + 1) (ys ++ x ∷ []) >>= λ others. Ok (b ∷ others)) ≡ Ok (found ++ a ∷ [])
    by (Ok b) e2 more = later b (in_turn f (n + 1) ys) refl e2 more
    by (Err w) e2 more = absurd cc

number_more : {A : Type 0} (found : List A) (a : A) → number_behind (min (length found + 1) greatest) ≡ min (length (found ++ a ∷ []) + 1) greatest
number_more found a = let long = length-append found (a ∷ []) in omega (arith, long)

-- one record more behind those that a text begins with
begins_more : (bytes left : List ℕ) (s s2 : State) (list : List (List (List ℕ))) (fields : List (List ℕ)) (after : Option (List ℕ))
    → Reached default_config st.StartRecord (strip_bom bytes) list s left → ReadsNext default_config s (Some left) after true fields s2
    → BeginsWith bytes (list ++ fields ∷ [])
begins_more bytes left s s2 list fields None reached reads = absurd reads
begins_more bytes left s s2 list fields (Some rest) reached reads = by (next_record default_config s [] [] left) refl reads
  where
    by : (o : Option Read) → next_record default_config s [] [] left ≡ o → NextIs o true fields s2 rest → BeginsWith bytes (list ++ fields ∷ [])
    by None is next = absurd cc
    by (Some p) is next = (p.1, p.2, rw next.1 (reached-more default_config st.StartRecord s (strip_bom bytes) left list p reached is))

module _ {R : Type 0} (remaining : R → Option (List ℕ)) (bytes : List ℕ) (rows : List LayerRow) (from to : LayerSource R) (old new : LayerStream)
    (so_far : HasRead remaining bytes rows from old) (config : from.reader.config ≡ default_config) where
  pub one_more : (fields : List (List ℕ)) (r : LayerRow) → ReadRecord (below remaining) from.reader to.reader true fields
      → new.schema.now ≡ old.schema.now → new.table ≡ old.table → new.rounded ≡ old.rounded → new.headings ≡ old.headings
      → new.number ≡ number_behind old.number
      → row_of old.schema.now old.table old.rounded (seen_headings old.headings) fields ≡ Ok r → HasRead remaining bytes (rows ++ r ∷ []) to new
  one_more fields r reads schema table rounded headings number is =
      let m = rows-more (below remaining) from.reader to.reader fields default_config st.StartRecord (strip_bom bytes) so_far.left
      (so_far.names ∷ so_far.others) config so_far.unread so_far.reached reads in
      record {
        names = so_far.names;
        others = so_far.others ++ fields ∷ [];
        left = m.0;
        reached = m.2;
        unread = m.1;
        headings = rw (schema, table, headings) so_far.headings;
        read = rw (schema, table, rounded, headings) (in_turn_more _ 2 so_far.others fields rows r so_far.read (λ m. ap (at_record m) is));
        number = number ∙ ap number_behind so_far.number ∙ number_more rows r;
      }

  pub all_rows : (fields : List (List ℕ)) → ReadRecord (below remaining) from.reader to.reader false fields → AreAllRows (form_of old) bytes rows
  all_rows fields reads =
      let read : records default_config (strip_bom bytes) ≡ so_far.names ∷ so_far.others = all_read default_config (strip_bom bytes) _ (
        from.reader.state,
        so_far.left,
        so_far.reached,
        rows-end (below remaining) from.reader to.reader fields default_config so_far.left config so_far.unread reads,
      ) in
      rw (read, so_far.headings) so_far.read

-- what was read so far is what a text begins with
pub read_first : {R : Type 0} (remaining : R → Option (List ℕ)) (bytes : List ℕ) (rows : List LayerRow) (source : LayerSource R) (stream : LayerStream)
    → HasRead remaining bytes rows source stream → AreFirstRows (form_of stream) bytes rows []
read_first remaining bytes rows source stream so_far = record {
  names = so_far.names;
  others = so_far.others;
  begins = rw append-nil (source.reader.state, so_far.left, so_far.reached);
  headings = so_far.headings;
  read = so_far.read;
}

-- a record that was taken stands behind what was read so far
pub taken_behind : {R : Type 0} (remaining : R → Option (List ℕ)) (bytes : List ℕ) (rows : List LayerRow) (from to : LayerSource R) (stream : LayerStream)
    (fields : List (List ℕ)) → HasRead remaining bytes rows from stream → from.reader.config ≡ default_config
    → TookRecord (below remaining) from.reader to.reader fields → AreFirstRows (form_of stream) bytes rows (fields ∷ [])
taken_behind remaining bytes rows from to stream fields so_far config took = record {
  names = so_far.names;
  others = so_far.others;
  begins = begins_more bytes so_far.left from.reader.state to.reader.state (so_far.names ∷ so_far.others) fields
      (pending_of (below remaining to.reader.rdr) to.reader) so_far.reached (rw (config, so_far.unread) at took);
  headings = so_far.headings;
  read = so_far.read;
}
