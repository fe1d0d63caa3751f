-- The text of a JSON value with the ends of lines is its text in lines.
use Rattle.std.proofs.Common.{◌≡◌, ◌∙◌, ◌<◌, ◌≤◌, ◌+◌, ℕ, zero, suc, ℤ, pos, negsuc, ◌==◌, ◌&&◌, ◌/◌, ◌%◌, Bool, true, false, nat_lt, List, [], ◌∷◌, ◌++◌, ap}
use Rattle.std.proofs.Common.{ap₂, arith, inl, inr}
use Rattle.std.proofs.Common.{append_assoc, refl, subst, sym}
use Rattle.std.specs.Fmt.{decimal, digit_glyph, digits, digits_onto, signed_decimal}
use Rattle.std.specs.Str.{bytes_eq}
use Rattle.std.proofs.lemmas.Bool.{and_parts, cases_eq, cases_lt, le-ltb, lt-ltb, ne_eqb}
use Rattle.std.proofs.lemmas.Slice.Eq.{bytes_eq-Decides}
use Rattle.json.specs.Print.{escape, escape_byte, quoted}
use Rattle.serde_json.specs.Data.{Data, null, boolean, number, string, array, object, Items, no_items, item, Members, no_members, member, Num, unsigned}
use Rattle.serde_json.specs.Data.{negative, float}
use Rattle.serde_json.specs.Written.{compact_text, items_text, members_text, number_text}
use Rattle.clr_desk_formats.specs.declared.line_ends.JsonState.{JsonState}
use Rattle.clr_desk_formats.specs.declared.line_ends.JsonState.TheVariants.{Within, Escaped, Between}
use Rattle.clr_desk_formats.specs.LineEnds.{is_in_list, line_end_if, lined_from}
use Rattle.clr_desk_formats.specs.LinedTexts.{is_object, lined_items, lined_members, lined_text}
use Rattle.clr_desk_formats.proofs.LineEnds.{last-append, last_of, lined-append, place-append, place_of}

-- texts --------------------------------------------------------------------------------------

-- within a text no line ends, and the byte before doesn't matter
within_same : (b : ℕ) (xs : List ℕ) → lined_from Within b xs ≡ lined_from Within 0 xs
within_same b [] = refl
within_same b (x ∷ xs) = refl

abbrev is_within : JsonState → Bool
is_within Within = true
is_within _ = false

within_is : (p : JsonState) → is_within p ≡ true → p ≡ Within
within_is Within e = refl
within_is Escaped e = absurd cc
within_is Between e = absurd cc

-- what stands for a byte in a text stays within it
record Stays (x : ℕ) : Type 0 where
  text : lined_from Within 0 (escape_byte x) ≡ escape_byte x
  place : place_of Within (escape_byte x) ≡ Within

abbrev stays : ℕ → Bool
stays x = bytes_eq (lined_from Within 0 (escape_byte x)) (escape_byte x) && is_within (place_of Within (escape_byte x))

abbrev stay_below : ℕ → Bool
stay_below zero = true
stay_below (suc n) = stays n && stay_below n

low_stays : (n : ℕ) → stay_below n ≡ true → (x : ℕ) → x < n → Stays x
low_stays zero e x h = absurd (omega arith)
low_stays (suc n) e x h =
    let p = and_parts (stays n) (stay_below n) e in
    elim (cases_eq x n) [
      | inl same ↦ (let q = and_parts (bytes_eq (lined_from Within 0 (escape_byte n)) (escape_byte n)) (is_within (place_of Within (escape_byte n))) p.0 in
          subst Stays (sym same) (record {
            text = (bytes_eq-Decides (lined_from Within 0 (escape_byte n)) (escape_byte n)).0 q.0;
            place = within_is (place_of Within (escape_byte n)) q.1;
          }))
      | inr other ↦ low_stays n p.1 x (omega arith)
    ]

all_low : stay_below 32 ≡ true
unfolding escape_byte
all_low = refl

plain : (x : ℕ) → (x ≡ 34 → ⊥) → (x ≡ 92 → ⊥) → 32 ≤ x → escape_byte x ≡ x ∷ []
unfolding escape_byte
plain x q b l =
    rw (
      ne_eqb x 34 q,
      ne_eqb x 92 b,
      ne_eqb x 8 (λ e. omega arith),
      ne_eqb x 12 (λ e. omega arith),
      ne_eqb x 10 (λ e. omega arith),
      ne_eqb x 13 (λ e. omega arith),
      ne_eqb x 9 (λ e. omega arith),
      le-ltb x 32 l,
    )
    refl

plain_stays : (x : ℕ) → (x ≡ 34 → ⊥) → (x ≡ 92 → ⊥) → 32 ≤ x → Stays x
plain_stays x q b l = record { text = rw (plain x q b l) refl; place = rw (plain x q b l, ne_eqb x 34 q, ne_eqb x 92 b) refl }

quote_stays : Stays 34
unfolding escape_byte
quote_stays = record { text = refl; place = refl }

backslash_stays : Stays 92
unfolding escape_byte
backslash_stays = record { text = refl; place = refl }

byte_stays : (x : ℕ) → Stays x
byte_stays x = elim (cases_lt x 32) [
  | inl low ↦ low_stays 32 all_low x low
  | inr high ↦ elim (cases_eq x 34) [
    | inl is ↦ subst Stays (sym is) quote_stays
    | inr differs ↦ elim (cases_eq x 92) [
      | inl is ↦ subst Stays (sym is) backslash_stays
      | inr other ↦ plain_stays x differs other high
    ]
  ]
]

escape_text : (s : List ℕ) (b : ℕ) → lined_from Within b (escape s) ≡ escape s
escape_text [] b = refl
escape_text (x ∷ s) b =
    lined-append Within b (escape_byte x) (escape s)
    ∙ ap₂ (λ (l m : List ℕ). l ++ m) (within_same b (escape_byte x) ∙ (byte_stays x).text)
    (ap (λ p. lined_from p (last_of b (escape_byte x)) (escape s)) (byte_stays x).place ∙ escape_text s (last_of b (escape_byte x)))

escape_place : (s : List ℕ) → place_of Within (escape s) ≡ Within
escape_place [] = refl
escape_place (x ∷ s) = place-append Within (escape_byte x) (escape s) ∙ ap (λ p. place_of p (escape s)) (byte_stays x).place ∙ escape_place s

quoted_text : (s : List ℕ) (b : ℕ) → lined_from Between b (quoted s) ≡ quoted s
quoted_text s b =
    ap (λ l. 34 ∷ l) (lined-append Within 34 (escape s) (34 ∷ [])
    ∙ ap₂ (λ (l m : List ℕ). l ++ m) (escape_text s 34) (ap (λ p. lined_from p (last_of 34 (escape s)) (34 ∷ [])) (escape_place s)))

quoted_place : (s : List ℕ) → place_of Between (quoted s) ≡ Between
quoted_place s = place-append Within (escape s) (34 ∷ []) ∙ ap (λ p. place_of p (34 ∷ [])) (escape_place s)

quoted_last : (s : List ℕ) (b : ℕ) → last_of b (quoted s) ≡ 34
quoted_last s b = last-append 34 (escape s) (34 ∷ [])

-- numbers ------------------------------------------------------------------------------------

-- bytes before which no line ends, and which are outside of texts and no end of an object
record IsBare (xs : List ℕ) : Type 0 where
  text : (b : ℕ) → lined_from Between b xs ≡ xs
  place : place_of Between xs ≡ Between
  last : (b : ℕ) → (b == 125) ≡ false → (last_of b xs == 125) ≡ false

bare_more : (x : ℕ) (xs : List ℕ) → (x == 123) ≡ false → (x == 93) ≡ false → (x == 34) ≡ false → (x == 125) ≡ false → IsBare xs → IsBare (x ∷ xs)
bare_more x xs one two three four is = record {
  text = λ b. rw (one, two, three) (ap (λ l. x ∷ l) (is.text x));
  place = rw three is.place;
  last = λ b e. is.last x four;
}

digit_more : (n : ℕ) (xs : List ℕ) → n < 10 → IsBare xs → IsBare (digit_glyph false n ∷ xs)
digit_more n xs low is = subst (λ g. IsBare (g ∷ xs)) (sym (glyph n low))
    (bare_more (48 + n) xs (ne_eqb (48 + n) 123 (λ e. omega arith)) (ne_eqb (48 + n) 93 (λ e. omega arith)) (ne_eqb (48 + n) 34 (λ e. omega arith))
    (ne_eqb (48 + n) 125 (λ e. omega arith)) is)
  where
    glyph : (n : ℕ) → n < 10 → digit_glyph false n ≡ 48 + n
    glyph n low = rw (lt-ltb n 10 low) refl

by_zero : (k n : ℕ) (xs : List ℕ) (b : Bool) → (n / 10 == 0) ≡ b → IsBare (digit_glyph false (n % 10) ∷ xs)
    → IsBare (digits_onto k 10 false (n / 10) (digit_glyph false (n % 10) ∷ xs)) → IsBare (digits_onto (suc k) 10 false n xs)
by_zero k n xs true e last more = rw e last
by_zero k n xs false e last more = rw e more

digits_bare : (k n : ℕ) (xs : List ℕ) → IsBare xs → IsBare (digits_onto k 10 false n xs)
digits_bare zero n xs is = is
digits_bare (suc k) n xs is =
    let more = digit_more (n % 10) xs (omega arith) is in
    by_zero k n xs (n / 10 == 0) refl more (digits_bare k (n / 10) (digit_glyph false (n % 10) ∷ xs) more)

none_bare : IsBare []
none_bare = record { text = λ b. refl; place = refl; last = λ b e. e }

decimal_bare : (n : ℕ) → IsBare (decimal n)
unfolding digits
decimal_bare n = digits_bare 64 n [] none_bare

number_bare : (n : Num) → IsBare (number_text n)
number_bare (unsigned n) = decimal_bare n
number_bare (negative (pos n)) = decimal_bare n
number_bare (negative (negsuc n)) = bare_more 45 (decimal (suc n)) refl refl refl refl (decimal_bare (suc n))
number_bare (float x) = none_bare

-- values -------------------------------------------------------------------------------------

-- the text of a value
pub record IsLined (d : Data) : Type 0 where
  pub text : (b : ℕ) → lined_from Between b (compact_text d) ≡ line_end_if (is_in_list b && is_object d) ++ lined_text d
  place : place_of Between (compact_text d) ≡ Between
  last : (b : ℕ) → (b == 125) ≡ false → (last_of b (compact_text d) == 125) ≡ is_object d

record AreLinedMembers (later : Bool) (ms : Members) : Type 0 where
  text : (b : ℕ) → lined_from Between b (members_text later ms) ≡ lined_members later ms
  place : place_of Between (members_text later ms) ≡ Between
  last : (b : ℕ) → last_of b (members_text later ms) ≡ 125

record AreLinedItems (ds : Items) : Type 0 where
  first : lined_from Between 91 (items_text false ds) ≡ lined_items false false ds
  more : (b : ℕ) (behind : Bool) → (b == 125) ≡ behind → lined_from Between b (items_text true ds) ≡ lined_items true behind ds
  place : (later : Bool) → place_of Between (items_text later ds) ≡ Between
  last : (later : Bool) (b : ℕ) → last_of b (items_text later ds) ≡ 93

no_end : (b : Bool) → (b && false) ≡ false
no_end true = refl
no_end false = refl

with_true : (b : Bool) → (b && true) ≡ b
with_true true = refl
with_true false = refl

bare_lined : (d : Data) → is_object d ≡ false → lined_text d ≡ compact_text d → IsBare (compact_text d) → IsLined d
bare_lined d other same is = record {
  text = λ b. is.text b ∙ sym same ∙ ap (λ e. line_end_if e ++ lined_text d) (sym (ap (λ o. is_in_list b && o) other ∙ no_end (is_in_list b)));
  place = is.place;
  last = λ b e. is.last b e ∙ sym other;
}

-- a value and what stands behind it
value_then : (d : Data) → IsLined d → (b : ℕ) → (b == 125) ≡ false → (rest : List ℕ) (lines : List ℕ)
    → ((e : ℕ) → (e == 125) ≡ is_object d → lined_from Between e rest ≡ lines)
    → lined_from Between b (compact_text d ++ rest) ≡ (line_end_if (is_in_list b && is_object d) ++ lined_text d) ++ lines
value_then d is b brace rest lines then =
    lined-append Between b (compact_text d) rest
    ∙ ap₂ (λ (l m : List ℕ). l ++ m) (is.text b)
    (ap (λ p. lined_from p (last_of b (compact_text d)) rest) is.place ∙ then (last_of b (compact_text d)) (is.last b brace))

value_place : (d : Data) → IsLined d → (rest : List ℕ) → place_of Between rest ≡ Between → place_of Between (compact_text d ++ rest) ≡ Between
value_place d is rest then = place-append Between (compact_text d) rest ∙ ap (λ p. place_of p rest) is.place ∙ then

mutual
  pub lined_value : (d : Data) → IsLined d
  lined_value null = bare_lined null refl refl (record { text = λ b. refl; place = refl; last = λ b e. refl })
  lined_value (boolean true) = bare_lined (boolean true) refl refl (record { text = λ b. refl; place = refl; last = λ b e. refl })
  lined_value (boolean false) = bare_lined (boolean false) refl refl (record { text = λ b. refl; place = refl; last = λ b e. refl })
  lined_value (number n) = bare_lined (number n) refl refl (number_bare n)
  lined_value (string s) = bare_lined (string s) refl refl
      (record { text = quoted_text s; place = quoted_place s; last = λ b e. ap (λ x. x == 125) (quoted_last s b) })
  lined_value (array ds) = let is = lined_all ds in record {
    text = λ b. ap (λ l. 91 ∷ l) is.first ∙ ap (λ e. line_end_if e ++ lined_text (array ds)) (sym (no_end (is_in_list b)));
    place = is.place false;
    last = λ b e. ap (λ x. x == 125) (is.last false 91);
  }
  lined_value (object ms) = let is = lined_fields ms false in record {
    text = λ b. ap (λ e. line_end_if e ++ 123 ∷ lined_from Between 123 (members_text false ms)) (sym (with_true (is_in_list b)))
        ∙ ap (λ l. line_end_if (is_in_list b && true) ++ 123 ∷ l) (is.text 123);
    place = is.place;
    last = λ b e. ap (λ x. x == 125) (is.last 123);
  }

  lined_all : (ds : Items) → AreLinedItems ds
  lined_all no_items = record {
    first = refl;
    more = λ b behind e. ap (λ x. line_end_if x ++ 93 ∷ []) e;
    place = λ later. refl;
    last = λ later b. refl;
  }
  lined_all (item d ds) =
      let is = lined_value d in
      let rest = lined_all ds in
      let then : (e : ℕ) → (e == 125) ≡ is_object d → lined_from Between e (items_text true ds) ≡ lined_items true (is_object d) ds =
      λ e same. rest.more e (is_object d) same in
      record {
        first = value_then d is 91 refl (items_text true ds) (lined_items true (is_object d) ds) then;
        more = λ b behind e. ap (λ l. 44 ∷ l) (value_then d is 44 refl (items_text true ds) (lined_items true (is_object d) ds) then);
        place = λ later. by_later later (value_place d is (items_text true ds) (rest.place true));
        last = λ later b. last_later later b (λ a. last-append a (compact_text d) (items_text true ds) ∙ rest.last true (last_of a (compact_text d)));
      }
    where
      by_later : (later : Bool) → place_of Between (compact_text d ++ items_text true ds) ≡ Between → place_of Between (items_text later (item d ds)) ≡ Between
      by_later true e = e
      by_later false e = e

      last_later : (later : Bool) (b : ℕ) → ((a : ℕ) → last_of a (compact_text d ++ items_text true ds) ≡ 93) → last_of b (items_text later (item d ds)) ≡ 93
      last_later true b e = e 44
      last_later false b e = e b

  lined_fields : (ms : Members) (later : Bool) → AreLinedMembers later ms
  lined_fields no_members later = record { text = λ b. refl; place = refl; last = λ b. refl }
  lined_fields (member k d ms) later =
      let is = lined_value d in
      let rest = lined_fields ms true in
      let field : (b : ℕ) → lined_from Between b (quoted k ++ 58 ∷ (compact_text d ++ members_text true ms))
      ≡ quoted k ++ 58 ∷ (lined_text d ++ lined_members true ms) =
      λ b. lined-append Between b (quoted k) (58 ∷ (compact_text d ++ members_text true ms))
      ∙ ap₂ (λ (l m : List ℕ). l ++ m) (quoted_text k b)
      (ap (λ p. lined_from p (last_of b (quoted k)) (58 ∷ (compact_text d ++ members_text true ms))) (quoted_place k)
      ∙ ap (λ l. 58 ∷ l) (value_then d is 58 refl (members_text true ms) (lined_members true ms) (λ e same. rest.text e))) in
      let place : place_of Between (quoted k ++ 58 ∷ (compact_text d ++ members_text true ms)) ≡ Between =
      place-append Between (quoted k) (58 ∷ (compact_text d ++ members_text true ms))
      ∙ ap (λ p. place_of p (58 ∷ (compact_text d ++ members_text true ms))) (quoted_place k)
      ∙ value_place d is (members_text true ms) rest.place in
      let last : (b : ℕ) → last_of b (quoted k ++ 58 ∷ (compact_text d ++ members_text true ms)) ≡ 125 =
      λ b. last-append b (quoted k) (58 ∷ (compact_text d ++ members_text true ms))
      ∙ last-append 58 (compact_text d) (members_text true ms) ∙ rest.last (last_of 58 (compact_text d)) in
      by_later later field place last
    where
      by_later : (later : Bool) → ((b : ℕ) → lined_from Between b (quoted k ++ 58 ∷ (compact_text d ++ members_text true ms))
          ≡ quoted k ++ 58 ∷ (lined_text d ++ lined_members true ms))
          → place_of Between (quoted k ++ 58 ∷ (compact_text d ++ members_text true ms)) ≡ Between
          → ((b : ℕ) → last_of b (quoted k ++ 58 ∷ (compact_text d ++ members_text true ms)) ≡ 125)
          → AreLinedMembers later (member k d ms)
      by_later true field place last = record { text = λ b. ap (λ l. 44 ∷ l) (field 44); place = place; last = λ b. last 44 }
      by_later false field place last = record { text = field; place = place; last = last }
