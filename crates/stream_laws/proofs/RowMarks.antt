-- What single marks do to the row of a stream.
use Rattle.std.proofs.Common.{◌≡◌, ◌≢◌, ℕ, ◌<◌, ◌||◌, Bool, true, false, cond, eqb, ltb, inl, inr, is_some, Option, Some, None, List, [], ◌∷◌, ◌++◌, map, length, refl, ap, sym, ◌∙◌, subst, arith}
use Rattle.std.proofs.lemmas.Bool.Decides.{eqb_tells}
use Rattle.h2_flow.specs.declared.limits.TheConstants.{OPEN_STREAMS}
use Rattle.stream_laws.specs.Marks.{Mark, is_opening, is_end_there, is_end_here, is_closing, was_opened, was_ended_there, was_ended_here, was_closed, open_by, if_open, marks_opening, marks_closed, closes_row}
use Rattle.stream_laws.specs.Marks.Mark.{Opens, EndsThere, EndsHere, Closes}
use Rattle.stream_table.specs.declared.open_stream.OpenStream.{OpenStream}
use Rattle.h2_flow.specs.KeyedRows.{AreApart}
use Rattle.stream_table.specs.Rows.{stream_of, row_of, with_row, without_stream, new_row, after_opening}
use Rattle.h2_flow.specs.KeyedRowLaws.{row_at-named, row_at-with_same, row_at-with_other, row_at-push_same, row_at-push_other, row_at-without_same, row_at-without_other, AreApart-with, AreApart-without, AreApart-push}

-- ---- the story of one stream

pub record Story : Type 0 where
  pub opened : Bool
  pub there : Bool
  pub here : Bool
  pub closed : Bool

abbrev pub no_story : Story
no_story = record { opened = false; there = false; here = false; closed = false }

abbrev pub story_after : ℕ → Mark → Story → Story
story_after asked mark story = record {
  opened = is_opening asked mark || story.opened;
  there = is_end_there asked mark || story.there;
  here = is_end_here asked mark || story.here;
  closed = is_closing asked mark || story.closed;
}

abbrev pub story_after_all : ℕ → List Mark → Story → Story
story_after_all asked [] story = story
story_after_all asked (mark ∷ marks) story = story_after_all asked marks (story_after asked mark story)

pub story_joined : (asked : ℕ) (first rest : List Mark) (story : Story) → story_after_all asked (first ++ rest) story ≡ story_after_all asked rest (story_after_all asked first story)
story_joined asked [] rest story = refl
story_joined asked (mark ∷ first) rest story = story_joined asked first rest (story_after asked mark story)

swapped : (a b c : Bool) → (b || (a || c)) ≡ ((a || b) || c)
swapped true true c = refl
swapped true false c = refl
swapped false b c = refl

abbrev pub asked_of : ℕ → List Mark → Story → Story
asked_of asked marks story = record {
  opened = was_opened asked marks || story.opened;
  there = was_ended_there asked marks || story.there;
  here = was_ended_here asked marks || story.here;
  closed = was_closed asked marks || story.closed;
}

four : (a b c d e f g h : Bool) → a ≡ e → b ≡ f → c ≡ g → d ≡ h
    → let x : Story = record { opened = a; there = b; here = c; closed = d } in let y : Story = record { opened = e; there = f; here = g; closed = h } in x ≡ y
four a b c d e f g h p q r s = cc

pub story_asked : (asked : ℕ) (marks : List Mark) (story : Story) → story_after_all asked marks story ≡ asked_of asked marks story
story_asked asked [] story = refl
story_asked asked (mark ∷ marks) story =
    story_asked asked marks (story_after asked mark story)
    ∙ four (was_opened asked marks || (is_opening asked mark || story.opened)) (was_ended_there asked marks || (is_end_there asked mark || story.there)) (was_ended_here asked marks || (is_end_here asked mark || story.here)) (was_closed asked marks || (is_closing asked mark || story.closed))
    (was_opened asked (mark ∷ marks) || story.opened) (was_ended_there asked (mark ∷ marks) || story.there) (was_ended_here asked (mark ∷ marks) || story.here) (was_closed asked (mark ∷ marks) || story.closed)
    (swapped (is_opening asked mark) (was_opened asked marks) story.opened) (swapped (is_end_there asked mark) (was_ended_there asked marks) story.there) (swapped (is_end_here asked mark) (was_ended_here asked marks) story.here) (swapped (is_closing asked mark) (was_closed asked marks) story.closed)

-- ---- the row of a stream is as its story says

abbrev pub RowIs : Bool → Bool → Bool → Bool → Option OpenStream → Type 0
RowIs o t h c None = open_by o t h c ≡ false
RowIs o t h c (Some row) = (open_by o t h c ≡ true) × (row.peer_ended ≡ t) × (row.here_ended ≡ h)

abbrev pub AreFalse : Bool → Bool → Bool → Bool → Type 0
AreFalse o t h c = (o ≡ false) × (t ≡ false) × (h ≡ false) × (c ≡ false)

pub record Fits (asked : ℕ) (o t h c : Bool) (rows : List OpenStream) (greatest : ℕ) : Type 0 where
  pub apart : AreApart stream_of rows
  pub below : (other : ℕ) → greatest < other → row_of other rows ≡ None
  pub row : RowIs o t h c (row_of asked rows)
  -- nothing is said of a stream that is above the greatest
  pub fresh : greatest < asked → AreFalse o t h c

-- ---- truths of four Booleans

opens_new : (t h c : Bool) (k : ℕ) → (t ≡ false) × (h ≡ false) × (c ≡ false) → RowIs true t h c (Some (new_row k))
opens_new t h c k none = (ap (λ (x : Bool). open_by true x h c) none.0 ∙ (ap (λ (x : Bool). open_by true false x c) none.1 ∙ ap (λ (x : Bool). open_by true false false x) none.2), sym none.0, sym none.1)

closed_not : (o t h : Bool) → open_by o t h true ≡ false
closed_not true t h = refl
closed_not false t h = refl

both_not : (o c : Bool) → open_by o true true c ≡ false
both_not true true = refl
both_not true false = refl
both_not false c = refl

here_one : (o h c : Bool) → open_by o false h c ≡ true → open_by o false true c ≡ true
here_one o h c e = e

there_one : (o t c : Bool) → open_by o t false c ≡ true → open_by o true false c ≡ true
there_one o true c e = e
there_one o false c e = e

-- ---- removed rows

cleared : (k other : ℕ) (rows : List OpenStream) → AreApart stream_of rows → row_of other rows ≡ None → row_of other (without_stream k rows) ≡ None
cleared k other rows apart none =
    elim (eqb_tells k other) [
      | inl e ↦ subst (λ (n : ℕ). row_of n (without_stream k rows) ≡ None) e.1 (row_at-without_same stream_of k rows apart)
      | inr e ↦ row_at-without_other stream_of other k rows e.1 ∙ none
    ]

removed_other : (asked k : ℕ) (o t h c : Bool) (rows : List OpenStream) (g : ℕ) → k ≢ asked → Fits asked o t h c rows g → Fits asked o t h c (without_stream k rows) g
removed_other asked k o t h c rows g ne fits = record {
  apart = AreApart-without stream_of k rows fits.apart;
  below = λ other above. cleared k other rows fits.apart (fits.below other above);
  row = subst (λ (r : Option OpenStream). RowIs o t h c r) (sym (row_at-without_other stream_of asked k rows ne)) fits.row;
  fresh = fits.fresh;
}

removed_same : (asked k : ℕ) (o t h c x y z : Bool) (rows : List OpenStream) (g : ℕ) → k ≡ asked → open_by o x y z ≡ false → (g < asked → AreFalse o x y z) → Fits asked o t h c rows g → Fits asked o x y z (without_stream k rows) g
removed_same asked k o t h c x y z rows g same shut fresh fits = record {
  apart = AreApart-without stream_of k rows fits.apart;
  below = λ other above. cleared k other rows fits.apart (fits.below other above);
  row = subst (λ (r : Option OpenStream). RowIs o x y z r) (sym (subst (λ (n : ℕ). row_of n (without_stream k rows) ≡ None) same (row_at-without_same stream_of k rows fits.apart))) shut;
  fresh = fresh;
}

-- ---- replaced rows

-- a row that is found is none above the greatest
found_not_above : {X : Type 0} (k g : ℕ) (o t h c : Bool) (asked : ℕ) (rows : List OpenStream) (row : OpenStream) → Fits asked o t h c rows g → row_of k rows ≡ Some row → g < k → X
found_not_above k g o t h c asked rows row fits found above = let no : Some row ≡ None = sym found ∙ fits.below k above in absurd (cc no)

replaced_below : (asked k : ℕ) (o t h c : Bool) (rows : List OpenStream) (g : ℕ) (row new : OpenStream) → row_of k rows ≡ Some row → new.stream ≡ k → Fits asked o t h c rows g → (other : ℕ) → g < other → row_of other (with_row new rows) ≡ None
replaced_below asked k o t h c rows g row new found named fits other above =
    let ne : new.stream ≢ other = λ e. found_not_above k g o t h c asked rows row fits found (subst (λ (n : ℕ). g < n) (sym e ∙ named) above) in
    row_at-with_other stream_of other new rows ne ∙ fits.below other above

pub found_with : (k : ℕ) (rows : List OpenStream) (row new : OpenStream) → row_of k rows ≡ Some row → new.stream ≡ k → row_of k (with_row new rows) ≡ Some new
found_with k rows row new found named = subst (λ (n : ℕ). row_of n (with_row new rows) ≡ Some new) named (row_at-with_same stream_of new rows row (subst (λ (n : ℕ). row_of n rows ≡ Some row) (sym named) found))

replaced_other : (asked k : ℕ) (o t h c : Bool) (rows : List OpenStream) (g : ℕ) (row new : OpenStream) → row_of k rows ≡ Some row → new.stream ≡ k → k ≢ asked → Fits asked o t h c rows g → Fits asked o t h c (with_row new rows) g
replaced_other asked k o t h c rows g row new found named ne fits = record {
  apart = AreApart-with stream_of new rows fits.apart;
  below = replaced_below asked k o t h c rows g row new found named fits;
  row = subst (λ (r : Option OpenStream). RowIs o t h c r) (sym (row_at-with_other stream_of asked new rows (λ e. ne (sym named ∙ e)))) fits.row;
  fresh = fits.fresh;
}

replaced_same : (asked k : ℕ) (o t h c x y z : Bool) (rows : List OpenStream) (g : ℕ) (row new : OpenStream) → row_of k rows ≡ Some row → new.stream ≡ k → k ≡ asked → RowIs o x y z (Some new) → Fits asked o t h c rows g → Fits asked o x y z (with_row new rows) g
replaced_same asked k o t h c x y z rows g row new found named same is fits = record {
  apart = AreApart-with stream_of new rows fits.apart;
  below = replaced_below asked k o t h c rows g row new found named fits;
  row = subst (λ (r : Option OpenStream). RowIs o x y z r) (sym (subst (λ (n : ℕ). row_of n (with_row new rows) ≡ Some new) same (found_with k rows row new found named))) is;
  fresh = λ above. found_not_above k g o t h c asked rows row fits found (subst (λ (n : ℕ). g < n) (sym same) above);
}

-- the row of the stream that is asked for says what its story says
row_says : (asked k : ℕ) (o t h c : Bool) (rows : List OpenStream) (g : ℕ) (row : OpenStream) → row_of k rows ≡ Some row → k ≡ asked → Fits asked o t h c rows g → RowIs o t h c (Some row)
row_says asked k o t h c rows g row found same fits = subst (λ (r : Option OpenStream). RowIs o t h c r) (subst (λ (n : ℕ). row_of n rows ≡ Some row) same found) fits.row

-- ---- marks

-- how the rows fit the story
abbrev pub FitsStory : ℕ → Story → List OpenStream → ℕ → Type 0
FitsStory asked story rows greatest = Fits asked story.opened story.there story.here story.closed rows greatest

-- END_STREAM of this end, or of the peer, on a stream that the other one has ended
pub here_closes : (asked k : ℕ) (story : Story) (rows : List OpenStream) (g : ℕ) (row : OpenStream) → row_of k rows ≡ Some row → row.peer_ended ≡ true
    → FitsStory asked story rows g → FitsStory asked (story_after asked (EndsHere k) story) (without_stream k rows) g
here_closes asked k story rows g row found peer fits =
    elim (eqb_tells k asked) [
      | inl e ↦
          let says : RowIs story.opened story.there story.here story.closed (Some row) = row_says asked k story.opened story.there story.here story.closed rows g row found e.1 fits in
          let shut : open_by story.opened story.there true story.closed ≡ false = ap (λ (x : Bool). open_by story.opened x true story.closed) (sym says.1 ∙ peer) ∙ both_not story.opened story.closed in
          subst (λ (b : Bool). Fits asked story.opened story.there (b || story.here) story.closed (without_stream k rows) g) (sym e.0)
          (removed_same asked k story.opened story.there story.here story.closed story.there true story.closed rows g e.1 shut (λ above. found_not_above k g story.opened story.there story.here story.closed asked rows row fits found (subst (λ (n : ℕ). g < n) (sym e.1) above)) fits)
      | inr e ↦ subst (λ (b : Bool). Fits asked story.opened story.there (b || story.here) story.closed (without_stream k rows) g) (sym e.0)
          (removed_other asked k story.opened story.there story.here story.closed rows g e.1 fits)
    ]

pub there_closes : (asked k : ℕ) (story : Story) (rows : List OpenStream) (g : ℕ) (row : OpenStream) → row_of k rows ≡ Some row → row.here_ended ≡ true
    → FitsStory asked story rows g → FitsStory asked (story_after asked (EndsThere k) story) (without_stream k rows) g
there_closes asked k story rows g row found here fits =
    elim (eqb_tells k asked) [
      | inl e ↦
          let says : RowIs story.opened story.there story.here story.closed (Some row) = row_says asked k story.opened story.there story.here story.closed rows g row found e.1 fits in
          let shut : open_by story.opened true story.here story.closed ≡ false = ap (λ (x : Bool). open_by story.opened true x story.closed) (sym says.2 ∙ here) ∙ both_not story.opened story.closed in
          subst (λ (b : Bool). Fits asked story.opened (b || story.there) story.here story.closed (without_stream k rows) g) (sym e.0)
          (removed_same asked k story.opened story.there story.here story.closed true story.here story.closed rows g e.1 shut (λ above. found_not_above k g story.opened story.there story.here story.closed asked rows row fits found (subst (λ (n : ℕ). g < n) (sym e.1) above)) fits)
      | inr e ↦ subst (λ (b : Bool). Fits asked story.opened (b || story.there) story.here story.closed (without_stream k rows) g) (sym e.0)
          (removed_other asked k story.opened story.there story.here story.closed rows g e.1 fits)
    ]

-- and on one that it has not
pub here_stays : (asked k : ℕ) (story : Story) (rows : List OpenStream) (g : ℕ) (row : OpenStream) → row_of k rows ≡ Some row → row.peer_ended ≡ false
    → FitsStory asked story rows g → FitsStory asked (story_after asked (EndsHere k) story) (with_row (record row { here_ended = true }) rows) g
here_stays asked k story rows g row found peer fits =
    let named : row.stream ≡ k = row_at-named stream_of k rows row found in
    let new : OpenStream = record row { here_ended = true } in
    elim (eqb_tells k asked) [
      | inl e ↦
          let says : RowIs story.opened story.there story.here story.closed (Some row) = row_says asked k story.opened story.there story.here story.closed rows g row found e.1 fits in
          let there : story.there ≡ false = sym says.1 ∙ peer in
          let still : open_by story.opened story.there true story.closed ≡ true = ap (λ (x : Bool). open_by story.opened x true story.closed) there ∙ here_one story.opened story.here story.closed (ap (λ (x : Bool). open_by story.opened x story.here story.closed) (sym there) ∙ says.0) in
          subst (λ (b : Bool). Fits asked story.opened story.there (b || story.here) story.closed (with_row new rows) g) (sym e.0)
          (replaced_same asked k story.opened story.there story.here story.closed story.there true story.closed rows g row new found named e.1 (still, says.1, refl) fits)
      | inr e ↦ subst (λ (b : Bool). Fits asked story.opened story.there (b || story.here) story.closed (with_row new rows) g) (sym e.0)
          (replaced_other asked k story.opened story.there story.here story.closed rows g row new found named e.1 fits)
    ]

pub there_stays : (asked k : ℕ) (story : Story) (rows : List OpenStream) (g : ℕ) (row : OpenStream) → row_of k rows ≡ Some row → row.here_ended ≡ false
    → FitsStory asked story rows g → FitsStory asked (story_after asked (EndsThere k) story) (with_row (record row { peer_ended = true }) rows) g
there_stays asked k story rows g row found here fits =
    let named : row.stream ≡ k = row_at-named stream_of k rows row found in
    let new : OpenStream = record row { peer_ended = true } in
    elim (eqb_tells k asked) [
      | inl e ↦
          let says : RowIs story.opened story.there story.here story.closed (Some row) = row_says asked k story.opened story.there story.here story.closed rows g row found e.1 fits in
          let mine : story.here ≡ false = sym says.2 ∙ here in
          let still : open_by story.opened true story.here story.closed ≡ true = ap (λ (x : Bool). open_by story.opened true x story.closed) mine ∙ there_one story.opened story.there story.closed (ap (λ (x : Bool). open_by story.opened story.there x story.closed) (sym mine) ∙ says.0) in
          subst (λ (b : Bool). Fits asked story.opened (b || story.there) story.here story.closed (with_row new rows) g) (sym e.0)
          (replaced_same asked k story.opened story.there story.here story.closed true story.here story.closed rows g row new found named e.1 (still, refl, says.2) fits)
      | inr e ↦ subst (λ (b : Bool). Fits asked story.opened (b || story.there) story.here story.closed (with_row new rows) g) (sym e.0)
          (replaced_other asked k story.opened story.there story.here story.closed rows g row new found named e.1 fits)
    ]

-- the first list of a stream ends nothing
pub begun_stays : (asked k : ℕ) (story : Story) (rows : List OpenStream) (g : ℕ) (row : OpenStream) → row_of k rows ≡ Some row
    → FitsStory asked story rows g → FitsStory asked story (with_row (record row { begun = true }) rows) g
begun_stays asked k story rows g row found fits =
    let named : row.stream ≡ k = row_at-named stream_of k rows row found in
    let new : OpenStream = record row { begun = true } in
    elim (eqb_tells k asked) [
      | inl e ↦
          let says : RowIs story.opened story.there story.here story.closed (Some row) = row_says asked k story.opened story.there story.here story.closed rows g row found e.1 fits in
          replaced_same asked k story.opened story.there story.here story.closed story.there story.here story.closed rows g row new found named e.1 (says.0, says.1, says.2) fits
      | inr e ↦ replaced_other asked k story.opened story.there story.here story.closed rows g row new found named e.1 fits
    ]

-- RST_STREAM
closes_none : (asked k : ℕ) (story : Story) (rows : List OpenStream) (g : ℕ) → row_of k rows ≡ None → FitsStory asked story rows g → FitsStory asked story (without_stream k rows) g
closes_none asked k story rows g none fits =
    elim (eqb_tells k asked) [
      | inl e ↦
          let shut : open_by story.opened story.there story.here story.closed ≡ false = subst (λ (r : Option OpenStream). RowIs story.opened story.there story.here story.closed r) (subst (λ (n : ℕ). row_of n rows ≡ None) e.1 none) fits.row in
          removed_same asked k story.opened story.there story.here story.closed story.there story.here story.closed rows g e.1 shut fits.fresh fits
      | inr e ↦ removed_other asked k story.opened story.there story.here story.closed rows g e.1 fits
    ]

closes_row_found : (asked k : ℕ) (story : Story) (rows : List OpenStream) (g : ℕ) (row : OpenStream) → row_of k rows ≡ Some row → FitsStory asked story rows g → FitsStory asked (story_after asked (Closes k) story) (without_stream k rows) g
closes_row_found asked k story rows g row found fits =
    elim (eqb_tells k asked) [
      | inl e ↦ subst (λ (b : Bool). Fits asked story.opened story.there story.here (b || story.closed) (without_stream k rows) g) (sym e.0)
          (removed_same asked k story.opened story.there story.here story.closed story.there story.here true rows g e.1 (closed_not story.opened story.there story.here) (λ above. found_not_above k g story.opened story.there story.here story.closed asked rows row fits found (subst (λ (n : ℕ). g < n) (sym e.1) above)) fits)
      | inr e ↦ subst (λ (b : Bool). Fits asked story.opened story.there story.here (b || story.closed) (without_stream k rows) g) (sym e.0)
          (removed_other asked k story.opened story.there story.here story.closed rows g e.1 fits)
    ]

closes_by : (asked k : ℕ) (story : Story) (rows : List OpenStream) (g : ℕ) (row : Option OpenStream) → row_of k rows ≡ row → FitsStory asked story rows g → FitsStory asked (story_after_all asked (if_open row (Closes k)) story) (without_stream k rows) g
closes_by asked k story rows g None found fits = closes_none asked k story rows g found fits
closes_by asked k story rows g (Some row) found fits = closes_row_found asked k story rows g row found fits

pub closes : (asked k : ℕ) (story : Story) (rows : List OpenStream) (g : ℕ) → FitsStory asked story rows g → FitsStory asked (story_after_all asked (marks_closed k rows) story) (without_stream k rows) g
closes asked k story rows g fits = closes_by asked k story rows g (row_of k rows) refl fits

-- GOAWAY of this end
or_twice : (x b c : Bool) (row : OpenStream) (rest : Option OpenStream) → x ≡ is_some rest → (x || (b || c)) ≡ (is_some (cond b (Some row) rest) || c)
or_twice true true c row rest e = refl
or_twice false true c row rest e = refl
or_twice x false c row rest e = ap (λ (y : Bool). y || c) e

pub all_closed : (asked : ℕ) (rows : List OpenStream) (story : Story) → story_after_all asked (map closes_row rows) story ≡ record { opened = story.opened; there = story.there; here = story.here; closed = is_some (row_of asked rows) || story.closed }
all_closed asked [] story = refl
all_closed asked (row ∷ rows) story =
    all_closed asked rows (story_after asked (closes_row row) story)
    ∙ four story.opened story.there story.here (is_some (row_of asked rows) || (eqb row.stream asked || story.closed)) story.opened story.there story.here (is_some (row_of asked (row ∷ rows)) || story.closed) refl refl refl
    (or_twice (is_some (row_of asked rows)) (eqb row.stream asked) story.closed row (row_of asked rows) refl)

ends_row : (o t h c : Bool) (row : Option OpenStream) → RowIs o t h c row → open_by o t h (is_some row || c) ≡ false
ends_row o t h c None is = is
ends_row o t h c (Some row) is = closed_not o t h

ends_fit : (asked : ℕ) (story : Story) (rows : List OpenStream) (g : ℕ) → FitsStory asked story rows g → Fits asked story.opened story.there story.here (is_some (row_of asked rows) || story.closed) [] g
ends_fit asked story rows g fits = record {
  apart = tt;
  below = λ other above. refl;
  row = ends_row story.opened story.there story.here story.closed (row_of asked rows) fits.row;
  fresh = λ above. let none : row_of asked rows ≡ None = fits.below asked above in let is = fits.fresh above in (is.0, is.1, is.2, ap (λ (r : Option OpenStream). is_some r || story.closed) none ∙ is.3);
}

pub ends_all : (asked : ℕ) (story : Story) (rows : List OpenStream) (g : ℕ) → FitsStory asked story rows g → FitsStory asked (story_after_all asked (map closes_row rows) story) [] g
ends_all asked story rows g fits = subst (λ (x : Story). FitsStory asked x [] g) (sym (all_closed asked rows story)) (ends_fit asked story rows g fits)

-- HEADERS of a stream above the greatest
never : {X : Type 0} (k asked : ℕ) → k ≡ asked → k < asked → X
never k asked same more = let no : ⊥ = omega (arith, same, more) in absurd no

above_all : (asked k : ℕ) (o t h c : Bool) (rows : List OpenStream) (g : ℕ) → g < k → Fits asked o t h c rows g → (other : ℕ) → k < other → row_of other rows ≡ None
above_all asked k o t h c rows g above fits other more = fits.below other (omega (arith, above, more))

pushed_below : (asked k : ℕ) (o t h c : Bool) (rows : List OpenStream) (g : ℕ) → g < k → Fits asked o t h c rows g → (other : ℕ) → k < other → row_of other (rows ++ new_row k ∷ []) ≡ None
pushed_below asked k o t h c rows g above fits other more =
    row_at-push_other stream_of other (new_row k) rows (λ e. never k other e more) ∙ above_all asked k o t h c rows g above fits other more

pushed_same : (asked k : ℕ) (o t h c : Bool) (rows : List OpenStream) (g : ℕ) → g < k → k ≡ asked → Fits asked o t h c rows g → Fits asked true t h c (rows ++ new_row k ∷ []) k
pushed_same asked k o t h c rows g above same fits =
    let is : AreFalse o t h c = fits.fresh (subst (λ (n : ℕ). g < n) same above) in record {
      apart = AreApart-push stream_of (new_row k) rows fits.apart (fits.below k above);
      below = pushed_below asked k o t h c rows g above fits;
      row = subst (λ (r : Option OpenStream). RowIs true t h c r) (sym (subst (λ (n : ℕ). row_of n (rows ++ new_row k ∷ []) ≡ Some (new_row k)) same (row_at-push_same stream_of k (new_row k) rows refl (fits.below k above)))) (opens_new t h c k (is.1, is.2, is.3));
      fresh = λ more. never k asked same more;
    }

pushed_other : (asked k : ℕ) (o t h c : Bool) (rows : List OpenStream) (g : ℕ) → g < k → k ≢ asked → Fits asked o t h c rows g → Fits asked o t h c (rows ++ new_row k ∷ []) k
pushed_other asked k o t h c rows g above ne fits = record {
  apart = AreApart-push stream_of (new_row k) rows fits.apart (fits.below k above);
  below = pushed_below asked k o t h c rows g above fits;
  row = subst (λ (r : Option OpenStream). RowIs o t h c r) (sym (row_at-push_other stream_of asked (new_row k) rows ne)) fits.row;
  fresh = λ more. fits.fresh (omega (arith, above, more));
}

refused_same : (asked k : ℕ) (o t h c : Bool) (rows : List OpenStream) (g : ℕ) → g < k → k ≡ asked → Fits asked o t h c rows g → Fits asked true t h true rows k
refused_same asked k o t h c rows g above same fits = record {
  apart = fits.apart;
  below = above_all asked k o t h c rows g above fits;
  row = subst (λ (r : Option OpenStream). RowIs true t h true r) (sym (fits.below asked (subst (λ (n : ℕ). g < n) same above))) (closed_not true t h);
  fresh = λ more. never k asked same more;
}

refused_other : (asked k : ℕ) (o t h c : Bool) (rows : List OpenStream) (g : ℕ) → g < k → k ≢ asked → Fits asked o t h c rows g → Fits asked o t h c rows k
refused_other asked k o t h c rows g above ne fits = record {
  apart = fits.apart;
  below = above_all asked k o t h c rows g above fits;
  row = fits.row;
  fresh = λ more. fits.fresh (omega (arith, above, more));
}

opens_by : (b : Bool) (asked k : ℕ) (story : Story) (rows : List OpenStream) (g : ℕ) → g < k → FitsStory asked story rows g → FitsStory asked (story_after_all asked (cond b (Opens k ∷ []) (Opens k ∷ Closes k ∷ [])) story) (cond b (rows ++ new_row k ∷ []) rows) k
opens_by true asked k story rows g above fits =
    elim (eqb_tells k asked) [
      | inl e ↦ subst (λ (b : Bool). Fits asked (b || story.opened) story.there story.here story.closed (rows ++ new_row k ∷ []) k) (sym e.0)
          (pushed_same asked k story.opened story.there story.here story.closed rows g above e.1 fits)
      | inr e ↦ subst (λ (b : Bool). Fits asked (b || story.opened) story.there story.here story.closed (rows ++ new_row k ∷ []) k) (sym e.0)
          (pushed_other asked k story.opened story.there story.here story.closed rows g above e.1 fits)
    ]
opens_by false asked k story rows g above fits =
    elim (eqb_tells k asked) [
      | inl e ↦ subst (λ (b : Bool). Fits asked (b || story.opened) story.there story.here (b || story.closed) rows k) (sym e.0)
          (refused_same asked k story.opened story.there story.here story.closed rows g above e.1 fits)
      | inr e ↦ subst (λ (b : Bool). Fits asked (b || story.opened) story.there story.here (b || story.closed) rows k) (sym e.0)
          (refused_other asked k story.opened story.there story.here story.closed rows g above e.1 fits)
    ]

pub opens : (asked k : ℕ) (story : Story) (rows : List OpenStream) (g : ℕ) → g < k → FitsStory asked story rows g → FitsStory asked (story_after_all asked (marks_opening k rows) story) (after_opening k rows) k
opens asked k story rows g above fits = opens_by (ltb (length rows) OPEN_STREAMS) asked k story rows g above fits
