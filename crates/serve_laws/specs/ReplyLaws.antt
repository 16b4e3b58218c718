-- What a stream was given to send is what was put on it, followed by what it still holds.
use Rattle.std.proofs.Common.{◌≡◌, ℕ, ◌||◌, cond, Bool, true, false, Option, Some, None, List, [], ◌∷◌, ◌++◌, length, drop, refl, ap, sym, ◌∙◌, subst, append_assoc, append-nil, true≢false}
use Rattle.std.specs.List.{list_any}
use Rattle.std.proofs.Math.Seq.{drop-append_seam}
use Rattle.cycle_rules.specs.Circuit.{Bits}
use Rattle.serve_acts.specs.Acts.{Act}
use Rattle.serve_acts.specs.Acts.Act.{Arrives, Ends, Takes, Declines, Lists, Attaches, Hands, Puts, Finishes}
use Rattle.serve_acts.specs.Attachments.{attachment, handed_to}
use Rattle.serve_acts.specs.Calls.{is_of, calls, taken, is_taken}
use Rattle.serve_acts.specs.Legal.{IsLegal, IsNew}
use Rattle.serve_acts.specs.Prefixes.{Begins}
use Rattle.serve_acts.specs.Served.{Served}
use Rattle.serve_acts.specs.Streams.{Held, is_stream, held, given, data_put, is_replied, is_finished}
use Rattle.serve_acts.specs.declared.call.Call.{Call}
use Rattle.serve_laws.specs.Filters.{any_joined}
use Rattle.serve_laws.specs.OnceLaws.{new_at, are_one, in_calls, untaken, either_none}
use Rattle.serve_laws.specs.Replying.{Fits}

none_some : {A : Type 0} (there : Option A) (x : A) → there ≡ None → there ≡ Some x → ⊥
none_some there x e f = cc

module _ {S : Type 0} (served : Served S) where
  -- ---- no reply is begun on a stream with a call whose value was not taken

  arrives_by : (b : Bool) (c s : ℕ) (call : Call) (t : List Act) → is_stream call.conn call.stream c s ≡ b → IsNew call.conn call.stream t
      → (list_any (is_of c s) (calls t) ≡ true → is_taken c s t ≡ false → is_replied c s t ≡ false) → list_any (is_of c s) (calls t ++ call ∷ []) ≡ true → is_taken c s t ≡ false → is_replied c s t ≡ false
  arrives_by true c s call t e new rest any none = (new_at call.conn call.stream c s t new e).no_reply
  arrives_by false c s call t e new rest any none = rest (sym (any_joined (is_of c s) (calls t) (call ∷ []) ∙ last (list_any (is_of c s) (calls t))) ∙ any) none
    where
      last : (b : Bool) → (b || (is_of c s call || false)) ≡ b
      last true = refl
      last false = simp e refl

  takes_by : (b : Bool) (c s : ℕ) (call : Call) (t : List Act) → is_stream call.conn call.stream c s ≡ b → (is_taken c s t ≡ false → is_replied c s t ≡ false) → list_any (is_of c s) (taken t ++ call ∷ []) ≡ false → is_replied c s (Takes call ∷ t) ≡ false
  takes_by true c s call t e rest none = absurd (true≢false (sym (any_joined (is_of c s) (taken t) (call ∷ []) ∙ last (list_any (is_of c s) (taken t))) ∙ none))
    where
      last : (b : Bool) → (b || (is_of c s call || false)) ≡ true
      last true = refl
      last false = simp e refl
  takes_by false c s call t e rest none = rw e (rest (either_none (list_any (is_of c s) (taken t)) (list_any (is_of c s) (call ∷ [])) (sym (any_joined (is_of c s) (taken t) (call ∷ [])) ∙ none)).0)

  begins_by : (b : Bool) (conn stream c s : ℕ) (t : List Act) → is_stream conn stream c s ≡ b → IsNew conn stream t → list_any (is_of c s) (calls t) ≡ true → is_replied c s t ≡ false → cond b true (is_replied c s t) ≡ false
  begins_by true conn stream c s t e new any rest = absurd (true≢false (sym any ∙ (new_at conn stream c s t new e).no_call))
  begins_by false conn stream c s t e new any rest = rest

  pub unreplied : (c s : ℕ) (t : List Act) → IsLegal served t → list_any (is_of c s) (calls t) ≡ true → is_taken c s t ≡ false → is_replied c s t ≡ false
  unreplied c s [] legal any none = refl
  unreplied c s (Arrives call ∷ t) legal any none = arrives_by (is_stream call.conn call.stream c s) c s call t refl legal.0.is_new (λ f g. unreplied c s t legal.1 f g) any none
  unreplied c s (Takes call ∷ t) legal any none = takes_by (is_stream call.conn call.stream c s) c s call t refl (λ g. unreplied c s t legal.1 any g) none
  unreplied c s (Lists conn stream flow text ∷ t) legal any none = begins_by (is_stream conn stream c s) conn stream c s t refl legal.0 any (unreplied c s t legal.1 any none)
  unreplied c s (Attaches channel conn stream flow ∷ t) legal any none = begins_by (is_stream conn stream c s) conn stream c s t refl legal.0.is_new any (unreplied c s t legal.1 any none)
  unreplied c s (Declines conn stream flow decline ∷ t) legal any none = begins_by (is_stream conn stream c s) conn stream c s t refl legal.0.is_new any (unreplied c s t legal.1 any none)
  unreplied c s (act ∷ t) legal any none = unreplied c s t legal.1 any none

  -- so a reply begins with the take
  pub unreplied_first : (call : Call) (t : List Act) → IsLegal served (Takes call ∷ t) → is_replied call.conn call.stream t ≡ false
  unreplied_first call t legal = unreplied call.conn call.stream t legal.1 (in_calls served call t legal.1 legal.0.due.front) (untaken served call t legal.1 legal.0.due.front)

  -- ---- a stream on which no reply was begun

  pub record IsFresh (c s : ℕ) (t : List Act) : Type 0 where
    pub nothing_held : held served.replies c s t ≡ None
    pub nothing_given : given served.replies c s t ≡ []
    pub nothing_put : data_put c s t ≡ []
    pub nothing_attached : attachment c s t ≡ None
    pub nothing_handed : handed_to c s t ≡ []

  unbegun : (b : Bool) (rest : Bool) → cond b true rest ≡ false → (b ≡ false) × (rest ≡ false)
  unbegun true rest e = cc
  unbegun false rest e = (refl, e)

  -- nothing is handed to a stream on which no reply was begun, and nothing is put on it
  fresh_hands : (b : Bool) (channel conn stream : ℕ) (word : Bits) (c s : ℕ) (t : List Act) → is_stream conn stream c s ≡ b → held served.replies conn stream t ≡ Some (record { unsent = []; ends = false })
      → IsFresh c s t → IsFresh c s (Hands channel conn stream word ∷ t)
  fresh_hands true channel conn stream word c s t e idle old =
      let one = are_one conn stream c s e in
      let none : held served.replies conn stream t ≡ None = subst (λ (n : ℕ). held served.replies n stream t ≡ None) (sym one.conn_is) (subst (λ (n : ℕ). held served.replies c n t ≡ None) (sym one.stream_is) old.nothing_held) in
      cc
  fresh_hands false channel conn stream word c s t e idle old = record {
    nothing_held = rw e old.nothing_held;
    nothing_given = rw e old.nothing_given;
    nothing_put = old.nothing_put;
    nothing_attached = old.nothing_attached;
    nothing_handed = rw e old.nothing_handed;
  }

  fresh_puts : (b : Bool) (conn stream : ℕ) (octets : List ℕ) (c s : ℕ) (t : List Act) (there : Held) → is_stream conn stream c s ≡ b → held served.replies conn stream t ≡ Some there
      → IsFresh c s t → IsFresh c s (Puts conn stream octets ∷ t)
  fresh_puts true conn stream octets c s t there e is old =
      let one = are_one conn stream c s e in
      let none : held served.replies conn stream t ≡ None = subst (λ (n : ℕ). held served.replies n stream t ≡ None) (sym one.conn_is) (subst (λ (n : ℕ). held served.replies c n t ≡ None) (sym one.stream_is) old.nothing_held) in
      cc
  fresh_puts false conn stream octets c s t there e is old = record {
    nothing_held = rw e old.nothing_held;
    nothing_given = old.nothing_given;
    nothing_put = rw e old.nothing_put;
    nothing_attached = old.nothing_attached;
    nothing_handed = old.nothing_handed;
  }

  gone_none : (b : Bool) (there : Option Held) → there ≡ None → cond b None there ≡ None
  gone_none true there e = refl
  gone_none false there e = e

  pub fresh : (c s : ℕ) (t : List Act) → IsLegal served t → is_replied c s t ≡ false → IsFresh c s t
  fresh c s [] legal none = record { nothing_held = refl; nothing_given = refl; nothing_put = refl; nothing_attached = refl; nothing_handed = refl }
  fresh c s (Takes call ∷ t) legal none =
      let is = unbegun (is_stream call.conn call.stream c s) (is_replied c s t) none in
      let old = fresh c s t legal.1 is.1 in
      record { nothing_held = rw is.0 old.nothing_held; nothing_given = rw is.0 old.nothing_given; nothing_put = old.nothing_put; nothing_attached = old.nothing_attached; nothing_handed = old.nothing_handed }
  fresh c s (Lists conn stream flow text ∷ t) legal none =
      let is = unbegun (is_stream conn stream c s) (is_replied c s t) none in
      let old = fresh c s t legal.1 is.1 in
      record { nothing_held = rw is.0 old.nothing_held; nothing_given = rw is.0 old.nothing_given; nothing_put = old.nothing_put; nothing_attached = old.nothing_attached; nothing_handed = old.nothing_handed }
  fresh c s (Attaches channel conn stream flow ∷ t) legal none =
      let is = unbegun (is_stream conn stream c s) (is_replied c s t) none in
      let old = fresh c s t legal.1 is.1 in
      record { nothing_held = rw is.0 old.nothing_held; nothing_given = old.nothing_given; nothing_put = old.nothing_put; nothing_attached = rw is.0 old.nothing_attached; nothing_handed = old.nothing_handed }
  fresh c s (Declines conn stream flow decline ∷ t) legal none =
      let old = fresh c s t legal.1 (unbegun (is_stream conn stream c s) (is_replied c s t) none).1 in
      record { nothing_held = old.nothing_held; nothing_given = old.nothing_given; nothing_put = old.nothing_put; nothing_attached = old.nothing_attached; nothing_handed = old.nothing_handed }
  fresh c s (Hands channel conn stream word ∷ t) legal none = fresh_hands (is_stream conn stream c s) channel conn stream word c s t refl legal.0.idle (fresh c s t legal.1 none)
  fresh c s (Puts conn stream octets ∷ t) legal none = fresh_puts (is_stream conn stream c s) conn stream octets c s t legal.0.there refl legal.0.is_held (fresh c s t legal.1 none)
  fresh c s (Finishes conn stream ∷ t) legal none =
      let old = fresh c s t legal.1 none in
      record { nothing_held = gone_none (is_stream conn stream c s) (held served.replies c s t) old.nothing_held; nothing_given = old.nothing_given; nothing_put = old.nothing_put; nothing_attached = old.nothing_attached; nothing_handed = old.nothing_handed }
  fresh c s (Ends conn stream ∷ t) legal none =
      let old = fresh c s t legal.1 none in
      record { nothing_held = gone_none (is_stream conn stream c s) (held served.replies c s t) old.nothing_held; nothing_given = old.nothing_given; nothing_put = old.nothing_put; nothing_attached = old.nothing_attached; nothing_handed = old.nothing_handed }
  fresh c s (act ∷ t) legal none =
      let old = fresh c s t legal.1 none in
      record { nothing_held = old.nothing_held; nothing_given = old.nothing_given; nothing_put = old.nothing_put; nothing_attached = old.nothing_attached; nothing_handed = old.nothing_handed }

  -- ---- given is what was put and what is held

  abbrev FitsAt : ℕ → ℕ → List Act → Type 0
  FitsAt c s t = Fits (given served.replies c s t) (data_put c s t) (held served.replies c s t)

  -- the stream of an act is the one that is asked of
  moved : (P : ℕ → ℕ → Type 0) (conn stream c s : ℕ) → is_stream conn stream c s ≡ true → P c s → P conn stream
  moved P conn stream c s e is =
      let one = are_one conn stream c s e in
      subst (λ (n : ℕ). P n stream) (sym one.conn_is) (subst (λ (n : ℕ). P c n) (sym one.stream_is) is)

  pub back : (P : ℕ → ℕ → Type 0) (conn stream c s : ℕ) → is_stream conn stream c s ≡ true → P conn stream → P c s
  back P conn stream c s e is =
      let one = are_one conn stream c s e in
      subst (λ (n : ℕ). P n s) one.conn_is (subst (λ (n : ℕ). P conn n) one.stream_is is)

  begins_fits : (g p octets : List ℕ) → g ≡ [] → p ≡ [] → g ++ octets ≡ p ++ octets
  begins_fits g p octets e f = ap (λ (l : List ℕ). l ++ octets) (e ∙ sym f)

  none_fits : (given put : List ℕ) (there : Option Held) → Fits given put there → Fits given put None
  none_fits given put None fits = fits
  none_fits given put (Some there) fits = record { rest = there.unsent; is = fits }

  -- so many of the octets that it holds are put
  put_fits : (given put octets : List ℕ) (there : Held) → Begins octets there.unsent → given ≡ put ++ there.unsent → given ≡ (put ++ octets) ++ drop (length octets) there.unsent
  put_fits given put octets there begins fits =
      fits ∙ (ap (λ (l : List ℕ). put ++ l) begins.is
      ∙ (sym (append_assoc put octets begins.rest)
      ∙ ap (λ (l : List ℕ). (put ++ octets) ++ l) (sym (ap (λ (l : List ℕ). drop (length octets) l) begins.is ∙ drop-append_seam octets begins.rest))))

  takes_fits : (b : Bool) (c s : ℕ) (call : Call) (t : List Act) → is_stream call.conn call.stream c s ≡ b → IsFresh call.conn call.stream t → FitsAt c s t → FitsAt c s (Takes call ∷ t)
  takes_fits true c s call t e new fits =
      let here : IsFresh c s t = back (λ m n. IsFresh m n t) call.conn call.stream c s e new in
      rw e (begins_fits (given served.replies c s t) (data_put c s t) served.replies.taken here.nothing_given here.nothing_put)
  takes_fits false c s call t e new fits = rw e fits

  lists_fits : (b : Bool) (c s conn stream flow : ℕ) (text : List ℕ) (t : List Act) → is_stream conn stream c s ≡ b → IsFresh conn stream t → FitsAt c s t → FitsAt c s (Lists conn stream flow text ∷ t)
  lists_fits true c s conn stream flow text t e new fits =
      let here : IsFresh c s t = back (λ m n. IsFresh m n t) conn stream c s e new in
      rw e (begins_fits (given served.replies c s t) (data_put c s t) text here.nothing_given here.nothing_put)
  lists_fits false c s conn stream flow text t e new fits = rw e fits

  attaches_fits : (b : Bool) (c s channel conn stream flow : ℕ) (t : List Act) → is_stream conn stream c s ≡ b → IsFresh conn stream t → FitsAt c s t → FitsAt c s (Attaches channel conn stream flow ∷ t)
  attaches_fits true c s channel conn stream flow t e new fits =
      let here : IsFresh c s t = back (λ m n. IsFresh m n t) conn stream c s e new in
      rw e (here.nothing_given ∙ sym (append-nil (data_put c s t) ∙ here.nothing_put))
  attaches_fits false c s channel conn stream flow t e new fits = rw e fits

  hands_fits : (b : Bool) (c s channel conn stream : ℕ) (word : Bits) (t : List Act) → is_stream conn stream c s ≡ b → held served.replies conn stream t ≡ Some (record { unsent = []; ends = false }) → FitsAt c s t → FitsAt c s (Hands channel conn stream word ∷ t)
  hands_fits true c s channel conn stream word t e idle fits =
      let here : held served.replies c s t ≡ Some (record { unsent = []; ends = false }) = back (λ m n. held served.replies m n t ≡ Some (record { unsent = []; ends = false })) conn stream c s e idle in
      let all : given served.replies c s t ≡ data_put c s t ++ [] = subst (λ (h : Option Held). Fits (given served.replies c s t) (data_put c s t) h) here fits in
      rw e (ap (λ (l : List ℕ). l ++ served.replies.message channel word) (all ∙ append-nil (data_put c s t)))
  hands_fits false c s channel conn stream word t e idle fits = rw e fits

  puts_fits : (b : Bool) (c s conn stream : ℕ) (octets : List ℕ) (t : List Act) (there : Held) → is_stream conn stream c s ≡ b → held served.replies conn stream t ≡ Some there → Begins octets there.unsent → FitsAt c s t → FitsAt c s (Puts conn stream octets ∷ t)
  puts_fits true c s conn stream octets t there e is begins fits =
      let here : held served.replies c s t ≡ Some there = back (λ m n. held served.replies m n t ≡ Some there) conn stream c s e is in
      let all : given served.replies c s t ≡ data_put c s t ++ there.unsent = subst (λ (h : Option Held). Fits (given served.replies c s t) (data_put c s t) h) here fits in
      simp (e, here) (put_fits (given served.replies c s t) (data_put c s t) octets there begins all)
  puts_fits false c s conn stream octets t there e is begins fits = rw e fits

  gone_fits : (b : Bool) (given put : List ℕ) (there : Option Held) → Fits given put there → Fits given put (cond b None there)
  gone_fits true given put there fits = none_fits given put there fits
  gone_fits false given put there fits = fits

  pub fits : (c s : ℕ) (t : List Act) → IsLegal served t → FitsAt c s t
  fits c s [] legal = record { rest = []; is = refl }
  fits c s (Takes call ∷ t) legal = takes_fits (is_stream call.conn call.stream c s) c s call t refl (fresh call.conn call.stream t legal.1 (unreplied_first call t legal)) (fits c s t legal.1)
  fits c s (Lists conn stream flow text ∷ t) legal = lists_fits (is_stream conn stream c s) c s conn stream flow text t refl (fresh conn stream t legal.1 legal.0.no_reply) (fits c s t legal.1)
  fits c s (Attaches channel conn stream flow ∷ t) legal = attaches_fits (is_stream conn stream c s) c s channel conn stream flow t refl (fresh conn stream t legal.1 legal.0.is_new.no_reply) (fits c s t legal.1)
  fits c s (Hands channel conn stream word ∷ t) legal = hands_fits (is_stream conn stream c s) c s channel conn stream word t refl legal.0.idle (fits c s t legal.1)
  fits c s (Puts conn stream octets ∷ t) legal = puts_fits (is_stream conn stream c s) c s conn stream octets t legal.0.there refl legal.0.is_held legal.0.begins (fits c s t legal.1)
  fits c s (Finishes conn stream ∷ t) legal = gone_fits (is_stream conn stream c s) (given served.replies c s t) (data_put c s t) (held served.replies c s t) (fits c s t legal.1)
  fits c s (Ends conn stream ∷ t) legal = gone_fits (is_stream conn stream c s) (given served.replies c s t) (data_put c s t) (held served.replies c s t) (fits c s t legal.1)
  fits c s (act ∷ t) legal = fits c s t legal.1

  pub put_of_given : (c s : ℕ) (t : List Act) → IsLegal served t → Begins (data_put c s t) (given served.replies c s t)
  put_of_given c s t legal = none_fits (given served.replies c s t) (data_put c s t) (held served.replies c s t) (fits c s t legal)

  -- ---- trailers are put on streams to which a reply was begun, so on those of a list or of a value that was taken

  finishes_by : (b : Bool) (c s conn stream : ℕ) (t : List Act) (there : Held) → is_stream conn stream c s ≡ b → IsLegal served t → held served.replies conn stream t ≡ Some there
      → (is_finished c s t ≡ true → is_replied c s t ≡ true) → cond b true (is_finished c s t) ≡ true → is_replied c s t ≡ true
  finishes_by true c s conn stream t there e legal is rest any = replied_by (is_replied c s t) refl
    where
      replied_by : (r : Bool) → is_replied c s t ≡ r → is_replied c s t ≡ true
      replied_by true f = f
      replied_by false f =
          let here : held served.replies c s t ≡ Some there = back (λ m n. held served.replies m n t ≡ Some there) conn stream c s e is in
          absurd (none_some (held served.replies c s t) there (fresh c s t legal f).nothing_held here)
  finishes_by false c s conn stream t there e legal is rest any = rest any

  one_or : (b rest : Bool) → rest ≡ true → cond b true rest ≡ true
  one_or true rest e = refl
  one_or false rest e = e

  pub finished_replied : (c s : ℕ) (t : List Act) → IsLegal served t → is_finished c s t ≡ true → is_replied c s t ≡ true
  finished_replied c s [] legal any = cc
  finished_replied c s (Takes call ∷ t) legal any = one_or (is_stream call.conn call.stream c s) (is_replied c s t) (finished_replied c s t legal.1 any)
  finished_replied c s (Declines conn stream flow decline ∷ t) legal any = one_or (is_stream conn stream c s) (is_replied c s t) (finished_replied c s t legal.1 any)
  finished_replied c s (Lists conn stream flow text ∷ t) legal any = one_or (is_stream conn stream c s) (is_replied c s t) (finished_replied c s t legal.1 any)
  finished_replied c s (Attaches channel conn stream flow ∷ t) legal any = one_or (is_stream conn stream c s) (is_replied c s t) (finished_replied c s t legal.1 any)
  finished_replied c s (Finishes conn stream ∷ t) legal any =
      finishes_by (is_stream conn stream c s) c s conn stream t (record { unsent = []; ends = true }) refl legal.1 legal.0 (λ e. finished_replied c s t legal.1 e) any
  finished_replied c s (act ∷ t) legal any = finished_replied c s t legal.1 any

  -- so the value of a call whose trailers were put was taken
  pub finished_taken : (c s : ℕ) (t : List Act) → IsLegal served t → list_any (is_of c s) (calls t) ≡ true → is_finished c s t ≡ true → is_taken c s t ≡ true
  finished_taken c s t legal called finished = taken_by (is_taken c s t) refl
    where
      taken_by : (b : Bool) → is_taken c s t ≡ b → is_taken c s t ≡ true
      taken_by true e = e
      taken_by false e = absurd (true≢false (sym (finished_replied c s t legal finished) ∙ unreplied c s t legal called e))
