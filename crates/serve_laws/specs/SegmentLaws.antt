-- What was handed to a stream is a segment of what its channel handed.
use Rattle.std.proofs.Common.{◌≡◌, ℕ, ◌==◌, cond, Bool, true, false, Option, Some, None, List, [], ◌∷◌, ◌++◌, length, refl, ap, sym, ◌∙◌, subst, append_assoc, append-nil, true≢false, eqb-true, eq-eqb, flat_map}
use Rattle.cycle_rules.specs.Circuit.{Bits}
use Rattle.serve_acts.specs.Acts.{Act}
use Rattle.serve_acts.specs.Acts.Act.{Takes, Lists, Attaches, Hands}
use Rattle.serve_acts.specs.Attachments.{Attachment, attachment, newest, handed_on, handed_to}
use Rattle.serve_acts.specs.Legal.{IsLegal, MayHand}
use Rattle.serve_acts.specs.Prefixes.{IsSegment}
use Rattle.serve_acts.specs.Served.{Served}
use Rattle.serve_acts.specs.Streams.{is_stream, given}
use Rattle.serve_acts.specs.declared.call.Call.{Call}
use Rattle.serve_laws.specs.OnceLaws.{AreOne, are_one, itself}
use Rattle.serve_laws.specs.ReplyLaws.{IsFresh, fresh, unreplied_first, back}

pub some_is : {A : Type 0} (x y : A) → Some x ≡ Some y → x ≡ y
some_is x y e = cc

some_none : {A : Type 0} (there : Option A) (x : A) → there ≡ None → there ≡ Some x → ⊥
some_none there x e f = cc

same_stream : (conn stream c s : ℕ) → conn ≡ c → stream ≡ s → is_stream conn stream c s ≡ true
same_stream conn stream c s e f = simp (eq-eqb conn c e, eq-eqb stream s f) refl

-- the attachment of a stream names it
named_by : (b : Bool) (there : Attachment) (c s : ℕ) (rest : Option Attachment) (a : Attachment) → is_stream there.conn there.stream c s ≡ b → cond b (Some there) rest ≡ Some a → (rest ≡ Some a → AreOne a.conn a.stream c s) → AreOne a.conn a.stream c s
named_by true there c s rest a e is others = subst (λ (x : Attachment). AreOne x.conn x.stream c s) (some_is there a is) (are_one there.conn there.stream c s e)
named_by false there c s rest a e is others = others is

pub named : (c s : ℕ) (t : List Act) (a : Attachment) → attachment c s t ≡ Some a → AreOne a.conn a.stream c s
named c s [] a is = cc
named c s (Attaches channel conn stream flow ∷ t) a is =
    named_by (is_stream conn stream c s) (record { channel = channel; conn = conn; stream = stream; first = length (handed_on channel t) }) c s (attachment c s t) a refl is (λ e. named c s t a e)
named c s (act ∷ t) a is = named c s t a is

module _ {S : Type 0} (served : Served S) where
  -- ---- a channel's newest attachment is that of its stream

  pub record IsOwn (k : ℕ) (a : Attachment) (t : List Act) : Type 0 where
    pub is_own : attachment a.conn a.stream t ≡ Some a
    pub channel_is : a.channel ≡ k

  own_by : (b c : Bool) (k channel conn stream flow : ℕ) (t : List Act) (a : Attachment) → (channel == k) ≡ b → is_stream conn stream a.conn a.stream ≡ c
      → IsFresh served conn stream t → (newest k t ≡ Some a → IsOwn k a t) → newest k (Attaches channel conn stream flow ∷ t) ≡ Some a → IsOwn k a (Attaches channel conn stream flow ∷ t)
  own_by true c k channel conn stream flow t a e f new rest is =
      let there : Attachment = record { channel = channel; conn = conn; stream = stream; first = length (handed_on channel t) } in
      subst (λ (x : Attachment). IsOwn k x (Attaches channel conn stream flow ∷ t)) (some_is there a (sym (simp e refl) ∙ is)) (record {
        is_own = simp (itself conn, itself stream) refl;
        channel_is = eqb-true channel k e;
      })
  own_by false true k channel conn stream flow t a e f new rest is =
      let old = rest (sym (simp e refl) ∙ is) in
      absurd (some_none (attachment a.conn a.stream t) a (back served (λ m n. attachment m n t ≡ None) conn stream a.conn a.stream f new.nothing_attached) old.is_own)
  own_by false false k channel conn stream flow t a e f new rest is =
      let old = rest (sym (simp e refl) ∙ is) in
      record { is_own = rw f old.is_own; channel_is = old.channel_is }

  pub own : (k : ℕ) (t : List Act) (a : Attachment) → IsLegal served t → newest k t ≡ Some a → IsOwn k a t
  own k [] a legal is = cc
  own k (Attaches channel conn stream flow ∷ t) a legal is =
      own_by (channel == k) (is_stream conn stream a.conn a.stream) k channel conn stream flow t a refl refl (fresh served conn stream t legal.1 legal.0.is_new.no_reply) (λ e. own k t a legal.1 e) is
  own k (act ∷ t) a legal is = let old = own k t a legal.1 is in record { is_own = old.is_own; channel_is = old.channel_is }

  -- ---- segments

  pub record Segment (c s : ℕ) (a : Attachment) (t : List Act) : Type 0 where
    pub before : List Bits
    pub after : List Bits
    pub is : handed_on a.channel t ≡ before ++ (handed_to c s t ++ after)
    pub place : length before ≡ a.first
    pub last : newest a.channel t ≡ Some a → after ≡ []

  attaches_by : (b : Bool) (c s channel conn stream flow : ℕ) (t : List Act) (a : Attachment) → is_stream conn stream c s ≡ b → IsFresh served conn stream t
      → (attachment c s t ≡ Some a → Segment c s a t) → attachment c s (Attaches channel conn stream flow ∷ t) ≡ Some a → Segment c s a (Attaches channel conn stream flow ∷ t)
  attaches_by true c s channel conn stream flow t a e new rest is =
      let there : Attachment = record { channel = channel; conn = conn; stream = stream; first = length (handed_on channel t) } in
      let none : handed_to c s t ≡ [] = back served (λ m n. handed_to m n t ≡ []) conn stream c s e new.nothing_handed in
      subst (λ (x : Attachment). Segment c s x (Attaches channel conn stream flow ∷ t)) (some_is there a (sym (simp e refl) ∙ is)) (record {
        before = handed_on channel t;
        after = [];
        is = simp (none, append-nil (handed_on channel t)) refl;
        place = refl;
        last = λ f. refl;
      })
  attaches_by false c s channel conn stream flow t a e new rest is =
      let it : attachment c s t ≡ Some a = sym (simp e refl) ∙ is in
      let old = rest it in
      record { before = old.before; after = old.after; is = old.is; place = old.place; last = λ f. last_by (channel == a.channel) refl it old f }
    where
      last_by : (d : Bool) → (channel == a.channel) ≡ d → attachment c s t ≡ Some a → (old : Segment c s a t) → newest a.channel (Attaches channel conn stream flow ∷ t) ≡ Some a → old.after ≡ []
      last_by true g it old f =
          let there : Attachment = record { channel = channel; conn = conn; stream = stream; first = length (handed_on channel t) } in
          let same : there ≡ a = some_is there a (sym (simp g refl) ∙ f) in
          let name = named c s t a it in
          absurd (true≢false (sym (same_stream conn stream c s (ap (λ (x : Attachment). x.conn) same ∙ name.conn_is) (ap (λ (x : Attachment). x.stream) same ∙ name.stream_is)) ∙ e))
      last_by false g it old f = old.last (sym (simp g refl) ∙ f)

  hands_by : (b : Bool) (c s channel conn stream : ℕ) (word : Bits) (t : List Act) (a : Attachment) → is_stream conn stream c s ≡ b → IsLegal served t → MayHand served channel conn stream word t
      → attachment c s t ≡ Some a → Segment c s a t → Segment c s a (Hands channel conn stream word ∷ t)
  hands_by true c s channel conn stream word t a e legal may it old =
      let mine = own channel t may.there legal may.is_newest in
      let one = are_one conn stream c s e in
      let here : attachment c s t ≡ Some may.there =
      subst (λ (n : ℕ). attachment n s t ≡ Some may.there) (may.conn_is ∙ one.conn_is) (subst (λ (n : ℕ). attachment may.there.conn n t ≡ Some may.there) (may.stream_is ∙ one.stream_is) mine.is_own) in
      let same : may.there ≡ a = some_is may.there a (sym here ∙ it) in
      let channel_is : channel ≡ a.channel = sym mine.channel_is ∙ ap (λ (x : Attachment). x.channel) same in
      let none : old.after ≡ [] = old.last (ap (λ (n : ℕ). newest n t) (sym channel_is) ∙ (may.is_newest ∙ ap (λ (x : Attachment). Some x) same)) in
      record {
        before = old.before;
        after = [];
        is = simp (eq-eqb channel a.channel channel_is, e) (ap (λ (l : List Bits). l ++ word ∷ []) (old.is ∙ ap (λ (l : List Bits). old.before ++ (handed_to c s t ++ l)) none)
            ∙ (ap (λ (l : List Bits). (old.before ++ l) ++ word ∷ []) (append-nil (handed_to c s t))
            ∙ (append_assoc old.before (handed_to c s t) (word ∷ []) ∙ ap (λ (l : List Bits). old.before ++ l) (sym (append-nil (handed_to c s t ++ word ∷ []))))));
        place = old.place;
        last = λ f. refl;
      }
  hands_by false c s channel conn stream word t a e legal may it old = other_by (channel == a.channel) refl
    where
      other_by : (d : Bool) → (channel == a.channel) ≡ d → Segment c s a (Hands channel conn stream word ∷ t)
      other_by true g =
          record {
            before = old.before;
            after = old.after ++ word ∷ [];
            is = simp (g, e) (ap (λ (l : List Bits). l ++ word ∷ []) old.is ∙ (append_assoc old.before (handed_to c s t ++ old.after) (word ∷ []) ∙ ap (λ (l : List Bits). old.before ++ l) (append_assoc (handed_to c s t) old.after (word ∷ []))));
            place = old.place;
            last = λ f.
                let same : may.there ≡ a = some_is may.there a (sym may.is_newest ∙ (ap (λ (n : ℕ). newest n t) (eqb-true channel a.channel g) ∙ f)) in
                let name = named c s t a it in
                absurd (true≢false (sym (same_stream conn stream c s (sym may.conn_is ∙ (ap (λ (x : Attachment). x.conn) same ∙ name.conn_is)) (sym may.stream_is ∙ (ap (λ (x : Attachment). x.stream) same ∙ name.stream_is))) ∙ e));
          }
      other_by false g = record { before = old.before; after = old.after; is = simp (g, e) old.is; place = old.place; last = old.last }

  pub segment : (c s : ℕ) (t : List Act) (a : Attachment) → IsLegal served t → attachment c s t ≡ Some a → Segment c s a t
  segment c s [] a legal is = cc
  segment c s (Attaches channel conn stream flow ∷ t) a legal is =
      attaches_by (is_stream conn stream c s) c s channel conn stream flow t a refl (fresh served conn stream t legal.1 legal.0.is_new.no_reply) (λ e. segment c s t a legal.1 e) is
  segment c s (Hands channel conn stream word ∷ t) a legal is = hands_by (is_stream conn stream c s) c s channel conn stream word t a refl legal.1 legal.0 is (segment c s t a legal.1 is)
  segment c s (act ∷ t) a legal is =
      let old = segment c s t a legal.1 is in record { before = old.before; after = old.after; is = old.is; place = old.place; last = old.last }

  pub is_segment : (c s : ℕ) (t : List Act) (a : Attachment) → IsLegal served t → attachment c s t ≡ Some a → IsSegment (handed_on a.channel t) (handed_to c s t) a.first
  is_segment c s t a legal is = let old = segment c s t a legal is in record { before = old.before; after = old.after; is = old.is; place = old.place }

  -- ---- what an attached stream was given are the messages of what was handed to it

  flat_joined : (f : Bits → List ℕ) (words : List Bits) (word : Bits) → flat_map f (words ++ word ∷ []) ≡ flat_map f words ++ f word
  flat_joined f [] word = append-nil (f word)
  flat_joined f (other ∷ words) word = ap (λ (l : List ℕ). f other ++ l) (flat_joined f words word) ∙ sym (append_assoc (f other) (flat_map f words) (f word))

  abbrev GivenIs : ℕ → ℕ → Attachment → List Act → Type 0
  GivenIs c s a t = given served.replies c s t ≡ flat_map (served.replies.message a.channel) (handed_to c s t)

  takes_given : (b : Bool) (c s : ℕ) (call : Call) (t : List Act) (a : Attachment) → is_stream call.conn call.stream c s ≡ b → IsFresh served call.conn call.stream t → attachment c s t ≡ Some a → GivenIs c s a t → GivenIs c s a (Takes call ∷ t)
  takes_given true c s call t a e new is old = absurd (some_none (attachment c s t) a (back served (λ m n. attachment m n t ≡ None) call.conn call.stream c s e new.nothing_attached) is)
  takes_given false c s call t a e new is old = rw e old

  lists_given : (b : Bool) (c s conn stream flow : ℕ) (text : List ℕ) (t : List Act) (a : Attachment) → is_stream conn stream c s ≡ b → IsFresh served conn stream t → attachment c s t ≡ Some a → GivenIs c s a t → GivenIs c s a (Lists conn stream flow text ∷ t)
  lists_given true c s conn stream flow text t a e new is old = absurd (some_none (attachment c s t) a (back served (λ m n. attachment m n t ≡ None) conn stream c s e new.nothing_attached) is)
  lists_given false c s conn stream flow text t a e new is old = rw e old

  attaches_given : (b : Bool) (c s channel conn stream flow : ℕ) (t : List Act) (a : Attachment) → is_stream conn stream c s ≡ b → IsFresh served conn stream t
      → (attachment c s t ≡ Some a → GivenIs c s a t) → attachment c s (Attaches channel conn stream flow ∷ t) ≡ Some a → GivenIs c s a (Attaches channel conn stream flow ∷ t)
  attaches_given true c s channel conn stream flow t a e new rest is =
      let none : handed_to c s t ≡ [] = back served (λ m n. handed_to m n t ≡ []) conn stream c s e new.nothing_handed in
      let nothing : given served.replies c s t ≡ [] = back served (λ m n. given served.replies m n t ≡ []) conn stream c s e new.nothing_given in
      nothing ∙ ap (λ (l : List Bits). flat_map (served.replies.message a.channel) l) (sym none)
  attaches_given false c s channel conn stream flow t a e new rest is = rest (sym (simp e refl) ∙ is)

  hands_given : (b : Bool) (c s channel conn stream : ℕ) (word : Bits) (t : List Act) (a : Attachment) → is_stream conn stream c s ≡ b → IsLegal served t → MayHand served channel conn stream word t
      → attachment c s t ≡ Some a → GivenIs c s a t → GivenIs c s a (Hands channel conn stream word ∷ t)
  hands_given true c s channel conn stream word t a e legal may it old =
      let mine = own channel t may.there legal may.is_newest in
      let one = are_one conn stream c s e in
      let here : attachment c s t ≡ Some may.there =
      subst (λ (n : ℕ). attachment n s t ≡ Some may.there) (may.conn_is ∙ one.conn_is) (subst (λ (n : ℕ). attachment may.there.conn n t ≡ Some may.there) (may.stream_is ∙ one.stream_is) mine.is_own) in
      let channel_is : channel ≡ a.channel = sym mine.channel_is ∙ ap (λ (x : Attachment). x.channel) (some_is may.there a (sym here ∙ it)) in
      rw e (ap (λ (l : List ℕ). l ++ served.replies.message channel word) old
      ∙ (ap (λ (n : ℕ). flat_map (served.replies.message a.channel) (handed_to c s t) ++ served.replies.message n word) channel_is
      ∙ sym (flat_joined (served.replies.message a.channel) (handed_to c s t) word)))
  hands_given false c s channel conn stream word t a e legal may it old = rw e old

  pub given_is : (c s : ℕ) (t : List Act) (a : Attachment) → IsLegal served t → attachment c s t ≡ Some a → given served.replies c s t ≡ flat_map (served.replies.message a.channel) (handed_to c s t)
  given_is c s [] a legal is = cc
  given_is c s (Takes call ∷ t) a legal is = takes_given (is_stream call.conn call.stream c s) c s call t a refl (fresh served call.conn call.stream t legal.1 (unreplied_first served call t legal)) is (given_is c s t a legal.1 is)
  given_is c s (Lists conn stream flow text ∷ t) a legal is = lists_given (is_stream conn stream c s) c s conn stream flow text t a refl (fresh served conn stream t legal.1 legal.0.no_reply) is (given_is c s t a legal.1 is)
  given_is c s (Attaches channel conn stream flow ∷ t) a legal is = attaches_given (is_stream conn stream c s) c s channel conn stream flow t a refl (fresh served conn stream t legal.1 legal.0.is_new.no_reply) (λ e. given_is c s t a legal.1 e) is
  given_is c s (Hands channel conn stream word ∷ t) a legal is = hands_given (is_stream conn stream c s) c s channel conn stream word t a refl legal.1 legal.0 is (given_is c s t a legal.1 is)
  given_is c s (act ∷ t) a legal is = given_is c s t a legal.1 is
