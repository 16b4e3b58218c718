-- Laws of machines that read bits one by one.
use Rattle.std.specs.Prelude.{ℕ, ◌≡◌, Bool, true, false, if◌then◌else◌, nat_lt, ◌==◌, List, [], ◌∷◌, ◌++◌, Option, Some, None, refl}
use Rattle.std.proofs.Common.{sym, ◌∙◌, ap, subst, append_assoc}
use Rattle.std.proofs.lemmas.Bool.{false≢true, eqb-true}
use Rattle.hpack_huffman.specs.Decoding.{Turn, inner, symbol, on_turn, onto, walk}

-- What is read from a node on, after what was read up to it.
abbrev pub joined : {N M : Type 0} → Option (List ℕ × N) → (N → Option (List ℕ × M)) → Option (List ℕ × M)
joined None more = None
joined (Some read) more = onto read.0 (more read.1)

pub onto-none : {N : Type 0} (read : Option (List ℕ × N)) → onto [] read ≡ read
onto-none None = refl
onto-none (Some read) = refl

pub onto-onto : {N : Type 0} (front more : List ℕ) (read : Option (List ℕ × N)) → onto front (onto more read) ≡ onto (front ++ more) read
onto-onto front more None = refl
onto-onto front more (Some read) = ap (λ symbols. Some (symbols, read.1)) (sym (append_assoc front more read.0))

pub joined-onto : {N M : Type 0} (front : List ℕ) (read : Option (List ℕ × N)) (more : N → Option (List ℕ × M)) → joined (onto front read) more ≡ onto front (joined read more)
joined-onto front None more = refl
joined-onto front (Some read) more = sym (onto-onto front read.0 (more read.1))

module _ {N : Type 0} (root : N) (step : N → Bool → Turn N) where
  symbol_joined : (read : Option (List ℕ × N)) (more : N → Option (List ℕ × N)) (s : ℕ) (b : Bool) → (if b then onto (s ∷ []) (joined read more) else None) ≡ joined (if b then onto (s ∷ []) read else None) more
  symbol_joined read more s true = sym (joined-onto (s ∷ []) read more)
  symbol_joined read more s false = refl

  turned : (bits more : List Bool) → ((next : N) → walk root step next (bits ++ more) ≡ joined (walk root step next bits) (λ node. walk root step node more)) → (turn : Turn N)
      → on_turn (λ next. walk root step next (bits ++ more)) (λ s. if nat_lt s 256 then onto (s ∷ []) (walk root step root (bits ++ more)) else None) turn
      ≡ joined (on_turn (λ next. walk root step next bits) (λ s. if nat_lt s 256 then onto (s ∷ []) (walk root step root bits) else None) turn) (λ node. walk root step node more)
  turned bits more each (inner next) = each next
  turned bits more each (symbol s) =
      ap (λ read. if nat_lt s 256 then onto (s ∷ []) read else None) (each root)
      ∙ symbol_joined (walk root step root bits) (λ node. walk root step node more) s (nat_lt s 256)

  -- Bits are read one part after the other.
  pub walk-append : (bits more : List Bool) (node : N) → walk root step node (bits ++ more) ≡ joined (walk root step node bits) (λ next. walk root step next more)
  walk-append [] more node = sym (onto-none (walk root step node more))
  walk-append (bit ∷ bits) more node = turned bits more (λ next. walk-append bits more next) (step node bit)

  -- The node at the end of what is read.
  abbrev pub EndsWith : (N → Type 0) → Option (List ℕ × N) → Type 0
  EndsWith P None = Unit {0}
  EndsWith P (Some read) = P read.1

  abbrev pub TurnKeeps : (N → Type 0) → Turn N → Type 0
  TurnKeeps P (inner next) = P next
  TurnKeeps P (symbol s) = Unit {0}

  onto_keeps : (P : N → Type 0) (s : ℕ) (read : Option (List ℕ × N)) (b : Bool) → EndsWith P read → EndsWith P (if b then onto (s ∷ []) read else None)
  onto_keeps P s None true h = tt
  onto_keeps P s None false h = tt
  onto_keeps P s (Some read) true h = h
  onto_keeps P s (Some read) false h = tt

  turn_keeps_end : (P : N → Type 0) (bits : List Bool) → ((next : N) → P next → EndsWith P (walk root step next bits)) → P root → (turn : Turn N) → TurnKeeps P turn
      → EndsWith P (on_turn (λ next. walk root step next bits) (λ s. if nat_lt s 256 then onto (s ∷ []) (walk root step root bits) else None) turn)
  turn_keeps_end P bits each start (inner next) h = each next h
  turn_keeps_end P bits each start (symbol s) h = onto_keeps P s (walk root step root bits) (nat_lt s 256) (each root start)

  -- What each step keeps holds at the end.
  pub walk_keeps : (P : N → Type 0) → P root → ((node : N) (bit : Bool) → P node → TurnKeeps P (step node bit)) → (bits : List Bool) (node : N) → P node → EndsWith P (walk root step node bits)
  walk_keeps P start each [] node h = h
  walk_keeps P start each (bit ∷ bits) node h = turn_keeps_end P bits (λ next. walk_keeps P start each bits next) start (step node bit) (each node bit h)

  -- Reading a word leads to its symbol, at its last bit.
  abbrev pub lands : ℕ → N → List Bool → Bool
  lands s node [] = false
  lands s node (bit ∷ []) = on_turn (λ next. false) (λ t. t == s) (step node bit)
  lands s node (bit ∷ (more ∷ bits)) = on_turn (λ next. lands s next (more ∷ bits)) (λ t. false) (step node bit)

  landed_turn : (s : ℕ) (rest : List Bool) (turn : Turn N) → on_turn (λ next. false) (λ t. t == s) turn ≡ true
      → on_turn (λ next. walk root step next rest) (λ t. if nat_lt t 256 then onto (t ∷ []) (walk root step root rest) else None) turn ≡ (if nat_lt s 256 then onto (s ∷ []) (walk root step root rest) else None)
  landed_turn s rest (inner next) h = absurd (false≢true h)
  landed_turn s rest (symbol t) h = ap (λ u. if nat_lt u 256 then onto (u ∷ []) (walk root step root rest) else None) (eqb-true t s h)

  further_turn : (s : ℕ) (word rest : List Bool) (goal : Option (List ℕ × N)) → ((next : N) → lands s next word ≡ true → walk root step next (word ++ rest) ≡ goal) → (turn : Turn N)
      → on_turn (λ next. lands s next word) (λ t. false) turn ≡ true
      → on_turn (λ next. walk root step next (word ++ rest)) (λ t. if nat_lt t 256 then onto (t ∷ []) (walk root step root (word ++ rest)) else None) turn ≡ goal
  further_turn s word rest goal each (inner next) h = each next h
  further_turn s word rest goal each (symbol t) h = absurd (false≢true h)

  pub walk_word : (s : ℕ) (word rest : List Bool) (node : N) → lands s node word ≡ true → walk root step node (word ++ rest) ≡ (if nat_lt s 256 then onto (s ∷ []) (walk root step root rest) else None)
  walk_word s [] rest node h = absurd (false≢true h)
  walk_word s (bit ∷ []) rest node h = landed_turn s rest (step node bit) h
  walk_word s (bit ∷ (more ∷ word)) rest node h =
      further_turn s (more ∷ word) rest (if nat_lt s 256 then onto (s ∷ []) (walk root step root rest) else None) (λ next. walk_word s (more ∷ word) rest next) (step node bit) h

-- Two machines, of which one does what the other does.
module _ {N M : Type 0} (R : N → M → Type 0) where
  abbrev pub TurnsAgree : Turn N → Turn M → Type 0
  TurnsAgree (inner n) (inner m) = R n m
  TurnsAgree (inner n) (symbol t) = ⊥
  TurnsAgree (symbol s) (inner m) = ⊥
  TurnsAgree (symbol s) (symbol t) = s ≡ t

  abbrev pub ReadsAgree : Option (List ℕ × N) → Option (List ℕ × M) → Type 0
  ReadsAgree None None = Unit {0}
  ReadsAgree None (Some there) = ⊥
  ReadsAgree (Some here) None = ⊥
  ReadsAgree (Some here) (Some there) = (here.0 ≡ there.0) × R here.1 there.1

  agree_onto : (s : ℕ) (here : Option (List ℕ × N)) (there : Option (List ℕ × M)) (b : Bool) → ReadsAgree here there → ReadsAgree (if b then onto (s ∷ []) here else None) (if b then onto (s ∷ []) there else None)
  agree_onto s None None true h = tt
  agree_onto s None None false h = tt
  agree_onto s None (Some there) b h = absurd h
  agree_onto s (Some here) None b h = absurd h
  agree_onto s (Some here) (Some there) true h = (ap (λ symbols. s ∷ symbols) h.0, h.1)
  agree_onto s (Some here) (Some there) false h = tt

  agree_turn : (f : N → Option (List ℕ × N)) (g : M → Option (List ℕ × M)) (here : Option (List ℕ × N)) (there : Option (List ℕ × M)) → ((n : N) (m : M) → R n m → ReadsAgree (f n) (g m)) → ReadsAgree here there
      → (turn : Turn N) (other : Turn M) → TurnsAgree turn other
      → ReadsAgree (on_turn f (λ s. if nat_lt s 256 then onto (s ∷ []) here else None) turn) (on_turn g (λ s. if nat_lt s 256 then onto (s ∷ []) there else None) other)
  agree_turn f g here there each both (inner n) (inner m) h = each n m h
  agree_turn f g here there each both (inner n) (symbol t) h = absurd h
  agree_turn f g here there each both (symbol s) (inner m) h = absurd h
  agree_turn f g here there each both (symbol s) (symbol t) h =
      subst (λ u. ReadsAgree (if nat_lt s 256 then onto (s ∷ []) here else None) (if nat_lt u 256 then onto (u ∷ []) there else None)) h (agree_onto s here there (nat_lt s 256) both)

  pub walks_agree : (root : N) (other : M) (step : N → Bool → Turn N) (step' : M → Bool → Turn M) → R root other → ((n : N) (m : M) (bit : Bool) → R n m → TurnsAgree (step n bit) (step' m bit))
      → (bits : List Bool) (n : N) (m : M) → R n m → ReadsAgree (walk root step n bits) (walk other step' m bits)
  walks_agree root other step step' start each [] n m h = (refl, h)
  walks_agree root other step step' start each (bit ∷ bits) n m h =
      agree_turn (λ next. walk root step next bits) (λ next. walk other step' next bits) (walk root step root bits) (walk other step' other bits)
      (λ n' m' h'. walks_agree root other step step' start each bits n' m' h')
      (walks_agree root other step step' start each bits root other start)
      (step n bit) (step' m bit) (each n m bit h)
