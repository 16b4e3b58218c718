-- A do-block is the reader of its rule, seen through the values that it makes of the trees.
use Rattle.std.proofs.Common.{◌≡◌, ℕ, zero, suc, Bool, true, false, List, [], ◌∷◌, ◌++◌, length, if◌then◌else◌, ◌==◌, refl, sym, ap, ◌∙◌, Some, None, Ok, Err, append_assoc, append-nil}
use Rattle.ll1_grammar.specs.Lexemes.{Lexeme, Lexemes, first_place}
use Rattle.ll1_grammar.specs.Rule.{Kinds, Rule, Tree, Grammar}
use Rattle.ll1_grammar.specs.Rule.Rule.{empty, one, seq, alt, star, checked}
use Rattle.ll1_grammar.specs.Rule.Tree.{leaf, pair, left, right, last, turn}
use Rattle.ll1_grammar.specs.Kinds.{among, spell, inside, by_side, first_token, first_kind, first_set, behind}
use Rattle.ll1_grammar.specs.Trees.{Checks}
use Rattle.ll1_grammar.specs.Parse.{ParseStop, Answer, Parser, refusal_of, wrap, go_on, turns, parse, checked_by}
use Rattle.ll1_grammar.specs.Among.{by_false, no_zero}
use Rattle.ll1_grammar.specs.Readers.{Read, Reader, and_then, ◌>>=◌, pure, refused, take_token, take_any_token, on, on_any, onto, all_onto, checked_at, checking}

-- what a reader of trees answers, seen through the value of the tree
abbrev pub read_of : {T A : Type 0} → Grammar T → (Tree T → A) → Answer T → Read T A
read_of g f (Ok x) = Ok (f x.0, x.1)
read_of g f (Err h) = Err (refusal_of g h)

-- The values of trees, by total functions.
abbrev pub lexeme_of : {T : Type 0} → Grammar T → Tree T → Lexeme T
lexeme_of g (leaf x) = x
lexeme_of g t = ((0, 0), g.at_end)

abbrev pub leaf_by : {T A : Type 0} → Grammar T → (Lexeme T → A) → Tree T → A
leaf_by g view t = view (lexeme_of g t)

abbrev pub either : {T A : Type 0} → (Tree T → A) → (Tree T → A) → Tree T → A
either f h t = by_side (f (inside t)) (h (inside t)) t

-- a value carried through the turns
abbrev pub through : {T S : Type 0} → (S → Tree T → S) → S → Tree T → S
through f s (turn a t) = through f (f s a) t
through f s t = s

abbrev pub items : {T A : Type 0} → (Tree T → A) → Tree T → List A
items f (turn a t) = f a ∷ items f t
items f t = []

pub through_items : {T A : Type 0} (f : Tree T → A) (s : List A) (t : Tree T) → through (λ s a. s ++ f a ∷ []) s t ≡ s ++ items f t
through_items f s (turn a t) = through_items f (s ++ f a ∷ []) t ∙ append_assoc s (f a ∷ []) (items f t)
through_items f s t = sym (append-nil s)

-- The two lists of kinds give the same number with each token.
pub record AreReported {T : Type 0} (g : Grammar T) (ks js : Kinds) : Type 0 where
  pub same : (x : T) → g.refusal ks x ≡ g.refusal js x

pub reported_so : {T : Type 0} {g : Grammar T} {ks : Kinds} → AreReported g ks ks
reported_so = record { same = λ x. refl }

pub read_of_wrap : {T A : Type 0} (g : Grammar T) (f : Tree T → A) (w : Tree T → Tree T) (x : Answer T) → read_of g f (wrap w x) ≡ read_of g (λ t. f (w t)) x
read_of_wrap g f w (Ok x) = refl
read_of_wrap g f w (Err h) = refl

-- The do-block reads what the rule's reader does, and has the value of its tree; the kinds are those that else may
-- stand where it begins.
pub record Implements {T A : Type 0} (g : Grammar T) (check : Checks T) (env : ℕ → Parser T) (read : Reader T A) (value : Tree T → A) (r : Rule) (also : Kinds) : Type 0 where
  pub at : (ts : Lexemes T) → read ts ≡ read_of g value (parse g check env r also ts)

module _ {T : Type 0} (g : Grammar T) (check : Checks T) (env : ℕ → Parser T) where
  -- one token of a kind that is not that of the end
  pub take_token_implements : {A : Type 0} (wanted also : Kinds) (k : ℕ) (view : Lexeme T → A) → AreReported g wanted (also ++ k ∷ []) → (g.kind g.at_end == k) ≡ false
      → Implements g check env (take_token g wanted k view) (leaf_by g view) (one (k ∷ [])) also
  unfolding take_token
  take_token_implements wanted also k view reported no_end = record { at = each }
    where
      at_end : (b : Bool) → b ≡ false → (if b then Ok (view ((0, 0), g.at_end), []) else Err (refused g wanted [])) ≡ read_of g (leaf_by g view) (Err (ParseStop.unwanted (also ++ k ∷ []) []))
      at_end true e = absurd (cc)
      at_end false e = ap (λ n. Err (record { number = n; at = None })) (reported.same g.at_end)

      at_token : (x : Lexeme T) (xs : Lexemes T) (b : Bool) → (if b then Ok (view x, xs) else Err (refused g wanted (x ∷ xs)))
          ≡ read_of g (leaf_by g view) (if (if b then true else false) then Ok (leaf x, xs) else Err (ParseStop.unwanted (also ++ k ∷ []) (x ∷ xs)))
      at_token x xs true = refl
      at_token x xs false = ap (λ n. Err (record { number = n; at = Some x.0.0 })) (reported.same x.1)

      each : (ts : Lexemes T) → take_token g wanted k view ts ≡ read_of g (leaf_by g view) (parse g check env (one (k ∷ [])) also ts)
      each [] = at_end (g.kind g.at_end == k) no_end
      each (x ∷ xs) = at_token x xs (g.kind x.1 == k)

  -- one token of several kinds
  pub take_any_implements : {A : Type 0} (wanted also ks : Kinds) (view : Lexeme T → A) → AreReported g wanted (also ++ ks) → among ks (g.kind g.at_end) ≡ false
      → Implements g check env (take_any_token g wanted ks view) (leaf_by g view) (one ks) also
  unfolding take_any_token
  take_any_implements wanted also ks view reported no_end = record { at = each }
    where
      at_end : (b : Bool) → b ≡ false → (if b then Ok (view ((0, 0), g.at_end), []) else Err (refused g wanted [])) ≡ read_of g (leaf_by g view) (Err (ParseStop.unwanted (also ++ ks) []))
      at_end true e = absurd (cc)
      at_end false e = ap (λ n. Err (record { number = n; at = None })) (reported.same g.at_end)

      at_token : (x : Lexeme T) (xs : Lexemes T) (b : Bool) → (if b then Ok (view x, xs) else Err (refused g wanted (x ∷ xs)))
          ≡ read_of g (leaf_by g view) (if b then Ok (leaf x, xs) else Err (ParseStop.unwanted (also ++ ks) (x ∷ xs)))
      at_token x xs true = refl
      at_token x xs false = ap (λ n. Err (record { number = n; at = Some x.0.0 })) (reported.same x.1)

      each : (ts : Lexemes T) → take_any_token g wanted ks view ts ≡ read_of g (leaf_by g view) (parse g check env (one ks) also ts)
      each [] = at_end (among ks (g.kind g.at_end)) no_end
      each (x ∷ xs) = at_token x xs (among ks (g.kind x.1))

  pub empty_implements : {A : Type 0} (also : Kinds) (a : A) → Implements g check env (pure a) (λ t. a) empty also
  empty_implements also a = record { at = λ ts. refl }

  -- the last of a do-block, and what is made of it
  pub map_implements : {A B : Type 0} {r : Rule} {also : Kinds} {p : Reader T A} {f : Tree T → A} (h : A → B) → Implements g check env p f r also → Implements g check env (p >>= λ a. pure (h a)) (λ t. h (f t)) r also
  map_implements {r = r} {also = also} {f = f} h e = record { at = λ ts. ap (λ x. and_then x (λ a. pure (h a))) (e.at ts) ∙ of (parse g check env r also ts) }
    where
      of : (x : Answer T) → and_then (read_of g f x) (λ a. pure (h a)) ≡ read_of g (λ t. h (f t)) x
      of (Ok x) = refl
      of (Err j) = refl

  -- one reader behind another
  pub seq_implements : {A B : Type 0} {r s : Rule} {also : Kinds} {p : Reader T A} {fa : Tree T → A} (k : A → Reader T B) (f : Tree T → B) → Implements g check env p fa r also
      → ((t : Tree T) → Implements g check env (k (fa t)) (λ u. f (pair t u)) s (behind g r t also)) → Implements g check env (p >>= k) f (seq r s) also
  seq_implements {r = r} {s = s} {also = also} {fa = fa} k f e d = record { at = λ ts. ap (λ x. and_then x k) (e.at ts) ∙ of (parse g check env r also ts) }
    where
      of : (x : Answer T) → and_then (read_of g fa x) k ≡ read_of g f (go_on x (λ a us. wrap (pair a) (parse g check env s (behind g r a also) us)))
      of (Ok x) = (d x.0).at x.1 ∙ sym (read_of_wrap g f (pair x.0) (parse g check env s (behind g r x.0 also) x.1))
      of (Err j) = refl

  -- two ways, reported by the kinds with which the first begins
  pub any_implements : {A : Type 0} {r s : Rule} {also : Kinds} {p q : Reader T A} {f h : Tree T → A} → Implements g check env p f r also → Implements g check env q h s (first_set g r ++ also)
      → Implements g check env (on_any g (first_set g r) p q) (either f h) (alt r s) also
  any_implements {r = r} {s = s} {also = also} {p = p} {q = q} {f = f} {h = h} e d = record { at = λ ts. of ts (among (first_set g r) (first_kind g ts)) }
    where
      of : (ts : Lexemes T) (b : Bool) → (if b then p ts else q ts) ≡ read_of g (either f h) (if b then wrap left (parse g check env r also ts) else wrap right (parse g check env s (first_set g r ++ also) ts))
      of ts true = e.at ts ∙ sym (read_of_wrap g (either f h) left (parse g check env r also ts))
      of ts false = d.at ts ∙ sym (read_of_wrap g (either f h) right (parse g check env s (first_set g r ++ also) ts))

  -- where one kind tells the first from the second
  pub alt_implements : {A : Type 0} {r s : Rule} {also : Kinds} {p q : Reader T A} {f h : Tree T → A} (k : ℕ) → first_set g r ≡ k ∷ [] → Implements g check env p f r also → Implements g check env q h s (first_set g r ++ also)
      → Implements g check env (on g k p q) (either f h) (alt r s) also
  alt_implements {r = r} {p = p} {q = q} k one_kind e d = record {
    at = λ ts. of ts (g.kind (first_token g ts) == k) ∙ (ap (λ z. if among z (first_kind g ts) then p ts else q ts) (sym one_kind) ∙ (any_implements e d).at ts);
  }
    where
      of : (ts : Lexemes T) (b : Bool) → (if b then p ts else q ts) ≡ (if (if b then true else false) then p ts else q ts)
      of ts true = refl
      of ts false = refl

  -- a repetition: each step is reported by the kinds with which it begins
  onto_implements : {S : Type 0} (r : Rule) (step : S → Reader T S) (f : S → Tree T → S)
      → ((s : S) (also : Kinds) (ts : Lexemes T) → among (first_set g r) (first_kind g ts) ≡ true → step s ts ≡ read_of g (f s) (parse g check env r also ts))
      → (n : ℕ) (s : S) (also : Kinds) (ts : Lexemes T) → onto g (first_set g r) step n s ts ≡ read_of g (through f s) (turns g r (parse g check env r) n also ts)
  unfolding onto
  onto_implements r step f e zero s also ts = refl
  onto_implements {S = S} r step f e (suc n) s also ts = of (among (first_set g r) (first_kind g ts)) refl (λ u more us. onto_implements r step f e n u more us)
    where
      of_step : (x : Answer T) → ((u : S) (more : Kinds) (us : Lexemes T) → onto g (first_set g r) step n u us ≡ read_of g (through f u) (turns g r (parse g check env r) n more us))
          → and_then (read_of g (f s) x) (onto g (first_set g r) step n) ≡ read_of g (through f s) (go_on x (λ a us. wrap (turn a) (turns g r (parse g check env r) n (behind g r a also) us)))
      of_step (Ok x) again = again (f s x.0) (behind g r x.0 also) x.1 ∙ sym (read_of_wrap g (through f s) (turn x.0) (turns g r (parse g check env r) n (behind g r x.0 also) x.1))
      of_step (Err h) again = refl

      of : (b : Bool) → among (first_set g r) (first_kind g ts) ≡ b
          → ((u : S) (more : Kinds) (us : Lexemes T) → onto g (first_set g r) step n u us ≡ read_of g (through f u) (turns g r (parse g check env r) n more us))
          → (if b then and_then (step s ts) (onto g (first_set g r) step n) else Ok (s, ts))
          ≡ read_of g (through f s) (if b then go_on (parse g check env r also ts) (λ a us. wrap (turn a) (turns g r (parse g check env r) n (behind g r a also) us)) else Ok (last, ts))
      of true d again = ap (λ z. and_then z (onto g (first_set g r) step n)) (e s also ts d) ∙ of_step (parse g check env r also ts) again
      of false d again = refl

  -- `begun` says that what else may stand there matters to no step that begins: parse_begun
  pub star_implements : {S : Type 0} {r : Rule} {step : S → Reader T S} {f : S → Tree T → S} (ks : Kinds) (s : S) (also : Kinds) → first_set g r ≡ ks
      → ((more : Kinds) (ts : Lexemes T) → among (first_set g r) (first_kind g ts) ≡ true → parse g check env r more ts ≡ parse g check env r [] ts)
      → ((s : S) → Implements g check env (step s) (f s) r []) → Implements g check env (all_onto g ks step s) (through f s) (star r) also
  star_implements {r = r} {step = step} {f = f} ks s also kinds begun e = record {
    at = λ ts. ap (λ z. onto g z step (length ts) s ts) (sym kinds)
        ∙ onto_implements r step f (λ u more us m. (e u).at us ∙ ap (λ z. read_of g (f u) z) (sym (begun more us m))) (length ts) s also ts;
  }

  -- what was read and checked; the tree's first lexeme is the first that was there
  pub checked_implements : {A : Type 0} {r : Rule} {also : Kinds} {p : Reader T A} {f : Tree T → A} (c : ℕ) (number : A → ℕ) → Implements g check env p f r also → ((t : Tree T) → check c t ≡ number (f t))
      → ((ts : Lexemes T) (t : Tree T) (us : Lexemes T) → parse g check env r also ts ≡ Ok (t, us) → first_place ts ≡ first_place (spell t))
      → Implements g check env (checking number p) (λ t. f (inside t)) (checked c r) also
  checked_implements {r = r} {also = also} {f = f} c number e same place = record {
    at = λ ts. ap (λ x. and_then x (checked_at number (first_place ts))) (e.at ts) ∙ of ts (parse g check env r also ts) refl;
  }
    where
      by_number : (ts : Lexemes T) (n : ℕ) (t : Tree T) (us : Lexemes T) → number (f t) ≡ n → first_place ts ≡ first_place (spell t)
          → (if n == 0 then Ok (f t, us) else Err (record { number = n; at = first_place ts })) ≡ read_of g (λ t. f (inside t)) (checked_by n t us)
      by_number ts zero t us d q = refl
      by_number ts (suc n) t us d q = by_false (suc n == 0) _ _ (no_zero n) ∙ ap (λ z. Err (record { number = suc n; at = z })) q

      of : (ts : Lexemes T) (x : Answer T) → parse g check env r also ts ≡ x → and_then (read_of g f x) (checked_at number (first_place ts)) ≡ read_of g (λ t. f (inside t)) (go_on x (λ t us. checked_by (check c t) t us))
      of ts (Ok x) d =
          by_number ts (number (f x.0)) x.0 x.1 refl (place ts x.0 x.1 d) ∙ ap (λ n. read_of g (λ t. f (inside t)) (checked_by n x.0 x.1)) (sym (same x.0))
      of ts (Err h) d = refl
