-- Grammars that call no rule and ask no check: there every text keeps the limits, and the law is said without them.
use Rattle.std.proofs.Common.{◌≡◌, ℕ, ◌<◌, true, false, [], ◌++◌, length, refl, Ok, Err}
use Rattle.ll1_grammar.specs.Lexemes.{Lexeme, Lexemes}
use Rattle.ll1_grammar.specs.Rule.{Kinds, Rule, Tree, Grammar}
use Rattle.ll1_grammar.specs.Rule.Rule.{empty}
use Rattle.ll1_grammar.specs.Kinds.{among, spell, first_kind, may_be_empty, first_set, follow_of, is_ll1}
use Rattle.ll1_grammar.specs.declared.refusal.TokenRefusal.{TokenRefusal}
use Rattle.ll1_grammar.specs.Trees.{In, Fits, Breaks}
use Rattle.ll1_grammar.specs.Trees.In.{in_empty, in_one, in_seq, in_left, in_right, in_last, in_turn, in_call, in_checked}
use Rattle.ll1_grammar.specs.Trees.Fits.{fits_empty, fits_one, fits_seq, fits_left, fits_right, fits_last, fits_turn, fits_checked}
use Rattle.ll1_grammar.specs.Trees.Breaks.{in_first, in_second, on_left, on_right, in_this_turn, in_later_turn, by_call, within_checked, by_check}
use Rattle.ll1_grammar.specs.Parse.{parse}
use Rattle.ll1_grammar.specs.Ll1.{Calls, seq_ll1, alt_ll1, star_ll1, call_ll1, checked_ll1}
use Rattle.ll1_grammar.specs.WithoutLimits.{no_check}
use Rattle.ll1_grammar.specs.KeptLimits.{weak}
use Rattle.ll1_grammar.specs.Nested.{NoTree, TooDeep, no_level, keep_none}
use Rattle.ll1_grammar.specs.Readers.{Reader, refused, read_to_end}
use Rattle.ll1_grammar.specs.Bridge.{Implements, AreReported}
use Rattle.ll1_grammar.specs.Texts.{NoneGoesOn, AllThatCome, BeginsText, Why, StopsAt}
use Rattle.ll1_grammar.specs.Texts.Why.{no_text, past_limit}
use Rattle.ll1_grammar.specs.WholeTexts.{Readable, begins_alike, IsTextOf, found, only, stops, front_shorter}

-- what a grammar without calls knows of its tokens
abbrev pub simple : {T : Type 0} → (T → ℕ) → T → (ℕ → Lexeme T) → (Kinds → T → ℕ) → Grammar T
simple kind at_end sample refusal = record {
  kind = kind;
  at_end = at_end;
  sample = sample;
  calls = [];
  body = λ n. empty;
  first_set = λ n. [];
  follow_set = λ n. [];
  follow_of = λ n t. [];
  refusal = refusal;
  limit = λ n. 0;
}

-- The lexemes are a text of the rule, and the value is that of its tree.
pub record TextIn {T A : Type 0} (g : Grammar T) (r : Rule) (value : Tree T → A) (ts : Lexemes T) (a : A) : Type 0 where
  pub tree : Tree T
  pub fits : In g r tree
  pub spelled : ts ≡ spell tree
  pub is : a ≡ value tree

-- The lexemes are the front of a text of the rule.
pub record FrontIn {T : Type 0} (g : Grammar T) (r : Rule) (front : Lexemes T) : Type 0 where
  pub tree : Tree T
  pub more : Lexemes T
  pub fits : In g r tree
  pub spelled : spell tree ≡ front ++ more

-- The text is refused at the first lexeme with which no text of the rule goes on, or at the end where none ends so:
-- by all the kinds that may come there and the token that does, at the token.
pub record StopsIn {T : Type 0} (g : Grammar T) (r : Rule) (ts : Lexemes T) (f : TokenRefusal) : Type 0 where
  pub front : Lexemes T
  pub rest : Lexemes T
  pub parts : ts ≡ front ++ rest
  pub begins : FrontIn g r front
  pub none : NoneGoesOn g r front rest
  pub kinds : Kinds
  pub come : AllThatCome g r front kinds
  pub reported : f ≡ refused g kinds rest

module _ {T : Type 0} (kind : T → ℕ) (at_end : T) (sample : ℕ → Lexeme T) (refusal : Kinds → T → ℕ) where
  abbrev g : Grammar T
  g = simple kind at_end sample refusal

  none_called : (n : ℕ) → among g.calls n ≡ true → ⊥
  none_called n e = cc

  simple_calls : Calls g
  simple_calls = record {
    plain = λ n c. absurd (none_called n c);
    full = λ n c. absurd (none_called n c);
    begin = λ n c. absurd (none_called n c);
    end = λ n t k c. absurd (none_called n c);
    bound = λ n t k m. m;
    text = λ n c. absurd (none_called n c);
    may_begin = λ n x c m. absurd (none_called n c);
  }

  pub simple_readable : Readable g no_check NoTree (TooDeep g) (no_level g)
  simple_readable = record {
    known = simple_calls;
    keep = keep_none g simple_calls;
    exact = λ n c. absurd (none_called n c);
    depth = 0;
    agree = λ d l n c also ts m. absurd (none_called n c);
    begun = λ n c also reported ts m. absurd (none_called n c);
  }

  -- what else may stand there matters to no text that begins
  pub simple_begins_alike : (r : Rule) → is_ll1 g r ≡ true → (also : Kinds) (ts : Lexemes T) → among (first_set g r) (first_kind g ts) ≡ true
      → parse g no_check (no_level g) r also ts ≡ parse g no_check (no_level g) r [] ts
  simple_begins_alike r p also ts m = begins_alike g no_check NoTree (TooDeep g) (no_level g) simple_readable r p also ts m

  -- a reader of a rule of which no text is empty takes lexemes away
  pub simple_shorter : {A : Type 0} (r : Rule) → is_ll1 g r ≡ true → may_be_empty g r ≡ false → (value : Tree T → A) (read : Reader T A) → Implements g no_check (no_level g) read value r []
      → (ts : Lexemes T) (a : A) (rest : Lexemes T) → read ts ≡ Ok (a, rest) → length rest < length ts
  simple_shorter r p n value read sees ts a rest e = front_shorter g no_check NoTree (TooDeep g) (no_level g) simple_readable r p value read sees n ts a rest e

  -- every text of the grammar keeps the limits
  pub simple_fits : {r : Rule} {t : Tree T} → is_ll1 g r ≡ true → In g r t → Fits g no_check NoTree r t
  simple_fits p in_empty = fits_empty
  simple_fits p (in_one m) = fits_one m
  simple_fits p (in_seq {r} {s} h k) = let q = seq_ll1 g r s p in fits_seq (simple_fits q.0 h) (simple_fits q.1 k)
  simple_fits p (in_left {r} {s} h) = fits_left (simple_fits (alt_ll1 g r s p).0 h)
  simple_fits p (in_right {r} {s} h) = fits_right (simple_fits (alt_ll1 g r s p).1 h)
  simple_fits p in_last = fits_last
  simple_fits p (in_turn {r} h k) = fits_turn (simple_fits (star_ll1 g r p).0 h) (simple_fits p k)
  simple_fits p (in_call {n} h) = absurd (none_called n (call_ll1 g n p).0)
  simple_fits p (in_checked {c} {r} h) = fits_checked (simple_fits (checked_ll1 g c r p).0 h) refl

  never_breaks : {r : Rule} {f : TokenRefusal} {i : ℕ} {t : Tree T} → is_ll1 g r ≡ true → Breaks no_check (TooDeep g) r f i t → ⊥
  never_breaks p (in_first {r} {s} b) = never_breaks (seq_ll1 g r s p).0 b
  never_breaks p (in_second {r} {s} j e b) = never_breaks (seq_ll1 g r s p).1 b
  never_breaks p (on_left {r} {s} b) = never_breaks (alt_ll1 g r s p).0 b
  never_breaks p (on_right {r} {s} b) = never_breaks (alt_ll1 g r s p).1 b
  never_breaks p (in_this_turn {r} b) = never_breaks (star_ll1 g r p).0 b
  never_breaks p (in_later_turn {r} j e b) = never_breaks p b
  never_breaks p (by_call {n} b) = none_called n (call_ll1 g n p).0
  never_breaks p (within_checked {c} {r} b) = never_breaks (checked_ll1 g c r p).0 b
  never_breaks p (by_check e n q) = n refl

  module _ {A : Type 0} (r : Rule) (p : is_ll1 g r ≡ true) (value : Tree T → A) (read : Reader T A) (sees : Implements g no_check (no_level g) read value r [])
      (wanted : Kinds) (reported : (t : Tree T) → AreReported g wanted (follow_of g r t)) where
    -- a reader of a whole text: its value is that of the text,
    pub text_found : (ts : Lexemes T) (a : A) → read_to_end g wanted (read ts) ≡ Ok a → TextIn g r value ts a
    text_found ts a e = of (found g no_check NoTree (TooDeep g) (no_level g) simple_readable r p value read sees wanted reported ts a e)
      where
        of : IsTextOf g no_check NoTree r value ts a → TextIn g r value ts a
        of o = record { tree = o.tree; fits = weak g no_check NoTree (TooDeep g) (keep_none g simple_calls) o.text.0; spelled = o.text.1; is = o.is }

    -- it reads each,
    pub text_only : (ts : Lexemes T) (a : A) → TextIn g r value ts a → read_to_end g wanted (read ts) ≡ Ok a
    text_only ts a o =
        only g no_check NoTree (TooDeep g) (no_level g) simple_readable r p value read sees wanted reported ts a (record { tree = o.tree; text = (simple_fits p o.fits, o.spelled); is = o.is })

    -- and refuses all else where it stops to be one
    pub text_refused : (ts : Lexemes T) (f : TokenRefusal) → read_to_end g wanted (read ts) ≡ Err f → StopsIn g r ts f
    text_refused ts f e = of (stops g no_check NoTree (TooDeep g) (no_level g) simple_readable r p value read sees wanted reported ts f e)
      where
        by : (front rest : Lexemes T) → ts ≡ front ++ rest → BeginsText g no_check (TooDeep g) r front → Why g no_check (TooDeep g) r front rest f → StopsIn g r ts f
        by front rest d b (no_text ks come none is) = record {
          front = front;
          rest = rest;
          parts = d;
          begins = record { tree = b.tree; more = b.more; fits = b.fits; spelled = b.spelled };
          none = none;
          kinds = ks;
          come = come;
          reported = is;
        }
        by front rest d b (past_limit x others s o) = absurd (never_breaks p o.breaks)

        of : StopsAt g no_check (TooDeep g) r ts f → StopsIn g r ts f
        of o = by o.front o.rest o.parts o.begins o.why
