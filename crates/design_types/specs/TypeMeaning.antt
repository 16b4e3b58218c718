-- What the readers of types answer is what the grammar says of the text.
use Rattle.std.proofs.Common.{◌≡◌, ℕ, List, [], ◌∷◌, Result, Ok, Err, refl, sym, ap, ◌∙◌, subst}
use Rattle.ll1_grammar.specs.Lexemes.{Lexemes}
use Rattle.ll1_grammar.specs.Rule.{Tree}
use Rattle.ll1_grammar.specs.Rule.Rule.{call}
use Rattle.ll1_grammar.specs.declared.refusal.TokenRefusal.{TokenRefusal}
use Rattle.ll1_grammar.specs.Trees.{Fits}
use Rattle.ll1_grammar.specs.Trees.Fits.{fits_call}
use Rattle.ll1_grammar.specs.WithoutLimits.{no_check}
use Rattle.ll1_grammar.specs.Nested.{NoTree, TooDeep, no_level}
use Rattle.ll1_grammar.specs.Nesting.{NestingTree}
use Rattle.ll1_grammar.specs.NestingLaws.{all_own, no_base, nesting_readable}
use Rattle.ll1_grammar.specs.WholeTexts.{Readable, IsFrontOf, IsTextOf, front_found, front_only, front_refused, found, only, stops, ok_value}
use Rattle.ll1_grammar.specs.Readers.{Read}
use Rattle.ll1_grammar.specs.Bridge.{AreReported}
use Rattle.design_lex.specs.Tokens.{tokens}
use Rattle.design_lex.specs.declared.token.Token.{Token}
use Rattle.design_grammar.specs.declared.kind.Kind.TheVariants.{Nothing}
use Rattle.design_grammar.specs.Kinds.{code, unwanted}
use Rattle.esi_base.specs.declared.stop.Stop.{Stop}
use Rattle.esi_base.specs.declared.stop.Stop.TheVariants.{Refused, NoMemory}
use Rattle.esi_base.specs.declared.place.Refusal.{Refusal}
use Rattle.esi_base.specs.Answers.{StopsAs, Reads}
use Rattle.design_grammar.specs.Grammar.{AnswersAt}
use Rattle.channel_types.specs.declared.esi_type.EsiType.{EsiType}
use Rattle.channel_types.specs.declared.limits.TheConstants.{OPEN_TYPES}
use Rattle.design_grammar.specs.Rules.{designs}
use Rattle.channel_types.specs.TypeGrammar.{type_check, type_of, Found}
use Rattle.design_grammar.specs.Decided.{designs_calls}
use Rattle.channel_types.specs.TypeAnswers.{IsTypeTree, TypeBreak, IsTypeAt, IsTypeText, refusal_at, StopsToBeType}
use Rattle.design_types.specs.TypeReading.{type_at, without_rest, found_at, whole_text}
use Rattle.design_grammar.specs.Implementing.{reported_alike}
use Rattle.design_types.specs.TypeLaw.{env, type_implements}

all : (d : ℕ) → Readable designs no_check (NestingTree designs all_own type_check (no_level designs) NoTree (TooDeep designs) d) (TypeBreak d) (env d)
all d = nesting_readable designs designs_calls all_own type_check (no_level designs) NoTree (TooDeep designs) (no_base designs designs_calls) d no_check

pub call_in : (d : ℕ) (t : Tree Token) → Fits designs no_check (NestingTree designs all_own type_check (no_level designs) NoTree (TooDeep designs) d) (call 0) t → IsTypeTree d t
call_in d t (fits_call h) = h

-- no other token may stand after a whole type
none_reported : AreReported designs (code Nothing ∷ []) []
unfolding unwanted
none_reported = reported_alike (code Nothing ∷ []) [] (λ k. refl)

-- What stands first, as long as it goes, is this type.
abbrev pub IsTypeFirst : Lexemes Token → Found → Lexemes Token → Type 0
IsTypeFirst = IsFrontOf designs no_check (NestingTree designs all_own type_check (no_level designs) NoTree (TooDeep designs) OPEN_TYPES) (call 0) (type_of OPEN_TYPES)

pub type_found : (ts : Lexemes Token) (a : Found) (rest : Lexemes Token) → type_at OPEN_TYPES ts ≡ Ok (a, rest) → IsTypeFirst ts a rest
type_found = front_found designs no_check _ (TypeBreak OPEN_TYPES) (env OPEN_TYPES) (all OPEN_TYPES) (call 0) refl (type_of OPEN_TYPES) (type_at OPEN_TYPES) (type_implements OPEN_TYPES no_check)

-- What was read at an offset is the type that stands there, each such type is read, and all else is refused where it
-- stops to be one.
front_type_found : (text : List ℕ) (at : ℕ) (a : Found) (rest : Lexemes Token) → type_at OPEN_TYPES (tokens text at) ≡ Ok (a, rest) → IsTypeAt text at a
front_type_found text at a rest e = let o = type_found (tokens text at) a rest e in record { tree = o.tree; rest = rest; fits = call_in OPEN_TYPES o.tree o.fits; parts = o.parts; is = o.is }

front_type_only : (text : List ℕ) (at : ℕ) (a : Found) → (o : IsTypeAt text at a) → type_at OPEN_TYPES (tokens text at) ≡ Ok (a, o.rest)
front_type_only text at a o =
    front_only designs no_check _ (TypeBreak OPEN_TYPES) (env OPEN_TYPES) (all OPEN_TYPES) (call 0) refl (type_of OPEN_TYPES) (type_at OPEN_TYPES) (type_implements OPEN_TYPES no_check) (tokens text at) a o.rest
    (record { tree = o.tree; fits = fits_call o.fits; parts = o.parts; goes_no_further = refl; is = o.is })

front_type_refused : (text : List ℕ) (at : ℕ) (f : TokenRefusal) → type_at OPEN_TYPES (tokens text at) ≡ Err f → StopsToBeType text at (refusal_at text f)
front_type_refused text at f e = record {
  token_refusal = f;
  stops = front_refused designs no_check _ (TypeBreak OPEN_TYPES) (env OPEN_TYPES) (all OPEN_TYPES) (call 0) refl (type_of OPEN_TYPES) (type_at OPEN_TYPES) (type_implements OPEN_TYPES no_check) (tokens text at) f e;
  is_reported = refl;
}

-- The same of a whole text.
pub text_found : (text : List ℕ) (a : Found) → whole_text text ≡ Ok a → IsTypeText text a.0
text_found text a e =
    of (found designs no_check _ (TypeBreak OPEN_TYPES) (env OPEN_TYPES) (all OPEN_TYPES) (call 0) refl (type_of OPEN_TYPES) (type_at OPEN_TYPES) (type_implements OPEN_TYPES no_check) (code Nothing ∷ []) (λ t. none_reported) (tokens text 0) a e)
  where
    of : IsTextOf designs no_check (NestingTree designs all_own type_check (no_level designs) NoTree (TooDeep designs) OPEN_TYPES) (call 0) (type_of OPEN_TYPES) (tokens text 0) a → IsTypeText text a.0
    of o = record { tree = o.tree; fits = call_in OPEN_TYPES o.tree o.text.0; parts = o.text.1; is = ap (λ x. x.0) o.is }

pub text_only : (text : List ℕ) (ty : EsiType) → (o : IsTypeText text ty) → whole_text text ≡ Ok (type_of OPEN_TYPES o.tree)
text_only text ty o =
    only designs no_check _ (TypeBreak OPEN_TYPES) (env OPEN_TYPES) (all OPEN_TYPES) (call 0) refl (type_of OPEN_TYPES) (type_at OPEN_TYPES) (type_implements OPEN_TYPES no_check) (code Nothing ∷ []) (λ t. none_reported) (tokens text 0) (type_of OPEN_TYPES o.tree)
    (record { tree = o.tree; text = (fits_call o.fits, o.parts); is = refl })

pub text_refused : (text : List ℕ) (f : TokenRefusal) → whole_text text ≡ Err f → StopsToBeType text 0 (refusal_at text f)
text_refused text f e = record {
  token_refusal = f;
  stops = stops designs no_check _ (TypeBreak OPEN_TYPES) (env OPEN_TYPES) (all OPEN_TYPES) (call 0) refl (type_of OPEN_TYPES) (type_at OPEN_TYPES) (type_implements OPEN_TYPES no_check) (code Nothing ∷ []) (λ t. none_reported) (tokens text 0) f e;
  is_reported = refl;
}

-- no reader answers twice
one_value : (a b : Found) (x y : Lexemes Token) → let u : Read Token Found = Ok (a, x) in let v : Read Token Found = Ok (b, y) in u ≡ v → a ≡ b
one_value a b x y e = (ok_value a b x y e).0

not_refused : (a : Found) (x : Lexemes Token) (f : TokenRefusal) → let u : Read Token Found = Ok (a, x) in let v : Read Token Found = Err f in u ≡ v → ⊥
not_refused a x f e = cc

one_whole : (a b : Found) → let u : Result Found TokenRefusal = Ok a in let v : Result Found TokenRefusal = Ok b in u ≡ v → a ≡ b
one_whole a b e = cc

not_refused_whole : (a : Found) (f : TokenRefusal) → let u : Result Found TokenRefusal = Ok a in let v : Result Found TokenRefusal = Err f in u ≡ v → ⊥
not_refused_whole a f e = cc

-- so the only type that stands there is the one that was read, and where one is refused none does
front_type_one : (text : List ℕ) (at : ℕ) (a b : Found) (rest : Lexemes Token) → type_at OPEN_TYPES (tokens text at) ≡ Ok (a, rest) → IsTypeAt text at b → a ≡ b
front_type_one text at a b rest e o = one_value a b rest o.rest (sym e ∙ front_type_only text at b o)

front_type_none : (text : List ℕ) (at : ℕ) (f : TokenRefusal) (b : Found) → type_at OPEN_TYPES (tokens text at) ≡ Err f → IsTypeAt text at b → ⊥
front_type_none text at f b e o = not_refused b o.rest f (sym (front_type_only text at b o) ∙ e)

pub text_one : (text : List ℕ) (a : Found) (ty : EsiType) → whole_text text ≡ Ok a → IsTypeText text ty → a.0 ≡ ty
text_one text a ty e o = ap (λ x. x.0) (one_whole a (type_of OPEN_TYPES o.tree) (sym e ∙ text_only text ty o)) ∙ sym o.is

pub text_none : (text : List ℕ) (f : TokenRefusal) (ty : EsiType) → whole_text text ≡ Err f → IsTypeText text ty → ⊥
text_none text f ty e o = not_refused_whole (type_of OPEN_TYPES o.tree) f (sym (text_only text ty o) ∙ e)

-- the same, whatever is left after the type
rest_of : (read : Read Token Found) (a : Found) → without_rest read ≡ Ok a → (rest : Lexemes Token) × (read ≡ Ok (a, rest))
rest_of (Ok x) a e = (x.1, ap (λ b. let y : Read Token Found = Ok (b, x.1) in y) (one_whole x.0 a e))
rest_of (Err f) a e = absurd (not_refused_whole a f (sym e))

refused_by : (read : Read Token Found) (f : TokenRefusal) → without_rest read ≡ Err f → read ≡ Err f
refused_by (Ok x) f e = absurd (not_refused_whole x.0 f e)
refused_by (Err g) f e = cc

pub at_found : (text : List ℕ) (at : ℕ) (a : Found) → found_at text at ≡ Ok a → IsTypeAt text at a
at_found text at a e = let r = rest_of (type_at OPEN_TYPES (tokens text at)) a e in front_type_found text at a r.0 r.1

pub at_refused : (text : List ℕ) (at : ℕ) (f : TokenRefusal) → found_at text at ≡ Err f → StopsToBeType text at (refusal_at text f)
at_refused text at f e = front_type_refused text at f (refused_by (type_at OPEN_TYPES (tokens text at)) f e)

pub at_one : (text : List ℕ) (at : ℕ) (a b : Found) → found_at text at ≡ Ok a → IsTypeAt text at b → a ≡ b
at_one text at a b e o = let r = rest_of (type_at OPEN_TYPES (tokens text at)) a e in front_type_one text at a b r.0 r.1 o

pub at_none : (text : List ℕ) (at : ℕ) (f : TokenRefusal) (b : Found) → found_at text at ≡ Err f → IsTypeAt text at b → ⊥
at_none text at f b e o = front_type_none text at f b (refused_by (type_at OPEN_TYPES (tokens text at)) f e) o

-- what a reader answers means the same without what is left
pub read_without_rest : (read : Read Token Found) (result : Result Found (Stop TokenRefusal)) (new : Lexemes Token) → AnswersAt read result new → Reads (without_rest read) result
read_without_rest read (Ok a) new e = ap without_rest e
read_without_rest read (Err (Refused f)) new e = ap without_rest e
read_without_rest read (Err NoMemory) new e = tt

-- where the code is refused, the meaning is that refusal
pub meant_refused : (meaning : Result Found TokenRefusal) (stop : Stop TokenRefusal) (refusal : TokenRefusal) → StopsAs meaning stop → stop ≡ Refused refusal → meaning ≡ Err refusal
meant_refused meaning stop refusal h e = subst (λ z. StopsAs meaning z) e h

-- an answer that is the only value
pub only_value : {A : Type 0} (x y : A) → x ≡ y → let meaning : Result A Refusal = Ok y in let answer : Result A (Stop Refusal) = Ok x in Reads meaning answer
only_value {A} x y e = ap (λ z. let meaning : Result A Refusal = Ok z in meaning) (sym e)
