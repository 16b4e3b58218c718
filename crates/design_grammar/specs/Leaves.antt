-- The tokens of a tree, and what its leaves say of them: a token of a keyword's, an operator's or a sign's kind is that
-- one, and one of another kind is what it is worth.
use Rattle.std.proofs.Common.{◌≡◌, ◌==◌, ℕ, Bool, true, false, if◌then◌else◌, List, [], ◌∷◌, ◌++◌, map, nat_lt, nat_le, ◌^◌, refl, sym, ap, ◌∙◌, subst, arith}
use Rattle.std.proofs.lemmas.List.{map-append}
use Rattle.std.specs.Str.{bytes_eq}
use Rattle.std.proofs.lemmas.Slice.Eq.{bytes_eq-Decides}
use Rattle.ll1_grammar.specs.Rule.{Tree}
use Rattle.ll1_grammar.specs.Rule.Rule.{one}
use Rattle.ll1_grammar.specs.Rule.Tree.{pair}
use Rattle.ll1_grammar.specs.Kinds.{among, spell}
use Rattle.ll1_grammar.specs.Trees.{Checks, Fits}
use Rattle.ll1_grammar.specs.Trees.Fits.{fits_one}
use Rattle.ll1_grammar.specs.Bridge.{leaf_by}
use Rattle.design_lex.specs.declared.token.Class.{Class}
use Rattle.design_lex.specs.declared.token.Token.{Token}
use Rattle.design_lex.specs.declared.token.Token.TheVariants.{Word, TypeWord as WidthWord, Number, Sign, Faulty, End}
use Rattle.design_grammar.specs.declared.kind.Kind.{Kind}
use Rattle.design_grammar.specs.declared.kind.Kind.TheVariants as K
use Rattle.design_grammar.specs.Kinds.{code, names, numbers, counts, number_kind, sign_kind, word_kind}
use Rattle.design_grammar.specs.Keywords.{keywords, kind_of_word, signs, kind_of_sign}
use Rattle.design_grammar.specs.Grammar.{kind_code, sample_of, word_in, number_in, width_in, named_in}
use Rattle.design_grammar.specs.Rules.{designs}

-- the tokens of a tree, in order
abbrev pub tokens_in : Tree Token → List Token
tokens_in t = map (λ x. x.1) (spell t)

pub tokens_pair : (a b : Tree Token) → tokens_in (pair a b) ≡ tokens_in a ++ tokens_in b
tokens_pair a b = map-append (λ x. x.1) (spell a) (spell b)

-- ---- kinds that tell the token

-- a token is the one of the kind's number, where that is one of a sign, a keyword or an operator
Tells : Token → Kind → Type 0
Tells x kind = (k : ℕ) → nat_le 6 k ≡ true → code kind ≡ k → x ≡ sample_of k

either_tells : (x : Token) (b : Bool) (here there : Kind) → (b ≡ true → Tells x here) → Tells x there → Tells x (if b then here else there)
either_tells x true here there f g = f refl
either_tells x false here there f g = g

-- a kind with a small number tells nothing
small_tells : (x : Token) (kind : Kind) → nat_le 6 (code kind) ≡ false → Tells x kind
unfolding Tells
small_tells x kind small k h e = absurd (let q : nat_le 6 (code kind) ≡ true = subst (λ n. nat_le 6 n ≡ true) (sym e) h in cc)

-- a word with these octets is the keyword
word_tells : (w s : List ℕ) (kind : Kind) → sample_of (code kind) ≡ Word s → bytes_eq w s ≡ true → Tells (Word w) kind
unfolding Tells
word_tells w s kind sampled same k h e =
    let q : w ≡ s = (bytes_eq-Decides w s).0 same in
    ap (λ z. Word z) q ∙ (sym sampled ∙ ap sample_of e)

sign_tells : (b n : ℕ) (kind : Kind) → sample_of (code kind) ≡ Sign n → (b == n) ≡ true → Tells (Sign b) kind
unfolding Tells
sign_tells b n kind sampled same k h e =
    let q : b ≡ n = grind arith in
    ap (λ z. Sign z) q ∙ (sym sampled ∙ ap sample_of e)

-- each word of a table is the sample of its kind
AreSampled : List (List ℕ × Kind) → Type 0
AreSampled [] = Unit {0}
AreSampled (k ∷ ks) = (sample_of (code k.1) ≡ Word k.0) × AreSampled ks

table_tells : (ks : List (List ℕ × Kind)) (w : List ℕ) → AreSampled ks → Tells (Word w) (kind_of_word ks w)
unfolding AreSampled
table_tells [] w h = small_tells (Word w) K.Name refl
table_tells (k ∷ ks) w h = either_tells (Word w) (bytes_eq w k.0) k.1 _ (word_tells w k.0 k.1 h.0) (table_tells ks w h.1)

keywords_sampled : AreSampled keywords
unfolding AreSampled
keywords_sampled = (refl, (refl, (refl, (refl, (refl, (refl, (refl, (refl, (refl, (refl, (refl, (refl, (refl, (refl, (refl, (refl, (refl, (refl, (refl, (refl, (refl, (refl, (refl, (refl, (refl, (refl, (refl, (refl, (refl, (refl, (refl, (refl, (refl, (refl, (refl, (refl, (refl, (refl, (refl, (refl, (refl, (refl, (refl, (refl, (refl, (refl, tt))))))))))))))))))))))))))))))))))))))))))))))

any_word_tells : (w : List ℕ) → Tells (Word w) (word_kind w)
unfolding word_kind
any_word_tells w = table_tells keywords w keywords_sampled

-- and each sign
AreSampledSigns : List (ℕ × Kind) → Type 0
AreSampledSigns [] = Unit {0}
AreSampledSigns (s ∷ ss) = (sample_of (code s.1) ≡ Sign s.0) × AreSampledSigns ss

signs_tell : (ss : List (ℕ × Kind)) (b : ℕ) → AreSampledSigns ss → Tells (Sign b) (kind_of_sign ss b)
unfolding AreSampledSigns
signs_tell [] b h = small_tells (Sign b) K.Nothing refl
signs_tell (s ∷ ss) b h = either_tells (Sign b) (b == s.0) s.1 _ (sign_tells b s.0 s.1 h.0) (signs_tell ss b h.1)

signs_sampled : AreSampledSigns signs
unfolding AreSampledSigns
signs_sampled = (refl, (refl, (refl, (refl, (refl, (refl, (refl, (refl, (refl, (refl, (refl, (refl, (refl, tt)))))))))))))

any_sign_tells : (b : ℕ) → Tells (Sign b) (sign_kind b)
any_sign_tells b = signs_tell signs b signs_sampled

number_tells : (n : ℕ) → Tells (Number n) (number_kind n)
number_tells n = either_tells (Number n) (n == 1) K.One _ (λ e. small_tells (Number n) K.One refl) (either_tells (Number n) (nat_lt n (2 ^ 32)) K.Small K.Great (λ e. small_tells (Number n) K.Small refl) (small_tells (Number n) K.Great refl))

-- a token of such a kind is the one of that kind
token_of_kind : (x : Token) (k : ℕ) → nat_le 6 k ≡ true → kind_code x ≡ k → x ≡ sample_of k
unfolding Tells
token_of_kind (Word w) k h e = any_word_tells w k h e
token_of_kind (WidthWord class width) k h e = small_tells (WidthWord class width) K.TypeWord refl k h e
token_of_kind (Number n) k h e = number_tells n k h e
token_of_kind (Sign b) k h e = any_sign_tells b k h e
token_of_kind (Faulty f) k h e = small_tells (Faulty f) K.Nothing refl k h e
token_of_kind End k h e = small_tells End K.Nothing refl k h e

one_kind : (k n : ℕ) → among (k ∷ []) n ≡ true → n ≡ k
one_kind k n m = of (n == k) refl m
  where
    of : (b : Bool) → (n == k) ≡ b → (if b then true else false) ≡ true → n ≡ k
    of true e m = grind arith
    of false e m = absurd (cc)

-- ---- tokens of other kinds

-- those of signs are no names, no numbers and no type words
IsSignKind : Kind → Type 0
IsSignKind kind = (among names (code kind) ≡ false) × (among numbers (code kind) ≡ false) × ((code kind == 2) ≡ false)

either_sign : (b : Bool) (here there : Kind) → IsSignKind here → IsSignKind there → IsSignKind (if b then here else there)
either_sign true here there f g = f
either_sign false here there f g = g

AreSignKinds : List (ℕ × Kind) → Type 0
AreSignKinds [] = Unit {0}
AreSignKinds (s ∷ ss) = IsSignKind s.1 × AreSignKinds ss

table_sign_kinds : (ss : List (ℕ × Kind)) (b : ℕ) → AreSignKinds ss → IsSignKind (kind_of_sign ss b)
unfolding AreSignKinds IsSignKind
table_sign_kinds [] b h = (refl, refl, refl)
table_sign_kinds (s ∷ ss) b h = either_sign (b == s.0) s.1 _ h.0 (table_sign_kinds ss b h.1)

sign_kinds : (b : ℕ) → IsSignKind (sign_kind b)
unfolding AreSignKinds IsSignKind
sign_kinds b = table_sign_kinds signs b ((refl, refl, refl), ((refl, refl, refl), ((refl, refl, refl), ((refl, refl, refl), ((refl, refl, refl), ((refl, refl, refl), ((refl, refl, refl), ((refl, refl, refl), ((refl, refl, refl), ((refl, refl, refl), ((refl, refl, refl), ((refl, refl, refl), ((refl, refl, refl), tt)))))))))))))

-- those of numbers are no names and no type words
number_no_name : (n : ℕ) → among names (code (number_kind n)) ≡ false
number_no_name n = of (n == 1) (nat_lt n (2 ^ 32))
  where
    of : (a b : Bool) → among names (code (if a then K.One else (if b then K.Small else K.Great))) ≡ false
    of true b = refl
    of false true = refl
    of false false = refl

number_no_type : (n : ℕ) → (code (number_kind n) == 2) ≡ false
number_no_type n = of (n == 1) (nat_lt n (2 ^ 32))
  where
    of : (a b : Bool) → (code (if a then K.One else (if b then K.Small else K.Great)) == 2) ≡ false
    of true b = refl
    of false true = refl
    of false false = refl

-- those of words are no numbers and no type words
IsWordKind : Kind → Type 0
IsWordKind kind = (among numbers (code kind) ≡ false) × ((code kind == 2) ≡ false)

is_word : (kind : Kind) → among numbers (code kind) ≡ false → (code kind == 2) ≡ false → IsWordKind kind
unfolding IsWordKind
is_word kind no_number no_type = (no_number, no_type)

either_word : (b : Bool) (here there : Kind) → IsWordKind here → IsWordKind there → IsWordKind (if b then here else there)
either_word true here there f g = f
either_word false here there f g = g

AreWordKinds : List (List ℕ × Kind) → Type 0
AreWordKinds [] = Unit {0}
AreWordKinds (k ∷ ks) = IsWordKind k.1 × AreWordKinds ks

table_word_kinds : (ks : List (List ℕ × Kind)) (w : List ℕ) → AreWordKinds ks → IsWordKind (kind_of_word ks w)
unfolding AreWordKinds
table_word_kinds [] w h = is_word K.Name refl refl
table_word_kinds (k ∷ ks) w h = either_word (bytes_eq w k.0) k.1 _ h.0 (table_word_kinds ks w h.1)

any_kinds : (w : List ℕ) → IsWordKind (word_kind w)
unfolding word_kind AreWordKinds IsWordKind
any_kinds w = table_word_kinds keywords w ((refl, refl), ((refl, refl), ((refl, refl), ((refl, refl), ((refl, refl), ((refl, refl), ((refl, refl), ((refl, refl), ((refl, refl), ((refl, refl), ((refl, refl), ((refl, refl), ((refl, refl), ((refl, refl), ((refl, refl), ((refl, refl), ((refl, refl), ((refl, refl), ((refl, refl), ((refl, refl), ((refl, refl), ((refl, refl), ((refl, refl), ((refl, refl), ((refl, refl), ((refl, refl), ((refl, refl), ((refl, refl), ((refl, refl), ((refl, refl), ((refl, refl), ((refl, refl), ((refl, refl), ((refl, refl), ((refl, refl), ((refl, refl), ((refl, refl), ((refl, refl), ((refl, refl), ((refl, refl), ((refl, refl), ((refl, refl), ((refl, refl), ((refl, refl), ((refl, refl), ((refl, refl), tt))))))))))))))))))))))))))))))))))))))))))))))

word_of_name : (x : Token) → among names (kind_code x) ≡ true → x ≡ Word (word_in x)
unfolding IsSignKind
word_of_name (Word w) m = refl
word_of_name (WidthWord class width) m = absurd (cc)
word_of_name (Number n) m = let o = number_no_name n in absurd (cc)
word_of_name (Sign b) m = let o = (sign_kinds b).0 in absurd (cc)
word_of_name (Faulty f) m = absurd (cc)
word_of_name End m = absurd (cc)

plain_is_name : (k : ℕ) → among (code K.Name ∷ []) k ≡ true → among names k ≡ true
plain_is_name k m = of (k == 1) m
  where
    of : (b : Bool) → (if b then true else false) ≡ true → (if b then true else among (50 ∷ 51 ∷ 52 ∷ 53 ∷ 54 ∷ 55 ∷ 56 ∷ 57 ∷ 58 ∷ 59 ∷ 60 ∷ 61 ∷ 62 ∷ 63 ∷ 64 ∷ []) k) ≡ true
    of true m = refl
    of false m = absurd (cc)

number_of_kind : (x : Token) → among numbers (kind_code x) ≡ true → x ≡ Number (number_in x)
unfolding IsSignKind IsWordKind
number_of_kind (Word w) m = let o = (any_kinds w).0 in absurd (cc)
number_of_kind (WidthWord class width) m = absurd (cc)
number_of_kind (Number n) m = refl
number_of_kind (Sign b) m = let o = (sign_kinds b).1 in absurd (cc)
number_of_kind (Faulty f) m = absurd (cc)
number_of_kind End m = absurd (cc)

count_is_number : (k : ℕ) → among counts k ≡ true → among numbers k ≡ true
count_is_number k m = of (k == 3) (k == 4) m
  where
    of : (a b : Bool) → (if a then true else (if b then true else false)) ≡ true → (if a then true else (if b then true else (if k == 5 then true else false))) ≡ true
    of true b m = refl
    of false true m = refl
    of false false m = absurd (cc)

type_word_of_kind : (x : Token) → kind_code x ≡ 2 → x ≡ WidthWord (width_in x).0 (width_in x).1
unfolding IsSignKind IsWordKind
type_word_of_kind (Word w) e = let o = (any_kinds w).1 in absurd (grind arith)
type_word_of_kind (WidthWord class width) e = refl
type_word_of_kind (Number n) e = let o = number_no_type n in absurd (grind arith)
type_word_of_kind (Sign b) e = let o = (sign_kinds b).2 in absurd (grind arith)
type_word_of_kind (Faulty f) e = absurd (cc)
type_word_of_kind End e = absurd (cc)

-- ---- leaves

module _ (check : Checks Token) (called : ℕ → Tree Token → Type 0) where
  -- of a sign, a keyword or an operator
  pub token_written : (k : ℕ) (t : Tree Token) → nat_le 6 k ≡ true → Fits designs check called (one (k ∷ [])) t → tokens_in t ≡ sample_of k ∷ []
  token_written k t h (fits_one {x = x} m) = ap (λ z. z ∷ []) (token_of_kind x.1 k h (one_kind k (kind_code x.1) m))

  -- of a name,
  pub name_written : (t : Tree Token) → Fits designs check called (one names) t → tokens_in t ≡ Word (leaf_by designs named_in t).0 ∷ []
  name_written t (fits_one {x = x} m) = ap (λ z. z ∷ []) (word_of_name x.1 m)

  -- of a name that is no operator, and of an operator
  pub plain_name_written : (t : Tree Token) → Fits designs check called (one (code K.Name ∷ [])) t → tokens_in t ≡ Word (leaf_by designs named_in t).0 ∷ []
  plain_name_written t (fits_one {x = x} m) = ap (λ z. z ∷ []) (word_of_name x.1 (plain_is_name (kind_code x.1) m))

  -- of a number, and of a count
  pub number_written : (t : Tree Token) → Fits designs check called (one numbers) t → tokens_in t ≡ Number (leaf_by {A = ℕ × ℕ} designs (λ x. (number_in x.1, x.0.0)) t).0 ∷ []
  number_written t (fits_one {x = x} m) = ap (λ z. z ∷ []) (number_of_kind x.1 m)

  pub count_written : (t : Tree Token) → Fits designs check called (one counts) t → tokens_in t ≡ Number (leaf_by designs (λ x. number_in x.1) t) ∷ []
  count_written t (fits_one {x = x} m) = ap (λ z. z ∷ []) (number_of_kind x.1 (count_is_number (kind_code x.1) m))

  -- and of a type word
  pub type_word_written : (t : Tree Token) → Fits designs check called (one (code K.TypeWord ∷ [])) t
      → tokens_in t ≡ WidthWord (leaf_by {A = (Class × ℕ) × ℕ} designs (λ x. (width_in x.1, x.0.1)) t).0.0 (leaf_by {A = (Class × ℕ) × ℕ} designs (λ x. (width_in x.1, x.0.1)) t).0.1 ∷ []
  type_word_written t (fits_one {x = x} m) = ap (λ z. z ∷ []) (type_word_of_kind x.1 (one_kind 2 (kind_code x.1) m))
