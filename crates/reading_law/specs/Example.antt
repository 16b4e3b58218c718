-- A reader whose second step depends on what the first one read: a number that is not 0, and the same number again.
use Rattle.std.proofs.Common.{◌≡◌, ℕ, ◌<◌, zero, suc, Bool, true, false, eqb, [], ◌∷◌, Option, Some, None, Result, Ok, Err, refl, sym, ◌∙◌, ap, subst, arith, inl, inr}
use Rattle.std.proofs.lemmas.Bool.{eqb-true, eq-eqb, ne_eqb}
use Rattle.ll1_grammar.specs.Lexemes.{Lexeme, Lexemes}
use Rattle.ll1_grammar.specs.Readers.{Reader, ◌>>=◌}
use Rattle.ll1_grammar.specs.declared.refusal.TokenRefusal.{TokenRefusal}
use Rattle.reading_law.specs.Chained.{exact_chain}
use Rattle.reading_law.specs.Combined.{token, to_end, toks, Writes, Views, Chain}
use Rattle.reading_law.specs.Exact.{Form, anything, Exact}
use Rattle.reading_law.specs.Judged.{answers, exact_as}
use Rattle.reading_law.specs.OneToken.{exact_token}
use Rattle.reading_law.specs.WholeTexts.{Refused, found, only, refused}

-- a number that is not 0, which stands for the end
abbrev pub some_number : ℕ → Option ℕ
some_number zero = None
some_number (suc k) = Some (suc k)

-- that number, and no other
abbrev if_same : Bool → ℕ → Option ℕ
if_same true n = Some n
if_same false n = None

abbrev pub same_number : ℕ → ℕ → Option ℕ
same_number n t = if_same (eqb t n) n

-- the end is refused by rule 2, a token by rule 1
abbrev pub rule_of : ℕ → ℕ
rule_of zero = 2
rule_of (suc k) = 1

abbrev pub pair : Reader ℕ ℕ
pair = token 0 rule_of some_number >>= λ n. token 0 rule_of (same_number n)

abbrev pub read_pair : Lexemes ℕ → Result ℕ TokenRefusal
read_pair ts = to_end rule_of (pair ts)

-- no rule is told before the token that breaks it
abbrev pub never : ℕ → Bool
never number = false

abbrev pub IsNumber : ℕ → Type 0
IsNumber n = 0 < n

-- two tokens, which are one number
abbrev pub IsPair : ℕ → Lexemes ℕ → Type 0
IsPair n w = Writes IsNumber (λ k. k ∷ k ∷ []) n w

-- What is read is a pair, each pair is read, and all else is refused at the first token with which no pair goes on.
abbrev pub Found : Type 0
Found = (ts : Lexemes ℕ) (n : ℕ) → read_pair ts ≡ Ok n → IsPair n ts

abbrev pub Only : Type 0
Only = (ts : Lexemes ℕ) (n : ℕ) → IsPair n ts → read_pair ts ≡ Ok n

abbrev pub AllElse : Type 0
AllElse = (ts : Lexemes ℕ) (f : TokenRefusal) → read_pair ts ≡ Err f → Refused never IsPair IsPair ts f

some_views : Views some_number IsNumber (λ k. k)
some_views = record { there = is_there; back = is_back }
  where
    is_there : (t a : ℕ) → some_number t ≡ Some a → (t ≡ a) × IsNumber a
    is_there zero a e = absurd (cc)
    is_there (suc k) a e = let same : suc k ≡ a = cc in (same, subst (λ z. 0 < z) same (omega arith))

    is_back : (a : ℕ) → IsNumber a → some_number a ≡ Some a
    is_back zero h = absurd (omega arith)
    is_back (suc k) h = refl

same_views : (n : ℕ) → Views (same_number n) (λ b. b ≡ n) (λ k. k)
same_views n = record { there = is_there; back = λ a h. rw (eq-eqb a n h) (ap Some (sym h)) }
  where
    is_there : (t a : ℕ) → same_number n t ≡ Some a → (t ≡ a) × (a ≡ n)
    is_there t a e = elim (answers (eqb t n)) [
      | inl s ↦ (let is : same_number n t ≡ Some n = rw s refl in let same : n ≡ a = some_is n a (sym is ∙ e) in (eqb-true t n s ∙ same, sym same))
      | inr s ↦ absurd (let is : same_number n t ≡ None = rw s refl in none_no_some a (sym is ∙ e))
    ]
      where
        some_is : (x y : ℕ) → let r : Option ℕ = Some x in let s : Option ℕ = Some y in r ≡ s → x ≡ y
        some_is x y e = cc

        none_no_some : (y : ℕ) → let r : Option ℕ = None in let s : Option ℕ = Some y in r ≡ s → ⊥
        none_no_some y e = cc

abbrev First : Form ℕ ℕ
First = Writes IsNumber (λ k. k ∷ [])

abbrev Second : ℕ → Form ℕ ℕ
Second n = Writes (λ b. b ≡ n) (λ k. k ∷ [])

exact_second : (n : ℕ) → IsNumber n → Exact never (token 0 rule_of (same_number n)) (Second n) (Second n) anything
exact_second n h =
    let no : eqb 0 n ≡ false = ne_eqb 0 n (λ e. omega (arith, e, h)) in
    exact_token never 0 rule_of (same_number n) (λ b. b ≡ n) (λ b. b ≡ n) (λ k. k) (same_views n) (rw no refl) (λ a g. g) n refl

one_token : (w : Lexemes ℕ) (n : ℕ) → toks w ≡ n ∷ [] → (x : Lexeme ℕ) × (w ≡ x ∷ []) × (x.1 ≡ n)
one_token [] n e = absurd (cc)
one_token (x ∷ []) n e = (x, refl, cc)
one_token (x ∷ y ∷ w) n e = absurd (cc)

to_pair : (n : ℕ) (w : Lexemes ℕ) → Chain First Second n w → IsPair n w
to_pair n w c =
    let a = one_token c.front c.first c.one.tokens in
    let b = one_token c.behind n c.two.tokens in
    let same : n ≡ c.first = c.two.keeps in
    record {
      keeps = subst IsNumber (sym same) c.one.keeps;
      tokens = ap toks c.is ∙ rw (a.1, b.1) (let e : a.0.1 ∷ b.0.1 ∷ [] ≡ n ∷ n ∷ [] = rw (a.2, b.2, sym same) refl in e);
    }

from_pair : (n : ℕ) (w : Lexemes ℕ) → IsPair n w → Chain First Second n w
from_pair n [] h = absurd (let e : [] ≡ n ∷ n ∷ [] = h.tokens in cc)
from_pair n (x ∷ []) h = absurd (let e : x.1 ∷ [] ≡ n ∷ n ∷ [] = h.tokens in cc)
from_pair n (x ∷ y ∷ z ∷ w) h = absurd (let e : x.1 ∷ y.1 ∷ z.1 ∷ toks w ≡ n ∷ n ∷ [] = h.tokens in cc)
from_pair n (x ∷ y ∷ []) h =
    let e : x.1 ∷ y.1 ∷ [] ≡ n ∷ n ∷ [] = h.tokens in
    let one : x.1 ≡ n = cc in
    let two : y.1 ≡ n = cc in
    record { first = n; front = x ∷ []; behind = y ∷ []; is = refl; one = record { keeps = h.keeps; tokens = ap (λ k. k ∷ []) one }; two = record { keeps = refl; tokens = ap (λ k. k ∷ []) two } }

exact_pair : Exact never pair IsPair IsPair anything
exact_pair =
    exact_as IsPair IsPair
    (exact_chain never (token 0 rule_of some_number) (λ n. token 0 rule_of (same_number n)) First First Second Second anything anything
    (exact_token never 0 rule_of some_number IsNumber IsNumber (λ k. k) some_views refl (λ a h. h) 1 (omega arith))
    (λ n w h. exact_second n h.keeps)
    (λ n w h. record { value = n; text = ((0, 0), n) ∷ []; is = record { keeps = refl; tokens = refl } })
    (λ n w us b v f g s. refl)
    (λ n w h b v g. g))
    to_pair from_pair to_pair

pub pairs_found : Found
pairs_found ts n e = found never rule_of pair IsPair IsPair anything exact_pair refl ts n e

pub pairs_only : Only
pairs_only ts n h = only never rule_of pair IsPair IsPair anything exact_pair refl ts n h

pub pairs_refused : AllElse
pairs_refused ts f e = refused never rule_of pair IsPair IsPair anything exact_pair refl ts f e
