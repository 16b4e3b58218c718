-- A small grammar, to show what the law says: numbers in brackets with commas between them, as [1,2,3].
use Rattle.std.proofs.Common.{◌≡◌, ℕ, zero, suc, Bool, true, false, List, [], ◌∷◌, ◌++◌, if◌then◌else◌, refl, Result, Ok, Err}
use Rattle.ll1_grammar.specs.Lexemes.{Lexeme, Lexemes}
use Rattle.ll1_grammar.specs.Rule.{Kinds, Rule, Tree, Grammar, ◌⟫◌}
use Rattle.ll1_grammar.specs.Rule.Rule.{empty, one, alt, star}
use Rattle.ll1_grammar.specs.Kinds.{among, is_ll1, first, second}
use Rattle.ll1_grammar.specs.Among.{among_right}
use Rattle.ll1_grammar.specs.declared.refusal.TokenRefusal.{TokenRefusal}
use Rattle.ll1_grammar.specs.WithoutLimits.{no_check}
use Rattle.ll1_grammar.specs.Nested.{no_level}
use Rattle.ll1_grammar.specs.Readers.{Reader, ◌>>=◌, pure, take_token, all_onto, on, read_to_end}
use Rattle.ll1_grammar.specs.Bridge.{Implements, AreReported, reported_so, leaf_by, either, through, take_token_implements, seq_implements, map_implements, alt_implements, star_implements, empty_implements}
use Rattle.ll1_grammar.specs.Simple.{simple, simple_begins_alike, TextIn, StopsIn, text_found, text_only, text_refused}

pub data Token : Type 0 where
  opening : Token
  closing : Token
  comma : Token
  number : ℕ → Token
  finish : Token

abbrev pub kind : Token → ℕ
kind opening = 1
kind closing = 2
kind comma = 3
kind (number n) = 4
kind finish = 0

abbrev pub sample : ℕ → Lexeme Token
sample zero = ((0, 0), finish)
sample (suc zero) = ((0, 0), opening)
sample (suc (suc zero)) = ((0, 0), closing)
sample (suc (suc (suc zero))) = ((0, 0), comma)
sample (suc (suc (suc (suc n)))) = ((0, 0), number 0)

-- 7 where only a number may stand, else 5; 6 at the end
abbrev pub refusal : Kinds → Token → ℕ
refusal ks finish = 6
refusal ks t = if among ks 1 then 5 else (if among ks 2 then 5 else (if among ks 3 then 5 else 7))

abbrev pub lists : Grammar Token
lists = simple kind finish sample refusal

abbrev pub OPEN : ℕ
OPEN = 1

abbrev pub CLOSE : ℕ
CLOSE = 2

abbrev pub COMMA : ℕ
COMMA = 3

abbrev pub NUMBER : ℕ
NUMBER = 4

-- list = "[" [ number { "," number } ] "]"
abbrev pub numbers : Rule
numbers = one (NUMBER ∷ []) ⟫ star (one (COMMA ∷ []) ⟫ one (NUMBER ∷ []))

abbrev pub list : Rule
list = one (OPEN ∷ []) ⟫ alt numbers empty ⟫ one (CLOSE ∷ [])

pub one_token_decides : is_ll1 lists list ≡ true
one_token_decides = refl

abbrev pub value_in : Lexeme Token → ℕ
value_in ((a, b), number n) = n
value_in x = 0

-- the reader, as one would write it; what else may stand there is reported where it changes the number
abbrev pub expect : ℕ → Reader Token ℕ
expect k = take_token lists (k ∷ []) k (λ x. x.0.1)

abbrev pub count : Kinds → Reader Token ℕ
count wanted = take_token lists wanted NUMBER value_in

abbrev pub more : List ℕ → Reader Token (List ℕ)
more front = expect COMMA >>= λ end. count (NUMBER ∷ []) >>= λ n. pure (front ++ n ∷ [])

abbrev pub read_numbers : Reader Token (List ℕ)
read_numbers = count (NUMBER ∷ []) >>= λ n. all_onto lists (COMMA ∷ []) more (n ∷ [])

abbrev pub read_list : Reader Token (List ℕ)
read_list = expect OPEN >>= λ begin. on lists NUMBER read_numbers (pure []) >>= λ ns. expect CLOSE >>= λ end. pure ns

-- the numbers of a tree
abbrev pub numbers_in : Tree Token → List ℕ
numbers_in t = through (λ front w. front ++ leaf_by lists value_in (second w) ∷ []) (leaf_by lists value_in (first t) ∷ []) (second t)

abbrev pub list_in : Tree Token → List ℕ
list_in t = either numbers_in (λ u. []) (first (second t))

-- the whole text's reader
abbrev pub read_text : Lexemes Token → Result (List ℕ) TokenRefusal
read_text ts = read_to_end lists [] (read_list ts)

-- where a closing bracket may stand too, a number is not all that is wanted
not_all : (a b c : Bool) → b ≡ true → ◌≡◌ {A = ℕ} 5 (if a then 5 else (if b then 5 else (if c then 5 else 7)))
not_all true b c e = refl
not_all false true c e = refl
not_all false false c e = absurd (cc)

pub closing_reported : (also : Kinds) → AreReported lists (CLOSE ∷ []) (also ++ CLOSE ∷ [])
closing_reported also = record { same = by_token }
  where
    by_token : (t : Token) → refusal (CLOSE ∷ []) t ≡ refusal (also ++ CLOSE ∷ []) t
    by_token finish = refl
    by_token t = not_all (among (also ++ CLOSE ∷ []) 1) (among (also ++ CLOSE ∷ []) 2) (among (also ++ CLOSE ∷ []) 3) (among_right also (CLOSE ∷ []) 2 refl)

pub more_implements : (front : List ℕ) → Implements lists no_check (no_level lists) (more front) (λ w. front ++ leaf_by lists value_in (second w) ∷ []) (one (COMMA ∷ []) ⟫ one (NUMBER ∷ [])) []
more_implements front =
    seq_implements lists no_check (no_level lists) _ _ (take_token_implements lists no_check (no_level lists) (COMMA ∷ []) [] COMMA (λ x. x.0.1) reported_so refl)
    (λ t. map_implements lists no_check (no_level lists) (λ n. front ++ n ∷ []) (take_token_implements lists no_check (no_level lists) (NUMBER ∷ []) [] NUMBER value_in reported_so refl))

pub numbers_implements : Implements lists no_check (no_level lists) read_numbers numbers_in numbers []
numbers_implements =
    seq_implements lists no_check (no_level lists) _ numbers_in (take_token_implements lists no_check (no_level lists) (NUMBER ∷ []) [] NUMBER value_in reported_so refl)
    (λ t. star_implements lists no_check (no_level lists) (COMMA ∷ []) (leaf_by lists value_in t ∷ []) [] refl (simple_begins_alike kind finish sample refusal (one (COMMA ∷ []) ⟫ one (NUMBER ∷ [])) refl) more_implements)

pub list_implements : Implements lists no_check (no_level lists) read_list list_in list []
list_implements =
    seq_implements lists no_check (no_level lists) _ list_in (take_token_implements lists no_check (no_level lists) (OPEN ∷ []) [] OPEN (λ x. x.0.1) reported_so refl)
    (λ t. seq_implements lists no_check (no_level lists) _ _ (alt_implements lists no_check (no_level lists) NUMBER refl numbers_implements (empty_implements lists no_check (no_level lists) (NUMBER ∷ []) []))
    (λ u. map_implements lists no_check (no_level lists) (λ end. either numbers_in (λ w. []) u) (take_token_implements lists no_check (no_level lists) (CLOSE ∷ []) _ CLOSE (λ x. x.0.1) (closing_reported _) refl)))

-- a reader of a whole list gives the numbers of a list, of each list, and refuses all else where it stops to be one
pub list_found : (ts : Lexemes Token) (ns : List ℕ) → read_text ts ≡ Ok ns → TextIn lists list list_in ts ns
list_found = text_found kind finish sample refusal list refl list_in read_list list_implements [] (λ t. reported_so)

pub list_only : (ts : Lexemes Token) (ns : List ℕ) → TextIn lists list list_in ts ns → read_text ts ≡ Ok ns
list_only = text_only kind finish sample refusal list refl list_in read_list list_implements [] (λ t. reported_so)

pub list_refused : (ts : Lexemes Token) (f : TokenRefusal) → read_text ts ≡ Err f → StopsIn lists list ts f
list_refused = text_refused kind finish sample refusal list refl list_in read_list list_implements [] (λ t. reported_so)
