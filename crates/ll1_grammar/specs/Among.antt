-- What membership among kinds and equations of lists give.
use Rattle.std.proofs.Common.{◌≡◌, ℕ, suc, ◌+◌, Bool, true, false, List, [], ◌∷◌, ◌++◌, length, if◌then◌else◌, ◌==◌, ◌&&◌, ◌||◌, not, ◌⊎◌, refl, sym, ap, ◌∙◌, inl, inr, arith, length-append}
use Rattle.ll1_grammar.specs.Rule.{Kinds}
use Rattle.ll1_grammar.specs.Kinds.{among, are_apart, within, is_end, is_no_kind}

pub or_true : (x y : Bool) → (x || y) ≡ true → (x ≡ true) ⊎ (y ≡ true)
or_true true y e = inl refl
or_true false y e = inr e

pub or_none : (x y : Bool) → (x || y) ≡ false → (x ≡ false) × (y ≡ false)
or_none true y e = absurd (cc)
or_none false y e = (refl, e)

pub or_of : (x y : Bool) → x ≡ false → y ≡ false → (x || y) ≡ false
or_of true y d e = d
or_of false y d e = e

pub or_left : (x y : Bool) → x ≡ true → (x || y) ≡ true
or_left true y e = refl
or_left false y e = absurd (cc)

pub or_right : (x y : Bool) → y ≡ true → (x || y) ≡ true
or_right true y e = refl
or_right false y e = e

pub and_true : (x y : Bool) → (x && y) ≡ true → (x ≡ true) × (y ≡ true)
and_true true y e = (refl, e)
and_true false y e = absurd (cc)

pub and_of : (x y : Bool) → x ≡ true → y ≡ true → (x && y) ≡ true
and_of true y d e = e
and_of false y d e = absurd (cc)

pub not_true : (x : Bool) → not x ≡ true → x ≡ false
not_true true e = absurd (cc)
not_true false e = refl

-- what a test gives by each of its outcomes
pub by_true : {A : Type 0} (b : Bool) (x y : A) → b ≡ true → (if b then x else y) ≡ x
by_true true x y e = refl
by_true false x y e = absurd (cc)

pub by_false : {A : Type 0} (b : Bool) (x y : A) → b ≡ false → (if b then x else y) ≡ y
by_false true x y e = absurd (cc)
by_false false x y e = refl

pub either_way : (b : Bool) → (b ≡ true) ⊎ (b ≡ false)
either_way true = inl refl
either_way false = inr refl

pub among_split : (a b : Kinds) (k : ℕ) → among (a ++ b) k ≡ (among a k || among b k)
among_split [] b k = refl
among_split (j ∷ a) b k = go (k == j) (among_split a b k)
  where
    go : (t : Bool) → among (a ++ b) k ≡ (among a k || among b k) → (if t then true else among (a ++ b) k) ≡ ((if t then true else among a k) || among b k)
    go true e = refl
    go false e = e

pub among_either : (a b : Kinds) (k : ℕ) → among (a ++ b) k ≡ true → (among a k ≡ true) ⊎ (among b k ≡ true)
among_either a b k e = or_true (among a k) (among b k) (sym (among_split a b k) ∙ e)

pub among_neither : (a b : Kinds) (k : ℕ) → among (a ++ b) k ≡ false → (among a k ≡ false) × (among b k ≡ false)
among_neither a b k e = or_none (among a k) (among b k) (sym (among_split a b k) ∙ e)

pub among_none : (a b : Kinds) (k : ℕ) → among a k ≡ false → among b k ≡ false → among (a ++ b) k ≡ false
among_none a b k d e = among_split a b k ∙ or_of (among a k) (among b k) d e

pub among_left : (a b : Kinds) (k : ℕ) → among a k ≡ true → among (a ++ b) k ≡ true
among_left a b k e = among_split a b k ∙ or_left (among a k) (among b k) e

pub among_right : (a b : Kinds) (k : ℕ) → among b k ≡ true → among (a ++ b) k ≡ true
among_right a b k e = among_split a b k ∙ or_right (among a k) (among b k) e

-- what is not true is false
pub is_false : (b : Bool) → (b ≡ true → ⊥) → b ≡ false
is_false true h = absurd (h refl)
is_false false h = refl

pub apart : (a b : Kinds) (k : ℕ) → are_apart a b ≡ true → among a k ≡ true → among b k ≡ false
apart [] b k e h = absurd (cc)
apart (j ∷ a) b k e h = go (k == j) refl (and_true _ _ e) (λ p q. apart a b k p q)
  where
    same : (x y : ℕ) → (x == y) ≡ true → x ≡ y
    same x y p = grind arith

    go : (t : Bool) → (k == j) ≡ t → (not (among b j) ≡ true) × (are_apart a b ≡ true) → (are_apart a b ≡ true → among a k ≡ true → among b k ≡ false) → among b k ≡ false
    go true q p again = ap (λ i. among b i) (same k j q) ∙ not_true (among b j) p.0
    go false q p again = again p.1 (sym (by_false (k == j) true (among a k) q) ∙ h)

pub within_in : (ks e : Kinds) (k : ℕ) → among (within ks e) k ≡ true → among e k ≡ true
within_in [] e k h = absurd (cc)
within_in (j ∷ js) e k h = h

pub within_out : (ks e : Kinds) (k : ℕ) → (among e k ≡ true → among ks k ≡ true) → among (within ks e) k ≡ false → among e k ≡ false
within_out [] e k f h = is_false (among e k) (λ p. let q = f p in cc)
within_out (j ∷ js) e k f h = h

pub within_bound : (ks e : Kinds) (k : ℕ) → (among e k ≡ true → among ks k ≡ true) → among (within ks e) k ≡ true → among ks k ≡ true
within_bound ks e k f h = f (within_in ks e k h)

-- a kind among those of a test's first outcome
pub when_in : (b : Bool) (ks : Kinds) (k : ℕ) → among (if b then ks else []) k ≡ true → (b ≡ true) × (among ks k ≡ true)
when_in true ks k e = (refl, e)
when_in false ks k e = absurd (cc)

pub when_out : (b : Bool) (ks : Kinds) (k : ℕ) → among (if b then ks else []) k ≡ false → b ≡ true → among ks k ≡ false
when_out true ks k e d = e
when_out false ks k e d = absurd (cc)

pub when_none : (b : Bool) (ks : Kinds) (k : ℕ) → (b ≡ true → among ks k ≡ false) → among (if b then ks else []) k ≡ false
when_none true ks k f = f refl
when_none false ks k f = refl

pub append_none : {A : Type 0} (a b : List A) → a ++ b ≡ [] → (a ≡ []) × (b ≡ [])
append_none [] b e = (refl, e)
append_none (x ∷ a) b e = absurd (cc)

pub no_lexeme : {A : Type 0} (a : List (((ℕ × ℕ) × A))) → is_end a ≡ true → a ≡ []
no_lexeme [] e = refl
no_lexeme (x ∷ a) e = absurd (cc)

pub length_of : {A : Type 0} {a : List A} (b c : List A) → a ≡ b ++ c → length a ≡ length b + length c
length_of b c e = ap length e ∙ length-append b c

pub no_kind : (ks : Kinds) → is_no_kind ks ≡ true → ks ≡ []
no_kind [] e = refl
no_kind (k ∷ ks) e = absurd (cc)

pub within_of : (ks e : Kinds) (k : ℕ) → among ks k ≡ true → among e k ≡ true → among (within ks e) k ≡ true
within_of [] e k h j = absurd (cc)
within_of (i ∷ is) e k h j = j

pub true_false : (b : Bool) → b ≡ true → b ≡ false → ⊥
true_false b d e = cc

pub within_none : (ks e : Kinds) (k : ℕ) → among e k ≡ false → among (within ks e) k ≡ false
within_none [] e k h = refl
within_none (j ∷ js) e k h = h

pub and_false : (x y : Bool) → y ≡ false → (x && y) ≡ false
and_false true y e = e
and_false false y e = refl

pub no_zero : (n : ℕ) → (suc n == 0) ≡ false
no_zero n = is_false _ (λ e. let d : suc n ≡ 0 = same (suc n) 0 e in omega (arith, d))
  where
    same : (x y : ℕ) → (x == y) ≡ true → x ≡ y
    same x y p = grind arith
