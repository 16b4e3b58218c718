-- Loops of code against `onto`: what was read so far and what is left, against the whole.
use Rattle.std.proofs.Common.{◌≡◌, ℕ, zero, suc, ◌<◌, ◌≤◌, true, false, [], ◌∷◌, length, ◌==◌, arith, refl, sym, ap, ◌∙◌, subst, le_refl, Result, Ok, Err}
use Rattle.ll1_grammar.specs.Lexemes.{Lexemes}
use Rattle.ll1_grammar.specs.Rule.{Kinds, Grammar}
use Rattle.ll1_grammar.specs.Kinds.{among, first_token}
use Rattle.ll1_grammar.specs.declared.refusal.TokenRefusal.{TokenRefusal}
use Rattle.ll1_grammar.specs.Among.{by_true, by_false, true_false}
use Rattle.ll1_grammar.specs.Readers.{Read, Reader, and_then, ◌>>=◌, onto, all_onto}
use Rattle.esi_base.specs.Answers.{StopsAs, ReadsAs}
use Rattle.esi_base.specs.declared.stop.Stop.{Stop}
use Rattle.esi_base.specs.declared.stop.Stop.TheVariants.{Refused, NoMemory}

-- The loop's invariant: to read on from here, with what was read so far, is to read all.
pub record Turning {T S : Type 0} (g : Grammar T) (ks : Kinds) (step : S → Reader T S) (s₀ : S) (ts₀ : Lexemes T) (s : S) (ts : Lexemes T) : Type 0 where
  pub count : ℕ
  pub enough : length ts ≤ count
  pub same : all_onto g ks step s₀ ts₀ ≡ onto g ks step count s ts

-- a test of one kind, as code makes it
pub is_of_kind : (k n : ℕ) → n ≡ k → among (k ∷ []) n ≡ true
is_of_kind k n e = by_true (n == k) true false (grind arith)

-- what a function answers that fails
pub reads_err : {T A : Type 0} (read : Read T A) (result : Result A (Stop TokenRefusal)) (stop : Stop TokenRefusal) (new : Lexemes T) → result ≡ Err stop → StopsAs read stop → ReadsAs (λ value. value) read result new
reads_err read result stop new d h = subst (λ z. ReadsAs (λ value. value) read z new) (sym d) h

module _ {T S : Type 0} (g : Grammar T) (ks : Kinds) (step : S → Reader T S) where
  no_turn : (n : ℕ) (s : S) (ts : Lexemes T) → among ks (g.kind (first_token g ts)) ≡ false → onto g ks step n s ts ≡ Ok (s, ts)
  unfolding onto
  no_turn zero s ts m = refl
  no_turn (suc n) s ts m = by_false _ _ _ m

  a_turn : (n : ℕ) (s : S) (ts : Lexemes T) → among ks (g.kind (first_token g ts)) ≡ true → onto g ks step (suc n) s ts ≡ and_then (step s ts) (onto g ks step n)
  unfolding onto
  a_turn n s ts m = by_true _ _ _ m

  pub turning_begun : (s : S) (ts : Lexemes T) → Turning g ks step s ts s ts
  turning_begun s ts = record { count = length ts; enough = le_refl _; same = refl }

  -- no step begins here: all was read
  pub turning_ended : (s₀ s : S) (ts₀ ts : Lexemes T) → Turning g ks step s₀ ts₀ s ts → among ks (g.kind (first_token g ts)) ≡ false → all_onto g ks step s₀ ts₀ ≡ Ok (s, ts)
  turning_ended s₀ s ts₀ ts t m = t.same ∙ no_turn t.count s ts m

  module _ (no_end : among ks (g.kind g.at_end) ≡ false) where
    some_left : (ts : Lexemes T) → among ks (g.kind (first_token g ts)) ≡ true → 1 ≤ length ts
    some_left [] m = absurd (true_false _ m no_end)
    some_left (x ∷ xs) m = omega arith

    -- a step that fails
    pub turning_fails : (s₀ s : S) (ts₀ ts : Lexemes T) (stop : Stop TokenRefusal) → Turning g ks step s₀ ts₀ s ts → among ks (g.kind (first_token g ts)) ≡ true → StopsAs (step s ts) stop
        → StopsAs (all_onto g ks step s₀ ts₀) stop
    turning_fails s₀ s ts₀ ts NoMemory t m e = tt
    turning_fails s₀ s ts₀ ts (Refused f) t m e = of t.count t.enough t.same
      where
        of : (n : ℕ) → length ts ≤ n → all_onto g ks step s₀ ts₀ ≡ onto g ks step n s ts → all_onto g ks step s₀ ts₀ ≡ Err f
        of zero l q = absurd (let k = some_left ts m in omega arith)
        of (suc n) l q = q ∙ (a_turn n s ts m ∙ ap (λ z. and_then z (onto g ks step n)) e)

    -- a step that is made, and takes lexemes away
    pub turning_more : (s₀ s u : S) (ts₀ ts us : Lexemes T) → Turning g ks step s₀ ts₀ s ts → among ks (g.kind (first_token g ts)) ≡ true → step s ts ≡ Ok (u, us) → length us < length ts
        → Turning g ks step s₀ ts₀ u us
    turning_more s₀ s u ts₀ ts us t m e less = of t.count t.enough t.same
      where
        of : (n : ℕ) → length ts ≤ n → all_onto g ks step s₀ ts₀ ≡ onto g ks step n s ts → Turning g ks step s₀ ts₀ u us
        of zero l q = absurd (let k = some_left ts m in omega arith)
        of (suc n) l q = record { count = n; enough = omega arith; same = q ∙ (a_turn n s ts m ∙ ap (λ z. and_then z (onto g ks step n)) e) }
