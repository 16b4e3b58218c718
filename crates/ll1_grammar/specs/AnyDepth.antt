-- The grammar without limits, read to any depth.
use Rattle.std.proofs.Common.{◌≡◌, ℕ, zero, suc, ◌+◌, ◌≤◌, true, arith, refl}
use Rattle.ll1_grammar.specs.Rule.{Rule, Tree, Grammar}
use Rattle.ll1_grammar.specs.Rule.Rule.{seq, alt, star, call, checked}
use Rattle.ll1_grammar.specs.Rule.Tree.{pair, left, right, turn, node, held}
use Rattle.ll1_grammar.specs.Kinds.{among, is_ll1}
use Rattle.ll1_grammar.specs.declared.refusal.TokenRefusal.{TokenRefusal}
use Rattle.ll1_grammar.specs.Trees.{In, Fits}
use Rattle.ll1_grammar.specs.Trees.In.{in_empty, in_one, in_seq, in_left, in_right, in_last, in_turn, in_call, in_checked}
use Rattle.ll1_grammar.specs.Trees.Fits.{fits_empty, fits_one, fits_seq, fits_left, fits_right, fits_last, fits_turn, fits_call, fits_checked}
use Rattle.ll1_grammar.specs.Parse.{Parser, parse}
use Rattle.ll1_grammar.specs.Exact.{IsExact}
use Rattle.ll1_grammar.specs.Ll1.{Calls, seq_ll1, alt_ll1, star_ll1, call_ll1, checked_ll1}
use Rattle.ll1_grammar.specs.KeptLimits.{CallsKeep}
use Rattle.ll1_grammar.specs.WithoutLimits.{no_check}
use Rattle.ll1_grammar.specs.Law.{exact_rule}
use Rattle.ll1_grammar.specs.Nested.{NodeOf, BreaksInside, NoTree, TooDeep, no_level, nested, keep_none, no_level_exact, keep_nested, nested_exact}

module _ {T : Type 0} (g : Grammar T) where
  -- rules called to a depth, with no check
  abbrev pub free : ℕ → ℕ → Parser T
  free zero = no_level g
  free (suc d) = nested g no_check (free d)

  abbrev pub FreeTree : ℕ → ℕ → Tree T → Type 0
  FreeTree zero = NoTree
  FreeTree (suc d) = NodeOf g no_check (FreeTree d)

  abbrev pub FreeBreak : ℕ → ℕ → TokenRefusal → ℕ → Tree T → Type 0
  FreeBreak zero = TooDeep g
  FreeBreak (suc d) = BreaksInside g no_check (FreeBreak d)

-- the tree keeps every limit of depth from this one on
pub record FreeFrom {T : Type 0} (g : Grammar T) (r : Rule) (t : Tree T) : Type 0 where
  pub depth : ℕ
  pub fits : (d : ℕ) → depth ≤ d → Fits g no_check (FreeTree g d) r t

module _ {T : Type 0} (g : Grammar T) (known : Calls g) where
  pub free_keep : (d : ℕ) → CallsKeep g (FreeTree g d) (FreeBreak g d)
  free_keep zero = keep_none g known
  free_keep (suc d) = keep_nested g known no_check (FreeTree g d) (FreeBreak g d) (free_keep d)

  pub free_calls : (d : ℕ) (n : ℕ) → among g.calls n ≡ true → IsExact g no_check (FreeTree g d) (FreeBreak g d) (call n) (free g d n)
  free_calls zero n c = no_level_exact g known no_check n (known.plain n c).0
  free_calls (suc d) n c = nested_exact g known no_check (FreeTree g d) (FreeBreak g d) (free_keep d) no_check (free g d) (free_calls d) n c

  pub free_exact : (d : ℕ) (r : Rule) → is_ll1 g r ≡ true → IsExact g no_check (FreeTree g d) (FreeBreak g d) r (parse g no_check (free g d) r)
  free_exact d r p = exact_rule g known no_check (FreeTree g d) (FreeBreak g d) (free_keep d) (free g d) (free_calls d) r p

  -- each tree of the grammar without limits keeps them if they are set high enough
  pub free_from : {r : Rule} {t : Tree T} → is_ll1 g r ≡ true → In g r t → FreeFrom g r t
  free_from p in_empty = record { depth = 0; fits = λ d l. fits_empty }
  free_from p (in_one m) = record { depth = 0; fits = λ d l. fits_one m }
  free_from p (in_seq {r} {s} {a} {b} h k) = let q = seq_ll1 g r s p in both (free_from q.0 h) (free_from q.1 k)
    where
      both : FreeFrom g r a → FreeFrom g s b → FreeFrom g (seq r s) (pair a b)
      both x y = record { depth = x.depth + y.depth; fits = λ d l. fits_seq (x.fits d (omega arith)) (y.fits d (omega arith)) }
  free_from p (in_left {r} {s} {a} h) = to_left (free_from (alt_ll1 g r s p).0 h)
    where
      to_left : FreeFrom g r a → FreeFrom g (alt r s) (left a)
      to_left x = record { depth = x.depth; fits = λ d l. fits_left (x.fits d l) }
  free_from p (in_right {r} {s} {b} h) = to_right (free_from (alt_ll1 g r s p).1 h)
    where
      to_right : FreeFrom g s b → FreeFrom g (alt r s) (right b)
      to_right x = record { depth = x.depth; fits = λ d l. fits_right (x.fits d l) }
  free_from p in_last = record { depth = 0; fits = λ d l. fits_last }
  free_from p (in_turn {r} {a} {t} h k) = both (free_from (star_ll1 g r p).0 h) (free_from p k)
    where
      both : FreeFrom g r a → FreeFrom g (star r) t → FreeFrom g (star r) (turn a t)
      both x y = record { depth = x.depth + y.depth; fits = λ d l. fits_turn (x.fits d (omega arith)) (y.fits d (omega arith)) }
  free_from p (in_call {n} {t} h) = deeper (free_from (known.plain n (call_ll1 g n p).0).1 h)
    where
      deeper : FreeFrom g (g.body n) t → FreeFrom g (call n) (node t)
      deeper x = record { depth = suc x.depth; fits = at }
        where
          at : (d : ℕ) → suc x.depth ≤ d → Fits g no_check (FreeTree g d) (call n) (node t)
          at zero l = absurd (omega arith)
          at (suc d) l = fits_call (record { inner = t; is = refl; fits = x.fits d (omega arith) })
  free_from p (in_checked {c} {r} {t} h) = hold (free_from (checked_ll1 g c r p).0 h)
    where
      hold : FreeFrom g r t → FreeFrom g (checked c r) (held t)
      hold x = record { depth = x.depth; fits = λ d l. fits_checked (x.fits d l) refl }
