-- A tree that keeps the limits is one of the grammar without limits, and breaks none.
use Rattle.std.proofs.Common.{ℕ}
use Rattle.ll1_grammar.specs.Rule.{Rule, Tree, Grammar}
use Rattle.ll1_grammar.specs.Rule.Rule.{call}
use Rattle.ll1_grammar.specs.declared.refusal.TokenRefusal.{TokenRefusal}
use Rattle.ll1_grammar.specs.Trees.{Checks, In, Fits, Breaks}
use Rattle.ll1_grammar.specs.Trees.In.{in_empty, in_one, in_seq, in_left, in_right, in_last, in_turn, in_checked}
use Rattle.ll1_grammar.specs.Trees.Fits.{fits_empty, fits_one, fits_seq, fits_left, fits_right, fits_last, fits_turn, fits_call, fits_checked}
use Rattle.ll1_grammar.specs.Trees.Breaks.{in_first, in_second, on_left, on_right, in_this_turn, in_later_turn, by_call, within_checked, by_check}

-- so it is of the rules that are called
pub record CallsKeep {T : Type 0} (g : Grammar T) (called : ℕ → Tree T → Type 0) (bad : ℕ → TokenRefusal → ℕ → Tree T → Type 0) : Type 0 where
  pub weak : (n : ℕ) (t : Tree T) → called n t → In g (call n) t
  pub unbroken : (n : ℕ) (t : Tree T) (f : TokenRefusal) (i : ℕ) → called n t → bad n f i t → ⊥

module _ {T : Type 0} (g : Grammar T) (check : Checks T) (called : ℕ → Tree T → Type 0) (bad : ℕ → TokenRefusal → ℕ → Tree T → Type 0) (keep : CallsKeep g called bad) where
  pub weak : {r : Rule} {t : Tree T} → Fits g check called r t → In g r t
  weak fits_empty = in_empty
  weak (fits_one p) = in_one p
  weak (fits_seq h k) = in_seq (weak h) (weak k)
  weak (fits_left h) = in_left (weak h)
  weak (fits_right h) = in_right (weak h)
  weak fits_last = in_last
  weak (fits_turn h k) = in_turn (weak h) (weak k)
  weak (fits_call {n} {t} h) = keep.weak n t h
  weak (fits_checked h p) = in_checked (weak h)

  pub unbroken : {r : Rule} {t : Tree T} (f : TokenRefusal) (i : ℕ) → Fits g check called r t → Breaks check bad r f i t → ⊥
  unbroken f i fits_empty b = elim b [ ]
  unbroken f i (fits_one p) b = elim b [ ]
  unbroken f i fits_last b = elim b [ ]
  unbroken f i (fits_seq h k) (in_first b) = unbroken f i h b
  unbroken f i (fits_seq h k) (in_second j e b) = unbroken f j k b
  unbroken f i (fits_left h) (on_left b) = unbroken f i h b
  unbroken f i (fits_right h) (on_right b) = unbroken f i h b
  unbroken f i (fits_turn h k) (in_this_turn b) = unbroken f i h b
  unbroken f i (fits_turn h k) (in_later_turn j e b) = unbroken f j k b
  unbroken f i (fits_call {n} {t} h) (by_call b) = keep.unbroken n t f i h b
  unbroken f i (fits_checked h p) (within_checked b) = unbroken f i h b
  unbroken f i (fits_checked h p) (by_check e n q) = n p
