-- The law of every rule that one token decides: its reader is exact.
use Rattle.std.proofs.Common.{◌≡◌, ℕ, true}
use Rattle.ll1_grammar.specs.Rule.{Rule, Tree, Grammar}
use Rattle.ll1_grammar.specs.Rule.Rule.{empty, one, seq, alt, star, call, checked}
use Rattle.ll1_grammar.specs.Kinds.{among, is_ll1}
use Rattle.ll1_grammar.specs.declared.refusal.TokenRefusal.{TokenRefusal}
use Rattle.ll1_grammar.specs.Trees.{Checks}
use Rattle.ll1_grammar.specs.Parse.{Parser, parse}
use Rattle.ll1_grammar.specs.Exact.{IsExact}
use Rattle.ll1_grammar.specs.Ll1.{Calls, seq_ll1, alt_ll1, star_ll1, call_ll1, checked_ll1}
use Rattle.ll1_grammar.specs.KeptLimits.{CallsKeep}
use Rattle.ll1_grammar.specs.Steps.{exact_empty, exact_one, exact_seq}
use Rattle.ll1_grammar.specs.Choices.{exact_alt}
use Rattle.ll1_grammar.specs.Checking.{exact_checked}
use Rattle.ll1_grammar.specs.Repeating.{exact_star}

module _ {T : Type 0} (g : Grammar T) (known : Calls g) (check : Checks T) (called : ℕ → Tree T → Type 0) (bad : ℕ → TokenRefusal → ℕ → Tree T → Type 0) (keep : CallsKeep g called bad)
    (env : ℕ → Parser T) (envs : (n : ℕ) → among g.calls n ≡ true → IsExact g check called bad (call n) (env n)) where
  pub exact_rule : (r : Rule) → is_ll1 g r ≡ true → IsExact g check called bad r (parse g check env r)
  exact_rule empty e = exact_empty g known check called bad keep
  exact_rule (one ks) e = exact_one g known check called bad keep ks e
  exact_rule (seq r s) e =
      let p = seq_ll1 g r s e in exact_seq g known check called bad keep r s e (parse g check env r) (parse g check env s) (exact_rule r p.0) (exact_rule s p.1)
  exact_rule (alt r s) e =
      let p = alt_ll1 g r s e in exact_alt g known check called bad keep r s e (parse g check env r) (parse g check env s) (exact_rule r p.0) (exact_rule s p.1)
  exact_rule (star r) e = exact_star g known check called bad keep r e (parse g check env r) (exact_rule r (star_ll1 g r e).0)
  exact_rule (call n) e = envs n (call_ll1 g n e).0
  exact_rule (checked c r) e = exact_checked g known check called bad keep c r e (parse g check env r) (exact_rule r (checked_ll1 g c r e).0)
