-- The settled assignment of a netlist, worked out net by net.
use Rattle.std.specs.Prelude.{◌≡◌, ℕ, zero, suc, ◌+◌, ◌<◌, ◌≤◌, ◌++◌, ◌∷◌, [], List, length, refl}
use Rattle.std.proofs.Common.{subst, arith}
use Rattle.netlist.specs.declared.net.Net.{Net}
use Rattle.netlist.specs.Nets.{Bits, word_at}
use Rattle.netlist.specs.Plans.{Plan, net_at, IsPlan}
use Rattle.netlist.specs.PlanLaws.{stands_at}
use Rattle.netlist.specs.Settled.{equation, input_place, IsSettled}
use Rattle.netlist.specs.SettledLaws.{SettledBelow, below_none, below_more, all_settled, only_settled}

-- the words of the nets before a place
unfoldable pub words_below : Plan → List Bits → List Bits → ℕ → List Bits
words_below plan inputs held zero = []
words_below plan inputs held (suc n) =
    let before = words_below plan inputs held n in
    before ++ equation (net_at plan.nets n) (word_at inputs (input_place plan.nets n)) (word_at held n) before ∷ []

-- the words of all nets, for these inputs and these words of the registers
abbrev pub settled_words : Plan → List Bits → List Bits → List Bits
settled_words plan inputs held = words_below plan inputs held (length plan.nets)

module _ (plan : Plan) (h : IsPlan plan) (inputs held : List Bits) where
  below_is : (n : ℕ) → n ≤ length plan.nets → SettledBelow plan inputs held n (words_below plan inputs held n)
  unfolding words_below
  below_is zero le = below_none plan inputs held
  below_is (suc n) le =
      let before : List Bits = words_below plan inputs held n in
      let lt : n < length plan.nets = omega arith in
      let net : Net = net_at plan.nets n in
      let word : Bits = equation net (word_at inputs (input_place plan.nets n)) (word_at held n) before in
      let more = below_more plan inputs held n before net word h (below_is n (omega arith)) (stands_at plan.nets n lt) refl in
      subst (λ k. SettledBelow plan inputs held k (before ++ word ∷ [])) (let e : n + 1 ≡ suc n = omega arith in e) more

  pub words_settle : IsSettled plan inputs held (settled_words plan inputs held)
  words_settle = all_settled plan inputs held (settled_words plan inputs held) (below_is (length plan.nets) (omega arith))

  -- there is no other
  pub settled_is : (words : List Bits) → IsSettled plan inputs held words → words ≡ settled_words plan inputs held
  settled_is words s = only_settled plan h inputs held words (settled_words plan inputs held) s words_settle
