-- Reading the operands of a net.
use Rattle.std.proofs.Common.{◌≡◌, ℕ, ◌<◌, ◌∷◌, [], List, length, map, get_or, sym, ◌∙◌, ap, subst}
use Rattle.std.specs.List.{AllByRecursion}
use Rattle.std.proofs.lemmas.List.{get_or_read}
use Rattle.netlist.specs.declared.net.Net.{Net}
use Rattle.netlist.specs.declared.net.Net.TheVariants.{Not}
use Rattle.netlist.specs.Nets.{Bits, word_at, width_at, sources}
use Rattle.netlist.specs.Plans.{Plan, net_at, IsPlan}
use Rattle.netlist.specs.PlanLaws.{stands_at, sources_before}
use Rattle.netlist.specs.Settled.{operands}
use Rattle.netlist.specs.SettledLaws.{operand_widths}

pub net_read : (nets : List Net) (id : ℕ) (net : Net) → id < length nets → net ≡ get_or nets id net → net ≡ net_at nets id
net_read nets id net lt e = get_or_read nets id net lt e (Not 0)

pub word_read : (words : List Bits) (at : ℕ) (word : Bits) → at < length words → word ≡ get_or words at word → word ≡ word_at words at
word_read words at word lt e = get_or_read words at word lt e []

pub none_read : (net : Net) (words : List Bits) → [] ≡ sources net → [] ≡ operands net words
none_read net words e = ap (map (word_at words)) e

pub one_read : (net : Net) (words : List Bits) (a : ℕ) (wa : Bits) → a ∷ [] ≡ sources net → wa ≡ word_at words a → wa ∷ [] ≡ operands net words
one_read net words a wa e ea = ap (λ w. w ∷ []) ea ∙ ap (map (word_at words)) e

pub two_read : (net : Net) (words : List Bits) (a b : ℕ) (wa wb : Bits) → a ∷ b ∷ [] ≡ sources net → wa ≡ word_at words a → wb ≡ word_at words b → wa ∷ wb ∷ [] ≡ operands net words
two_read net words a b wa wb e ea eb = ap (λ w. w ∷ wb ∷ []) ea ∙ ap (λ w. word_at words a ∷ w ∷ []) eb ∙ ap (map (word_at words)) e

pub three_read : (net : Net) (words : List Bits) (a b d : ℕ) (wa wb wd : Bits) → a ∷ b ∷ d ∷ [] ≡ sources net → wa ≡ word_at words a → wb ≡ word_at words b → wd ≡ word_at words d → wa ∷ wb ∷ wd ∷ [] ≡ operands net words
three_read net words a b d wa wb wd e ea eb ed =
    ap (λ w. w ∷ wb ∷ wd ∷ []) ea ∙ ap (λ w. word_at words a ∷ w ∷ wd ∷ []) eb ∙ ap (λ w. word_at words a ∷ word_at words b ∷ w ∷ []) ed ∙ ap (map (word_at words)) e

pub before_from_plan : (plan : Plan) (id : ℕ) (js : List ℕ) → IsPlan plan → id < length plan.nets → js ≡ sources (net_at plan.nets id) → AllByRecursion (λ j. j < id) js
before_from_plan plan id js h lt e =
    subst (λ ks. AllByRecursion (λ j. j < id) ks) (sym e) (sources_before (net_at plan.nets id) id plan.widths (h.fit id (net_at plan.nets id) (stands_at plan.nets id lt)).fits)

pub widths_read : (plan : Plan) (id : ℕ) (words ws : List Bits) → IsPlan plan → id < length plan.nets → ((j : ℕ) → j < id → length (word_at words j) ≡ width_at plan.widths j)
    → ws ≡ operands (net_at plan.nets id) words → map length ws ≡ map (width_at plan.widths) (sources (net_at plan.nets id))
widths_read plan id words ws h lt wide e =
    ap (map length) e ∙ operand_widths (net_at plan.nets id) id plan.widths words (h.fit id (net_at plan.nets id) (stands_at plan.nets id lt)).fits wide
