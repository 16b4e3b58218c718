-- The whole: each pass is a part of it.
use Rattle.std.specs.Prelude.{◌≡◌, ℕ, zero, suc, ◌+◌, ◌<◌, ◌≤◌, ◌++◌, ◌∷◌, [], List, length}
use Rattle.std.proofs.Common.{◌∙◌, ap, subst, arith}
use Rattle.netlist.specs.declared.part.Part.{Part}
use Rattle.flat_design.specs.declared.element.Flat.{Flat}
use Rattle.flat_design.specs.Laying.{count_up}
use Rattle.channel_lower.specs.declared.lowering.Lowering.{Lowering}
use Rattle.channel_lower.specs.Long.{size, clients_grow, registers_grow, forward_grows, backward_grows, next_grows, pass_grows}
use Rattle.channel_lower.specs.Lowering.{nothing, channel_at, element_at, part_of, from_end, client_turn, register_turn, forward_turn, backward_turn, next_turn, server_pass, client_pass, register_pass, forward_pass, backward_pass, next_pass, lowered}

module _ (parts : List Part) (flat : Flat) (servers : ℕ) (clients : List ℕ) (limit : ℕ) where
  abbrev n : ℕ
  n = length flat.elements

  abbrev w1 : Lowering
  w1 = server_pass flat.widths servers (nothing (length flat.widths))

  abbrev w2 : Lowering
  w2 = client_pass clients (length clients) w1

  abbrev w3 : Lowering
  w3 = register_pass parts flat.elements n w2

  abbrev w4 : Lowering
  w4 = forward_pass parts flat.elements n w3

  abbrev w5 : Lowering
  w5 = backward_pass parts flat.elements n w4

  abbrev whole : Lowering
  whole = lowered parts flat servers clients

  from5 : size w5 ≤ size whole
  from5 = pass_grows (λ k. next_turn (part_of parts (element_at flat.elements k)) k) w5 n (next_grows parts flat.elements)

  from4 : size w4 ≤ size whole
  from4 = omega (arith, from5, pass_grows (λ k. backward_turn (part_of parts (element_at flat.elements (from_end flat.elements k))) (element_at flat.elements (from_end flat.elements k)) (from_end flat.elements k)) w4 n (backward_grows parts flat.elements))

  from3 : size w3 ≤ size whole
  from3 = omega (arith, from4, pass_grows (λ k. forward_turn (part_of parts (element_at flat.elements k)) (element_at flat.elements k) k) w3 n (forward_grows parts flat.elements))

  from2 : size w2 ≤ size whole
  from2 = omega (arith, from3, pass_grows (λ k. register_turn (part_of parts (element_at flat.elements k))) w2 n (registers_grow parts flat.elements))

  from1 : size w1 ≤ size whole
  from1 = omega (arith, from2, pass_grows (λ k. client_turn (channel_at clients k)) w1 (length clients) (clients_grow clients))

  -- a pass that finds no room
  pub long1 : (s : Lowering) → s ≡ nothing (length flat.widths) → limit < size (server_pass flat.widths servers s) → limit < size whole
  long1 s e h = let here : limit < size w1 = subst (λ (t : Lowering). limit < size (server_pass flat.widths servers t)) e h in omega (arith, here, from1)

  pub long2 : (s : Lowering) → s ≡ w1 → limit < size (client_pass clients (length clients) s) → limit < size whole
  long2 s e h = let here : limit < size w2 = subst (λ (t : Lowering). limit < size (client_pass clients (length clients) t)) e h in omega (arith, here, from2)

  pub long3 : (s : Lowering) → s ≡ w2 → limit < size (register_pass parts flat.elements n s) → limit < size whole
  long3 s e h = let here : limit < size w3 = subst (λ (t : Lowering). limit < size (register_pass parts flat.elements n t)) e h in omega (arith, here, from3)

  pub long4 : (s : Lowering) → s ≡ w3 → limit < size (forward_pass parts flat.elements n s) → limit < size whole
  long4 s e h = let here : limit < size w4 = subst (λ (t : Lowering). limit < size (forward_pass parts flat.elements n t)) e h in omega (arith, here, from4)

  pub long5 : (s : Lowering) → s ≡ w4 → limit < size (backward_pass parts flat.elements n s) → limit < size whole
  long5 s e h = let here : limit < size w5 = subst (λ (t : Lowering). limit < size (backward_pass parts flat.elements n t)) e h in omega (arith, here, from5)

  pub long6 : (s : Lowering) → s ≡ w5 → limit < size (next_pass parts flat.elements n s) → limit < size whole
  long6 s e h = subst (λ (t : Lowering). limit < size (next_pass parts flat.elements n t)) e h

  -- what each pass leaves
  pub is1 : (s t : Lowering) → s ≡ nothing (length flat.widths) → t ≡ server_pass flat.widths servers s → t ≡ w1
  is1 s t e f = f ∙ ap (server_pass flat.widths servers) e

  pub is2 : (s t : Lowering) → s ≡ w1 → t ≡ client_pass clients (length clients) s → t ≡ w2
  is2 s t e f = f ∙ ap (client_pass clients (length clients)) e

  pub is3 : (s t : Lowering) → s ≡ w2 → t ≡ register_pass parts flat.elements n s → t ≡ w3
  is3 s t e f = f ∙ ap (register_pass parts flat.elements n) e

  pub is4 : (s t : Lowering) → s ≡ w3 → t ≡ forward_pass parts flat.elements n s → t ≡ w4
  is4 s t e f = f ∙ ap (forward_pass parts flat.elements n) e

  pub is5 : (s t : Lowering) → s ≡ w4 → t ≡ backward_pass parts flat.elements n s → t ≡ w5
  is5 s t e f = f ∙ ap (backward_pass parts flat.elements n) e

  pub is6 : (s t : Lowering) → s ≡ w5 → t ≡ next_pass parts flat.elements n s → t ≡ whole
  is6 s t e f = f ∙ ap (next_pass parts flat.elements n) e

-- one number more
pub count_up-more : (p k : ℕ) → count_up p (k + 1) ≡ count_up p k ++ (p + k) ∷ []
count_up-more p zero = ap (λ m. m ∷ []) (let e : p ≡ p + zero = omega arith in e)
count_up-more p (suc k) =
    ap (count_up p) (let e : suc k + 1 ≡ suc (k + 1) = omega arith in e) ∙ ap (λ xs. p ∷ xs) (count_up-more (p + 1) k)
    ∙ ap (λ m. p ∷ (count_up (p + 1) k ++ m ∷ [])) (let e : p + 1 + k ≡ p + suc k = omega arith in e)

pub one_more : (k : ℕ) → count_up 0 (k + 1) ≡ count_up 0 k ++ k ∷ []
one_more k = count_up-more 0 k ∙ ap (λ m. count_up 0 k ++ m ∷ []) (let e : 0 + k ≡ k = omega arith in e)
