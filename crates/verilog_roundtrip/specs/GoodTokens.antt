-- The tokens of a good module can be spelled.
use Rattle.std.specs.Prelude.{◌≡◌, ℕ, zero, suc, ◌+◌, ◌-◌, ◌*◌, ◌/◌, ◌%◌, ◌^◌, ◌<◌, ◌≤◌, ◌==◌, ◌&&◌, ◌||◌, nat_lt, nat_le, not, if◌then◌else◌, Bool, true, false, List, [], ◌∷◌, ◌++◌, Option, Some, None, length, slice_get, All, refl}
use Rattle.std.specs.List.{list_all}
use Rattle.std.proofs.Common.{sym, ◌∙◌, ap, subst, arith}
use Rattle.std.proofs.lemmas.Bool.{le-leb, leb-true, ltb-true}
use Rattle.std.proofs.lemmas.Option.{same_Some, none-some, slice_get_within, get_or_from_slice_get}
use Rattle.channel_types.specs.Types.{width_of}
use Rattle.channel_types.specs.Goods.{good_high}
use Rattle.netlist.specs.Plans.{IsWidth}
use Rattle.verilog_tokens.specs.declared.token.Keyword.{Keyword}
use Rattle.verilog_tokens.specs.declared.token.Keyword.TheVariants.{Input, Output}
use Rattle.verilog_tokens.specs.declared.token.PortSide.{PortSide}
use Rattle.verilog_tokens.specs.declared.token.PortSide.TheVariants.{Server, Client}
use Rattle.verilog_tokens.specs.declared.token.PortRole.TheVariants.{Valid, Word, Ready}
use Rattle.verilog_tokens.specs.declared.token.Port.{Port}
use Rattle.verilog_tokens.specs.declared.token.Token.{Token}
use Rattle.verilog_lex.specs.Numbers.{is_width}
use Rattle.verilog_lex.specs.Octet as L
use Rattle.verilog_module.specs.declared.module.Declared.{Declared}
use Rattle.verilog_module.specs.declared.module.EndpointLine.{EndpointLine}
use Rattle.verilog_module.specs.declared.module.Offer.{Offer}
use Rattle.verilog_module.specs.declared.right.Right.{Right}
use Rattle.verilog_module.specs.declared.right.Right.TheVariants as R
use Rattle.verilog_module.specs.Modules.{Bits, Module, no_net, declared_at, net_width}
use Rattle.verilog_module.specs.Good.{is_usable, is_declared, any_width, as_wide, as_number, one_bit, joins, May, IsGoodRight, Fitting, Where, RightOf, ResetOf, Drives, NextOf, ReadyOf, OfferOf, IsGoodEnd, IsGoodModule, is_word_octet}
use Rattle.verilog_module.specs.Tokens as M
use Rattle.verilog_module.specs.Tokens.{from, port, input_port, tokens_of, has_registers}
use Rattle.verilog_roundtrip.specs.Apart.{AreSpelled}
use Rattle.verilog_roundtrip.specs.TypeLines.{both_true, from_all, comment_line}

-- ---- lists

spelled_append : (a b : List Token) → AreSpelled a → AreSpelled b → AreSpelled (a ++ b)
spelled_append [] b f g = g
spelled_append (t ∷ a) b f g = (f.0, spelled_append a b f.1 g)

spelled_from : {A : Type 0} (written : ℕ → A → List Token) (n : ℕ) (xs : List A) → ((k : ℕ) (x : A) → slice_get xs k ≡ Some x → AreSpelled (written (n + k) x)) → AreSpelled (from written n xs)
spelled_from written n [] each = tt
spelled_from written n (x ∷ xs) each =
    let here : n + 0 ≡ n = omega arith in
    spelled_append (written n x) (from written (n + 1) xs) (subst (λ m. AreSpelled (written m x)) here (each 0 x refl))
    (spelled_from written (n + 1) xs (λ k y e. let there : n + suc k ≡ n + 1 + k = omega arith in subst (λ m. AreSpelled (written m y)) there (each (suc k) y e)))

-- an item of a list with an item for each of another list
record IsFit {A B : Type 0} (good : ℕ → A → B → Type 0) (ds : List A) (n k : ℕ) (x : B) : Type 0 where
  pub other : A
  pub at : slice_get ds k ≡ Some other
  pub fits : good (n + k) other x

fitting_at : {A B : Type 0} (good : ℕ → A → B → Type 0) (n : ℕ) (ds : List A) (xs : List B) → Fitting good n ds xs → (k : ℕ) (x : B) → slice_get xs k ≡ Some x → IsFit good ds n k x
fitting_at good n [] [] f k x e = absurd (none-some x e)
fitting_at good n [] (y ∷ xs) f k x e = absurd f
fitting_at good n (d ∷ ds) [] f k x e = absurd f
fitting_at good n (d ∷ ds) (y ∷ xs) f zero x e =
    let here : n ≡ n + 0 = omega arith in
    record { other = d; at = refl; fits = subst (λ z. good (n + 0) d z) (same_Some y x e) (subst (λ m. good m d y) here f.0) }
fitting_at good n (d ∷ ds) (y ∷ xs) f (suc k) x e =
    let r = fitting_at good (n + 1) ds xs f.1 k x e in
    let there : n + 1 + k ≡ n + suc k = omega arith in
    record { other = r.other; at = r.at; fits = subst (λ m. good m r.other x) there r.fits }

where_some : {A : Type 0} (b : Bool) (good : A → Type 0) (a : A) → Where b good (Some a) → good a
where_some true good a h = h
where_some false good a h = absurd h

all_at : {A : Type 0} (good : A → Type 0) (xs : List A) → All good xs → (k : ℕ) (x : A) → slice_get xs k ≡ Some x → good x
all_at good xs all k x e = subst good (get_or_from_slice_get xs k x x e) (all k x (slice_get_within xs k x e))

-- ---- numbers and words

wide : (width : ℕ) → IsWidth width → is_width width ≡ true
wide width h =
    let low : nat_le 1 width ≡ true = le-leb 1 width h.low in
    let high : nat_le width 1024 ≡ true = le-leb width 1024 h.high in
    ap (λ c. c && nat_le width 1024) low ∙ high

swapped : (a b c d : Bool) → (a || b || c || d) ≡ true → (a || b || d || c) ≡ true
swapped true b c d e = refl
swapped false true c d e = refl
swapped false false true true e = refl
swapped false false true false e = refl
swapped false false false d e = ap (λ x. x || false) e

same_octet : (b : ℕ) → is_word_octet b ≡ true → L.is_word_octet b ≡ true
same_octet b e = swapped (nat_le 97 b && nat_le b 122) (nat_le 65 b && nat_le b 90) (nat_le 48 b && nat_le b 57) (b == 95) e

word_octets : (octets : List ℕ) → list_all is_word_octet octets ≡ true → list_all L.is_word_octet octets ≡ true
word_octets [] e = refl
word_octets (b ∷ octets) e =
    let s = both_true (is_word_octet b) (list_all is_word_octet octets) e in
    ap (λ c. c && list_all L.is_word_octet octets) (same_octet b s.0) ∙ word_octets octets s.1

-- ---- a good module

module _ (m : Module) (g : IsGoodModule m) where
  -- a net that is declared has a small number
  net_small : (a : ℕ) → a < length m.nets → a < 2 ^ 32
  net_small a lt = omega (arith, lt, g.net_count)

  net_wide : (n : ℕ) → n < length m.nets → IsWidth (net_width m.nets n)
  net_wide n lt = g.wide n no_net lt

  declared : (n : ℕ) (net : Declared) → slice_get m.nets n ≡ Some net → n < length m.nets
  declared n net e = slice_get_within m.nets n net e

  server_small : (k : ℕ) (end : EndpointLine) → slice_get m.to_server k ≡ Some end → 0 + k < 2 ^ 32
  server_small k end e = omega (arith, slice_get_within m.to_server k end e, g.server_count)

  client_small : (k : ℕ) (end : EndpointLine) → slice_get m.to_client k ≡ Some end → 0 + k < 2 ^ 32
  client_small k end e = omega (arith, slice_get_within m.to_client k end e, g.client_count)

  -- ---- endpoints

  server_comment : (k : ℕ) (end : EndpointLine) → slice_get m.to_server k ≡ Some end → AreSpelled (M.comment_tokens Server (0 + k) end)
  server_comment k end e = (comment_line Server (0 + k) end (omega (arith, server_small k end e)) (all_at IsGoodEnd m.to_server g.server_ends k end e), tt)

  client_comment : (k : ℕ) (end : EndpointLine) → slice_get m.to_client k ≡ Some end → AreSpelled (M.comment_tokens Client (0 + k) end)
  client_comment k end e = (comment_line Client (0 + k) end (omega (arith, client_small k end e)) (all_at IsGoodEnd m.to_client g.client_ends k end e), tt)

  names : (side : PortSide) (n : ℕ) (end : EndpointLine) → n < 2 ^ 32 → AreSpelled (M.name_tokens side n end)
  names side n end small = (tt, (small, (tt, (small, (tt, (small, tt))))))

  port_there : (way : Keyword) (width : ℕ) (name : Port) → width ≤ 1024 → name.channel < 2 ^ 32 → AreSpelled (M.port_tokens way width name)
  port_there way width name high small =
      let number : width - 1 < 2 ^ 32 = omega (arith, high) in
      let least : 0 < 2 ^ 32 = omega arith in
      (tt, (tt, (number, (tt, (least, (tt, (small, (tt, tt))))))))

  end_high : (end : EndpointLine) → IsGoodEnd end → width_of end.ty ≤ 1024
  end_high end good = good_high end.ty good.good_type.each

  server_ports : (k : ℕ) (end : EndpointLine) → slice_get m.to_server k ≡ Some end → AreSpelled (M.server_tokens (0 + k) end)
  server_ports k end e =
      let small = server_small k end e in
      let high = end_high end (all_at IsGoodEnd m.to_server g.server_ends k end e) in
      spelled_append (M.port_tokens Input 1 (port Server (0 + k) Valid)) (M.port_tokens Input (width_of end.ty) (port Server (0 + k) Word) ++ M.port_tokens Output 1 (port Server (0 + k) Ready))
      (port_there Input 1 (port Server (0 + k) Valid) (omega arith) small)
      (spelled_append (M.port_tokens Input (width_of end.ty) (port Server (0 + k) Word)) (M.port_tokens Output 1 (port Server (0 + k) Ready))
      (port_there Input (width_of end.ty) (port Server (0 + k) Word) high small) (port_there Output 1 (port Server (0 + k) Ready) (omega arith) small))

  client_ports : (k : ℕ) (end : EndpointLine) → slice_get m.to_client k ≡ Some end → AreSpelled (M.client_tokens (0 + k) end)
  client_ports k end e =
      let small = client_small k end e in
      let high = end_high end (all_at IsGoodEnd m.to_client g.client_ends k end e) in
      spelled_append (M.port_tokens Output 1 (port Client (0 + k) Valid)) (M.port_tokens Output (width_of end.ty) (port Client (0 + k) Word) ++ M.port_tokens Input 1 (port Client (0 + k) Ready))
      (port_there Output 1 (port Client (0 + k) Valid) (omega arith) small)
      (spelled_append (M.port_tokens Output (width_of end.ty) (port Client (0 + k) Word)) (M.port_tokens Input 1 (port Client (0 + k) Ready))
      (port_there Output (width_of end.ty) (port Client (0 + k) Word) high small) (port_there Input 1 (port Client (0 + k) Ready) (omega arith) small))

  -- ---- nets

  net_there : (k : ℕ) (net : Declared) → slice_get m.nets k ≡ Some net → AreSpelled (M.net_tokens (0 + k) net)
  net_there k net e =
      let w : IsWidth net.width = all_at (λ (d : Declared). IsWidth d.width) m.nets g.wide k net e in
      let number : net.width - 1 < 2 ^ 32 = omega (arith, w.high) in
      let least : 0 < 2 ^ 32 = omega arith in
      let small : 0 + k < 2 ^ 32 = omega (arith, declared k net e, g.net_count) in
      (tt, (tt, (number, (tt, (least, (tt, (small, (tt, tt))))))))

  operand : (n a : ℕ) (test : ℕ → Bool) → May m.nets n test a → a < length m.nets
  operand n a test h =
      let usable = (both_true (is_usable m.nets n a) (test a) h).0 in
      ltb-true a (length m.nets) (both_true (is_declared m.nets a) ((declared_at m.nets a).is_register || nat_lt a n) usable).0

  small_operand : (n a : ℕ) (test : ℕ → Bool) → May m.nets n test a → a < 2 ^ 32
  small_operand n a test h = net_small a (operand n a test h)

  channel_small : (servers k : ℕ) → k < 2 ^ 32 → (input_port servers k).channel < 2 ^ 32
  channel_small servers k lt = of (nat_lt k (2 * servers))
    where
      of : (b : Bool) → (if b then port Server (k / 2) (if k % 2 == 0 then Valid else Word) else port Client (k - 2 * servers) Ready).channel < 2 ^ 32
      of true = omega (arith, lt)
      of false = omega (arith, lt)

  right_there : (n : ℕ) (right : Right) → n < length m.nets → IsGoodRight m n right → AreSpelled (M.right_tokens (length m.to_server) right)
  right_there n (R.Port k) lt good = (channel_small (length m.to_server) k (let here = good.place.0 in omega (arith, here, lt, g.net_count)), tt)
  right_there n (R.Constant word) lt good = (wide (length word) (subst (λ w. IsWidth w) (sym good.width) (net_wide n lt)), tt)
  right_there n (R.Not a) lt good = (tt, (small_operand n a any_width good.operands, tt))
  right_there n (R.And a b) lt good = (small_operand n a any_width good.operands.0, (tt, (small_operand n b (as_wide m.nets a) good.operands.1, tt)))
  right_there n (R.Or a b) lt good = (small_operand n a any_width good.operands.0, (tt, (small_operand n b (as_wide m.nets a) good.operands.1, tt)))
  right_there n (R.Xor a b) lt good = (small_operand n a any_width good.operands.0, (tt, (small_operand n b (as_wide m.nets a) good.operands.1, tt)))
  right_there n (R.Add a b) lt good = (small_operand n a (as_number m.nets) good.operands.0, (tt, (small_operand n b (as_wide m.nets a) good.operands.1, tt)))
  right_there n (R.Sub a b) lt good = (small_operand n a (as_number m.nets) good.operands.0, (tt, (small_operand n b (as_wide m.nets a) good.operands.1, tt)))
  right_there n (R.Equal a b) lt good = (small_operand n a any_width good.operands.0, (tt, (small_operand n b (as_wide m.nets a) good.operands.1, tt)))
  right_there n (R.Less a b) lt good = (small_operand n a (as_number m.nets) good.operands.0, (tt, (small_operand n b (as_wide m.nets a) good.operands.1, tt)))
  right_there n (R.Choose test one other) lt good =
      (small_operand n test (one_bit m.nets) good.operands.0, (tt, (small_operand n one any_width good.operands.1, (tt, (small_operand n other (as_wide m.nets one) good.operands.2, tt)))))
  right_there n (R.Slice of high low) lt good =
      let cut : of < length m.nets = operand n of any_width good.operands.0 in
      let w : IsWidth (net_width m.nets of) = net_wide of cut in
      let top : high < net_width m.nets of = ltb-true high (net_width m.nets of) good.operands.1 in
      let under : low ≤ high = leb-true low high good.operands.2 in
      let high_small : high < 2 ^ 32 = omega (arith, top, w.high) in
      let low_small : low < 2 ^ 32 = omega (arith, under, high_small) in
      (net_small of cut, (tt, (high_small, (tt, (low_small, (tt, tt))))))
  right_there n (R.Concat high low) lt good = (tt, (small_operand n high any_width good.operands.0, (tt, (small_operand n low (joins m.nets high) good.operands.1, (tt, tt)))))

  assign_there : (k : ℕ) (right : Option Right) → slice_get m.rights k ≡ Some right → AreSpelled (M.assign_tokens (length m.to_server) (0 + k) right)
  assign_there k None e = tt
  assign_there k (Some right) e =
      let fit = fitting_at (RightOf m) 0 m.nets m.rights g.rights k (Some right) e in
      let lt : k < length m.nets = declared k fit.other fit.at in
      let good : IsGoodRight m (0 + k) right = where_some (not fit.other.is_register) (IsGoodRight m (0 + k)) right fit.fits in
      let here : 0 + k < length m.nets = omega (arith, lt) in
      (tt, (net_small (0 + k) here, (tt, spelled_append (M.right_tokens (length m.to_server) right) _ (right_there (0 + k) right here good) (tt, tt))))

  -- ---- output ports

  output_there : (name : Port) (a : ℕ) → name.channel < 2 ^ 32 → a < length m.nets → AreSpelled (M.output_tokens name a)
  output_there name a small lt = (tt, (small, (tt, (net_small a lt, (tt, tt)))))

  ready_there : (k ready : ℕ) → slice_get m.readies k ≡ Some ready → AreSpelled (M.ready_tokens (0 + k) ready)
  ready_there k ready e =
      let fit = fitting_at (ReadyOf m) 0 m.to_server m.readies g.readies k ready e in
      output_there (port Server (0 + k) Ready) ready (server_small k fit.other fit.at) fit.fits.there

  offer_there : (k : ℕ) (offer : Offer) → slice_get m.offers k ≡ Some offer → AreSpelled (M.offer_tokens (0 + k) offer)
  offer_there k offer e =
      let fit = fitting_at (OfferOf m) 0 m.to_client m.offers g.offers k offer e in
      let small = client_small k fit.other fit.at in
      spelled_append (M.output_tokens (port Client (0 + k) Valid) offer.valid) (M.output_tokens (port Client (0 + k) Word) offer.word)
      (output_there (port Client (0 + k) Valid) offer.valid small fit.fits.0.there) (output_there (port Client (0 + k) Word) offer.word small fit.fits.1.there)

  -- ---- registers

  reset_there : (k : ℕ) (word : Option Bits) → slice_get m.resets k ≡ Some word → AreSpelled (M.reset_tokens (0 + k) word)
  reset_there k None e = tt
  reset_there k (Some word) e =
      let fit = fitting_at ResetOf 0 m.nets m.resets g.resets k (Some word) e in
      let same : length word ≡ fit.other.width = where_some fit.other.is_register (λ (w : Bits). length w ≡ fit.other.width) word fit.fits in
      let w : IsWidth fit.other.width = all_at (λ (d : Declared). IsWidth d.width) m.nets g.wide k fit.other fit.at in
      (net_small (0 + k) (omega (arith, declared k fit.other fit.at)), (tt, (wide (length word) (subst (λ n. IsWidth n) (sym same) w), (tt, tt))))

  next_there : (k : ℕ) (next : Option ℕ) → slice_get m.nexts k ≡ Some next → AreSpelled (M.next_tokens (0 + k) next)
  next_there k None e = tt
  next_there k (Some a) e =
      let fit = fitting_at (NextOf m) 0 m.nets m.nexts g.nexts k (Some a) e in
      let drives = where_some fit.other.is_register (Drives m fit.other.width) a fit.fits in
      (net_small (0 + k) (omega (arith, declared k fit.other fit.at)), (tt, (net_small a drives.there, (tt, tt))))

  always_there : AreSpelled (M.always_tokens m)
  always_there =
      let ends : List Token = M.block_ends ++ M.block_ends in
      let nexts : List Token = from M.next_tokens 0 m.nexts ++ ends in
      let turn : List Token = M.next_opens ++ nexts in
      let resets : List Token = from M.reset_tokens 0 m.resets ++ turn in
      let opens : AreSpelled M.always_opens = (tt, (tt, (tt, (tt, (tt, (tt, (tt, tt))))))) in
      let begins : AreSpelled M.reset_opens = (tt, (tt, (tt, (tt, (tt, tt))))) in
      let turns : AreSpelled M.next_opens = (tt, (tt, (tt, tt))) in
      let closes : AreSpelled ends = (tt, (tt, tt)) in
      spelled_append M.always_opens (M.reset_opens ++ resets) opens
      (spelled_append M.reset_opens resets begins
      (spelled_append (from M.reset_tokens 0 m.resets) turn (spelled_from M.reset_tokens 0 m.resets reset_there)
      (spelled_append M.next_opens nexts turns (spelled_append (from M.next_tokens 0 m.nexts) ends (spelled_from M.next_tokens 0 m.nexts next_there) closes))))

  block_there : AreSpelled (M.block_tokens m)
  block_there = of (has_registers m.nets)
    where
      of : (b : Bool) → AreSpelled (if b then M.always_tokens m else [])
      of true = always_there
      of false = tt

  -- ---- the sections

  comments_there : AreSpelled (M.comments m)
  comments_there =
      spelled_append (from (M.comment_tokens Server) 0 m.to_server) (from (M.comment_tokens Client) 0 m.to_client) (spelled_from (M.comment_tokens Server) 0 m.to_server server_comment)
      (spelled_from (M.comment_tokens Client) 0 m.to_client client_comment)

  line_there : AreSpelled (M.module_line m)
  line_there = (
    tt,
    (
      word_octets m.title (from_all is_word_octet m.title g.title),
      (
        tt,
        (
          tt,
          (
            tt,
            (
              tt,
              spelled_append (from (M.name_tokens Server) 0 m.to_server) _ (spelled_from (M.name_tokens Server) 0 m.to_server (λ k end e. names Server (0 + k) end (server_small k end e)))
                  (spelled_append (from (M.name_tokens Client) 0 m.to_client) _ (spelled_from (M.name_tokens Client) 0 m.to_client (λ k end e. names Client (0 + k) end (client_small k end e))) (tt, (tt, tt))),
            ),
          ),
        ),
      ),
    ),
  )

  ports_there : AreSpelled (M.ports m)
  ports_there = (
    tt,
    (
      tt,
      (
        tt,
        (
          tt,
          (
            tt,
            (
              tt,
              spelled_append (from M.server_tokens 0 m.to_server) (from M.client_tokens 0 m.to_client) (spelled_from M.server_tokens 0 m.to_server server_ports) (spelled_from M.client_tokens 0 m.to_client client_ports),
            ),
          ),
        ),
      ),
    ),
  )

  pub good_spelled : AreSpelled (tokens_of m)
  good_spelled =
      let t8 : List Token = M.block_tokens m ++ M.module_ends in
      let t7 : List Token = M.output_assigns m ++ t8 in
      let t6 : List Token = M.net_assigns m ++ t7 in
      let t5 : List Token = M.net_declarations m ++ t6 in
      let t4 : List Token = M.ports m ++ t5 in
      let t3 : List Token = M.module_line m ++ t4 in
      let last : AreSpelled M.module_ends = (tt, tt) in
      let outputs : AreSpelled (M.output_assigns m) =
      spelled_append (from M.ready_tokens 0 m.readies) (from M.offer_tokens 0 m.offers) (spelled_from M.ready_tokens 0 m.readies ready_there) (spelled_from M.offer_tokens 0 m.offers offer_there) in
      spelled_append (M.comments m) t3 comments_there
      (spelled_append (M.module_line m) t4 line_there
      (spelled_append (M.ports m) t5 ports_there
      (spelled_append (M.net_declarations m) t6 (spelled_from M.net_tokens 0 m.nets net_there)
      (spelled_append (M.net_assigns m) t7 (spelled_from (M.assign_tokens (length m.to_server)) 0 m.rights assign_there)
      (spelled_append (M.output_assigns m) t8 outputs (spelled_append (M.block_tokens m) M.module_ends block_there last))))))
