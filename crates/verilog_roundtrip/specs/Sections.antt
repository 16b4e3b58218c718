-- The tokens of a module's pieces stand apart, section by section.
use Rattle.std.specs.Prelude.{◌≡◌, ℕ, ◌+◌, if◌then◌else◌, Bool, true, false, List, [], ◌∷◌, ◌++◌, Option, Some, None, length, refl}
use Rattle.std.proofs.Common.{sym, subst, append_assoc}
use Rattle.channel_types.specs.Types.{width_of}
use Rattle.verilog_tokens.specs.declared.token.Keyword.{Keyword}
use Rattle.verilog_tokens.specs.declared.token.Keyword.TheVariants.{Input, Output, Reg, Wire}
use Rattle.verilog_tokens.specs.declared.token.Sign.TheVariants.{Semicolon}
use Rattle.verilog_tokens.specs.declared.token.PortSide.{PortSide}
use Rattle.verilog_tokens.specs.declared.token.PortSide.TheVariants.{Server, Client}
use Rattle.verilog_tokens.specs.declared.token.PortRole.TheVariants.{Valid, Word, Ready}
use Rattle.verilog_tokens.specs.declared.token.Port.{Port}
use Rattle.verilog_tokens.specs.declared.token.Token.{Token}
use Rattle.verilog_tokens.specs.declared.token.Token.TheVariants as T
use Rattle.verilog_module.specs.declared.module.Declared.{Declared}
use Rattle.verilog_module.specs.declared.module.EndpointLine.{EndpointLine}
use Rattle.verilog_module.specs.declared.module.Offer.{Offer}
use Rattle.verilog_module.specs.declared.right.Right.{Right}
use Rattle.verilog_module.specs.declared.right.Right.TheVariants as R
use Rattle.verilog_module.specs.Modules.{Bits, Module}
use Rattle.verilog_module.specs.Tokens.{from, port, has_registers}
use Rattle.verilog_text.specs.declared.piece.Piece.{Piece}
use Rattle.verilog_text.specs.declared.piece.Piece.TheVariants.{LineEnd, Spelled}
use Rattle.verilog_text.specs.Layout.{comment_pieces, line_opens, name_pieces, line_closes, lone_input, declaration, server_pieces, client_pieces, net_pieces, right_pieces, statement_ends, assign_pieces, output_pieces, ready_pieces, offer_pieces, reset_pieces, next_pieces, block_opens, block_turns, block_ends, always_pieces, module_line, port_lines, output_lines, block_lines, last_line, module_pieces}
use Rattle.verilog_roundtrip.specs.Apart.{begins_apart, may_precede, AreApart}

-- pieces that stand apart, whatever stands apart behind them
abbrev Closed : List Piece → Type 0
Closed pieces = (behind : List Piece) → AreApart behind → AreApart (pieces ++ behind)

closed_two : (a b : List Piece) → Closed a → Closed b → Closed (a ++ b)
closed_two a b f g behind h = subst AreApart (sym (append_assoc a b behind)) (f (b ++ behind) (g behind h))

closed_from : {A : Type 0} (pieces : ℕ → A → List Piece) → ((n : ℕ) (x : A) → Closed (pieces n x)) → (n : ℕ) (xs : List A) → Closed (from pieces n xs)
closed_from pieces each n [] behind h = h
closed_from pieces each n (x ∷ xs) behind h = closed_two (pieces n x) (from pieces (n + 1) xs) (each n x) (closed_from pieces each (n + 1) xs) behind h

-- ---- endpoints

comment_apart : (side : PortSide) (n : ℕ) (end : EndpointLine) → Closed (comment_pieces side n end)
comment_apart side n end behind h = (refl, h)

-- pieces in front of which a name may stand
record AreNamed (pieces : List Piece) : Type 0 where
  pub apart : AreApart pieces
  pub begins : begins_apart pieces ≡ true

names_apart : (side : PortSide) (n : ℕ) (ends : List EndpointLine) (behind : List Piece) → AreNamed behind → AreNamed (from (name_pieces side) n ends ++ behind)
names_apart side n [] behind h = h
names_apart side n (end ∷ ends) behind h =
    let rest = names_apart side (n + 1) ends behind h in
    subst AreNamed (sym (append_assoc (name_pieces side n end) (from (name_pieces side) (n + 1) ends) behind))
    (record { apart = (refl, (refl, (refl, (refl, (refl, (rest.begins, rest.apart)))))); begins = refl })

declaration_apart : (keyword : Keyword) (width : ℕ) (name : Token) (behind : List Piece) → may_precede name (Spelled (T.Sign Semicolon) ∷ LineEnd ∷ behind) ≡ true → AreApart behind
    → AreApart (declaration keyword width name ++ behind)
declaration_apart keyword width name behind e h = (refl, (refl, (refl, (refl, (refl, (refl, (e, (refl, h))))))))

server_apart : (n : ℕ) (end : EndpointLine) → Closed (server_pieces n end)
server_apart n end =
    closed_two (declaration Input 1 (T.Port (port Server n Valid))) (declaration Input (width_of end.ty) (T.Port (port Server n Word)) ++ declaration Output 1 (T.Port (port Server n Ready)))
    (λ b h. declaration_apart Input 1 (T.Port (port Server n Valid)) b refl h)
    (closed_two (declaration Input (width_of end.ty) (T.Port (port Server n Word))) (declaration Output 1 (T.Port (port Server n Ready)))
    (λ b h. declaration_apart Input (width_of end.ty) (T.Port (port Server n Word)) b refl h) (λ b h. declaration_apart Output 1 (T.Port (port Server n Ready)) b refl h))

client_apart : (n : ℕ) (end : EndpointLine) → Closed (client_pieces n end)
client_apart n end =
    closed_two (declaration Output 1 (T.Port (port Client n Valid))) (declaration Output (width_of end.ty) (T.Port (port Client n Word)) ++ declaration Input 1 (T.Port (port Client n Ready)))
    (λ b h. declaration_apart Output 1 (T.Port (port Client n Valid)) b refl h)
    (closed_two (declaration Output (width_of end.ty) (T.Port (port Client n Word))) (declaration Input 1 (T.Port (port Client n Ready)))
    (λ b h. declaration_apart Output (width_of end.ty) (T.Port (port Client n Word)) b refl h) (λ b h. declaration_apart Input 1 (T.Port (port Client n Ready)) b refl h))

-- ---- nets

net_apart : (n : ℕ) (declared : Declared) → Closed (net_pieces n declared)
net_apart n declared behind h = declaration_apart (if declared.is_register then Reg else Wire) declared.width (T.Net n) behind refl h

-- a right side before the end of its statement
right_apart : (servers : ℕ) (right : Right) (behind : List Piece) → AreApart behind → AreApart (right_pieces servers right ++ (statement_ends ++ behind))
right_apart servers (R.Port k) behind h = (refl, (refl, h))
right_apart servers (R.Constant word) behind h = (refl, (refl, h))
right_apart servers (R.Not a) behind h = (refl, (refl, (refl, h)))
right_apart servers (R.Choose test one other) behind h = (refl, (refl, (refl, (refl, (refl, (refl, h))))))
right_apart servers (R.Slice of high low) behind h = (refl, (refl, (refl, (refl, (refl, (refl, (refl, h)))))))
right_apart servers (R.Concat high low) behind h = (refl, (refl, (refl, (refl, (refl, (refl, h))))))
right_apart servers (R.And a b) behind h = (refl, (refl, (refl, (refl, h))))
right_apart servers (R.Or a b) behind h = (refl, (refl, (refl, (refl, h))))
right_apart servers (R.Xor a b) behind h = (refl, (refl, (refl, (refl, h))))
right_apart servers (R.Add a b) behind h = (refl, (refl, (refl, (refl, h))))
right_apart servers (R.Sub a b) behind h = (refl, (refl, (refl, (refl, h))))
right_apart servers (R.Equal a b) behind h = (refl, (refl, (refl, (refl, h))))
right_apart servers (R.Less a b) behind h = (refl, (refl, (refl, (refl, h))))

assign_apart : (servers n : ℕ) (right : Option Right) → Closed (assign_pieces servers n right)
assign_apart servers n None behind h = h
assign_apart servers n (Some right) behind h =
    let rest : AreApart ((right_pieces servers right ++ statement_ends) ++ behind) = subst AreApart (sym (append_assoc (right_pieces servers right) statement_ends behind)) (right_apart servers right behind h) in
    (refl, (refl, (refl, rest)))

output_apart : (name : Port) (a : ℕ) → Closed (output_pieces name a)
output_apart name a behind h = (refl, (refl, (refl, (refl, (refl, h)))))

offer_apart : (n : ℕ) (offer : Offer) → Closed (offer_pieces n offer)
offer_apart n offer =
    closed_two (output_pieces (port Client n Valid) offer.valid) (output_pieces (port Client n Word) offer.word) (output_apart (port Client n Valid) offer.valid) (output_apart (port Client n Word) offer.word)

-- ---- registers

reset_apart : (n : ℕ) (word : Option Bits) → Closed (reset_pieces n word)
reset_apart n None behind h = h
reset_apart n (Some word) behind h = (refl, (refl, (refl, (refl, h))))

next_apart : (n : ℕ) (next : Option ℕ) → Closed (next_pieces n next)
next_apart n None behind h = h
next_apart n (Some a) behind h = (refl, (refl, (refl, (refl, h))))

always_apart : (resets : List (Option Bits)) (nexts : List (Option ℕ)) → Closed (always_pieces resets nexts)
always_apart resets nexts =
    closed_two block_opens (from reset_pieces 0 resets ++ (block_turns ++ (from next_pieces 0 nexts ++ block_ends))) (λ b h. (refl, (refl, (refl, (refl, (refl, (refl, (refl, (refl, (refl, (refl, (refl, (refl, h)))))))))))))
    (closed_two (from reset_pieces 0 resets) (block_turns ++ (from next_pieces 0 nexts ++ block_ends)) (closed_from reset_pieces reset_apart 0 resets)
    (closed_two block_turns (from next_pieces 0 nexts ++ block_ends) (λ b h. (refl, (refl, (refl, h))))
    (closed_two (from next_pieces 0 nexts) block_ends (closed_from next_pieces next_apart 0 nexts) (λ b h. (refl, (refl, h))))))

block_apart : (nets : List Declared) (resets : List (Option Bits)) (nexts : List (Option ℕ)) → Closed (block_lines nets resets nexts)
block_apart nets resets nexts = of (has_registers nets)
  where
    of : (b : Bool) → Closed (if b then always_pieces resets nexts else [])
    of true behind h = always_apart resets nexts behind h
    of false behind h = h

-- ---- the whole

line_apart : (title : List ℕ) (to_server to_client : List EndpointLine) → Closed (module_line title to_server to_client)
line_apart title to_server to_client behind h =
    let closes : AreNamed (line_closes ++ behind) = record { apart = (refl, (refl, h)); begins = refl } in
    let clients = names_apart Client 0 to_client (line_closes ++ behind) closes in
    let servers = names_apart Server 0 to_server (from (name_pieces Client) 0 to_client ++ (line_closes ++ behind)) clients in
    let names : List Piece = from (name_pieces Server) 0 to_server ++ (from (name_pieces Client) 0 to_client ++ line_closes) in
    let same : AreNamed (names ++ behind) =
    subst AreNamed (sym (append_assoc (from (name_pieces Server) 0 to_server) (from (name_pieces Client) 0 to_client ++ line_closes) behind))
    (subst (λ ps. AreNamed (from (name_pieces Server) 0 to_server ++ ps)) (sym (append_assoc (from (name_pieces Client) 0 to_client) line_closes behind)) servers) in
    subst AreApart (sym (append_assoc (line_opens title) names behind)) (refl, (refl, (refl, (refl, (refl, (same.begins, same.apart))))))

pub module_apart : (m : Module) → AreApart (module_pieces m)
module_apart m =
    let comments = closed_two (from (comment_pieces Server) 0 m.to_server) (from (comment_pieces Client) 0 m.to_client)
    (closed_from (comment_pieces Server) (comment_apart Server) 0 m.to_server) (closed_from (comment_pieces Client) (comment_apart Client) 0 m.to_client) in
    let ports = closed_two (lone_input T.Clock ++ lone_input T.Reset) (from server_pieces 0 m.to_server ++ from client_pieces 0 m.to_client) (λ b h. (refl, (refl, (refl, (refl, (refl, (refl, h)))))))
    (closed_two (from server_pieces 0 m.to_server) (from client_pieces 0 m.to_client) (closed_from server_pieces server_apart 0 m.to_server) (closed_from client_pieces client_apart 0 m.to_client)) in
    let outputs = closed_two (from ready_pieces 0 m.readies) (from offer_pieces 0 m.offers)
    (closed_from ready_pieces (λ n a. output_apart (port Server n Ready) a) 0 m.readies) (closed_from offer_pieces offer_apart 0 m.offers) in
    let p7 : List Piece = block_lines m.nets m.resets m.nexts ++ last_line in
    let p6 : List Piece = output_lines m.readies m.offers ++ p7 in
    let p5 : List Piece = from (assign_pieces (length m.to_server)) 0 m.rights ++ p6 in
    let p4 : List Piece = from net_pieces 0 m.nets ++ p5 in
    let p3 : List Piece = port_lines m.to_server m.to_client ++ p4 in
    let p2 : List Piece = module_line m.title m.to_server m.to_client ++ p3 in
    comments p2
    (line_apart m.title m.to_server m.to_client p3
    (ports p4
    (closed_from net_pieces net_apart 0 m.nets p5
    (closed_from (assign_pieces (length m.to_server)) (assign_apart (length m.to_server)) 0 m.rights p6
    (outputs p7
    (block_apart m.nets m.resets m.nexts last_line (refl, tt)))))))
