-- The pieces of a module, without the blanks, are its tokens.
use Rattle.std.specs.Prelude.{◌≡◌, ℕ, ◌+◌, if◌then◌else◌, Bool, true, false, List, [], ◌∷◌, ◌++◌, Option, Some, None, length, refl}
use Rattle.std.proofs.Common.{◌∙◌, ap}
use Rattle.std.proofs.lemmas.Grind.{flat_map-append}
use Rattle.verilog_tokens.specs.declared.token.Sign.TheVariants as S
use Rattle.verilog_tokens.specs.declared.token.PortSide.TheVariants.{Server, Client}
use Rattle.verilog_tokens.specs.declared.token.Token.{Token}
use Rattle.verilog_tokens.specs.declared.token.Token.TheVariants as T
use Rattle.verilog_tokens.specs.declared.token.Keyword.TheVariants as K
use Rattle.verilog_module.specs.declared.right.Right.{Right}
use Rattle.verilog_module.specs.declared.right.Right.TheVariants.{Port, Constant, Not, And, Or, Xor, Add, Sub, Equal, Less, Choose, Slice, Concat}
use Rattle.verilog_module.specs.Modules.{Bits, Module}
use Rattle.verilog_module.specs.Tokens as M
use Rattle.verilog_module.specs.Tokens.{from, has_registers, tokens_of}
use Rattle.verilog_text.specs.declared.piece.Piece.{Piece}
use Rattle.verilog_text.specs.Blanks.{token_in, tokens_in}
use Rattle.verilog_text.specs.Layout.{comment_pieces, line_opens, name_pieces, line_closes, lone_input, server_pieces, client_pieces, net_pieces, right_pieces, statement_ends, assign_pieces, ready_pieces, offer_pieces, reset_pieces, next_pieces, block_opens, block_turns, block_ends, always_pieces, comment_lines, module_line, port_lines, output_lines, block_lines, last_line, module_pieces}
use Rattle.verilog_text.specs.Texts.{TextsAreLaidOut}

-- pieces behind others
two : (a b : List Piece) (s t : List Token) → tokens_in a ≡ s → tokens_in b ≡ t → tokens_in (a ++ b) ≡ s ++ t
two a b s t first second = flat_map-append token_in a b ∙ ap (λ z. z ++ tokens_in b) first ∙ ap (λ z. s ++ z) second

from_is : {A : Type 0} (pieces : ℕ → A → List Piece) (tokens : ℕ → A → List Token) → ((n : ℕ) (x : A) → tokens_in (pieces n x) ≡ tokens n x) → (n : ℕ) (xs : List A) → tokens_in (from pieces n xs) ≡ from tokens n xs
from_is pieces tokens each n [] = refl
from_is pieces tokens each n (x ∷ xs) = two (pieces n x) (from pieces (n + 1) xs) (tokens n x) (from tokens (n + 1) xs) (each n x) (from_is pieces tokens each (n + 1) xs)

right_is : (servers : ℕ) (right : Right) → tokens_in (right_pieces servers right) ≡ M.right_tokens servers right
right_is servers (Port k) = refl
right_is servers (Constant word) = refl
right_is servers (Not a) = refl
right_is servers (And a b) = refl
right_is servers (Or a b) = refl
right_is servers (Xor a b) = refl
right_is servers (Add a b) = refl
right_is servers (Sub a b) = refl
right_is servers (Equal a b) = refl
right_is servers (Less a b) = refl
right_is servers (Choose test one other) = refl
right_is servers (Slice of high low) = refl
right_is servers (Concat high low) = refl

assign_is : (servers n : ℕ) (right : Option Right) → tokens_in (assign_pieces servers n right) ≡ M.assign_tokens servers n right
assign_is servers n None = refl
assign_is servers n (Some right) =
    ap (λ z. T.Keyword K.Assign ∷ T.Net n ∷ T.Sign S.Equals ∷ z) (two (right_pieces servers right) statement_ends (M.right_tokens servers right) (T.Sign S.Semicolon ∷ []) (right_is servers right) refl)

reset_is : (n : ℕ) (word : Option Bits) → tokens_in (reset_pieces n word) ≡ M.reset_tokens n word
reset_is n None = refl
reset_is n (Some word) = refl

next_is : (n : ℕ) (next : Option ℕ) → tokens_in (next_pieces n next) ≡ M.next_tokens n next
next_is n None = refl
next_is n (Some a) = refl

always_is : (m : Module) → tokens_in (always_pieces m.resets m.nexts) ≡ M.always_tokens m
always_is m =
    let nexts = two (from next_pieces 0 m.nexts) block_ends (from M.next_tokens 0 m.nexts) (M.block_ends ++ M.block_ends) (from_is next_pieces M.next_tokens next_is 0 m.nexts) refl in
    let turned = two block_turns (from next_pieces 0 m.nexts ++ block_ends) M.next_opens (from M.next_tokens 0 m.nexts ++ (M.block_ends ++ M.block_ends)) refl nexts in
    let resets = two (from reset_pieces 0 m.resets) (block_turns ++ (from next_pieces 0 m.nexts ++ block_ends))
    (from M.reset_tokens 0 m.resets) (M.next_opens ++ (from M.next_tokens 0 m.nexts ++ (M.block_ends ++ M.block_ends))) (from_is reset_pieces M.reset_tokens reset_is 0 m.resets) turned in
    two block_opens (from reset_pieces 0 m.resets ++ (block_turns ++ (from next_pieces 0 m.nexts ++ block_ends)))
    (M.always_opens ++ M.reset_opens) (from M.reset_tokens 0 m.resets ++ (M.next_opens ++ (from M.next_tokens 0 m.nexts ++ (M.block_ends ++ M.block_ends)))) refl resets

block_is : (m : Module) → tokens_in (block_lines m.nets m.resets m.nexts) ≡ M.block_tokens m
block_is m = of (has_registers m.nets)
  where
    of : (b : Bool) → tokens_in (if b then always_pieces m.resets m.nexts else []) ≡ (if b then M.always_tokens m else [])
    of true = always_is m
    of false = refl

comments_are : (m : Module) → tokens_in (comment_lines m.to_server m.to_client) ≡ M.comments m
comments_are m =
    two (from (comment_pieces Server) 0 m.to_server) (from (comment_pieces Client) 0 m.to_client) (from (M.comment_tokens Server) 0 m.to_server) (from (M.comment_tokens Client) 0 m.to_client)
    (from_is (comment_pieces Server) (M.comment_tokens Server) (λ n x. refl) 0 m.to_server) (from_is (comment_pieces Client) (M.comment_tokens Client) (λ n x. refl) 0 m.to_client)

line_is : (m : Module) → tokens_in (module_line m.title m.to_server m.to_client) ≡ M.module_line m
line_is m =
    let clients = two (from (name_pieces Client) 0 m.to_client) line_closes (from (M.name_tokens Client) 0 m.to_client) (tokens_in line_closes) (from_is (name_pieces Client) (M.name_tokens Client) (λ n x. refl) 0 m.to_client) refl in
    let names = two (from (name_pieces Server) 0 m.to_server) (from (name_pieces Client) 0 m.to_client ++ line_closes)
    (from (M.name_tokens Server) 0 m.to_server) (from (M.name_tokens Client) 0 m.to_client ++ tokens_in line_closes) (from_is (name_pieces Server) (M.name_tokens Server) (λ n x. refl) 0 m.to_server) clients in
    two (line_opens m.title) (from (name_pieces Server) 0 m.to_server ++ (from (name_pieces Client) 0 m.to_client ++ line_closes))
    (tokens_in (line_opens m.title)) (from (M.name_tokens Server) 0 m.to_server ++ (from (M.name_tokens Client) 0 m.to_client ++ tokens_in line_closes)) refl names

ports_are : (m : Module) → tokens_in (port_lines m.to_server m.to_client) ≡ M.ports m
ports_are m =
    two (lone_input T.Clock ++ lone_input T.Reset) (from server_pieces 0 m.to_server ++ from client_pieces 0 m.to_client)
    (tokens_in (lone_input T.Clock ++ lone_input T.Reset)) (from M.server_tokens 0 m.to_server ++ from M.client_tokens 0 m.to_client) refl
    (two (from server_pieces 0 m.to_server) (from client_pieces 0 m.to_client) (from M.server_tokens 0 m.to_server) (from M.client_tokens 0 m.to_client)
    (from_is server_pieces M.server_tokens (λ n x. refl) 0 m.to_server) (from_is client_pieces M.client_tokens (λ n x. refl) 0 m.to_client))

outputs_are : (m : Module) → tokens_in (output_lines m.readies m.offers) ≡ M.output_assigns m
outputs_are m =
    two (from ready_pieces 0 m.readies) (from offer_pieces 0 m.offers) (from M.ready_tokens 0 m.readies) (from M.offer_tokens 0 m.offers)
    (from_is ready_pieces M.ready_tokens (λ n x. refl) 0 m.readies) (from_is offer_pieces M.offer_tokens (λ n x. refl) 0 m.offers)

-- section by section, from the last one
module _ (m : Module) where
  abbrev p8 : List Piece
  p8 = block_lines m.nets m.resets m.nexts ++ last_line

  abbrev p7 : List Piece
  p7 = output_lines m.readies m.offers ++ p8

  abbrev p6 : List Piece
  p6 = from (assign_pieces (length m.to_server)) 0 m.rights ++ p7

  abbrev p5 : List Piece
  p5 = from net_pieces 0 m.nets ++ p6

  abbrev p4 : List Piece
  p4 = port_lines m.to_server m.to_client ++ p5

  abbrev p3 : List Piece
  p3 = module_line m.title m.to_server m.to_client ++ p4

  abbrev t8 : List Token
  t8 = M.block_tokens m ++ M.module_ends

  abbrev t7 : List Token
  t7 = M.output_assigns m ++ t8

  abbrev t6 : List Token
  t6 = M.net_assigns m ++ t7

  abbrev t5 : List Token
  t5 = M.net_declarations m ++ t6

  abbrev t4 : List Token
  t4 = M.ports m ++ t5

  abbrev t3 : List Token
  t3 = M.module_line m ++ t4

  from8 : tokens_in p8 ≡ t8
  from8 = two (block_lines m.nets m.resets m.nexts) last_line (M.block_tokens m) M.module_ends (block_is m) refl

  from7 : tokens_in p7 ≡ t7
  from7 = two (output_lines m.readies m.offers) p8 (M.output_assigns m) t8 (outputs_are m) from8

  from6 : tokens_in p6 ≡ t6
  from6 = two (from (assign_pieces (length m.to_server)) 0 m.rights) p7 (M.net_assigns m) t7 (from_is (assign_pieces (length m.to_server)) (M.assign_tokens (length m.to_server)) (assign_is (length m.to_server)) 0 m.rights) from7

  from5 : tokens_in p5 ≡ t5
  from5 = two (from net_pieces 0 m.nets) p6 (M.net_declarations m) t6 (from_is net_pieces M.net_tokens (λ n x. refl) 0 m.nets) from6

  from4 : tokens_in p4 ≡ t4
  from4 = two (port_lines m.to_server m.to_client) p5 (M.ports m) t5 (ports_are m) from5

  from3 : tokens_in p3 ≡ t3
  from3 = two (module_line m.title m.to_server m.to_client) p4 (M.module_line m) t4 (line_is m) from4

  pub pieces_are_tokens : tokens_in (module_pieces m) ≡ tokens_of m
  pieces_are_tokens = two (comment_lines m.to_server m.to_client) p3 (M.comments m) t3 (comments_are m) from3

pub texts_are_laid_out : TextsAreLaidOut
texts_are_laid_out m = record { pieces = module_pieces m; octets = refl; tokens = pieces_are_tokens m }
