-- The layout of a module: its tokens with the blanks between them, one item a line, indented by how deep it stands.
use Rattle.std.specs.Prelude.{ℕ, ◌-◌, if◌then◌else◌, List, [], ◌∷◌, ◌++◌, Option, length}
use Rattle.channel_types.specs.Types.{width_of}
use Rattle.verilog_tokens.specs.declared.token.Keyword.{Keyword}
use Rattle.verilog_tokens.specs.declared.token.Keyword.TheVariants as K
use Rattle.verilog_tokens.specs.declared.token.Sign.{Sign}
use Rattle.verilog_tokens.specs.declared.token.Sign.TheVariants as S
use Rattle.verilog_tokens.specs.declared.token.PortSide.{PortSide}
use Rattle.verilog_tokens.specs.declared.token.PortSide.TheVariants.{Server, Client}
use Rattle.verilog_tokens.specs.declared.token.PortRole.TheVariants.{Valid, Word, Ready}
use Rattle.verilog_tokens.specs.declared.token.Port.{Port}
use Rattle.verilog_tokens.specs.declared.token.Token.{Token}
use Rattle.verilog_tokens.specs.declared.token.Token.TheVariants as T
use Rattle.verilog_module.specs.declared.module.Declared.{Declared}
use Rattle.verilog_module.specs.declared.module.EndpointLine.{EndpointLine}
use Rattle.verilog_module.specs.declared.module.Offer.{Offer}
use Rattle.verilog_module.specs.declared.right.Right.{Right}
use Rattle.verilog_module.specs.declared.right.Right.TheVariants as R
use Rattle.verilog_module.specs.Modules.{Bits, Module}
use Rattle.verilog_module.specs.Tokens.{from, if_there, comment_text, port, input_port, has_registers}
use Rattle.verilog_text.specs.declared.piece.Piece.{Piece}
use Rattle.verilog_text.specs.declared.piece.Piece.TheVariants.{Space, Indent, LineEnd, Spelled}

-- ---- tokens as pieces

abbrev key : Keyword → Piece
key keyword = Spelled (T.Keyword keyword)

abbrev mark : Sign → Piece
mark sign = Spelled (T.Sign sign)

abbrev net : ℕ → Piece
net n = Spelled (T.Net n)

abbrev named : Port → Piece
named name = Spelled (T.Port name)

-- ---- endpoints

-- // to_server 0 in ui8
abbrev pub comment_pieces : PortSide → ℕ → EndpointLine → List Piece
comment_pieces side n end = Spelled (T.Comment (comment_text side n end)) ∷ LineEnd ∷ []

-- module esi_pipe(clk, rst
abbrev pub line_opens : List ℕ → List Piece
line_opens title =
    key K.Module ∷ Space ∷ Spelled (T.Title title) ∷ mark S.LeftParenthesis ∷ Spelled T.Clock ∷ mark S.Comma ∷ Space ∷ Spelled T.Reset ∷ []

-- , s0_valid, s0_word, s0_ready
abbrev pub port_names : PortSide → ℕ → List Piece
port_names side n =
    mark S.Comma ∷ Space ∷ named (port side n Valid) ∷ mark S.Comma ∷ Space ∷ named (port side n Word) ∷ mark S.Comma ∷ Space ∷ named (port side n Ready) ∷ []

abbrev pub name_pieces : PortSide → ℕ → EndpointLine → List Piece
name_pieces side n end = port_names side n

-- );
abbrev pub line_closes : List Piece
line_closes = mark S.RightParenthesis ∷ mark S.Semicolon ∷ LineEnd ∷ []

-- input clk;
abbrev pub lone_input : Token → List Piece
lone_input name = Indent ∷ key K.Input ∷ Space ∷ Spelled name ∷ mark S.Semicolon ∷ LineEnd ∷ []

-- input [7:0] s0_word; and so of nets: wire [7:0] n1;
abbrev pub declaration : Keyword → ℕ → Token → List Piece
declaration keyword width name =
    Indent ∷ key keyword ∷ Space ∷ mark S.LeftBracket ∷ Spelled (T.Number (width - 1)) ∷ mark S.Colon ∷ Spelled (T.Number 0) ∷ mark S.RightBracket ∷ Space
    ∷ Spelled name ∷ mark S.Semicolon ∷ LineEnd ∷ []

abbrev pub server_pieces : ℕ → EndpointLine → List Piece
server_pieces n end =
    declaration K.Input 1 (T.Port (port Server n Valid)) ++ (declaration K.Input (width_of end.ty) (T.Port (port Server n Word)) ++ declaration K.Output 1 (T.Port (port Server n Ready)))

abbrev pub client_pieces : ℕ → EndpointLine → List Piece
client_pieces n end =
    declaration K.Output 1 (T.Port (port Client n Valid)) ++ (declaration K.Output (width_of end.ty) (T.Port (port Client n Word)) ++ declaration K.Input 1 (T.Port (port Client n Ready)))

-- ---- nets

-- wire [7:0] n1;
abbrev pub net_pieces : ℕ → Declared → List Piece
net_pieces n declared = declaration (if declared.is_register then K.Reg else K.Wire) declared.width (T.Net n)

-- a & b
abbrev pub operation : ℕ → Sign → ℕ → List Piece
operation a sign b = net a ∷ Space ∷ mark sign ∷ Space ∷ net b ∷ []

-- a right side, where there are so many to-server endpoints
abbrev pub right_pieces : ℕ → Right → List Piece
right_pieces servers (R.Port k) = named (input_port servers k) ∷ []
right_pieces servers (R.Constant word) = Spelled (T.Constant word) ∷ []
right_pieces servers (R.Not a) = mark S.Tilde ∷ net a ∷ []
right_pieces servers (R.And a b) = operation a S.Ampersand b
right_pieces servers (R.Or a b) = operation a S.Bar b
right_pieces servers (R.Xor a b) = operation a S.Caret b
right_pieces servers (R.Add a b) = operation a S.Plus b
right_pieces servers (R.Sub a b) = operation a S.Minus b
right_pieces servers (R.Equal a b) = operation a S.DoubleEquals b
right_pieces servers (R.Less a b) = operation a S.Less b
right_pieces servers (R.Choose test one other) = net test ∷ Space ∷ mark S.Question ∷ Space ∷ net one ∷ Space ∷ mark S.Colon ∷ Space ∷ net other ∷ []
right_pieces servers (R.Slice of high low) = net of ∷ mark S.LeftBracket ∷ Spelled (T.Number high) ∷ mark S.Colon ∷ Spelled (T.Number low) ∷ mark S.RightBracket ∷ []
right_pieces servers (R.Concat high low) = mark S.LeftBrace ∷ net high ∷ mark S.Comma ∷ Space ∷ net low ∷ mark S.RightBrace ∷ []

-- assign n8 =
abbrev pub assign_opens : Token → List Piece
assign_opens name = Indent ∷ key K.Assign ∷ Space ∷ Spelled name ∷ Space ∷ mark S.Equals ∷ Space ∷ []

abbrev pub statement_ends : List Piece
statement_ends = mark S.Semicolon ∷ LineEnd ∷ []

-- assign n8 = n0 & n7;
abbrev pub assign_pieces : ℕ → ℕ → Option Right → List Piece
assign_pieces servers n = if_there (λ right. assign_opens (T.Net n) ++ (right_pieces servers right ++ statement_ends))

-- ---- output ports

-- assign s0_ready = n7;
abbrev pub output_pieces : Port → ℕ → List Piece
output_pieces name a = assign_opens (T.Port name) ++ net a ∷ statement_ends

abbrev pub ready_pieces : ℕ → ℕ → List Piece
ready_pieces n ready = output_pieces (port Server n Ready) ready

abbrev pub offer_pieces : ℕ → Offer → List Piece
offer_pieces n offer = output_pieces (port Client n Valid) offer.valid ++ output_pieces (port Client n Word) offer.word

-- ---- registers

-- n3 <= 1'h0; and n3 <= n13;
abbrev pub becomes : ℕ → Token → List Piece
becomes n right = Indent ∷ Indent ∷ Indent ∷ net n ∷ Space ∷ mark S.Becomes ∷ Space ∷ Spelled right ∷ statement_ends

abbrev pub reset_pieces : ℕ → Option Bits → List Piece
reset_pieces n = if_there (λ word. becomes n (T.Constant word))

abbrev pub next_pieces : ℕ → Option ℕ → List Piece
next_pieces n = if_there (λ a. becomes n (T.Net a))

-- always @(posedge clk) begin
-- if (rst) begin
abbrev pub block_opens : List Piece
block_opens =
    Indent ∷ key K.Always ∷ Space ∷ mark S.At ∷ mark S.LeftParenthesis ∷ key K.Posedge ∷ Space ∷ Spelled T.Clock ∷ mark S.RightParenthesis ∷ Space ∷ key K.Begin ∷ LineEnd
    ∷ Indent ∷ Indent ∷ key K.If ∷ Space ∷ mark S.LeftParenthesis ∷ Spelled T.Reset ∷ mark S.RightParenthesis ∷ Space ∷ key K.Begin ∷ LineEnd ∷ []

-- end else begin
abbrev pub block_turns : List Piece
block_turns = Indent ∷ Indent ∷ key K.End ∷ Space ∷ key K.Else ∷ Space ∷ key K.Begin ∷ LineEnd ∷ []

-- end
-- end
abbrev pub block_ends : List Piece
block_ends = Indent ∷ Indent ∷ key K.End ∷ LineEnd ∷ Indent ∷ key K.End ∷ LineEnd ∷ []

abbrev pub always_pieces : List (Option Bits) → List (Option ℕ) → List Piece
always_pieces resets nexts = block_opens ++ (from reset_pieces 0 resets ++ (block_turns ++ (from next_pieces 0 nexts ++ block_ends)))

-- ---- the sections

abbrev pub comment_lines : List EndpointLine → List EndpointLine → List Piece
comment_lines to_server to_client = from (comment_pieces Server) 0 to_server ++ from (comment_pieces Client) 0 to_client

abbrev pub module_line : List ℕ → List EndpointLine → List EndpointLine → List Piece
module_line title to_server to_client = line_opens title ++ (from (name_pieces Server) 0 to_server ++ (from (name_pieces Client) 0 to_client ++ line_closes))

abbrev pub port_lines : List EndpointLine → List EndpointLine → List Piece
port_lines to_server to_client = (lone_input T.Clock ++ lone_input T.Reset) ++ (from server_pieces 0 to_server ++ from client_pieces 0 to_client)

abbrev pub output_lines : List ℕ → List Offer → List Piece
output_lines readies offers = from ready_pieces 0 readies ++ from offer_pieces 0 offers

-- without registers there is no always block
abbrev pub block_lines : List Declared → List (Option Bits) → List (Option ℕ) → List Piece
block_lines nets resets nexts = if has_registers nets then always_pieces resets nexts else []

abbrev pub last_line : List Piece
last_line = key K.EndModule ∷ LineEnd ∷ []

-- The whole.
abbrev pub module_pieces : Module → List Piece
module_pieces m =
    comment_lines m.to_server m.to_client ++ (module_line m.title m.to_server m.to_client ++ (port_lines m.to_server m.to_client
    ++ (from net_pieces 0 m.nets ++ (from (assign_pieces (length m.to_server)) 0 m.rights ++ (output_lines m.readies m.offers ++ (block_lines m.nets m.resets m.nexts ++ last_line))))))
