-- The tokens with which a module is written: the grammar of the subset is this page.
use Rattle.std.specs.Prelude.{ℕ, ◌+◌, ◌-◌, ◌*◌, ◌/◌, ◌%◌, ◌==◌, ◌||◌, nat_lt, if◌then◌else◌, Bool, false, List, [], ◌∷◌, ◌++◌, Option, Some, None, length, codes, decimal}
use Rattle.channel_types.specs.Types.{width_of}
use Rattle.channel_types.specs.Text.{text_of}
use Rattle.verilog_tokens.specs.declared.token.Keyword.{Keyword}
use Rattle.verilog_tokens.specs.declared.token.Keyword.TheVariants as K
use Rattle.verilog_tokens.specs.declared.token.Sign.TheVariants as S
use Rattle.verilog_tokens.specs.declared.token.PortSide.{PortSide}
use Rattle.verilog_tokens.specs.declared.token.PortSide.TheVariants.{Server, Client}
use Rattle.verilog_tokens.specs.declared.token.PortRole.{PortRole}
use Rattle.verilog_tokens.specs.declared.token.PortRole.TheVariants.{Valid, Word, Ready}
use Rattle.verilog_tokens.specs.declared.token.Port.{Port}
use Rattle.verilog_tokens.specs.declared.token.Token.{Token}
use Rattle.verilog_tokens.specs.declared.token.Token.TheVariants as T
use Rattle.verilog_module.specs.declared.module.Declared.{Declared}
use Rattle.verilog_module.specs.declared.module.EndpointLine.{EndpointLine}
use Rattle.verilog_module.specs.declared.module.Offer.{Offer}
use Rattle.verilog_module.specs.declared.right.Right.{Right}
use Rattle.verilog_module.specs.declared.right.Right.TheVariants as R
use Rattle.verilog_module.specs.Modules.{Bits, Module}

-- what is written for each item of a list, by its number
abbrev pub from : {A B : Type 0} → (ℕ → A → List B) → ℕ → List A → List B
from written n [] = []
from written n (x ∷ xs) = written n x ++ from written (n + 1) xs

-- ---- endpoints: a comment line, three names in the module line, three declarations

-- what follows `//`: to_server 0 in ui8
abbrev pub side_word : PortSide → List ℕ
side_word Server = codes "to_server"
side_word Client = codes "to_client"

abbrev pub comment_text : PortSide → ℕ → EndpointLine → List ℕ
comment_text side n end = codes " " ++ (side_word side ++ (codes " " ++ (decimal n ++ (codes " " ++ (end.name ++ (codes " " ++ text_of end.ty))))))

abbrev pub comment_tokens : PortSide → ℕ → EndpointLine → List Token
comment_tokens side n end = T.Comment (comment_text side n end) ∷ []

abbrev pub port : PortSide → ℕ → PortRole → Port
port side n role = record { side = side; channel = n; role = role }

-- , s0_valid, s0_word, s0_ready
abbrev pub name_tokens : PortSide → ℕ → EndpointLine → List Token
name_tokens side n end =
    T.Sign S.Comma ∷ T.Port (port side n Valid) ∷ T.Sign S.Comma ∷ T.Port (port side n Word) ∷ T.Sign S.Comma ∷ T.Port (port side n Ready) ∷ []

-- input [7:0] s0_word;
abbrev pub port_tokens : Keyword → ℕ → Port → List Token
port_tokens way width name =
    T.Keyword way ∷ T.Sign S.LeftBracket ∷ T.Number (width - 1) ∷ T.Sign S.Colon ∷ T.Number 0 ∷ T.Sign S.RightBracket ∷ T.Port name ∷ T.Sign S.Semicolon ∷ []

abbrev pub server_tokens : ℕ → EndpointLine → List Token
server_tokens n end = port_tokens K.Input 1 (port Server n Valid) ++ (port_tokens K.Input (width_of end.ty) (port Server n Word) ++ port_tokens K.Output 1 (port Server n Ready))

abbrev pub client_tokens : ℕ → EndpointLine → List Token
client_tokens n end = port_tokens K.Output 1 (port Client n Valid) ++ (port_tokens K.Output (width_of end.ty) (port Client n Word) ++ port_tokens K.Input 1 (port Client n Ready))

-- The input ports but `clk` and `rst`, in the order of the module line: valid and word of each of so many to-server endpoints, then
-- ready of each to-client endpoint.
abbrev pub input_port : ℕ → ℕ → Port
input_port servers k = if nat_lt k (2 * servers) then port Server (k / 2) (if k % 2 == 0 then Valid else Word) else port Client (k - 2 * servers) Ready

-- ---- nets

-- wire [7:0] n1;
abbrev pub net_tokens : ℕ → Declared → List Token
net_tokens n net =
    T.Keyword (if net.is_register then K.Reg else K.Wire) ∷ T.Sign S.LeftBracket ∷ T.Number (net.width - 1) ∷ T.Sign S.Colon ∷ T.Number 0 ∷ T.Sign S.RightBracket ∷ T.Net n ∷ T.Sign S.Semicolon ∷ []

-- a right side, where there are so many to-server endpoints
abbrev pub right_tokens : ℕ → Right → List Token
right_tokens servers (R.Port k) = T.Port (input_port servers k) ∷ []
right_tokens servers (R.Constant word) = T.Constant word ∷ []
right_tokens servers (R.Not a) = T.Sign S.Tilde ∷ T.Net a ∷ []
right_tokens servers (R.And a b) = T.Net a ∷ T.Sign S.Ampersand ∷ T.Net b ∷ []
right_tokens servers (R.Or a b) = T.Net a ∷ T.Sign S.Bar ∷ T.Net b ∷ []
right_tokens servers (R.Xor a b) = T.Net a ∷ T.Sign S.Caret ∷ T.Net b ∷ []
right_tokens servers (R.Add a b) = T.Net a ∷ T.Sign S.Plus ∷ T.Net b ∷ []
right_tokens servers (R.Sub a b) = T.Net a ∷ T.Sign S.Minus ∷ T.Net b ∷ []
right_tokens servers (R.Equal a b) = T.Net a ∷ T.Sign S.DoubleEquals ∷ T.Net b ∷ []
right_tokens servers (R.Less a b) = T.Net a ∷ T.Sign S.Less ∷ T.Net b ∷ []
right_tokens servers (R.Choose test one other) = T.Net test ∷ T.Sign S.Question ∷ T.Net one ∷ T.Sign S.Colon ∷ T.Net other ∷ []
right_tokens servers (R.Slice of high low) = T.Net of ∷ T.Sign S.LeftBracket ∷ T.Number high ∷ T.Sign S.Colon ∷ T.Number low ∷ T.Sign S.RightBracket ∷ []
right_tokens servers (R.Concat high low) = T.Sign S.LeftBrace ∷ T.Net high ∷ T.Sign S.Comma ∷ T.Net low ∷ T.Sign S.RightBrace ∷ []

-- what is written where there is something
abbrev pub if_there : {A B : Type 0} → (A → List B) → Option A → List B
if_there written None = []
if_there written (Some a) = written a

-- assign n8 = n0 & n7;
abbrev pub assign_tokens : ℕ → ℕ → Option Right → List Token
assign_tokens servers n = if_there (λ right. T.Keyword K.Assign ∷ T.Net n ∷ T.Sign S.Equals ∷ (right_tokens servers right ++ T.Sign S.Semicolon ∷ []))

-- ---- output ports

-- assign s0_ready = n7;
abbrev pub output_tokens : Port → ℕ → List Token
output_tokens name a = T.Keyword K.Assign ∷ T.Port name ∷ T.Sign S.Equals ∷ T.Net a ∷ T.Sign S.Semicolon ∷ []

abbrev pub ready_tokens : ℕ → ℕ → List Token
ready_tokens n ready = output_tokens (port Server n Ready) ready

abbrev pub offer_tokens : ℕ → Offer → List Token
offer_tokens n offer = output_tokens (port Client n Valid) offer.valid ++ output_tokens (port Client n Word) offer.word

-- ---- registers

-- n3 <= 1'h0;
abbrev pub reset_tokens : ℕ → Option Bits → List Token
reset_tokens n = if_there (λ word. T.Net n ∷ T.Sign S.Becomes ∷ T.Constant word ∷ T.Sign S.Semicolon ∷ [])

-- n3 <= n13;
abbrev pub next_tokens : ℕ → Option ℕ → List Token
next_tokens n = if_there (λ a. T.Net n ∷ T.Sign S.Becomes ∷ T.Net a ∷ T.Sign S.Semicolon ∷ [])

abbrev pub has_registers : List Declared → Bool
has_registers [] = false
has_registers (net ∷ nets) = net.is_register || has_registers nets

-- always @(posedge clk) begin
abbrev pub always_opens : List Token
always_opens = T.Keyword K.Always ∷ T.Sign S.At ∷ T.Sign S.LeftParenthesis ∷ T.Keyword K.Posedge ∷ T.Clock ∷ T.Sign S.RightParenthesis ∷ T.Keyword K.Begin ∷ []

-- if (rst) begin
abbrev pub reset_opens : List Token
reset_opens = T.Keyword K.If ∷ T.Sign S.LeftParenthesis ∷ T.Reset ∷ T.Sign S.RightParenthesis ∷ T.Keyword K.Begin ∷ []

-- end else begin
abbrev pub next_opens : List Token
next_opens = T.Keyword K.End ∷ T.Keyword K.Else ∷ T.Keyword K.Begin ∷ []

abbrev pub block_ends : List Token
block_ends = T.Keyword K.End ∷ []

abbrev pub always_tokens : Module → List Token
always_tokens m = always_opens ++ (reset_opens ++ (from reset_tokens 0 m.resets ++ (next_opens ++ (from next_tokens 0 m.nexts ++ (block_ends ++ block_ends)))))

-- without registers there is no block
abbrev pub block_tokens : Module → List Token
block_tokens m = if has_registers m.nets then always_tokens m else []

-- ---- the whole

abbrev pub comments : Module → List Token
comments m = from (comment_tokens Server) 0 m.to_server ++ from (comment_tokens Client) 0 m.to_client

-- module esi_pipe(clk, rst, s0_valid, .., c0_ready);
abbrev pub module_line : Module → List Token
module_line m =
    T.Keyword K.Module ∷ T.Title m.title ∷ T.Sign S.LeftParenthesis ∷ T.Clock ∷ T.Sign S.Comma ∷ T.Reset
    ∷ (from (name_tokens Server) 0 m.to_server ++ (from (name_tokens Client) 0 m.to_client ++ T.Sign S.RightParenthesis ∷ T.Sign S.Semicolon ∷ []))

abbrev pub ports : Module → List Token
ports m =
    T.Keyword K.Input ∷ T.Clock ∷ T.Sign S.Semicolon ∷ T.Keyword K.Input ∷ T.Reset ∷ T.Sign S.Semicolon ∷ (from server_tokens 0 m.to_server ++ from client_tokens 0 m.to_client)

abbrev pub net_declarations : Module → List Token
net_declarations m = from net_tokens 0 m.nets

abbrev pub net_assigns : Module → List Token
net_assigns m = from (assign_tokens (length m.to_server)) 0 m.rights

abbrev pub output_assigns : Module → List Token
output_assigns m = from ready_tokens 0 m.readies ++ from offer_tokens 0 m.offers

abbrev pub module_ends : List Token
module_ends = T.Keyword K.EndModule ∷ []

-- The sections in their order.
abbrev pub tokens_of : Module → List Token
tokens_of m = comments m ++ (module_line m ++ (ports m ++ (net_declarations m ++ (net_assigns m ++ (output_assigns m ++ (block_tokens m ++ module_ends))))))
