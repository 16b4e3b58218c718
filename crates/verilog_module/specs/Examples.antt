-- Worked by computing: the module of a pipe of one stage of eight bits.
use Rattle.std.specs.Prelude.{◌≡◌, ℕ, ◌∷◌, [], ◌++◌, false, List, Some, None, codes, replicate, refl}
use Rattle.design_lex.specs.declared.token.Class.TheVariants.{Unsigned}
use Rattle.channel_types.specs.declared.esi_type.EsiType.{EsiType}
use Rattle.channel_types.specs.declared.esi_type.EsiType.TheVariants as Y
use Rattle.netlist.specs.declared.net.Net.{Net}
use Rattle.netlist.specs.declared.net.Net.TheVariants.{Input, Register, Not, And, Or, Choose}
use Rattle.netlist.specs.Plans.{Plan}
use Rattle.verilog_tokens.specs.declared.token.Keyword.TheVariants as K
use Rattle.verilog_tokens.specs.declared.token.Sign.TheVariants as S
use Rattle.verilog_tokens.specs.declared.token.PortSide.TheVariants.{Server, Client}
use Rattle.verilog_tokens.specs.declared.token.PortRole.TheVariants.{Valid, Word, Ready}
use Rattle.verilog_tokens.specs.declared.token.Token.{Token}
use Rattle.verilog_tokens.specs.declared.token.Token.TheVariants as T
use Rattle.verilog_module.specs.Modules.{Bits}
use Rattle.verilog_module.specs.OfNetlist.{Interface, module_of}
use Rattle.verilog_module.specs.Tokens.{port, module_line, net_assigns, output_assigns, block_tokens}

abbrev bit : Net
bit = Register (false ∷ [])

abbrev octet : Net
octet = Register (replicate 8 false)

-- the nets of a pipe of one stage of eight bits, as lowering lays them out
abbrev pipe : Plan
pipe = record {
  nets = Input 1 ∷ Input 8 ∷ Input 1 ∷ bit ∷ bit ∷ octet ∷ octet ∷ Not 4 ∷ And 0 7 ∷ And 3 2 ∷ Not 9 ∷ And 3 10 ∷ Or 4 8 ∷ Or 11 12 ∷ And 11 12 ∷ Choose 4 6 1 ∷ Choose 11 5 15 ∷ [];
  widths = 1 ∷ 8 ∷ 1 ∷ 1 ∷ 1 ∷ 8 ∷ 8 ∷ 1 ∷ 1 ∷ 1 ∷ 1 ∷ 1 ∷ 1 ∷ 1 ∷ 1 ∷ 8 ∷ 8 ∷ [];
  nexts = None ∷ None ∷ None ∷ Some 13 ∷ Some 14 ∷ Some 16 ∷ Some 15 ∷ None ∷ None ∷ None ∷ None ∷ None ∷ None ∷ None ∷ None ∷ None ∷ None ∷ [];
}

abbrev ends : Interface
ends = record {
  title = codes "pipe";
  to_server = record { name = codes "in"; ty = Y.Bits Unsigned 8 } ∷ [];
  to_client = record { name = codes "out"; ty = Y.Bits Unsigned 8 } ∷ [];
  readies = 7 ∷ [];
  offers = record { valid = 3; word = 5 } ∷ [];
}

-- module esi_pipe(clk, rst, s0_valid, s0_word, s0_ready, c0_valid, c0_word, c0_ready);
pipe_line : module_line (module_of pipe ends)
    ≡ T.Keyword K.Module ∷ T.Title (codes "pipe") ∷ T.Sign S.LeftParenthesis ∷ T.Clock ∷ T.Sign S.Comma ∷ T.Reset
    ∷ T.Sign S.Comma ∷ T.Port (port Server 0 Valid) ∷ T.Sign S.Comma ∷ T.Port (port Server 0 Word) ∷ T.Sign S.Comma ∷ T.Port (port Server 0 Ready)
    ∷ T.Sign S.Comma ∷ T.Port (port Client 0 Valid) ∷ T.Sign S.Comma ∷ T.Port (port Client 0 Word) ∷ T.Sign S.Comma ∷ T.Port (port Client 0 Ready)
    ∷ T.Sign S.RightParenthesis ∷ T.Sign S.Semicolon ∷ []
pipe_line = refl

abbrev assign : ℕ → List Token → List Token
assign n right = T.Keyword K.Assign ∷ T.Net n ∷ T.Sign S.Equals ∷ (right ++ T.Sign S.Semicolon ∷ [])

abbrev both : ℕ → ℕ → List Token
both a b = T.Net a ∷ T.Sign S.Ampersand ∷ T.Net b ∷ []

abbrev either : ℕ → ℕ → List Token
either a b = T.Net a ∷ T.Sign S.Bar ∷ T.Net b ∷ []

abbrev choice : ℕ → ℕ → ℕ → List Token
choice a b c = T.Net a ∷ T.Sign S.Question ∷ T.Net b ∷ T.Sign S.Colon ∷ T.Net c ∷ []

abbrev inverse : ℕ → List Token
inverse a = T.Sign S.Tilde ∷ T.Net a ∷ []

-- assign n0 = s0_valid; and so on
pipe_assigns : net_assigns (module_of pipe ends)
    ≡ assign 0 (T.Port (port Server 0 Valid) ∷ []) ++ (assign 1 (T.Port (port Server 0 Word) ∷ []) ++ (assign 2 (T.Port (port Client 0 Ready) ∷ [])
    ++ (assign 7 (inverse 4) ++ (assign 8 (both 0 7) ++ (assign 9 (both 3 2) ++ (assign 10 (inverse 9) ++ (assign 11 (both 3 10) ++ (assign 12 (either 4 8)
    ++ (assign 13 (either 11 12) ++ (assign 14 (both 11 12) ++ (assign 15 (choice 4 6 1) ++ assign 16 (choice 11 5 15))))))))))))
pipe_assigns = refl

-- assign s0_ready = n7; assign c0_valid = n3; assign c0_word = n5;
pipe_outputs : output_assigns (module_of pipe ends)
    ≡ T.Keyword K.Assign ∷ T.Port (port Server 0 Ready) ∷ T.Sign S.Equals ∷ T.Net 7 ∷ T.Sign S.Semicolon
    ∷ T.Keyword K.Assign ∷ T.Port (port Client 0 Valid) ∷ T.Sign S.Equals ∷ T.Net 3 ∷ T.Sign S.Semicolon
    ∷ T.Keyword K.Assign ∷ T.Port (port Client 0 Word) ∷ T.Sign S.Equals ∷ T.Net 5 ∷ T.Sign S.Semicolon ∷ []
pipe_outputs = refl

abbrev becomes : ℕ → Token → List Token
becomes n right = T.Net n ∷ T.Sign S.Becomes ∷ right ∷ T.Sign S.Semicolon ∷ []

pipe_block : block_tokens (module_of pipe ends)
    ≡ T.Keyword K.Always ∷ T.Sign S.At ∷ T.Sign S.LeftParenthesis ∷ T.Keyword K.Posedge ∷ T.Clock ∷ T.Sign S.RightParenthesis ∷ T.Keyword K.Begin
    ∷ T.Keyword K.If ∷ T.Sign S.LeftParenthesis ∷ T.Reset ∷ T.Sign S.RightParenthesis ∷ T.Keyword K.Begin
    ∷ (becomes 3 (T.Constant (false ∷ [])) ++ (becomes 4 (T.Constant (false ∷ [])) ++ (becomes 5 (T.Constant (replicate 8 false)) ++ (becomes 6 (T.Constant (replicate 8 false))
    ++ (T.Keyword K.End ∷ T.Keyword K.Else ∷ T.Keyword K.Begin
    ∷ (becomes 3 (T.Net 13) ++ (becomes 4 (T.Net 14) ++ (becomes 5 (T.Net 16) ++ (becomes 6 (T.Net 15) ++ T.Keyword K.End ∷ T.Keyword K.End ∷ [])))))))))
pipe_block = refl
