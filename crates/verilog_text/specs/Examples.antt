-- Worked by computing: the text of a pipe of one stage of eight bits, section by section.
use Rattle.std.specs.Prelude.{◌≡◌, ℕ, ◌∷◌, [], ◌++◌, false, List, Some, None, codes, map, replicate, refl}
use Rattle.std.specs.Fmt.{digits}
use Rattle.std.proofs.Common.{ap}
use Rattle.design_lex.specs.declared.token.Class.TheVariants.{Unsigned}
use Rattle.channel_types.specs.declared.esi_type.EsiType.TheVariants as Y
use Rattle.channel_types.specs.Equations.{text-Bits}
use Rattle.netlist.specs.declared.net.Net.{Net}
use Rattle.netlist.specs.declared.net.Net.TheVariants.{Input, Register, Not, And, Or, Choose}
use Rattle.verilog_tokens.specs.declared.token.Keyword.TheVariants as K
use Rattle.verilog_tokens.specs.declared.token.PortSide.TheVariants.{Server, Client}
use Rattle.verilog_tokens.specs.declared.token.PortRole.TheVariants.{Word}
use Rattle.verilog_tokens.specs.declared.token.Token.TheVariants as T
use Rattle.verilog_module.specs.declared.module.EndpointLine.{EndpointLine}
use Rattle.verilog_module.specs.OfNetlist.{declarations, rights_from, reset_from}
use Rattle.verilog_module.specs.Tokens.{from, port}
use Rattle.verilog_text.specs.Blanks.{piece_text, text_of_pieces}
use Rattle.verilog_text.specs.Layout.{comment_pieces, declaration, net_pieces, assign_pieces, module_line, output_lines, block_lines, last_line}

-- ---- endpoints

abbrev source : EndpointLine
source = record { name = codes "in"; ty = Y.Bits Unsigned 8 }

abbrev sink : EndpointLine
sink = record { name = codes "out"; ty = Y.Bits Unsigned 8 }

server_comment : text_of_pieces (comment_pieces Server 0 source) ≡ codes "// to_server 0 in ui8\n"
unfolding digits piece_text
server_comment = ap (λ text. (codes "// to_server 0 in " ++ text) ++ codes "\n") (text-Bits Unsigned 8)

client_comment : text_of_pieces (comment_pieces Client 0 sink) ≡ codes "// to_client 0 out ui8\n"
unfolding digits piece_text
client_comment = ap (λ text. (codes "// to_client 0 out " ++ text) ++ codes "\n") (text-Bits Unsigned 8)

pipe_line : text_of_pieces (module_line (codes "pipe") (source ∷ []) (sink ∷ [])) ≡ codes "module esi_pipe(clk, rst, s0_valid, s0_word, s0_ready, c0_valid, c0_word, c0_ready);\n"
unfolding digits piece_text
pipe_line = refl

word_port : text_of_pieces (declaration K.Input 8 (T.Port (port Server 0 Word))) ≡ codes "  input [7:0] s0_word;\n"
unfolding digits piece_text
word_port = refl

-- ---- nets

abbrev bit : Net
bit = Register (false ∷ [])

abbrev octet : Net
octet = Register (replicate 8 false)

-- the nets of a pipe of one stage of eight bits, as lowering lays them out
abbrev nets : List Net
nets = Input 1 ∷ Input 8 ∷ Input 1 ∷ bit ∷ bit ∷ octet ∷ octet ∷ Not 4 ∷ And 0 7 ∷ And 3 2 ∷ Not 9 ∷ And 3 10 ∷ Or 4 8 ∷ Or 11 12 ∷ And 11 12 ∷ Choose 4 6 1 ∷ Choose 11 5 15 ∷ []

abbrev widths : List ℕ
widths = 1 ∷ 8 ∷ 1 ∷ 1 ∷ 1 ∷ 8 ∷ 8 ∷ 1 ∷ 1 ∷ 1 ∷ 1 ∷ 1 ∷ 1 ∷ 1 ∷ 1 ∷ 8 ∷ 8 ∷ []

pipe_nets : text_of_pieces (from net_pieces 0 (declarations nets widths))
    ≡ codes "  wire [0:0] n0;\n  wire [7:0] n1;\n  wire [0:0] n2;\n  reg [0:0] n3;\n  reg [0:0] n4;\n  reg [7:0] n5;\n  reg [7:0] n6;\n"
    ++ codes "  wire [0:0] n7;\n  wire [0:0] n8;\n  wire [0:0] n9;\n  wire [0:0] n10;\n  wire [0:0] n11;\n  wire [0:0] n12;\n  wire [0:0] n13;\n  wire [0:0] n14;\n  wire [7:0] n15;\n  wire [7:0] n16;\n"
unfolding digits piece_text
pipe_nets = refl

pipe_assigns : text_of_pieces (from (assign_pieces 1) 0 (rights_from 0 nets))
    ≡ codes "  assign n0 = s0_valid;\n  assign n1 = s0_word;\n  assign n2 = c0_ready;\n  assign n7 = ~n4;\n  assign n8 = n0 & n7;\n  assign n9 = n3 & n2;\n  assign n10 = ~n9;\n"
    ++ codes "  assign n11 = n3 & n10;\n  assign n12 = n4 | n8;\n  assign n13 = n11 | n12;\n  assign n14 = n11 & n12;\n  assign n15 = n4 ? n6 : n1;\n  assign n16 = n11 ? n5 : n15;\n"
unfolding digits piece_text
pipe_assigns = refl

pipe_outputs : text_of_pieces (output_lines (7 ∷ []) (record { valid = 3; word = 5 } ∷ [])) ≡ codes "  assign s0_ready = n7;\n  assign c0_valid = n3;\n  assign c0_word = n5;\n"
unfolding digits piece_text
pipe_outputs = refl

pipe_block : text_of_pieces (block_lines (declarations nets widths) (map reset_from nets) (None ∷ None ∷ None ∷ Some 13 ∷ Some 14 ∷ Some 16 ∷ Some 15 ∷ []))
    ≡ codes "  always @(posedge clk) begin\n    if (rst) begin\n      n3 <= 1'h0;\n      n4 <= 1'h0;\n      n5 <= 8'h00;\n      n6 <= 8'h00;\n"
    ++ codes "    end else begin\n      n3 <= n13;\n      n4 <= n14;\n      n5 <= n16;\n      n6 <= n15;\n    end\n  end\n"
unfolding digits piece_text
pipe_block = refl

end : text_of_pieces last_line ≡ codes "endmodule\n"
unfolding piece_text
end = refl
