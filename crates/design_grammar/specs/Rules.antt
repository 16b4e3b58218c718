-- The grammar of the design text (docs/design-text.md), line by line, as data. One token decides everywhere: what begins
-- alike stands in one rule, of which the rest is optional.
--
-- At most 16 types and at most 64 expressions may be open at a place. A type is checked when its last token was read.
use Rattle.std.specs.Prelude.{◌==◌, [], ◌∷◌, if◌then◌else◌}
use Rattle.ll1_grammar.specs.Rule.{Kinds, Rule, Grammar, ◌⟫◌}
use Rattle.ll1_grammar.specs.Rule.Rule.{empty, one, alt, star, call, checked}
use Rattle.ll1_grammar.specs.Kinds.{inside, follow_of}
use Rattle.design_lex.specs.declared.token.Token.{Token}
use Rattle.design_lex.specs.declared.token.Token.TheVariants.{End}
use Rattle.design_grammar.specs.declared.kind.Kind.{Kind}
use Rattle.design_grammar.specs.declared.kind.Kind.TheVariants.{Name, TypeWord, One, Semicolon, Colon, Comma, Dot, Equals, OpenBrace, CloseBrace, OpenParenthesis, CloseParenthesis, Less, Greater, OpenBracket, CloseBracket, Esi, Pipe, Stages, Bundle, Service, Module, Top, ToHw, FromHw, Port, In, Out, Request, As, Implement, Inst, Chan, Drive, Stage, Buffer, Fifo, Map, Scan, Fork, Join, AsFifo, AsVr, Void, Struct, Array, Lit, Make, Cast, Zext, Slice, Not, Mux}
use Rattle.design_grammar.specs.RuleNumbers.{rule_number}
use Rattle.design_grammar.specs.declared.rule.GrammarRule.TheVariants.{TooManyOpenTypes, TooManyOpenExpressions}
use Rattle.design_grammar.specs.Kinds.{code, names, binaries, numbers, counts, refusal}
use Rattle.design_grammar.specs.Grammar.{kind_code, sample}

-- a token of one kind
abbrev pub token : Kind → Rule
token kind = one (code kind ∷ [])

abbrev pub a_name : Rule
a_name = one names

abbrev pub a_number : Rule
a_number = one numbers

-- a number of at most 2^32 - 1
abbrev pub a_count : Rule
a_count = one counts

abbrev pub optional : Rule → Rule
optional r = alt r empty

-- a rule and more of it behind commas
abbrev pub listed : Rule → Rule
listed r = r ⟫ star (token Comma ⟫ r)

abbrev pub in_parentheses : Rule → Rule
in_parentheses r = token OpenParenthesis ⟫ r ⟫ token CloseParenthesis

-- ---- types
--
--     type = typeword | "void" | "struct" "<" name ":" type { "," name ":" type } ">" | "array" "<" type "," count ">"

abbrev pub a_type : Rule
a_type = call 0

abbrev pub field_rule : Rule
field_rule = a_name ⟫ token Colon ⟫ a_type

abbrev pub struct_rule : Rule
struct_rule = token Struct ⟫ token Less ⟫ field_rule ⟫ star (token Comma ⟫ field_rule) ⟫ token Greater

abbrev pub array_rule : Rule
array_rule = token Array ⟫ token Less ⟫ a_type ⟫ token Comma ⟫ a_count ⟫ token Greater

-- one level of a type
abbrev pub level_rule : Rule
level_rule = alt (token TypeWord) (alt (token Void) (alt struct_rule array_rule))

abbrev pub type_rule : Rule
type_rule = checked 0 level_rule

-- ---- expressions
--
--     expr = base { "." name | "[" number "]" }
--     base = name | "lit" "(" type "," number ")" | "make" "(" type { "," expr } ")" | "cast" "(" type "," expr ")"
--         | "zext" "(" number "," expr ")" | "slice" "(" number "," number "," expr ")" | "not" "(" expr ")"
--         | ( "and" | "or" | "xor" | "add" | "sub" | "eq" | "lt" | "cat" ) "(" expr "," expr ")"
--         | "mux" "(" expr "," expr "," expr ")"
--
-- An operator with no parenthesis behind it is a name.

abbrev pub an_expression : Rule
an_expression = call 1

-- what stands behind an operator: its operands in parentheses, or nothing
abbrev pub operands : Rule → Rule
operands r = optional (in_parentheses r)

abbrev pub lit_rule : Rule
lit_rule = token Lit ⟫ operands (a_type ⟫ token Comma ⟫ a_number)

abbrev pub make_rule : Rule
make_rule = token Make ⟫ operands (a_type ⟫ star (token Comma ⟫ an_expression))

abbrev pub cast_rule : Rule
cast_rule = token Cast ⟫ operands (a_type ⟫ token Comma ⟫ an_expression)

abbrev pub zext_rule : Rule
zext_rule = token Zext ⟫ operands (a_number ⟫ token Comma ⟫ an_expression)

abbrev pub slice_rule : Rule
slice_rule = token Slice ⟫ operands (a_number ⟫ token Comma ⟫ a_number ⟫ token Comma ⟫ an_expression)

abbrev pub not_rule : Rule
not_rule = token Not ⟫ operands an_expression

abbrev pub binary_rule : Rule
binary_rule = one binaries ⟫ operands (an_expression ⟫ token Comma ⟫ an_expression)

abbrev pub mux_rule : Rule
mux_rule = token Mux ⟫ operands (an_expression ⟫ token Comma ⟫ an_expression ⟫ token Comma ⟫ an_expression)

abbrev pub base_rule : Rule
base_rule = alt (token Name) (alt lit_rule (alt make_rule (alt cast_rule (alt zext_rule (alt slice_rule (alt not_rule (alt binary_rule mux_rule)))))))

abbrev pub suffix_rule : Rule
suffix_rule = alt (token Dot ⟫ a_name) (token OpenBracket ⟫ a_number ⟫ token CloseBracket)

abbrev pub expression_rule : Rule
expression_rule = base_rule ⟫ star suffix_rule

-- ---- what statements refer to
--
--     appid = name [ "[" number "]" ]
--     ref = name | appid "." name

abbrev pub index_rule : Rule
index_rule = token OpenBracket ⟫ a_count ⟫ token CloseBracket

abbrev pub id_rule : Rule
id_rule = a_name ⟫ optional index_rule

abbrev pub member_name_rule : Rule
member_name_rule = token Dot ⟫ a_name

abbrev pub reference_rule : Rule
reference_rule = a_name ⟫ alt (index_rule ⟫ member_name_rule) (optional member_name_rule)

-- ---- operations
--
--     op = ( "stage" | "fork" | "as_fifo" | "as_vr" ) ref | ( "buffer" | "fifo" ) number ref | "join" ref "," ref
--         | "map" ref "(" name ")" expr | "scan" ref "(" name ":" type "=" number "," name ")" expr

abbrev pub join_rule : Rule
join_rule = token Join ⟫ reference_rule ⟫ token Comma ⟫ reference_rule

abbrev pub map_rule : Rule
map_rule = token Map ⟫ reference_rule ⟫ token OpenParenthesis ⟫ a_name ⟫ token CloseParenthesis ⟫ an_expression

abbrev pub scan_rule : Rule
scan_rule = token Scan ⟫ reference_rule ⟫ token OpenParenthesis ⟫ a_name ⟫ token Colon ⟫ a_type ⟫ token Equals ⟫ a_number ⟫ token Comma ⟫ a_name ⟫ token CloseParenthesis ⟫ an_expression

abbrev pub operation_rule : Rule
operation_rule =
    alt (token Stage ⟫ reference_rule) (alt (token Fork ⟫ reference_rule) (alt (token AsFifo ⟫ reference_rule) (alt (token AsVr ⟫ reference_rule)
    (alt (token Buffer ⟫ a_number ⟫ reference_rule) (alt (token Fifo ⟫ a_number ⟫ reference_rule) (alt join_rule (alt map_rule scan_rule)))))))

-- ---- statements
--
--     stmt = "request" name "." name "as" appid ";" | "inst" appid "=" name "(" [ bound { "," bound } ] ")" ";"
--         | "chan" name { "," name } "=" op ";" | "drive" ref "=" ref ";"
--     bound = name ":" ref

abbrev pub request_rule : Rule
request_rule = token Request ⟫ a_name ⟫ token Dot ⟫ a_name ⟫ token As ⟫ id_rule ⟫ token Semicolon

abbrev pub bound_rule : Rule
bound_rule = a_name ⟫ token Colon ⟫ reference_rule

abbrev pub instance_rule : Rule
instance_rule = token Inst ⟫ id_rule ⟫ token Equals ⟫ a_name ⟫ token OpenParenthesis ⟫ optional (listed bound_rule) ⟫ token CloseParenthesis ⟫ token Semicolon

abbrev pub channels_rule : Rule
channels_rule = token Chan ⟫ a_name ⟫ star (token Comma ⟫ a_name) ⟫ token Equals ⟫ operation_rule ⟫ token Semicolon

abbrev pub drive_rule : Rule
drive_rule = token Drive ⟫ reference_rule ⟫ token Equals ⟫ reference_rule ⟫ token Semicolon

abbrev pub statement_rule : Rule
statement_rule = alt request_rule (alt instance_rule (alt channels_rule drive_rule))

-- ---- items
--
--     bundle = "bundle" name "{" member { member } "}"
--     member = name ":" ( "to_hw" | "from_hw" ) type ";"
--     service = "service" name "{" sport { sport } "}"
--     sport = "port" name ":" name ";"
--     module = "module" name "(" [ mport { "," mport } ] ")" "{" { stmt } "}"
--     mport = ( "in" | "out" ) name ":" type

abbrev pub member_rule : Rule
member_rule = a_name ⟫ token Colon ⟫ alt (token ToHw) (token FromHw) ⟫ a_type ⟫ token Semicolon

abbrev pub bundle_rule : Rule
bundle_rule = token Bundle ⟫ a_name ⟫ token OpenBrace ⟫ member_rule ⟫ star member_rule ⟫ token CloseBrace

abbrev pub service_port_rule : Rule
service_port_rule = token Port ⟫ a_name ⟫ token Colon ⟫ a_name ⟫ token Semicolon

abbrev pub service_rule : Rule
service_rule = token Service ⟫ a_name ⟫ token OpenBrace ⟫ service_port_rule ⟫ star service_port_rule ⟫ token CloseBrace

abbrev pub module_port_rule : Rule
module_port_rule = alt (token In) (token Out) ⟫ a_name ⟫ token Colon ⟫ a_type

abbrev pub module_rule : Rule
module_rule = token Module ⟫ a_name ⟫ token OpenParenthesis ⟫ optional (listed module_port_rule) ⟫ token CloseParenthesis ⟫ token OpenBrace ⟫ star statement_rule ⟫ token CloseBrace

abbrev pub item_rule : Rule
item_rule = alt bundle_rule (alt service_rule module_rule)

-- ---- designs
--
--     design = "esi" "1" ";" ( pipe | { bundle | service | module } top )
--     pipe = "pipe" type "stages" number ";"
--     top = "top" name "{" { stmt | "implement" name ";" } "}"

abbrev pub pipe_rule : Rule
pipe_rule = token Pipe ⟫ a_type ⟫ token Stages ⟫ a_number ⟫ token Semicolon

abbrev pub implement_rule : Rule
implement_rule = token Implement ⟫ a_name ⟫ token Semicolon

abbrev pub top_rule : Rule
top_rule = token Top ⟫ a_name ⟫ token OpenBrace ⟫ star (alt statement_rule implement_rule) ⟫ token CloseBrace

abbrev pub form_rule : Rule
form_rule = alt pipe_rule (star item_rule ⟫ top_rule)

abbrev pub design_rule : Rule
design_rule = token Esi ⟫ token One ⟫ token Semicolon ⟫ form_rule

-- ---- what the grammar knows of the rules that are called

-- the kinds with which a type begins
abbrev pub type_first_set : Kinds
type_first_set = code TypeWord ∷ code Void ∷ code Struct ∷ code Array ∷ []

-- and those with which an expression may go on: a suffix, and behind an operator its operands
abbrev pub expression_follow_set : Kinds
expression_follow_set = code Dot ∷ code OpenBracket ∷ code OpenParenthesis ∷ []

-- without what goes on behind the tree of a called rule
abbrev pub unended : Grammar Token
unended = record {
  kind = kind_code;
  at_end = End;
  sample = sample;
  calls = 0 ∷ 1 ∷ [];
  body = λ n. if n == 0 then type_rule else expression_rule;
  first_set = λ n. if n == 0 then type_first_set else names;
  follow_set = λ n. if n == 0 then [] else expression_follow_set;
  follow_of = λ n t. [];
  refusal = refusal;
  limit = λ n. if n == 0 then rule_number TooManyOpenTypes else rule_number TooManyOpenExpressions;
}

-- The grammar of the design text: 103 where a type would be the 17th one open, and 208 where an expression would be the
-- 65th. Nothing goes on behind a type; behind an expression does what its own rule says.
abbrev pub designs : Grammar Token
designs = record {
  kind = kind_code;
  at_end = End;
  sample = sample;
  calls = 0 ∷ 1 ∷ [];
  body = λ n. if n == 0 then type_rule else expression_rule;
  first_set = λ n. if n == 0 then type_first_set else names;
  follow_set = λ n. if n == 0 then [] else expression_follow_set;
  follow_of = λ n t. if n == 0 then [] else follow_of unended expression_rule (inside t);
  refusal = refusal;
  limit = λ n. if n == 0 then rule_number TooManyOpenTypes else rule_number TooManyOpenExpressions;
}
