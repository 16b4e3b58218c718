-- The tokens with which a design is written, part by part, by the grammar of the design text. They do not depend on the
-- tree's offsets.
use Rattle.std.specs.Prelude.{ℕ, Option, Some, None, List, [], ◌∷◌, ◌++◌, map, codes}
use Rattle.std.specs.List.{flat_map}
use Rattle.design_lex.specs.declared.token.Token.{Token}
use Rattle.design_lex.specs.declared.token.Token.TheVariants.{Word, TypeWord, Number as NumberToken, Sign}
use Rattle.channel_types.specs.declared.esi_type.EsiType.{EsiType}
use Rattle.channel_types.specs.declared.esi_type.EsiType.TheOpen.{EsiType-F, Field-F}
use Rattle.channel_types.specs.declared.esi_type.EsiType.TheFolds.{fold-EsiType, fold-Field}
use Rattle.channel_types.specs.declared.esi_type.Field.{Field as TypeField}
use Rattle.design_tree.specs.declared.leaves.Name.{Name}
use Rattle.design_tree.specs.declared.leaves.Number.{Number}
use Rattle.design_tree.specs.declared.leaves.ApplicationId.{ApplicationId}
use Rattle.design_tree.specs.declared.leaves.Reference.{Reference}
use Rattle.design_tree.specs.declared.leaves.Reference.TheVariants as R
use Rattle.design_tree.specs.declared.expression.Suffix.{Suffix}
use Rattle.design_tree.specs.declared.expression.Suffix.TheVariants as X
use Rattle.design_tree.specs.declared.expression.Expression.{Expression}
use Rattle.design_tree.specs.declared.expression.Expression.TheOpen.{Expression-F}
use Rattle.design_tree.specs.declared.expression.Expression.TheFolds.{fold-Expression}
use Rattle.design_tree.specs.declared.statements.Binding.{Binding}
use Rattle.design_tree.specs.declared.statements.Operation.{Operation}
use Rattle.design_tree.specs.declared.statements.Operation.TheVariants as O
use Rattle.design_tree.specs.declared.statements.Statement.{Statement}
use Rattle.design_tree.specs.declared.statements.Statement.TheVariants as S
use Rattle.design_tree.specs.declared.declarations.Member.{Member}
use Rattle.design_tree.specs.declared.declarations.Bundle.{Bundle}
use Rattle.design_tree.specs.declared.declarations.ServicePort.{ServicePort}
use Rattle.design_tree.specs.declared.declarations.Service.{Service}
use Rattle.design_tree.specs.declared.declarations.ModulePort.{ModulePort}
use Rattle.design_tree.specs.declared.declarations.Module.{Module}
use Rattle.design_tree.specs.declared.declarations.Declaration.{Declaration}
use Rattle.design_tree.specs.declared.declarations.Declaration.TheVariants as I
use Rattle.design_tree.specs.declared.design.Pipe.{Pipe}
use Rattle.design_tree.specs.declared.top.TopItem.{TopItem}
use Rattle.design_tree.specs.declared.top.TopItem.TheVariants as P
use Rattle.design_tree.specs.declared.top.Top.{Top}
use Rattle.design_tree.specs.declared.design.DesignTree.{DesignTree}
use Rattle.design_tree.specs.declared.design.DesignTree.TheVariants as F
use Rattle.design_tree.specs.Words.{operator_word, direction_word, port_direction_word}

-- ---- signs

abbrev pub SEMICOLON : Token
SEMICOLON = Sign 59

abbrev pub COLON : Token
COLON = Sign 58

abbrev pub COMMA : Token
COMMA = Sign 44

abbrev pub DOT : Token
DOT = Sign 46

abbrev pub EQUALS : Token
EQUALS = Sign 61

abbrev pub OPEN_BRACE : Token
OPEN_BRACE = Sign 123

abbrev pub CLOSE_BRACE : Token
CLOSE_BRACE = Sign 125

abbrev pub OPEN : Token
OPEN = Sign 40

abbrev pub CLOSE : Token
CLOSE = Sign 41

abbrev pub LESS : Token
LESS = Sign 60

abbrev pub GREATER : Token
GREATER = Sign 62

abbrev pub OPEN_BRACKET : Token
OPEN_BRACKET = Sign 91

abbrev pub CLOSE_BRACKET : Token
CLOSE_BRACKET = Sign 93

-- ---- lists, names and numbers

-- lists of tokens with commas between them
abbrev pub with_commas : List (List Token) → List Token
with_commas [] = []
with_commas (x ∷ xs) = x ++ flat_map (λ y. COMMA ∷ y) xs

abbrev pub name_token : Name → Token
name_token n = Word n.octets

abbrev pub number_token : Number → Token
number_token n = NumberToken n.value

-- ---- type = typeword | "void" | "struct" "<" name ":" type { "," name ":" type } ">" | "array" "<" type "," number ">"

abbrev pub type_step : EsiType-F (List Token) (List Token) → List Token
type_step (EsiType-F.Bits class width) = TypeWord class width ∷ []
type_step EsiType-F.Void = Word (codes "void") ∷ []
type_step (EsiType-F.Struct fields) = Word (codes "struct") ∷ LESS ∷ (with_commas fields ++ GREATER ∷ [])
type_step (EsiType-F.Array item count) = Word (codes "array") ∷ LESS ∷ (item ++ COMMA ∷ NumberToken count ∷ GREATER ∷ [])

abbrev pub field_step : Field-F (List Token) (List Token) → List Token
field_step f = Word f.name ∷ COLON ∷ f.ty

abbrev pub type_tokens : EsiType → List Token
type_tokens = fold-EsiType (List Token) (List Token) type_step field_step

abbrev pub field_tokens : TypeField → List Token
field_tokens = fold-Field (List Token) (List Token) type_step field_step

-- ---- expr = base { "." name | "[" number "]" }

-- an operator's word, and its operands in parentheses with commas between them
abbrev pub application : List ℕ → List (List Token) → List Token
application operator operands = Word operator ∷ OPEN ∷ (with_commas operands ++ CLOSE ∷ [])

abbrev pub suffix_tokens : Suffix → List Token
suffix_tokens (X.Field name) = DOT ∷ name_token name ∷ []
suffix_tokens (X.Element index) = OPEN_BRACKET ∷ number_token index ∷ CLOSE_BRACKET ∷ []

abbrev pub expression_step : Expression-F (List Token) → List Token
expression_step (Expression-F.Variable name) = name_token name ∷ []
expression_step (Expression-F.Part of suffixes) = of ++ flat_map suffix_tokens suffixes
expression_step (Expression-F.Literal at ty value) = application (codes "lit") (type_tokens ty ∷ (number_token value ∷ []) ∷ [])
expression_step (Expression-F.Make at ty parts) = application (codes "make") (type_tokens ty ∷ parts)
expression_step (Expression-F.Cast at ty of) = application (codes "cast") (type_tokens ty ∷ of ∷ [])
expression_step (Expression-F.Zext at width of) = application (codes "zext") ((number_token width ∷ []) ∷ of ∷ [])
expression_step (Expression-F.Slice at high low of) = application (codes "slice") ((number_token high ∷ []) ∷ (number_token low ∷ []) ∷ of ∷ [])
expression_step (Expression-F.Not at of) = application (codes "not") (of ∷ [])
expression_step (Expression-F.Binary at operator left right) = application (operator_word operator) (left ∷ right ∷ [])
expression_step (Expression-F.Mux at condition when_one when_zero) = application (codes "mux") (condition ∷ when_one ∷ when_zero ∷ [])

abbrev pub expression_tokens : Expression → List Token
expression_tokens = fold-Expression (List Token) expression_step

-- ---- appid = name [ "[" number "]" ] and ref = name | appid "." name

abbrev pub index_tokens : Option ℕ → List Token
index_tokens None = []
index_tokens (Some n) = OPEN_BRACKET ∷ NumberToken n ∷ CLOSE_BRACKET ∷ []

abbrev pub id_tokens : ApplicationId → List Token
id_tokens id = name_token id.name ∷ index_tokens id.index

abbrev pub reference_tokens : Reference → List Token
reference_tokens (R.Channel name) = name_token name ∷ []
reference_tokens (R.Member id name) = id_tokens id ++ DOT ∷ name_token name ∷ []

-- ---- op

abbrev pub operation_tokens : Operation → List Token
operation_tokens (O.Stage source) = Word (codes "stage") ∷ reference_tokens source
operation_tokens (O.Fork source) = Word (codes "fork") ∷ reference_tokens source
operation_tokens (O.AsFifo source) = Word (codes "as_fifo") ∷ reference_tokens source
operation_tokens (O.AsVr source) = Word (codes "as_vr") ∷ reference_tokens source
operation_tokens (O.Buffer stages source) = Word (codes "buffer") ∷ number_token stages ∷ reference_tokens source
operation_tokens (O.Fifo depth source) = Word (codes "fifo") ∷ number_token depth ∷ reference_tokens source
operation_tokens (O.Join left right) = Word (codes "join") ∷ (reference_tokens left ++ COMMA ∷ reference_tokens right)
operation_tokens (O.Map source variable body) = Word (codes "map") ∷ (reference_tokens source ++ OPEN ∷ name_token variable ∷ CLOSE ∷ expression_tokens body)
operation_tokens (O.Scan source state ty initial variable body) =
    Word (codes "scan") ∷ (reference_tokens source ++ OPEN ∷ name_token state ∷ COLON ∷ (type_tokens ty ++ EQUALS ∷ number_token initial ∷ COMMA ∷ name_token variable ∷ CLOSE ∷ expression_tokens body))

-- ---- stmt

abbrev pub binding_tokens : Binding → List Token
binding_tokens b = name_token b.port ∷ COLON ∷ reference_tokens b.source

abbrev pub single_name : Name → List Token
single_name n = name_token n ∷ []

abbrev pub statement_tokens : Statement → List Token
statement_tokens (S.Request at service port id) = Word (codes "request") ∷ name_token service ∷ DOT ∷ name_token port ∷ Word (codes "as") ∷ (id_tokens id ++ SEMICOLON ∷ [])
statement_tokens (S.Instance at id of bindings) =
    Word (codes "inst") ∷ (id_tokens id ++ EQUALS ∷ name_token of ∷ OPEN ∷ (with_commas (map binding_tokens bindings) ++ CLOSE ∷ SEMICOLON ∷ []))
statement_tokens (S.Channels at names operation) = Word (codes "chan") ∷ (with_commas (map single_name names) ++ EQUALS ∷ (operation_tokens operation ++ SEMICOLON ∷ []))
statement_tokens (S.Drive at sink source) = Word (codes "drive") ∷ (reference_tokens sink ++ EQUALS ∷ (reference_tokens source ++ SEMICOLON ∷ []))

-- ---- bundles, services and modules

abbrev pub member_tokens : Member → List Token
member_tokens m = name_token m.name ∷ COLON ∷ Word (direction_word m.direction) ∷ (type_tokens m.ty ++ SEMICOLON ∷ [])

abbrev pub bundle_tokens : Bundle → List Token
bundle_tokens b = Word (codes "bundle") ∷ name_token b.name ∷ OPEN_BRACE ∷ (flat_map member_tokens b.members ++ CLOSE_BRACE ∷ [])

abbrev pub service_port_tokens : ServicePort → List Token
service_port_tokens p = Word (codes "port") ∷ name_token p.name ∷ COLON ∷ name_token p.bundle ∷ SEMICOLON ∷ []

abbrev pub service_tokens : Service → List Token
service_tokens s = Word (codes "service") ∷ name_token s.name ∷ OPEN_BRACE ∷ (flat_map service_port_tokens s.ports ++ CLOSE_BRACE ∷ [])

abbrev pub module_port_tokens : ModulePort → List Token
module_port_tokens p = Word (port_direction_word p.direction) ∷ name_token p.name ∷ COLON ∷ type_tokens p.ty

abbrev pub module_tokens : Module → List Token
module_tokens m =
    Word (codes "module") ∷ name_token m.name ∷ OPEN ∷ (with_commas (map module_port_tokens m.ports) ++ CLOSE ∷ OPEN_BRACE ∷ (flat_map statement_tokens m.body ++ CLOSE_BRACE ∷ []))

abbrev pub declaration_tokens : Declaration → List Token
declaration_tokens (I.Bundle b) = bundle_tokens b
declaration_tokens (I.Service s) = service_tokens s
declaration_tokens (I.Module m) = module_tokens m

-- ---- top and design

abbrev pub top_item_tokens : TopItem → List Token
top_item_tokens (P.Statement statement) = statement_tokens statement
top_item_tokens (P.Implement service) = Word (codes "implement") ∷ name_token service ∷ SEMICOLON ∷ []

abbrev pub top_tokens : Top → List Token
top_tokens t = Word (codes "top") ∷ name_token t.name ∷ OPEN_BRACE ∷ (flat_map top_item_tokens t.body ++ CLOSE_BRACE ∷ [])

abbrev pub pipe_tokens : Pipe → List Token
pipe_tokens p = Word (codes "pipe") ∷ (type_tokens p.ty ++ Word (codes "stages") ∷ number_token p.stages ∷ SEMICOLON ∷ [])

abbrev pub tokens_after_version : DesignTree → List Token
tokens_after_version (F.Pipe pipe) = pipe_tokens pipe
tokens_after_version (F.Modules declarations top) = flat_map declaration_tokens declarations ++ top_tokens top

-- The tokens of a whole design text: its version, and those after it.
abbrev pub tokens_of : DesignTree → List Token
tokens_of tree = Word (codes "esi") ∷ NumberToken 1 ∷ SEMICOLON ∷ tokens_after_version tree
