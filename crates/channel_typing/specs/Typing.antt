-- The type of what a statement makes, and what does not fit, from the types that are known: as it is worked out.
use Rattle.std.specs.Prelude.{ℕ, if◌then◌else◌, min, Option, Some, None, Result, Ok, Err, List, [], ◌∷◌, flat_map, length, get_or}
use Rattle.esi_base.specs.Answers.{◌>>=◌}
use Rattle.design_lex.specs.declared.limits.TheConstants.{TOO_WIDE}
use Rattle.channel_types.specs.declared.esi_type.EsiType.{EsiType}
use Rattle.channel_types.specs.Types.{width_of}
use Rattle.channel_types.specs.SameTypes.{same_types}
use Rattle.netlist.specs.declared.part.Part.{Part}
use Rattle.netlist.specs.declared.part.Part.TheVariants as P
use Rattle.netlist.specs.Nets.{Bits}
use Rattle.design_tree.specs.declared.leaves.Name.{Name}
use Rattle.design_tree.specs.declared.leaves.Reference.{Reference}
use Rattle.design_tree.specs.declared.leaves.Reference.TheVariants as R
use Rattle.design_tree.specs.declared.expression.Expression.{Expression}
use Rattle.design_tree.specs.declared.statements.Binding.{Binding}
use Rattle.design_tree.specs.declared.statements.Operation.{Operation}
use Rattle.design_tree.specs.declared.statements.Operation.TheVariants as O
use Rattle.design_tree.specs.declared.statements.Statement.{Statement}
use Rattle.design_tree.specs.declared.statements.Statement.TheVariants as S
use Rattle.expression_types.specs.Views.{Typed}
use Rattle.expression_types.specs.Typing.{typed, literal_word}
use Rattle.expression_types.specs.Rows.{first_octet}
use Rattle.check_rules.specs.Scopes.{Scope, find_module}
use Rattle.check_rules.specs.References.{reference_place}
use Rattle.body_order.specs.Makers.{maker}
use Rattle.channel_typing.specs.declared.typed_element.TypedElement.{TypedElement}
use Rattle.channel_typing.specs.declared.typed_element.TypedElement.TheVariants as E
use Rattle.channel_typing.specs.declared.limits.TheConstants.{GREATEST_COUNT}
use Rattle.channel_typing.specs.DeclaredTypes.{declared_type, port_type}
use Rattle.channel_typing.specs.Joins.{join_type, joinable}
use Rattle.channel_typing.specs.Rules.{map_variables, scan_variables}

-- ---- what is known of a body

-- for each element of a body the type of the channels that it makes, where it is known
abbrev pub Known : Type 0
Known = List (Option EsiType)

abbrev pub known_of : Known → Option ℕ → Option EsiType
known_of known None = None
known_of known (Some number) = get_or known number None

-- the element that makes a channel
abbrev pub channel_maker : List Statement → Reference → Option ℕ
channel_maker elements (R.Channel name) = maker elements (R.Channel name)
channel_maker elements (R.Member id name) = None

-- a channel has the type that is known of the element that makes it
abbrev pub made_type : List Statement → Known → Reference → Option EsiType
made_type elements known r = known_of known (channel_maker elements r)

abbrev pub or_type : Option EsiType → Option EsiType → Option EsiType
or_type None other = other
or_type (Some ty) other = Some ty

-- the type of what a reference is to, where it is declared or known
abbrev pub type_at : Scope → List Statement → Known → Reference → Option EsiType
type_at scope elements known r = or_type (declared_type scope r) (made_type elements known r)

-- ---- what an element is

-- an element: the type of the channels that it makes, if it makes some of one type, and what stands for it
pub record Made : Type 0 where
  pub ty : Option EsiType
  pub element : TypedElement

abbrev pub Making : Type 0
Making = Result Made ℕ

-- nothing is known of an element where the type of a source is not known
abbrev pub unknown : Made
unknown = record { ty = None; element = E.Unknown }

abbrev pub instance_made : Made
instance_made = record { ty = None; element = E.Instance }

abbrev pub over : Option EsiType → (EsiType → Making) → Making
over None next = Ok unknown
over (Some ty) next = next ty

-- the width of a type, where `TOO_WIDE` stands for all above the greatest one
abbrev pub width_in : EsiType → ℕ
width_in ty = min TOO_WIDE (width_of ty)

-- a number of the text, where `GREATEST_COUNT` stands for all above it
abbrev pub count_in : ℕ → ℕ
count_in count = min GREATEST_COUNT count

abbrev pub in_stages : ℕ → EsiType → Made
in_stages count ty = record { ty = Some ty; element = E.Stages count (width_in ty) }

abbrev pub as_part : Part → EsiType → Made
as_part p ty = record { ty = Some ty; element = E.Part p (width_in ty) }

-- ---- each operation

abbrev pub joined : Reference → EsiType → EsiType → Making
joined left a b = if joinable a b then Ok (as_part P.Join (join_type a b)) else Err (reference_place left)

abbrev pub mapped : Typed → Making
mapped t = Ok (as_part (P.Map t.formula) t.ty)

abbrev pub scanned : ℕ → EsiType → Bits → Typed → Making
scanned at ty word t = if same_types t.ty ty then Ok (as_part (P.Scan word t.formula) ty) else Err at

-- a map, and a scan from its first state, over a source of a type
abbrev pub map_over : Name → Expression → EsiType → Making
map_over variable body a = typed (map_variables variable a) body >>= mapped

abbrev pub scan_over : Name → EsiType → Name → Expression → Bits → EsiType → Making
scan_over state ty variable body word a = typed (scan_variables state ty variable a) body >>= scanned (first_octet body) ty word

abbrev pub scan_from : Name → EsiType → Name → Expression → EsiType → Option Bits → Making
scan_from state ty variable body a None = Err (first_octet body)
scan_from state ty variable body a (Some word) = scan_over state ty variable body word a

-- An operation that makes so many channels, with the types of its sources.
abbrev pub operation_made : (Reference → Option EsiType) → ℕ → Operation → Making
operation_made of channels (O.Stage source) = over (of source) (λ a. Ok (in_stages 1 a))
operation_made of channels (O.Buffer count source) = over (of source) (λ a. Ok (in_stages (count_in count.value) a))
operation_made of channels (O.Fifo depth source) = over (of source) (λ a. Ok (as_part (P.Fifo (width_in a) (count_in depth.value)) a))
operation_made of channels (O.AsFifo source) = over (of source) (λ a. Ok (as_part P.AsFifo a))
operation_made of channels (O.AsVr source) = over (of source) (λ a. Ok (as_part P.AsVr a))
operation_made of channels (O.Fork source) = over (of source) (λ a. Ok (as_part (P.Fork (count_in channels)) a))
operation_made of channels (O.Join left right) = over (of left) (λ a. over (of right) (joined left a))
operation_made of channels (O.Map source variable body) = over (of source) (map_over variable body)
operation_made of channels (O.Scan source state ty initial variable body) =
    over (of source) (λ a. scan_from state ty variable body a (literal_word ty initial.value))

-- ---- ports and drives

-- the place, where both types are known and are two
abbrev pub unless_same : ℕ → Option EsiType → Option EsiType → List ℕ
unless_same at None other = []
unless_same at (Some asked) None = []
unless_same at (Some asked) (Some ty) = if same_types ty asked then [] else at ∷ []

abbrev pub bound_misfits : Scope → (Reference → Option EsiType) → Name → Binding → List ℕ
bound_misfits scope of body b = unless_same (reference_place b.source) (port_type b.port (find_module body scope.modules)) (of b.source)

abbrev pub driven_misfits : (Reference → Option EsiType) → Reference → Reference → List ℕ
driven_misfits of sink source = unless_same (reference_place source) (of sink) (of source)

-- ---- statements

abbrev pub refusals : {A : Type 0} → Result A ℕ → List ℕ
refusals (Ok value) = []
refusals (Err at) = at ∷ []

-- the places at which an element does not fit, in the order of the text
abbrev pub element_misfits : Scope → (Reference → Option EsiType) → Statement → List ℕ
element_misfits scope of (S.Request at service port id) = []
element_misfits scope of (S.Instance at id body bindings) = flat_map (bound_misfits scope of body) bindings
element_misfits scope of (S.Channels at names operation) = refusals (operation_made of (length names) operation)
element_misfits scope of (S.Drive at sink source) = []

-- the place at which a drive does not fit
abbrev pub drive_misfit : (Reference → Option EsiType) → Statement → List ℕ
drive_misfit of (S.Request at service port id) = []
drive_misfit of (S.Instance at id body bindings) = []
drive_misfit of (S.Channels at names operation) = []
drive_misfit of (S.Drive at sink source) = driven_misfits of sink source

-- what an element makes, where it fits
abbrev pub made_or : Making → Made
made_or (Ok made) = made
made_or (Err at) = unknown

abbrev pub statement_made : (Reference → Option EsiType) → Statement → Made
statement_made of (S.Request at service port id) = unknown
statement_made of (S.Instance at id body bindings) = instance_made
statement_made of (S.Channels at names operation) = made_or (operation_made of (length names) operation)
statement_made of (S.Drive at sink source) = unknown
