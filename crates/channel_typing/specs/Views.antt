-- What the types of the code are.
use Rattle.std.specs.Prelude.{Option, Some, None}
use Rattle.channel_types.specs.declared.esi_type.EsiType.{EsiType}
use Rattle.expression_types.specs.Views.{Typed, type_in}
use Rattle.channel_typing.specs.declared.source_type.SourceType.{SourceType}
use Rattle.channel_typing.specs.declared.source_type.SourceType.TheVariants as C
use Rattle.channel_typing.specs.declared.origin.Origin.{Origin}
use Rattle.channel_typing.specs.declared.origin.Origin.TheVariants as W
use Rattle.channel_typing.specs.declared.own_type.OwnType.{OwnType}
use Rattle.channel_typing.specs.declared.own_type.OwnType.TheVariants as N
use Rattle.channel_typing.specs.declared.own_type.Computed.{Computed}
use Rattle.channel_typing.specs.declared.made_element.NewType.{NewType}
use Rattle.channel_typing.specs.declared.made_element.NewType.TheVariants as M
use Rattle.channel_typing.specs.declared.made_element.MadeElement.{MadeElement}
use Rattle.channel_typing.specs.Typing.{Known, known_of, Made}

-- the type of a source
abbrev pub source_in : SourceType → EsiType
source_in (C.Value v) = type_in v
source_in (C.Made ty) = ty.now

-- where the type of a reference comes from
abbrev pub origin_in : Known → Origin → Option EsiType
origin_in known (W.Declared ty) = Some ty.now
origin_in known (W.Maker number) = known_of known (Some number)
origin_in known W.Nowhere = None

abbrev pub own_in : OwnType → EsiType
own_in (N.Value v) = type_in v
own_in (N.Own ty) = ty

abbrev pub computed_in : Computed → Typed
computed_in c = record { at = c.at; ty = own_in c.ty; formula = c.formula }

abbrev pub new_in : Known → NewType → Option EsiType
new_in known (M.Passed origin) = origin_in known origin
new_in known (M.Computed own) = Some (own_in own)
new_in known M.Unknown = None

abbrev pub made_in : Known → MadeElement → Made
made_in known m = record { ty = new_in known m.ty; element = m.element }
