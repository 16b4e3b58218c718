-- The code's values as plain ones.
use Rattle.std.specs.Prelude.{ℕ, List}
use Rattle.name_tables.specs.Labels.{Label}
use Rattle.name_tables.specs.Keys.{label_of}
use Rattle.body_plans.specs.declared.channel.ChannelKey.{ChannelKey}
use Rattle.body_plans.specs.declared.endpoints.Endpoints.{Endpoints}
use Rattle.body_plans.specs.Channels.{Channel, Before, Places}

abbrev pub channel_of : ChannelKey → Channel
channel_of k = record { name = label_of k.name; endpoint = label_of k.endpoint }

abbrev pub before_of : List Label → List Endpoints → Before
before_of names endpoints = record { names = names; endpoints = endpoints }

abbrev pub places_in : List Label → List Label → ℕ → Places
places_in names endpoints count = record { names = names; endpoints = endpoints; count = count }
