-- The entries of a hub's journal, as those of the rules of a cycle.
use Rattle.std.specs.Prelude.{ℕ, List, map}
use Rattle.cycle_rules.specs.Circuit.{Bits}
use Rattle.cycle_rules.specs.Puts.{words_on}
use Rattle.cycle_rules.specs.declared.transfer.Transfer.{Transfer}
use Rattle.endpoint_hub.specs.declared.journal.Handed.{Handed}
use Rattle.endpoint_hub.specs.declared.journal.Taken.{Taken}

-- a value taken, without its sender
abbrev pub transfer_of : Taken → Transfer
transfer_of taken = record { cycle = taken.cycle; channel = taken.channel; word = taken.word }

-- a value handed, without its bits
abbrev pub hand_of : Transfer → Handed
hand_of transfer = record { cycle = transfer.cycle; channel = transfer.channel }

-- the words that a journal says were taken on a channel
abbrev pub words_noted : ℕ → List Taken → List Bits
words_noted channel taken = words_on channel (map transfer_of taken)
