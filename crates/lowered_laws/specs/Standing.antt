-- Elements that stand in a netlist, between the nets of the channels that they take and of those that they make.
use Rattle.std.specs.Prelude.{◌≡◌, ℕ, ◌+◌, ◌*◌, ◌<◌, Bool, List, [], ◌∷◌, if◌then◌else◌}
use Rattle.netlist.specs.declared.formula.Formula.{Formula}
use Rattle.netlist.specs.declared.part.Part.{Part}
use Rattle.netlist.specs.declared.part.Part.TheVariants.{Stage, Fifo, AsFifo, AsVr, Map, Scan, Fork, Join}
use Rattle.netlist.specs.Nets.{Bits}
use Rattle.netlist.specs.Plans.{Plan}
use Rattle.element_laws.specs.Histories.{Channel}
use Rattle.net_lists.specs.Runs.{ChannelNets, carried, fifo_carried}
use Rattle.formula_nets.specs.Making.{formula_net}
use Rattle.stage_nets.specs.declared.stage.StageNets.{StageNets}
use Rattle.stage_nets.specs.Stage.{HasStage}
use Rattle.stage_nets.specs.Signalling.{PassingNets, HasAsFifo, HasAsVr}
use Rattle.looped_nets.specs.Fifos.{FifoNets, HasFifo, depth, slot_of}
use Rattle.looped_nets.specs.Forks.{ForkNets, HasFork, branches, fork_ready}
use Rattle.element_nets.specs.declared.join.JoinNets.{JoinNets}
use Rattle.element_nets.specs.declared.scan.ScanNets.{ScanNets}
use Rattle.element_nets.specs.Joins.{HasJoin}
use Rattle.element_nets.specs.Maps.{HasMap}
use Rattle.element_nets.specs.Scans.{HasScan}

-- what a channel carries, whose nets these are; with FIFO signalling `valid` is the net of `empty`, and `ready` that of `rden`
abbrev pub signalled : Bool → ChannelNets → Channel (List Bits)
signalled is_fifo nets = if is_fifo then fifo_carried nets else carried nets

pub record StageStands (plan : Plan) (input output : ChannelNets) : Type 0 where
  pub stage : StageNets
  pub next : ℕ
  pub has : HasStage plan stage next
  pub takes : input ≡ record { valid = stage.valid; word = stage.word; ready = stage.room }
  pub makes : output ≡ record { valid = stage.registers; word = stage.registers + 2; ready = stage.ready }

pub record FifoStands (plan : Plan) (places : ℕ) (input output : ChannelNets) : Type 0 where
  pub fifo : FifoNets
  pub has : HasFifo plan fifo
  pub deep : depth fifo ≡ places
  pub takes : input ≡ record { valid = fifo.valid; word = fifo.word; ready = fifo.backward + 2 }
  pub makes : output ≡ record { valid = fifo.forward + 1; word = slot_of fifo 0; ready = fifo.rden }

pub record AsFifoStands (plan : Plan) (input output : ChannelNets) : Type 0 where
  pub passing : PassingNets
  pub empty : ℕ
  pub has : HasAsFifo plan passing empty
  pub takes : input ≡ record { valid = passing.valid; word = passing.word; ready = passing.ready }
  pub makes : output ≡ record { valid = empty; word = passing.word; ready = passing.ready }

pub record AsVrStands (plan : Plan) (input output : ChannelNets) : Type 0 where
  pub passing : PassingNets
  pub valid : ℕ
  pub rden : ℕ
  pub has : HasAsVr plan passing valid rden
  pub takes : input ≡ record { valid = passing.valid; word = passing.word; ready = rden }
  pub makes : output ≡ record { valid = valid; word = passing.word; ready = passing.ready }

pub record MapStands (plan : Plan) (body : Formula) (input output : ChannelNets) : Type 0 where
  pub width : ℕ
  pub at : ℕ
  pub has : HasMap plan input body width at
  pub makes : output ≡ record { valid = input.valid; word = formula_net (input.word ∷ []) body at; ready = input.ready }

pub record ScanStands (plan : Plan) (reset : Bits) (body : Formula) (input output : ChannelNets) : Type 0 where
  pub scan : ScanNets
  pub word : ℕ
  pub width : ℕ
  pub at : ℕ
  pub next : ℕ
  pub has : HasScan plan scan reset word body width at next
  pub takes : input ≡ record { valid = scan.valid; word = word; ready = scan.ready }
  pub makes : output ≡ record { valid = scan.valid; word = scan.out; ready = scan.ready }

pub record ForkStands (plan : Plan) (count : ℕ) (input : ChannelNets) (outputs : ℕ → ChannelNets) : Type 0 where
  pub fork : ForkNets
  pub has : HasFork plan fork
  pub many : branches fork ≡ count
  pub takes : input ≡ record { valid = fork.valid; word = fork.word; ready = fork_ready fork }
  pub makes : (k : ℕ) → k < count → outputs k ≡ record { valid = fork.forward + 2 * k + 1; word = fork.word; ready = fork.readies k }

pub record JoinStands (plan : Plan) (left right output : ChannelNets) : Type 0 where
  pub join : JoinNets
  pub ready : ℕ
  pub forward : ℕ
  pub backward : ℕ
  pub has : HasJoin plan join ready forward backward
  pub takes_left : left ≡ record { valid = join.left_valid; word = join.left_word; ready = backward }
  pub takes_right : right ≡ record { valid = join.right_valid; word = join.right_word; ready = backward + 1 }
  pub makes : output ≡ record { valid = forward; word = forward + 1; ready = ready }

-- a part stands between the nets of these channels
abbrev pub IsStanding : Plan → Part → (ℕ → ChannelNets) → (ℕ → ChannelNets) → Type 0
IsStanding plan (Stage width) inputs outputs = StageStands plan (inputs 0) (outputs 0)
IsStanding plan (Fifo width places) inputs outputs = FifoStands plan places (inputs 0) (outputs 0)
IsStanding plan AsFifo inputs outputs = AsFifoStands plan (inputs 0) (outputs 0)
IsStanding plan AsVr inputs outputs = AsVrStands plan (inputs 0) (outputs 0)
IsStanding plan (Map body) inputs outputs = MapStands plan body (inputs 0) (outputs 0)
IsStanding plan (Scan reset body) inputs outputs = ScanStands plan reset body (inputs 0) (outputs 0)
IsStanding plan (Fork count) inputs outputs = ForkStands plan count (inputs 0) outputs
IsStanding plan Join inputs outputs = JoinStands plan (inputs 0) (inputs 1) (outputs 0)
