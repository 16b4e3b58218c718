use Rattle.std.proofs.Common.{[], ◌<◌, ◌^◌, length, subst}
use Rattle.std.specs.Prelude.{Result, Ok, Err, OnOk}
use Rattle.cosim_msgs.specs.ReadAgain.{message_again}
use Rattle.cosim_msgs.proofs.data_message.MessageCosimMessage.encode.Goals as goal

whatever : {A E : Type 0} (P : Type 0) (result : Result A E) → P → OnOk result P
whatever P (Ok x) h = h
whatever P (Err e) h = tt

pub returns-clause-read_again : goal.returns-clause-read_again
returns-clause-read_again c =
    whatever _ c.write_octets.result (λ _. message_again [] c.args.self.now (subst (λ xs. length xs < 2 ^ 64) c.as_slice.ensures c.write_octets.ensures.small))
