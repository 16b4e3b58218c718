-- What is answered where a whole message stands.
use Rattle.std.specs.Prelude.{◌≡◌, ℕ, ◌+◌, List, take, drop, Result, Ok, Err, IfOk, OnOk}
use Rattle.std.proofs.Common.{sym, ap, subst}
use Rattle.esi_base.specs.declared.poll.Poll.TheVariants.{Ready}
use Rattle.grpc_calls.specs.declared.prefix.TheConstants.{PREFIX_OCTETS}
use Rattle.grpc_calls.specs.declared.deframer.DeframeStop.{DeframeStop}
use Rattle.grpc_calls.specs.declared.prefix.Front.TheVariants.{Whole}
use Rattle.grpc_calls.specs.Answers.{IfMessage}
use Rattle.grpc_calls.specs.Calls.{Deframing, HandsOut}
use Rattle.grpc_calls.specs.Front.{front_of}
use Rattle.grpc_calls.specs.FrontLaws.{whole_message}
use Rattle.grpc_calls.specs.Messages.{IsMessage, HoldsMessage}

pub holds_message : (limit : ℕ) (octets : List ℕ) (count : ℕ) → front_of limit octets ≡ Whole count → HoldsMessage limit octets
holds_message limit octets count e = (take count (drop PREFIX_OCTETS octets), drop (PREFIX_OCTETS + count) octets, whole_message limit octets count e)

-- the octets after the prefix were taken, and those after them are left
pub hands_out_message : (old new : Deframing) (count : ℕ) (answer : Result (List ℕ) DeframeStop) → front_of old.limit old.unread ≡ Whole count
    → IfOk answer (λ message. message ≡ take count (drop PREFIX_OCTETS old.unread))
    → OnOk answer (new ≡ record old { unread = drop (PREFIX_OCTETS + count) old.unread })
    → IfMessage (Ready answer) (λ message. HandsOut old message new)
hands_out_message old new count (Ok message) e m n =
    record {
      limit = ap (λ d. d.limit) n;
      first = subst (λ x. IsMessage old.limit old.unread x new.unread) (sym m) (subst (λ x. IsMessage old.limit old.unread (take count (drop PREFIX_OCTETS old.unread)) x) (sym (ap (λ d. d.unread) n)) (whole_message old.limit old.unread count e));
    }
hands_out_message old new count (Err stop) e m n = tt
