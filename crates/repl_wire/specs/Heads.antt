-- What of a message decides what its addressee is to do with it.
use Rattle.std.specs.Prelude.{ℕ}
use Rattle.replica_core.specs.declared.messages.MessageHead.{MessageHead}
use Rattle.repl_wire.specs.declared.message.Message.{Message}
use Rattle.repl_wire.specs.declared.message.Message.TheVariants as messages
use Rattle.repl_wire.specs.declared.message.Sent.{Sent}

-- the head of a message from a place: its kind and term, and the numbers that its kind has
abbrev pub head_from : ℕ → Message → MessageHead
head_from from (messages.Entry term position entry) =
    record { kind = 1; from = from; term = term; first = position; second = 0; third = 0 }
head_from from (messages.Ack term mem disk) =
    record { kind = 2; from = from; term = term; first = mem; second = disk; third = 0 }
head_from from (messages.Rejoin term accepted len incarnation) =
    record { kind = 3; from = from; term = term; first = accepted; second = len; third = incarnation }
head_from from (messages.Adopt term incarnation content) =
    record { kind = 4; from = from; term = term; first = incarnation; second = content.length; third = 0 }

abbrev pub head_of : Sent → MessageHead
head_of s = head_from s.from s.message
