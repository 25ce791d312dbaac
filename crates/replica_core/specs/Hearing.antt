-- What a copy is to do with a message, by the message's head.
use Rattle.std.specs.Prelude.{◌+◌, nat_eq, nat_le, nat_lt, ◌&&◌, if◌then◌else◌}
use Rattle.std.specs.List.{list_any}
use Rattle.durability_core.specs.Chains.{named_places}
use Rattle.replica_core.specs.declared.copy.CopyCore.{CopyCore}
use Rattle.replica_core.specs.declared.copy.Role.{Role}
use Rattle.replica_core.specs.declared.copy.Role.TheVariants as roles
use Rattle.replica_core.specs.declared.messages.MessageHead.{MessageHead}
use Rattle.replica_core.specs.declared.messages.Heard.{Heard}
use Rattle.replica_core.specs.declared.messages.Heard.TheVariants as hearing
use Rattle.replica_core.specs.declared.messages.TheConstants.{ENTRY, ACK, REJOIN, ADOPT}
use Rattle.replica_core.specs.Terms.{owns}

-- ---- what a replica or a pending copy hears

-- an Entry of the accepted term, by its position: one that is there, the next one, or one further
-- on
abbrev pub heard_next : CopyCore → MessageHead → Heard
heard_next core head =
    if nat_le head.first core.length then hearing.Acknowledge
    else (if nat_eq head.first (core.length + 1) then hearing.Append else hearing.AskRejoin)

-- an Entry: one of another term is answered by asking for all
abbrev pub heard_entry : CopyCore → MessageHead → Heard
heard_entry core head =
    if nat_eq head.term core.accepted then heard_next core head else hearing.AskRejoin

-- an Ack: a copy that is whole and has as much of this term needs nothing
abbrev pub heard_ack : CopyCore → MessageHead → Heard
heard_ack core head =
    if nat_eq head.term core.accepted && nat_le head.first core.length && core.whole
    then hearing.Ignore else hearing.AskRejoin

-- an Adopt for this incarnation, by its term and how much it brings
abbrev pub heard_all : CopyCore → MessageHead → Heard
heard_all core head =
    if nat_lt core.accepted head.term then hearing.TakeAll
    else (if nat_lt head.term core.accepted then hearing.Ignore
    else (if nat_lt core.length head.second then hearing.TakeAll else hearing.MarkWhole))

-- an Adopt: one for another incarnation is too late
abbrev pub heard_adopt : CopyCore → MessageHead → Heard
heard_adopt core head =
    if nat_eq head.first core.incarnation then heard_all core head else hearing.Ignore

-- by the kind of the message
abbrev pub heard_kind : CopyCore → MessageHead → Heard
heard_kind core head =
    if nat_eq head.kind ENTRY then heard_entry core head
    else (if nat_eq head.kind ACK then heard_ack core head
    else (if nat_eq head.kind ADOPT then heard_adopt core head else hearing.Ignore))

-- the owner of a term that isn't below its promise
abbrev pub heard_passive : CopyCore → MessageHead → Heard
heard_passive core head =
    if owns head.from head.term && nat_le core.promise head.term
    then heard_kind core head else hearing.Ignore

-- ---- what an active copy hears

-- Ack and Rejoin of its own term
abbrev pub heard_active : CopyCore → MessageHead → Heard
heard_active core head =
    if nat_eq head.term core.accepted
    then (if nat_eq head.kind ACK then hearing.Count
    else (if nat_eq head.kind REJOIN then hearing.GiveAdopt else hearing.Ignore))
    else hearing.Ignore

-- ---- what any copy hears

-- by the copy's role
abbrev pub heard_as : Role → CopyCore → MessageHead → Heard
heard_as roles.Active core head = heard_active core head
heard_as roles.Replica core head = heard_passive core head
heard_as roles.Pending core head = heard_passive core head
heard_as roles.Dead core head = hearing.Ignore

-- what a copy is to do with a message: nothing, where it comes from a place without a name
abbrev pub heard : CopyCore → MessageHead → Heard
heard core head =
    if list_any (nat_eq head.from) (named_places core.chain)
    then heard_as core.role core head else hearing.Ignore
