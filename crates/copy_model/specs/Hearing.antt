-- What a copy does with a message.
use Rattle.std.specs.Prelude.{ℕ, nat_eq, nat_le, nat_lt, Bool, true, false, ◌&&◌, None, if◌then◌else◌}
use Rattle.vb_log.specs.declared.entry.Entry.{Entry}
use Rattle.vb_log.specs.declared.entry.Entry.TheVariants as entries
use Rattle.vb_log.specs.declared.limits.TheConstants.{CONTENT_LIMIT, LOG_LIMIT}
use Rattle.vb_log.specs.Content.{Content}
use Rattle.vb_log.specs.Sizes.{size, can_add}
use Rattle.vb_log.specs.Logs.{LogKind}
use Rattle.replica_core.specs.declared.messages.TheConstants.{ENTRY, ACK, REJOIN, ADOPT}
use Rattle.replica_core.specs.declared.messages.MessageHead.{MessageHead}
use Rattle.replica_core.specs.declared.messages.Heard.{Heard}
use Rattle.replica_core.specs.declared.messages.Heard.TheVariants as hearing
use Rattle.replica_core.specs.Hearing.{heard}
use Rattle.copy_model.specs.Copies.{Message, EntrySent, AckSent, RejoinSent, AdoptSent, Sent, Copy, LayoutKind, Luck, fails_disk}
use Rattle.copy_model.specs.Entries.{content, log_length, core_of, saying, acknowledging, grown, settled, counting}
use Rattle.copy_model.specs.Disk.{Put, Done, NoRoom, Failed, dead_with, write_promise, flushed_first}

-- ---- heads

-- a message's head
abbrev pub head_of : {L : Type 0} → LogKind L → ℕ → Message L → MessageHead
head_of k from (EntrySent term position entry) =
    record { kind = ENTRY; from = from; term = term; first = position; second = 0; third = 0 }
head_of k from (AckSent term mem disk) =
    record { kind = ACK; from = from; term = term; first = mem; second = disk; third = 0 }
head_of k from (RejoinSent term accepted length incarnation) = record {
  kind = REJOIN;
  from = from;
  term = term;
  first = accepted;
  second = length;
  third = incarnation;
}
head_of k from (AdoptSent term incarnation log) = record {
  kind = ADOPT;
  from = from;
  term = term;
  first = incarnation;
  second = (k.view log).length;
  third = 0;
}

-- the term of a message
abbrev pub message_term : {L : Type 0} → Message L → ℕ
message_term (EntrySent term position entry) = term
message_term (AckSent term mem disk) = term
message_term (RejoinSent term accepted length incarnation) = term
message_term (AdoptSent term incarnation log) = term

-- what a copy that heard a message is, by what its write came to: without room it is as it was
abbrev pub put_or : {C : Type 0} → (C → C) → C → Put C → C
put_or f c (Done d) = f d
put_or f c (NoRoom needed free) = c
put_or f c (Failed d) = d

-- ---- an Entry is appended

-- whether an entry may begin with a flush: a Commit and an Abort never do
abbrev pub begins_with_flush : Entry → Bool
begins_with_flush (entries.Mutation key doc) = true
begins_with_flush (entries.Deletion key cas) = true
begins_with_flush (entries.Prepare key what level) = true
begins_with_flush (entries.Commit of) = false
begins_with_flush (entries.Abort of) = false
begins_with_flush (entries.Manifest text) = true

-- whether an entry may be appended: it can be added, and the log isn't full
abbrev pub can_append : Content → Entry → Bool
can_append content e = can_add content e && nat_lt content.length LOG_LIMIT

-- the entry is added, and the copy tells how far it is
abbrev pub appended : {L Y : Type 0} → LogKind L → Entry → Copy L Y → Copy L Y
appended k e c = acknowledging k (grown k e c)

-- an entry that may be appended is, after a flush where it must be; another is ignored
abbrev pub appending :
    {L Y : Type 0} → LogKind L → LayoutKind Y → Luck Y → Entry → Copy L Y → Copy L Y
appending k y luck e c =
    if can_append (content k c) e
    then (if begins_with_flush e
    then put_or (appended k e) c (flushed_first k y luck c)
    else appended k e c)
    else c

-- ---- an Adopt is taken

-- whether a copy can hold a log that comes to this
abbrev pub can_hold : Content → Bool
can_hold content = nat_le (size content) CONTENT_LIMIT && nat_le content.length LOG_LIMIT

-- log and term are taken; the copy is whole, and tells how far it is
abbrev pub taken : {L Y : Type 0} → LogKind L → ℕ → L → Copy L Y → Copy L Y
taken k term log c =
    acknowledging k (record c { log = log; accepted = term; whole = true; anew = true })

-- a promise that is lower is raised on disk
abbrev pub promising : {L Y : Type 0} → Luck Y → ℕ → Copy L Y → Put (Copy L Y)
promising luck term c = if nat_lt c.promise term then write_promise luck term c else Done c

-- a log that the copy can hold is taken, once its term is promised; another is ignored
abbrev pub adopting : {L Y : Type 0} → LogKind L → Luck Y → ℕ → L → Copy L Y → Copy L Y
adopting k luck term log c =
    if can_hold (k.view log) then put_or (taken k term log) c (promising luck term c) else c

-- a copy that has all that was brought is whole, and tells how far it is
abbrev pub made_whole : {L Y : Type 0} → LogKind L → Copy L Y → Copy L Y
made_whole k c = acknowledging k (record c { whole = true })

-- ---- Rejoin

-- a copy asks for all of a term
abbrev pub asking : {L Y : Type 0} → LogKind L → ℕ → ℕ → Copy L Y → Copy L Y
asking k to term c =
    saying to (RejoinSent term c.accepted (log_length k c) c.incarnation) c

-- an active copy gives all that it has, which it may have to read
abbrev pub giving : {L Y : Type 0} → Luck Y → ℕ → ℕ → Copy L Y → Copy L Y
giving luck to incarnation c =
    if fails_disk luck.chance then dead_with None c
    else saying to (AdoptSent c.accepted incarnation c.log) c

-- ---- any message

-- an Entry is appended
abbrev pub append_it :
    {L Y : Type 0} → LogKind L → LayoutKind Y → Luck Y → Message L → Copy L Y → Copy L Y
append_it k y luck (EntrySent term position e) c = appending k y luck e c
append_it k y luck (AckSent term mem disk) c = c
append_it k y luck (RejoinSent term accepted length incarnation) c = c
append_it k y luck (AdoptSent term incarnation log) c = c

-- an Adopt is taken
abbrev pub take_it : {L Y : Type 0} → LogKind L → Luck Y → Message L → Copy L Y → Copy L Y
take_it k luck (EntrySent term position e) c = c
take_it k luck (AckSent term mem disk) c = c
take_it k luck (RejoinSent term accepted length incarnation) c = c
take_it k luck (AdoptSent term incarnation log) c = adopting k luck term log c

-- an Ack is counted, and what it makes ready is committed
abbrev pub count_it : {L Y : Type 0} → LogKind L → ℕ → Message L → Copy L Y → Copy L Y
count_it k from (EntrySent term position e) c = c
count_it k from (AckSent term mem disk) c = settled k (counting from mem disk c)
count_it k from (RejoinSent term accepted length incarnation) c = c
count_it k from (AdoptSent term incarnation log) c = c

-- a Rejoin is answered
abbrev pub give_it : {L Y : Type 0} → Luck Y → ℕ → Message L → Copy L Y → Copy L Y
give_it luck from (EntrySent term position e) c = c
give_it luck from (AckSent term mem disk) c = c
give_it luck from (RejoinSent term accepted length incarnation) c =
    giving luck from incarnation c
give_it luck from (AdoptSent term incarnation log) c = c

-- what a copy does with a message, by what its head asks
abbrev pub doing :
    {L Y : Type 0} → LogKind L → LayoutKind Y → Luck Y → ℕ → Message L → Heard
    → Copy L Y → Copy L Y
doing k y luck from message hearing.Ignore c = c
doing k y luck from message hearing.Acknowledge c = acknowledging k c
doing k y luck from message hearing.AskRejoin c = asking k from (message_term message) c
doing k y luck from message hearing.Append c = append_it k y luck message c
doing k y luck from message hearing.TakeAll c = take_it k luck message c
doing k y luck from message hearing.MarkWhole c = made_whole k c
doing k y luck from message hearing.GiveAdopt c = give_it luck from message c
doing k y luck from message hearing.Count c = count_it k from message c

-- whether a message is for a copy
abbrev pub is_for : {L Y : Type 0} → Sent L → Copy L Y → Bool
is_for sent c = nat_eq sent.to c.place && nat_eq sent.vbucket c.number

-- what a copy is once it has heard a message
abbrev pub hearing_it :
    {L Y : Type 0} → LogKind L → LayoutKind Y → Luck Y → Sent L → Copy L Y → Copy L Y
hearing_it k y luck sent c =
    if is_for sent c
    then doing k y luck sent.from sent.message
    (heard (core_of k c) (head_of k sent.from sent.message)) c
    else c
