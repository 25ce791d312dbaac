-- Which messages of a copy stand in memory.
use Rattle.std.specs.Prelude.{ℕ, ◌+◌, List, [], ◌∷◌, ◌++◌, map as list_map}
use Rattle.vb_log.specs.Content.{Content}
use Rattle.vb_log.specs.declared.entry.Entry.{Entry}
use Rattle.vb_log.specs.declared.entry.Entry.TheVariants as entries
use Rattle.copy_model.specs.Copies.{Message, EntrySent, AckSent, RejoinSent, AdoptSent, Sent}
use Rattle.repl_wire.specs.declared.message.Message.{Message as Kept}
use Rattle.repl_wire.specs.declared.message.Message.TheVariants as messages
use Rattle.repl_wire.specs.declared.message.Sent.{Sent as KeptSent}

-- the message that stands in memory so
abbrev pub message_of : Kept → Message Content
message_of (messages.Entry term position entry) = EntrySent term position entry
message_of (messages.Ack term mem disk) = AckSent term mem disk
message_of (messages.Rejoin term accepted length incarnation) = RejoinSent term accepted length incarnation
message_of (messages.Adopt term incarnation content) = AdoptSent term incarnation content

-- the same, from place to place
abbrev pub sent_of : KeptSent → Sent Content
sent_of s = record { from = s.from; to = s.to; vbucket = s.vbucket; message = message_of s.message }

-- messages, in their order
abbrev pub sents_of : List KeptSent → List (Sent Content)
sents_of sents = list_map sent_of sents

-- a message that stands in memory, from a place and a vbucket to a place
abbrev pub kept_to : ℕ → ℕ → Kept → ℕ → KeptSent
kept_to from vbucket message to = record { from = from; to = to; vbucket = vbucket; message = message }

-- an entry at a position of a term's log, to each of these places
abbrev pub entry_to_each : ℕ → ℕ → ℕ → List ℕ → ℕ → Entry → List KeptSent
entry_to_each from vbucket term others position entry =
    list_map (kept_to from vbucket (messages.Entry term position entry)) others

-- the Commits of prepares, behind a log of this length, to each of these places, one Commit after the other
abbrev pub commits_to_each : ℕ → ℕ → ℕ → List ℕ → ℕ → List ℕ → List KeptSent
commits_to_each from vbucket term others length [] = []
commits_to_each from vbucket term others length (p ∷ ps) =
    entry_to_each from vbucket term others (length + 1) (entries.Commit p)
    ++ commits_to_each from vbucket term others (length + 1) ps
