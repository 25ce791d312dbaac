-- What a memory remembers that has more to say.
use Rattle.std.specs.Prelude.{◌≡◌, ℕ, ◌+◌, map as list_map, List, [], ◌∷◌, ◌++◌, refl}
use Rattle.std.proofs.Common.{sym, ◌∙◌, ap}
use Rattle.vb_log.specs.Content.{Content}
use Rattle.vb_log.specs.declared.entry.Entry.{Entry}
use Rattle.vb_log.specs.Logs.{folds}
use Rattle.replica_core.specs.declared.copy.CopyCore.{CopyCore}
use Rattle.repl_wire.specs.declared.message.Message.{Message as Kept}
use Rattle.repl_wire.specs.declared.message.Message.TheVariants as messages
use Rattle.repl_wire.specs.declared.message.Sent.{Sent as KeptSent}
use Rattle.copy_model.specs.Copies.{Copy, Message, EntrySent, AckSent, Sent, Seen}
use Rattle.copy_model.specs.Entries.{ack, told_to, others, log_length, disk_length}
use Rattle.copy_memory.specs.Remembers.{Remembers}
use Rattle.copy_memory.specs.Sending.{message_of, sent_of, sents_of, kept_to}
use Rattle.copy_memory.specs.Shown.{ShownMemory, other_places}
use Rattle.copy_memory.proofs.Kept.{same_tracker, with_told}

-- messages behind messages
pub sents_behind : (a b : List KeptSent) → sents_of (a ++ b) ≡ sents_of a ++ sents_of b
sents_behind [] b = refl
sents_behind (s ∷ a) b = ap (λ l. sent_of s ∷ l) (sents_behind a b)

-- a message that is kept to each of these places is told to each of them
pub told_each : (from vbucket : ℕ) (message : Kept) (places : List ℕ)
    → sents_of (list_map (kept_to from vbucket message) places)
    ≡ list_map (λ to. record { from = from; to = to; vbucket = vbucket; message = message_of message }) places
told_each from vbucket message [] = refl
told_each from vbucket message (p ∷ ps) =
    ap (λ (l : List (Sent Content)). record { from = from; to = p; vbucket = vbucket; message = message_of message } ∷ l)
    (told_each from vbucket message ps)

-- what a copy tells to all others, by what its memory has
pub told_all : (m : ShownMemory) (c : Copy Content ℕ) (message : Kept) (said : Message Content) → Remembers m c → message_of message ≡ said
    → sents_of (list_map (kept_to m.core.place m.number message) (other_places m.core))
    ≡ list_map (λ to. told_to c to said) (others c)
told_all m c message said r is =
    ap (λ (k : CopyCore). sents_of (list_map (kept_to k.place m.number message) (other_places k))) r.core
    ∙ ap (λ n. sents_of (list_map (kept_to c.place n message) (others c))) r.number
    ∙ told_each c.place c.number message (others c)
    ∙ ap (λ s. list_map (λ to. told_to c to s) (others c)) is

-- an Ack, and an Entry
abbrev ack_sent : ℕ → ℕ → ℕ → Message Content
ack_sent term mem disk = AckSent term mem disk

abbrev entry_sent : ℕ → ℕ → Entry → Message Content
entry_sent term position e = EntrySent term position e

-- how far a copy is, by what its memory has
pub acked : (m : ShownMemory) (c : Copy Content ℕ) (on_disk : ℕ) → Remembers m c → disk_length folds c ≡ on_disk
    → message_of (messages.Ack m.core.accepted m.core.length on_disk) ≡ ack folds c
acked m c on_disk r is =
    ap (λ (k : CopyCore). ack_sent k.accepted k.length on_disk) r.core
    ∙ ap (λ (disk : ℕ). ack_sent c.accepted (log_length folds c) disk) (sym is)

-- the next entry, by what its memory has
pub entry_told : (m : ShownMemory) (c : Copy Content ℕ) (position : ℕ) (e : Entry) → Remembers m c → position ≡ m.core.length + 1
    → message_of (messages.Entry m.core.accepted position e) ≡ EntrySent c.accepted (log_length folds c + 1) e
entry_told m c position e r is =
    ap (λ (at : ℕ). entry_sent m.core.accepted at e) is
    ∙ ap (λ (k : CopyCore). entry_sent k.accepted (k.length + 1) e) r.core

-- a memory that has room for other messages is of the same copy
pub rests : (m : ShownMemory) (c : Copy Content ℕ) (unspoken : List KeptSent) (room : ℕ) → unspoken ≡ m.unspoken → Remembers m c
    → Remembers (record m { unspoken = unspoken; room = room }) c
rests m c unspoken room is r = record {
  core = r.core;
  number = r.number;
  log = r.log;
  seen = r.seen;
  inherited = r.inherited;
  tracker = r.tracker;
  tickets = r.tickets;
  unspoken = ap sents_of is ∙ r.unspoken;
  entries = r.entries;
  bytes = r.bytes;
}

-- a memory with more messages, of a copy that has to say those and to hand out other changes
pub says_more : (m : ShownMemory) (c : Copy Content ℕ) (more unspoken : List KeptSent) (said : List (Sent Content)) (untold : List Seen) (room : ℕ)
    → Remembers m c → unspoken ≡ m.unspoken ++ more → sents_of more ≡ said
    → Remembers (record m { unspoken = unspoken; room = room }) (with_told c.tickets (c.unspoken ++ said) untold c)
says_more m c more unspoken said untold room r has is = record {
  core = r.core;
  number = r.number;
  log = r.log;
  seen = r.seen;
  inherited = r.inherited;
  tracker = same_tracker m.tracker c c.tickets (c.unspoken ++ said) untold r.tracker;
  tickets = r.tickets;
  unspoken = ap sents_of has ∙ sents_behind m.unspoken more ∙ ap (λ l. l ++ sents_of more) r.unspoken ∙ ap (λ l. c.unspoken ++ l) is;
  entries = r.entries;
  bytes = r.bytes;
}
