-- The small steps of which a copy's events are made: it says a message, adds an entry, commits a
-- prepare, leaves a role.
use Rattle.std.specs.Prelude.{ℕ, ◌+◌, max, nat_eq, Bool, true, false, not, filter, get_or, set, map as list_map, List, [], ◌∷◌, ◌++◌, Option, Some, None, if◌then◌else◌}
use Rattle.doc_model.specs.declared.document.What.TheVariants as whats
use Rattle.vb_log.specs.declared.entry.Entry.{Entry}
use Rattle.vb_log.specs.declared.entry.Entry.TheVariants as entries
use Rattle.vb_log.specs.declared.entry.Pending.{Pending}
use Rattle.vb_log.specs.Content.{Content, has_collection, numbered, stored_doc, prepare_at}
use Rattle.vb_log.specs.Sizes.{entry_length}
use Rattle.vb_log.specs.Logs.{LogKind}
use Rattle.durability_core.specs.Chains.{named_places}
use Rattle.durability_core.specs.Ready.{Known, unknown, is_ready}
use Rattle.replica_core.specs.declared.copy.CopyCore.{CopyCore}
use Rattle.replica_core.specs.declared.copy.Role.{Role}
use Rattle.replica_core.specs.Terms.{is_active, owner}
use Rattle.copy_model.specs.Copies.{Message, EntrySent, AckSent, Sent, Seen, Fate, Waiting, Stood, Aborted, Left, OpenTicket, Deadline, Copy}

-- ---- what a copy has

-- what its log comes to
abbrev pub content : {L Y : Type 0} → LogKind L → Copy L Y → Content
content k c = k.view c.log

-- how many entries its log has
abbrev pub log_length : {L Y : Type 0} → LogKind L → Copy L Y → ℕ
log_length k c = (content k c).length

-- how many entries of the accepted term's log are on disk
abbrev pub disk_length : {L Y : Type 0} → LogKind L → Copy L Y → ℕ
disk_length k c = if nat_eq c.disk.accepted c.accepted then (k.view c.disk.log).length else 0

-- its numbers
abbrev pub core_of : {L Y : Type 0} → LogKind L → Copy L Y → CopyCore
core_of k c = record {
  chain = c.chain;
  place = c.place;
  role = c.role;
  promise = c.promise;
  accepted = c.accepted;
  length = log_length k c;
  whole = c.whole;
  incarnation = c.incarnation;
}

-- ---- messages

-- the other places that have a name, in rising order
abbrev pub others : {L Y : Type 0} → Copy L Y → List ℕ
others c = filter (λ place. not (nat_eq place c.place)) (named_places c.chain)

-- a copy's message to a place
abbrev pub told_to : {L Y : Type 0} → Copy L Y → ℕ → Message L → Sent L
told_to c to message =
    record { from = c.place; to = to; vbucket = c.number; message = message }

-- a copy that is to say a message to a place
abbrev pub saying : {L Y : Type 0} → ℕ → Message L → Copy L Y → Copy L Y
saying to message c = record c { unspoken = c.unspoken ++ told_to c to message ∷ [] }

-- a copy that is to say a message to each of the others
abbrev pub saying_to_all : {L Y : Type 0} → Message L → Copy L Y → Copy L Y
saying_to_all message c =
    record c { unspoken = c.unspoken ++ list_map (λ to. told_to c to message) (others c) }

-- how far a copy is
abbrev pub ack : {L Y : Type 0} → LogKind L → Copy L Y → Message L
ack k c = AckSent c.accepted (log_length k c) (disk_length k c)

-- a copy that tells the owner of its term how far it is
abbrev pub acknowledging : {L Y : Type 0} → LogKind L → Copy L Y → Copy L Y
acknowledging k c = saying (owner c.accepted) (ack k c) c

-- ---- entries

-- what the next entry makes visible where it commits a prepare
abbrev pub seen_of : Content → Option Pending → List Seen
seen_of content None = []
seen_of content (Some p) =
    if has_collection content.manifest p.key.collection
    then record {
      key = p.key;
      seqno = content.length + 1;
      doc = stored_doc (numbered (content.length + 1) p.what);
    } ∷ []
    else []

-- what the next entry makes visible
abbrev pub seen_by : Content → Entry → List Seen
seen_by content (entries.Mutation key doc) =
    record {
      key = key;
      seqno = content.length + 1;
      doc = stored_doc (numbered (content.length + 1) (whats.Put doc));
    } ∷ []
seen_by content (entries.Deletion key cas) =
    record { key = key; seqno = content.length + 1; doc = None } ∷ []
seen_by content (entries.Prepare key what level) = []
seen_by content (entries.Commit of) = seen_of content (prepare_at content.prepares of)
seen_by content (entries.Abort of) = []
seen_by content (entries.Manifest text) = []

-- a log with one more entry, which counts as not on disk
abbrev pub grown : {L Y : Type 0} → LogKind L → Entry → Copy L Y → Copy L Y
grown k e c = record c {
  log = k.add c.log e;
  unflushed_entries = c.unflushed_entries + 1;
  unflushed_bytes = c.unflushed_bytes + entry_length e;
}

-- an active copy sends the next entry to the others, and hands out what it makes visible
abbrev pub published : {L Y : Type 0} → LogKind L → Entry → Copy L Y → Copy L Y
published k e c =
    record (saying_to_all (EntrySent c.accepted (log_length k c + 1) e) c)
    { untold = c.untold ++ seen_by (content k c) e }

-- an active copy adds an entry
abbrev pub added : {L Y : Type 0} → LogKind L → Entry → Copy L Y → Copy L Y
added k e c = grown k e (published k e c)

-- ---- commits and aborts

-- what a ticket's fate is, where this is decided of its prepare; what was decided before stays
abbrev pub fate_after : Bool → Fate → Fate → Fate
fate_after true new Waiting = new
fate_after true new (Stood position) = Stood position
fate_after true new Aborted = Aborted
fate_after true new Left = Left
fate_after false new old = old

-- a ticket, once this is decided of a prepare
abbrev pub decided : ℕ → Fate → OpenTicket → OpenTicket
decided prepare fate t = record t { fate = fate_after (nat_eq t.prepare prepare) fate t.fate }

-- a copy that decides of a prepare: its tickets have this fate, and it has no deadline any more
abbrev pub settling : {L Y : Type 0} → ℕ → Fate → Copy L Y → Copy L Y
settling prepare fate c = record c {
  tickets = list_map (decided prepare fate) c.tickets;
  deadlines = filter (λ (d : Deadline). not (nat_eq d.prepare prepare)) c.deadlines;
}

-- an active copy commits a prepare
abbrev pub committed : {L Y : Type 0} → LogKind L → ℕ → Copy L Y → Copy L Y
committed k prepare c =
    settling prepare (Stood (log_length k c + 1)) (added k (entries.Commit prepare) c)

-- an active copy aborts a prepare
abbrev pub aborted : {L Y : Type 0} → LogKind L → ℕ → Copy L Y → Copy L Y
aborted k prepare c = settling prepare Aborted (added k (entries.Abort prepare) c)

-- how far an active copy knows a place to be: its own is as long as its own log and disk
abbrev pub known_of : {L Y : Type 0} → LogKind L → Copy L Y → ℕ → Known
known_of k c place =
    if nat_eq place c.place
    then record { mem = log_length k c; disk = disk_length k c }
    else get_or c.known place unknown

-- whether a prepare is ready
abbrev pub is_ready_at : {L Y : Type 0} → LogKind L → Copy L Y → Pending → Bool
is_ready_at k c p = is_ready c.chain c.place (known_of k c) p.level p.position

-- of these prepares the first are committed, in their order, up to one that isn't ready
abbrev pub committing : {L Y : Type 0} → LogKind L → List Pending → Copy L Y → Copy L Y
committing k [] c = c
committing k (p ∷ ps) c =
    if is_ready_at k c p then committing k ps (committed k p.position c) else c

-- an active copy commits what is ready
abbrev pub settled : {L Y : Type 0} → LogKind L → Copy L Y → Copy L Y
settled k c = committing k (content k c).prepares c

-- ---- roles

-- a ticket whose copy leaves the active state
abbrev pub abandoned : OpenTicket → OpenTicket
abandoned t = record t { fate = fate_after true Left t.fate }

-- what is left of what an active copy has once it isn't active any more; another keeps it
abbrev pub left_by : {A : Type 0} → Role → A → A → A
left_by role left kept = if is_active role then left else kept

-- a copy in a role that isn't the active one
abbrev pub in_role : {L Y : Type 0} → Role → Copy L Y → Copy L Y
in_role role c = record c {
  role = role;
  tickets = left_by c.role (list_map abandoned c.tickets) c.tickets;
  deadlines = left_by c.role [] c.deadlines;
  known = left_by c.role [] c.known;
}

-- what a copy knows of the places that has just become active
abbrev pub nothing_known : {L Y : Type 0} → Copy L Y → List Known
nothing_known c = list_map (λ name. unknown) c.chain.names

-- what is known of a place once it has told how far it is; it is never less
abbrev pub known_with : ℕ → ℕ → Known → Known
known_with mem disk known = record { mem = max known.mem mem; disk = max known.disk disk }

-- an active copy counts how far a place is
abbrev pub counting : {L Y : Type 0} → ℕ → ℕ → ℕ → Copy L Y → Copy L Y
counting place mem disk c =
    record c { known = set c.known place (known_with mem disk (get_or c.known place unknown)) }
