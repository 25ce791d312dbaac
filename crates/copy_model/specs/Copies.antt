-- A copy of a vbucket, over any representation of its log and any layout of its store.
use Rattle.std.specs.Prelude.{ℕ, Bool, true, false, List, Option}
use Rattle.doc_model.specs.declared.key.DocKey.{DocKey}
use Rattle.doc_model.specs.declared.document.Doc.{Doc}
use Rattle.vb_log.specs.declared.entry.Entry.{Entry}
use Rattle.vb_log.specs.Content.{Content}
use Rattle.durability_core.specs.declared.chain.Chain.{Chain}
use Rattle.durability_core.specs.Ready.{Known}
use Rattle.replica_core.specs.declared.copy.Role.{Role}

-- ---- what leaves a copy

-- a message of the link
pub data Message (L : Type 0) : Type 0 where
  -- the entry at a position of the term's log
  EntrySent : (term position : ℕ) (entry : Entry) → Message L
  -- how long the sender's log of the term is, in memory and on disk
  AckSent : (term mem disk : ℕ) → Message L
  -- the sender, which has this log and was opened so often, asks for all of the term's
  RejoinSent : (term accepted length incarnation : ℕ) → Message L
  -- all of the term's log, for the copy that was opened so often
  AdoptSent : (term incarnation : ℕ) (log : L) → Message L

-- a message of a vbucket, from place to place
pub record Sent (L : Type 0) : Type 0 where
  pub from : ℕ
  pub to : ℕ
  pub vbucket : ℕ
  pub message : Message L

-- a change that became visible: the key has this document, or none any more
pub record Seen : Type 0 where
  pub key : DocKey
  pub seqno : ℕ
  pub doc : Option Doc

-- ---- what waits in a copy

-- What has become of a prepare for which a client waits: nothing yet, its Commit stands at a
-- position, it was aborted, or its copy left the active state meanwhile.
pub data Fate : Type 0 where
  Waiting : Fate
  Stood : (position : ℕ) → Fate
  Aborted : Fate
  Left : Fate

-- a ticket that was given out and not answered
pub record OpenTicket : Type 0 where
  pub prepare : ℕ
  pub term : ℕ
  pub fate : Fate

-- until when a prepare waits
pub record Deadline : Type 0 where
  pub prepare : ℕ
  pub moment : ℕ

-- ---- the copy

-- what a disk may hold
pub record Pair (L Y : Type 0) : Type 0 where
  pub promise : ℕ
  pub accepted : ℕ
  pub log : L
  pub incarnation : ℕ
  pub layout : Y

pub record Copy (L Y : Type 0) : Type 0 where
  -- where it stands
  pub chain : Chain
  pub place : ℕ
  pub number : ℕ
  -- its part in replication
  pub role : Role
  pub promise : ℕ
  pub accepted : ℕ
  pub log : L
  pub whole : Bool
  pub incarnation : ℕ
  -- the greatest moment seen
  pub seen : ℕ
  -- Of an active copy: with which length it was promoted, up to which prepares are inherited; when
  -- each other prepare is given up, in rising order of their positions; and what is known of each
  -- place.
  pub inherited : ℕ
  pub deadlines : List Deadline
  pub known : List Known
  -- the open tickets, the messages not yet spoken and the changes not yet handed out, oldest first
  pub tickets : List OpenTicket
  pub unspoken : List (Sent L)
  pub untold : List Seen
  -- The pair on disk, and the one that a stopped write may have left in its place: none while the
  -- copy isn't dead.
  pub disk : Pair L Y
  pub torn : Option (Pair L Y)
  -- The entries added one by one since the opening, or since the log was last put on disk, and the
  -- bytes of their spellings. All of a log that was taken at once adds nothing.
  pub unflushed_entries : ℕ
  pub unflushed_bytes : ℕ
  -- whether the log was begun anew beside the disk's
  pub anew : Bool

-- ---- what a store decides

-- What cleaning comes to: there is nothing to clean, so many items were moved, a segment was freed,
-- or there is no room to move them.
pub data Cleaning : Type 0 where
  Nothing : Cleaning
  Moved : (count : ℕ) → Cleaning
  Freed : (segment : ℕ) → Cleaning
  NoRoomToMove : (needed free : ℕ) → Cleaning

-- What a layout decides. A commit is one of a log that was begun anew or wasn't, over so many
-- entries on disk, and that comes to a content.
pub record LayoutKind (Y : Type 0) : Type 0 where
  -- the segments that a commit needs, and those that are free
  pub needed : Y → Bool → ℕ → Content → ℕ
  pub free : Y → ℕ
  -- what cleaning of at most so many items comes to, where the disk's log comes to a content
  pub cleaned : Y → ℕ → Content → Cleaning
  -- whether a layout is that of an empty store
  pub begins : Y → Bool
  -- whether a write may leave the last layout: a commit, a promise, an opening, a cleaning
  pub commits : Y → Bool → ℕ → Content → Y → Bool
  pub promises : Y → Y → Bool
  pub opens : Y → Y → Bool
  pub cleans : Y → ℕ → Content → Y → Bool

-- ---- what is open about an event

-- How it fares: all goes well, a document can't be read, the disk fails where the event first uses
-- it otherwise, or memory is wanting.
pub data Chance : Type 0 where
  Fine : Chance
  ReadFails : Chance
  DiskFails : Chance
  NoMemory : Chance

-- how it fares, and the layout that it leaves where it writes
pub record Luck (Y : Type 0) : Type 0 where
  pub chance : Chance
  pub layout : Y

abbrev pub lacks_memory : Chance → Bool
lacks_memory Fine = false
lacks_memory ReadFails = false
lacks_memory DiskFails = false
lacks_memory NoMemory = true

abbrev pub fails_disk : Chance → Bool
fails_disk Fine = false
fails_disk ReadFails = false
fails_disk DiskFails = true
fails_disk NoMemory = false

abbrev pub fails_read : Chance → Bool
fails_read Fine = false
fails_read ReadFails = true
fails_read DiskFails = false
fails_read NoMemory = false
