-- What committing what is ready makes of a memory.
use Rattle.std.specs.Prelude.{◌≡◌, ◌≤◌, ℕ, ◌+◌, ◌*◌, List, [], ◌++◌, length, take, IsTrue, Option, option_map}
use Rattle.std.specs.Option.{option_map_or}
use Rattle.std.specs.FinMap as map
use Rattle.durability_core.specs.Tracking.{Tracked, acknowledged}
use Rattle.vb_log.specs.Content.{Content, with_entries}
use Rattle.vb_log.specs.Held.{positions_rise}
use Rattle.vb_log.specs.Logs.{folds}
use Rattle.vb_log.specs.Settling.{commits_of}
use Rattle.copy_model.specs.Copies.{Copy, Pair}
use Rattle.copy_model.specs.Disk.{on_disk}
use Rattle.copy_model.specs.Entries.{disk_length}
use Rattle.copy_memory.specs.declared.settling.FlushPlan.{FlushPlan}
use Rattle.copy_memory.specs.Sending.{commits_to_each}
use Rattle.copy_memory.specs.Shown.{ShownMemory, other_places}
use Rattle.copy_memory.specs.Tickets.{standing}

-- how many bytes a Commit's spelling has
abbrev pub commit_length : ℕ
commit_length = 9

-- the positions that are committed, once a tracker is told how far a place is
abbrev pub settled_by : ℕ → ℕ → ℕ → Option Tracked → List ℕ
settled_by place mem disk tracker = option_map_or (λ t. (acknowledged place mem disk t).settled) tracker []

-- how many these are
abbrev pub would_commit : ℕ → ℕ → ℕ → Option Tracked → ℕ
would_commit place mem disk tracker = length (settled_by place mem disk tracker)

-- a content in which so many of the first changes that wait are committed
abbrev pub committing_first : ℕ → Content → Content
committing_first count content = with_entries content (commits_of (take count content.prepares))

-- A memory whose tracker was told how far a place is, after what is ready then was committed in the content behind a log of
-- this length: the others are told, and the tickets stand.
abbrev pub stood : ℕ → ℕ → ℕ → ℕ → ShownMemory → ShownMemory
stood place mem disk behind m =
    let ready = settled_by place mem disk m.tracker in
    record m {
      tracker = option_map (acknowledged place mem disk) m.tracker;
      tickets = standing m.core.accepted behind ready m.tickets;
      unspoken = m.unspoken ++ commits_to_each m.core.place m.number m.core.accepted (other_places m.core) behind ready;
    }

-- a memory with so many Commits of the first changes that wait in its content, which count as not on disk
abbrev pub counting_commits : ℕ → ShownMemory → ShownMemory
counting_commits count m = record m {
  core = record m.core { length = m.core.length + count };
  content = committing_first count m.content;
  unflushed_entries = m.unflushed_entries + count;
  unflushed_bytes = m.unflushed_bytes + count * commit_length;
}

-- a memory whose tracker was told how far a place is, and that committed what was ready then
abbrev pub settles : ℕ → ℕ → ℕ → ShownMemory → ShownMemory
settles place mem disk m =
    stood place mem disk m.core.length (counting_commits (would_commit place mem disk m.tracker) m)

-- ---- a flush

-- a content without items
abbrev pub emptied : Content → Content
emptied content = record content { items = map.empty }

-- A plan is right for a memory that is put on disk: its content has no items but those of the changes that will be ready, and
-- there is room for what will be told.
pub record IsPlanned (m : ShownMemory) (plan : FlushPlan) : Type 0 where
  pub count : plan.count ≡ would_commit m.core.place m.core.length m.core.length m.tracker
  pub bytes : plan.bytes ≡ plan.count * commit_length
  pub content : plan.content ≡ committing_first plan.count (emptied m.content)
  pub room : plan.count * length (other_places m.core) ≤ m.room
  pub room_for_one : 1 ≤ m.room
  pub few : plan.count ≤ length m.content.prepares
  pub rise : IsTrue (positions_rise m.content.prepares)

-- a pair has a copy's log at its accepted term, of which no more was on disk before
pub record IsPutDown (c : Copy Content ℕ) (d : Pair Content ℕ) : Type 0 where
  pub accepted : d.accepted ≡ c.accepted
  pub length_is : d.log.length ≡ c.log.length
  pub more : disk_length folds c ≤ c.log.length

-- a copy whose log is in a pair on disk, and that keeps of it all but the items
abbrev pub emptied_on : Pair Content ℕ → Copy Content ℕ → Copy Content ℕ
emptied_on d c = record (on_disk d c) { log = emptied c.log }
