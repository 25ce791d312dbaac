-- Which copy a memory is of.
use Rattle.std.specs.Prelude.{◌≡◌, ℕ}
use Rattle.vb_log.specs.Content.{Content}
use Rattle.vb_log.specs.Logs.{folds}
use Rattle.copy_model.specs.Copies.{Copy}
use Rattle.copy_model.specs.Entries.{core_of, disk_length}
use Rattle.copy_memory.specs.Sending.{sents_of}
use Rattle.copy_memory.specs.Shown.{ShownMemory}
use Rattle.copy_memory.specs.Tickets.{AreTickets}
use Rattle.copy_memory.specs.Tracks.{HasTracker}

-- The memory is that of a copy. What the copy's disk holds isn't in memory, nor are the changes that it has yet to hand out.
pub record Remembers (m : ShownMemory) (c : Copy Content ℕ) : Type 0 where
  pub core : m.core ≡ core_of folds c
  pub number : m.number ≡ c.number
  pub log : m.content ≡ c.log
  pub seen : m.seen ≡ c.seen
  pub inherited : m.inherited ≡ c.inherited
  pub tracker : HasTracker m.tracker c
  pub tickets : AreTickets m.tickets c.role c.accepted c.log.length c.tickets
  pub unspoken : sents_of m.unspoken ≡ c.unspoken
  pub entries : m.unflushed_entries ≡ c.unflushed_entries
  pub bytes : m.unflushed_bytes ≡ c.unflushed_bytes

-- ---- what a call makes of it

-- the copy becomes what this makes of it
abbrev pub Becomes : ShownMemory → ShownMemory → (Copy Content ℕ → Copy Content ℕ) → Type 0
Becomes old new step = (c : Copy Content ℕ) → Remembers old c → Remembers new (step c)

-- the same, where so many entries of the accepted term's log are on disk
abbrev pub BecomesAt : ℕ → ShownMemory → ShownMemory → (Copy Content ℕ → Copy Content ℕ) → Type 0
BecomesAt on_disk old new step =
    (c : Copy Content ℕ) → Remembers old c → disk_length folds c ≡ on_disk → Remembers new (step c)
