-- What a copy's memory shows to contracts.
use Rattle.std.specs.Prelude.{◌≡◌, ◌+◌, ℕ, nat_eq, not, Bool, true, false, filter, List, Option, refl}
use Rattle.std.specs.FinMap as map
use Rattle.std.specs.Coded.{Coded, code_by, coded×, coded_ℕ}
use Rattle.durability_core.specs.Chains.{named_places}
use Rattle.durability_core.specs.Tracking.{Tracked}
use Rattle.replica_core.specs.declared.copy.CopyCore.{CopyCore}
use Rattle.repl_wire.specs.declared.message.Sent.{Sent}
use Rattle.vb_log.specs.declared.entry.Entry.{Entry}
use Rattle.vb_log.specs.declared.entry.Entry.TheVariants as entries
use Rattle.vb_log.specs.Content.{Content, with_entry}
use Rattle.vb_log.specs.Sizes.{entry_length}
use Rattle.copy_memory.specs.declared.tickets.KeptFate.{KeptFate}
use Rattle.copy_memory.specs.Tickets.{name_cmp}

-- The memory of a copy: its numbers and its own number; what its log comes to; the greatest moment seen; up to which
-- position prepares are inherited; what it knows of the others and which prepares wait, where it is active; what is kept of
-- tickets; the messages that aren't spoken yet, and for how many more there is room; and how many entries aren't on disk, and
-- their bytes.
pub record ShownMemory : Type 0 where
  pub core : CopyCore
  pub number : ℕ
  pub content : Content
  pub seen : ℕ
  pub inherited : ℕ
  pub tracker : Option Tracked
  pub tickets : map.FinMap name_cmp KeptFate
  pub unspoken : List Sent
  pub room : ℕ
  pub unflushed_entries : ℕ
  pub unflushed_bytes : ℕ

abbrev pub coded_memory : Coded CopyCore → Coded Content → Coded (Option Tracked) → Coded (map.FinMap name_cmp KeptFate) → Coded (List Sent) → Coded ShownMemory
coded_memory core content tracker tickets sents =
    code_by (CopyCore × (ℕ × (Content × (ℕ × (ℕ × (Option Tracked × (map.FinMap name_cmp KeptFate × (List Sent × (ℕ × (ℕ × ℕ))))))))))
    (coded× core (coded× coded_ℕ (coded× content (coded× coded_ℕ (coded× coded_ℕ (coded× tracker (coded× tickets (coded× sents (coded× coded_ℕ (coded× coded_ℕ coded_ℕ))))))))))
    (λ m. (m.core, (m.number, (m.content, (m.seen, (m.inherited, (m.tracker, (m.tickets, (m.unspoken, (m.room, (m.unflushed_entries, m.unflushed_bytes)))))))))))
    (λ p. record {
      core = p.0;
      number = p.1.0;
      content = p.1.1.0;
      seen = p.1.1.1.0;
      inherited = p.1.1.1.1.0;
      tracker = p.1.1.1.1.1.0;
      tickets = p.1.1.1.1.1.1.0;
      unspoken = p.1.1.1.1.1.1.1.0;
      room = p.1.1.1.1.1.1.1.1.0;
      unflushed_entries = p.1.1.1.1.1.1.1.1.1.0;
      unflushed_bytes = p.1.1.1.1.1.1.1.1.1.1;
    }) (λ _. refl)

-- nothing changed but for how many messages there is room
abbrev pub Rests : ShownMemory → ShownMemory → Type 0
Rests old new = new ≡ record old { room = new.room }

-- the other places of a copy's chain that have a name, in rising order
abbrev pub other_places : CopyCore → List ℕ
other_places core = filter (λ place. not (nat_eq place core.place)) (named_places core.chain)

-- What is so of a memory: the length among its numbers is that of its log, and the other places are told beside them.
pub record IsKept (core : CopyCore) (content : Content) (others : List ℕ) : Type 0 where
  pub length_is : core.length ≡ content.length
  pub others_are : others ≡ other_places core

-- whether an entry neither prepares a change nor settles one that was prepared
abbrev pub is_plain : Entry → Bool
is_plain (entries.Mutation key doc) = true
is_plain (entries.Deletion key cas) = true
is_plain (entries.Prepare key what level) = false
is_plain (entries.Commit of) = false
is_plain (entries.Abort of) = false
is_plain (entries.Manifest text) = true

-- a memory with one entry more in its log, which counts as not on disk
abbrev pub grown : Entry → ShownMemory → ShownMemory
grown e m = record m {
  core = record m.core { length = (with_entry m.content e).length };
  content = with_entry m.content e;
  unflushed_entries = m.unflushed_entries + 1;
  unflushed_bytes = m.unflushed_bytes + entry_length e;
}
