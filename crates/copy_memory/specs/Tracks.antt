-- What an active copy knows of its durable writes, as a tracker has it.
use Rattle.std.specs.Prelude.{◌≡◌, ◌≢◌, ◌<◌, ◌≤◌, ℕ, nat_le, true, false, map as list_map, List, [], ◌∷◌, length, Option, Some, None}
use Rattle.std.specs.List.{AllByRecursion}
use Rattle.doc_model.specs.declared.key.DocKey.{DocKey}
use Rattle.vb_log.specs.declared.entry.Pending.{Pending}
use Rattle.vb_log.specs.Content.{Content}
use Rattle.vb_log.specs.Logs.{folds}
use Rattle.durability_core.specs.declared.waiting.Waiting.{Waiting}
use Rattle.durability_core.specs.Ready.{Known}
use Rattle.durability_core.specs.Tracking.{Tracked, known_at, is_inherited}
use Rattle.replica_core.specs.Terms.{is_active}
use Rattle.copy_model.specs.Copies.{Copy, Deadline}
use Rattle.copy_model.specs.Entries.{log_length, disk_length}

-- what a tracker keeps of a prepared change
pub record Prepared : Type 0 where
  pub position : ℕ
  pub level : ℕ
  pub key : DocKey

abbrev pub prepared_of : Pending → Prepared
prepared_of p = record { position = p.position; level = p.level; key = p.key }

abbrev pub prepared_in : Waiting → Prepared
prepared_in w = record { position = w.position; level = w.level; key = w.key }

-- when a prepare is given up, if it ever is, before others
abbrev pub with_deadline : ℕ → Option ℕ → List Deadline → List Deadline
with_deadline prepare None later = later
with_deadline prepare (Some moment) later = record { prepare = prepare; moment = moment } ∷ later

-- when prepares are given up, each that ever is
abbrev pub deadlines_of : List Waiting → List Deadline
deadlines_of [] = []
deadlines_of (w ∷ ws) = with_deadline w.position w.deadline (deadlines_of ws)

-- Of its own place a tracker knows that the prepares are in memory, and of each whether it is on disk, where so many entries
-- of the term's log are.
pub record KnowsOwn (known : Known) (on_disk : ℕ) (waiting : List Waiting) : Type 0 where
  pub in_memory : AllByRecursion (λ (w : Waiting). w.position ≤ known.mem) waiting
  pub on_disk_too : AllByRecursion (λ (w : Waiting). nat_le w.position known.disk ≡ nat_le w.position on_disk) waiting

-- A tracker has what an active copy knows: how far the others are, which changes wait, and until when.
pub record Tracks (t : Tracked) (c : Copy Content ℕ) : Type 0 where
  pub chain : t.chain ≡ c.chain
  pub own : t.own ≡ c.place
  pub as_many : length t.known ≡ length c.known
  pub in_range : c.place < length t.known
  pub others : (place : ℕ) → place ≢ c.place → known_at t.known place ≡ known_at c.known place
  pub own_mem : (known_at t.known c.place).mem ≤ log_length folds c
  pub own_disk : (known_at t.known c.place).disk ≤ disk_length folds c
  pub knows_own : KnowsOwn (known_at t.known c.place) (disk_length folds c) t.waiting
  pub waiting : list_map prepared_in t.waiting ≡ list_map prepared_of c.log.prepares
  pub deadlines : c.deadlines ≡ deadlines_of t.waiting
  pub inherited : AllByRecursion (λ (w : Waiting). is_inherited w ≡ nat_le w.position c.inherited) t.waiting
  pub base : c.inherited ≤ log_length folds c

-- an active copy has a tracker, and no other has
abbrev pub HasTracker : Option Tracked → Copy Content ℕ → Type 0
HasTracker None c = is_active c.role ≡ false
HasTracker (Some t) c = (is_active c.role ≡ true) × Tracks t c
