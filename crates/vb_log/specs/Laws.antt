-- What holds of each log.
use Rattle.std.specs.Prelude.{◌≡◌, ◌≢◌, ℕ, ◌+◌, Bool, true, false, List, [], ◌∷◌, ◌++◌, length, Option, Some, None}
use Rattle.std.specs.FinMap as map
use Rattle.doc_model.specs.declared.key.DocKey.{DocKey}
use Rattle.doc_model.specs.declared.document.Doc.{Doc}
use Rattle.doc_model.specs.declared.document.What.{What}
use Rattle.doc_model.specs.declared.document.What.TheVariants as whats
use Rattle.doc_model.specs.declared.document.Item.{Item}
use Rattle.vb_log.specs.declared.entry.Entry.{Entry}
use Rattle.vb_log.specs.declared.entry.Entry.TheVariants as entries
use Rattle.vb_log.specs.declared.entry.Pending.{Pending}
use Rattle.vb_log.specs.Content.{Content, has_collection, prepare_at, item_made, allowed, content_of, IsLog}
use Rattle.vb_log.specs.Sizes.{size_of, item_size, size, size_after}

-- what a key has, by a log
abbrev pub item_of : List Entry → DocKey → Option Item
item_of log key = map.get (content_of log).items key

-- whether a collection is there, by a log
abbrev pub is_there : List Entry → ℕ → Bool
is_there log collection = has_collection (content_of log).manifest collection

-- a log with one entry more
abbrev pub followed_by : List Entry → Entry → List Entry
followed_by log e = log ++ e ∷ []

-- the entry of a log at a position is the Prepare of a change
pub record PreparedAt (log : List Entry) (position : ℕ) (key : DocKey) (what : What) (level : ℕ) : Type 0 where
  pub before : List Entry
  pub after : List Entry
  pub parts : log ≡ before ++ entries.Prepare key what level ∷ after
  pub place : position ≡ length before + 1

-- a change that was prepared and is neither made nor given up yet
pub record Waits (log : List Entry) (position : ℕ) (key : DocKey) (what : What) (level : ℕ) : Type 0 where
  pub prepared : PreparedAt log position key what level
  pub undecided : allowed (content_of log) (entries.Commit position) ≡ true

-- What waits is what a Prepare of the log says.
abbrev pub WaitsAsPrepared : Type 0
WaitsAsPrepared = (log : List Entry) (position : ℕ) (p : Pending)
    → prepare_at (content_of log).prepares position ≡ Some p
    → (p.position ≡ position) × PreparedAt log position p.key p.what p.level

-- A Prepare shows nothing, and what it says waits from then on.
abbrev pub PrepareShowsNothing : Type 0
PrepareShowsNothing = (log : List Entry) (key other : DocKey) (what : What) (level : ℕ)
    → item_of (followed_by log (entries.Prepare key what level)) other ≡ item_of log other

abbrev pub PrepareWaits : Type 0
PrepareWaits = (log : List Entry) (key : DocKey) (what : What) (level : ℕ)
    → Waits (followed_by log (entries.Prepare key what level)) (length log + 1) key what level

-- A Commit gives the key what was prepared, at the position of the Commit, where the collection is
-- there; where it isn't, no key gets anything.
abbrev pub CommitShows : Type 0
CommitShows = (log : List Entry) (of : ℕ) (key : DocKey) (what : What) (level : ℕ)
    → Waits log of key what level → is_there log key.collection ≡ true
    → item_of (followed_by log (entries.Commit of)) key ≡ Some (item_made (length log + 1) key what)

abbrev pub CommitLeavesOthers : Type 0
CommitLeavesOthers = (log : List Entry) (of : ℕ) (key other : DocKey) (what : What) (level : ℕ)
    → Waits log of key what level → other ≢ key
    → item_of (followed_by log (entries.Commit of)) other ≡ item_of log other

abbrev pub CommitOfDropped : Type 0
CommitOfDropped = (log : List Entry) (of : ℕ) (key other : DocKey) (what : What) (level : ℕ)
    → Waits log of key what level → is_there log key.collection ≡ false
    → item_of (followed_by log (entries.Commit of)) other ≡ item_of log other

-- An entry ends the wait of what was prepared at a position, and of nothing else.
abbrev pub EndsOne : (ℕ → Entry) → Type 0
EndsOne entry = (log : List Entry) (of position : ℕ)
    → (prepare_at (content_of (followed_by log (entry of))).prepares of ≡ None)
    × (position ≢ of → prepare_at (content_of (followed_by log (entry of))).prepares position
    ≡ prepare_at (content_of log).prepares position)

-- An Abort shows nothing.
abbrev pub AbortShowsNothing : Type 0
AbortShowsNothing = (log : List Entry) (of : ℕ) (key : DocKey)
    → item_of (followed_by log (entries.Abort of)) key ≡ item_of log key

-- Keys of a collection that isn't there have nothing: a manifest takes the items of the collections
-- that it drops, and leaves the others.
abbrev pub DroppedHasNothing : Type 0
DroppedHasNothing = (log : List Entry) (key : DocKey) → IsLog log
    → is_there log key.collection ≡ false → item_of log key ≡ None

abbrev pub ManifestLeavesOthers : Type 0
ManifestLeavesOthers = (log : List Entry) (text : List ℕ) (key : DocKey)
    → allowed (content_of log) (entries.Manifest text) ≡ true
    → is_there (followed_by log (entries.Manifest text)) key.collection ≡ true
    → item_of (followed_by log (entries.Manifest text)) key ≡ item_of log key

-- What a key gets counts in place of what it had; what waits counts beside it.
abbrev pub MutationCounts : Type 0
MutationCounts = (c : Content) (key : DocKey) (doc : Doc)
    → size_after c (entries.Mutation key doc) + item_size (map.get c.items key)
    ≡ size c + size_of key (whats.Put doc)

abbrev pub DeletionCounts : Type 0
DeletionCounts = (c : Content) (key : DocKey) (cas : ℕ)
    → size_after c (entries.Deletion key cas) + item_size (map.get c.items key)
    ≡ size c + size_of key (whats.Remove cas)

abbrev pub PrepareCounts : Type 0
PrepareCounts = (c : Content) (key : DocKey) (what : What) (level : ℕ)
    → size_after c (entries.Prepare key what level) ≡ size c + size_of key what
