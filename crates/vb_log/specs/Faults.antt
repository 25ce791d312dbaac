-- Where bytes break the layout of an entry, of changes that wait, of a content.
use Rattle.std.specs.Prelude.{◌≡◌, ◌⊎◌, ℕ, ◌+◌, List, ◌++◌, length}
use Rattle.vb_log.specs.declared.entry.Entry.{Entry}
use Rattle.vb_log.specs.declared.entry.Pending.{Pending}
use Rattle.vb_log.specs.declared.reading.ContentFault.{ContentFault}
use Rattle.vb_log.specs.declared.reading.ContentFault.TheVariants as fault
use Rattle.vb_log.specs.declared.fields.FieldFault.{FieldFault}
use Rattle.vb_log.specs.declared.fields.FieldFault.TheVariants as field_fault
use Rattle.vb_log.specs.Content.{Content}
use Rattle.vb_log.specs.Contents.{IsContent, content_layout}
use Rattle.vb_log.specs.Layout.{Layout, Breaks, Fits}
use Rattle.vb_log.specs.Prepares.{widest, IsAllowedPending, pending_bytes, pending_layout}
use Rattle.vb_log.specs.Spelling.{IsSpelled, entry_layout}

-- the first field of an entry that breaks the layout begins behind so many bytes
pub record BreaksAt (bytes : List ℕ) (place : ℕ) : Type 0 where
  pub left : ℕ
  pub parts : place + left ≡ length bytes
  pub breaks : Breaks entry_layout bytes left

-- why no entry was read: the bytes are none's, and break the layout at the place
abbrev pub IsNoEntry : List ℕ → ContentFault → Type 0
IsNoEntry bytes (fault.Bad place) = BreaksAt bytes place × ((e : Entry) → IsSpelled e bytes → ⊥)
IsNoEntry bytes fault.NoMemory = Unit {0}

-- the first field of changes that wait which breaks the layout begins behind so many bytes, whatever
-- is to follow them
pub record PendingBreaksAt (bytes : List ℕ) (place : ℕ) : Type 0 where
  pub left : ℕ
  pub parts : place + left ≡ length bytes
  pub breaks : (next : Layout) → Breaks (pending_layout widest next) bytes left

-- why no changes that wait were read: the bytes begin with none, and break the layout at the place
abbrev pub IsNoPending : List ℕ → ContentFault → Type 0
IsNoPending bytes (fault.Bad place) =
    PendingBreaksAt bytes place
    × ((ps : List Pending) (rest : List ℕ) → IsAllowedPending ps → bytes ≡ pending_bytes ps ++ rest → ⊥)
IsNoPending bytes fault.NoMemory = Unit {0}

-- the first field of a content that breaks the layout begins behind so many bytes
pub record ContentBreaksAt (bytes : List ℕ) (place : ℕ) : Type 0 where
  pub left : ℕ
  pub parts : place + left ≡ length bytes
  pub breaks : Breaks content_layout bytes left

-- Each field is as it has to be, and the place is 0: what is wrong is how they go together, as where two
-- items have one sequence number, or the whole is too large.
pub record PartsAreNone (bytes : List ℕ) (place : ℕ) : Type 0 where
  pub fits : Fits content_layout bytes
  pub zero : place ≡ 0

-- why no content was read: the bytes are none's, and break the layout at the place, or keep it
abbrev pub IsNoContent : List ℕ → ContentFault → Type 0
IsNoContent bytes (fault.Bad place) =
    (ContentBreaksAt bytes place ⊎ PartsAreNone bytes place) × ((c : Content) → IsContent c bytes → ⊥)
IsNoContent bytes fault.NoMemory = Unit {0}

-- why fields were not read: the bytes break the layout
abbrev pub IsBroken : Layout → List ℕ → FieldFault → Type 0
IsBroken layout bytes (field_fault.Broken left) = Breaks layout bytes left
IsBroken layout bytes field_fault.NoMemory = Unit {0}
