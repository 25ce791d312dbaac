-- How an entry is added to a content.
use Rattle.std.specs.Prelude.{◌≡◌, ℕ, ◌≤◌, Bool, true, false, is_some, Option, Some, None, Result, Ok, Err, if◌then◌else◌}
use Rattle.std.specs.FinMap as map
use Rattle.doc_model.specs.declared.key.DocKey.{DocKey}
use Rattle.doc_model.specs.declared.document.Item.{Item}
use Rattle.doc_model.specs.declared.document.What.{What}
use Rattle.doc_model.specs.declared.document.What.TheVariants as whats
use Rattle.doc_model.specs.Keys.{key_cmp}
use Rattle.manifest_rules.specs.Catalog.{Catalog}
use Rattle.vb_log.specs.declared.adding.AddFault.{AddFault}
use Rattle.vb_log.specs.declared.adding.AddFault.TheVariants as fault
use Rattle.vb_log.specs.declared.entry.Pending.{Pending}
use Rattle.vb_log.specs.declared.limits.TheConstants.{CONTENT_LIMIT}
use Rattle.vb_log.specs.Content.{Content, has_collection, item_made, with_item, with_cas, one_longer, with_prepare, cas_of}
use Rattle.vb_log.specs.Sizes.{size, is_within}

-- A content may become another, or stays as it is: it becomes the other where it may, and stays where it may not, or where
-- memory is refused.
abbrev pub Becomes : {T : Type 0} → Bool → Content → Content → Content → Result T AddFault → Type 0
Becomes may old other new (Ok done) = (may ≡ true) × (new ≡ other)
Becomes may old other new (Err fault.NotAllowed) = (may ≡ false) × (new ≡ old)
Becomes may old other new (Err fault.NoMemory) = new ≡ old

-- a content that isn't too large, and that isn't when it becomes another, if it may
pub record HasRoom (may : Bool) (old other : Content) : Type 0 where
  pub before : size old ≤ CONTENT_LIMIT
  pub after : may ≡ true → is_within other ≡ true

-- a content with a change of a key as its next entry
abbrev pub with_change : Content → DocKey → What → Content
with_change c key what = with_cas (cas_of what) (one_longer (with_item c key what))

-- a content with a change that waits as its next entry
abbrev pub with_waiting : Content → DocKey → What → ℕ → Content
with_waiting c key what level = with_cas (cas_of what) (one_longer (with_prepare c key what level))

-- what a key gets that has nothing, before it gets what was prepared: a mark of deletion
abbrev pub mark : DocKey → Item
mark key = record { key = key; seqno = 0; what = whats.Remove 0 }

-- the items, with something for a key
abbrev pub with_room : map.FinMap key_cmp Item → DocKey → map.FinMap key_cmp Item
with_room items key = if is_some (map.get items key) then items else map.insert items key (mark key)

-- the items, once a change that was prepared is made by the entry at a position
abbrev pub items_given : map.FinMap key_cmp Item → ℕ → Option Pending → map.FinMap key_cmp Item
items_given items position None = items
items_given items position (Some p) = map.insert items p.key (item_made position p.key p.what)

-- whether the collection of a change is there
abbrev pub is_shown : Catalog → Option Pending → Bool
is_shown manifest None = false
is_shown manifest (Some p) = has_collection manifest p.key.collection

-- the items, once a change that was prepared is made, if its collection is still there
abbrev pub items_with : map.FinMap key_cmp Item → Catalog → ℕ → Option Pending → map.FinMap key_cmp Item
items_with items manifest position change =
    if is_shown manifest change then items_given items position change else items
