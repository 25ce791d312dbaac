-- How the first changes that wait are committed.
use Rattle.std.specs.Prelude.{◌≡◌, ℕ, ◌+◌, ◌<◌, ◌^◌, true, ◌&&◌, is_some, is_none, map as list_map, List, [], ◌∷◌, length, take, IsTrue, if◌then◌else◌}
use Rattle.std.specs.FinMap as map
use Rattle.doc_model.specs.declared.key.DocKey.{DocKey}
use Rattle.doc_model.specs.declared.document.Item.{Item}
use Rattle.doc_model.specs.Keys.{key_cmp}
use Rattle.manifest_rules.specs.Catalog.{Catalog}
use Rattle.vb_log.specs.declared.entry.Entry.{Entry}
use Rattle.vb_log.specs.declared.entry.Entry.TheVariants as entries
use Rattle.vb_log.specs.declared.entry.Pending.{Pending}
use Rattle.vb_log.specs.Adding.{mark}
use Rattle.vb_log.specs.Content.{Content, has_collection, with_entries}
use Rattle.vb_log.specs.Contents.{keys_waiting}
use Rattle.vb_log.specs.Held.{items_size, waiting_size, positions_rise}

-- the Commits of changes that wait, one of each, in their order
abbrev pub commits_of : List Pending → List Entry
commits_of changes = list_map (λ (p : Pending). entries.Commit p.position) changes

-- the content that has these parts
abbrev pub content_with : map.FinMap key_cmp Item → List Pending → Catalog → ℕ → ℕ → Content
content_with items prepares manifest cas length =
    record { items = items; prepares = prepares; manifest = manifest; greatest_cas = cas; length = length }

-- the mark that a key needs: one where it has nothing and its collection is there, else none
abbrev pub mark_for : map.FinMap key_cmp Item → Catalog → DocKey → List Item
mark_for items manifest key =
    if has_collection manifest key.collection && is_none (map.get items key) then mark key ∷ [] else []

-- each of some keys has something, unless its collection is gone
abbrev pub HaveSomething : Catalog → map.FinMap key_cmp Item → List DocKey → Type 0
HaveSomething manifest items [] = Unit {0}
HaveSomething manifest items (key ∷ keys) =
    (has_collection manifest key.collection ≡ true → is_some (map.get items key) ≡ true) × HaveSomething manifest items keys

-- What lets the first changes that wait be made by the entries behind a position, without memory: these are their keys, which
-- have something that can be replaced.
pub record CanBeMade (manifest : Catalog) (items : map.FinMap key_cmp Item) (waiting : List Pending) (keys : List DocKey) (position : ℕ) : Type 0 where
  pub rise : IsTrue (positions_rise waiting)
  pub first : keys ≡ keys_waiting (take (length keys) waiting)
  pub have : HaveSomething manifest items keys
  pub fits : items_size items + waiting_size waiting < 2 ^ 64
  pub short : position + length keys < 2 ^ 64

-- The first changes that wait, so many, were made by the entries behind a position: whatever the greatest CAS is, that is
-- what their Commits leave.
abbrev pub AreMade : ℕ → Catalog → ℕ → map.FinMap key_cmp Item → List Pending → map.FinMap key_cmp Item → List Pending → Type 0
AreMade count manifest position items waiting after left =
    (cas : ℕ) → content_with after left manifest cas (position + count)
    ≡ with_entries (content_with items waiting manifest cas position) (commits_of (take count waiting))
