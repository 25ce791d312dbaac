-- What a log comes to.
use Rattle.std.specs.Prelude.{◌≡◌, ℕ, ◌+◌, max, nat_eq, is_some, is_none, Bool, true, ◌&&◌, not, find, filter, option_and_then, List, [], ◌∷◌, ◌++◌, Option, Some, None, Result, Ok, Err, if◌then◌else◌, refl}
use Rattle.std.specs.List.{list_any}
use Rattle.std.specs.Result.{is_ok}
use Rattle.std.specs.Ordering.{eq_by_cmp}
use Rattle.std.specs.FinMap as map
use Rattle.doc_model.specs.declared.key.DocKey.{DocKey}
use Rattle.doc_model.specs.declared.document.Doc.{Doc}
use Rattle.doc_model.specs.declared.document.What.{What}
use Rattle.doc_model.specs.declared.document.What.TheVariants as whats
use Rattle.doc_model.specs.declared.document.Item.{Item}
use Rattle.doc_model.specs.declared.status.Status.{Status}
use Rattle.doc_model.specs.Keys.{key_cmp}
use Rattle.manifest_rules.specs.Catalog.{Catalog, collection_at}
use Rattle.manifest_rules.specs.Rules.{Step, first_catalog}
use Rattle.manifest_rules.specs.Applying.{text_step}
use Rattle.vb_log.specs.declared.entry.Entry.{Entry}
use Rattle.vb_log.specs.declared.entry.Entry.TheVariants as entries
use Rattle.vb_log.specs.declared.entry.Pending.{Pending}

-- What a log comes to: what each key has, the prepared changes that wait, in rising order of their
-- positions, the manifest, the greatest CAS of all entries, and how many entries there are.
pub record Content : Type 0 where
  pub items : map.FinMap key_cmp Item
  pub prepares : List Pending
  pub manifest : Catalog
  pub greatest_cas : ℕ
  pub length : ℕ

-- what a log without entries comes to
abbrev pub no_content : Content
no_content = record {
  items = map.empty;
  prepares = [];
  manifest = first_catalog;
  greatest_cas = 0;
  length = 0;
}

-- ---- what is looked up

-- the document that a change stores
abbrev pub stored_doc : What → Option Doc
stored_doc (whats.Put doc) = Some doc
stored_doc (whats.Remove cas) = None

-- the document that an item has
abbrev pub doc_in : Option Item → Option Doc
doc_in item = option_and_then (λ (i : Item). stored_doc i.what) item

-- the CAS of a change
abbrev pub cas_of : What → ℕ
cas_of (whats.Put doc) = doc.cas
cas_of (whats.Remove cas) = cas

-- whether a collection is there
abbrev pub has_collection : Catalog → ℕ → Bool
has_collection manifest collection = is_some (collection_at manifest.scopes collection)

-- the change that was prepared at a position and waits
abbrev pub prepare_at : List Pending → ℕ → Option Pending
prepare_at prepares position = find (λ p. nat_eq p.position position) prepares

-- the change of a key that waits
abbrev pub prepare_of : List Pending → DocKey → Option Pending
prepare_of prepares key = find (λ p. eq_by_cmp key_cmp p.key key) prepares

-- ---- one entry

-- a change, with the sequence number that it gets
abbrev pub numbered : ℕ → What → What
numbered seqno (whats.Put doc) = whats.Put (record doc { seqno = seqno })
numbered seqno (whats.Remove cas) = whats.Remove cas

-- the item that a key gets by the entry at a position
abbrev pub item_made : ℕ → DocKey → What → Item
item_made position key what = record { key = key; seqno = position; what = numbered position what }

-- a key has something else, made by the next entry
abbrev pub with_item : Content → DocKey → What → Content
with_item c key what =
    record c { items = map.insert c.items key (item_made (c.length + 1) key what) }

-- the changes that wait but those that were prepared at a position
abbrev pub other_than : ℕ → List Pending → List Pending
other_than position prepares = filter (λ p. not (nat_eq p.position position)) prepares

-- one entry more, and all else as it was
abbrev pub one_longer : Content → Content
one_longer c = record c { length = c.length + 1 }

-- with this CAS among those that were drawn
abbrev pub with_cas : ℕ → Content → Content
with_cas cas c = record c { greatest_cas = max c.greatest_cas cas }

-- with a change that waits from the next entry on
abbrev pub with_prepare : Content → DocKey → What → ℕ → Content
with_prepare c key what level =
    record c { prepares = c.prepares ++ record { position = c.length + 1; level = level; key = key; what = what } ∷ [] }

-- what was prepared is made, if its collection is still there
abbrev pub committed : Content → Option Pending → Content
committed c None = c
committed c (Some p) =
    if has_collection c.manifest p.key.collection then with_item c p.key p.what else c

-- the items without those of dropped collections
abbrev pub without : map.FinMap key_cmp Item → List ℕ → map.FinMap key_cmp Item
without items dropped =
    map.retain_keys items (λ key. not (list_any (nat_eq key.collection) dropped))

-- another manifest takes the place of the one that is there; a refused one changes nothing
abbrev pub with_step : Content → Result Step Status → Content
with_step c (Ok step) =
    record c { items = without c.items step.dropped; manifest = step.after }
with_step c (Err refusing) = c

-- a content with one entry more
abbrev pub with_entry : Content → Entry → Content
with_entry c (entries.Mutation key doc) =
    with_cas doc.cas (one_longer (with_item c key (whats.Put doc)))
with_entry c (entries.Deletion key cas) =
    with_cas cas (one_longer (with_item c key (whats.Remove cas)))
with_entry c (entries.Prepare key what level) =
    with_cas (cas_of what) (one_longer (with_prepare c key what level))
with_entry c (entries.Commit of) =
    one_longer (record (committed c (prepare_at c.prepares of)) { prepares = other_than of c.prepares })
with_entry c (entries.Abort of) =
    one_longer (record c { prepares = other_than of c.prepares })
with_entry c (entries.Manifest text) =
    one_longer (with_step c (text_step c.manifest text))

-- whether a key may be changed: its collection is there, and no change of it waits
abbrev pub is_free : Content → DocKey → Bool
is_free c key =
    is_none (prepare_of c.prepares key) && has_collection c.manifest key.collection

-- Whether an entry may be added: a change is one of a key that may be changed, a Commit or an Abort
-- names a change that waits, and a manifest is one that applies.
abbrev pub allowed : Content → Entry → Bool
allowed c (entries.Mutation key doc) = is_free c key
allowed c (entries.Deletion key cas) = is_free c key
allowed c (entries.Prepare key what level) = is_free c key
allowed c (entries.Commit of) = is_some (prepare_at c.prepares of)
allowed c (entries.Abort of) = is_some (prepare_at c.prepares of)
allowed c (entries.Manifest text) = is_ok (text_step c.manifest text)

-- ---- whole logs

-- a content with more entries, the first of them first
abbrev pub with_entries : Content → List Entry → Content
with_entries c [] = c
with_entries c (e ∷ es) = with_entries (with_entry c e) es

-- what a log comes to
abbrev pub content_of : List Entry → Content
content_of log = with_entries no_content log

-- what two parts of a log come to, one after the other
pub with_entries-append : (c : Content) (es fs : List Entry)
    → with_entries c (es ++ fs) ≡ with_entries (with_entries c es) fs
with_entries-append c [] fs = refl
with_entries-append c (e ∷ es) fs = with_entries-append (with_entry c e) es fs

-- each entry may be added behind those before it
abbrev pub AllAllowed : Content → List Entry → Type 0
AllAllowed c [] = Unit {0}
AllAllowed c (e ∷ es) = (allowed c e ≡ true) × AllAllowed (with_entry c e) es

-- each entry of a log may be added behind those before it
abbrev pub IsLog : List Entry → Type 0
IsLog log = AllAllowed no_content log
