-- How much a content holds, and how many bytes an entry's spelling has.
use Rattle.std.specs.Prelude.{ℕ, ◌+◌, nat_le, Bool, ◌&&◌, sum, map as list_map, length, Option}
use Rattle.std.specs.FinMap as map
use Rattle.std.specs.Option.{option_map_or}
use Rattle.doc_model.specs.declared.key.DocKey.{DocKey}
use Rattle.doc_model.specs.declared.document.Doc.{Doc}
use Rattle.doc_model.specs.declared.document.What.{What}
use Rattle.doc_model.specs.declared.document.What.TheVariants as whats
use Rattle.doc_model.specs.declared.document.Item.{Item}
use Rattle.leb_collections.specs.Functions.{id_bytes}
use Rattle.vb_log.specs.declared.entry.Entry.{Entry}
use Rattle.vb_log.specs.declared.entry.Entry.TheVariants as entries
use Rattle.vb_log.specs.declared.entry.Pending.{Pending}
use Rattle.vb_log.specs.declared.limits.TheConstants.{CONTENT_LIMIT, ITEM_OVERHEAD, SUM_LIMIT}
use Rattle.vb_log.specs.Content.{Content, with_entry, allowed}

-- the bytes of a change that are counted: attributes and value of a document
abbrev pub bytes_of : What → ℕ
bytes_of (whats.Put doc) = length doc.xattrs + length doc.value
bytes_of (whats.Remove cas) = 0

-- what a key and what it has, or is to get, count
abbrev pub size_of : DocKey → What → ℕ
size_of key what = ITEM_OVERHEAD + length key.key + bytes_of what

-- what a key's item counts, where it has one
abbrev pub item_size : Option Item → ℕ
item_size item = option_map_or (λ (i : Item). size_of i.key i.what) item 0

-- what a content counts: its items and the changes that wait
abbrev pub size : Content → ℕ
size c =
    sum (list_map (λ (i : Item). size_of i.key i.what) (map.values c.items))
    + sum (list_map (λ (p : Pending). size_of p.key p.what) c.prepares)

-- what it counts after an entry
abbrev pub size_after : Content → Entry → ℕ
size_after c e = size (with_entry c e)

-- whether a content isn't too large
abbrev pub is_within : Content → Bool
is_within c = nat_le (size c) CONTENT_LIMIT && nat_le (c.length + length c.prepares) SUM_LIMIT

-- whether an entry can be added: it may be, and leaves a content that isn't too large
abbrev pub can_add : Content → Entry → Bool
can_add c e = allowed c e && is_within (with_entry c e)

-- ---- spellings: a number of a byte says which entry or change it is

-- a key: a length of one byte, its collection's id, its name
abbrev pub key_length : DocKey → ℕ
key_length key = 1 + length (id_bytes key.collection) + length key.key

-- a document: CAS, flags, expiry, whether it is JSON, and attributes and value behind their lengths
abbrev pub doc_length : Doc → ℕ
doc_length doc = 8 + 4 + 4 + 1 + (4 + length doc.xattrs) + (4 + length doc.value)

-- a change: a document, or the CAS of a deletion
abbrev pub what_length : What → ℕ
what_length (whats.Put doc) = 1 + doc_length doc
what_length (whats.Remove cas) = 1 + 8

-- how many bytes an entry's spelling has
abbrev pub entry_length : Entry → ℕ
entry_length (entries.Mutation key doc) = 1 + key_length key + doc_length doc
entry_length (entries.Deletion key cas) = 1 + key_length key + 8
entry_length (entries.Prepare key what level) = 1 + 1 + key_length key + what_length what
entry_length (entries.Commit of) = 1 + 8
entry_length (entries.Abort of) = 1 + 8
entry_length (entries.Manifest text) = 1 + 4 + length text
