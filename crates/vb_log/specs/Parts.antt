-- What of a content lies behind a position, and a content with such a part joined to it.
use Rattle.std.specs.Prelude.{◌≡◌, ◌≤◌, ℕ, nat_lt, Bool, false, List, ◌++◌, length, take, Option}
use Rattle.std.specs.FinMap as map
use Rattle.std.specs.Option.{option_map_or}
use Rattle.doc_model.specs.declared.document.Item.{Item}
use Rattle.doc_model.specs.Keys.{key_cmp}
use Rattle.manifest_rules.specs.Catalog.{Catalog}
use Rattle.vb_log.specs.declared.entry.Entry.{Entry}
use Rattle.vb_log.specs.declared.entry.Pending.{Pending}
use Rattle.vb_log.specs.Content.{Content, has_collection, content_of, IsLog}

-- What of a content lies behind a position: the items that were made there; the changes that wait,
-- the manifest and the greatest CAS are whole.
pub record Difference : Type 0 where
  pub from : ℕ
  pub end : ℕ
  pub items : map.FinMap key_cmp Item
  pub prepares : List Pending
  pub manifest : Catalog
  pub greatest_cas : ℕ

-- whether there is an item and it was made behind a position
abbrev pub is_behind : ℕ → Option Item → Bool
is_behind position item = option_map_or (λ i. nat_lt position i.seqno) item false

-- what of a content lies behind a position
abbrev pub difference : Content → ℕ → Difference
difference c from = record {
  from = from;
  end = c.length;
  items = map.retain_keys c.items (λ key. is_behind from (map.get c.items key));
  prepares = c.prepares;
  manifest = c.manifest;
  greatest_cas = c.greatest_cas;
}

-- the items of collections that a manifest has
abbrev pub items_left : Catalog → map.FinMap key_cmp Item → map.FinMap key_cmp Item
items_left manifest items = map.retain_keys items (λ key. has_collection manifest key.collection)

-- A content with a part joined to it: its items whose collection is still there, and over them
-- those of the part; all else is the part's.
abbrev pub joined : Content → Difference → Content
joined c part = record {
  items = map.from_entries (map.entries part.items ++ map.entries (items_left part.manifest c.items));
  prepares = part.prepares;
  manifest = part.manifest;
  greatest_cas = part.greatest_cas;
  length = part.end;
}

-- The law of differences: what of a log's content lies behind a position, joined to what the log
-- comes to up to there, is what the whole log comes to.
abbrev pub JoinsBack : Type 0
JoinsBack = (log : List Entry) (a : ℕ) → IsLog log → a ≤ length log →
    joined (content_of (take a log)) (difference (content_of log) a) ≡ content_of log
