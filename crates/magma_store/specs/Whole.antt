-- Whether a whole content has the items of a store, told from their spots alone.
use Rattle.std.specs.Prelude.{◌≡◌, ℕ, ◌+◌, ◌≤◌, nat_eq, nat_le, Bool, ◌&&◌, map as list_map, List, ◌++◌, Some}
use Rattle.std.specs.FinMap as map
use Rattle.std.specs.List.{list_all, IsDistinct}
use Rattle.doc_model.specs.declared.key.DocKey.{DocKey}
use Rattle.doc_model.specs.declared.document.Item.{Item}
use Rattle.doc_model.specs.Keys.{key_cmp}
use Rattle.doc_model.specs.Values.{AreValues}
use Rattle.manifest_rules.specs.Catalog.{Catalog}
use Rattle.vb_log.specs.declared.entry.Pending.{Pending}
use Rattle.vb_log.specs.declared.limits.TheConstants.{CONTENT_LIMIT}
use Rattle.vb_log.specs.Content.{Content, has_collection}
use Rattle.vb_log.specs.Sizes.{size}
use Rattle.magma_store.specs.declared.meta.Meta.{Meta}
use Rattle.magma_store.specs.declared.spot.Spot.{Spot}
use Rattle.magma_store.specs.Held.{Held}
use Rattle.magma_store.specs.Spots.{spots_size}

-- ---- contents

-- a content with these items in the place of its own
abbrev pub having : map.FinMap key_cmp Item → Content → Content
having items c = record c { items = items }

-- the content without items of a store's length and greatest CAS, a manifest and changes that wait
abbrev pub bare_of : Meta → Catalog → List Pending → Content
bare_of meta manifest prepares = record {
  items = map.empty;
  prepares = prepares;
  manifest = manifest;
  greatest_cas = meta.cas;
  length = meta.length;
}

-- the content of a store's items, length and greatest CAS, a manifest and changes that wait
abbrev pub content_of : Held → Catalog → List Pending → Content
content_of held manifest prepares = having held.items (bare_of held.meta manifest prepares)

-- ---- what spots tell

-- the sequence numbers of the items at spots, and the positions of changes that wait
abbrev pub numbers_at : List Spot → List Pending → List ℕ
numbers_at spots prepares = list_map (λ (s : Spot). s.seqno) spots ++ list_map (λ (p : Pending). p.position) prepares

-- whether an item was made by an entry of a log so long, and its CAS is one of that log's
abbrev pub is_of_log : ℕ → ℕ → Spot → Bool
is_of_log length cas spot = nat_le spot.seqno length && nat_le spot.cas cas

-- each item was made by an entry of a log so long, and its CAS is one of that log's
abbrev pub AreOfLog : ℕ → ℕ → map.FinMap key_cmp Spot → Type 0
AreOfLog length cas spots =
    (key : DocKey) (spot : Spot) → map.get spots key ≡ Some spot → (spot.seqno ≤ length) × (spot.cas ≤ cas)

-- what the items count whose collections a manifest has
abbrev pub size_there : Catalog → map.FinMap key_cmp Spot → ℕ
size_there manifest spots = spots_size (map.retain_keys spots (λ key. has_collection manifest key.collection))

-- The items at spots go with a content without items: they aren't too large beside what waits there, their collections are
-- there, they are of its log, and no two of them and of the changes that wait were made by one entry.
pub record GoWith (spots : map.FinMap key_cmp Spot) (c : Content) : Type 0 where
  pub light : spots_size spots + size c ≤ CONTENT_LIMIT
  pub present : size_there c.manifest spots ≡ spots_size spots
  pub of_log : AreOfLog c.length c.greatest_cas spots
  pub one_each : IsDistinct nat_eq (numbers_at (map.values spots) c.prepares)

-- ---- parts of it

-- a test's answer for all spots of a map
pub record AnswersAll (test : Spot → Bool) (spots : map.FinMap key_cmp Spot) (answer : Bool) : Type 0 where
  pub values : List Spot
  pub are : AreValues spots values
  pub is : answer ≡ list_all test values

-- the numbers of all spots of a map, in whatever order, behind others
pub record AreNumbersBehind (others : List ℕ) (spots : map.FinMap key_cmp Spot) (numbers : List ℕ) : Type 0 where
  pub values : List Spot
  pub are : AreValues spots values
  pub is : numbers ≡ others ++ list_map (λ (s : Spot). s.seqno) values
