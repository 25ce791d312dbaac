-- Contents that are made of parts.
use Rattle.std.specs.Prelude.{◌≡◌, ℕ, ◌+◌, ◌<◌, ◌^◌, nat_eq, nat_le, Bool, ◌&&◌, sum, map as list_map, List, length, IsTrue}
use Rattle.std.specs.List.{AllByRecursion, IsDistinct}
use Rattle.std.specs.Ordering.{eq_by_cmp}
use Rattle.std.specs.FinMap as map
use Rattle.doc_model.specs.declared.key.DocKey.{DocKey}
use Rattle.doc_model.specs.declared.document.Item.{Item}
use Rattle.doc_model.specs.Keys.{key_cmp}
use Rattle.manifest_rules.specs.Catalog.{Catalog}
use Rattle.manifest_rules.specs.State.{is_kept}
use Rattle.vb_log.specs.declared.bounds.Bounds.{Bounds}
use Rattle.vb_log.specs.declared.entry.Pending.{Pending}
use Rattle.vb_log.specs.declared.limits.TheConstants.{CONTENT_LIMIT, SUM_LIMIT}
use Rattle.vb_log.specs.declared.reading.ContentFault.{ContentFault}
use Rattle.vb_log.specs.declared.reading.ContentFault.TheVariants as fault
use Rattle.vb_log.specs.Content.{Content}
use Rattle.vb_log.specs.Contents.{keys_waiting, numbers_in, IsAllowedItem, AreItemsWithin, IsWhole}
use Rattle.vb_log.specs.Held.{item_weight, waiting_size}
use Rattle.vb_log.specs.Prepares.{AreBounds, IsPendingWithin}

-- each item at its own key
abbrev pub by_keys : List Item → List (DocKey × Item)
by_keys items = list_map (λ (i : Item). (i.key, i)) items

-- A content has these parts: each of the items stands at its key, of which no two are equal, and no other key has anything;
-- the changes that wait, the manifest, the greatest CAS and the length are its own.
pub record AreParts (items : List Item) (pending : List Pending) (manifest : Catalog) (cas last : ℕ) (c : Content) : Type 0 where
  pub once : IsDistinct (eq_by_cmp key_cmp) (list_map (λ (i : Item). i.key) items)
  pub items_are : c.items ≡ map.from_entries (by_keys items)
  pub prepares_are : c.prepares ≡ pending
  pub manifest_is : c.manifest ≡ manifest
  pub cas_is : c.greatest_cas ≡ cas
  pub length_is : c.length ≡ last

-- why no content was made: none that has these parts is whole, and the place is 0
abbrev pub IsNoWhole : List Item → List Pending → Catalog → ℕ → ℕ → ContentFault → Type 0
IsNoWhole items pending manifest cas last (fault.Bad place) =
    (place ≡ 0) × ((c : Content) → AreParts items pending manifest cas last c → IsWhole c → ⊥)
IsNoWhole items pending manifest cas last fault.NoMemory = Unit {0}

-- each of the parts keeps its limits
pub record KeepLimits (items : List Item) (pending : List Pending) (manifest : Catalog) (bounds : Bounds) : Type 0 where
  pub wide : AreBounds bounds
  pub kept : IsTrue (is_kept manifest)
  pub few : length items < 2 ^ 32
  pub allowed : AllByRecursion (IsAllowedItem manifest bounds) items
  pub waiting : IsPendingWithin bounds pending

-- they do, and the items stand in rising order of their keys
pub record AreOrdered (items : List Item) (pending : List Pending) (manifest : Catalog) (bounds : Bounds) : Type 0 where
  pub wide : AreBounds bounds
  pub kept : IsTrue (is_kept manifest)
  pub rising : AreItemsWithin manifest bounds items
  pub waiting : IsPendingWithin bounds pending

-- what items count together
abbrev pub listed_size : List Item → ℕ
listed_size items = sum (list_map item_weight items)

-- whether items, changes that wait and entries aren't too many
abbrev pub are_within : List Item → List Pending → ℕ → Bool
are_within items pending last =
    nat_le (listed_size items + waiting_size pending) CONTENT_LIMIT && nat_le (last + length pending) SUM_LIMIT

-- parts go together: no two keys that wait are equal, no two numbers, and they aren't too many
pub record GoTogether (items : List Item) (pending : List Pending) (last : ℕ) : Type 0 where
  pub within : IsTrue (are_within items pending last)
  pub apart : IsDistinct (eq_by_cmp key_cmp) (keys_waiting pending)
  pub one_each : IsDistinct nat_eq (numbers_in items pending)
