-- What holds of a content that is held in memory, beside what it has.
use Rattle.std.specs.Prelude.{◌≡◌, ℕ, ◌<◌, ◌^◌, nat_le, Bool, false, sum, map as list_map, List, Option, None, Some, IsTrue, refl}
use Rattle.std.specs.List.{list_all}
use Rattle.std.specs.Option.{option_map_or}
use Rattle.std.specs.FinMap as map
use Rattle.std.specs.Coded.{Coded, code_by, coded×, coded_ℕ, coded_list}
use Rattle.doc_model.specs.declared.key.DocKey.{DocKey}
use Rattle.doc_model.specs.declared.document.Item.{Item}
use Rattle.doc_model.specs.Keys.{key_cmp}
use Rattle.doc_model.specs.Values.{weight_of}
use Rattle.manifest_rules.specs.Catalog.{Catalog}
use Rattle.manifest_rules.specs.State.{is_kept, are_rising}
use Rattle.vb_log.specs.declared.entry.Pending.{Pending}
use Rattle.vb_log.specs.Content.{Content, has_collection}
use Rattle.vb_log.specs.Sizes.{size_of, size}

-- what an item counts, and what a change that waits counts
abbrev pub item_weight : Item → ℕ
item_weight i = size_of i.key i.what

abbrev pub pending_weight : Pending → ℕ
pending_weight p = size_of p.key p.what

-- what items count, and what changes that wait count
abbrev pub items_size : map.FinMap key_cmp Item → ℕ
items_size items = weight_of item_weight items

abbrev pub waiting_size : List Pending → ℕ
waiting_size prepares = sum (list_map pending_weight prepares)

-- what a change counts, where there is one
abbrev pub pending_size : Option Pending → ℕ
pending_size pending = option_map_or pending_weight pending 0

-- each item stands at its own key
abbrev pub StandAtKeys : map.FinMap key_cmp Item → Type 0
StandAtKeys items = (key : DocKey) (item : Item) → map.get items key ≡ Some item → item.key ≡ key

-- the positions of changes that wait rise
abbrev pub positions_rise : List Pending → Bool
positions_rise prepares = are_rising (list_map (λ (p : Pending). p.position) prepares)

-- the positions of changes that wait are those of a log's entries
abbrev pub positions_within : ℕ → List Pending → Bool
positions_within length prepares = list_all (λ (p : Pending). nat_le p.position length) prepares

-- keys of collections that aren't there have nothing
abbrev pub AreThere : Catalog → map.FinMap key_cmp Item → Type 0
AreThere manifest items = (key : DocKey) → has_collection manifest key.collection ≡ false → map.get items key ≡ None

-- What holds of each content: its manifest is one that may be kept, its items are in collections that are there, what waits
-- was prepared by entries of its log, and its size is told in 64 bits.
pub record IsHeld (c : Content) : Type 0 where
  pub kept : IsTrue (is_kept c.manifest)
  pub there : AreThere c.manifest c.items
  pub within : IsTrue (positions_within c.length c.prepares)
  pub fits : size c < 2 ^ 64

-- a content as a map, a list, a manifest and two numbers
abbrev pub coded_content : Coded (map.FinMap key_cmp Item) → Coded Pending → Coded Catalog → Coded Content
coded_content items pending manifest =
    code_by (map.FinMap key_cmp Item × (List Pending × (Catalog × (ℕ × ℕ)))) (coded× items (coded× (coded_list pending) (coded× manifest (coded× coded_ℕ coded_ℕ))))
    (λ c. (c.items, (c.prepares, (c.manifest, (c.greatest_cas, c.length)))))
    (λ p. record { items = p.0; prepares = p.1.0; manifest = p.1.1.0; greatest_cas = p.1.1.1.0; length = p.1.1.1.1 }) (λ _. refl)
