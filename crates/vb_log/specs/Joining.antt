-- Parts of contents, held in memory, and how they are joined.
use Rattle.std.specs.Prelude.{◌≡◌, ℕ, ◌+◌, ◌<◌, ◌^◌, List, [], ◌∷◌, Option, Some, IsTrue, refl}
use Rattle.std.specs.List.{AllByRecursion}
use Rattle.std.specs.FinMap as map
use Rattle.std.specs.Coded.{Coded, code_by, coded×, coded_ℕ, coded_list}
use Rattle.doc_model.specs.declared.key.DocKey.{DocKey}
use Rattle.doc_model.specs.declared.document.Item.{Item}
use Rattle.doc_model.specs.Keys.{key_cmp}
use Rattle.doc_model.specs.Values.{StandOnce}
use Rattle.manifest_rules.specs.Catalog.{Catalog}
use Rattle.manifest_rules.specs.State.{is_kept}
use Rattle.vb_log.specs.declared.entry.Pending.{Pending}
use Rattle.vb_log.specs.Content.{has_collection}
use Rattle.vb_log.specs.Parts.{Difference, is_behind}
use Rattle.vb_log.specs.Held.{items_size, waiting_size, StandAtKeys, positions_within}
use Rattle.vb_log.specs.Wholes.{by_keys}

-- what a part counts: its items and the changes that wait
abbrev pub part_size : Difference → ℕ
part_size part = items_size part.items + waiting_size part.prepares

-- copies of the items that were made behind a position, each of a key of its own
pub record AreBehind (items : map.FinMap key_cmp Item) (from : ℕ) (copied : List Item) : Type 0 where
  pub once : StandOnce (by_keys copied)
  pub made : map.from_entries (by_keys copied) ≡ map.retain_keys items (λ key. is_behind from (map.get items key))
  pub own : AllByRecursion (λ (i : Item). map.get items i.key ≡ Some i) copied

-- What holds of a part that is held in memory: each of its items is of a key of its own, in a collection that is there, its
-- manifest is one that may be kept, and what waits was prepared before its end.
pub record IsPart (items : List Item) (prepares : List Pending) (manifest : Catalog) (end : ℕ) : Type 0 where
  pub once : StandOnce (by_keys items)
  pub there : AllByRecursion (λ (i : Item). IsTrue (has_collection manifest i.key.collection)) items
  pub kept : IsTrue (is_kept manifest)
  pub within : IsTrue (positions_within end prepares)

-- a map with entries set over it, the first of a key over later ones
abbrev pub with_all : map.FinMap key_cmp Item → List (DocKey × Item) → map.FinMap key_cmp Item
with_all items [] = items
with_all items (e ∷ es) = map.insert (with_all items es) e.0 e.1

-- a key got another item, and what it had is noted
pub record Noted (before after : map.FinMap key_cmp Item) (note : DocKey × Option Item) : Type 0 where
  pub item : Item
  pub had : note.1 ≡ map.get before note.0
  pub set : after ≡ map.insert before note.0 item
  pub stand : StandAtKeys before
  pub fits : items_size before < 2 ^ 64

-- notes, the last one first, of how items became others
abbrev pub AreNoted : map.FinMap key_cmp Item → List (DocKey × Option Item) → map.FinMap key_cmp Item → Type 0
AreNoted before [] after = after ≡ before
AreNoted before (note ∷ notes) after = (between : map.FinMap key_cmp Item) × AreNoted before notes between × Noted between after note

-- a part as two numbers, a map, a list, a manifest and a number
abbrev pub coded_part : Coded (map.FinMap key_cmp Item) → Coded Pending → Coded Catalog → Coded Difference
coded_part items pending manifest =
    code_by (ℕ × (ℕ × (map.FinMap key_cmp Item × (List Pending × (Catalog × ℕ))))) (coded× coded_ℕ (coded× coded_ℕ (coded× items (coded× (coded_list pending) (coded× manifest coded_ℕ)))))
    (λ d. (d.from, (d.end, (d.items, (d.prepares, (d.manifest, d.greatest_cas))))))
    (λ p. record { from = p.0; end = p.1.0; items = p.1.1.0; prepares = p.1.1.1.0; manifest = p.1.1.1.1.0; greatest_cas = p.1.1.1.1.1 }) (λ _. refl)
