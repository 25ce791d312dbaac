-- Where a key is looked up, and what stands where it should.
use Rattle.std.specs.Prelude.{◌≡◌, ℕ, ◌/◌, ◌^◌, nat_eq, not, true, is_some, List, None}
use Rattle.std.specs.declared.cmp.Ordering.{Ordering}
use Rattle.std.specs.List.{list_all, AllByRecursion}
use Rattle.std.specs.List.Sorted.{IsStrictlySortedBy}
use Rattle.std.specs.Map.{keys_of, values_of, lookup}
use Rattle.std.specs.BTreeMap.{is_at}
use Rattle.std.specs.Ordering.{nat_cmp, ordering_then}
use Rattle.std.specs.Hash.FoldHasher as folding
use Rattle.doc_model.specs.declared.key.DocKey.{DocKey}
use Rattle.doc_model.specs.declared.slot.Slot.{Slot}
use Rattle.doc_model.specs.Keys.{key_cmp}

-- by collection, and then by hash
abbrev pub slot_cmp : Slot → Slot → Ordering
slot_cmp a b = ordering_then (nat_cmp a.collection b.collection) (nat_cmp a.hash b.hash)

-- a key's collection, and the upper half of the hash of its bytes
unfoldable pub slot_of : DocKey → Slot
slot_of key = record { collection = key.collection; hash = folding.finish (folding.write folding.initial key.key) / 2 ^ 32 }

-- the slots ascend, and what stands in each belongs there
pub record ArePlaced {X : Type 0} (entries : List (Slot × (DocKey × X))) : Type 0 where
  pub sorted : IsStrictlySortedBy slot_cmp (keys_of entries)
  pub placed : AllByRecursion (λ e. e.0 ≡ slot_of e.1.0) entries

-- a key that stands in its slot has nothing among the others
abbrev pub AreApart : {X : Type 0} → List (Slot × (DocKey × X)) → List (DocKey × X) → Type 0
AreApart entries others = (key : DocKey) → is_some (lookup (is_at (key_cmp key)) (values_of entries)) ≡ true → lookup (is_at (key_cmp key)) others ≡ None

-- what stands in slots, and what found its slot taken, by ascending keys
pub record AreTrees {X : Type 0} (entries : List (Slot × (DocKey × X))) (others : List (DocKey × X)) : Type 0 where
  pub placed : ArePlaced entries
  pub ordered : IsStrictlySortedBy key_cmp (keys_of others)
  pub apart : AreApart entries others

-- no slot of a collection is taken
abbrev pub HasNone : {X : Type 0} → ℕ → List (Slot × X) → Type 0
HasNone collection entries = list_all (λ e. not (nat_eq e.0.collection collection)) entries ≡ true

-- a slot of a collection is taken
pub record HasFirst {X : Type 0} (collection : ℕ) (entries : List (Slot × X)) (slot : Slot) : Type 0 where
  pub its : slot.collection ≡ collection
  pub taken : is_some (lookup (is_at (slot_cmp slot)) entries) ≡ true
