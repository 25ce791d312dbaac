-- How many bytes the records of a store fill, and how many segments.
use Rattle.std.specs.Prelude.{◌≡◌, ℕ, ◌+◌, ◌-◌, ◌/◌, Bool, List, length, sum, map as list_map}
use Rattle.doc_model.specs.declared.document.Item.{Item}
use Rattle.durability_core.specs.declared.chain.Chain.{Chain}
use Rattle.vb_log.specs.Contents.{item_bytes}
use Rattle.magma_store.specs.declared.kinds.TheConstants.{SEGMENT, SEGMENTS}
use Rattle.magma_store.specs.declared.meta.Meta.{Meta}
use Rattle.magma_store.specs.Changes.{made_bytes}

-- the bytes of a record beside what it holds: its gate and its size
abbrev pub record_size : ℕ → ℕ
record_size held = 9 + held

-- the record with which a store is made
abbrev pub made_size : Chain → ℕ
made_size chain = record_size (length (made_bytes chain 0))

-- a record that sets numbers
abbrev pub sets_size : ℕ
sets_size = record_size 41

-- a record that writes items and a tail: 49 bytes beside both
abbrev pub write_size : List ℕ → List Item → ℕ
write_size tail items = record_size (49 + (length tail + sum (list_map (λ i. length (item_bytes i)) items)))

-- how many segments so many bytes fill
abbrev pub segments_of : ℕ → ℕ
segments_of n = (n + (SEGMENT - 1)) / SEGMENT

-- the segments that so many bytes more fill beyond those that are filled
abbrev pub needed_for : ℕ → ℕ → ℕ
needed_for filled more = segments_of (filled + more) - segments_of filled

-- ---- what a layout decides; it is how many bytes the records of a store fill

-- the segments that a write needs, of a batch put over the items, or in their place
abbrev pub needed : ℕ → Bool → List Item → Meta → ℕ
needed layout is_anew batch meta = needed_for layout (write_size meta.tail batch)

-- the segments that are free
abbrev pub free : ℕ → ℕ
free layout = SEGMENTS - segments_of layout

-- a write leaves a layout, the setting of numbers leaves one, and a new store has one
abbrev pub LaysWrite : ℕ → Bool → List Item → Meta → ℕ → Type 0
LaysWrite layout is_anew batch meta new = new ≡ layout + write_size meta.tail batch

abbrev pub LaysNumbers : ℕ → ℕ → Type 0
LaysNumbers layout new = new ≡ layout + sets_size

abbrev pub LaysNew : Chain → ℕ → Type 0
LaysNew chain new = new ≡ made_size chain
