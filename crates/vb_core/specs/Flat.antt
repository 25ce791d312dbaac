-- The layouts of the store's flat journal, as a copy goes by them.
use Rattle.std.specs.Prelude.{ℕ, ◌+◌, nat_eq, Bool, false, List, ◌++◌, if◌then◌else◌}
use Rattle.std.specs.FinMap as map
use Rattle.doc_model.specs.declared.document.Item.{Item}
use Rattle.durability_core.specs.declared.chain.Chain.{Chain}
use Rattle.manifest_rules.specs.State.{state_of}
use Rattle.vb_log.specs.Content.{Content}
use Rattle.vb_log.specs.Parts.{difference}
use Rattle.vb_log.specs.Prepares.{pending_bytes}
use Rattle.copy_model.specs.Copies.{Nothing, LayoutKind}
use Rattle.magma_store.specs.Layout.{write_size, sets_size, made_size, needed_for, free}

-- the items that are put on disk of a content whose log has so many entries there, or of one that was begun anew
abbrev pub batch_of : Bool → ℕ → Content → List Item
batch_of is_anew on_disk content =
    if is_anew then map.values content.items else map.values (difference content on_disk).items

-- the state of its manifest, and the changes that wait
abbrev pub tail_of : Content → List ℕ
tail_of content = state_of content.manifest ++ pending_bytes content.prepares

-- how many bytes are written of it
abbrev pub size_of_write : Bool → ℕ → Content → ℕ
size_of_write is_anew on_disk content = write_size (tail_of content) (batch_of is_anew on_disk content)

-- The layout is how many bytes the records fill: each write leaves the one that it makes longer by what it writes, and
-- cleaning has nothing to do.
abbrev pub flat : Chain → LayoutKind ℕ
flat chain = record {
  needed = λ layout is_anew on_disk content. needed_for layout (size_of_write is_anew on_disk content);
  free = free;
  cleaned = λ layout most content. Nothing;
  begins = λ layout. nat_eq layout (made_size chain);
  commits = λ layout is_anew on_disk content new. nat_eq new (layout + size_of_write is_anew on_disk content);
  promises = λ layout new. nat_eq new (layout + sets_size);
  opens = λ layout new. nat_eq new (layout + sets_size);
  cleans = λ layout most content new. false;
}
