-- What a content counts, entry by entry.
use Rattle.std.specs.Prelude.{◌≡◌, ℕ, ◌+◌, sum, map as list_map, List, [], ◌∷◌, ◌++◌, length, refl}
use Rattle.std.specs.FinMap as map
use Rattle.std.proofs.Common.{◌∙◌, ap, arith}
use Rattle.std.proofs.lemmas.List.Sums.{sum_by_push}
use Rattle.doc_model.specs.declared.key.DocKey.{DocKey}
use Rattle.doc_model.specs.declared.document.What.{What}
use Rattle.doc_model.specs.declared.document.What.TheVariants as whats
use Rattle.vb_log.specs.Content.{Content, numbered, item_made, with_item}
use Rattle.vb_log.specs.declared.entry.Pending.{Pending}
use Rattle.vb_log.specs.Laws.{MutationCounts, DeletionCounts, PrepareCounts}
use Rattle.vb_log.specs.Sizes.{bytes_of, size_of, item_size, size}
use Rattle.vb_log.specs.Held.{pending_weight, waiting_size}
use Rattle.vb_log.proofs.Weighing.{size_insert}

pub numbered_bytes : (n : ℕ) (what : What) → bytes_of (numbered n what) ≡ bytes_of what
numbered_bytes n (whats.Put doc) = refl
numbered_bytes n (whats.Remove cas) = refl

-- A content with another item counts what it did, and the new item in place of the one that the key had.
pub item_counts : (c : Content) (key : DocKey) (what : What) → size (with_item c key what) + item_size (map.get c.items key) ≡ size c + size_of key what
item_counts c key what =
    let a = size_insert c.items key (item_made (c.length + 1) key what) in
    let b : size_of key (numbered (c.length + 1) what) ≡ size_of key what = ap (λ n. 288 + length key.key + n) (numbered_bytes (c.length + 1) what) in
    omega arith

pub mutation_counts : MutationCounts
mutation_counts c key doc = item_counts c key (whats.Put doc)

pub deletion_counts : DeletionCounts
deletion_counts c key cas = item_counts c key (whats.Remove cas)

-- a change that waits counts beside the others
pub waiting_push : (ps : List Pending) (p : Pending) → waiting_size (ps ++ p ∷ []) ≡ waiting_size ps + pending_weight p
waiting_push ps p = ap sum (map_push ps) ∙ sum_by_push (λ n. n) (list_map pending_weight ps) (pending_weight p)
  where
    map_push : (ps : List Pending) → list_map pending_weight (ps ++ p ∷ []) ≡ list_map pending_weight ps ++ pending_weight p ∷ []
    map_push [] = refl
    map_push (x ∷ xs) = ap (λ l. pending_weight x ∷ l) (map_push xs)

pub prepare_counts : PrepareCounts
prepare_counts c key what level =
    let more = waiting_push c.prepares (record { position = c.length + 1; level = level; key = key; what = what }) in
    omega arith
