-- Items in the order of the positions at which they were made.
use Rattle.std.specs.Prelude.{◌≡◌, ℕ, ◌≤◌, ◌<◌, map as list_map, get_or, true, List, [], ◌∷◌, Some, length, refl}
use Rattle.std.specs.List.{AllByRecursion}
use Rattle.std.specs.List.Sorted.{IsNonDecreasingBy, IsPermutation}
use Rattle.std.specs.FinMap as map
use Rattle.std.proofs.Common.{Bor, sym, ap, ◌∙◌, subst, arith}
use Rattle.std.proofs.lemmas.List.{get_or-map, length-map}
use Rattle.std.proofs.lemmas.List.Elements.{All-from_recursion, recursion_from_All}
use Rattle.std.proofs.lemmas.List.Sorted.{All-permutation, IsPermutation-map, IsNonDecreasingBy-from_default, IsNonDecreasingBy-short}
use Rattle.doc_model.specs.declared.document.Item.{Item}
use Rattle.doc_model.specs.Keys.{key_cmp}
use Rattle.doc_model.specs.Values.{AreValues}
use Rattle.manifest_rules.specs.Catalog.{Catalog}
use Rattle.manifest_rules.specs.State.{is_kept}
use Rattle.vb_log.specs.declared.entry.Pending.{Pending}
use Rattle.vb_log.specs.Content.{Content, has_collection}
use Rattle.vb_log.specs.Flushing.{AreByPosition}
use Rattle.vb_log.specs.Held.{StandAtKeys, AreThere, IsHeld, positions_within, waiting_size, items_size}
use Rattle.vb_log.proofs.Behind.{each_own, there_own}
use Rattle.vb_log.proofs.Sorting.{are_own}
use Rattle.vb_log.proofs.Weighing.{size_none}

-- what references show rises as they do
pub rising_now : (refs : List (Bor Item)) → IsNonDecreasingBy (λ (r : Bor Item). r.now.seqno) refs → IsNonDecreasingBy (λ (i : Item). i.seqno) (list_map (λ (r : Bor Item). r.now) refs)
rising_now [] up = IsNonDecreasingBy-short (λ (i : Item). i.seqno) [] (omega arith)
rising_now (r ∷ rs) up = IsNonDecreasingBy-from_default (λ (i : Item). i.seqno) (list_map (λ (b : Bor Item). b.now) (r ∷ rs)) r.now go
  where
    at : (i : ℕ) → i < length (r ∷ rs) → get_or (list_map (λ (b : Bor Item). b.now) (r ∷ rs)) i r.now ≡ (get_or (r ∷ rs) i r).now
    at i lt = get_or-map (λ (b : Bor Item). b.now) (r ∷ rs) i r r.now lt

    go : (i j : ℕ) → i ≤ j → j < length (list_map (λ (b : Bor Item). b.now) (r ∷ rs)) → (get_or (list_map (λ (b : Bor Item). b.now) (r ∷ rs)) i r.now).seqno ≤ (get_or (list_map (λ (b : Bor Item). b.now) (r ∷ rs)) j r.now).seqno
    go i j le lt =
        let len : length (list_map (λ (b : Bor Item). b.now) (r ∷ rs)) ≡ length (r ∷ rs) = length-map (r ∷ rs) (λ (b : Bor Item). b.now) in
        let low : j < length (r ∷ rs) = omega (arith, len, lt) in
        let one = ap (λ (k : Item). k.seqno) (at i (omega (arith, le, low))) in
        let two = ap (λ (k : Item). k.seqno) (at j low) in
        omega (arith, one, two, up i j r le low)

-- the items of a map, moved, are each its key's own
own_moved : (m : map.FinMap key_cmp Item) (values found : List Item) → AreValues m values → StandAtKeys m → IsPermutation values found → AllByRecursion (λ (i : Item). map.get m i.key ≡ Some i) found
own_moved m values found v at moved =
    let o = are_own m values v at in
    recursion_from_All (λ (i : Item). map.get m i.key ≡ Some i) found
    (All-permutation (λ (i : Item). map.get m i.key ≡ Some i) values found moved
    (All-from_recursion (λ (i : Item). map.get m i.key ≡ Some i) values (each_own m values o.once o.made)))

pub by_positions : (m : map.FinMap key_cmp Item) (values found : List Item) → AreValues m values → StandAtKeys m → IsPermutation values found → IsNonDecreasingBy (λ (i : Item). i.seqno) found → AreByPosition m found
by_positions m values found v at moved up = record { values = values; are = v; moved = moved; rise = up; own = own_moved m values found v at moved }

-- what references show, once they are sorted
pub sorted_positions : (m : map.FinMap key_cmp Item) (refs sorted : List (Bor Item)) (values : List Item) → list_map (λ (r : Bor Item). r.now) refs ≡ values → AreValues m values → StandAtKeys m → IsPermutation refs sorted
    → IsNonDecreasingBy (λ (r : Bor Item). r.now.seqno) sorted → AreByPosition m (list_map (λ (r : Bor Item). r.now) sorted)
sorted_positions m refs sorted values same v at moved up =
    by_positions m (list_map (λ (r : Bor Item). r.now) refs) (list_map (λ (r : Bor Item). r.now) sorted) (subst (AreValues m) (sym same) v) at
    (IsPermutation-map (λ (r : Bor Item). r.now) refs sorted moved) (rising_now sorted up)

-- and in a collection that is there
pub present_moved : (manifest : Catalog) (m : map.FinMap key_cmp Item) (found : List Item) → AreThere manifest m → AreByPosition m found → AllByRecursion (λ (i : Item). has_collection manifest i.key.collection ≡ true) found
present_moved manifest m found there are = there_own manifest m found there are.own

-- ---- without items

-- a content without its items keeps what holds of contents
pub emptied_held : (c : Content) (prepares : List Pending) (manifest : Catalog) → IsHeld c → prepares ≡ c.prepares → manifest ≡ c.manifest
    → IsHeld (record { items = map.empty; prepares = prepares; manifest = manifest; greatest_cas = c.greatest_cas; length = c.length })
emptied_held c prepares manifest h same also = record {
  kept = subst (λ m. is_kept m ≡ true) (sym also) h.kept;
  there = λ key gone. map.get-empty key_cmp key;
  within = ap (positions_within c.length) same ∙ h.within;
  fits = let less = ap waiting_size same in let none = size_none in omega (arith, h.fits);
}
