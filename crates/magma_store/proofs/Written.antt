-- What is spelled, piece by piece.
use Rattle.std.specs.Prelude.{◌≡◌, ℕ, zero, suc, ◌+◌, ◌-◌, ◌≤◌, ◌<◌, List, [], ◌∷◌, ◌++◌, length, take, drop, map as list_map}
use Rattle.std.specs.Int.{w32, w64, to_be_bytes}
use Rattle.std.specs.List.{AllByRecursion}
use Rattle.std.proofs.Common.{Bor, get_or, sym, ap, ap₂, ◌∙◌, append_assoc, append-nil, arith}
use Rattle.std.proofs.lemmas.List.{length-append, take_more, map-append, drop-append-le, length-drop, take_all, drop_all}
use Rattle.doc_model.specs.declared.document.Item.{Item}
use Rattle.vb_log.specs.Contents.{item_bytes}
use Rattle.vb_log.specs.Stored.{IsStorable}
use Rattle.magma_store.specs.declared.journal.TheConstants.{SHUT}
use Rattle.magma_store.specs.declared.meta.Numbers.{Numbers}
use Rattle.magma_store.specs.declared.spot.Placed.{Placed}
use Rattle.magma_store.specs.Changes.{numbers_bytes}
use Rattle.magma_store.specs.Fronts.{spot_of}
use Rattle.magma_store.specs.Journal.{piece_bytes}
use Rattle.magma_store.specs.Spots.{placed}
use Rattle.magma_store.proofs.StoredItems.{flat}
use Rattle.magma_store.proofs.Batches.{flat_push, placed_push}

-- what all elements have, one of them has
pub all_at : {A : Type 0} (P : A → Type 0) (xs : List A) (k : ℕ) (d : A) → AllByRecursion P xs → k < length xs → P (get_or xs k d)
all_at P [] k d h low = absurd (omega arith)
all_at P (x ∷ xs) zero d h low = h.0
all_at P (x ∷ xs) (suc k) d h low = let lower : k < length xs = omega arith in all_at P xs k d h.1 lower

-- what all have that are lent, one of them has
pub lent_at : (lent : List (Bor Item)) (k : ℕ) (d : Bor Item) → AllByRecursion IsStorable (list_map (λ i. i.now) lent) → k < length lent → IsStorable (get_or lent k d).now
lent_at [] k d h low = absurd (omega arith)
lent_at (x ∷ lent) zero d h low = h.0
lent_at (x ∷ lent) (suc k) d h low = let lower : k < length lent = omega arith in lent_at lent k d h.1 lower

-- one more that is lent
pub lent_push : (lent : List (Bor Item)) (k : ℕ) (i : Bor Item) → k < length lent → i ≡ get_or lent k i → list_map (λ i. i.now) (take (k + 1) lent) ≡ list_map (λ i. i.now) (take k lent) ++ i.now ∷ []
lent_push lent k i low is =
    ap (list_map (λ i. i.now)) (take_more lent k i low ∙ ap (λ x. take k lent ++ x ∷ []) (sym is))
    ∙ map-append (λ (i : Bor Item). i.now) (take k lent) (i ∷ [])

-- ---- items

-- an item was appended
pub bytes_step : (old head : List ℕ) (before : List Item) (i : Item) (out new : List ℕ) → out ≡ old ++ (head ++ flat before) → new ≡ out ++ item_bytes i → new ≡ old ++ (head ++ flat (before ++ i ∷ []))
bytes_step old head before i out new so more =
    more ∙ ap (λ l. l ++ item_bytes i) so ∙ regroup old head (flat before) (item_bytes i) ∙ ap (λ l. old ++ (head ++ l)) (sym pushed)
  where
    regroup : (u v w x : List ℕ) → (u ++ (v ++ w)) ++ x ≡ u ++ (v ++ (w ++ x))
    regroup u v w x = simp append_assoc

    pushed : flat (before ++ i ∷ []) ≡ flat before ++ item_bytes i
    pushed = sym (append-nil (flat (before ++ i ∷ []))) ∙ flat_push before i [] ∙ ap (λ l. flat before ++ l) (append-nil (item_bytes i))

-- and stands behind the others
pub places_step : (old : List ℕ) (count at : ℕ) (before : List Item) (i : Item) (out : List ℕ) (places : List Placed) (place : Placed) (new : List Placed) → 8 ≤ length old
    → out ≡ old ++ (to_be_bytes w32 count ++ flat before) → places ≡ placed (at + (length old - 4)) before → place ≡ spot_of (at + (length out - 8)) i → new ≡ places ++ place ∷ []
    → new ≡ placed (at + (length old - 4)) (before ++ i ∷ [])
places_step old count at before i out places place new begun so were is more =
    let offset : at + (length out - 8) ≡ at + (length old - 4) + length (flat before) =
    omega (arith, ap length so, length-append old (to_be_bytes w32 count ++ flat before), length-append (to_be_bytes w32 count) (flat before)) in
    more ∙ ap₂ (λ l x. l ++ x ∷ []) were (is ∙ ap (λ n. spot_of n i) offset) ∙ sym (placed_push (at + (length old - 4)) before i)

-- ---- numbers

pub numbers_added : (n : Numbers) (old a b c d now : List ℕ) → a ≡ old ++ to_be_bytes w64 n.promise → b ≡ a ++ to_be_bytes w64 n.accepted → c ≡ b ++ to_be_bytes w64 n.incarnation → d ≡ c ++ to_be_bytes w64 n.length → now ≡ d ++ to_be_bytes w64 n.cas
    → now ≡ old ++ numbers_bytes n
numbers_added n old a b c d now p q r s t =
    t ∙ ap (λ l. l ++ to_be_bytes w64 n.cas) (s ∙ ap (λ l. l ++ to_be_bytes w64 n.length) (r ∙ ap (λ l. l ++ to_be_bytes w64 n.incarnation) (q ∙ ap (λ l. l ++ to_be_bytes w64 n.accepted) p)))
    ∙ five old (to_be_bytes w64 n.promise) (to_be_bytes w64 n.accepted) (to_be_bytes w64 n.incarnation) (to_be_bytes w64 n.length) (to_be_bytes w64 n.cas)
  where
    five : (o u v w x y : List ℕ) → ((((o ++ u) ++ v) ++ w) ++ x) ++ y ≡ o ++ (u ++ (v ++ (w ++ (x ++ y))))
    five o u v w x y = simp append_assoc

-- ---- a whole piece

pub piece_whole : (piece new : List ℕ) (n : ℕ) → 8 ≤ length piece → n ≡ length piece - 8 → new ≡ to_be_bytes w64 n ++ drop 8 (piece ++ SHUT ∷ []) → new ≡ piece_bytes (drop 8 piece)
piece_whole piece new n long count e =
    let len : n ≡ length (drop 8 piece) = omega (arith, length-drop 8 piece) in
    e ∙ ap₂ (λ a b. a ++ b) (ap (to_be_bytes w64) len) (drop-append-le 8 piece (SHUT ∷ []) long)

-- a front was written over the first eight bytes
pub front_set : (n : ℕ) (given bytes front : List ℕ) → given ≡ front ++ drop 8 bytes → length front ≡ 8 → 8 ≤ length bytes → n ≡ length bytes → take n (given ++ drop (length given) bytes) ≡ front ++ drop 8 bytes
front_set n given bytes front is eight long all =
    let size : length given ≡ n = omega (arith, ap length is, length-append front (drop 8 bytes), length-drop 8 bytes) in
    let none : drop (length given) bytes ≡ [] = drop_all (length given) bytes (omega arith) in
    let short : length given ≤ n = omega arith in
    ap (λ l. take n (given ++ l)) none ∙ ap (take n) (append-nil given) ∙ take_all n given short ∙ is
