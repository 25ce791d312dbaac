-- Spots that lead to items among the bytes of records, record by record.
use Rattle.std.specs.Prelude.{◌≡◌, ℕ, ◌+◌, ◌≤◌, Bool, true, false, cond, not, List, [], ◌∷◌, ◌++◌, length, take, drop, Option, Some, None, if◌then◌else◌, refl}
use Rattle.std.specs.List.{flat_map, AllByRecursion}
use Rattle.std.specs.Int.{w32, w64, to_be_bytes}
use Rattle.std.specs.Ordering.{eq_by_cmp}
use Rattle.std.specs.FinMap as map
use Rattle.std.proofs.Common.{sym, ◌∙◌, ap, subst, arith, append_assoc, length-append, length-drop}
use Rattle.std.proofs.lemmas.List.{take-append-le, drop-append-le, drop_at, take_at, append-nil}
use Rattle.doc_model.specs.declared.key.DocKey.{DocKey}
use Rattle.doc_model.specs.declared.document.Item.{Item}
use Rattle.doc_model.specs.Keys.{key_cmp, is_in}
use Rattle.doc_model.proofs.Entries.{keys_total, same_key}
use Rattle.doc_model.proofs.Drops.{get_kept}
use Rattle.vb_log.specs.Contents.{item_bytes}
use Rattle.vb_log.specs.Spelling.{sized}
use Rattle.vb_log.specs.Stored.{IsStorable}
use Rattle.magma_store.specs.declared.journal.TheConstants.{OPEN}
use Rattle.magma_store.specs.declared.kinds.TheConstants.{OVER, ANEW}
use Rattle.magma_store.specs.declared.meta.Numbers.{Numbers}
use Rattle.magma_store.specs.declared.spot.Spot.{Spot}
use Rattle.magma_store.specs.Changes.{Writes, numbers_bytes, change_bytes}
use Rattle.magma_store.specs.Held.{with_items, items_left}
use Rattle.magma_store.specs.Journal.{record_bytes}
use Rattle.magma_store.specs.Loading.{LeadIn}
use Rattle.magma_store.specs.Reading.{items_behind}
use Rattle.magma_store.specs.Spots.{spot_at, placed, with_spots}
use Rattle.magma_store.specs.Store.{StandsAt, Leads}
use Rattle.magma_store.specs.Taking.{spots_left}

-- ---- among more bytes

front_same : (bytes more : List ℕ) (at n : ℕ) → at + n ≤ length bytes → take n (drop at (bytes ++ more)) ≡ take n (drop at bytes)
front_same bytes more at n low =
    let long : n ≤ length (drop at bytes) = omega (arith, length-drop at bytes) in
    ap (take n) (drop-append-le at bytes more (omega arith)) ∙ take-append-le n (drop at bytes) more long

stands_more : (bytes more : List ℕ) (end : ℕ) (spot : Spot) (item : Item) → length bytes ≤ end → StandsAt bytes (length bytes) spot item → StandsAt (bytes ++ more) end spot item
stands_more bytes more end spot item low s =
    let before = s.before in
    record { seqno = s.seqno; len = s.len; weight = s.weight; cas = s.cas; read = front_same bytes more spot.at spot.length before ∙ s.read; before = omega arith }

stands_within : (bytes more : List ℕ) (spot : Spot) (item : Item) → StandsAt (bytes ++ more) (length bytes) spot item → StandsAt bytes (length bytes) spot item
stands_within bytes more spot item s =
    record { seqno = s.seqno; len = s.len; weight = s.weight; cas = s.cas; read = sym (front_same bytes more spot.at spot.length s.before) ∙ s.read; before = s.before }

-- spots lead to items among these bytes, before an end
abbrev pub LeadsAll : List ℕ → ℕ → map.FinMap key_cmp Spot → map.FinMap key_cmp Item → Type 0
LeadsAll bytes end spots items = (key : DocKey) → Leads bytes end key (map.get spots key) (map.get items key)

leads_more : (bytes more : List ℕ) (end : ℕ) (key : DocKey) (s : Option Spot) (i : Option Item) → length bytes ≤ end → Leads bytes (length bytes) key s i → Leads (bytes ++ more) end key s i
leads_more bytes more end key None None low l = tt
leads_more bytes more end key (Some s) (Some i) low l = (l.0, l.1, stands_more bytes more end s i low l.2)
leads_more bytes more end key None (Some i) low l = absurd l
leads_more bytes more end key (Some s) None low l = absurd l

leads_within : (bytes more : List ℕ) (key : DocKey) (s : Option Spot) (i : Option Item) → Leads (bytes ++ more) (length bytes) key s i → Leads bytes (length bytes) key s i
leads_within bytes more key None None l = tt
leads_within bytes more key (Some s) (Some i) l = (l.0, l.1, stands_within bytes more s i l.2)
leads_within bytes more key None (Some i) l = absurd l
leads_within bytes more key (Some s) None l = absurd l

pub lead_more : (bytes more : List ℕ) (end : ℕ) (spots : map.FinMap key_cmp Spot) (items : map.FinMap key_cmp Item) → length bytes ≤ end → LeadIn spots items bytes → LeadsAll (bytes ++ more) end spots items
lead_more bytes more end spots items low lead = λ key. leads_more bytes more end key (map.get spots key) (map.get items key) low (lead key)

pub lead_within : (bytes more : List ℕ) (spots : map.FinMap key_cmp Spot) (items : map.FinMap key_cmp Item) → LeadsAll (bytes ++ more) (length bytes) spots items → LeadIn spots items bytes
lead_within bytes more spots items lead = λ key. leads_within bytes more key (map.get spots key) (map.get items key) (lead key)

-- ---- of nothing, of what is left, of one more

pub lead_none : (bytes : List ℕ) (end : ℕ) → LeadsAll bytes end map.empty map.empty
lead_none bytes end key =
    subst (λ s. Leads bytes end key s (map.get (map.empty {X = Item} {R = key_cmp}) key)) (sym (map.get-empty {X = Spot} key_cmp key))
    (subst (λ i. Leads bytes end key None i) (sym (map.get-empty {X = Item} key_cmp key)) tt)

lead_kept : (bytes : List ℕ) (end : ℕ) (spots : map.FinMap key_cmp Spot) (items : map.FinMap key_cmp Item) (p : DocKey → Bool) → LeadsAll bytes end spots items → LeadsAll bytes end (map.retain_keys spots p) (map.retain_keys items p)
lead_kept bytes end spots items p lead key =
    subst (λ s. Leads bytes end key s (map.get (map.retain_keys items p) key)) (sym (get_kept spots p key))
    (subst (λ i. Leads bytes end key (cond (p key) (map.get spots key) None) i) (sym (get_kept items p key)) (go (p key)))
  where
    go : (b : Bool) → Leads bytes end key (cond b (map.get spots key) None) (cond b (map.get items key) None)
    go true = lead key
    go false = tt

lead_left : (bytes : List ℕ) (end : ℕ) (is_anew : Bool) (dropped : List ℕ) (spots : map.FinMap key_cmp Spot) (items : map.FinMap key_cmp Item) → LeadsAll bytes end spots items
    → LeadsAll bytes end (spots_left is_anew dropped spots) (items_left is_anew dropped items)
lead_left bytes end true dropped spots items lead = lead_none bytes end
lead_left bytes end false dropped spots items lead = lead_kept bytes end spots items (λ key. not (is_in dropped key)) lead

lead_insert : (bytes : List ℕ) (end : ℕ) (spots : map.FinMap key_cmp Spot) (items : map.FinMap key_cmp Item) (i : Item) (spot : Spot) → IsStorable i → StandsAt bytes end spot i → LeadsAll bytes end spots items
    → LeadsAll bytes end (map.insert spots i.key spot) (map.insert items i.key i)
lead_insert bytes end spots items i spot ok stands lead key =
    subst (λ s. Leads bytes end key s (map.get (map.insert items i.key i) key)) (sym (map.get-insert keys_total spots i.key spot key))
    (subst (λ o. Leads bytes end key (cond (eq_by_cmp key_cmp key i.key) (Some spot) (map.get spots key)) o) (sym (map.get-insert keys_total items i.key i key))
    (go (eq_by_cmp key_cmp key i.key) refl))
  where
    go : (b : Bool) → eq_by_cmp key_cmp key i.key ≡ b → Leads bytes end key (cond b (Some spot) (map.get spots key)) (cond b (Some i) (map.get items key))
    go true e = (sym (same_key key i.key e), ok, stands)
    go false e = lead key

-- ---- of items one after another

stands_here : (front item back bytes : List ℕ) (at end : ℕ) (i : Item) → item ≡ item_bytes i → length front ≡ at → at + length item ≤ end → bytes ≡ front ++ (item ++ back)
    → StandsAt bytes end (spot_at at i) i
stands_here front item back bytes at end i is len low parts = record {
  seqno = refl;
  len = refl;
  weight = refl;
  cas = refl;
  read = ap (λ l. take (length (item_bytes i)) (drop at l)) parts ∙ ap (take (length (item_bytes i))) (drop_at front (item ++ back) at len) ∙ take_at item back (length (item_bytes i)) (ap length is) ∙ is;
  before = let e = ap length is in omega arith;
}

pub lead_placed : (is : List Item) (front back bytes : List ℕ) (at end : ℕ) (spots : map.FinMap key_cmp Spot) (items : map.FinMap key_cmp Item) → AllByRecursion IsStorable is → length front ≡ at
    → at + length (flat_map item_bytes is) ≤ end → bytes ≡ front ++ (flat_map item_bytes is ++ back) → LeadsAll bytes end spots items
    → LeadsAll bytes end (with_spots spots (placed at is)) (with_items items is)
lead_placed [] front back bytes at end spots items ok len low parts lead = lead
lead_placed (i ∷ is) front back bytes at end spots items ok len low parts lead =
    let one = item_bytes i in
    let more = flat_map item_bytes is in
    let both : length (one ++ more) ≡ length one + length more = length-append one more in
    let here : bytes ≡ front ++ (one ++ (more ++ back)) = parts ∙ ap (λ l. front ++ l) (append_assoc one more back) in
    let next : bytes ≡ (front ++ one) ++ (more ++ back) = here ∙ sym (append_assoc front one (more ++ back)) in
    let longer : length (front ++ one) ≡ at + length one = length-append front one ∙ ap (λ n. n + length one) len in
    lead_placed is (front ++ one) back bytes (at + length one) end (map.insert spots i.key (spot_at at i)) (map.insert items i.key i) ok.1 longer (omega arith) next
    (lead_insert bytes end spots items i (spot_at at i) ok.0 (stands_here front one (more ++ back) bytes at end i refl len (omega arith) here) lead)

-- ---- of a record that writes

apart : (j l n s c f : List ℕ) (o k : ℕ) → j ++ (o ∷ (l ++ (k ∷ (n ++ (s ++ (c ++ f)))))) ≡ (j ++ (o ∷ (l ++ (k ∷ (n ++ (s ++ c)))))) ++ (f ++ [])
apart j l n s c f o k = simp (append_assoc, append-nil)

pub lead_write : (journal : List ℕ) (is_anew : Bool) (numbers : Numbers) (tail : List ℕ) (is : List Item) (dropped : List ℕ) (spots : map.FinMap key_cmp Spot) (items : map.FinMap key_cmp Item)
    → AllByRecursion IsStorable is → LeadIn spots items journal
    → LeadIn (with_spots (spots_left is_anew dropped spots) (placed (length journal + 9 + items_behind tail) is)) (with_items (items_left is_anew dropped items) is) (journal ++ record_bytes (change_bytes (Writes is_anew numbers tail is)))
lead_write journal is_anew numbers tail is dropped spots items ok lead =
    let held = change_bytes (Writes is_anew numbers tail is) in
    let kind : ℕ = if is_anew then ANEW else OVER in
    let count = to_be_bytes w32 (length is) in
    let behind : List ℕ = to_be_bytes w64 (length held) ++ (kind ∷ (numbers_bytes numbers ++ (sized tail ++ count))) in
    let front : List ℕ = journal ++ (OPEN ∷ behind) in
    let bytes : List ℕ = journal ++ record_bytes held in
    let parts : bytes ≡ front ++ (flat_map item_bytes is ++ []) = apart journal (to_be_bytes w64 (length held)) (numbers_bytes numbers) (sized tail) count (flat_map item_bytes is) OPEN kind in
    let tail_len : length (sized tail ++ count) ≡ 8 + length tail = length-append (sized tail) count ∙ (let e = length-append (to_be_bytes w32 (length tail)) tail in omega arith) in
    let behind_len : length behind ≡ 57 + length tail = omega arith in
    let len : length front ≡ length journal + 9 + items_behind tail = length-append journal (OPEN ∷ behind) ∙ (omega arith) in
    let whole : length front + length (flat_map item_bytes is) ≡ length bytes = sym (ap length (parts ∙ ap (λ l. front ++ l) (append-nil (flat_map item_bytes is))) ∙ length-append front (flat_map item_bytes is)) in
    lead_placed is front [] bytes (length journal + 9 + items_behind tail) (length bytes) (spots_left is_anew dropped spots) (items_left is_anew dropped items) ok len (omega arith) parts
    (lead_left bytes (length bytes) is_anew dropped spots items (lead_more journal (record_bytes held) (length bytes) spots items (omega (arith, length-append journal (record_bytes held))) lead))
