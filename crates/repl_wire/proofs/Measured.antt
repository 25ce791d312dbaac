-- The body of each message that is allowed keeps the limit.
use Rattle.std.specs.Prelude.{◌≡◌, ℕ, ◌+◌, ◌*◌, ◌≤◌, ◌^◌, nat_le, nat_lt, nat_eq, Bool, true, false, ◌&&◌, not, sum, map as list_map, List, [], ◌∷◌, ◌++◌, length, IsTrue, if◌then◌else◌, refl}
use Rattle.std.specs.List.{list_all, list_any, flat_map}
use Rattle.std.specs.Int.{w32, w64, to_be_bytes}
use Rattle.std.specs.FinMap as map
use Rattle.std.proofs.Common.{ap, arith}
use Rattle.std.proofs.lemmas.Bool.{and_parts, leb-true}
use Rattle.std.proofs.lemmas.Bool.Decides.{nat_tests}
use Rattle.std.proofs.lemmas.List.{length-append}
use Rattle.std.proofs.lemmas.List.Sums.{sum_by-cons}
use Rattle.doc_model.specs.declared.key.DocKey.{DocKey}
use Rattle.doc_model.specs.declared.document.Item.{Item}
use Rattle.doc_model.specs.declared.document.What.{What}
use Rattle.doc_model.specs.declared.document.What.TheVariants as whats
use Rattle.doc_model.specs.declared.limits.TheConstants.{MANIFEST_LIMIT}
use Rattle.leb_collections.specs.Functions.{id_bytes}
use Rattle.leb_collections.proofs.Laws.{id_bytes_short}
use Rattle.manifest_rules.specs.declared.types.TheConstants.{DROPPED_LIMIT}
use Rattle.manifest_rules.specs.Catalog.{Catalog, scope_ids, collection_ids}
use Rattle.manifest_rules.specs.State.{is_sound, is_kept, are_gone, are_rising, ids_bytes, state_of}
use Rattle.manifest_rules.specs.Text.{text_of}
use Rattle.manifest_rules.proofs.ReadBack.{sound_parts}
use Rattle.vb_log.specs.declared.entry.Entry.{Entry}
use Rattle.vb_log.specs.declared.entry.Entry.TheVariants as entries
use Rattle.vb_log.specs.declared.entry.Pending.{Pending}
use Rattle.vb_log.specs.declared.limits.TheConstants.{CONTENT_LIMIT, SUM_LIMIT}
use Rattle.vb_log.specs.Content.{Content}
use Rattle.vb_log.specs.Contents.{IsWhole, item_bytes, items_bytes, body_bytes as content_body, content_bytes}
use Rattle.vb_log.specs.Keys.{IsAllowedKey, name_limit, key_bytes}
use Rattle.vb_log.specs.Prepares.{waiting_bytes, pending_bytes}
use Rattle.vb_log.specs.Sizes.{bytes_of, size_of, size, key_length, what_length, entry_length}
use Rattle.vb_log.specs.Spelling.{IsAllowed, IsAllowedWhat, what_bytes, sized, head_bytes, spelling as entry_bytes}
use Rattle.vb_log.proofs.Entries.{entry_size}
use Rattle.repl_wire.specs.declared.limits.TheConstants.{BODY_LIMIT}
use Rattle.repl_wire.specs.declared.message.Message.{Message}
use Rattle.repl_wire.specs.declared.message.Message.TheVariants as messages
use Rattle.repl_wire.specs.Grammar.{IsAllowedMessage, kind_of, body_bytes, is_size}
use Rattle.repl_wire.specs.Layout.{within, four, eight}
use Rattle.repl_wire.proofs.OneNumber.{digits_length}

-- ---- an entry

name_short : (collection n : ℕ) → n ≤ name_limit collection → n ≤ 250
name_short collection n h = go (nat_eq collection 0) h
  where
    go : (b : Bool) → n ≤ (if b then 250 else 246) → n ≤ 250
    go true h = h
    go false h = omega arith

key_measured : (key : DocKey) → IsAllowedKey key → key_length key ≤ 256
key_measured key h = let i = id_bytes_short key.collection in let n = name_short key.collection (length key.key) h.short in omega arith

what_measured : (what : What) → IsAllowedWhat what → what_length what ≤ 22020122
what_measured (whats.Put doc) h = let x = h.attributes_short in let v = h.value_short in omega arith
what_measured (whats.Remove cas) h = omega arith

entry_measured : (e : Entry) → IsAllowed e → entry_length e ≤ 22020400
entry_measured (entries.Mutation key doc) h = let k = key_measured key h.0 in let x = h.1.attributes_short in let v = h.1.value_short in omega arith
entry_measured (entries.Deletion key cas) h = let k = key_measured key h.0 in omega arith
entry_measured (entries.Prepare key what level) h = let k = key_measured key h.0 in let w = what_measured what h.1 in omega arith
entry_measured (entries.Commit of) h = omega arith
entry_measured (entries.Abort of) h = omega arith
entry_measured (entries.Manifest text) h = let t = h.0 in omega arith

-- ---- items and changes that wait have no more bytes than they count

key_spelt : (key : DocKey) → length (key_bytes key) ≤ 6 + length key.key
key_spelt key = let i = id_bytes_short key.collection in omega (arith, length-append (id_bytes key.collection) key.key)

sized_spelt : (bytes : List ℕ) → length (sized bytes) ≡ 4 + length bytes
sized_spelt bytes = let d = digits_length four (length bytes) in omega (arith, length-append (to_be_bytes w32 (length bytes)) bytes)

what_spelt : (what : What) → length (what_bytes what) ≤ 26 + bytes_of what
what_spelt (whats.Put doc) =
    let x = sized_spelt doc.xattrs in
    let v = sized_spelt doc.value in
    omega (arith, length-append (head_bytes doc.cas doc.flags doc.expiry doc.json) (sized doc.xattrs ++ sized doc.value), length-append (sized doc.xattrs) (sized doc.value))
what_spelt (whats.Remove cas) = let d = digits_length eight cas in omega arith

item_spelt : (i : Item) → length (item_bytes i) ≤ size_of i.key i.what
item_spelt i =
    let k = key_spelt i.key in
    let w = what_spelt i.what in
    let d = digits_length eight i.seqno in
    omega (arith, length-append (key_bytes i.key) (to_be_bytes w64 i.seqno ++ what_bytes i.what), length-append (to_be_bytes w64 i.seqno) (what_bytes i.what))

waiting_spelt : (p : Pending) → length (waiting_bytes p) ≤ size_of p.key p.what
waiting_spelt p =
    let k = key_spelt p.key in
    let w = what_spelt p.what in
    let d = digits_length eight p.position in
    omega (arith, length-append (to_be_bytes w64 p.position) (p.level ∷ (key_bytes p.key ++ what_bytes p.what)), length-append (key_bytes p.key) (what_bytes p.what))

all_spelt : {A : Type 0} (bytes : A → List ℕ) (counts : A → ℕ) (xs : List A) → ((x : A) → length (bytes x) ≤ counts x) → length (flat_map bytes xs) ≤ sum (list_map counts xs)
all_spelt bytes counts [] h = omega arith
all_spelt bytes counts (x ∷ xs) h =
    let first = h x in
    let more = all_spelt bytes counts xs h in
    let joined : flat_map bytes (x ∷ xs) ≡ bytes x ++ flat_map bytes xs = refl in
    let counted : sum (list_map counts (x ∷ xs)) ≡ counts x + sum (list_map counts xs) = sum_by-cons (λ n. n) (counts x) (list_map counts xs) in
    omega (arith, counted, ap length joined, length-append (bytes x) (flat_map bytes xs))

-- ---- the state of a manifest

gone_few : (present gone : List ℕ) → IsTrue (are_gone present gone) → length gone ≤ DROPPED_LIMIT
gone_few present gone h =
    let first = and_parts (list_all (λ id. nat_lt id (2 ^ 32)) gone && are_rising gone && nat_le (length gone) DROPPED_LIMIT) (not (list_any (λ id. list_any (nat_eq id) gone) present)) h in
    let second = and_parts (list_all (λ id. nat_lt id (2 ^ 32)) gone && are_rising gone) (nat_le (length gone) DROPPED_LIMIT) first.0 in
    leb-true (length gone) DROPPED_LIMIT second.1

ids_flat : (ids : List ℕ) → length (flat_map (to_be_bytes w32) ids) ≡ 4 * length ids
ids_flat [] = refl
ids_flat (x ∷ xs) = let more = ids_flat xs in let d = digits_length four x in omega (arith, length-append (to_be_bytes w32 x) (flat_map (to_be_bytes w32) xs))

ids_spelt : (ids : List ℕ) → length (ids_bytes ids) ≡ 4 + 4 * length ids
ids_spelt ids = let f = ids_flat ids in let d = digits_length four (length ids) in omega (arith, length-append (to_be_bytes w32 (length ids)) (flat_map (to_be_bytes w32) ids))

three_spelt : (text gone more : List ℕ) → length text ≤ MANIFEST_LIMIT → length gone ≤ DROPPED_LIMIT → length more ≤ DROPPED_LIMIT → length ((sized text ++ ids_bytes gone) ++ ids_bytes more) ≤ 1572876
three_spelt text gone more l g m =
    let a = ids_spelt gone in
    let b = ids_spelt more in
    let t = sized_spelt text in
    omega (arith, length-append (sized text ++ ids_bytes gone) (ids_bytes more), length-append (sized text) (ids_bytes gone))

state_spelt : (m : Catalog) → IsTrue (is_kept m) → length (state_of m) ≤ 1572876
state_spelt m h =
    let first = and_parts (is_sound m && are_gone (scope_ids m.scopes) m.dropped_scopes) (are_gone (collection_ids m.scopes) m.dropped_collections) h in
    let second = and_parts (is_sound m) (are_gone (scope_ids m.scopes) m.dropped_scopes) first.0 in
    three_spelt (text_of m) m.dropped_scopes m.dropped_collections (sound_parts m second.0).short (gone_few (scope_ids m.scopes) m.dropped_scopes second.1) (gone_few (collection_ids m.scopes) m.dropped_collections first.1)

-- ---- a content

content_spelt : (c : Content) → IsWhole c → length (content_bytes c) ≤ 270008368
content_spelt c h =
    let state = state_spelt c.manifest h.parts.kept in
    let items = all_spelt item_bytes (λ (i : Item). size_of i.key i.what) (map.values c.items) item_spelt in
    let waiting = all_spelt waiting_bytes (λ (p : Pending). size_of p.key p.what) c.prepares waiting_spelt in
    let counted = leb-true (size c) CONTENT_LIMIT (and_parts (nat_le (size c) CONTENT_LIMIT) (nat_le (c.length + length c.prepares) SUM_LIMIT) h.within).0 in
    let e1 = digits_length eight c.length in
    let e2 = digits_length eight c.greatest_cas in
    let e3 = digits_length four (length (map.values c.items)) in
    let e4 = digits_length four (length c.prepares) in
    let body = content_body c.manifest (map.values c.items) c.prepares in
    omega (
      arith,
      length-append (to_be_bytes w64 c.length) (to_be_bytes w64 c.greatest_cas ++ body),
      length-append (to_be_bytes w64 c.greatest_cas) body,
      length-append (state_of c.manifest) (items_bytes (map.values c.items) ++ pending_bytes c.prepares),
      length-append (items_bytes (map.values c.items)) (pending_bytes c.prepares),
      length-append (to_be_bytes w32 (length (map.values c.items))) (flat_map item_bytes (map.values c.items)),
      length-append (to_be_bytes w32 (length c.prepares)) (flat_map waiting_bytes c.prepares),
    )

-- ---- a message

pub size_right : (m : Message) → IsAllowedMessage m → IsTrue (is_size (kind_of m) (length (body_bytes m)))
size_right (messages.Entry term position entry) h =
    let e = entry_measured entry h.2 in
    let s = entry_size entry in
    let d1 = digits_length eight term in
    let d2 = digits_length eight position in
    let l = length-append (to_be_bytes w64 term) (to_be_bytes w64 position ++ entry_bytes entry) in
    let k = length-append (to_be_bytes w64 position) (entry_bytes entry) in
    between 16 BODY_LIMIT (length (body_bytes (messages.Entry term position entry))) (omega arith) (omega arith)
  where
    between : (least most n : ℕ) → least ≤ n → n ≤ most → IsTrue (within least most n)
    between least most n a b = grind (arith, nat_tests)
size_right (messages.Ack term mem disk) h =
    let d1 = digits_length eight term in
    let d2 = digits_length eight mem in
    let d3 = digits_length eight disk in
    exactly 24 (length (body_bytes (messages.Ack term mem disk))) (omega (arith, length-append (to_be_bytes w64 term) (to_be_bytes w64 mem ++ to_be_bytes w64 disk), length-append (to_be_bytes w64 mem) (to_be_bytes w64 disk)))
  where
    exactly : (size n : ℕ) → n ≡ size → IsTrue (within size size n)
    exactly size n e = grind (arith, nat_tests)
size_right (messages.Rejoin term accepted len incarnation) h =
    let d1 = digits_length eight term in
    let d2 = digits_length eight accepted in
    let d3 = digits_length eight len in
    let d4 = digits_length eight incarnation in
    exactly 32 (length (body_bytes (messages.Rejoin term accepted len incarnation)))
    (omega (arith, length-append (to_be_bytes w64 term) (to_be_bytes w64 accepted ++ (to_be_bytes w64 len ++ to_be_bytes w64 incarnation)), length-append (to_be_bytes w64 accepted) (to_be_bytes w64 len ++ to_be_bytes w64 incarnation), length-append (to_be_bytes w64 len) (to_be_bytes w64 incarnation)))
  where
    exactly : (size n : ℕ) → n ≡ size → IsTrue (within size size n)
    exactly size n e = grind (arith, nat_tests)
size_right (messages.Adopt term incarnation content) h =
    let c = content_spelt content h.2 in
    let d1 = digits_length eight term in
    let d2 = digits_length eight incarnation in
    let l = length-append (to_be_bytes w64 term) (to_be_bytes w64 incarnation ++ content_bytes content) in
    let k = length-append (to_be_bytes w64 incarnation) (content_bytes content) in
    between 16 BODY_LIMIT (length (body_bytes (messages.Adopt term incarnation content))) (omega arith) (omega arith)
  where
    between : (least most n : ℕ) → least ≤ n → n ≤ most → IsTrue (within least most n)
    between least most n a b = grind (arith, nat_tests)

up_to : (least most n : ℕ) → IsTrue (within least most n) → n ≤ most
up_to least most n h = leb-true n most (and_parts (nat_le least n) (nat_le n most) h).1

pub body_short : (m : Message) → IsAllowedMessage m → length (body_bytes m) ≤ BODY_LIMIT
body_short (messages.Entry term position entry) h = up_to 16 BODY_LIMIT _ (size_right (messages.Entry term position entry) h)
body_short (messages.Ack term mem disk) h = let l = up_to 24 24 (length (body_bytes (messages.Ack term mem disk))) (size_right (messages.Ack term mem disk) h) in omega arith
body_short (messages.Rejoin term accepted len incarnation) h = let l = up_to 32 32 (length (body_bytes (messages.Rejoin term accepted len incarnation))) (size_right (messages.Rejoin term accepted len incarnation) h) in omega arith
body_short (messages.Adopt term incarnation content) h = up_to 16 BODY_LIMIT _ (size_right (messages.Adopt term incarnation content) h)
