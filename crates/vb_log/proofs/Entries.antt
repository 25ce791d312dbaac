-- Entries and their bytes: an entry fits the layout, has one spelling, and shares it with no other.
use Rattle.std.specs.Prelude.{◌≡◌, ℕ, ◌+◌, ◌-◌, ◌≤◌, ◌<◌, ◌^◌, Bool, true, false, List, [], ◌∷◌, ◌++◌, length, slice_index, refl}
use Rattle.std.specs.Int.{w32, w64, to_be_bytes, from_bool}
use Rattle.std.proofs.Common.{sym, ap, ap₂, ◌∙◌, subst, append_assoc, append-nil, arith}
use Rattle.std.proofs.lemmas.List.{length-append}
use Rattle.leb_collections.specs.Functions.{id_bytes}
use Rattle.doc_model.specs.declared.key.DocKey.{DocKey}
use Rattle.doc_model.specs.declared.document.Doc.{Doc}
use Rattle.doc_model.specs.declared.document.What.{What}
use Rattle.doc_model.specs.declared.document.What.TheVariants as whats
use Rattle.doc_model.specs.declared.limits.TheConstants.{MANIFEST_LIMIT}
use Rattle.vb_log.specs.declared.entry.Entry.{Entry}
use Rattle.vb_log.specs.declared.entry.Entry.TheVariants as entries
use Rattle.vb_log.specs.declared.limits.TheConstants.{GREATEST_CAS, GREATEST_LEVEL, GREATEST_POSITION}
use Rattle.vb_log.specs.Content.{cas_of}
use Rattle.vb_log.specs.Keys.{IsAllowedKey, spelt_key, key_bytes}
use Rattle.vb_log.specs.Layout.{four, eight, as_manifest, end, Fits, Breaks}
use Rattle.vb_log.specs.Spelling.{IsAllowedDoc, IsAllowedWhat, IsUnnumbered, IsAllowed, sized, doc_bytes, what_bytes, spelling, IsSpelled, key_layout, cas_layout, doc_layout, what_layout, position_layout, prepare_layout, parts_layout, entry_layout}
use Rattle.vb_log.specs.Faults.{BreaksAt}
use Rattle.vb_log.specs.Sizes.{key_length, doc_length, what_length, entry_length}
use Rattle.vb_log.proofs.Layouts.{Same, same_byte, same_number, same_run, no_fit, one_place, left_within, leads_on, byte_leads, number_leads}
use Rattle.vb_log.proofs.Pieces.{sized_leads, key_leads, cas_leads, doc_leads, what_leads}
use Rattle.vb_log.proofs.Spelt.{one_key}

-- ---- an entry fits the layout

parts_fit : (kind : ℕ) (parts : List ℕ) → 1 ≤ kind → kind ≤ 6 → Fits (parts_layout kind) parts → Fits entry_layout (kind ∷ parts)
parts_fit kind parts least most f = (byte_leads 1 6 parts_layout (kind ∷ parts) kind parts (record { front = refl; above = least; below = most })).fits f

nothing : (l : List ℕ) → l ≡ l ++ []
nothing l = sym (append-nil l)

position_fits : (of : ℕ) → 1 ≤ of → of ≤ GREATEST_POSITION → Fits position_layout (to_be_bytes w64 of)
position_fits of least most = (number_leads eight 1 GREATEST_POSITION (λ of. end) (to_be_bytes w64 of) of [] (record { front = nothing (to_be_bytes w64 of); above = least; below = most; small = omega arith })).fits refl

-- the CAS of a change that the layout allows
pub cas_allowed : (what : What) → IsAllowedWhat what → cas_of what ≤ GREATEST_CAS
cas_allowed (whats.Put doc) h = h.cas
cas_allowed (whats.Remove cas) h = h

pub entry_fits : (e : Entry) → IsAllowed e → Fits entry_layout (spelling e)
entry_fits (entries.Mutation key doc) h =
    parts_fit 1 (key_bytes key ++ doc_bytes doc) (omega arith) (omega arith)
    ((leads_on (key_layout (doc_layout GREATEST_CAS end)) (key_bytes key ++ doc_bytes doc) (doc_layout GREATEST_CAS end) (doc_bytes doc) end []
    (key_leads (doc_layout GREATEST_CAS end) (key_bytes key ++ doc_bytes doc) key (doc_bytes doc) (record { allowed = h.0; front = refl }))
    (doc_leads GREATEST_CAS end (doc_bytes doc) doc [] (record { allowed = h.1; within = let d = h.1 in d.cas; unnumbered = h.2; front = nothing (doc_bytes doc) }))).fits refl)
entry_fits (entries.Deletion key cas) h =
    parts_fit 2 (key_bytes key ++ to_be_bytes w64 cas) (omega arith) (omega arith)
    ((leads_on (key_layout (cas_layout GREATEST_CAS end)) (key_bytes key ++ to_be_bytes w64 cas) (cas_layout GREATEST_CAS end) (to_be_bytes w64 cas) end []
    (key_leads (cas_layout GREATEST_CAS end) (key_bytes key ++ to_be_bytes w64 cas) key (to_be_bytes w64 cas) (record { allowed = h.0; front = refl }))
    (cas_leads GREATEST_CAS end (to_be_bytes w64 cas) cas [] (record { allowed = h.1; within = h.1; front = nothing (to_be_bytes w64 cas) }))).fits refl)
entry_fits (entries.Prepare key what level) h =
    let rest = key_bytes key ++ what_bytes what in
    parts_fit 3 (level ∷ rest) (omega arith) (omega arith)
    ((leads_on prepare_layout (level ∷ rest) (key_layout (what_layout GREATEST_CAS end)) rest end []
    (byte_leads 1 GREATEST_LEVEL (λ level. key_layout (what_layout GREATEST_CAS end)) (level ∷ rest) level rest (record { front = refl; above = h.3; below = h.4 }))
    (leads_on (key_layout (what_layout GREATEST_CAS end)) rest (what_layout GREATEST_CAS end) (what_bytes what) end []
    (key_leads (what_layout GREATEST_CAS end) rest key (what_bytes what) (record { allowed = h.0; front = refl }))
    (what_leads GREATEST_CAS end (what_bytes what) what [] (record { allowed = h.1; within = cas_allowed what h.1; unnumbered = h.2; front = nothing (what_bytes what) })))).fits refl)
entry_fits (entries.Commit of) h = parts_fit 4 (to_be_bytes w64 of) (omega arith) (omega arith) (position_fits of h.0 h.1)
entry_fits (entries.Abort of) h = parts_fit 5 (to_be_bytes w64 of) (omega arith) (omega arith) (position_fits of h.0 h.1)
entry_fits (entries.Manifest text) h =
    parts_fit 6 (sized text) (omega arith) (omega arith)
    ((sized_leads MANIFEST_LIMIT as_manifest end (sized text) text [] (omega arith) h.1 (record { short = h.0; front = nothing (sized text) })).fits refl)

-- ---- bytes that break the layout are no entry's

pub broken_none : (bytes : List ℕ) (left : ℕ) → Breaks entry_layout bytes left → (e : Entry) → IsSpelled e bytes → ⊥
broken_none bytes left b e s = no_fit entry_layout bytes left b (subst (λ l. Fits entry_layout l) (sym s.spelled) (entry_fits e s.allowed))

pub broken_at : (bytes : List ℕ) (left : ℕ) → Breaks entry_layout bytes left → BreaksAt bytes (length bytes - left)
broken_at bytes left b = let low = left_within entry_layout bytes left b in record { left = left; parts = omega arith; breaks = b }

pub one_break : (bytes : List ℕ) (first second : ℕ) → BreaksAt bytes first → BreaksAt bytes second → first ≡ second
one_break bytes first second a b =
    let same = one_place entry_layout bytes a.left b.left a.breaks b.breaks in
    let p = a.parts in
    let q = b.parts in
    omega arith

pub break_none : (bytes : List ℕ) (place : ℕ) (e : Entry) → BreaksAt bytes place → IsSpelled e bytes → ⊥
break_none bytes place e b s = broken_none bytes b.left b.breaks e s

-- ---- one entry for one spelling

pub same_key : (a b : DocKey) (r s : List ℕ) → IsAllowedKey a → IsAllowedKey b → key_bytes a ++ r ≡ key_bytes b ++ s → Same a b r s
same_key a b r s h k e =
    let first = same_byte (length (spelt_key a)) (length (spelt_key b)) (spelt_key a ++ r) (spelt_key b ++ s) e in
    let second = same_run (spelt_key a) (spelt_key b) r s first.rest first.one in
    record { one = one_key a b h k second.one; rest = second.rest }

same_sized : (a b r s : List ℕ) → length a < 2 ^ 32 → length b < 2 ^ 32 → sized a ++ r ≡ sized b ++ s → Same a b r s
same_sized a b r s low high e =
    let first = same_number four (length a) (length b) (a ++ r) (b ++ s) low high
    (sym (append_assoc (to_be_bytes w32 (length a)) a r) ∙ e ∙ append_assoc (to_be_bytes w32 (length b)) b s) in
    same_run a b r s first.rest first.one

same_flag : (a b : Bool) → from_bool a ≡ from_bool b → a ≡ b
same_flag true true e = refl
same_flag true false e = absurd (omega arith)
same_flag false true e = absurd (omega arith)
same_flag false false e = refl

-- the fields of a document, one behind the other
parted : (doc : Doc) (r : List ℕ) → doc_bytes doc ++ r ≡ to_be_bytes w64 doc.cas ++ (to_be_bytes w32 doc.flags ++ (to_be_bytes w32 doc.expiry ++ (from_bool doc.json ∷ (sized doc.xattrs ++ (sized doc.value ++ r)))))
parted doc r = regroup (to_be_bytes w64 doc.cas) (to_be_bytes w32 doc.flags) (to_be_bytes w32 doc.expiry) (from_bool doc.json ∷ []) (sized doc.xattrs) (sized doc.value) r
  where
    regroup : (u v w x y z r : List ℕ) → ((u ++ (v ++ (w ++ x))) ++ (y ++ z)) ++ r ≡ u ++ (v ++ (w ++ (x ++ (y ++ (z ++ r)))))
    regroup u v w x y z r = simp append_assoc

same_doc : (a b : Doc) (r s : List ℕ) → IsAllowedDoc a → IsAllowedDoc b → a.seqno ≡ 0 → b.seqno ≡ 0 → doc_bytes a ++ r ≡ doc_bytes b ++ s → Same a b r s
same_doc a b r s h k m n e =
    let la = h.cas in
    let lb = k.cas in
    let xa = h.attributes_short in
    let xb = k.attributes_short in
    let va = h.value_short in
    let vb = k.value_short in
    let cas = same_number eight a.cas b.cas _ _ (omega arith) (omega arith) (sym (parted a r) ∙ e ∙ parted b s) in
    let flags = same_number four a.flags b.flags _ _ h.flags k.flags cas.rest in
    let expiry = same_number four a.expiry b.expiry _ _ h.expiry k.expiry flags.rest in
    let json = same_byte (from_bool a.json) (from_bool b.json) _ _ expiry.rest in
    let xattrs = same_sized a.xattrs b.xattrs _ _ (omega arith) (omega arith) json.rest in
    let value = same_sized a.value b.value r s (omega arith) (omega arith) xattrs.rest in
    let seqno : a.seqno ≡ b.seqno = m ∙ sym n in
    let flag : a.json ≡ b.json = same_flag a.json b.json json.one in
    record {
      one = λ i. record { value = value.one i; xattrs = xattrs.one i; flags = flags.one i; expiry = expiry.one i; cas = cas.one i; seqno = seqno i; json = flag i };
      rest = value.rest;
    }

-- what two lists begin with
first_is : (a b : List ℕ) → a ≡ b → slice_index a 0 ≡ slice_index b 0
first_is a b e = ap (λ l. slice_index l 0) e

never : ◌≡◌ {A = ℕ} 1 2 → ⊥
never e = omega arith

pub same_what : (a b : What) (r s : List ℕ) → IsAllowedWhat a → IsAllowedWhat b → IsUnnumbered a → IsUnnumbered b → what_bytes a ++ r ≡ what_bytes b ++ s → Same a b r s
same_what (whats.Put a) (whats.Put b) r s h k m n e =
    let doc = same_doc a b r s h k m n (same_byte 1 1 (doc_bytes a ++ r) (doc_bytes b ++ s) e).rest in
    record { one = ap whats.Put doc.one; rest = doc.rest }
same_what (whats.Remove a) (whats.Remove b) r s h k m n e =
    let low : a ≤ GREATEST_CAS = h in
    let high : b ≤ GREATEST_CAS = k in
    let cas = same_number eight a b r s (omega arith) (omega arith) (same_byte 2 2 (to_be_bytes w64 a ++ r) (to_be_bytes w64 b ++ s) e).rest in
    record { one = ap whats.Remove cas.one; rest = cas.rest }
same_what (whats.Put a) (whats.Remove b) r s h k m n e = absurd (never (first_is (1 ∷ (doc_bytes a ++ r)) (2 ∷ (to_be_bytes w64 b ++ s)) e))
same_what (whats.Remove a) (whats.Put b) r s h k m n e = absurd (never (sym (first_is (2 ∷ (to_be_bytes w64 a ++ r)) (1 ∷ (doc_bytes b ++ s)) e)))

-- two lists with nothing behind them
ended : (a b : List ℕ) → a ≡ b → a ++ [] ≡ b ++ []
ended a b e = ap (λ l. l ++ []) e

same_position : (a b : ℕ) → a ≤ GREATEST_POSITION → b ≤ GREATEST_POSITION → to_be_bytes w64 a ≡ to_be_bytes w64 b → a ≡ b
same_position a b low high e = (same_number eight a b [] [] (omega arith) (omega arith) (ended (to_be_bytes w64 a) (to_be_bytes w64 b) e)).one

one_entry : (a b : Entry) → IsAllowed a → IsAllowed b → spelling a ≡ spelling b → a ≡ b
one_entry (entries.Mutation a doc) (entries.Mutation b other) h k e =
    let key = same_key a b (doc_bytes doc) (doc_bytes other) h.0 k.0 (same_byte 1 1 (key_bytes a ++ doc_bytes doc) (key_bytes b ++ doc_bytes other) e).rest in
    ap₂ entries.Mutation key.one (same_doc doc other [] [] h.1 k.1 h.2 k.2 (ended (doc_bytes doc) (doc_bytes other) key.rest)).one
one_entry (entries.Deletion a cas) (entries.Deletion b other) h k e =
    let low = h.1 in
    let high = k.1 in
    let key = same_key a b (to_be_bytes w64 cas) (to_be_bytes w64 other) h.0 k.0 (same_byte 2 2 (key_bytes a ++ to_be_bytes w64 cas) (key_bytes b ++ to_be_bytes w64 other) e).rest in
    ap₂ entries.Deletion key.one (same_number eight cas other [] [] (omega arith) (omega arith) (ended (to_be_bytes w64 cas) (to_be_bytes w64 other) key.rest)).one
one_entry (entries.Prepare a what level) (entries.Prepare b other less) h k e =
    let first = same_byte 3 3 (level ∷ (key_bytes a ++ what_bytes what)) (less ∷ (key_bytes b ++ what_bytes other)) e in
    let second = same_byte level less (key_bytes a ++ what_bytes what) (key_bytes b ++ what_bytes other) first.rest in
    let key = same_key a b (what_bytes what) (what_bytes other) h.0 k.0 second.rest in
    let change = same_what what other [] [] h.1 k.1 h.2 k.2 (ended (what_bytes what) (what_bytes other) key.rest) in
    λ i. entries.Prepare (key.one i) (change.one i) (second.one i)
one_entry (entries.Commit a) (entries.Commit b) h k e = ap entries.Commit (same_position a b h.1 k.1 (same_byte 4 4 (to_be_bytes w64 a) (to_be_bytes w64 b) e).rest)
one_entry (entries.Abort a) (entries.Abort b) h k e = ap entries.Abort (same_position a b h.1 k.1 (same_byte 5 5 (to_be_bytes w64 a) (to_be_bytes w64 b) e).rest)
one_entry (entries.Manifest a) (entries.Manifest b) h k e =
    let low = h.0 in
    let high = k.0 in
    ap entries.Manifest (same_sized a b [] [] (omega arith) (omega arith) (ended (sized a) (sized b) (same_byte 6 6 (sized a) (sized b) e).rest)).one
one_entry a b h k e = let clash = first_is (spelling a) (spelling b) e in absurd (omega arith)

pub one_spelled : (a b : Entry) (bytes : List ℕ) → IsSpelled a bytes → IsSpelled b bytes → a ≡ b
one_spelled a b bytes s t = one_entry a b s.allowed t.allowed (sym s.spelled ∙ t.spelled)

-- ---- how many bytes

key_size : (key : DocKey) → length (key_bytes key) ≡ key_length key
key_size key = omega (arith, length-append (id_bytes key.collection) key.key)

sized_size : (bytes : List ℕ) → length (sized bytes) ≡ 4 + length bytes
sized_size bytes = omega (arith, length-append (to_be_bytes w32 (length bytes)) bytes)

doc_size : (doc : Doc) → length (doc_bytes doc) ≡ doc_length doc
doc_size doc = omega (arith, sized_size doc.xattrs, sized_size doc.value, length-append (sized doc.xattrs) (sized doc.value))

what_size : (what : What) → length (what_bytes what) ≡ what_length what
what_size (whats.Put doc) = omega (arith, doc_size doc)
what_size (whats.Remove cas) = omega arith

pub entry_size : (e : Entry) → length (spelling e) ≡ entry_length e
entry_size (entries.Mutation key doc) = omega (arith, length-append (key_bytes key) (doc_bytes doc), key_size key, doc_size doc)
entry_size (entries.Deletion key cas) = omega (arith, length-append (key_bytes key) (to_be_bytes w64 cas), key_size key)
entry_size (entries.Prepare key what level) = omega (arith, length-append (key_bytes key) (what_bytes what), key_size key, what_size what)
entry_size (entries.Commit of) = omega arith
entry_size (entries.Abort of) = omega arith
entry_size (entries.Manifest text) = omega (arith, sized_size text)
