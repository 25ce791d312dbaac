-- From the layout of a part of an entry to what follows it.
use Rattle.std.specs.Prelude.{◌≡◌, ℕ, ◌+◌, ◌-◌, ◌≤◌, ◌<◌, ◌^◌, nat_eq, Bool, true, false, List, [], ◌∷◌, ◌++◌, length, if◌then◌else◌, is_some, Some, None, Result, Ok, Err, IfErr, IsErrAnd, refl}
use Rattle.std.specs.Int.{w32, w64, to_be_bytes, from_bool}
use Rattle.std.proofs.Common.{inl, inr, sym, ap, ◌∙◌, subst, append_assoc, arith}
use Rattle.std.proofs.lemmas.List.{length-append}
use Rattle.std.proofs.lemmas.Bool.{eqb-true, false≢true}
use Rattle.leb_collections.specs.Functions.{id_bytes}
use Rattle.leb_collections.proofs.Laws.{id_bytes_short}
use Rattle.doc_model.specs.declared.key.DocKey.{DocKey}
use Rattle.doc_model.specs.declared.document.Doc.{Doc}
use Rattle.doc_model.specs.declared.document.What.{What}
use Rattle.doc_model.specs.declared.document.What.TheVariants as whats
use Rattle.doc_model.specs.declared.limits.TheConstants.{VALUE_LIMIT, KEY_LIMIT, OTHER_KEY_LIMIT}
use Rattle.std.specs.Str.{IsUtf8, is_utf8}
use Rattle.std.proofs.lemmas.Str.{IsUtf8-from_is_utf8}
use Rattle.manifest_rules.specs.Catalog.{Catalog}
use Rattle.manifest_rules.specs.Form.{catalog_in}
use Rattle.manifest_rules.proofs.Outcomes.{read_is}
use Rattle.vb_log.specs.declared.limits.TheConstants.{SECTION_LIMIT, SPELT_KEY_LIMIT}
use Rattle.vb_log.specs.declared.documents.Head.{Head}
use Rattle.vb_log.specs.declared.fields.FieldFault.{FieldFault}
use Rattle.vb_log.specs.Keys.{IsAllowedKey, spelt_key}
use Rattle.vb_log.specs.Layout.{four, eight, Form, as_value, as_key, as_section, as_manifest, Spells, Layout, byte, run, NumberAt, RunAt, Breaks}
use Rattle.vb_log.specs.Spelling.{sized, head_bytes, doc_bytes, sized_layout, key_layout, cas_layout, word_layout, head_layout, attributes_layout, value_layout, doc_layout, what_layout}
use Rattle.vb_log.specs.Reading.{SizedAt, AttributesAt, KeyAt, CasAt, HeadAt, DocAt, WhatAt}
use Rattle.vb_log.proofs.Layouts.{same_run, Leads, leads_on, byte_leads, number_leads, run_leads}

-- what a `?` hands on
pub handed : {T : Type 0} (r : Result T FieldFault) (fault : FieldFault) (P : FieldFault → Type 0) → IsErrAnd r (λ y. y ≡ fault) → P fault → IfErr r P
handed (Ok x) fault P h p = absurd h
handed (Err y) fault P h p = subst P (sym h) p

-- ---- bytes behind their length

pub sized_leads : (most : ℕ) (form : Form) (next : Layout) (bytes piece rest : List ℕ) → most < 2 ^ 32 → Spells form piece → SizedAt most bytes piece rest → Leads (sized_layout most form next) bytes next rest
sized_leads most form next bytes piece rest fits spells at =
    let low = at.short in
    leads_on (sized_layout most form next) bytes (run (length piece) form next) (piece ++ rest) next rest
    (number_leads four 0 most (λ size. run size form next) bytes (length piece) (piece ++ rest) (record {
      front = at.front ∙ append_assoc (to_be_bytes w32 (length piece)) piece rest;
      above = omega arith;
      below = low;
      small = omega arith;
    }))
    (run_leads (length piece) form next (piece ++ rest) piece rest (record { front = refl; whole = refl; spells = spells }))

-- ---- bytes that are there and don't spell what they should

pub run_refused : (size : ℕ) (form : Form) (next : Layout) (bytes piece rest : List ℕ) → RunAt size as_value bytes piece rest → (Spells form piece → ⊥) → Breaks (run size form next) bytes (length bytes)
run_refused size form next bytes piece rest at none =
    inl (
      refl,
      λ other behind so.
          let same = same_run other piece behind rest (sym so.front ∙ at.front) (so.whole ∙ sym at.whole) in
          none (subst (λ l. Spells form l) same.one so.spells),
    )

pub sized_refused : (most : ℕ) (form : Form) (next : Layout) (bytes piece rest : List ℕ) → most < 2 ^ 32 → SizedAt most bytes piece rest → (Spells form piece → ⊥) → Breaks (sized_layout most form next) bytes (length piece + length rest)
sized_refused most form next bytes piece rest fits at none =
    let low = at.short in
    let first : NumberAt four 0 most bytes (length piece) (piece ++ rest) = record {
      front = at.front ∙ append_assoc (to_be_bytes w32 (length piece)) piece rest;
      above = omega arith;
      below = low;
      small = omega arith;
    } in
    let there : RunAt (length piece) as_value (piece ++ rest) piece rest = record { front = refl; whole = refl; spells = tt } in
    subst (λ left. Breaks (sized_layout most form next) bytes left) (length-append piece rest)
    (inr (length piece, piece ++ rest, first, run_refused (length piece) form next (piece ++ rest) piece rest there none))

-- ---- keys

pub key_fits : (key : DocKey) → IsAllowedKey key → length (spelt_key key) ≤ SPELT_KEY_LIMIT
key_fits key h = go (nat_eq key.collection 0) refl h.short
  where
    whole : length (spelt_key key) ≡ length (id_bytes key.collection) + length key.key
    whole = length-append (id_bytes key.collection) key.key

    go : (b : Bool) → nat_eq key.collection 0 ≡ b → length key.key ≤ (if b then KEY_LIMIT else OTHER_KEY_LIMIT) → length (spelt_key key) ≤ SPELT_KEY_LIMIT
    go true e short =
        let one : length (id_bytes key.collection) ≡ 1 = ap (λ n. length (id_bytes n)) (eqb-true key.collection 0 e) in
        omega (arith, whole)
    go false e short = let few = id_bytes_short key.collection in omega (arith, whole)

pub key_leads : (next : Layout) (bytes : List ℕ) (key : DocKey) (rest : List ℕ) → KeyAt bytes key rest → Leads (key_layout next) bytes next rest
key_leads next bytes key rest at =
    let fits = key_fits key at.allowed in
    leads_on (key_layout next) bytes (run (length (spelt_key key)) as_key next) (spelt_key key ++ rest) next rest
    (byte_leads 0 SPELT_KEY_LIMIT (λ size. run size as_key next) bytes (length (spelt_key key)) (spelt_key key ++ rest) (record { front = at.front; above = omega arith; below = fits }))
    (run_leads (length (spelt_key key)) as_key next (spelt_key key ++ rest) (spelt_key key) rest (record { front = refl; whole = refl; spells = (key, at.allowed, refl) }))

-- ---- documents

pub cas_leads : (most : ℕ) (next : Layout) (bytes : List ℕ) (cas : ℕ) (rest : List ℕ) → CasAt most bytes cas rest → Leads (cas_layout most next) bytes next rest
cas_leads most next bytes cas rest at =
    let low = at.allowed in
    number_leads eight 0 most (λ cas. next) bytes cas rest (record { front = at.front; above = omega arith; below = at.within; small = omega arith })

pub word_leads : (next : Layout) (bytes : List ℕ) (word : ℕ) (rest : List ℕ) → word < 2 ^ 32 → bytes ≡ to_be_bytes w32 word ++ rest → Leads (word_layout next) bytes next rest
word_leads next bytes word rest low front =
    number_leads four 0 (2 ^ 32 - 1) (λ word. next) bytes word rest (record { front = front; above = omega arith; below = omega arith; small = low })

pub json_leads : (next : Layout) (json : Bool) (rest : List ℕ) → Leads (byte 0 1 (λ json. next)) (from_bool json ∷ rest) next rest
json_leads next true rest = byte_leads 0 1 (λ json. next) (1 ∷ rest) 1 rest (record { front = refl; above = omega arith; below = omega arith })
json_leads next false rest = byte_leads 0 1 (λ json. next) (0 ∷ rest) 0 rest (record { front = refl; above = omega arith; below = omega arith })

pub head_leads : (most : ℕ) (next : Layout) (bytes : List ℕ) (head : Head) (rest : List ℕ) → HeadAt most bytes head rest → Leads (head_layout most next) bytes next rest
head_leads most next bytes head rest at =
    let json = from_bool head.json ∷ rest in
    let expiry = to_be_bytes w32 head.expiry ++ json in
    let flags = to_be_bytes w32 head.flags ++ expiry in
    let last : Layout = byte 0 1 (λ json. next) in
    let front : bytes ≡ to_be_bytes w64 head.cas ++ flags = at.front ∙ simp append_assoc in
    leads_on (head_layout most next) bytes (word_layout (word_layout last)) flags next rest
    (cas_leads most (word_layout (word_layout last)) bytes head.cas flags (record { allowed = at.cas; within = at.within; front = front }))
    (leads_on (word_layout (word_layout last)) flags (word_layout last) expiry next rest
    (word_leads (word_layout last) flags head.flags expiry at.flags refl)
    (leads_on (word_layout last) expiry last json next rest
    (word_leads last expiry head.expiry json at.expiry refl)
    (json_leads next head.json rest)))

pub attributes_leads : (next : Layout) (bytes piece rest : List ℕ) → AttributesAt bytes piece rest → Leads (attributes_layout next) bytes next rest
attributes_leads next bytes piece rest at = sized_leads SECTION_LIMIT as_section next bytes piece rest (omega arith) at.spells at.at

pub value_leads : (next : Layout) (bytes piece rest : List ℕ) → SizedAt VALUE_LIMIT bytes piece rest → Leads (value_layout next) bytes next rest
value_leads next bytes piece rest at = sized_leads VALUE_LIMIT as_value next bytes piece rest (omega arith) tt at

pub doc_leads : (most : ℕ) (next : Layout) (bytes : List ℕ) (doc : Doc) (rest : List ℕ) → DocAt most bytes doc rest → Leads (doc_layout most next) bytes next rest
doc_leads most next bytes doc rest at =
    let d = at.allowed in
    let head : Head = record { cas = doc.cas; flags = doc.flags; expiry = doc.expiry; json = doc.json } in
    let behind = sized doc.value ++ rest in
    let body = sized doc.xattrs ++ behind in
    let front : bytes ≡ head_bytes doc.cas doc.flags doc.expiry doc.json ++ body = at.front ∙ simp append_assoc in
    leads_on (doc_layout most next) bytes (attributes_layout (value_layout next)) body next rest
    (head_leads most (attributes_layout (value_layout next)) bytes head body (record { cas = d.cas; within = at.within; flags = d.flags; expiry = d.expiry; front = front }))
    (leads_on (attributes_layout (value_layout next)) body (value_layout next) behind next rest
    (attributes_leads (value_layout next) body doc.xattrs behind (record { at = record { short = d.attributes_short; front = refl }; spells = d.attributes }))
    (value_leads next behind doc.value rest (record { short = d.value_short; front = refl })))

pub what_leads : (most : ℕ) (next : Layout) (bytes : List ℕ) (what : What) (rest : List ℕ) → WhatAt most bytes what rest → Leads (what_layout most next) bytes next rest
what_leads most next bytes (whats.Put doc) rest at =
    leads_on (what_layout most next) bytes (doc_layout most next) (doc_bytes doc ++ rest) next rest
    (byte_leads 1 2 (λ tag. if nat_eq tag 1 then doc_layout most next else cas_layout most next) bytes 1 (doc_bytes doc ++ rest) (record { front = at.front; above = omega arith; below = omega arith }))
    (doc_leads most next (doc_bytes doc ++ rest) doc rest (record { allowed = at.allowed; within = at.within; unnumbered = at.unnumbered; front = refl }))
what_leads most next bytes (whats.Remove cas) rest at =
    leads_on (what_layout most next) bytes (cas_layout most next) (to_be_bytes w64 cas ++ rest) next rest
    (byte_leads 1 2 (λ tag. if nat_eq tag 1 then doc_layout most next else cas_layout most next) bytes 2 (to_be_bytes w64 cas ++ rest) (record { front = at.front; above = omega arith; below = omega arith }))
    (cas_leads most next (to_be_bytes w64 cas ++ rest) cas rest (record { allowed = at.allowed; within = at.within; front = refl }))

-- ---- manifests

pub manifest_there : (bytes : List ℕ) (m : Catalog) → IsUtf8 bytes → catalog_in bytes ≡ Some m → Spells as_manifest bytes
manifest_there bytes m utf8 found = ap is_some (read_is bytes m utf8 found)

pub manifest_none : (bytes : List ℕ) → (IsUtf8 bytes → catalog_in bytes ≡ None) → Spells as_manifest bytes → ⊥
manifest_none bytes none = go (is_utf8 bytes) refl
  where
    go : (b : Bool) → is_utf8 bytes ≡ b → is_some (if b then catalog_in bytes else None) ≡ true → ⊥
    go true e h = false≢true (ap is_some (sym (none (IsUtf8-from_is_utf8 bytes e))) ∙ h)
    go false e h = false≢true h

-- ---- what was appended, piece by piece

pub doc_added : (doc : Doc) (old a b c d e now : List ℕ) → a ≡ old ++ to_be_bytes w64 doc.cas → b ≡ a ++ to_be_bytes w32 doc.flags → c ≡ b ++ to_be_bytes w32 doc.expiry → d ≡ c ++ from_bool doc.json ∷ [] → e ≡ d ++ sized doc.xattrs → now ≡ e ++ sized doc.value → now ≡ old ++ doc_bytes doc
doc_added doc old a b c d e now p q r s t u =
    u ∙ ap (λ l. l ++ sized doc.value) (t ∙ ap (λ l. l ++ sized doc.xattrs) (s ∙ ap (λ l. l ++ from_bool doc.json ∷ []) (r ∙ ap (λ l. l ++ to_be_bytes w32 doc.expiry) (q ∙ ap (λ l. l ++ to_be_bytes w32 doc.flags) p))))
    ∙ six old (to_be_bytes w64 doc.cas) (to_be_bytes w32 doc.flags) (to_be_bytes w32 doc.expiry) (from_bool doc.json ∷ []) (sized doc.xattrs) (sized doc.value)
  where
    six : (o u v w x y z : List ℕ) → (((((o ++ u) ++ v) ++ w) ++ x) ++ y) ++ z ≡ o ++ ((u ++ (v ++ (w ++ x))) ++ (y ++ z))
    six o u v w x y z = simp append_assoc
