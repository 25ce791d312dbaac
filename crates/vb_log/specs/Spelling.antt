-- The entries that the layout allows, and their bytes.
use Rattle.std.specs.Prelude.{◌≡◌, ℕ, ◌-◌, ◌≤◌, ◌<◌, ◌^◌, nat_eq, Bool, List, [], ◌∷◌, ◌++◌, length, if◌then◌else◌}
use Rattle.std.specs.Int.{w32, w64, to_be_bytes, from_bool}
use Rattle.doc_model.specs.declared.document.Doc.{Doc}
use Rattle.doc_model.specs.declared.document.What.{What}
use Rattle.doc_model.specs.declared.document.What.TheVariants as whats
use Rattle.doc_model.specs.declared.limits.TheConstants.{VALUE_LIMIT, MANIFEST_LIMIT}
use Rattle.vb_log.specs.declared.entry.Entry.{Entry}
use Rattle.vb_log.specs.declared.entry.Entry.TheVariants as entries
use Rattle.vb_log.specs.declared.limits.TheConstants.{GREATEST_CAS, GREATEST_POSITION, GREATEST_LEVEL, SPELT_KEY_LIMIT, SECTION_LIMIT}
use Rattle.vb_log.specs.Keys.{IsAllowedKey, key_bytes}
use Rattle.vb_log.specs.Layout.{Layout, end, byte, number, run, four, eight, Form, as_value, as_key, as_section, as_manifest, Spells}

-- ---- what is allowed

-- a document whose parts keep their limits
pub record IsAllowedDoc (doc : Doc) : Type 0 where
  pub cas : doc.cas ≤ GREATEST_CAS
  pub flags : doc.flags < 2 ^ 32
  pub expiry : doc.expiry < 2 ^ 32
  pub attributes : Spells as_section doc.xattrs
  pub attributes_short : length doc.xattrs ≤ SECTION_LIMIT
  pub value_short : length doc.value ≤ VALUE_LIMIT

-- a change whose parts keep their limits
abbrev pub IsAllowedWhat : What → Type 0
IsAllowedWhat (whats.Put doc) = IsAllowedDoc doc
IsAllowedWhat (whats.Remove cas) = cas ≤ GREATEST_CAS

-- a document in an entry has no sequence number of its own
abbrev pub IsUnnumbered : What → Type 0
IsUnnumbered (whats.Put doc) = doc.seqno ≡ 0
IsUnnumbered (whats.Remove cas) = Unit {0}

-- an entry that the layout allows
abbrev pub IsAllowed : Entry → Type 0
IsAllowed (entries.Mutation key doc) = IsAllowedKey key × IsAllowedDoc doc × (doc.seqno ≡ 0)
IsAllowed (entries.Deletion key cas) = IsAllowedKey key × (cas ≤ GREATEST_CAS)
IsAllowed (entries.Prepare key what level) =
    IsAllowedKey key × IsAllowedWhat what × IsUnnumbered what × (1 ≤ level) × (level ≤ GREATEST_LEVEL)
IsAllowed (entries.Commit of) = (1 ≤ of) × (of ≤ GREATEST_POSITION)
IsAllowed (entries.Abort of) = (1 ≤ of) × (of ≤ GREATEST_POSITION)
IsAllowed (entries.Manifest text) = (length text ≤ MANIFEST_LIMIT) × Spells as_manifest text

-- ---- bytes

-- bytes behind their length of four bytes
abbrev pub sized : List ℕ → List ℕ
sized bytes = to_be_bytes w32 (length bytes) ++ bytes

-- a document's CAS, flags, expiry, and whether it is JSON
abbrev pub head_bytes : ℕ → ℕ → ℕ → Bool → List ℕ
head_bytes cas flags expiry json =
    to_be_bytes w64 cas ++ (to_be_bytes w32 flags ++ (to_be_bytes w32 expiry ++ from_bool json ∷ []))

-- a document: these four, its attributes, its value
abbrev pub doc_bytes : Doc → List ℕ
doc_bytes doc =
    head_bytes doc.cas doc.flags doc.expiry doc.json ++ (sized doc.xattrs ++ sized doc.value)

-- a change: 1 and a document, or 2 and the CAS of a deletion
abbrev pub what_bytes : What → List ℕ
what_bytes (whats.Put doc) = 1 ∷ doc_bytes doc
what_bytes (whats.Remove cas) = 2 ∷ to_be_bytes w64 cas

-- an entry: a byte that says which it is, and its parts
abbrev pub spelling : Entry → List ℕ
spelling (entries.Mutation key doc) = 1 ∷ (key_bytes key ++ doc_bytes doc)
spelling (entries.Deletion key cas) = 2 ∷ (key_bytes key ++ to_be_bytes w64 cas)
spelling (entries.Prepare key what level) = 3 ∷ (level ∷ (key_bytes key ++ what_bytes what))
spelling (entries.Commit of) = 4 ∷ to_be_bytes w64 of
spelling (entries.Abort of) = 5 ∷ to_be_bytes w64 of
spelling (entries.Manifest text) = 6 ∷ sized text

-- an entry that the layout allows has these bytes
pub record IsSpelled (e : Entry) (bytes : List ℕ) : Type 0 where
  pub allowed : IsAllowed e
  pub spelled : bytes ≡ spelling e

-- ---- the layout

-- a length of four bytes up to a limit, and so many bytes that spell something
abbrev pub sized_layout : ℕ → Form → Layout → Layout
sized_layout most form next = number four 0 most (λ size. run size form next)

abbrev pub key_layout : Layout → Layout
key_layout next = byte 0 SPELT_KEY_LIMIT (λ size. run size as_key next)

-- a CAS that isn't above another
abbrev pub cas_layout : ℕ → Layout → Layout
cas_layout most next = number eight 0 most (λ cas. next)

-- any number of four bytes
abbrev pub word_layout : Layout → Layout
word_layout next = number four 0 (2 ^ 32 - 1) (λ word. next)

abbrev pub head_layout : ℕ → Layout → Layout
head_layout most next = cas_layout most (word_layout (word_layout (byte 0 1 (λ json. next))))

abbrev pub attributes_layout : Layout → Layout
attributes_layout next = sized_layout SECTION_LIMIT as_section next

abbrev pub value_layout : Layout → Layout
value_layout next = sized_layout VALUE_LIMIT as_value next

abbrev pub doc_layout : ℕ → Layout → Layout
doc_layout most next = head_layout most (attributes_layout (value_layout next))

abbrev pub what_layout : ℕ → Layout → Layout
what_layout most next = byte 1 2 (λ tag. if nat_eq tag 1 then doc_layout most next else cas_layout most next)

abbrev pub position_layout : Layout
position_layout = number eight 1 GREATEST_POSITION (λ of. end)

abbrev pub prepare_layout : Layout
prepare_layout = byte 1 GREATEST_LEVEL (λ level. key_layout (what_layout GREATEST_CAS end))

abbrev pub manifest_layout : Layout
manifest_layout = sized_layout MANIFEST_LIMIT as_manifest end

-- what follows the byte that says which entry it is
abbrev pub parts_layout : ℕ → Layout
parts_layout kind =
    if nat_eq kind 1 then key_layout (doc_layout GREATEST_CAS end)
    else (if nat_eq kind 2 then key_layout (cas_layout GREATEST_CAS end)
    else (if nat_eq kind 3 then prepare_layout
    else (if nat_eq kind 6 then manifest_layout
    else position_layout)))

-- the layout of an entry
abbrev pub entry_layout : Layout
entry_layout = byte 1 6 parts_layout
