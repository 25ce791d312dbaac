-- The parts of an entry at the front of bytes.
use Rattle.std.specs.Prelude.{◌≡◌, ℕ, ◌≤◌, ◌<◌, ◌^◌, List, ◌++◌, length}
use Rattle.std.specs.Int.{w64, to_be_bytes}
use Rattle.doc_model.specs.declared.key.DocKey.{DocKey}
use Rattle.doc_model.specs.declared.document.Doc.{Doc}
use Rattle.doc_model.specs.declared.document.What.{What}
use Rattle.vb_log.specs.declared.documents.Head.{Head}
use Rattle.vb_log.specs.declared.limits.TheConstants.{GREATEST_CAS, GREATEST_POSITION, SECTION_LIMIT}
use Rattle.vb_log.specs.Content.{cas_of}
use Rattle.vb_log.specs.Keys.{IsAllowedKey, key_bytes}
use Rattle.vb_log.specs.Layout.{Spells, as_section}
use Rattle.vb_log.specs.Spelling.{IsAllowedDoc, IsAllowedWhat, IsUnnumbered, sized, head_bytes, doc_bytes, what_bytes}

-- bytes of no more than so many stand at the front behind their length
pub record SizedAt (most : ℕ) (bytes piece rest : List ℕ) : Type 0 where
  pub short : length piece ≤ most
  pub front : bytes ≡ sized piece ++ rest

-- attributes stand there
pub record AttributesAt (bytes piece rest : List ℕ) : Type 0 where
  pub at : SizedAt SECTION_LIMIT bytes piece rest
  pub spells : Spells as_section piece

-- a key stands there
pub record KeyAt (bytes : List ℕ) (key : DocKey) (rest : List ℕ) : Type 0 where
  pub allowed : IsAllowedKey key
  pub front : bytes ≡ key_bytes key ++ rest

-- a CAS that isn't above another stands there
pub record CasAt (most : ℕ) (bytes : List ℕ) (cas : ℕ) (rest : List ℕ) : Type 0 where
  pub allowed : cas ≤ GREATEST_CAS
  pub within : cas ≤ most
  pub front : bytes ≡ to_be_bytes w64 cas ++ rest

-- the bytes are a position
pub record PositionAt (bytes : List ℕ) (of : ℕ) : Type 0 where
  pub some : 1 ≤ of
  pub below : of ≤ GREATEST_POSITION
  pub whole : bytes ≡ to_be_bytes w64 of

-- CAS, flags, expiry, and whether a document is JSON, stand there
pub record HeadAt (most : ℕ) (bytes : List ℕ) (head : Head) (rest : List ℕ) : Type 0 where
  pub cas : head.cas ≤ GREATEST_CAS
  pub within : head.cas ≤ most
  pub flags : head.flags < 2 ^ 32
  pub expiry : head.expiry < 2 ^ 32
  pub front : bytes ≡ head_bytes head.cas head.flags head.expiry head.json ++ rest

-- a document stands there
pub record DocAt (most : ℕ) (bytes : List ℕ) (doc : Doc) (rest : List ℕ) : Type 0 where
  pub allowed : IsAllowedDoc doc
  pub within : doc.cas ≤ most
  pub unnumbered : doc.seqno ≡ 0
  pub front : bytes ≡ doc_bytes doc ++ rest

-- a change stands there
pub record WhatAt (most : ℕ) (bytes : List ℕ) (what : What) (rest : List ℕ) : Type 0 where
  pub allowed : IsAllowedWhat what
  pub within : cas_of what ≤ most
  pub unnumbered : IsUnnumbered what
  pub front : bytes ≡ what_bytes what ++ rest
