-- What is known of a change that was planned, and of the vbucket that makes it.
use Rattle.std.specs.Prelude.{◌≡◌, ℕ, ◌≤◌, ◌<◌, ◌^◌}
use Rattle.doc_model.specs.declared.document.What.{What}
use Rattle.doc_model.specs.declared.document.What.TheVariants as whats
use Rattle.doc_step.specs.declared.Effect.{Effect}
use Rattle.doc_step.specs.declared.Effect.TheVariants as effects
use Rattle.vb_log.specs.declared.limits.TheConstants.{GREATEST_CAS}
use Rattle.vb_log.specs.Spelling.{IsAllowedDoc}
use Rattle.vb_core.specs.Shown.{ShownVb}

-- a document that is stored has flags and an expiry of four bytes
abbrev pub HasRanges : Effect → Type 0
HasRanges effects.Nothing = Unit {0}
HasRanges (effects.Put doc) = (doc.flags < 2 ^ 32) × (doc.expiry < 2 ^ 32)
HasRanges effects.Remove = Unit {0}

-- a change that an entry can have, if the CAS that was drawn for it is small enough
abbrev pub CanBeEntered : ℕ → What → Type 0
CanBeEntered cas (whats.Put doc) = (cas ≤ GREATEST_CAS → IsAllowedDoc doc) × (doc.seqno ≡ 0)
CanBeEntered cas (whats.Remove other) = other ≡ cas

-- the numbers of a vbucket are those of the place of which its store is
pub record IsAtHome {D : Type 0} (vb : ShownVb D) : Type 0 where
  pub chain : vb.core.chain ≡ vb.store.meta.chain
  pub place : vb.core.place ≡ vb.store.meta.place
