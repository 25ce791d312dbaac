-- The document that edits begin with.
use Rattle.std.specs.Prelude.{◌≡◌, ◌≢◌, ℕ, nat_eq, false, List, unwrap_or, Option, Some, None, Ok, refl}
use Rattle.std.specs.Option.{option_map}
use Rattle.std.proofs.Common.{arith}
use Rattle.std.proofs.lemmas.Bool.Decides.{nat_tests}
use Rattle.doc_model.specs.declared.document.Doc.{Doc}
use Rattle.kv_request.specs.declared.parts.TheConstants.{ADDS_DOCUMENT}
use Rattle.kv_request.specs.declared.request.Spec.{Spec}
use Rattle.doc_step.specs.Expiry.{Setting, expiry_of}
use Rattle.doc_step.specs.Parts.{begun_doc, with_expiry, doc_to_edit}
use Rattle.doc_ops.specs.declared.edits.Begun.{Begun}
use Rattle.doc_ops.specs.Edits.{Begins}

differs : (m n : ℕ) → m ≢ n → nat_eq m n ≡ false
differs m n h = grind (arith, nat_tests)

-- where none is there, and one may be made
pub starts_new : (s : Setting) (expiry : Option ℕ) (flags : ℕ) (specs : List Spec) → flags ≢ 0 → doc_to_edit s expiry flags specs None ≡ Ok (begun_doc s expiry specs)
starts_new s expiry flags specs h = rw (differs flags 0 h) refl

-- where one is there, and may be
pub starts_old : (s : Setting) (expiry : Option ℕ) (flags : ℕ) (specs : List Spec) (doc : Doc) → flags ≢ ADDS_DOCUMENT → doc_to_edit s expiry flags specs (Some doc) ≡ Ok (with_expiry s expiry doc)
starts_old s expiry flags specs doc h = rw (differs flags ADDS_DOCUMENT h) refl

-- what is kept of a document that is there
pub keeps_old : (s : Setting) (expiry : Option ℕ) (doc : Doc) (begun : Begun) → begun.value.now ≡ doc.value → begun.xattrs.now ≡ doc.xattrs → begun.flags ≡ doc.flags
    → begun.expiry ≡ unwrap_or (option_map (expiry_of s) expiry) doc.expiry → Begins begun (with_expiry s expiry doc)
keeps_old s None doc begun v x f e = record { value = v; xattrs = x; flags = f; expiry = e }
keeps_old s (Some given) doc begun v x f e = record { value = v; xattrs = x; flags = f; expiry = e }
