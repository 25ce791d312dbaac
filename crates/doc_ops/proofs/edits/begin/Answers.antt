use Rattle.std.proofs.Common.{refl}
use Rattle.doc_step.specs.Parts.{begun_doc, with_expiry}
use Rattle.doc_ops.specs.Planning.{setting_of}
use Rattle.doc_ops.proofs.Beginning.{starts_new, starts_old, keeps_old}
use Rattle.doc_ops.proofs.edits.begin.Goals as goal

pub returns-else-doc_flags-eq0 : goal.returns-else-doc_flags-eq0
returns-else-doc_flags-eq0 c specs t = (
  begun_doc (setting_of c.args.setting) c.args.expiry specs,
  rw c.in-None.is (starts_new (setting_of c.args.setting) c.args.expiry c.args.doc_flags specs c.if-doc_flags-eq0.false),
  record { value = t; xattrs = refl; flags = refl; expiry = rw (c.expiry_of.ensures, c.unwrap_or.ensures) refl },
)

pub returns-else-doc_flags-eq-ADDS_DOCUMENT : goal.returns-else-doc_flags-eq-ADDS_DOCUMENT
returns-else-doc_flags-eq-ADDS_DOCUMENT c specs t = (
  with_expiry (setting_of c.args.setting) c.args.expiry c.in-Some.doc.now,
  rw c.in-Some.is (starts_old (setting_of c.args.setting) c.args.expiry c.args.doc_flags specs c.in-Some.doc.now c.if-doc_flags-eq-ADDS_DOCUMENT.false),
  keeps_old (setting_of c.args.setting) c.args.expiry c.in-Some.doc.now _ c.as_slice.ensures c.as_slice-in-Some.ensures refl c.kept_expiry.ensures,
)
