-- Each representation of a log follows its entries.
use Rattle.std.specs.Prelude.{◌≡◌, ◌+◌, Bool, true, false, cond, List, [], ◌∷◌, length, Option, Some, None, Result, Ok, Err, refl}
use Rattle.std.proofs.Common.{◌∙◌, ap, arith}
use Rattle.doc_model.specs.declared.status.Status.{Status}
use Rattle.manifest_rules.specs.Rules.{Step}
use Rattle.manifest_rules.specs.Applying.{text_step}
use Rattle.vb_log.specs.declared.entry.Entry.{Entry}
use Rattle.vb_log.specs.declared.entry.Entry.TheVariants as entries
use Rattle.vb_log.specs.declared.entry.Pending.{Pending}
use Rattle.vb_log.specs.Content.{Content, no_content, has_collection, with_item, prepare_at, committed, with_step, with_entry, with_entries, content_of, with_entries-append}
use Rattle.vb_log.specs.Logs.{IsFaithful, whole_logs, folds}

pub whole_logs_faithful : IsFaithful whole_logs
whole_logs_faithful = record { empty = refl; adds = λ log e. with_entries-append no_content log (e ∷ []) }

pub folds_faithful : IsFaithful folds
folds_faithful = record { empty = refl; adds = λ log e. refl }

-- ---- lengths

either_length : (b : Bool) (c d : Content) → c.length ≡ d.length → (cond b c d).length ≡ d.length
either_length true c d e = e
either_length false c d e = refl

committed_length : (c : Content) (o : Option Pending) → (committed c o).length ≡ c.length
committed_length c None = refl
committed_length c (Some p) = either_length (has_collection c.manifest p.key.collection) (with_item c p.key p.what) c refl

step_length : (c : Content) (r : Result Step Status) → (with_step c r).length ≡ c.length
step_length c (Ok step) = refl
step_length c (Err why) = refl

-- each entry is counted
pub entry_counts : (c : Content) (e : Entry) → (with_entry c e).length ≡ c.length + 1
entry_counts c (entries.Mutation key doc) = refl
entry_counts c (entries.Deletion key cas) = refl
entry_counts c (entries.Prepare key what level) = refl
entry_counts c (entries.Commit of) = ap (λ n. n + 1) (committed_length c (prepare_at c.prepares of))
entry_counts c (entries.Abort of) = refl
entry_counts c (entries.Manifest text) = ap (λ n. n + 1) (step_length c (text_step c.manifest text))

entries_count : (c : Content) (es : List Entry) → (with_entries c es).length ≡ c.length + length es
entries_count c [] = omega arith
entries_count c (e ∷ es) = entries_count (with_entry c e) es ∙ omega (arith, entry_counts c e)

-- a content has the length of its log
pub content_length : (log : List Entry) → (content_of log).length ≡ length log
content_length log = entries_count no_content log ∙ omega arith
