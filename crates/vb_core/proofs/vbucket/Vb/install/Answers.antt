-- A manifest is installed by its entry.
use Rattle.std.specs.Prelude.{◌≡◌, ℕ, List, None}
use Rattle.std.proofs.Common.{◌∙◌, ap, sym, subst}
use Rattle.kv_request.specs.declared.reply.Reply.{Reply}
use Rattle.kv_request.specs.Tables.{refused}
use Rattle.manifest_rules.specs.Ids.{SameIds}
use Rattle.vb_log.specs.declared.entry.Entry.{Entry}
use Rattle.vb_log.specs.declared.entry.Entry.TheVariants as entries
use Rattle.vb_log.specs.Content.{allowed}
use Rattle.vb_log.specs.Sizes.{size_after}
use Rattle.vb_log.specs.Spelling.{IsAllowed}
use Rattle.vb_log.specs.Logs.{folds}
use Rattle.copy_model.specs.declared.outcome.Outcome.TheVariants as outcomes
use Rattle.copy_model.specs.Requests.{changing, installed}
use Rattle.vb_core.specs.declared.making.Made.{Made}
use Rattle.vb_core.specs.Coming.{ComesWell}
use Rattle.vb_core.specs.Flat.{flat}
use Rattle.vb_core.specs.Making.{Makes, Covers}
use Rattle.vb_core.proofs.Brought.{text_short}
use Rattle.vb_core.proofs.Installed.{drops_step, text_allowed, text_added, text_covers}
use Rattle.vb_core.proofs.Answered.{told_so, installed_comes}
use Rattle.vb_core.proofs.vbucket.Vb.install.Goals as goal

pub size_with-requires-clause-entry : goal.size_with-requires-clause-entry
size_with-requires-clause-entry g c =
    let manifest = c.args.self.now.recent.manifest in
    subst (λ (t : List ℕ). IsAllowed (entries.Manifest t)) (sym c.in_ok-copy.ensures)
    (text_allowed manifest c.args.text.now c.args.dropped (drops_step manifest c.args.text.now c.args.dropped c.requires.dropped)
    (text_short c.args.request.now c.args.text.now c.requires.request c.requires.text))

pub size_with-requires-clause-allowed : goal.size_with-requires-clause-allowed
size_with-requires-clause-allowed g c =
    let recent = c.args.self.now.recent in
    ap (λ (t : List ℕ). allowed recent (entries.Manifest t)) c.in_ok-copy.ensures
    ∙ text_added recent c.args.text.now c.args.dropped (drops_step recent.manifest c.args.text.now c.args.dropped c.requires.dropped)

pub size_with-requires-clause-covers : goal.size_with-requires-clause-covers
size_with-requires-clause-covers g c =
    let manifest = c.args.self.now.recent.manifest in
    let same : SameIds c.as_slice.result.now c.args.dropped.collections = subst
    (λ (ids : List ℕ). SameIds ids c.args.dropped.collections) (sym c.as_slice.ensures.value) c.rising-ids.ensures.same in
    subst (λ (t : List ℕ). Covers manifest (entries.Manifest t) None c.as_slice.result.now) (sym c.in_ok-copy.ensures)
    (text_covers manifest c.args.text.now c.args.dropped c.as_slice.result.now
    (drops_step manifest c.args.text.now c.args.dropped c.requires.dropped) same)

pub make-requires-clause-entry : goal.make-requires-clause-entry
make-requires-clause-entry g c =
    let manifest = c.args.self.now.recent.manifest in
    subst (λ (t : List ℕ). IsAllowed (entries.Manifest t)) (sym c.in_ok-copy.ensures)
    (text_allowed manifest c.args.text.now c.args.dropped (drops_step manifest c.args.text.now c.args.dropped c.requires.dropped)
    (text_short c.args.request.now c.args.text.now c.requires.request c.requires.text))

pub make-requires-clause-allowed : goal.make-requires-clause-allowed
make-requires-clause-allowed g c =
    let recent = c.args.self.now.recent in
    ap (λ (t : List ℕ). allowed recent (entries.Manifest t)) c.in_ok-copy.ensures
    ∙ text_added recent c.args.text.now c.args.dropped (drops_step recent.manifest c.args.text.now c.args.dropped c.requires.dropped)

pub make-requires-clause-covers : goal.make-requires-clause-covers
make-requires-clause-covers g c =
    let manifest = c.args.self.now.recent.manifest in
    let same : SameIds c.as_slice-2.result.now c.args.dropped.collections = subst
    (λ (ids : List ℕ). SameIds ids c.args.dropped.collections) (sym c.as_slice-2.ensures.value) c.rising-ids.ensures.same in
    subst (λ (t : List ℕ). Covers manifest (entries.Manifest t) None c.as_slice-2.result.now) (sym c.in_ok-copy.ensures)
    (text_covers manifest c.args.text.now c.args.dropped c.as_slice-2.result.now
    (drops_step manifest c.args.text.now c.args.dropped c.requires.dropped) same)

pub returns-in-Refused-clause-installed : goal.returns-in-Refused-clause-installed
returns-in-Refused-clause-installed g c = λ copy lives.
    let states = g.D.Disk.states in
    let counts = g.D.Disk.counts in
    let vb = c.args.self.now in
    let new = c.make.new.self in
    let request = c.args.request.now in
    let entry : Entry = entries.Manifest c.in_ok-copy.field-0 in
    let is : entry ≡ entries.Manifest c.args.text.now = ap (λ (t : List ℕ). entries.Manifest t) c.in_ok-copy.ensures in
    let size : c.in_ok-size.size ≡ size_after copy.log entry = c.in_ok-size.ensures copy lives.stands in
    let makes : Makes states counts copy 0 entry vb new c.in_ok-status.field-0 = c.in_ok-status.ensures.made copy lives size in
    let P : Reply → Entry → Type 0 = λ told e. ComesWell states counts copy (λ luck. changing folds (flat copy.chain) luck request 0 e
    (installed folds request e) copy) vb new (outcomes.Reply told) in
    let no_change = subst (λ (m : Made). Makes states counts copy 0 entry vb new m) c.in-Refused.is makes in
    subst (P c.refusal.result) is
    (told_so states counts vb new copy (λ luck. changing folds (flat copy.chain) luck request 0 entry (installed folds request entry)
    copy) c.refusal.result (refused request.opcode request.opaque c.in-Refused.status)
    c.refusal.ensures.reply (no_change request (installed folds request entry)))

pub returns-clause-installed : goal.returns-clause-installed
returns-clause-installed g c = λ copy lives.
    let states = g.D.Disk.states in
    let counts = g.D.Disk.counts in
    let vb = c.args.self.now in
    let new = c.make.new.self in
    let request = c.args.request.now in
    let entry : Entry = entries.Manifest c.in_ok-copy.field-0 in
    let is : entry ≡ entries.Manifest c.args.text.now = ap (λ (t : List ℕ). entries.Manifest t) c.in_ok-copy.ensures in
    let size : c.in_ok-size.size ≡ size_after copy.log entry = c.in_ok-size.ensures copy lives.stands in
    let makes : Makes states counts copy 0 entry vb new c.in_ok-status.field-0 = c.in_ok-status.ensures.made copy lives size in
    let P : Reply → Entry → Type 0 = λ told e. ComesWell states counts copy (λ luck. changing folds (flat copy.chain) luck request 0 e
    (installed folds request e) copy) vb new (outcomes.Reply told) in
    let added = subst (λ (m : Made). Makes states counts copy 0 entry vb new m) c.in-Done.is makes in
    subst (P c.refusal-in-Done.result) is
    (installed_comes states counts vb new request entry c.refusal-in-Done.result copy added c.refusal-in-Done.ensures.reply)
