-- A change is made by its entry.
use Rattle.std.specs.Prelude.{◌≡◌, ◌≤◌}
use Rattle.std.proofs.Common.{◌∙◌, ap, sym, subst, arith}
use Rattle.doc_model.specs.declared.key.DocKey.{DocKey}
use Rattle.vb_log.specs.declared.entry.Entry.{Entry}
use Rattle.vb_log.specs.declared.limits.TheConstants.{GREATEST_CAS}
use Rattle.vb_log.specs.Content.{allowed}
use Rattle.vb_log.specs.Sizes.{size_after}
use Rattle.vb_log.specs.Spelling.{IsAllowed}
use Rattle.vb_log.specs.Logs.{folds}
use Rattle.kv_request.specs.declared.reply.Reply.{Reply}
use Rattle.kv_request.specs.Tables.{refused}
use Rattle.copy_model.specs.declared.outcome.Outcome.TheVariants as outcomes
use Rattle.copy_model.specs.Requests.{plain_entry, made, changing_at_once, with_token}
use Rattle.vb_core.specs.declared.making.Made.{Made}
use Rattle.vb_core.specs.Coming.{ComesWell}
use Rattle.vb_core.specs.Flat.{flat}
use Rattle.vb_core.specs.Making.{Makes}
use Rattle.vb_core.specs.Shown.{ShownVb}
use Rattle.vb_core.proofs.Brought.{key_allowed}
use Rattle.vb_core.proofs.Entered.{entered_allowed, entered_added}
use Rattle.vb_core.proofs.Rested.{home_of}
use Rattle.vb_core.proofs.Answered.{too_much_comes, told_so, made_comes}
use Rattle.vb_core.proofs.vbucket.Vb.change.Goals as goal
use Rattle.vb_core.proofs.vbucket.Vb.change.Goals.{in-Refused, in-Done}

pub returns-then-cas-ge-CAS_LIMIT-clause-changed : goal.returns-then-cas-ge-CAS_LIMIT-clause-changed
returns-then-cas-ge-CAS_LIMIT-clause-changed g c = λ copy lives.
    let entry : Entry = plain_entry c.args.key.now c.args.what in
    too_much_comes g.D.Disk.states g.D.Disk.counts c.args.self.now c.args.request.now c.args.cas entry
    (made folds c.args.request.now c.args.reply entry) c.refusal.result copy
    (home_of _ c.args.self.now c.self.view_is c.self.invariant) lives c.if-cas-ge-CAS_LIMIT.true c.refusal.ensures.reply

pub size_with-requires-clause-entry : goal.size_with-requires-clause-entry
size_with-requires-clause-entry g c =
    let is : c.plain_entry-entry.result ≡ plain_entry c.args.key.now c.args.what = c.plain_entry-entry.ensures
    ∙ ap (λ (k : DocKey). plain_entry k c.args.what) c.in_ok-own.ensures in
    let low : c.args.cas ≤ GREATEST_CAS = omega arith in
    subst (λ (e : Entry). IsAllowed e) (sym is) (entered_allowed c.args.key.now c.args.cas c.args.what
    (key_allowed c.args.request.now c.args.key.now c.requires.request c.requires.key) c.requires.what low)

pub size_with-requires-clause-allowed : goal.size_with-requires-clause-allowed
size_with-requires-clause-allowed g c =
    let is : c.plain_entry-entry.result ≡ plain_entry c.args.key.now c.args.what = c.plain_entry-entry.ensures
    ∙ ap (λ (k : DocKey). plain_entry k c.args.what) c.in_ok-own.ensures in
    ap (λ (e : Entry). allowed c.args.self.now.recent e) is ∙ entered_added c.args.self.now c.args.request.now c.args.key.now c.args.what
    c.requires.early

pub make-requires-clause-entry : goal.make-requires-clause-entry
make-requires-clause-entry g c =
    let is : c.plain_entry-entry.result ≡ plain_entry c.args.key.now c.args.what = c.plain_entry-entry.ensures
    ∙ ap (λ (k : DocKey). plain_entry k c.args.what) c.in_ok-own.ensures in
    let low : c.args.cas ≤ GREATEST_CAS = omega arith in
    subst (λ (e : Entry). IsAllowed e) (sym is) (entered_allowed c.args.key.now c.args.cas c.args.what
    (key_allowed c.args.request.now c.args.key.now c.requires.request c.requires.key) c.requires.what low)

pub make-requires-clause-allowed : goal.make-requires-clause-allowed
make-requires-clause-allowed g c =
    let is : c.plain_entry-entry.result ≡ plain_entry c.args.key.now c.args.what = c.plain_entry-entry.ensures
    ∙ ap (λ (k : DocKey). plain_entry k c.args.what) c.in_ok-own.ensures in
    ap (λ (e : Entry). allowed c.args.self.now.recent e) is ∙ entered_added c.args.self.now c.args.request.now c.args.key.now c.args.what
    c.requires.early

pub returns-clause-changed : goal.returns-clause-changed
returns-clause-changed g c = λ copy lives.
    let states = g.D.Disk.states in
    let counts = g.D.Disk.counts in
    let vb = c.args.self.now in
    let new = c.make.new.self in
    let request = c.args.request.now in
    let entry : Entry = c.plain_entry-entry.result in
    let is : c.plain_entry-entry.result ≡ plain_entry c.args.key.now c.args.what = c.plain_entry-entry.ensures
    ∙ ap (λ (k : DocKey). plain_entry k c.args.what) c.in_ok-own.ensures in
    let size : c.in_ok-size.size ≡ size_after copy.log entry = c.in_ok-size.ensures copy lives.stands in
    let makes : Makes states counts copy c.args.cas entry vb new c.in_ok-status.field-0 = c.in_ok-status.ensures.made copy lives size in
    let P : Reply → Entry → Type 0 = λ told e. ComesWell states counts copy
    (λ luck. changing_at_once folds (flat copy.chain) luck request c.args.cas c.args.reply e copy) vb new (outcomes.Reply told) in
    elim c.match-branch-4.branch [
      | in-Refused w ↦
          let no_change = subst (λ (m : Made). Makes states counts copy c.args.cas entry vb new m) w.in-Refused.is makes in
          rw w.result-is
          (subst (P w.refusal-in-Refused.result) is
          (told_so states counts vb new copy (λ luck. changing_at_once folds (flat copy.chain) luck request c.args.cas c.args.reply entry
          copy) w.refusal-in-Refused.result (refused request.opcode request.opaque w.in-Refused.status)
          w.refusal-in-Refused.ensures.reply (no_change request (made folds request c.args.reply entry))))
      | in-Done w ↦
          let added = subst (λ (m : Made). Makes states counts copy c.args.cas entry vb new m) w.in-Done.is makes in
          rw w.result-is
          (subst (P w.telling.result) is
          (made_comes states counts vb new request c.args.cas entry c.args.reply w.telling.result copy added
          (w.telling.ensures.told ∙ ap (λ (v : ShownVb g.row.D.Denot). with_token request.body v.core.accepted v.core.length
          c.args.reply) c.self-2.view_is)))
    ]
