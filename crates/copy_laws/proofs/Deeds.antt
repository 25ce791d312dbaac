-- What a deed adds to a copy's log, and what stays so whatever deeds come.
use Rattle.std.specs.Prelude.{◌≡◌, ◌<◌, ◌*◌, ◌^◌, ℕ, true, List, [], ◌∷◌, Some, Ok}
use Rattle.std.specs.FinMap as map
use Rattle.std.proofs.Common.{sym, ap, subst}
use Rattle.doc_model.specs.declared.key.DocKey.{DocKey}
use Rattle.doc_model.specs.declared.document.What.{What}
use Rattle.kv_request.specs.declared.request.Request.{Request}
use Rattle.kv_request.specs.Tables.{document_key}
use Rattle.manifest_rules.specs.Rules.{Step}
use Rattle.manifest_rules.specs.Applying.{text_step}
use Rattle.doc_step.specs.declared.Change.{Change}
use Rattle.vb_log.specs.declared.entry.Entry.TheVariants as entries
use Rattle.vb_log.specs.Content.{Content, cas_of, doc_in, has_collection, with_entry}
use Rattle.copy_model.specs.declared.outcome.Outcome.{Outcome}
use Rattle.copy_model.specs.Copies.{Copy, LayoutKind}
use Rattle.copy_model.specs.Requests.{moment_of, seeing, drawn, setting_at, what_of, plain_entry, step_on}
use Rattle.doc_step.proofs.Drawn.{carries}
use Rattle.copy_laws.specs.Histories.{Deed, Asked, Flushed, Takes, TakesAll}
use Rattle.copy_laws.proofs.Historic.{NoneWaits, asked, flush_taken, request_leaves}
use Rattle.copy_laws.proofs.Numbers.{Rises, deed_rises, IsDrawn, effect_drawn, above}

-- A log that one deed leaves: the same; or with a change of a document in a collection that is there, with a CAS above all
-- before; or with another manifest.
pub data Grows (before after : Content) : Type 0 where
  Same : after ≡ before → Grows before after
  Changed : (key : DocKey) (what : What) → has_collection before.manifest key.collection ≡ true → before.greatest_cas < cas_of what
      → after ≡ with_entry before (plain_entry key what) → Grows before after
  Replaced : (text : List ℕ) (step : Step) → text_step before.manifest text ≡ Ok step → step.changed ≡ true
      → after ≡ with_entry before (entries.Manifest text) → Grows before after

-- a change that a step makes has a CAS above all before
pub change_above : (l : Content) (seen now : ℕ) (request : Request) (change : Change) (what : What)
    → step_on l seen now request ≡ Ok change → what_of change.effect (drawn l seen) ≡ Some what → l.greatest_cas < cas_of what
change_above l seen now request change what e f =
    let key = document_key request.body in
    let h : IsDrawn (drawn l seen) change what =
    effect_drawn (drawn l seen) change what change.effect
    (carries (setting_at l seen now key.collection) request (doc_in (map.get l.items key)) change e) f in
    above l.greatest_cas (seen * 2 ^ 20) (cas_of what) h.has

-- what one deed leaves
pub deed_grows : {Y : Type 0} (y : LayoutKind Y) (a b : Copy Content Y) (deed : Deed) → NoneWaits a → Takes y a deed b → Grows a.log b.log
deed_grows {Y = Y} y a b (Asked request now reply) none t =
    asked y a b request now reply (λ (r : Copy Content Y × Outcome). Grows a.log r.0.log) t
    (λ luck. request_leaves y luck request now a none t.0 (λ (d : Copy Content Y). Grows a.log d.log)
    (λ d s. Same s.log)
    (λ change what d known e f s. Changed (document_key request.body) what known
    (change_above a.log (seeing now a).seen (moment_of now) request change what e f)
    (ap (λ l. with_entry l (plain_entry (document_key request.body) what)) s.log))
    (λ text step d body e f s. Replaced text step e f (ap (λ l. with_entry l (entries.Manifest text)) s.log)))
deed_grows y a b (Flushed told) none t = Same (flush_taken y a b told none t).log

-- a fact of a log that stays, whatever one deed adds
abbrev pub Stays : (Content → Type 0) → Type 0
Stays P = (before after : Content) → Grows before after → P before → P after

-- stays whatever deeds come
pub all_stay : {Y : Type 0} (y : LayoutKind Y) (P : Content → Type 0) (stays : Stays P) (a b : Copy Content Y) (deeds : List Deed)
    → NoneWaits a → TakesAll y a deeds b → P a.log → P b.log
all_stay {Y = Y} y P stays a b [] none t h = subst (λ (c : Copy Content Y). P c.log) (sym t) h
all_stay y P stays a b (deed ∷ deeds) none t h =
    let rises : Rises a.log t.0.log = deed_rises y a t.0 deed none t.1 in
    all_stay y P stays t.0 b deeds rises.none t.2 (stays a.log t.0.log (deed_grows y a t.0 deed none t.1) h)
