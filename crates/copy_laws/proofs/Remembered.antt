-- What a Get tells of the last change of its key, whatever else came between.
use Rattle.std.specs.Prelude.{◌≡◌, ◌≢◌, ◌+◌, ℕ, nat_eq, nat_lt, is_some, Bool, true, false, cond, not, ◌&&◌, List, [], ◌∷◌, length, Option, Some, None, Result, Ok, Err, refl, if◌then◌else◌}
use Rattle.std.specs.Option.{option_map_or}
use Rattle.std.specs.List.{AllByRecursion}
use Rattle.std.specs.Cmp.Lexicographic.{pointwise}
use Rattle.std.specs.FinMap as map
use Rattle.std.proofs.Common.{sym, ◌∙◌, ap, subst}
use Rattle.doc_model.specs.declared.key.DocKey.{DocKey}
use Rattle.doc_model.specs.declared.document.Doc.{Doc}
use Rattle.doc_model.specs.declared.document.What.{What}
use Rattle.doc_model.specs.declared.document.What.TheVariants as whats
use Rattle.doc_model.specs.declared.status.Status.{Status}
use Rattle.doc_model.specs.declared.status.TheConstants.Status as status
use Rattle.doc_model.proofs.Drops.{get_kept}
use Rattle.kv_request.specs.declared.reading.TheConstants.{VALUE_LIMIT}
use Rattle.kv_request.specs.declared.request.Request.{Request}
use Rattle.kv_request.specs.declared.request.Spec.{Spec}
use Rattle.kv_request.specs.declared.request.Body.{Body}
use Rattle.kv_request.specs.declared.request.Body.TheVariants as bodies
use Rattle.kv_request.specs.declared.request.Mode.TheVariants as modes
use Rattle.kv_request.specs.declared.reply.Reply.{Reply}
use Rattle.kv_request.specs.Tables.{key_named, document_key, first_failing}
use Rattle.manifest_rules.specs.Catalog.{Catalog, collection_ids}
use Rattle.manifest_rules.specs.Form.{manifest_in}
use Rattle.manifest_rules.specs.Rules.{Step, manifest_step, same_scope, obeys, lost, succeeding}
use Rattle.manifest_rules.specs.Applying.{text_step}
use Rattle.doc_step.specs.declared.Effect.TheVariants as effects
use Rattle.doc_step.specs.declared.Change.{Change}
use Rattle.doc_step.specs.Expiry.{Setting, there, is_expired}
use Rattle.doc_step.specs.Laws.{effect_of}
use Rattle.doc_step.specs.Parts.{found_in, look_answered, look_step, look_results, multi_look_step}
use Rattle.doc_step.specs.Step.{cas_refusal, stored_doc, get_step, store_step, delete_step, operation, document_step, tells_token}
use Rattle.vb_log.specs.declared.entry.Entry.TheVariants as entries
use Rattle.vb_log.specs.Content.{Content, cas_of, doc_in, has_collection, item_made, numbered, prepare_of, without, with_entry, with_step, one_longer}
use Rattle.vb_log.specs.Content as contents
use Rattle.vb_log.specs.Logs.{folds}
use Rattle.vb_log.proofs.Collections.{is_listed, Moves, step_moves}
use Rattle.copy_model.specs.declared.outcome.Outcome.{Outcome}
use Rattle.copy_model.specs.declared.outcome.Outcome.TheVariants as outcomes
use Rattle.copy_model.specs.Copies.{Copy, LayoutKind, Luck}
use Rattle.copy_model.specs.Requests.{moment_of, seeing, drawn, setting_at, is_write, what_of, plain_entry, made, concluded, step_on, request_checks, served, requested}
use Rattle.copy_model.proofs.Moves.{by_test}
use Rattle.copy_laws.specs.Leaving.{KeepsCollection, LeavesBody, Carries}
use Rattle.copy_laws.specs.Histories.{Deed, Asked, Flushed, Takes, TakesAll, IsServed, IsGetOf, IsSetOf, IsDeleteOf, LeavesKey, LastsUntil}
use Rattle.copy_laws.proofs.Served.{served_as, ServedSo}
use Rattle.copy_laws.proofs.Keys.{get_same}
use Rattle.copy_laws.proofs.Historic.{NoneWaits, Fails, by_code, second, asked, flush_taken, request_leaves, served_ends, named_ends, entry_spares}
use Rattle.copy_laws.proofs.Numbers.{Rises, deed_rises, token_cas}

-- ---- what leaves a key

-- a key has what it had, and its collection is there still
pub record Spares (key : DocKey) (before after : Content) : Type 0 where
  pub item : map.get after.items key ≡ map.get before.items key
  pub known : has_collection before.manifest key.collection ≡ true → has_collection after.manifest key.collection ≡ true

same_spares : (key : DocKey) (l : Content) → Spares key l l
same_spares key l = record { item = refl; known = λ h. h }

on_spares : (key : DocKey) (a b c : Content) → Spares key a b → Spares key b c → Spares key a c
on_spares key a b c h k = record { item = k.item ∙ h.item; known = λ e. k.known (h.known e) }

from_same : (key : DocKey) (a d after : Content) → d ≡ a → Spares key d after → Spares key a after
from_same key a d after e h = subst (λ l. Spares key l after) e h

manifest_is : (l : Content) (key : DocKey) (what : What) → (with_entry l (plain_entry key what)).manifest ≡ l.manifest
manifest_is l key (whats.Put doc) = refl
manifest_is l key (whats.Remove cas) = refl

plain_spares : (l : Content) (key other : DocKey) (what : What) → other ≢ key → Spares other l (with_entry l (plain_entry key what))
plain_spares l key other what differs = record {
  item = entry_spares l key other what differs;
  known = λ e. ap (λ (m : Catalog). has_collection m other.collection) (manifest_is l key what) ∙ e;
}

-- ---- requests that only read

get_still : (request : Request) (key : DocKey) (doc : Option Doc) → effect_of (get_step request key doc) ≡ effects.Nothing
get_still request key None = refl
get_still request key (Some doc) = refl

looked_still : (request : Request) (doc : Doc) (found : Result (List ℕ) Status)
    → effect_of (look_answered request doc found) ≡ effects.Nothing
looked_still request doc (Ok piece) = refl
looked_still request doc (Err why) = refl

look_still : (request : Request) (spec : Spec) (doc : Option Doc) → effect_of (look_step request spec doc) ≡ effects.Nothing
look_still request spec None = refl
look_still request spec (Some doc) = looked_still request doc (found_in doc spec)

looks_still : (request : Request) (specs : List Spec) (doc : Option Doc) → effect_of (multi_look_step request specs doc) ≡ effects.Nothing
looks_still request specs None = refl
looks_still request specs (Some doc) =
    by_test (λ (r : Result Change Status). effect_of r ≡ effects.Nothing)
    (nat_lt VALUE_LIMIT (length (look_results doc specs))) _ _ (λ _. refl) (λ _. refl)

body_still : (s : Setting) (request : Request) (body : Body) (doc : Option Doc) → is_write body ≡ false
    → effect_of (operation s request body doc) ≡ effects.Nothing
body_still s request (bodies.Hello wanted) doc e = refl
body_still s request bodies.Noop doc e = refl
body_still s request bodies.Version doc e = refl
body_still s request bodies.Quit doc e = refl
body_still s request (bodies.SetManifest text) doc e = refl
body_still s request bodies.GetManifest doc e = refl
body_still s request (bodies.CollectionId path) doc e = refl
body_still s request (bodies.ScopeId path) doc e = refl
body_still s request (bodies.Get key) doc e = get_still request key doc
body_still s request (bodies.Look key spec) doc e = look_still request spec doc
body_still s request (bodies.MultiLook key specs) doc e = looks_still request specs doc
body_still s request body doc e = absurd (cc)

unless_still : (o : Option Status) (r : Result Change Status) → effect_of r ≡ effects.Nothing
    → effect_of (option_map_or {U = Result Change Status} (λ why. Err why) o r) ≡ effects.Nothing
unless_still None r h = h
unless_still (Some why) r h = refl

-- a request that may change a document and leaves this one is one on another
apart : (key : DocKey) (body : Body) → LeavesBody key body → is_write body ≡ true → document_key body ≢ key
apart key (bodies.Store other mode flags expiry value) h e = h
apart key (bodies.Delete other) h e = h
apart key (bodies.Count other up delta initial expiry) h e = h
apart key (bodies.Join other front value) h e = h
apart key (bodies.Touch other expiry fetch) h e = h
apart key (bodies.Edit other spec expiry flags) h e = h
apart key (bodies.MultiEdit other specs expiry flags) h e = h
apart key body h e = absurd (cc)

-- a request that makes a change and leaves this key's document is one on another
change_apart : (s : Setting) (request : Request) (doc : Option Doc) (key : DocKey) (cas : ℕ) (change : Change) (what : What)
    → LeavesBody key request.body → document_step s request doc ≡ Ok change → what_of change.effect cas ≡ Some what
    → key ≢ document_key request.body
change_apart s request doc key cas change what h e f = go (is_write request.body) refl
  where
    go : (b : Bool) → is_write request.body ≡ b → key ≢ document_key request.body
    go true g = λ same. apart key request.body h g (sym same)
    go false g =
        let found = there s.now doc in
        let none : change.effect ≡ effects.Nothing =
        sym (ap effect_of e)
        ∙ unless_still (cas_refusal request.cas found) (operation s request request.body found)
        (body_still s request request.body found g) in
        absurd (let k : None ≡ Some what = sym (ap (λ x. what_of x cas) none) ∙ f in cc)

-- ---- manifests

abbrev taking : Catalog → Catalog → Step
taking old new =
    record { after = succeeding old new; dropped = lost (collection_ids old.scopes) (collection_ids new.scopes); changed = true }

abbrev keeping : Catalog → Step
keeping old = record { after = old; dropped = []; changed = false }

taken_one : (ahead level same fine : Bool) (kept taken step : Step) → kept.changed ≡ false
    → (if ahead then Err status.MANIFEST_IS_AHEAD
    else (if level then (if same then Ok kept else Err status.CANNOT_APPLY_MANIFEST)
    else (if fine then Ok taken else Err status.CANNOT_APPLY_MANIFEST))) ≡ Ok step
    → step.changed ≡ true → taken ≡ step
taken_one true level same fine kept taken step h e f = absurd (cc)
taken_one false true true fine kept taken step h e f =
    absurd (let g : kept ≡ step = cc in let k : false ≡ true = sym h ∙ ap (λ (s : Step). s.changed) g ∙ f in cc)
taken_one false true false fine kept taken step h e f = absurd (cc)
taken_one false false same true kept taken step h e f = cc
taken_one false false same false kept taken step h e f = absurd (cc)

-- a manifest that was read takes the place of another
record IsTaken (old : Catalog) (text : List ℕ) (step : Step) : Type 0 where
  new : Catalog
  read : manifest_in text ≡ Some new
  steps : manifest_step old new ≡ Ok step
  is : taking old new ≡ step

of_read : (old : Catalog) (text : List ℕ) (step : Step) (o : Option Catalog) → manifest_in text ≡ o
    → option_map_or {U = Result Step Status} (λ new. manifest_step old new) o (Err status.EINVAL) ≡ Ok step → step.changed ≡ true
    → IsTaken old text step
of_read old text step None read e f = absurd (cc)
of_read old text step (Some new) read e f = record {
  new = new;
  read = read;
  steps = e;
  is =
      taken_one (nat_lt new.uid old.uid) (nat_eq new.uid old.uid) (pointwise same_scope old.scopes new.scopes) (obeys old new)
      (keeping old) (taking old new) step refl e f;
}

-- one that has the key's collection leaves it, and what the key has
manifest_spares : (l : Content) (text : List ℕ) (step : Step) (key : DocKey) → KeepsCollection key text
    → text_step l.manifest text ≡ Ok step → step.changed ≡ true → Spares key l (with_entry l (entries.Manifest text))
manifest_spares l text step key keeps e f =
    let h : IsTaken l.manifest text step = of_read l.manifest text step (manifest_in text) refl e f in
    let has : has_collection step.after key.collection ≡ true =
    sym (ap (λ (s : Step). has_collection s.after key.collection) h.is) ∙ keeps h.new h.read in
    let moves : Moves l.manifest step key.collection = step_moves l.manifest h.new step key.collection h.steps in
    let kept : is_listed key.collection step.dropped ≡ false =
    moves.dropped ∙ ap (λ b. not b && has_collection l.manifest key.collection) has in
    record {
      item = ap (λ (r : Result Step Status). map.get (one_longer (with_step l r)).items key) e
          ∙ get_kept l.items (λ k. not (is_listed k.collection step.dropped)) key
          ∙ ap (λ b. cond (not b) (map.get l.items key) None) kept;
      known = λ _. ap (λ (r : Result Step Status). has_collection (one_longer (with_step l r)).manifest key.collection) e ∙ has;
    }

-- ---- deeds

deed_spares : {Y : Type 0} (y : LayoutKind Y) (a b : Copy Content Y) (deed : Deed) (key : DocKey) → NoneWaits a → Takes y a deed b
    → LeavesKey key deed → Spares key a.log b.log
deed_spares {Y = Y} y a b (Asked request now reply) key none t leaves =
    asked y a b request now reply (λ (r : Copy Content Y × Outcome). Spares key a.log r.0.log) t
    (λ luck. request_leaves y luck request now a none t.0 (λ (d : Copy Content Y). Spares key a.log d.log)
    (λ d s. from_same key a.log d.log d.log s.log (same_spares key d.log))
    (λ change what d _ e f s. from_same key a.log d.log _ s.log (plain_spares d.log (document_key request.body) key what
    (change_apart (setting_at a.log (seeing now a).seen (moment_of now) (document_key request.body).collection) request
    (doc_in (map.get a.log.items (document_key request.body))) key (drawn a.log (seeing now a).seen) change what leaves e f)))
    (λ text step d body e f s. from_same key a.log d.log _ s.log
    (manifest_spares d.log text step key (subst (LeavesBody key) body leaves)
    (ap (λ (l : Content). text_step l.manifest text) s.log ∙ e) f)))
deed_spares y a b (Flushed told) key none t leaves =
    from_same key a.log b.log b.log (flush_taken y a b told none t).log (same_spares key b.log)

-- what a run of deeds leaves
pub record Leaves (key : DocKey) (before after : Content) : Type 0 where
  pub spares : Spares key before after
  pub none : after.prepares ≡ []

pub run_leaves : {Y : Type 0} (y : LayoutKind Y) (a b : Copy Content Y) (deeds : List Deed) (key : DocKey) → NoneWaits a
    → TakesAll y a deeds b → AllByRecursion (LeavesKey key) deeds → Leaves key a.log b.log
run_leaves {Y = Y} y a b [] key none t h =
    subst (λ (c : Copy Content Y). Leaves key a.log c.log) (sym t) (record { spares = same_spares key a.log; none = none })
run_leaves y a b (deed ∷ deeds) key none t h =
    let first : Spares key a.log t.0.log = deed_spares y a t.0 deed key none t.1 h.0 in
    let rises : Rises a.log t.0.log = deed_rises y a t.0 deed none t.1 in
    let rest : Leaves key t.0.log b.log = run_leaves y t.0 b deeds key rises.none t.2 h.1 in
    record { spares = on_spares key a.log t.0.log b.log first rest.spares; none = rest.none }

-- ---- a change that is answered with success

-- a step makes this, or fails
abbrev IsMaking : ℕ → What → Result Change Status → Type 0
IsMaking draw what (Ok change) = (what_of change.effect draw ≡ Some what) × (change.reply.cas ≡ cas_of what)
IsMaking draw what (Err why) = Fails why

-- a status that is none of success, if it is one
abbrev FailsAny : Option Status → Type 0
FailsAny None = Unit {0}
FailsAny (Some why) = Fails why

cas_fails : (cas : ℕ) (doc : Option Doc) → FailsAny (cas_refusal cas doc)
cas_fails cas None = by_test FailsAny (nat_eq cas 0) _ _ (λ _. tt) (λ _. by_code status.KEY_ENOENT (λ e. absurd (cc)))
cas_fails cas (Some doc) =
    by_test FailsAny (nat_eq cas 0) _ _ (λ _. tt)
    (λ _. by_test FailsAny (nat_eq doc.cas cas) _ _ (λ _. tt) (λ _. by_code status.KEY_EEXISTS (λ e. absurd (cc))))

unless_making : (draw : ℕ) (what : What) (o : Option Status) (r : Result Change Status) → FailsAny o → IsMaking draw what r
    → IsMaking draw what (option_map_or {U = Result Change Status} (λ why. Err why) o r)
unless_making draw what None r f h = h
unless_making draw what (Some why) r f h = f

-- the step of a request with this body
abbrev pub step_by : Content → ℕ → ℕ → Request → Body → Result Change Status
step_by l seen now request body =
    let key = document_key body in
    let doc = there now (doc_in (map.get l.items key)) in
    option_map_or {U = Result Change Status} (λ why. Err why) (cas_refusal request.cas doc)
    (operation (setting_at l seen now key.collection) request body doc)

-- a key has this, its collection is there, and the reply told its CAS
pub record Holds {Y : Type 0} (key : DocKey) (what : What) (reply : Reply) (b : Copy Content Y) : Type 0 where
  pub at : ℕ
  pub doc : doc_in (map.get b.log.items key) ≡ contents.stored_doc (numbered at what)
  pub known : has_collection b.log.manifest key.collection ≡ true
  pub cas : reply.cas ≡ cas_of what

plain_doc : (l : Content) (key : DocKey) (what : What)
    → doc_in (map.get (with_entry l (plain_entry key what)).items key) ≡ contents.stored_doc (numbered (l.length + 1) what)
plain_doc l key (whats.Put doc) = ap doc_in (get_same l.items key (item_made (l.length + 1) key (whats.Put doc)))
plain_doc l key (whats.Remove cas) = ap doc_in (get_same l.items key (item_made (l.length + 1) key (whats.Remove cas)))

module _ {Y : Type 0} (y : LayoutKind Y) (a b : Copy Content Y) (request : Request) (now : ℕ) (reply : Reply) (none : NoneWaits a)
    (t : Takes y a (Asked request now reply) b) (key : DocKey) (named : key_named request.body ≡ Some key)
    (what : What) (making : IsMaking (drawn a.log (seeing now a).seen) what (step_on a.log (seeing now a).seen (moment_of now) request))
  where
    abbrev reply_of : Outcome → Reply
    reply_of (outcomes.Reply told) = told
    reply_of (outcomes.Parked ticket) = reply

    abbrev Done : Copy Content Y × Outcome → Type 0
    Done r = (reply_of r.1).status ≡ status.SUCCESS → Holds key what (reply_of r.1) r.0

    -- a change that makes what it is to make
    abbrev MakesIt : Change → Type 0
    MakesIt change = IsMaking (drawn a.log (seeing now a).seen) what (Ok change)

    makes_it : (change : Change) → step_on a.log (seeing now a).seen (moment_of now) request ≡ Ok change → MakesIt change
    makes_it change e = subst (IsMaking (drawn a.log (seeing now a).seen) what) e making

    key_is : document_key request.body ≡ key
    key_is = ap (λ o. option_map_or (λ k. k) o (record { collection = 0; key = [] })) named

    change_holds : (luck : Luck Y) (change : Change) (changed : What) (d : Copy Content Y)
        → first_failing (request_checks folds luck request (document_key request.body) (seeing now a)) ≡ None
        → step_on a.log (seeing now a).seen (moment_of now) request ≡ Ok change
        → what_of change.effect (drawn a.log (seeing now a).seen) ≡ Some changed → d.log ≡ a.log
        → Done (made folds request change.reply (plain_entry (document_key request.body) changed) d)
    change_holds luck change changed d checked e f same success =
        let h : MakesIt change = makes_it change e in
        let is : changed ≡ what = ap (λ o. option_map_or (λ w. w) o changed) (sym f ∙ h.0) in
        record {
          at = d.log.length + 1;
          doc = ap (λ k. doc_in (map.get (with_entry d.log (plain_entry k changed)).items key)) key_is ∙ plain_doc d.log key changed
              ∙ ap (λ w. contents.stored_doc (numbered (d.log.length + 1) w)) is;
          known = ap (λ (m : Catalog). has_collection m key.collection) (manifest_is d.log (document_key request.body) changed)
              ∙ ap (λ (l : Content). has_collection l.manifest key.collection) same
              ∙ ap (λ (k : DocKey). has_collection a.log.manifest k.collection) (sym key_is)
              ∙ second _ (has_collection a.log.manifest (document_key request.body).collection) _ _ _ checked;
          cas = token_cas (tells_token request.body) (d.accepted, d.log.length + 1) change.reply ∙ h.1;
        }

    done_ends : (luck : Luck Y) → Done (requested folds y luck request now a)
    done_ends luck =
        named_ends y luck request now a Done (ap is_some named) (λ e. absurd (by_code status.ENOMEM (λ k. absurd (cc)) e))
        (served_ends y luck request (seeing now a) none Done (λ d why s f e. absurd (f e)) (moment_of now) t.0
        (λ why e f. absurd (subst (IsMaking (drawn a.log (seeing now a).seen) what) e making f))
        (λ change e f _. absurd (let h : MakesIt change = makes_it change e in
        let k : None ≡ Some what = sym f ∙ h.0 in cc))
        (λ change changed d checked e f s. change_holds luck change changed d checked e f s.log))

    pub change_done : reply.status ≡ status.SUCCESS → Holds key what reply b
    change_done = asked y a b request now reply Done t done_ends

-- ---- a Get

pub any_cas : (cas : ℕ) (doc : Option Doc) → cas ≡ 0 → cas_refusal cas doc ≡ None
any_cas cas None e = rw e
any_cas cas (Some doc) e = rw e

-- the step of a Get that takes any document
pub get_is : (l : Content) (seen now : ℕ) (request : Request) (key : DocKey) → IsGetOf key request
    → step_on l seen now request ≡ get_step request key (there now (doc_in (map.get l.items key)))
get_is l seen now request key get =
    let doc = there now (doc_in (map.get l.items key)) in
    ap (step_by l seen now request) get.body
    ∙ ap (λ o. option_map_or {U = Result Change Status} (λ why. Err why) o (get_step request key doc)) (any_cas request.cas doc get.any)

-- a Get that is served answers what it finds
pub get_served : {Y : Type 0} (y : LayoutKind Y) (a b : Copy Content Y) (request : Request) (now : ℕ) (reply : Reply) → NoneWaits a
    → Takes y a (Asked request now reply) b → (key : DocKey) → IsGetOf key request → has_collection a.log.manifest key.collection ≡ true
    → (Answers : Reply → Type 0) (doc : Option Doc) → there (moment_of now) (doc_in (map.get a.log.items key)) ≡ doc
    → ((luck : Luck Y) → ServedSo reply Answers
    (concluded folds y luck (moment_of now) request (drawn a.log (seeing now a).seen) (get_step request key doc) (seeing now a)).1)
    → IsServed reply → Answers reply
get_served y a b request now reply none t key get known Answers doc e h =
    served_as y a b request now reply none t (ap (λ body. is_some (key_named body)) get.body ∙ refl)
    (ap (λ body. has_collection a.log.manifest (document_key body).collection) get.body ∙ known) Answers (get_step request key doc)
    (get_is a.log (seeing now a).seen (moment_of now) request key get ∙ ap (get_step request key) e) h

-- ---- what was deleted is missed

deletion : (l : Content) (seen now : ℕ) (request : Request) (key : DocKey) → IsDeleteOf key request
    → IsMaking (drawn l seen) (whats.Remove (drawn l seen)) (step_on l seen now request)
deletion l seen now request key d =
    let doc = there now (doc_in (map.get l.items key)) in
    subst (λ body. IsMaking (drawn l seen) (whats.Remove (drawn l seen)) (step_by l seen now request body)) (sym d.body)
    (unless_making (drawn l seen) _ (cas_refusal request.cas doc)
    (delete_step (setting_at l seen now key.collection) request doc) (cas_fails request.cas doc) (one doc))
  where
    one : (doc : Option Doc)
        → IsMaking (drawn l seen) (whats.Remove (drawn l seen)) (delete_step (setting_at l seen now key.collection) request doc)
    one None = by_code status.KEY_ENOENT (λ e. absurd (cc))
    one (Some doc) = (refl, refl)

pub deleted_misses : {Y : Type 0} (y : LayoutKind Y) (a b c d : Copy Content Y) (delete get : Request) (earlier now : ℕ) (key : DocKey)
    (done told : Reply) (between : List Deed)
    → NoneWaits a → IsDeleteOf key delete → Takes y a (Asked delete earlier done) b → done.status ≡ status.SUCCESS
    → TakesAll y b between c → AllByRecursion (LeavesKey key) between → IsGetOf key get → Takes y c (Asked get now told) d
    → IsServed told → told.status ≡ status.KEY_ENOENT
deleted_misses y a b c d delete get earlier now key done told between none deletes first success run leaves gets last served =
    let what = whats.Remove (drawn a.log (seeing earlier a).seen) in
    let h : Holds key what done b =
    change_done y a b delete earlier done none first key (ap key_named deletes.body) what
    (deletion a.log (seeing earlier a).seen (moment_of earlier) delete key deletes) success in
    let rises : Rises a.log b.log = deed_rises y a b (Asked delete earlier done) none first in
    let kept : Leaves key b.log c.log = run_leaves y b c between key rises.none run leaves in
    let gone : doc_in (map.get c.log.items key) ≡ None = ap doc_in kept.spares.item ∙ h.doc in
    get_served y c d get now told kept.none last key gets (kept.spares.known h.known)
    (λ (reply : Reply). reply.status ≡ status.KEY_ENOENT) None (ap (there (moment_of now)) gone) (λ luck _. refl) served

-- ---- what was set is told

pub storing : (l : Content) (seen now : ℕ) (request : Request) (key : DocKey) (flags expiry : ℕ) (value : List ℕ)
    → IsSetOf key flags expiry value request
    → IsMaking (drawn l seen) (whats.Put (stored_doc (setting_at l seen now key.collection) flags expiry value
    (there now (doc_in (map.get l.items key))))) (step_on l seen now request)
storing l seen now request key flags expiry value d =
    let doc = there now (doc_in (map.get l.items key)) in
    let stored = stored_doc (setting_at l seen now key.collection) flags expiry value doc in
    subst (λ body. IsMaking (drawn l seen) (whats.Put stored) (step_by l seen now request body)) (sym d.body)
    (unless_making (drawn l seen) (whats.Put stored) (cas_refusal request.cas doc)
    (store_step (setting_at l seen now key.collection) request modes.Set doc stored) (cas_fails request.cas doc) (refl, refl))

still_there : (doc : Doc) (now : ℕ) → is_expired doc.expiry now ≡ false → there now (Some doc) ≡ Some doc
still_there doc now e = ap (λ b. if b then None else Some doc) e

pub set_told : {Y : Type 0} (y : LayoutKind Y) (a b c d : Copy Content Y) (set get : Request) (moment now flags expiry : ℕ)
    (key : DocKey) (value : List ℕ) (done told : Reply) (between : List Deed)
    → NoneWaits a → IsSetOf key flags expiry value set → Takes y a (Asked set moment done) b → done.status ≡ status.SUCCESS
    → TakesAll y b between c → AllByRecursion (LeavesKey key) between → IsGetOf key get → Takes y c (Asked get now told) d
    → IsServed told → LastsUntil a key moment expiry now → Carries told flags value × (told.cas ≡ done.cas)
set_told y a b c d set get moment now flags expiry key value done told between none sets first success run leaves gets last served lasts =
    let stored = stored_doc (setting_at a.log (seeing moment a).seen (moment_of moment) key.collection) flags expiry value
    (there (moment_of moment) (doc_in (map.get a.log.items key))) in
    let h : Holds key (whats.Put stored) done b =
    change_done y a b set moment done none first key (ap key_named sets.body) (whats.Put stored)
    (storing a.log (seeing moment a).seen (moment_of moment) set key flags expiry value sets) success in
    let rises : Rises a.log b.log = deed_rises y a b (Asked set moment done) none first in
    let kept : Leaves key b.log c.log = run_leaves y b c between key rises.none run leaves in
    let found : Doc = record stored { seqno = h.at } in
    let has : doc_in (map.get c.log.items key) ≡ Some found = ap doc_in kept.spares.item ∙ h.doc in
    get_served y c d get now told kept.none last key gets (kept.spares.known h.known)
    (λ (reply : Reply). Carries reply flags value × (reply.cas ≡ done.cas)) (Some found)
    (ap (there (moment_of now)) has ∙ still_there found (moment_of now) lasts)
    (λ luck _. (record { success = refl; flags_told = refl; value_told = refl }, sym h.cas)) served

-- the same of another copy that began with the log
pub set_told_later : {Y Z : Type 0} (y : LayoutKind Y) (z : LayoutKind Z) (a b c : Copy Content Y) (d e f : Copy Content Z) (set get : Request)
    (moment now flags expiry : ℕ) (key : DocKey) (value : List ℕ) (done told : Reply) (between later : List Deed)
    → NoneWaits a → IsSetOf key flags expiry value set → Takes y a (Asked set moment done) b → done.status ≡ status.SUCCESS
    → TakesAll y b between c → AllByRecursion (LeavesKey key) between → d.log ≡ c.log → TakesAll z d later e
    → AllByRecursion (LeavesKey key) later → IsGetOf key get → Takes z e (Asked get now told) f
    → IsServed told → LastsUntil a key moment expiry now → Carries told flags value × (told.cas ≡ done.cas)
set_told_later y z a b c d e f set get moment now flags expiry key value done told between later none sets first success run leaves same more leave gets last served lasts =
    let stored = stored_doc (setting_at a.log (seeing moment a).seen (moment_of moment) key.collection) flags expiry value
    (there (moment_of moment) (doc_in (map.get a.log.items key))) in
    let h : Holds key (whats.Put stored) done b =
    change_done y a b set moment done none first key (ap key_named sets.body) (whats.Put stored)
    (storing a.log (seeing moment a).seen (moment_of moment) set key flags expiry value sets) success in
    let rises : Rises a.log b.log = deed_rises y a b (Asked set moment done) none first in
    let kept : Leaves key b.log c.log = run_leaves y b c between key rises.none run leaves in
    let after : Leaves key d.log e.log = run_leaves z d e later key (ap (λ (l : Content). l.prepares) same ∙ kept.none) more leave in
    let found : Doc = record stored { seqno = h.at } in
    let has : doc_in (map.get e.log.items key) ≡ Some found =
    ap doc_in (after.spares.item ∙ ap (λ (l : Content). map.get l.items key) same ∙ kept.spares.item) ∙ h.doc in
    let known : has_collection d.log.manifest key.collection ≡ true =
    ap (λ (l : Content). has_collection l.manifest key.collection) same ∙ kept.spares.known h.known in
    get_served z e f get now told after.none last key gets (after.spares.known known)
    (λ (reply : Reply). Carries reply flags value × (reply.cas ≡ done.cas)) (Some found)
    (ap (there (moment_of now)) has ∙ still_there found (moment_of now) lasts)
    (λ luck _. (record { success = refl; flags_told = refl; value_told = refl }, sym h.cas)) served
