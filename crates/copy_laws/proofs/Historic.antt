-- What a flush or a request without a level may do to a copy, where nothing waits in its log.
use Rattle.std.specs.Prelude.{◌≡◌, ◌≢◌, ℕ, nat_lt, IsSome, Bool, true, false, cond, List, [], ◌∷◌, Option, Some, None, Result, Ok, Err, refl}
use Rattle.std.specs.Option.{option_map_or}
use Rattle.std.specs.List.{AllByRecursion}
use Rattle.std.specs.FinMap as map
use Rattle.std.proofs.Common.{sym, ◌∙◌, ap, subst}
use Rattle.doc_model.specs.declared.key.DocKey.{DocKey}
use Rattle.doc_model.specs.declared.document.What.{What}
use Rattle.doc_model.specs.declared.document.What.TheVariants as whats
use Rattle.doc_model.specs.declared.status.Status.{Status}
use Rattle.doc_model.specs.declared.status.TheConstants.Status as status
use Rattle.kv_request.specs.declared.request.Request.{Request}
use Rattle.kv_request.specs.declared.request.Durability.{Durability}
use Rattle.kv_request.specs.declared.request.Body.{Body}
use Rattle.kv_request.specs.declared.request.Body.TheVariants as bodies
use Rattle.kv_request.specs.declared.reply.Reply.{Reply}
use Rattle.kv_request.specs.Tables.{key_named, document_key, first_failing}
use Rattle.manifest_rules.specs.Rules.{Step}
use Rattle.manifest_rules.specs.Applying.{text_step}
use Rattle.doc_step.specs.declared.Change.{Change}
use Rattle.vb_log.specs.declared.entry.Entry.{Entry}
use Rattle.vb_log.specs.declared.entry.Entry.TheVariants as entries
use Rattle.vb_log.specs.Content.{Content, has_collection, with_entry}
use Rattle.vb_log.specs.Logs.{folds}
use Rattle.replica_core.specs.Terms.{is_active, is_dead}
use Rattle.copy_model.specs.declared.outcome.Outcome.{Outcome}
use Rattle.copy_model.specs.declared.outcome.Outcome.TheVariants as outcomes
use Rattle.copy_model.specs.declared.outcome.VbFault.{VbFault}
use Rattle.copy_model.specs.Copies.{Copy, LayoutKind, Luck, lacks_memory, fails_disk}
use Rattle.copy_model.specs.Entries.{added, committing, settled}
use Rattle.copy_model.specs.Disk.{Put, Done, NoRoom, Failed, pair_at, on_disk, needed, free, tells_flush, after_flush, put_then, flushing, must_flush, flushed_first}
use Rattle.copy_model.specs.Requests.{moment_of, seeing, drawn, refusal, is_too_much, after_put, changing, made, what_of, plain_entry, changing_document, effecting, concluded, step_on, request_checks, served, success, installed, set_by, if_active, body_step, requested}
use Rattle.copy_model.specs.Events.{put_told, flushed_to, flushes, Told, Answered, PolledTo, Spoke, ToldChange, FlushedTo, CleanedTo, FencedWith, Ended, Quietly, step}
use Rattle.copy_model.proofs.Moves.{by_test}
use Rattle.copy_laws.specs.Histories.{Deed, Asked, Flushed, Takes, TakesAll}
use Rattle.copy_laws.proofs.Keys.{get_other}

-- ---- flushes

-- one copy has the log of another, of the same term
pub record IsAs {Y : Type 0} (c d : Copy Content Y) : Type 0 where
  pub log : d.log ≡ c.log
  pub accepted : d.accepted ≡ c.accepted

abbrev pub NoneWaits : {Y : Type 0} → Copy Content Y → Type 0
NoneWaits c = c.log.prepares ≡ []

pub same_as : {Y : Type 0} (c : Copy Content Y) → IsAs c c
same_as c = record { log = refl; accepted = refl }

equal_as : {Y : Type 0} (c d : Copy Content Y) → d ≡ c → IsAs c d
equal_as c d e = record { log = ap (λ x. x.log) e; accepted = ap (λ x. x.accepted) e }

-- where nothing waits, nothing is committed
still : {Y : Type 0} (c : Copy Content Y) → NoneWaits c → settled folds c ≡ c
still c e = ap (λ ps. committing folds ps c) e

after_flush_as : {Y : Type 0} (c : Copy Content Y) → NoneWaits c → IsAs c (after_flush folds c)
after_flush_as c e =
    by_test (IsAs c) (is_active c.role) _ _ (λ _. equal_as c (settled folds c) (still c e))
    (λ _. by_test (IsAs c) (tells_flush c) _ _ (λ _. record { log = refl; accepted = refl }) (λ _. same_as c))

-- what a write comes to has the log that was there
abbrev IsPut : {Y : Type 0} → Copy Content Y → Put (Copy Content Y) → Type 0
IsPut c (Done d) = IsAs c d
IsPut c (NoRoom needed free) = Unit {0}
IsPut c (Failed d) = IsAs c d

module _ {Y : Type 0} (y : LayoutKind Y) (luck : Luck Y) (c : Copy Content Y) (none : NoneWaits c) where
  abbrev written : Copy Content Y
  written = on_disk (pair_at c.accepted luck.layout c) c

  abbrev Follows : Put (Copy Content Y) → Type 0
  Follows p = IsPut c (put_then (after_flush folds) p)

  written_as : IsAs c (after_flush folds written)
  written_as = let h = after_flush_as written none in record { log = h.log; accepted = h.accepted }

  flushing_as : IsPut c (flushing folds y luck c)
  flushing_as =
      by_test Follows (nat_lt (free y c) (needed folds y c)) _ _
      (λ _. by_test Follows (fails_disk luck.chance) _ _ (λ _. record { log = refl; accepted = refl }) (λ _. tt))
      (λ _. by_test Follows (fails_disk luck.chance) _ _ (λ _. record { log = refl; accepted = refl }) (λ _. written_as))

  first_as : IsPut c (flushed_first folds y luck c)
  first_as = by_test (IsPut c) (must_flush c) _ _ (λ _. flushing_as) (λ _. same_as c)

  told_as : (p : Put (Copy Content Y)) → IsPut c p → IsAs c (put_told (flushed_to folds) c p).0
  told_as (Done d) h = h
  told_as (NoRoom needed free) h = same_as c
  told_as (Failed d) h = h

  abbrev Left : Copy Content Y × Result ℕ VbFault → Type 0
  Left r = IsAs c r.0

  -- a flush leaves the log
  pub flushes_as : IsAs c (flushes folds y luck c).0
  flushes_as =
      by_test Left (is_dead c.role) _ _ (λ _. same_as c)
      (λ _. by_test Left (lacks_memory luck.chance) _ _ (λ _. same_as c) (λ _. told_as (flushing folds y luck c) flushing_as))

-- ---- deeds

abbrev outcome_in : Outcome → Told Content → Outcome
outcome_in spare (Answered outcome) = outcome
outcome_in spare (PolledTo polled) = spare
outcome_in spare (Spoke sent) = spare
outcome_in spare (ToldChange seen) = spare
outcome_in spare (FlushedTo result) = spare
outcome_in spare (CleanedTo result) = spare
outcome_in spare (FencedWith result) = spare
outcome_in spare (Ended result) = spare
outcome_in spare Quietly = spare

-- what is told of a request, as it is answered
asked_pair : {Y : Type 0} (r : Copy Content Y × Outcome) (d : Copy Content Y) (o : Outcome) (told : Told Content)
    → told ≡ Answered r.1 → ◌≡◌ {A = Copy Content Y × Told Content} (r.0, told) (d, Answered o) → r ≡ (d, o)
asked_pair {Y = Y} r d o told f e =
    ap (λ (x : Outcome). (r.0, x)) (ap (outcome_in o) (sym f) ∙ ap (λ (p : Copy Content Y × Told Content). outcome_in o p.1) e)
    ∙ ap (λ (p : Copy Content Y × Told Content). (p.0, o)) e

module _ {Y : Type 0} (y : LayoutKind Y) (a b : Copy Content Y) where
  -- what holds of all that a request comes to holds of what it came to
  pub asked : (request : Request) (now : ℕ) (reply : Reply) (P : Copy Content Y × Outcome → Type 0)
      → Takes y a (Asked request now reply) b → ((luck : Luck Y) → P (requested folds y luck request now a))
      → P (b, outcomes.Reply reply)
  asked request now reply P t h =
      let r = requested folds y t.1.luck request now a in
      subst P (asked_pair r b (outcomes.Reply reply) (Answered r.1) refl t.1.goes) (h t.1.luck)

  pub flush_taken : (told : Result ℕ VbFault) → NoneWaits a → Takes y a (Flushed told) b → IsAs a b
  flush_taken told none t = subst (IsAs a) (ap (λ (p : Copy Content Y × Told Content). p.0) t.goes) (flushes_as y t.luck a none)

-- a flush changes nothing that requests see
pub flushes_leave : {Y : Type 0} (y : LayoutKind Y) (a b : Copy Content Y) (deeds : List Deed) → NoneWaits a
    → TakesAll y a deeds b
    → AllByRecursion (λ deed. (request : Request) (now : ℕ) (reply : Reply) → deed ≢ Asked request now reply) deeds
    → b.log ≡ a.log
flushes_leave y a b [] none t h = ap (λ c. c.log) t
flushes_leave y a b (Asked request now reply ∷ deeds) none t h = absurd (h.0 request now reply refl)
flushes_leave y a b (Flushed told ∷ deeds) none t h =
    let first : IsAs a t.0 = flush_taken y a t.0 told none t.1 in
    flushes_leave y t.0 b deeds (ap (λ c. c.prepares) first.log ∙ none) t.2 h.1 ∙ first.log

-- ---- requests

-- a test's failure, by the check that fails
one_fails : (Q : Status → Type 0) (b : Bool) (other : Option Status) (s why : Status) → (b ≡ false → Q s)
    → (other ≡ Some why → Q why) → cond b other (Some s) ≡ Some why → Q why
one_fails Q true other s why h k e = k e
one_fails Q false other s why h k e = subst Q (ap (λ o. option_map_or (λ x. x) o s) e) (h refl)

pub first_fails : (Q : Status → Type 0) (checks : List (Bool × Status)) (why : Status)
    → AllByRecursion (λ (check : Bool × Status). check.0 ≡ false → Q check.1) checks → first_failing checks ≡ Some why → Q why
first_fails Q [] why h e = absurd (cc)
first_fails Q (check ∷ checks) why h e = one_fails Q check.0 (first_failing checks) check.1 why h.0 (first_fails Q checks why h.1) e

pub by_found : {A C : Type 0} (P : A → Type 0) (g : C → A) (o : Option C) (x : A) → ((c : C) → o ≡ Some c → P (g c))
    → (o ≡ None → P x) → P (option_map_or g o x)
by_found P g None x h k = k refl
by_found P g (Some c) x h k = h c refl

-- what a request's step on its document comes to
abbrev pub Steps : {Y : Type 0} → Copy Content Y → ℕ → Request → Result Change Status → Type 0
Steps c now request r = step_on c.log c.seen now request ≡ r

-- what a copy makes of a change
abbrev pub Makes : {Y : Type 0} → Copy Content Y → Change → Option What → Type 0
Makes c change o = what_of change.effect (drawn c.log c.seen) ≡ o

-- a copy with a change of a request's document
abbrev pub changed_by : {Y : Type 0} → Request → What → Copy Content Y → Copy Content Y
changed_by request what d = added folds (plain_entry (document_key request.body) what) d

-- and what is told of it
abbrev pub made_by : {Y : Type 0} → Request → Reply → What → Copy Content Y → Copy Content Y × Outcome
made_by request reply what d = made folds request reply (plain_entry (document_key request.body) what) d

-- a copy with another manifest
abbrev pub set_to : {Y : Type 0} → List ℕ → Copy Content Y → Copy Content Y
set_to text d = added folds (entries.Manifest text) d

-- a status that isn't success
abbrev pub Fails : Status → Type 0
Fails why = why ≢ status.SUCCESS

pub by_code : (why : Status) → why.code ≢ 0 → Fails why
by_code why h e = h (ap (λ (s : Status). s.code) e)

module _ {Y : Type 0} (y : LayoutKind Y) (luck : Luck Y) (request : Request) (c : Copy Content Y) (none : NoneWaits c)
    (P : Copy Content Y × Outcome → Type 0)
    (refused : (d : Copy Content Y) (why : Status) → IsAs c d → Fails why → P (d, refusal request why)) where
  after_put_ends : (change : Copy Content Y → Copy Content Y × Outcome) (p : Put (Copy Content Y)) → IsPut c p
      → ((d : Copy Content Y) → IsAs c d → P (change d)) → P (after_put change request c p)
  after_put_ends change (Done d) h done = done d h
  after_put_ends change (NoRoom needed free) h done = refused c status.EBUSY (same_as c) (by_code status.EBUSY (λ e. absurd (cc)))
  after_put_ends change (Failed d) h done = refused d status.ETMPFAIL h (by_code status.ETMPFAIL (λ e. absurd (cc)))

  pub changing_ends : (cas : ℕ) (e : Entry) (change : Copy Content Y → Copy Content Y × Outcome)
      → ((d : Copy Content Y) → IsAs c d → P (change d)) → P (changing folds y luck request cas e change c)
  changing_ends cas e change done =
      by_test P (is_too_much c.log cas e) _ _ (λ _. refused c status.E2BIG (same_as c) (by_code status.E2BIG (λ e. absurd (cc))))
      (λ _. after_put_ends change (flushed_first folds y luck c) (first_as y luck c none) done)

  -- what a change of a document comes to, where it is asked for without a level
  document_ends : (now cas : ℕ) (reply : Reply) (what : What) (level : Option Durability) → level ≡ None
      → ((d : Copy Content Y) → IsAs c d → P (made_by request reply what d))
      → P (changing_document folds y luck now request cas reply what level c)
  document_ends now cas reply what None e done =
      let entry = plain_entry (document_key request.body) what in changing_ends cas entry (made folds request reply entry) done
  document_ends now cas reply what (Some level) e done = absurd (cc)

  effect_ends : (now cas : ℕ) (reply : Reply) (o : Option What) → request.durability ≡ None → (o ≡ None → P (c, outcomes.Reply reply))
      → ((what : What) (d : Copy Content Y) → o ≡ Some what → IsAs c d → P (made_by request reply what d))
      → P (effecting folds y luck now request cas reply o c)
  effect_ends now cas reply None level answered done = answered refl
  effect_ends now cas reply (Some what) level answered done =
      document_ends now cas reply what request.durability level (λ d h. done what d refl h)

  step_ends : (now cas : ℕ) (r : Result Change Status) → request.durability ≡ None
      → ((why : Status) → r ≡ Err why → P (c, refusal request why))
      → ((change : Change) → r ≡ Ok change → what_of change.effect cas ≡ None → P (c, outcomes.Reply change.reply))
      → ((change : Change) (what : What) (d : Copy Content Y) → r ≡ Ok change → what_of change.effect cas ≡ Some what → IsAs c d
      → P (made_by request change.reply what d))
      → P (concluded folds y luck now request cas r c)
  step_ends now cas (Err why) level declined answered done = declined why refl
  step_ends now cas (Ok change) level declined answered done =
      effect_ends now cas change.reply (what_of change.effect cas) level (answered change refl) (λ what d e h. done change what d refl e h)

  -- each check of a request fails with a status that isn't success
  check_fails : (key : DocKey) (why : Status) → first_failing (request_checks folds luck request key c) ≡ Some why → Fails why
  check_fails key why e =
      first_fails Fails (request_checks folds luck request key c) why (
        λ _. by_code _ (λ e. absurd (cc)),
        (
          λ _. by_code _ (λ e. absurd (cc)),
          (
            λ _. by_code _ (λ e. absurd (cc)),
            (
              λ _. by_code _ (λ e. absurd (cc)),
              (
                λ _. by_code _ (λ e. absurd (cc)),
                (λ _. by_code _ (λ e. absurd (cc)), tt),
              ),
            ),
          ),
        ),
      ) e

  abbrev checks : List (Bool × Status)
  checks = request_checks folds luck request (document_key request.body) c

  pub served_ends : (now : ℕ) → request.durability ≡ None
      → ((why : Status) → Steps c now request (Err why) → P (c, refusal request why))
      → ((change : Change) → Steps c now request (Ok change) → Makes c change None → P (c, outcomes.Reply change.reply))
      → ((change : Change) (what : What) (d : Copy Content Y) → first_failing checks ≡ None → Steps c now request (Ok change) → Makes c change (Some what)
      → IsAs c d → P (made_by request change.reply what d))
      → P (served folds y luck now request c)
  served_ends now level declined answered done =
      by_found P _ (first_failing checks) _ (λ why e. refused c why (same_as c) (check_fails (document_key request.body) why e))
      (λ e. step_ends now (drawn c.log c.seen) (step_on c.log c.seen now request) level declined answered
      (λ change what d f g h. done change what d e f g h))

  -- what setting a manifest comes to
  set_ends : (text : List ℕ) (r : Result Step Status) → ((why : Status) → P (c, refusal request why))
      → P (c, outcomes.Reply (success request [] []))
      → ((step : Step) (d : Copy Content Y) → r ≡ Ok step → step.changed ≡ true → IsAs c d
      → P (installed folds request (entries.Manifest text) d))
      → P (set_by folds y luck request text r c)
  set_ends text (Err why) declined nothing done = declined why
  set_ends text (Ok step) declined nothing done =
      let entry = entries.Manifest text in
      by_test P step.changed _ _ (λ f. changing_ends 0 entry (installed folds request entry) (λ d h. done step d refl f h)) (λ _. nothing)

-- a request that names a document's key is one on a document
pub served_body : {Y : Type 0} (y : LayoutKind Y) (luck : Luck Y) (now : ℕ) (request : Request) (body : Body) (c : Copy Content Y)
    → IsSome (key_named body) → body_step folds y luck now request body c ≡ served folds y luck now request c
served_body y luck now request (bodies.Hello wanted) c h = absurd (cc)
served_body y luck now request bodies.Noop c h = absurd (cc)
served_body y luck now request bodies.Version c h = absurd (cc)
served_body y luck now request bodies.Quit c h = absurd (cc)
served_body y luck now request (bodies.SetManifest text) c h = absurd (cc)
served_body y luck now request bodies.GetManifest c h = absurd (cc)
served_body y luck now request (bodies.CollectionId path) c h = absurd (cc)
served_body y luck now request (bodies.ScopeId path) c h = absurd (cc)
served_body y luck now request body c h = refl

-- what a request on a document comes to
pub named_ends : {Y : Type 0} (y : LayoutKind Y) (luck : Luck Y) (request : Request) (now : ℕ) (a : Copy Content Y)
    (P : Copy Content Y × Outcome → Type 0)
    → IsSome (key_named request.body)
    → P (a, refusal request status.ENOMEM) → P (served folds y luck (moment_of now) request (seeing now a))
    → P (requested folds y luck request now a)
named_ends y luck request now a P named memory h =
    by_test P (lacks_memory luck.chance) _ _ (λ _. memory)
    (λ _. subst P (sym (served_body y luck (moment_of now) request request.body (seeing now a) named)) h)

-- the second check holds where none fails
pub second : (b c : Bool) (s t : Status) (rest : Option Status) → cond b (cond c rest (Some t)) (Some s) ≡ None → c ≡ true
second true true s t rest e = refl
second true false s t rest e = absurd (cc)
second false c s t rest e = absurd (cc)

-- what any request without a level leaves
module _ {Y : Type 0} (y : LayoutKind Y) (luck : Luck Y) (request : Request) (c : Copy Content Y) (none : NoneWaits c)
    (level : request.durability ≡ None) (Q : Copy Content Y → Type 0)
    (any : (d : Copy Content Y) → IsAs c d → Q d) where
  abbrev Leaves : Copy Content Y × Outcome → Type 0
  Leaves r = Q r.0

  -- each change of the request's document leaves this
  abbrev ByChange : ℕ → Type 0
  ByChange now =
      (change : Change) (what : What) (d : Copy Content Y) → has_collection c.log.manifest (document_key request.body).collection ≡ true
      → Steps c now request (Ok change) → Makes c change (Some what) → IsAs c d
      → Q (changed_by request what d)

  -- and each new manifest of a request with this body
  abbrev ByManifest : Body → Type 0
  ByManifest body =
      (text : List ℕ) (step : Step) (d : Copy Content Y) → body ≡ bodies.SetManifest text → text_step c.log.manifest text ≡ Ok step
      → step.changed ≡ true → IsAs c d
      → Q (set_to text d)

  served_leaves : (now : ℕ) → ByChange now → Q (served folds y luck now request c).0
  served_leaves now h =
      served_ends y luck request c none Leaves (λ d why s _. any d s) now level
      (λ why _. any c (same_as c)) (λ change _ _. any c (same_as c))
      (λ change what d checked e f s. h change what d (second _ _ _ _ _ checked) e f s)

  active_leaves : (r : Copy Content Y × Outcome) → Q r.0 → Q (if_active request c r).0
  active_leaves r h = by_test Leaves (is_active c.role) _ _ (λ _. h) (λ _. any c (same_as c))

  body_leaves : (now : ℕ) (body : Body) → ByChange now → ByManifest body → Q (body_step folds y luck now request body c).0
  body_leaves now (bodies.SetManifest text) h m =
      active_leaves _ (set_ends y luck request c none Leaves (λ d why s _. any d s) text (text_step c.log.manifest text)
      (λ why. any c (same_as c)) (any c (same_as c))
      (λ step d e f s. m text step d refl e f s))
  body_leaves now bodies.GetManifest h m = active_leaves _ (any c (same_as c))
  body_leaves now (bodies.CollectionId path) h m = active_leaves _ (any c (same_as c))
  body_leaves now (bodies.ScopeId path) h m = active_leaves _ (any c (same_as c))
  body_leaves now (bodies.Hello wanted) h m = any c (same_as c)
  body_leaves now bodies.Noop h m = any c (same_as c)
  body_leaves now bodies.Version h m = any c (same_as c)
  body_leaves now bodies.Quit h m = any c (same_as c)
  body_leaves now body h m = served_leaves now h

-- what any request leaves, where it does so whether memory is wanting or not
pub request_leaves : {Y : Type 0} (y : LayoutKind Y) (luck : Luck Y) (request : Request) (now : ℕ) (a : Copy Content Y)
    (none : NoneWaits a) (level : request.durability ≡ None) (Q : Copy Content Y → Type 0)
    → ((d : Copy Content Y) → IsAs a d → Q d)
    → ((change : Change) (what : What) (d : Copy Content Y) → has_collection a.log.manifest (document_key request.body).collection ≡ true
    → Steps (seeing now a) (moment_of now) request (Ok change) → Makes (seeing now a) change (Some what) → IsAs a d → Q (changed_by request what d))
    → ((text : List ℕ) (step : Step) (d : Copy Content Y) → request.body ≡ bodies.SetManifest text → text_step a.log.manifest text ≡ Ok step
    → step.changed ≡ true → IsAs a d → Q (set_to text d))
    → Q (requested folds y luck request now a).0
request_leaves {Y = Y} y luck request now a none level Q any h m =
    by_test (λ (r : Copy Content Y × Outcome). Q r.0) (lacks_memory luck.chance) _ _ (λ _. any a (same_as a))
    (λ _. body_leaves y luck request (seeing now a) none level Q (λ d s. any d (record { log = s.log; accepted = s.accepted }))
    (moment_of now) request.body
    (λ change what d known e f s. h change what d known e f (record { log = s.log; accepted = s.accepted }))
    (λ text step d e f g s. m text step d e f g (record { log = s.log; accepted = s.accepted })))

-- ---- a request on a document changes no other

-- what a key has beside the one that an entry changes
pub entry_spares : (c : Content) (key other : DocKey) (what : What) → other ≢ key
    → map.get (with_entry c (plain_entry key what)).items other ≡ map.get c.items other
entry_spares c key other (whats.Put doc) differs = get_other c.items key other _ differs
entry_spares c key other (whats.Remove cas) differs = get_other c.items key other _ differs

module _ {Y : Type 0} (y : LayoutKind Y) (a b : Copy Content Y) (request : Request) (now : ℕ) (reply : Reply) (other : DocKey)
    (none : NoneWaits a) (t : Takes y a (Asked request now reply) b) (named : IsSome (key_named request.body))
    (differs : other ≢ document_key request.body) where
  abbrev Stays : Copy Content Y × Outcome → Type 0
  Stays r = map.get r.0.log.items other ≡ map.get a.log.items other

  same_log : (d : Copy Content Y) → IsAs (seeing now a) d → map.get d.log.items other ≡ map.get a.log.items other
  same_log d h = ap (λ (l : Content). map.get l.items other) h.log

  ends : (luck : Luck Y) → Stays (requested folds y luck request now a)
  ends luck =
      named_ends y luck request now a Stays named refl
      (served_ends y luck request (seeing now a) none Stays (λ d why h _. same_log d h) (moment_of now) t.0
      (λ why _. refl) (λ change _ _. refl)
      (λ change what d _ _ _ h. entry_spares d.log (document_key request.body) other what differs ∙ same_log d h))

  pub others_stay : map.get b.log.items other ≡ map.get a.log.items other
  others_stay = asked y a b request now reply Stays t ends
