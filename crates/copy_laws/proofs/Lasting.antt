-- How long documents last, and what requests leave of them.
use Rattle.std.specs.Prelude.{◌≡◌, ◌≢◌, ◌≤◌, ◌<◌, ◌+◌, ℕ, min, nat_eq, nat_le, is_some, true, false, List, [], Option, Some, None, Result, Ok, Err, refl, if◌then◌else◌}
use Rattle.std.specs.Option.{option_map_or}
use Rattle.std.specs.List.{AllByRecursion}
use Rattle.std.specs.FinMap as map
use Rattle.std.proofs.Common.{◌⊎◌, inl, inr, sym, ◌∙◌, ap, subst, arith}
use Rattle.std.proofs.lemmas.Bool.Decides.{nat_tests}
use Rattle.doc_model.specs.declared.key.DocKey.{DocKey}
use Rattle.doc_model.specs.declared.document.Doc.{Doc}
use Rattle.doc_model.specs.declared.document.What.TheVariants as whats
use Rattle.doc_model.specs.declared.status.Status.{Status}
use Rattle.doc_model.specs.declared.status.TheConstants.Status as status
use Rattle.kv_request.specs.declared.request.Request.{Request}
use Rattle.kv_request.specs.declared.request.Mode.TheVariants as modes
use Rattle.kv_request.specs.declared.reply.Reply.{Reply}
use Rattle.kv_request.specs.Tables.{key_named, document_key}
use Rattle.manifest_rules.specs.Catalog.{max_ttl_of}
use Rattle.doc_step.specs.declared.TheConstants.{RELATIVE_LIMIT, LAST_EXPIRY}
use Rattle.doc_step.specs.declared.Change.{Change}
use Rattle.doc_step.specs.Expiry.{seconds, is_expired, there, later, cut_to, expiry_of}
use Rattle.doc_step.specs.Step.{cas_refusal, stored_doc, store_step, delete_step}
use Rattle.vb_log.specs.Content.{Content, doc_in, has_collection}
use Rattle.copy_model.specs.declared.outcome.Outcome.{Outcome}
use Rattle.copy_model.specs.Copies.{Copy, LayoutKind}
use Rattle.copy_model.specs.Requests.{moment_of, seeing, setting_at, step_on}
use Rattle.copy_model.proofs.Moves.{by_test}
use Rattle.copy_laws.specs.Histories.{Deed, Asked, Takes, TakesAll, IsServed, IsGetOf, IsSetOf, IsDeleteOf, LeavesKey}
use Rattle.copy_laws.specs.Documents.{document_at, HasExpired, IsReplaceOf, Keeps, end_of, IsGranted}
use Rattle.copy_laws.specs.Leaving.{Carries}
use Rattle.copy_laws.proofs.Historic.{NoneWaits, Fails, by_code, asked as asked_of, named_ends, served_ends}
use Rattle.copy_laws.proofs.Numbers.{Rises, deed_rises}
use Rattle.copy_laws.proofs.Served.{told_of, unchanged, served_as}
use Rattle.copy_laws.proofs.Remembered.{Holds, Leaves, step_by, change_done, run_leaves, get_served, storing, set_told}

-- ---- requests that find no document

-- with or without a CAS, what finds no document and refuses for that does so
unguarded : (cas : ℕ) (why : Status) → why ≡ status.KEY_ENOENT
    → option_map_or {U = Result Change Status} (λ w. Err w) (cas_refusal cas None) (Err why) ≡ Err status.KEY_ENOENT
unguarded cas why e =
    by_test (λ o. option_map_or {U = Result Change Status} (λ w. Err w) o (Err why) ≡ Err status.KEY_ENOENT) (nat_eq cas 0) _ _
    (λ _. ap (λ w. Err w) e) (λ _. refl)

delete_misses : (l : Content) (seen now : ℕ) (request : Request) (key : DocKey) → IsDeleteOf key request
    → there now (doc_in (map.get l.items key)) ≡ None → step_on l seen now request ≡ Err status.KEY_ENOENT
delete_misses l seen now request key d gone =
    ap (step_by l seen now request) d.body
    ∙ ap (λ doc. option_map_or {U = Result Change Status} (λ w. Err w) (cas_refusal request.cas doc)
    (delete_step (setting_at l seen now key.collection) request doc)) gone
    ∙ unguarded request.cas status.KEY_ENOENT refl

replace_misses : (l : Content) (seen now : ℕ) (request : Request) (key : DocKey) (flags expiry : ℕ) (value : List ℕ)
    → IsReplaceOf key flags expiry value request
    → there now (doc_in (map.get l.items key)) ≡ None → step_on l seen now request ≡ Err status.KEY_ENOENT
replace_misses l seen now request key flags expiry value d gone =
    let s = setting_at l seen now key.collection in
    ap (step_by l seen now request) d.body
    ∙ ap (λ doc. option_map_or {U = Result Change Status} (λ w. Err w) (cas_refusal request.cas doc)
    (store_step s request modes.Replace doc (stored_doc s flags expiry value doc))) gone
    ∙ unguarded request.cas status.KEY_ENOENT refl

-- the status that a step refuses by, where it does
abbrev err_of : Status → Result Change Status → Status
err_of other (Ok change) = other
err_of other (Err why) = why

-- a request whose step refuses leaves the log, and isn't answered with success
module _ {Y : Type 0} (y : LayoutKind Y) (a b : Copy Content Y) (request : Request) (now : ℕ) (reply : Reply) (none : NoneWaits a)
    (t : Takes y a (Asked request now reply) b) (named : is_some (key_named request.body) ≡ true) (why : Status)
    (refuses : step_on a.log (seeing now a).seen (moment_of now) request ≡ Err why) where
  pub refused_stays : b.log ≡ a.log
  refused_stays = unchanged y a b request now reply none t named (λ change what e f. absurd (let g : Ok change ≡ Err why = sym e ∙ refuses in cc))

  abbrev Unsuccessful : Copy Content Y × Outcome → Type 0
  Unsuccessful r = Fails (told_of reply r.1).status

  pub refused_fails : Fails why → Fails reply.status
  refused_fails fails =
      asked_of y a b request now reply Unsuccessful t
      (λ luck. named_ends y luck request now a Unsuccessful named (by_code status.ENOMEM (λ e. absurd (cc)))
      (served_ends y luck request (seeing now a) none Unsuccessful (λ d w s f. f) (moment_of now) t.0
      (λ w e. let same : w ≡ why = ap (λ (r : Result Change Status). err_of w r) (sym e ∙ refuses) in subst Fails (sym same) fails)
      (λ change e _. absurd (let g : Ok change ≡ Err why = sym e ∙ refuses in cc))
      (λ change what d _ e _ _. absurd (let g : Ok change ≡ Err why = sym e ∙ refuses in cc))))

  pub refused_told : has_collection a.log.manifest (document_key request.body).collection ≡ true → IsServed reply → reply.status ≡ why
  refused_told known =
      served_as y a b request now reply none t named known (λ (told : Reply). told.status ≡ why) (Err why) refuses (λ luck _. refl)

gone_at : (log : Content) (key : DocKey) (now : ℕ) → HasExpired log key now → document_at log key now ≡ None
gone_at log key now h =
    ap (there (moment_of now)) h.kept ∙ ap (λ b. if b then None else Some h.doc) h.passed

pub expired_stays : {Y : Type 0} (y : LayoutKind Y) (a b : Copy Content Y) (delete : Request) (now : ℕ) (key : DocKey) (reply : Reply)
    → NoneWaits a → IsDeleteOf key delete → HasExpired a.log key now → Takes y a (Asked delete now reply) b → b.log ≡ a.log
expired_stays y a b delete now key reply none d h t =
    refused_stays y a b delete now reply none t (ap (λ body. is_some (key_named body)) d.body) status.KEY_ENOENT
    (delete_misses a.log (seeing now a).seen (moment_of now) delete key d (gone_at a.log key now h))

pub expired_missed : {Y : Type 0} (y : LayoutKind Y) (a b : Copy Content Y) (delete : Request) (now : ℕ) (key : DocKey) (reply : Reply)
    → NoneWaits a → IsDeleteOf key delete → HasExpired a.log key now → has_collection a.log.manifest key.collection ≡ true
    → Takes y a (Asked delete now reply) b → IsServed reply → reply.status ≡ status.KEY_ENOENT
expired_missed y a b delete now key reply none d h known t =
    refused_told y a b delete now reply none t (ap (λ body. is_some (key_named body)) d.body) status.KEY_ENOENT
    (delete_misses a.log (seeing now a).seen (moment_of now) delete key d (gone_at a.log key now h))
    (ap (λ body. has_collection a.log.manifest (document_key body).collection) d.body ∙ known)

pub replace_makes_none : {Y : Type 0} (y : LayoutKind Y) (a b : Copy Content Y) (replace : Request) (now flags expiry : ℕ) (key : DocKey)
    (value : List ℕ) (reply : Reply) → NoneWaits a → IsReplaceOf key flags expiry value replace → document_at a.log key now ≡ None
    → Takes y a (Asked replace now reply) b → (reply.status ≢ status.SUCCESS) × (b.log ≡ a.log)
replace_makes_none y a b replace now flags expiry key value reply none d gone t =
    let named : is_some (key_named replace.body) ≡ true = ap (λ body. is_some (key_named body)) d.body in
    let refuses : step_on a.log (seeing now a).seen (moment_of now) replace ≡ Err status.KEY_ENOENT =
    replace_misses a.log (seeing now a).seen (moment_of now) replace key flags expiry value d gone in (
      refused_fails y a b replace now reply none t named status.KEY_ENOENT refuses (by_code status.KEY_ENOENT (λ e. absurd (cc))),
      refused_stays y a b replace now reply none t named status.KEY_ENOENT refuses,
    )

-- ---- what a Set stores

module _ {Y : Type 0} (y : LayoutKind Y) (a b : Copy Content Y) (set : Request) (now flags expiry : ℕ) (key : DocKey) (value : List ℕ)
    (done : Reply) (none : NoneWaits a) (sets : IsSetOf key flags expiry value set) (t : Takes y a (Asked set now done) b)
    (success : done.status ≡ status.SUCCESS) where
  abbrev pub stored : Doc
  stored = stored_doc (setting_at a.log (seeing now a).seen (moment_of now) key.collection) flags expiry value (document_at a.log key now)

  pub set_holds : Holds key (whats.Put stored) done b
  set_holds =
      change_done y a b set now done none t key (ap key_named sets.body) (whats.Put stored)
      (storing a.log (seeing now a).seen (moment_of now) set key flags expiry value sets) success

  pub set_keeps : (found : Option Doc) → document_at a.log key now ≡ found
      → Keeps b.log key flags value (option_map_or (λ (d : Doc). d.xattrs) found [])
  set_keeps found e =
      let h : Holds key (whats.Put stored) done b = set_holds in
      record {
        doc = record stored { seqno = h.at };
        kept = h.doc;
        value_kept = refl;
        flags_kept = refl;
        xattrs_kept = ap (λ (o : Option Doc). option_map_or (λ (d : Doc). d.xattrs) o []) e;
      }

-- ---- how long it lasts

not_zero : (n m : ℕ) → n ≢ 0 → min (m + n) LAST_EXPIRY ≢ 0
not_zero n m h = omega (arith, h)

differs : (n : ℕ) → n ≢ 0 → nat_eq n 0 ≡ false
differs n h = grind (arith, nat_tests)

end_not_zero : (stored expiry : ℕ) → expiry ≢ 0 → end_of stored expiry ≢ 0
end_not_zero stored expiry h =
    by_test (λ (n : ℕ). n ≢ 0) (nat_eq expiry 0) _ _ (λ e. absurd (let f : true ≡ false = sym e ∙ differs expiry h in cc))
    (λ _. by_test (λ (n : ℕ). n ≢ 0) (nat_le expiry RELATIVE_LIMIT) _ _ (λ _. not_zero expiry (seconds (moment_of stored)) h) (λ _. h))

smaller : (a b : ℕ) → a ≤ b → min a b ≡ a
smaller a b h = omega arith

-- an expiry that is granted isn't cut
cut_granted : (second lifetime end : ℕ) → end ≢ 0 → (lifetime ≡ 0) ⊎ (end ≤ later second lifetime) → cut_to second lifetime end ≡ end
cut_granted second lifetime end h (inl e) =
    by_test (λ (n : ℕ). n ≡ end) (nat_eq lifetime 0) _ _ (λ _. refl)
    (λ f. absurd (let g : true ≡ false = sym (ap (λ n. nat_eq n 0) e) ∙ f in cc))
cut_granted second lifetime end h (inr e) =
    by_test (λ (n : ℕ). n ≡ end) (nat_eq lifetime 0) _ _ (λ _. refl)
    (λ _. by_test (λ (n : ℕ). n ≡ end) (nat_eq end 0) _ _ (λ f. absurd (let g : true ≡ false = sym f ∙ differs end h in cc))
    (λ _. smaller end (later second lifetime) e))

lasts : (end now : ℕ) → seconds now < end → is_expired end now ≡ false
lasts end now h = grind (arith, nat_tests)

ends : (end now : ℕ) → end ≢ 0 → end ≤ seconds now → is_expired end now ≡ true
ends end now h k = grind (arith, nat_tests)

-- the expiry of a document that was stored is its end
expiry_is : (log : Content) (seen stored expiry : ℕ) (key : DocKey) → expiry ≢ 0 → IsGranted log key stored expiry
    → expiry_of (setting_at log seen (moment_of stored) key.collection) expiry ≡ end_of stored expiry
expiry_is log seen stored expiry key h granted =
    cut_granted (seconds (moment_of stored)) (max_ttl_of log.manifest.scopes key.collection) (end_of stored expiry) (end_not_zero stored expiry h) granted

pub found_before : {Y : Type 0} (y : LayoutKind Y) (a b c d : Copy Content Y) (set get : Request) (moment now flags expiry : ℕ)
    (key : DocKey) (value : List ℕ) (done told : Reply) (between : List Deed)
    → NoneWaits a → IsSetOf key flags expiry value set → Takes y a (Asked set moment done) b → done.status ≡ status.SUCCESS
    → TakesAll y b between c → AllByRecursion (LeavesKey key) between → IsGetOf key get → Takes y c (Asked get now told) d
    → IsServed told → expiry ≢ 0 → IsGranted a.log key moment expiry → seconds (moment_of now) < end_of moment expiry
    → Carries told flags value × (told.cas ≡ done.cas)
found_before y a b c d set get moment now flags expiry key value done told between none sets first success run leaves gets last served some granted early =
    set_told y a b c d set get moment now flags expiry key value done told between none sets first success run leaves gets last served
    (ap (λ e. is_expired e (moment_of now)) (expiry_is a.log 0 moment expiry key some granted) ∙ lasts (end_of moment expiry) (moment_of now) early)

forever_none : (second lifetime : ℕ) → lifetime ≡ 0 → cut_to second lifetime 0 ≡ 0
forever_none second lifetime e =
    by_test (λ (n : ℕ). n ≡ 0) (nat_eq lifetime 0) _ _ (λ _. refl)
    (λ f. absurd (let g : true ≡ false = sym (ap (λ n. nat_eq n 0) e) ∙ f in cc))

pub found_forever : {Y : Type 0} (y : LayoutKind Y) (a b c d : Copy Content Y) (set get : Request) (moment now flags : ℕ)
    (key : DocKey) (value : List ℕ) (done told : Reply) (between : List Deed)
    → NoneWaits a → IsSetOf key flags 0 value set → Takes y a (Asked set moment done) b → done.status ≡ status.SUCCESS
    → TakesAll y b between c → AllByRecursion (LeavesKey key) between → IsGetOf key get → Takes y c (Asked get now told) d
    → IsServed told → max_ttl_of a.log.manifest.scopes key.collection ≡ 0
    → Carries told flags value × (told.cas ≡ done.cas)
found_forever y a b c d set get moment now flags key value done told between none sets first success run leaves gets last served any =
    set_told y a b c d set get moment now flags 0 key value done told between none sets first success run leaves gets last served
    (ap (λ e. is_expired e (moment_of now))
    (forever_none (seconds (moment_of moment)) (max_ttl_of a.log.manifest.scopes key.collection) any))

expired_there : (doc : Doc) (now : ℕ) → is_expired doc.expiry now ≡ true → there now (Some doc) ≡ None
expired_there doc now e = ap (λ b. if b then None else Some doc) e

pub missed_after : {Y : Type 0} (y : LayoutKind Y) (a b c d : Copy Content Y) (set get : Request) (moment now flags expiry : ℕ)
    (key : DocKey) (value : List ℕ) (done told : Reply) (between : List Deed)
    → NoneWaits a → IsSetOf key flags expiry value set → Takes y a (Asked set moment done) b → done.status ≡ status.SUCCESS
    → TakesAll y b between c → AllByRecursion (LeavesKey key) between → IsGetOf key get → Takes y c (Asked get now told) d
    → IsServed told → expiry ≢ 0 → IsGranted a.log key moment expiry → end_of moment expiry ≤ seconds (moment_of now)
    → told.status ≡ status.KEY_ENOENT
missed_after y a b c d set get moment now flags expiry key value done told between none sets first success run leaves gets last served some granted late =
    let s : Doc = stored y a b set moment flags expiry key value done none sets first success in
    let h : Holds key (whats.Put s) done b = set_holds y a b set moment flags expiry key value done none sets first success in
    let rises : Rises a.log b.log = deed_rises y a b (Asked set moment done) none first in
    let kept : Leaves key b.log c.log = run_leaves y b c between key rises.none run leaves in
    let found : Doc = record s { seqno = h.at } in
    let has : doc_in (map.get c.log.items key) ≡ Some found = ap doc_in kept.spares.item ∙ h.doc in
    let over : is_expired found.expiry (moment_of now) ≡ true =
    ap (λ e. is_expired e (moment_of now)) (expiry_is a.log (seeing moment a).seen moment expiry key some granted)
    ∙ ends (end_of moment expiry) (moment_of now) (end_not_zero moment expiry some) late in
    get_served y c d get now told kept.none last key gets (kept.spares.known h.known)
    (λ (reply : Reply). reply.status ≡ status.KEY_ENOENT) None
    (ap (there (moment_of now)) has ∙ expired_there found (moment_of now) over) (λ luck _. refl) served
