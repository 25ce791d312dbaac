-- How a copy answers a request on a document, piece by piece.
use Rattle.std.specs.Prelude.{◌≡◌, ℕ, nat_eq, is_none, Bool, true, false, ◌&&◌, ◌||◌, not, List, [], ◌∷◌, Option, Some, None, if◌then◌else◌, refl}
use Rattle.std.specs.Option.{option_map_or}
use Rattle.std.proofs.Common.{inl, inr, sym, ◌∙◌, ap}
use Rattle.doc_model.specs.declared.key.DocKey.{DocKey}
use Rattle.doc_model.specs.declared.document.What.{What}
use Rattle.doc_model.specs.declared.status.Status.{Status}
use Rattle.doc_model.specs.declared.status.TheConstants.Status as status
use Rattle.kv_request.specs.declared.request.Request.{Request}
use Rattle.kv_request.specs.declared.request.Durability.{Durability}
use Rattle.kv_request.specs.declared.request.Body.{Body}
use Rattle.kv_request.specs.declared.request.Body.TheVariants as bodies
use Rattle.kv_request.specs.declared.reply.Reply.{Reply}
use Rattle.kv_request.specs.Tables.{key_named, document_key, first_failing, is_for_session}
use Rattle.manifest_rules.specs.Catalog.{Catalog}
use Rattle.magma_disk.specs.Device.{Device}
use Rattle.vb_log.specs.declared.entry.Pending.{Pending}
use Rattle.vb_log.specs.Content.{Content, has_collection, prepare_of}
use Rattle.vb_log.specs.Logs.{folds}
use Rattle.durability_core.specs.Ready.{can_commit}
use Rattle.replica_core.specs.declared.copy.CopyCore.{CopyCore}
use Rattle.replica_core.specs.declared.copy.Role.{Role}
use Rattle.replica_core.specs.Terms.{is_active}
use Rattle.copy_model.specs.declared.outcome.Outcome.{Outcome}
use Rattle.copy_model.specs.Copies.{Copy, Chance, Fine, ReadFails, DiskFails, NoMemory, LayoutKind, Luck, lacks_memory, fails_read}
use Rattle.copy_model.specs.Laying.{is_faulted}
use Rattle.copy_model.specs.Requests.{refusal, changing_document, effecting, concluded, step_on, is_inherited, is_write, request_checks, served, drawn, if_active, body_step}
use Rattle.vb_core.specs.Making.{early_refusal}
use Rattle.vb_core.specs.Means.{Stands, Lives, Stopped, IsCopy}
use Rattle.vb_core.specs.Shown.{ShownVb}

-- ---- luck

-- luck under which a document can be read, and that is else the same
abbrev pub read_well : Chance → Chance
read_well Fine = Fine
read_well ReadFails = Fine
read_well DiskFails = DiskFails
read_well NoMemory = NoMemory

abbrev pub with_read : Luck ℕ → Luck ℕ
with_read luck = record luck { chance = read_well luck.chance }

pub read_faults : (chance : Chance) → is_faulted (read_well chance) ≡ true → is_faulted chance ≡ true
read_faults Fine e = e
read_faults ReadFails e = refl
read_faults DiskFails e = e
read_faults NoMemory e = e

pub read_lacks : (chance : Chance) → lacks_memory (read_well chance) ≡ lacks_memory chance
read_lacks Fine = refl
read_lacks ReadFails = refl
read_lacks DiskFails = refl
read_lacks NoMemory = refl

pub read_reads : (chance : Chance) → fails_read (read_well chance) ≡ false
read_reads Fine = refl
read_reads ReadFails = refl
read_reads DiskFails = refl
read_reads NoMemory = refl

document_reads : (y : LayoutKind ℕ) (chance : Chance) (layout now : ℕ) (request : Request) (cas : ℕ) (reply : Reply) (what : What)
    (level : Option Durability) (c : Copy Content ℕ)
    → changing_document folds y (record { chance = read_well chance; layout = layout }) now request cas reply what level c
    ≡ changing_document folds y (record { chance = chance; layout = layout }) now request cas reply what level c
document_reads y Fine layout now request cas reply what level c = refl
document_reads y ReadFails layout now request cas reply what None c = refl
document_reads y ReadFails layout now request cas reply what (Some level) c = refl
document_reads y DiskFails layout now request cas reply what level c = refl
document_reads y NoMemory layout now request cas reply what level c = refl

-- a change doesn't go by whether a document could be read
pub effecting_reads : (y : LayoutKind ℕ) (luck : Luck ℕ) (now : ℕ) (request : Request) (cas : ℕ) (reply : Reply) (what : Option What)
    (c : Copy Content ℕ)
    → effecting folds y (with_read luck) now request cas reply what c ≡ effecting folds y luck now request cas reply what c
effecting_reads y luck now request cas reply None c = refl
effecting_reads y luck now request cas reply (Some what) c = document_reads y luck.chance luck.layout now request cas reply what
    request.durability c

-- ---- the checks

checks_pass : (a b h p i d w r : Bool) (nm uc re di ip et : Status) → i ≡ true → d ≡ true → w ≡ true
    → first_failing ((a, nm) ∷ (b, nm) ∷ (h, uc) ∷ (p, re) ∷ []) ≡ None
    → first_failing ((a && b, nm) ∷ (h, uc) ∷ (i, re) ∷ (d, di) ∷ (w, ip) ∷ (r, et) ∷ []) ≡ first_failing ((r, et) ∷ [])
checks_pass true true true p true true true r nm uc re di ip et x y z e = refl
checks_pass true true true p true true false r nm uc re di ip et x y z e = absurd (cc)
checks_pass true true true p true false w r nm uc re di ip et x y z e = absurd (cc)
checks_pass true true true p false d w r nm uc re di ip et x y z e = absurd (cc)
checks_pass true true false p i d w r nm uc re di ip et x y z e = absurd (cc)
checks_pass true false h p i d w r nm uc re di ip et x y z e = absurd (cc)
checks_pass false b h p i d w r nm uc re di ip et x y z e = absurd (cc)

checks_fail : (a b h p i d w r : Bool) (nm uc re di ip et why : Status) → (a ≡ true → p ≡ true)
    → first_failing ((a, nm) ∷ (b, nm) ∷ (h, uc) ∷ (p, re) ∷ []) ≡ Some why
    → first_failing ((a && b, nm) ∷ (h, uc) ∷ (i, re) ∷ (d, di) ∷ (w, ip) ∷ (r, et) ∷ []) ≡ Some why
checks_fail true true true true i d w r nm uc re di ip et why x e = absurd (cc)
checks_fail true true true false i d w r nm uc re di ip et why x e = absurd (let f = x refl in cc)
checks_fail true true false p i d w r nm uc re di ip et why x e = e
checks_fail true false h p i d w r nm uc re di ip et why x e = e
checks_fail false b h p i d w r nm uc re di ip et why x e = e

first_passes : (a : Bool) (nm : Status) (others : List (Bool × Status)) → first_failing ((a, nm) ∷ others) ≡ None → a ≡ true
first_passes true nm others e = refl
first_passes false nm others e = absurd (cc)

first_fails : (a : Bool) (nm : Status) (others : List (Bool × Status)) → a ≡ false → first_failing ((a, nm) ∷ others) ≡ Some nm
first_fails true nm others e = absurd (cc)
first_fails false nm others e = refl

-- why a request on a document is refused early, by the parts of a vbucket that this goes by
abbrev early_rest : ℕ → Catalog → List Pending → Request → DocKey → List (Bool × Status)
early_rest number manifest prepares request key =
    (nat_eq request.vbucket number, status.NOT_MY_VBUCKET)
    ∷ (has_collection manifest key.collection, status.UNKNOWN_COLLECTION)
    ∷ (is_none (prepare_of prepares key), status.SYNC_WRITE_RE_COMMIT_IN_PROGRESS)
    ∷ []

abbrev early_by : Role → ℕ → Catalog → List Pending → Request → DocKey → Option Status
early_by role number manifest prepares request key =
    first_failing ((is_active role, status.NOT_MY_VBUCKET) ∷ early_rest number manifest prepares request key)

early_same : (r s : Role) (m n : ℕ) (a b : Catalog) (ps qs : List Pending) (request : Request) (key : DocKey) → r ≡ s → m ≡ n → a ≡ b
    → ps ≡ qs → early_by r m a ps request key ≡ early_by s n b qs request key
early_same r s m n a b ps qs request key e f g h =
    ap (λ (x : Role). early_by x m a ps request key) e
    ∙ ap (λ (x : ℕ). early_by s x a ps request key) f
    ∙ ap (λ (x : Catalog). early_by s n x ps request key) g
    ∙ ap (λ (x : List Pending). early_by s n b x request key) h

or_left : (a b : Bool) → a ≡ true → (a || b) ≡ true
or_left true b e = refl
or_left false b e = absurd (cc)

or_right : (a b : Bool) → b ≡ true → (a || b) ≡ true
or_right true b e = refl
or_right false b e = e

-- of a request without a level, whose key no change waits for, only reading the document may fail behind the early checks
pub early_passes : (copy : Copy Content ℕ) (luck : Luck ℕ) (request : Request) (key : DocKey) → copy.log.prepares ≡ []
    → request.durability ≡ None
    → early_by copy.role copy.number copy.log.manifest copy.log.prepares request key ≡ None
    → first_failing (request_checks folds luck request key copy) ≡ first_failing ((not (fails_read luck.chance), status.ETMPFAIL) ∷ [])
early_passes copy luck request key none level e =
    checks_pass (is_active copy.role) (nat_eq request.vbucket copy.number) (has_collection copy.log.manifest key.collection)
    (is_none (prepare_of copy.log.prepares key))
    (not (is_inherited copy (prepare_of copy.log.prepares key))) (is_none request.durability || can_commit copy.chain)
    (not (is_write request.body) || is_none (prepare_of copy.log.prepares key)) (not (fails_read luck.chance))
    status.NOT_MY_VBUCKET status.UNKNOWN_COLLECTION status.SYNC_WRITE_RE_COMMIT_IN_PROGRESS status.DURABILITY_IMPOSSIBLE
    status.SYNC_WRITE_IN_PROGRESS status.ETMPFAIL
    (ap (λ (ps : List Pending). not (is_inherited copy (prepare_of ps key))) none)
    (or_left (is_none request.durability) (can_commit copy.chain) (ap (λ (d : Option Durability). is_none d) level))
    (or_right (not (is_write request.body)) (is_none (prepare_of copy.log.prepares key))
    (ap (λ (ps : List Pending). is_none (prepare_of ps key)) none))
    e

pub early_fails : (copy : Copy Content ℕ) (luck : Luck ℕ) (request : Request) (key : DocKey) (why : Status)
    → (is_active copy.role ≡ true → copy.log.prepares ≡ [])
    → early_by copy.role copy.number copy.log.manifest copy.log.prepares request key ≡ Some why
    → first_failing (request_checks folds luck request key copy) ≡ Some why
early_fails copy luck request key why none e =
    checks_fail (is_active copy.role) (nat_eq request.vbucket copy.number) (has_collection copy.log.manifest key.collection)
    (is_none (prepare_of copy.log.prepares key))
    (not (is_inherited copy (prepare_of copy.log.prepares key))) (is_none request.durability || can_commit copy.chain)
    (not (is_write request.body) || is_none (prepare_of copy.log.prepares key)) (not (fails_read luck.chance))
    status.NOT_MY_VBUCKET status.UNKNOWN_COLLECTION status.SYNC_WRITE_RE_COMMIT_IN_PROGRESS status.DURABILITY_IMPOSSIBLE
    status.SYNC_WRITE_IN_PROGRESS status.ETMPFAIL why
    (λ a. ap (λ (ps : List Pending). is_none (prepare_of ps key)) (none a))
    e

-- ---- what is served

pub served_fails : (y : LayoutKind ℕ) (luck : Luck ℕ) (now : ℕ) (request : Request) (c : Copy Content ℕ) (why : Status)
    → first_failing (request_checks folds luck request (document_key request.body) c) ≡ Some why
    → served folds y luck now request c ≡ (c, refusal request why)
served_fails y luck now request c why e =
    ap (λ (o : Option Status). option_map_or (λ (s : Status). (c, refusal request s)) o
    (concluded folds y luck now request (drawn c.log c.seen) (step_on c.log c.seen now request) c)) e

pub served_goes : (y : LayoutKind ℕ) (luck : Luck ℕ) (now : ℕ) (request : Request) (c : Copy Content ℕ)
    → first_failing (request_checks folds luck request (document_key request.body) c) ≡ None
    → served folds y luck now request c ≡ concluded folds y luck now request (drawn c.log c.seen) (step_on c.log c.seen now request) c
served_goes y luck now request c e =
    ap (λ (o : Option Status). option_map_or (λ (s : Status). (c, refusal request s)) o
    (concluded folds y luck now request (drawn c.log c.seen) (step_on c.log c.seen now request) c)) e

-- a request whose key is a document's is served
pub named_served : (y : LayoutKind ℕ) (luck : Luck ℕ) (now : ℕ) (request : Request) (body : Body) (key : DocKey) (c : Copy Content ℕ)
    → key_named body ≡ Some key → body_step folds y luck now request body c ≡ served folds y luck now request c
named_served y luck now request (bodies.Hello wanted) key c e = absurd (cc)
named_served y luck now request bodies.Noop key c e = absurd (cc)
named_served y luck now request bodies.Version key c e = absurd (cc)
named_served y luck now request bodies.Quit key c e = absurd (cc)
named_served y luck now request (bodies.SetManifest text) key c e = absurd (cc)
named_served y luck now request bodies.GetManifest key c e = absurd (cc)
named_served y luck now request (bodies.CollectionId path) key c e = absurd (cc)
named_served y luck now request (bodies.ScopeId path) key c e = absurd (cc)
named_served y luck now request (bodies.Get own) key c e = refl
named_served y luck now request (bodies.Store own mode flags expiry value) key c e = refl
named_served y luck now request (bodies.Delete own) key c e = refl
named_served y luck now request (bodies.Count own up delta initial expiry) key c e = refl
named_served y luck now request (bodies.Join own front value) key c e = refl
named_served y luck now request (bodies.Touch own expiry fetch) key c e = refl
named_served y luck now request (bodies.Look own spec) key c e = refl
named_served y luck now request (bodies.Edit own spec expiry flags) key c e = refl
named_served y luck now request (bodies.MultiLook own specs) key c e = refl
named_served y luck now request (bodies.MultiEdit own specs expiry flags) key c e = refl

if_not_active : (request : Request) (c : Copy Content ℕ) (answer : Copy Content ℕ × Outcome) → is_active c.role ≡ false
    → if_active request c answer ≡ (c, refusal request status.NOT_MY_VBUCKET)
if_not_active request c answer e = ap (λ (b : Bool). let r : Copy Content ℕ × Outcome = if b then answer else
    (c, refusal request status.NOT_MY_VBUCKET) in r) e

pub if_is_active : (request : Request) (c : Copy Content ℕ) (answer : Copy Content ℕ × Outcome) → is_active c.role ≡ true
    → if_active request c answer ≡ answer
if_is_active request c answer e = ap (λ (b : Bool). let r : Copy Content ℕ × Outcome = if b then answer else
    (c, refusal request status.NOT_MY_VBUCKET) in r) e

-- a copy that isn't active refuses requests on the manifest
pub inactive_refuses : (y : LayoutKind ℕ) (luck : Luck ℕ) (now : ℕ) (request : Request) (body : Body) (c : Copy Content ℕ)
    → is_for_session body ≡ false → key_named body ≡ None → is_active c.role ≡ false
    → body_step folds y luck now request body c ≡ (c, refusal request status.NOT_MY_VBUCKET)
inactive_refuses y luck now request (bodies.Hello wanted) c s k e = absurd (cc)
inactive_refuses y luck now request bodies.Noop c s k e = absurd (cc)
inactive_refuses y luck now request bodies.Version c s k e = absurd (cc)
inactive_refuses y luck now request bodies.Quit c s k e = absurd (cc)
inactive_refuses y luck now request (bodies.SetManifest text) c s k e = if_not_active request c _ e
inactive_refuses y luck now request bodies.GetManifest c s k e = if_not_active request c _ e
inactive_refuses y luck now request (bodies.CollectionId path) c s k e = if_not_active request c _ e
inactive_refuses y luck now request (bodies.ScopeId path) c s k e = if_not_active request c _ e
inactive_refuses y luck now request (bodies.Get own) c s k e = absurd (cc)
inactive_refuses y luck now request (bodies.Store own mode flags expiry value) c s k e = absurd (cc)
inactive_refuses y luck now request (bodies.Delete own) c s k e = absurd (cc)
inactive_refuses y luck now request (bodies.Count own up delta initial expiry) c s k e = absurd (cc)
inactive_refuses y luck now request (bodies.Join own front value) c s k e = absurd (cc)
inactive_refuses y luck now request (bodies.Touch own expiry fetch) c s k e = absurd (cc)
inactive_refuses y luck now request (bodies.Look own spec) c s k e = absurd (cc)
inactive_refuses y luck now request (bodies.Edit own spec expiry flags) c s k e = absurd (cc)
inactive_refuses y luck now request (bodies.MultiLook own specs) c s k e = absurd (cc)
inactive_refuses y luck now request (bodies.MultiEdit own specs expiry flags) c s k e = absurd (cc)

-- ---- a vbucket and its copy

module _ {D : Type 0} (states : D → List Device) where
  -- what is refused early of a vbucket is refused early of its copy
  living_early : (vb : ShownVb D) (copy : Copy Content ℕ) (request : Request) (key : DocKey) → Stands states vb copy
      → early_by copy.role copy.number copy.log.manifest copy.log.prepares request key ≡ early_refusal vb request key
  living_early vb copy request key s =
      sym (early_same vb.core.role copy.role vb.number copy.number vb.recent.manifest copy.log.manifest vb.recent.prepares
      copy.log.prepares request key
      (ap (λ (c : CopyCore). c.role) s.numbers.core) s.numbers.number (ap (λ (c : Content). c.manifest) s.shows.others)
      (ap (λ (c : Content). c.prepares) s.shows.others))

  dead_inactive : (vb : ShownVb D) (copy : Copy Content ℕ) → Stopped states vb copy → is_active copy.role ≡ false
  dead_inactive vb copy s = ap (λ (r : Role). is_active r) s.dead

  dead_role : (vb : ShownVb D) (copy : Copy Content ℕ) → Stopped states vb copy → is_active vb.core.role ≡ false
  dead_role vb copy s = ap (λ (c : CopyCore). is_active c.role) s.numbers.core ∙ dead_inactive vb copy s

  pub role_is : (vb : ShownVb D) (copy : Copy Content ℕ) → IsCopy states vb copy → is_active copy.role ≡ is_active vb.core.role
  role_is vb copy is = elim is [
    | inl l ↦ ap (λ (c : CopyCore). is_active c.role) (sym l.stands.numbers.core)
    | inr s ↦ ap (λ (c : CopyCore). is_active c.role) (sym s.numbers.core)
  ]

  -- an active vbucket lives
  pub active_lives : (vb : ShownVb D) (copy : Copy Content ℕ) → is_active vb.core.role ≡ true → IsCopy states vb copy
      → Lives states vb copy
  active_lives vb copy e is = elim is [
    | inl l ↦ l
    | inr s ↦ absurd (let f = dead_role vb copy s in cc)
  ]

  pub early_lives : (vb : ShownVb D) (copy : Copy Content ℕ) (request : Request) (key : DocKey) → early_refusal vb request key ≡ None
      → IsCopy states vb copy → Lives states vb copy
  early_lives vb copy request key e = active_lives vb copy (first_passes (is_active vb.core.role) status.NOT_MY_VBUCKET
      (early_rest vb.number vb.recent.manifest vb.recent.prepares request key) e)

  pub lives_passes : (vb : ShownVb D) (copy : Copy Content ℕ) (luck : Luck ℕ) (request : Request) (key : DocKey) → Lives states vb copy
      → request.durability ≡ None → early_refusal vb request key ≡ None
      → first_failing (request_checks folds luck request key copy) ≡ first_failing ((not (fails_read luck.chance), status.ETMPFAIL) ∷ [])
  lives_passes vb copy luck request key l level e = early_passes copy luck request key l.none_waits level
      (living_early vb copy request key l.stands ∙ e)

  living_fails : (vb : ShownVb D) (copy : Copy Content ℕ) (luck : Luck ℕ) (request : Request) (key : DocKey) (why : Status)
      → Lives states vb copy → early_refusal vb request key ≡ Some why
      → first_failing (request_checks folds luck request key copy) ≡ Some why
  living_fails vb copy luck request key why l e = early_fails copy luck request key why (λ a. l.none_waits)
      (living_early vb copy request key l.stands ∙ e)

  dead_fails : (vb : ShownVb D) (copy : Copy Content ℕ) (luck : Luck ℕ) (request : Request) (key : DocKey) (why : Status)
      → Stopped states vb copy → early_refusal vb request key ≡ Some why
      → first_failing (request_checks folds luck request key copy) ≡ Some why
  dead_fails vb copy luck request key why s e =
      let off = dead_inactive vb copy s in
      let here = first_fails (is_active vb.core.role) status.NOT_MY_VBUCKET
      (early_rest vb.number vb.recent.manifest vb.recent.prepares request key) (dead_role vb copy s) in
      early_fails copy luck request key why (λ a. absurd (cc)) (first_fails (is_active copy.role) status.NOT_MY_VBUCKET
      (early_rest copy.number copy.log.manifest copy.log.prepares request key) off ∙ sym here ∙ e)

  -- what refuses a request early refuses it of the copy
  pub copy_fails : (vb : ShownVb D) (copy : Copy Content ℕ) (luck : Luck ℕ) (request : Request) (key : DocKey) (why : Status)
      → IsCopy states vb copy → early_refusal vb request key ≡ Some why
      → first_failing (request_checks folds luck request key copy) ≡ Some why
  copy_fails vb copy luck request key why is e = elim is [
    | inl l ↦ living_fails vb copy luck request key why l e
    | inr s ↦ dead_fails vb copy luck request key why s e
  ]
