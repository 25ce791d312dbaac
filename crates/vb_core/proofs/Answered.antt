-- What each answer makes of the copy that a vbucket is.
use Rattle.std.specs.Prelude.{◌≡◌, ◌⊎◌, ◌+◌, ◌*◌, ◌^◌, ◌≤◌, ◌∷◌, ◌||◌, ℕ, max, nat_le, nat_lt, not, Bool, true, false, List, [], Option, Some, None, Result, Ok, Err, unwrap_or, if◌then◌else◌, refl}
use Rattle.std.proofs.Common.{inl, inr, sym, ◌∙◌, ap, subst, arith}
use Rattle.std.proofs.lemmas.Bool.Decides.{nat_tests}
use Rattle.kv_edge.specs.Edge.{Rose}
use Rattle.doc_model.specs.declared.key.DocKey.{DocKey}
use Rattle.doc_model.specs.declared.document.What.{What}
use Rattle.doc_model.specs.declared.status.Status.{Status}
use Rattle.doc_model.specs.declared.status.TheConstants.Status as status
use Rattle.kv_request.specs.declared.request.Request.{Request}
use Rattle.kv_request.specs.declared.request.Durability.{Durability}
use Rattle.kv_request.specs.declared.request.Body.{Body}
use Rattle.kv_request.specs.declared.request.Body.TheVariants as bodies
use Rattle.kv_request.specs.declared.reply.Reply.{Reply}
use Rattle.kv_request.specs.Tables.{no_key, key_named, document_key, first_failing, is_for_session, refused}
use Rattle.doc_step.specs.declared.Change.{Change}
use Rattle.magma_disk.specs.Counting.{Counts}
use Rattle.magma_disk.specs.Device.{Device}
use Rattle.manifest_rules.specs.declared.applying.Dropped.{Dropped}
use Rattle.manifest_rules.specs.Applying.{text_step, Drops}
use Rattle.manifest_rules.specs.Catalog.{Catalog}
use Rattle.manifest_rules.specs.Rules.{Step}
use Rattle.manifest_rules.specs.Text.{text_of}
use Rattle.manifest_rules.specs.Paths.{collection_by, scope_by}
use Rattle.vb_log.specs.declared.entry.Entry.{Entry}
use Rattle.vb_log.specs.declared.entry.Entry.TheVariants as entries
use Rattle.vb_log.specs.declared.limits.TheConstants.{CONTENT_LIMIT}
use Rattle.vb_log.specs.Content.{Content}
use Rattle.vb_log.specs.Sizes.{size_after}
use Rattle.vb_log.specs.Logs.{folds}
use Rattle.replica_core.specs.Terms.{is_active}
use Rattle.copy_model.specs.declared.limits.TheConstants.{CAS_LIMIT, REQUEST_LIMIT}
use Rattle.copy_model.specs.declared.outcome.Outcome.{Outcome}
use Rattle.copy_model.specs.declared.outcome.Outcome.TheVariants as outcomes
use Rattle.copy_model.specs.Copies.{Copy, Fine, ReadFails, NoMemory, LayoutKind, Luck, fails_read}
use Rattle.copy_model.specs.Disk.{flushed_first}
use Rattle.copy_model.specs.Requests.{moment_of, seeing, refusal, with_token, is_too_much, after_put, changing, telling_next, made, changing_document, changing_at_once, plain_entry, what_of, effecting, concluded, step_on, request_checks, served, drawn, success, installed, set_by, id_answer, body_step, requested}
use Rattle.vb_core.specs.Coming.{Comes, ComesWell, Rests}
use Rattle.vb_core.specs.Flat.{flat}
use Rattle.vb_core.specs.Making.{early_refusal, AddsOne}
use Rattle.vb_core.specs.Means.{HasNumbers, Lives, Stopped, IsCopy}
use Rattle.vb_core.specs.Plans.{IsAtHome}
use Rattle.vb_core.specs.Shown.{ShownVb}
use Rattle.vb_core.proofs.Rested.{luck_of, rests_none, rests_comes, rests_well, comes_behind}
use Rattle.vb_core.proofs.Served.{with_read, read_faults, read_lacks, read_reads, effecting_reads, served_fails, served_goes, if_is_active, inactive_refuses, copy_fails, lives_passes}

named_is : (body : Body) (key : DocKey) → key_named body ≡ Some key → document_key body ≡ key
named_is body key e = ap (λ (o : Option DocKey). unwrap_or o no_key) e

or_left : (a b : Bool) → a ≡ true → (a || b) ≡ true
or_left true b e = refl
or_left false b e = absurd (cc)

or_right : (a b : Bool) → b ≡ true → (a || b) ≡ true
or_right true b e = refl
or_right false b e = e

-- ---- changes

too_great : (content : Content) (cas : ℕ) (e : Entry) → CAS_LIMIT ≤ cas → is_too_much content cas e ≡ true
too_great content cas e h =
    let much : nat_le CAS_LIMIT cas ≡ true = grind (arith, nat_tests) in
    or_left (nat_le REQUEST_LIMIT content.length || nat_le CAS_LIMIT cas) (nat_lt CONTENT_LIMIT (size_after content e))
    (or_right (nat_le REQUEST_LIMIT content.length) (nat_le CAS_LIMIT cas) much)

too_much : (y : LayoutKind ℕ) (luck : Luck ℕ) (request : Request) (cas : ℕ) (e : Entry) (change : Copy Content ℕ
    → Copy Content ℕ × Outcome) (c : Copy Content ℕ) → CAS_LIMIT ≤ cas
    → changing folds y luck request cas e change c ≡ (c, refusal request status.E2BIG)
too_much y luck request cas e change c h =
    ap (λ (b : Bool). let r : Copy Content ℕ × Outcome = if b then (c, refusal request status.E2BIG) else after_put change request c
    (flushed_first folds y luck c) in r) (too_great c.log cas e h)

at_once : (y : LayoutKind ℕ) (luck : Luck ℕ) (now : ℕ) (request : Request) (cas : ℕ) (reply : Reply) (what : What) (key : DocKey)
    (c : Copy Content ℕ) → request.durability ≡ None → key_named request.body ≡ Some key
    → effecting folds y luck now request cas reply (Some what) c ≡ changing_at_once folds y luck request cas reply (plain_entry key what)
    c
at_once y luck now request cas reply what key c level named =
    ap (λ (d : Option Durability). changing_document folds y luck now request cas reply what d c) level
    ∙ ap (λ (k : DocKey). changing_at_once folds y luck request cas reply (plain_entry k what) c) (named_is request.body key named)

-- ---- manifests

abbrev Unchanged : LayoutKind ℕ → Luck ℕ → Request → List ℕ → Copy Content ℕ → Result Step Status → Type 0
Unchanged y luck request text c r = set_by folds y luck request text r c ≡ (c, outcomes.Reply (success request [] []))

nothing_set : (y : LayoutKind ℕ) (luck : Luck ℕ) (request : Request) (text : List ℕ) (r : Result Step Status) (dropped : Dropped)
    (c : Copy Content ℕ) → Drops r dropped → dropped.changed ≡ false → Unchanged y luck request text c r
nothing_set y luck request text (Ok step) dropped c d e =
    ap (λ (b : Bool). let r : Copy Content ℕ × Outcome = if b then changing folds y luck request 0 (entries.Manifest text)
    (installed folds request (entries.Manifest text)) c else (c, outcomes.Reply (success request [] [])) in r) (d.1 ∙ e)
nothing_set y luck request text (Err why) dropped c d e = absurd d

something_set : (y : LayoutKind ℕ) (luck : Luck ℕ) (request : Request) (text : List ℕ) (r : Result Step Status) (dropped : Dropped)
    (c : Copy Content ℕ) → Drops r dropped → dropped.changed ≡ true
    → set_by folds y luck request text r c ≡ changing folds y luck request 0 (entries.Manifest text)
    (installed folds request (entries.Manifest text)) c
something_set y luck request text (Ok step) dropped c d e =
    ap (λ (b : Bool). let r : Copy Content ℕ × Outcome = if b then changing folds y luck request 0 (entries.Manifest text)
    (installed folds request (entries.Manifest text)) c else (c, outcomes.Reply (success request [] [])) in r) (d.1 ∙ e)
something_set y luck request text (Err why) dropped c d e = absurd d

-- ---- answers of a vbucket

module _ {D : Type 0} (states : D → List Device) (counts : D → Counts) where
  -- an answer that changed nothing, where all went well
  pub fine_well : {A : Type 0} (copy : Copy Content ℕ) (step : Luck ℕ → Copy Content ℕ × A) (old new : ShownVb D) (told : A)
      → IsAtHome old → IsCopy states old copy → Rests states old new → step (luck_of Fine copy) ≡ (copy, told)
      → ComesWell states counts copy step old new told
  fine_well copy step old new told home is r e = rests_well states counts Fine copy step old new told refl home is r e (λ f. absurd (cc))

  -- the same answer of another step that goes alike
  pub comes_alike : {A : Type 0} (copy : Copy Content ℕ) (step other : Luck ℕ → Copy Content ℕ × A) (old new : ShownVb D) (told : A)
      → ((luck : Luck ℕ) → other luck ≡ step luck) → ComesWell states counts copy step old new told
      → ComesWell states counts copy other old new told
  comes_alike copy step other old new told same h =
      comes_behind states counts copy step other old old new told (λ luck. luck) (rests_none states old) (omega arith) same
      (λ luck. refl) (λ luck e. e) (λ luck. refl) h

  pub early_comes : (vb : ShownVb D) (request : Request) (key : DocKey) (why : Status) (now : ℕ) (reply : Reply) → IsAtHome vb
      → key_named request.body ≡ Some key
      → early_refusal vb request key ≡ Some why → reply ≡ refused request.opcode request.opaque why
      → (copy : Copy Content ℕ) → IsCopy states vb copy
      → ComesWell states counts copy (λ luck. served folds (flat copy.chain) luck now request copy) vb vb (outcomes.Reply reply)
  early_comes vb request key why now reply home named early is_reply copy is =
      let its : early_refusal vb request (document_key request.body) ≡ Some why = ap (λ (k : DocKey). early_refusal vb request k)
      (named_is request.body key named) ∙ early in
      let luck : Luck ℕ = luck_of Fine copy in
      fine_well copy (λ luck. served folds (flat copy.chain) luck now request copy) vb vb (outcomes.Reply reply) home is
      (rests_none states vb)
      (served_fails (flat copy.chain) luck now request copy why (copy_fails states vb copy luck request (document_key request.body) why
      is its)
      ∙ ap (λ (r : Reply). (copy, outcomes.Reply r)) (sym is_reply))

  -- a request on a document that isn't refused early, and after which nothing changed but what the disk counts
  pub record IsServed (old mid : ShownVb D) (request : Request) (key : DocKey) (copy : Copy Content ℕ) : Type 0 where
    pub home : IsAtHome old
    pub named : key_named request.body ≡ Some key
    pub level : request.durability ≡ None
    pub early : early_refusal old request key ≡ None
    pub lives : Lives states old copy
    pub rests : Rests states old mid

  passes_early : (old mid : ShownVb D) (request : Request) (key : DocKey) (copy : Copy Content ℕ) (luck : Luck ℕ)
      → IsServed old mid request key copy
      → first_failing (request_checks folds luck request (document_key request.body) copy) ≡ first_failing
      ((not (fails_read luck.chance), status.ETMPFAIL) ∷ [])
  passes_early old mid request key copy luck h =
      lives_passes states old copy luck request (document_key request.body) h.lives h.level
      (ap (λ (k : DocKey). early_refusal old request k) (named_is request.body key h.named) ∙ h.early)

  goes_on : (old mid : ShownVb D) (request : Request) (key : DocKey) (copy : Copy Content ℕ) (luck : Luck ℕ) (now : ℕ)
      → IsServed old mid request key copy → fails_read luck.chance ≡ false
      → served folds (flat copy.chain) luck now request copy ≡ concluded folds (flat copy.chain) luck now request
      (drawn copy.log copy.seen) (step_on copy.log copy.seen now request) copy
  goes_on old mid request key copy luck now h e =
      served_goes (flat copy.chain) luck now request copy
      (passes_early old mid request key copy luck h ∙ ap (λ (b : Bool). first_failing ((not b, status.ETMPFAIL) ∷ [])) e)

  -- it is refused by the document's step, or since the document couldn't be read
  pub refused_comes : (old mid : ShownVb D) (request : Request) (key : DocKey) (why : Status) (now : ℕ) (reply : Reply)
      (copy : Copy Content ℕ) → IsServed old mid request key copy
      → (step_on copy.log copy.seen now request ≡ Err why) ⊎ ((why ≡ status.ETMPFAIL) × Rose (counts old.store.disk).faults
      (counts mid.store.disk).faults)
      → reply ≡ refused request.opcode request.opaque why
      → ComesWell states counts copy (λ luck. served folds (flat copy.chain) luck now request copy) old mid (outcomes.Reply reply)
  refused_comes old mid request key why now reply copy h planned is_reply =
      let step : Luck ℕ → Copy Content ℕ × Outcome = λ luck. served folds (flat copy.chain) luck now request copy in
      let told : (s : Status) → s ≡ why → ◌≡◌ {A = Copy Content ℕ × Outcome} (copy, refusal request s)
      (copy, outcomes.Reply reply) = λ s e. ap (λ (x : Status). (copy, refusal request x)) e
      ∙ ap (λ (r : Reply). (copy, outcomes.Reply r)) (sym is_reply) in
      elim planned [
        | inl e ↦
            fine_well copy step old mid (outcomes.Reply reply) h.home (inl h.lives) h.rests
            (goes_on old mid request key copy (luck_of Fine copy) now h refl
            ∙ ap (λ (r : Result Change Status). concluded folds (flat copy.chain) (luck_of Fine copy) now request
            (drawn copy.log copy.seen) r copy) e
            ∙ told why refl)
        | inr f ↦
            rests_well states counts ReadFails copy step old mid (outcomes.Reply reply) refl h.home (inl h.lives) h.rests
            (served_fails (flat copy.chain) (luck_of ReadFails copy) now request copy status.ETMPFAIL
            (passes_early old mid request key copy (luck_of ReadFails copy) h)
            ∙ told status.ETMPFAIL (sym f.0))
            (λ e. f.1)
      ]

  -- what its change comes to
  pub effect_comes : (old mid new : ShownVb D) (request : Request) (key : DocKey) (cas now : ℕ) (change : Change) (told : Outcome)
      (copy : Copy Content ℕ) → IsServed old mid request key copy
      → (counts old.store.disk).faults ≤ (counts mid.store.disk).faults
      → cas ≡ max (old.recent.greatest_cas + 1) (old.seen * 2 ^ 20) → step_on copy.log copy.seen now request ≡ Ok change
      → ComesWell states counts copy (λ luck. effecting folds (flat copy.chain) luck now request cas change.reply
      (what_of change.effect cas) copy) mid new told
      → ComesWell states counts copy (λ luck. served folds (flat copy.chain) luck now request copy) old new told
  effect_comes old mid new request key cas now change told copy h low cas_is e made =
      let s = h.lives.stands in
      let draw : drawn copy.log copy.seen ≡ cas =
      sym (cas_is ∙ ap (λ (n : ℕ). max (old.recent.greatest_cas + 1) (n * 2 ^ 20)) s.numbers.seen
      ∙ ap (λ (c : Content). max (c.greatest_cas + 1) (copy.seen * 2 ^ 20)) s.shows.others) in
      let y : LayoutKind ℕ = flat copy.chain in
      comes_behind states counts copy (λ luck. effecting folds y luck now request cas change.reply (what_of change.effect cas) copy)
      (λ luck. served folds y luck now request copy) old mid new told (λ luck. with_read luck) h.rests low
      (λ luck.
      goes_on old mid request key copy (with_read luck) now h (read_reads luck.chance)
      ∙ ap (λ (r : Result Change Status). concluded folds y (with_read luck) now request (drawn copy.log copy.seen) r copy) e
      ∙ ap (λ (n : ℕ). concluded folds y (with_read luck) now request n (Ok change) copy) draw
      ∙ effecting_reads y luck now request cas change.reply (what_of change.effect cas) copy)
      (λ luck. refl) (λ luck. read_faults luck.chance) (λ luck. read_lacks luck.chance) made

  pub nothing_comes : (vb : ShownVb D) (request : Request) (cas now : ℕ) (reply : Reply) (copy : Copy Content ℕ) → IsAtHome vb
      → Lives states vb copy
      → ComesWell states counts copy (λ luck. effecting folds (flat copy.chain) luck now request cas reply None copy) vb vb
      (outcomes.Reply reply)
  nothing_comes vb request cas now reply copy home lives =
      fine_well copy (λ luck. effecting folds (flat copy.chain) luck now request cas reply None copy) vb vb (outcomes.Reply reply) home
      (inl lives) (rests_none states vb) refl

  pub at_once_comes : (old new : ShownVb D) (request : Request) (key : DocKey) (cas now : ℕ) (reply : Reply) (what : What)
      (told : Outcome) (copy : Copy Content ℕ) → request.durability ≡ None → key_named request.body ≡ Some key
      → ComesWell states counts copy (λ luck. changing_at_once folds (flat copy.chain) luck request cas reply (plain_entry key what)
      copy) old new told
      → ComesWell states counts copy (λ luck. effecting folds (flat copy.chain) luck now request cas reply (Some what) copy) old new told
  at_once_comes old new request key cas now reply what told copy level named h =
      comes_alike copy (λ luck. changing_at_once folds (flat copy.chain) luck request cas reply (plain_entry key what) copy)
      (λ luck. effecting folds (flat copy.chain) luck now request cas reply (Some what) copy) old new told
      (λ luck. at_once (flat copy.chain) luck now request cas reply what key copy level named) h

  pub too_much_comes : (vb : ShownVb D) (request : Request) (cas : ℕ) (e : Entry) (change : Copy Content ℕ → Copy Content ℕ × Outcome)
      (reply : Reply) (copy : Copy Content ℕ) → IsAtHome vb → Lives states vb copy
      → CAS_LIMIT ≤ cas → reply ≡ refused request.opcode request.opaque status.E2BIG
      → ComesWell states counts copy (λ luck. changing folds (flat copy.chain) luck request cas e change copy) vb vb
      (outcomes.Reply reply)
  too_much_comes vb request cas e change reply copy home lives much is_reply =
      fine_well copy (λ luck. changing folds (flat copy.chain) luck request cas e change copy) vb vb (outcomes.Reply reply) home
      (inl lives) (rests_none states vb)
      (too_much (flat copy.chain) (luck_of Fine copy) request cas e change copy much
      ∙ ap (λ (r : Reply). (copy, outcomes.Reply r)) (sym is_reply))

  -- what is told, said otherwise
  pub told_so : (old new : ShownVb D) (copy : Copy Content ℕ) (step : Luck ℕ → Copy Content ℕ × Outcome) (reply other : Reply)
      → reply ≡ other
      → ComesWell states counts copy step old new (outcomes.Reply other)
      → ComesWell states counts copy step old new (outcomes.Reply reply)
  told_so old new copy step reply other e h = subst (λ (r : Reply). ComesWell states counts copy step old new (outcomes.Reply r))
      (sym e) h

  pub made_comes : (old new : ShownVb D) (request : Request) (cas : ℕ) (e : Entry) (reply told : Reply) (copy : Copy Content ℕ)
      → (h : AddsOne states counts copy cas e old new)
      → told ≡ with_token request.body new.core.accepted new.core.length reply
      → ComesWell states counts copy (λ luck. changing folds (flat copy.chain) luck request cas e (made folds request reply e) copy) old
      new (outcomes.Reply told)
  made_comes old new request cas e reply told copy h is_told =
      told_so old new copy (λ luck. changing folds (flat copy.chain) luck request cas e (made folds request reply e) copy) told
      (telling_next folds request reply h.before)
      (is_told ∙ ap (λ (n : ℕ). with_token request.body n new.core.length reply) h.term
      ∙ ap (λ (n : ℕ). with_token request.body h.before.accepted n reply) h.position)
      (h.comes request (λ c. outcomes.Reply (telling_next folds request reply c)))

  pub installed_comes : (old new : ShownVb D) (request : Request) (e : Entry) (told : Reply) (copy : Copy Content ℕ)
      → AddsOne states counts copy 0 e old new → told ≡ success request [] []
      → ComesWell states counts copy (λ luck. changing folds (flat copy.chain) luck request 0 e (installed folds request e) copy) old new
      (outcomes.Reply told)
  installed_comes old new request e told copy h is_told =
      told_so old new copy (λ luck. changing folds (flat copy.chain) luck request 0 e (installed folds request e) copy) told
      (success request [] []) is_told
      (h.comes request (λ c. outcomes.Reply (success request [] [])))

  -- ---- the manifest

  manifest_is : (vb : ShownVb D) (copy : Copy Content ℕ) → Lives states vb copy → copy.log.manifest ≡ vb.recent.manifest
  manifest_is vb copy l = sym (ap (λ (c : Content). c.manifest) l.stands.shows.others)

  pub set_refused : (vb : ShownVb D) (request : Request) (text : List ℕ) (why : Status) (reply : Reply) → IsAtHome vb
      → text_step vb.recent.manifest text ≡ Err why → reply ≡ refused request.opcode request.opaque why
      → (copy : Copy Content ℕ) → Lives states vb copy
      → ComesWell states counts copy (λ luck. set_by folds (flat copy.chain) luck request text (text_step copy.log.manifest text) copy)
      vb vb (outcomes.Reply reply)
  set_refused vb request text why reply home e is_reply copy lives =
      fine_well copy (λ luck. set_by folds (flat copy.chain) luck request text (text_step copy.log.manifest text) copy) vb vb
      (outcomes.Reply reply) home (inl lives) (rests_none states vb)
      (ap (λ (r : Result Step Status). set_by folds (flat copy.chain) (luck_of Fine copy) request text r copy)
      (ap (λ (m : Catalog). text_step m text) (manifest_is vb copy lives) ∙ e)
      ∙ ap (λ (r : Reply). (copy, outcomes.Reply r)) (sym is_reply))

  drops_in : (vb : ShownVb D) (copy : Copy Content ℕ) (text : List ℕ) (dropped : Dropped) → Lives states vb copy
      → Drops (text_step vb.recent.manifest text) dropped → Drops (text_step copy.log.manifest text) dropped
  drops_in vb copy text dropped lives d = subst (λ (m : Catalog). Drops (text_step m text) dropped) (sym (manifest_is vb copy lives)) d

  pub set_unchanged : (vb : ShownVb D) (request : Request) (text : List ℕ) (dropped : Dropped) (reply : Reply) → IsAtHome vb
      → Drops (text_step vb.recent.manifest text) dropped → dropped.changed ≡ false
      → reply ≡ success request [] []
      → (copy : Copy Content ℕ) → Lives states vb copy
      → ComesWell states counts copy (λ luck. set_by folds (flat copy.chain) luck request text (text_step copy.log.manifest text) copy)
      vb vb (outcomes.Reply reply)
  set_unchanged vb request text dropped reply home d e is_reply copy lives =
      fine_well copy (λ luck. set_by folds (flat copy.chain) luck request text (text_step copy.log.manifest text) copy) vb vb
      (outcomes.Reply reply) home (inl lives) (rests_none states vb)
      (nothing_set (flat copy.chain) (luck_of Fine copy) request text (text_step copy.log.manifest text) dropped copy
      (drops_in vb copy text dropped lives d) e
      ∙ ap (λ (r : Reply). (copy, outcomes.Reply r)) (sym is_reply))

  pub set_changed : (old new : ShownVb D) (request : Request) (text : List ℕ) (dropped : Dropped) (told : Outcome)
      → Drops (text_step old.recent.manifest text) dropped → dropped.changed ≡ true
      → (copy : Copy Content ℕ) → Lives states old copy
      → ComesWell states counts copy (λ luck. changing folds (flat copy.chain) luck request 0 (entries.Manifest text)
      (installed folds request (entries.Manifest text)) copy) old new told
      → ComesWell states counts copy (λ luck. set_by folds (flat copy.chain) luck request text (text_step copy.log.manifest text) copy)
      old new told
  set_changed old new request text dropped told d e copy lives h =
      comes_alike copy (λ luck. changing folds (flat copy.chain) luck request 0 (entries.Manifest text)
      (installed folds request (entries.Manifest text)) copy)
      (λ luck. set_by folds (flat copy.chain) luck request text (text_step copy.log.manifest text) copy) old new told
      (λ luck. something_set (flat copy.chain) luck request text (text_step copy.log.manifest text) dropped copy
      (drops_in old copy text dropped lives d) e) h

  -- ---- a request on the manifest

  pub inactive_comes : (vb : ShownVb D) (request : Request) (now : ℕ) (reply : Reply) → IsAtHome vb → is_for_session request.body ≡ false
      → key_named request.body ≡ None → is_active vb.core.role ≡ false
      → reply ≡ refused request.opcode request.opaque status.NOT_MY_VBUCKET
      → (copy : Copy Content ℕ) → IsCopy states vb copy → is_active copy.role ≡ is_active vb.core.role
      → ComesWell states counts copy (λ luck. body_step folds (flat copy.chain) luck now request request.body copy) vb vb
      (outcomes.Reply reply)
  inactive_comes vb request now reply home ours named off is_reply copy is role =
      fine_well copy (λ luck. body_step folds (flat copy.chain) luck now request request.body copy) vb vb (outcomes.Reply reply) home is
      (rests_none states vb)
      (inactive_refuses (flat copy.chain) (luck_of Fine copy) now request request.body copy ours named (role ∙ off)
      ∙ ap (λ (r : Reply). (copy, outcomes.Reply r)) (sym is_reply))

  pub set_comes : (old new : ShownVb D) (request : Request) (now : ℕ) (text : List ℕ) (told : Outcome) (copy : Copy Content ℕ)
      → request.body ≡ bodies.SetManifest text → is_active copy.role ≡ true
      → ComesWell states counts copy (λ luck. set_by folds (flat copy.chain) luck request text (text_step copy.log.manifest text) copy)
      old new told
      → ComesWell states counts copy (λ luck. body_step folds (flat copy.chain) luck now request request.body copy) old new told
  set_comes old new request now text told copy body active h =
      comes_alike copy (λ luck. set_by folds (flat copy.chain) luck request text (text_step copy.log.manifest text) copy)
      (λ luck. body_step folds (flat copy.chain) luck now request request.body copy) old new told
      (λ luck. ap (λ (b : Body). body_step folds (flat copy.chain) luck now request b copy) body
      ∙ if_is_active request copy (set_by folds (flat copy.chain) luck request text (text_step copy.log.manifest text) copy) active) h

  pub get_comes : (vb : ShownVb D) (request : Request) (now : ℕ) (reply : Reply) (copy : Copy Content ℕ) → IsAtHome vb
      → request.body ≡ bodies.GetManifest → is_active copy.role ≡ true → Lives states vb copy
      → reply ≡ success request [] (text_of vb.recent.manifest)
      → ComesWell states counts copy (λ luck. body_step folds (flat copy.chain) luck now request request.body copy) vb vb
      (outcomes.Reply reply)
  get_comes vb request now reply copy home body active lives is_reply =
      fine_well copy (λ luck. body_step folds (flat copy.chain) luck now request request.body copy) vb vb (outcomes.Reply reply) home
      (inl lives) (rests_none states vb)
      (ap (λ (b : Body). body_step folds (flat copy.chain) (luck_of Fine copy) now request b copy) body
      ∙ if_is_active request copy (copy, outcomes.Reply (success request [] (text_of copy.log.manifest))) active
      ∙ ap (λ (m : Catalog). (copy, outcomes.Reply (success request [] (text_of m)))) (manifest_is vb copy lives)
      ∙ ap (λ (r : Reply). (copy, outcomes.Reply r)) (sym is_reply))

  pub collection_comes : (vb : ShownVb D) (request : Request) (now : ℕ) (path : List ℕ) (reply : Reply) (copy : Copy Content ℕ)
      → IsAtHome vb → request.body ≡ bodies.CollectionId path → is_active copy.role ≡ true → Lives states vb copy
      → reply ≡ id_answer vb.recent request (collection_by vb.recent.manifest.scopes path)
      → ComesWell states counts copy (λ luck. body_step folds (flat copy.chain) luck now request request.body copy) vb vb
      (outcomes.Reply reply)
  collection_comes vb request now path reply copy home body active lives is_reply =
      fine_well copy (λ luck. body_step folds (flat copy.chain) luck now request request.body copy) vb vb (outcomes.Reply reply) home
      (inl lives) (rests_none states vb)
      (ap (λ (b : Body). body_step folds (flat copy.chain) (luck_of Fine copy) now request b copy) body
      ∙ if_is_active request copy (copy, outcomes.Reply (id_answer copy.log request (collection_by copy.log.manifest.scopes path))) active
      ∙ ap (λ (c : Content). (copy, outcomes.Reply (id_answer c request (collection_by c.manifest.scopes path))))
      (sym lives.stands.shows.others)
      ∙ ap (λ (r : Reply). (copy, outcomes.Reply r)) (sym is_reply))

  pub scope_comes : (vb : ShownVb D) (request : Request) (now : ℕ) (path : List ℕ) (reply : Reply) (copy : Copy Content ℕ) → IsAtHome vb
      → request.body ≡ bodies.ScopeId path → is_active copy.role ≡ true → Lives states vb copy
      → reply ≡ id_answer vb.recent request (scope_by vb.recent.manifest.scopes path)
      → ComesWell states counts copy (λ luck. body_step folds (flat copy.chain) luck now request request.body copy) vb vb
      (outcomes.Reply reply)
  scope_comes vb request now path reply copy home body active lives is_reply =
      fine_well copy (λ luck. body_step folds (flat copy.chain) luck now request request.body copy) vb vb (outcomes.Reply reply) home
      (inl lives) (rests_none states vb)
      (ap (λ (b : Body). body_step folds (flat copy.chain) (luck_of Fine copy) now request b copy) body
      ∙ if_is_active request copy (copy, outcomes.Reply (id_answer copy.log request (scope_by copy.log.manifest.scopes path))) active
      ∙ ap (λ (c : Content). (copy, outcomes.Reply (id_answer c request (scope_by c.manifest.scopes path))))
      (sym lives.stands.shows.others)
      ∙ ap (λ (r : Reply). (copy, outcomes.Reply r)) (sym is_reply))

  -- ---- the request

  seen_numbers : (vb : ShownVb D) (copy : Copy Content ℕ) (now seen : ℕ) → HasNumbers vb copy → seen ≡ max vb.seen (moment_of now)
      → HasNumbers (record vb { seen = seen }) (seeing now copy)
  seen_numbers vb copy now seen h e = record { core = h.core; number = h.number; seen = e ∙ ap (λ (n : ℕ). max n (moment_of now)) h.seen }

  living_sees : (vb : ShownVb D) (copy : Copy Content ℕ) (now seen : ℕ) → seen ≡ max vb.seen (moment_of now) → Lives states vb copy
      → Lives states (record vb { seen = seen }) (seeing now copy)
  living_sees vb copy now seen e l =
      let s = l.stands in
      record {
        stands = record {
          active = s.active;
          numbers = seen_numbers vb copy now seen s.numbers e;
          held = s.held;
          is_open = record { on_disk = s.is_open.on_disk; meta = s.is_open.meta; spots = s.is_open.spots };
          pair = s.pair;
          torn = s.torn;
          whole = s.whole;
          told = s.told;
          shows = s.shows;
          made = s.made;
          on_disk = s.on_disk;
          longer = s.longer;
          recently = s.recently;
          anew = s.anew;
          inherited = s.inherited;
          entries = s.entries;
          bytes = s.bytes;
        };
        none_waits = l.none_waits;
        tickets = l.tickets;
        deadlines = l.deadlines;
      }

  stopped_sees : (vb : ShownVb D) (copy : Copy Content ℕ) (now seen : ℕ) → seen ≡ max vb.seen (moment_of now) → Stopped states vb copy
      → Stopped states (record vb { seen = seen }) (seeing now copy)
  stopped_sees vb copy now seen e s = record { dead = s.dead; numbers = seen_numbers vb copy now seen s.numbers e; leaves = s.leaves }

  -- a vbucket that has seen a moment is the copy that has
  pub copy_sees : (vb : ShownVb D) (copy : Copy Content ℕ) (now seen : ℕ) → seen ≡ max vb.seen (moment_of now) → IsCopy states vb copy
      → IsCopy states (record vb { seen = seen }) (seeing now copy)
  copy_sees vb copy now seen e is = elim is [
    | inl l ↦ inl (living_sees vb copy now seen e l)
    | inr s ↦ inr
        (stopped_sees vb copy now seen e s)
  ]

  pub answer_comes : (old new : ShownVb D) (request : Request) (now seen : ℕ) (told : Outcome) (copy : Copy Content ℕ)
      → ComesWell states counts (seeing now copy) (λ luck. body_step folds (flat (seeing now copy).chain) luck (moment_of now) request
      request.body (seeing now copy)) (record old { seen = seen }) new told
      → Comes states counts copy (λ luck. requested folds (flat copy.chain) luck request now copy) old new told
  answer_comes old new request now seen told copy h = record {
    luck = h.comes.luck;
    after = h.comes.after;
    goes =
        ap (λ (b : Bool). let r : Copy Content ℕ × Outcome = if b then (copy, refusal request status.ENOMEM) else body_step folds
        (flat copy.chain) h.comes.luck (moment_of now) request request.body (seeing now copy) in r) h.sufficed
        ∙ h.comes.goes;
    layout = h.comes.layout;
    is = h.comes.is;
    cause = h.comes.cause;
    leaves = h.comes.leaves;
  }

  -- what was seen is forgotten again, where memory was wanting
  pub forgets : (old mid : ShownVb D) (seen : ℕ) → Rests states (record old { seen = seen }) mid
      → Rests states old (record mid { seen = old.seen })
  forgets old mid seen r = record { all_else = ap (λ (v : ShownVb D). record v { seen = old.seen }) r.all_else; same = r.same }

  pub wanting_comes : (old new : ShownVb D) (request : Request) (now : ℕ) (told : Outcome) (copy : Copy Content ℕ) → IsAtHome old
      → IsCopy states old copy → Rests states old new → told ≡ refusal request status.ENOMEM
      → Comes states counts copy (λ luck. requested folds (flat copy.chain) luck request now copy) old new told
  wanting_comes old new request now told copy home is r is_told =
      rests_comes states counts NoMemory copy (λ luck. requested folds (flat copy.chain) luck request now copy) old new told home is r
      (ap (λ (o : Outcome). (copy, o)) (sym is_told)) (λ e. absurd (cc))

  -- a request is answered at a moment that was seen, where `inside` is what the vbucket is seen to be
  pub request_comes : (inside vb new : ShownVb D) (request : Request) (now moment seen : ℕ) (told : Outcome) (copy : Copy Content ℕ)
      → inside ≡ vb → moment ≡ moment_of now → seen ≡ max inside.seen moment → IsCopy states vb copy
      → ((c : Copy Content ℕ) → IsCopy states (record inside { seen = seen }) c
      → ComesWell states counts c (λ luck. body_step folds (flat c.chain) luck moment request request.body c)
      (record inside { seen = seen }) new told)
      → Comes states counts copy (λ luck. requested folds (flat copy.chain) luck request now copy) vb new told
  request_comes inside vb new request now moment seen told copy is_vb is_moment is_seen is h =
      let of_inside : IsCopy states inside copy = subst (λ (v : ShownVb D). IsCopy states v copy) (sym is_vb) is in
      let sees : IsCopy states (record inside { seen = seen }) (seeing now copy) = copy_sees inside copy now seen (is_seen
      ∙ ap (λ (n : ℕ). max inside.seen n) is_moment) of_inside in
      let answered : ComesWell states counts (seeing now copy) (λ luck. body_step folds (flat (seeing now copy).chain) luck
      (moment_of now) request request.body (seeing now copy)) (record inside { seen = seen }) new told =
      subst (λ (n : ℕ). ComesWell states counts (seeing now copy)
      (λ luck. body_step folds (flat (seeing now copy).chain) luck n request request.body (seeing now copy))
      (record inside { seen = seen }) new told) is_moment (h (seeing now copy) sees) in
      subst (λ (v : ShownVb D). Comes states counts copy (λ luck. requested folds (flat copy.chain) luck request now copy) v new told)
      is_vb
      (answer_comes inside new request now seen told copy answered)

  -- or memory was wanting
  pub want_comes : (inside vb left new : ShownVb D) (request : Request) (now seen : ℕ) (told : Outcome) (copy : Copy Content ℕ)
      → inside ≡ vb → left ≡ new → IsAtHome vb → Rests states (record inside { seen = seen }) new
      → told ≡ refusal request status.ENOMEM → IsCopy states vb copy
      → Comes states counts copy (λ luck. requested folds (flat copy.chain) luck request now copy) vb
      (record left { seen = inside.seen }) told
  want_comes inside vb left new request now seen told copy is_vb is_new home rests is_told is =
      let r : Rests states inside (record left { seen = inside.seen }) = forgets inside left seen
      (subst (λ (v : ShownVb D). Rests states (record inside { seen = seen }) v) (sym is_new) rests) in
      wanting_comes vb (record left { seen = inside.seen }) request now told copy home is
      (subst (λ (v : ShownVb D). Rests states v (record left { seen = inside.seen })) is_vb r) is_told
