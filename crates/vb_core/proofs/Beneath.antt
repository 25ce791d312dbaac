-- What a key has in a log, by what is in memory and what was read of the disk.
use Rattle.std.specs.Prelude.{◌≡◌, ◌+◌, ◌*◌, ◌^◌, ℕ, max, is_some, Bool, true, false, cond, not, IsTrue, List, Option, Some, None, Result, Err, unwrap_or, refl}
use Rattle.std.specs.FinMap as map
use Rattle.std.specs.List.{list_any}
use Rattle.std.specs.Prelude.{nat_eq}
use Rattle.std.specs.Option.{IfSome, option_copied}
use Rattle.std.proofs.Common.{inl, sym, ◌∙◌, ap, Bor}
use Rattle.doc_model.specs.declared.key.DocKey.{DocKey}
use Rattle.doc_model.specs.declared.document.Doc.{Doc}
use Rattle.doc_model.specs.declared.document.Item.{Item}
use Rattle.doc_model.specs.declared.document.What.TheVariants as whats
use Rattle.doc_model.specs.declared.status.Status.{Status}
use Rattle.doc_model.specs.declared.status.Refused.{Refused}
use Rattle.doc_model.specs.declared.status.Refused.TheVariants as refusals
use Rattle.doc_model.specs.Keys.{key_cmp}
use Rattle.doc_model.proofs.Drops.{get_kept}
use Rattle.kv_request.specs.declared.request.Request.{Request}
use Rattle.kv_request.specs.Tables.{no_key, key_named, document_key}
use Rattle.manifest_rules.specs.Catalog.{Catalog, max_ttl_of}
use Rattle.manifest_rules.specs.State.{is_kept}
use Rattle.doc_step.specs.declared.Change.{Change}
use Rattle.doc_step.specs.Step.{document_step, Plans}
use Rattle.vb_log.specs.Content.{Content, doc_in, has_collection, item_made}
use Rattle.vb_log.specs.Stored.{IsStorable}
use Rattle.magma_disk.specs.Device.{Device}
use Rattle.copy_model.specs.Copies.{Copy}
use Rattle.copy_model.specs.Requests.{setting_at, drawn, step_on}
use Rattle.vb_core.specs.Coming.{Rests}
use Rattle.vb_core.specs.Making.{PlansOn, drawn_by}
use Rattle.vb_core.specs.Means.{Stands, beneath, over}
use Rattle.vb_core.specs.Shown.{ShownVb, AreStorable}
use Rattle.vb_core.proofs.Batching.{isnt_dropped}

-- ---- where a key's item is

-- whether a key has an item, by what was found of it
pub some_copied : (found : Option (Bor Item)) (o : Option Item) (b : Bool) → option_copied found ≡ o → is_some found ≡ b → is_some o ≡ b
some_copied found o b is e = ap is_some (sym is) ∙ go found ∙ e
  where
    go : (f : Option (Bor Item)) → is_some (option_copied f) ≡ is_some f
    go None = refl
    go (Some x) = refl

in_memory : (recent under log : Option Item) → log ≡ over recent under → is_some recent ≡ true → over recent None ≡ log
in_memory None under log e is = absurd (cc)
in_memory (Some item) under log e is = sym e

in_store : (recent under log held : Option Item) → log ≡ over recent under → is_some recent ≡ false → held ≡ under → over recent held ≡ log
in_store (Some item) under log held e is same = absurd (cc)
in_store None under log held e is same = same ∙ sym e

-- a key of a collection that is there has beneath what it has on disk
held_beneath : (anew : Bool) (manifest : Catalog) (items : map.FinMap key_cmp Item) (key : DocKey) → anew ≡ false → IsTrue (is_kept manifest)
    → has_collection manifest key.collection ≡ true → map.get items key ≡ map.get (beneath anew manifest items) key
held_beneath true manifest items key e kept there = absurd (cc)
held_beneath false manifest items key e kept there =
    sym (get_kept items (λ k. not (list_any (nat_eq k.collection) manifest.dropped_collections)) key
    ∙ ap (λ b. cond (not b) (map.get items key) None) (isnt_dropped manifest (item_made 0 key (whats.Remove 0)) kept there))

-- where the log was begun anew, nothing lies beneath
none_beneath : (anew : Bool) (manifest : Catalog) (items : map.FinMap key_cmp Item) (key : DocKey) → anew ≡ true
    → map.get (beneath anew manifest items) key ≡ None
none_beneath true manifest items key e = map.get-empty key_cmp key
none_beneath false manifest items key e = absurd (cc)

module _ {D : Type 0} (states : D → List Device) (vb : ShownVb D) (copy : Copy Content ℕ) (s : Stands states vb copy) (key : DocKey) where
  -- nothing needs to be read where the log was begun anew, nor of a key that was changed of late
  pub read_anew : vb.is_anew ≡ true → over (map.get vb.recent.items key) None ≡ map.get copy.log.items key
  read_anew anew =
      ap (over (map.get vb.recent.items key)) (sym (none_beneath vb.is_anew copy.log.manifest s.held.items key anew)) ∙ sym (s.shows.items key)

  pub read_changed : is_some (map.get vb.recent.items key) ≡ true → over (map.get vb.recent.items key) None ≡ map.get copy.log.items key
  read_changed changed =
      in_memory (map.get vb.recent.items key) (map.get (beneath vb.is_anew copy.log.manifest s.held.items) key) (map.get copy.log.items key)
      (s.shows.items key) changed

  -- of other keys the item on disk is the log's
  pub read_held : has_collection vb.recent.manifest key.collection ≡ true → vb.is_anew ≡ false
      → is_some (map.get vb.recent.items key) ≡ false → over (map.get vb.recent.items key) (map.get s.held.items key) ≡ map.get copy.log.items key
  read_held there anew none =
      in_store (map.get vb.recent.items key) (map.get (beneath vb.is_anew copy.log.manifest s.held.items) key) (map.get copy.log.items key)
      (map.get s.held.items key) (s.shows.items key) none
      (held_beneath vb.is_anew copy.log.manifest s.held.items key anew s.whole.parts.kept
      (ap (λ (c : Content). has_collection c.manifest key.collection) (sym s.shows.others) ∙ there))

-- ---- the step on a key's document

-- what a request was planned by is what the log has
pub record IsLookup (recent log : Content) (seen now : ℕ) (request : Request) (key : DocKey) (lifetime cas : ℕ) (doc : Option Doc) : Type
    0 where
  pub key_is : key_named request.body ≡ Some key
  pub max_ttl_is : lifetime ≡ max_ttl_of recent.manifest.scopes key.collection
  pub cas_is : cas ≡ max (recent.greatest_cas + 1) (seen * 2 ^ 20)
  pub found : doc ≡ doc_in (map.get log.items key)
  pub others : recent ≡ record log { items = recent.items }

-- then it was planned by the step
pub step_is : {recent log : Content} {seen now : ℕ} {request : Request} {key : DocKey} {lifetime cas : ℕ} {doc : Option Doc}
    → IsLookup recent log seen now request key lifetime cas doc
    → step_on log seen now request ≡ document_step (record { max_ttl = lifetime; now = now; draw = cas }) request doc
step_is {recent} {log} {seen} {now} {request} {key} {lifetime} {cas} {doc} h =
    let named : document_key request.body ≡ key = ap (λ (o : Option DocKey). unwrap_or o no_key) h.key_is in
    let ttl : max_ttl_of log.manifest.scopes key.collection ≡ lifetime = sym (h.max_ttl_is
    ∙ ap (λ (c : Content). max_ttl_of c.manifest.scopes key.collection) h.others) in
    let draw : drawn log seen ≡ cas = sym (h.cas_is ∙ ap (λ (c : Content). max (c.greatest_cas + 1) (seen * 2 ^ 20)) h.others) in
    ap (λ (k : DocKey). document_step (setting_at log seen now k.collection) request (doc_in (map.get log.items k))) named
    ∙ ap (λ (d : Option Doc). document_step (setting_at log seen now key.collection) request d) (sym h.found)
    ∙ ap (λ (n : ℕ). document_step (record { max_ttl = n; now = now; draw = drawn log seen }) request doc) ttl
    ∙ ap (λ (n : ℕ). document_step (record { max_ttl = lifetime; now = now; draw = n }) request doc) draw

-- ---- what is known of what shows

over_storable : (recent read : Option Item) → IfSome recent IsStorable → IfSome read IsStorable → IfSome (over recent read) IsStorable
over_storable None read h k = k
over_storable (Some item) read h k = h

its_storable : (items : map.FinMap key_cmp Item) (key : DocKey) (item : Option Item) → map.get items key ≡ item → AreStorable items
    → IfSome item IsStorable
its_storable items key None e all = tt
its_storable items key (Some item) e all = all key item e

-- what shows of items that can be stored can be
pub shown_storable : (items : map.FinMap key_cmp Item) (key : DocKey) (read : Option Item) → AreStorable items → IfSome read IsStorable
    → IfSome (over (map.get items key) read) IsStorable
shown_storable items key read all h = over_storable (map.get items key) read (its_storable items key (map.get items key) refl all) h

-- a refusal of a plan is one of the step
pub refuses_on : (step other : Result Change Status) (before after : ℕ) (why : Refused) → other ≡ step → Plans step (Err why)
    → PlansOn other before after (Err why)
refuses_on step other before after (refusals.Status why) e h = inl (e ∙ h)
refuses_on step other before after refusals.NoMemory e h = tt

-- a vbucket's request was planned by what its copy's log has, where `first` and `second` are what is seen of it before the
-- item is read and behind that
pub looked_up : {D : Type 0} (states : D → List Device) (old mid first second : ShownVb D) (copy : Copy Content ℕ) (now : ℕ)
    (request : Request) (key : DocKey) (lifetime cas : ℕ) (manifest : Catalog) (read : Option Item) (doc : Option Doc)
    → first ≡ old → second ≡ mid → Rests states old mid → Stands states old copy → key_named request.body ≡ Some key
    → lifetime ≡ max_ttl_of manifest.scopes key.collection → manifest ≡ first.recent.manifest → cas ≡ drawn_by old
    → doc ≡ doc_in (over (map.get second.recent.items key) read) → over (map.get old.recent.items key) read ≡ map.get copy.log.items key
    → step_on copy.log copy.seen now request ≡ document_step (record { max_ttl = lifetime; now = now; draw = cas }) request doc
looked_up {D = D} states old mid first second copy now request key lifetime cas manifest read doc is_old is_mid rests s named lifetime_is
    manifest_is cas_is doc_is found =
    let lookup : IsLookup old.recent copy.log copy.seen now request key lifetime cas doc = record {
      key_is = named;
      max_ttl_is =
          lifetime_is ∙ ap (λ (m : Catalog). max_ttl_of m.scopes key.collection) manifest_is
          ∙ ap (λ (v : ShownVb D). max_ttl_of v.recent.manifest.scopes key.collection) is_old;
      cas_is = cas_is ∙ ap (λ (n : ℕ). max (old.recent.greatest_cas + 1) (n * 2 ^ 20)) s.numbers.seen;
      found =
          doc_is
          ∙ ap (λ (v : ShownVb D). doc_in (over (map.get v.recent.items key) read)) is_mid
          ∙ ap (λ (v : ShownVb D). doc_in (over (map.get v.recent.items key) read)) rests.all_else
          ∙ ap (λ (o : Option Item). doc_in o) found;
      others = s.shows.others;
    } in
    step_is lookup
