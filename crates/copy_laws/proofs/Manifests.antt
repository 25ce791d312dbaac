-- What becomes of collections and of what stands in them, whatever happens.
use Rattle.std.specs.Prelude.{◌≡◌, ◌+◌, ℕ, IsSome, Bool, true, false, cond, not, ◌&&◌, List, Option, Some, None, Result, Ok, Err, refl}
use Rattle.std.specs.Option.{option_map_or}
use Rattle.std.specs.Ordering.{eq_by_cmp}
use Rattle.std.specs.FinMap as map
use Rattle.std.proofs.Common.{◌⊎◌, inl, inr, sym, ◌∙◌, ap, subst}
use Rattle.doc_model.specs.declared.key.DocKey.{DocKey}
use Rattle.doc_model.specs.declared.document.Item.{Item}
use Rattle.doc_model.specs.declared.document.What.{What}
use Rattle.doc_model.specs.declared.document.What.TheVariants as whats
use Rattle.doc_model.specs.declared.status.Status.{Status}
use Rattle.doc_model.specs.declared.status.TheConstants.Status as status
use Rattle.doc_model.specs.Keys.{key_cmp}
use Rattle.doc_model.proofs.Drops.{get_kept}
use Rattle.doc_model.proofs.Entries.{same_key, keys_total}
use Rattle.kv_request.specs.declared.request.Request.{Request}
use Rattle.kv_request.specs.declared.request.Body.{Body}
use Rattle.kv_request.specs.declared.request.Body.TheVariants as bodies
use Rattle.kv_request.specs.declared.reply.Reply.{Reply}
use Rattle.kv_request.specs.Tables.{document_key}
use Rattle.manifest_rules.specs.Catalog.{Catalog}
use Rattle.manifest_rules.specs.Form.{manifest_in}
use Rattle.manifest_rules.specs.Rules.{Step, manifest_step}
use Rattle.manifest_rules.specs.Applying.{text_step}
use Rattle.doc_step.specs.declared.Change.{Change}
use Rattle.doc_step.specs.Expiry.{there}
use Rattle.doc_step.specs.Step.{cas_refusal, operation}
use Rattle.vb_log.specs.declared.entry.Entry.TheVariants as entries
use Rattle.vb_log.specs.Content.{Content, no_content, doc_in, has_collection, item_made, with_entry, with_step, one_longer}
use Rattle.vb_log.proofs.Collections.{is_listed, is_gone, Moves, step_moves}
use Rattle.copy_model.specs.declared.outcome.Outcome.{Outcome}
use Rattle.copy_model.specs.Copies.{Copy, LayoutKind}
use Rattle.copy_model.specs.Requests.{moment_of, seeing, setting_at, plain_entry, step_on}
use Rattle.copy_laws.specs.Histories.{Deed, Asked, Takes, TakesAll}
use Rattle.copy_laws.specs.Collections.{StandsInCollection}
use Rattle.copy_laws.proofs.Historic.{NoneWaits, asked, request_leaves}
use Rattle.copy_laws.proofs.Numbers.{Rises, all_rise}
use Rattle.copy_laws.proofs.Deeds.{Same, Changed, Replaced, Stays, all_stay}

-- ---- what an entry makes of a key and of a collection

-- what a key has, once a document has changed
pub changed_get : (l : Content) (key other : DocKey) (what : What)
    → map.get (with_entry l (plain_entry key what)).items other
    ≡ cond (eq_by_cmp key_cmp other key) (Some (item_made (l.length + 1) key what)) (map.get l.items other)
changed_get l key other (whats.Put doc) = map.get-insert keys_total l.items key (item_made (l.length + 1) key (whats.Put doc)) other
changed_get l key other (whats.Remove cas) = map.get-insert keys_total l.items key (item_made (l.length + 1) key (whats.Remove cas)) other

pub changed_manifest : (l : Content) (key : DocKey) (what : What) → (with_entry l (plain_entry key what)).manifest ≡ l.manifest
changed_manifest l key (whats.Put doc) = refl
changed_manifest l key (whats.Remove cas) = refl

-- a log with another manifest
abbrev pub replaced_by : Content → Step → Content
replaced_by l step = one_longer (with_step l (Ok step))

pub replaced_is : (l after : Content) (text : List ℕ) (step : Step) → text_step l.manifest text ≡ Ok step
    → after ≡ with_entry l (entries.Manifest text) → after ≡ replaced_by l step
replaced_is l after text step e f = f ∙ ap (λ (r : Result Step Status). one_longer (with_step l r)) e

-- what a manifest does to a collection
text_moves : (old : Catalog) (text : List ℕ) (step : Step) (id : ℕ) → text_step old text ≡ Ok step → Moves old step id
text_moves old text step id e = go (manifest_in text) e
  where
    go : (o : Option Catalog) → option_map_or {U = Result Step Status} (λ new. manifest_step old new) o (Err status.EINVAL) ≡ Ok step → Moves old step id
    go None f = absurd (cc)
    go (Some new) f = step_moves old new step id f

-- what a key has then
pub replaced_get : (l : Content) (text : List ℕ) (step : Step) (key : DocKey) → text_step l.manifest text ≡ Ok step
    → map.get (replaced_by l step).items key
    ≡ cond (not (not (has_collection step.after key.collection) && has_collection l.manifest key.collection)) (map.get l.items key) None
replaced_get l text step key e =
    get_kept l.items (λ k. not (is_listed k.collection step.dropped)) key
    ∙ ap (λ b. cond (not b) (map.get l.items key) None) (text_moves l.manifest text step key.collection e).dropped

-- ---- documents stand in collections

changed_stands : (b : Bool) (item : Item) (old : Option Item) (known : Bool) → (b ≡ true → known ≡ true) → (IsSome old → known ≡ true)
    → IsSome (cond b (Some item) old) → known ≡ true
changed_stands true item old known h k some = h refl
changed_stands false item old known h k some = k some

replaced_stands : (new old : Bool) (item : Option Item) → (IsSome item → old ≡ true) → IsSome (cond (not (not new && old)) item None) → new ≡ true
replaced_stands true old item h some = refl
replaced_stands false true item h some = absurd (cc)
replaced_stands false false item h some = h some

pub standing_stays : (key : DocKey) → Stays (StandsInCollection key)
standing_stays key a b (Same e) h = subst (StandsInCollection key) (sym e) h
standing_stays key a b (Changed k what known above e) h =
    subst (StandsInCollection key) (sym e) (λ some.
    ap (λ (m : Catalog). has_collection m key.collection) (changed_manifest a k what)
    ∙ changed_stands (eq_by_cmp key_cmp key k) (item_made (a.length + 1) k what) (map.get a.items key) (has_collection a.manifest key.collection)
    (λ same. ap (λ (q : DocKey). has_collection a.manifest q.collection) (same_key key k same) ∙ known) h
    (subst IsSome (changed_get a k key what) some))
standing_stays key a b (Replaced text step e f g) h =
    subst (StandsInCollection key) (sym (replaced_is a b text step e g)) (λ some.
    replaced_stands (has_collection step.after key.collection) (has_collection a.manifest key.collection) (map.get a.items key) h
    (subst IsSome (replaced_get a text step key e) some))

pub none_stands : (key : DocKey) → StandsInCollection key no_content
none_stands key some = absurd (let h : IsSome {T = Item} None = subst IsSome (map.get-empty {X = Item} key_cmp key) some in cc)

nothing_there : (item : Option Item) (known : Bool) → known ≡ false → (IsSome item → known ≡ true) → item ≡ None
nothing_there None known e h = refl
nothing_there (Some item) known e h = absurd (let f : true ≡ false = sym (h refl) ∙ e in cc)

pub dropped_empty : {Y : Type 0} (y : LayoutKind Y) (a b : Copy Content Y) (deeds : List Deed) (key : DocKey) → NoneWaits a
    → has_collection a.log.manifest key.collection ≡ true → TakesAll y a deeds b
    → has_collection b.log.manifest key.collection ≡ false → map.get b.log.items key ≡ None
dropped_empty y a b deeds key none known t unknown =
    nothing_there (map.get b.log.items key) (has_collection b.log.manifest key.collection) unknown
    (all_stay y (StandsInCollection key) (standing_stays key) a b deeds none t (λ _. known))

-- ---- what is dropped stays so

-- it was dropped and isn't there
record IsGone (id : ℕ) (l : Content) : Type 0 where
  listed : is_gone l.manifest id ≡ true
  absent : has_collection l.manifest id ≡ false

moved_absent : (new : Bool) (old : Bool) → old ≡ false → (new ≡ true → old ≡ true) → new ≡ false
moved_absent true old e h = absurd (let f : true ≡ false = sym (h refl) ∙ e in cc)
moved_absent false old e h = refl

gone_stays : (id : ℕ) → Stays (IsGone id)
gone_stays id a b (Same e) h = subst (IsGone id) (sym e) h
gone_stays id a b (Changed k what known above e) h =
    subst (IsGone id) (sym e) (record {
      listed = ap (λ (c : Catalog). is_gone c id) (changed_manifest a k what) ∙ h.listed;
      absent = ap (λ (c : Catalog). has_collection c id) (changed_manifest a k what) ∙ h.absent;
    })
gone_stays id a b (Replaced text step e f g) h =
    let moves : Moves a.manifest step id = text_moves a.manifest text step id e in
    subst (IsGone id) (sym (replaced_is a b text step e g)) (record {
      listed = moves.stays h.listed;
      absent = moved_absent (has_collection step.after id) (has_collection a.manifest id) h.absent (moves.back h.listed);
    })

-- a collection is there, or it is gone
abbrev Known : ℕ → Content → Type 0
Known id l = (has_collection l.manifest id ≡ true) ⊎ IsGone id l

moved_known : (old : Catalog) (step : Step) (id : ℕ) (b : Bool) → has_collection step.after id ≡ b → Moves old step id → has_collection old id ≡ true
    → (has_collection step.after id ≡ true) ⊎ ((is_gone step.after id ≡ true) × (has_collection step.after id ≡ false))
moved_known old step id true e moves h = inl e
moved_known old step id false e moves h = inr (moves.goes h e, e)

known_stays : (id : ℕ) → Stays (Known id)
known_stays id a b grows (inr h) = inr (gone_stays id a b grows h)
known_stays id a b (Same e) (inl h) = inl (ap (λ (l : Content). has_collection l.manifest id) e ∙ h)
known_stays id a b (Changed k what known above e) (inl h) =
    inl (ap (λ (l : Content). has_collection l.manifest id) e ∙ ap (λ (c : Catalog). has_collection c id) (changed_manifest a k what) ∙ h)
known_stays id a b (Replaced text step e f g) (inl h) =
    subst (Known id) (sym (replaced_is a b text step e g))
    (elim (moved_known a.manifest step id (has_collection step.after id) refl (text_moves a.manifest text step id e) h) [
      | inl k ↦ inl k
      | inr k ↦ inr (record { listed = k.0; absent = k.1 })
    ])

gone_of : (id : ℕ) (l : Content) → has_collection l.manifest id ≡ false → Known id l → IsGone id l
gone_of id l e (inl h) = absurd (let f : true ≡ false = sym h ∙ e in cc)
gone_of id l e (inr h) = h

pub never_back : {Y : Type 0} (y : LayoutKind Y) (a b c : Copy Content Y) (before later : List Deed) (id : ℕ) → NoneWaits a
    → has_collection a.log.manifest id ≡ true → TakesAll y a before b → has_collection b.log.manifest id ≡ false
    → TakesAll y b later c → has_collection c.log.manifest id ≡ false
never_back y a b c before later id none known t unknown u =
    let rises : Rises a.log b.log = all_rise y a b before none t in
    let gone : IsGone id b.log = gone_of id b.log unknown (all_stay y (Known id) (known_stays id) a b before none t (inl known)) in
    (all_stay y (IsGone id) (gone_stays id) b c later rises.none u gone).absent

-- ---- what is kept stays

no_change : (o : Option Status) (why : Status) (change : Change)
    → option_map_or {U = Result Change Status} (λ w. Err w) o (Err why) ≡ Ok change → ⊥
no_change None why change e = cc
no_change (Some other) why change e = cc

kept_at : (new old : Bool) (item : Option Item) → new ≡ true → cond (not (not new && old)) item None ≡ item
kept_at true old item e = refl
kept_at false old item e = absurd (cc)

module _ {Y : Type 0} (y : LayoutKind Y) (a b : Copy Content Y) (request : Request) (now : ℕ) (reply : Reply) (text : List ℕ)
    (key : DocKey) (none : NoneWaits a) (body : request.body ≡ bodies.SetManifest text) (t : Takes y a (Asked request now reply) b) where
  abbrev Kept : Content → Type 0
  Kept l = has_collection l.manifest key.collection ≡ true → map.get l.items key ≡ map.get a.log.items key

  abbrev c : Copy Content Y
  c = seeing now a

  no_step : (change : Change) → step_on a.log c.seen (moment_of now) request ≡ Ok change → ⊥
  no_step change e =
      let at : DocKey = document_key request.body in
      let doc = there (moment_of now) (doc_in (map.get a.log.items at)) in
      no_change (cas_refusal request.cas doc) status.UNKNOWN_COMMAND change
      (subst (λ (b : Body). option_map_or {U = Result Change Status} (λ w. Err w) (cas_refusal request.cas doc)
      (operation (setting_at a.log c.seen (moment_of now) at.collection) request b doc) ≡ Ok change) body e)

  manifest_keeps : (other : List ℕ) (step : Step) (d : Content) → d ≡ a.log → text_step a.log.manifest other ≡ Ok step
      → Kept (with_entry d (entries.Manifest other))
  manifest_keeps other step d same e =
      subst (λ l. Kept (with_entry l (entries.Manifest other))) (sym same)
      (subst Kept (sym (replaced_is a.log (with_entry a.log (entries.Manifest other)) other step e refl))
      (λ known. replaced_get a.log other step key e
      ∙ kept_at (has_collection step.after key.collection) (has_collection a.log.manifest key.collection) (map.get a.log.items key) known))

  pub kept_stay : has_collection b.log.manifest key.collection ≡ true → map.get b.log.items key ≡ map.get a.log.items key
  kept_stay =
      asked y a b request now reply (λ (r : Copy Content Y × Outcome). Kept r.0.log) t
      (λ luck. request_leaves y luck request now a none t.0 (λ (d : Copy Content Y). Kept d.log)
      (λ d s _. ap (λ (l : Content). map.get l.items key) s.log)
      (λ change what d known e f s. absurd (no_step change e))
      (λ other step d g e f s. manifest_keeps other step d.log s.log e))
