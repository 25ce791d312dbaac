-- What a CAS that was told guards.
use Rattle.std.specs.Prelude.{◌≡◌, ◌≢◌, ◌≤◌, ◌<◌, ◌+◌, ℕ, max, nat_eq, is_some, Bool, true, false, cond, List, [], Option, Some, None, Result, Ok, Err, refl, if◌then◌else◌}
use Rattle.std.specs.Option.{option_map_or}
use Rattle.std.specs.FinMap as map
use Rattle.std.proofs.Common.{◌⊎◌, inl, inr, sym, ◌∙◌, ap, subst, arith}
use Rattle.std.proofs.lemmas.Bool.Decides.{nat_tests}
use Rattle.doc_model.specs.declared.key.DocKey.{DocKey}
use Rattle.doc_model.specs.declared.document.Doc.{Doc}
use Rattle.doc_model.specs.declared.document.Item.{Item}
use Rattle.doc_model.specs.declared.document.What.{What}
use Rattle.doc_model.specs.declared.document.What.TheVariants as whats
use Rattle.doc_model.specs.declared.status.Status.{Status}
use Rattle.doc_model.specs.declared.status.TheConstants.Status as status
use Rattle.doc_model.specs.Keys.{key_cmp}
use Rattle.kv_request.specs.declared.request.Request.{Request}
use Rattle.kv_request.specs.declared.request.Body.TheVariants as bodies
use Rattle.kv_request.specs.declared.reply.Reply.{Reply}
use Rattle.kv_request.specs.Tables.{key_named, document_key}
use Rattle.doc_step.specs.declared.Change.{Change}
use Rattle.doc_step.specs.Expiry.{there, is_expired}
use Rattle.doc_step.specs.Replies.{carrying}
use Rattle.doc_step.specs.Step.{cas_refusal, get_step}
use Rattle.vb_log.specs.Content.{Content, no_content, cas_of, doc_in, has_collection, item_made, numbered, with_entry, stored_doc}
use Rattle.vb_log.specs.Logs.{folds}
use Rattle.copy_model.specs.declared.outcome.Outcome.{Outcome}
use Rattle.copy_model.specs.Copies.{Copy, LayoutKind}
use Rattle.doc_step.specs.Step.{tells_token}
use Rattle.doc_step.proofs.Drawn.{carries}
use Rattle.copy_model.specs.Requests.{telling_next, moment_of, seeing, drawn, setting_at, what_of, plain_entry, made, step_on}
use Rattle.copy_model.proofs.Moves.{by_test}
use Rattle.copy_laws.specs.Histories.{Deed, Asked, Takes, TakesAll, IsServed, IsSetOf}
use Rattle.copy_laws.specs.Documents.{kept_document, document_at}
use Rattle.copy_laws.specs.Guards.{IsWithinCas}
use Rattle.copy_laws.proofs.Keys.{get_same}
use Rattle.copy_laws.proofs.Historic.{NoneWaits, Fails, by_code, asked, named_ends, served_ends}
use Rattle.copy_laws.proofs.Numbers.{IsDrawn, effect_drawn, token_cas, Rises, deed_rises, all_rise}
use Rattle.copy_laws.proofs.Deeds.{Grows, Same, Changed, Replaced, Stays, all_stay, change_above}
use Rattle.copy_laws.proofs.Manifests.{changed_get, replaced_is, replaced_get}
use Rattle.copy_laws.proofs.Served.{told_of, unchanged, served_as}
use Rattle.copy_laws.proofs.Remembered.{Holds, step_by}
use Rattle.copy_laws.proofs.Lasting.{stored, set_holds}

-- ---- the CAS of what a key has

-- what a key has after a deed: what it had, or a change with a CAS above all before
record IsRecent (before after : Content) (item : Item) : Type 0 where
  above : before.greatest_cas < cas_of item.what
  within : cas_of item.what ≤ after.greatest_cas

one_of : (b : Bool) (made item : Item) (old : Option Item) → cond b (Some made) old ≡ Some item → (made ≡ item) ⊎ (old ≡ Some item)
one_of true made item old e = inl (ap (λ o. option_map_or (λ i. i) o made) e)
one_of false made item old e = inr e

still_there : (b : Bool) (item : Item) (old : Option Item) → cond b old None ≡ Some item → old ≡ Some item
still_there true item old e = e
still_there false item old e = absurd (cc)

cas_made : (position : ℕ) (key : DocKey) (what : What) → cas_of (item_made position key what).what ≡ cas_of what
cas_made position key (whats.Put doc) = refl
cas_made position key (whats.Remove cas) = refl

greatest_made : (l : Content) (key : DocKey) (what : What)
    → (with_entry l (plain_entry key what)).greatest_cas ≡ max l.greatest_cas (cas_of what)
greatest_made l key (whats.Put doc) = refl
greatest_made l key (whats.Remove cas) = refl

right_of : (n cas greatest : ℕ) → greatest ≡ max n cas → cas ≤ greatest
right_of n cas greatest e = omega (arith, e)

left_of : (n cas greatest : ℕ) → greatest ≡ max n cas → n ≤ greatest
left_of n cas greatest e = omega (arith, e)

-- a change of a document is recent, and what another key has is what it had
changed_recent : (l : Content) (k key : DocKey) (what : What) (item : Item) → l.greatest_cas < cas_of what
    → map.get (with_entry l (plain_entry k what)).items key ≡ Some item
    → IsRecent l (with_entry l (plain_entry k what)) item ⊎ (map.get l.items key ≡ Some item)
changed_recent l k key what item above e =
    elim (one_of _ (item_made (l.length + 1) k what) item (map.get l.items key) (sym (changed_get l k key what) ∙ e)) [
      | inl same ↦ inl (record {
        above = subst (λ n. l.greatest_cas < n) (is_cas same) above;
        within = subst (λ n. n ≤ (with_entry l (plain_entry k what)).greatest_cas) (is_cas same)
            (right_of l.greatest_cas (cas_of what) _ (greatest_made l k what));
      })
      | inr old ↦ inr old
    ]
  where
    is_cas : item_made (l.length + 1) k what ≡ item → cas_of what ≡ cas_of item.what
    is_cas same = sym (cas_made (l.length + 1) k what) ∙ ap (λ (i : Item). cas_of i.what) same

grown_recent : (key : DocKey) (a b : Content) (item : Item) → Grows a b → map.get b.items key ≡ Some item
    → IsRecent a b item ⊎ (map.get a.items key ≡ Some item)
grown_recent key a b item (Same e) h = inr (ap (λ (l : Content). map.get l.items key) (sym e) ∙ h)
grown_recent key a b item (Changed k what known above e) h =
    subst (λ l. IsRecent a l item ⊎ (map.get a.items key ≡ Some item)) (sym e)
    (changed_recent a k key what item above (ap (λ (l : Content). map.get l.items key) (sym e) ∙ h))
grown_recent key a b item (Replaced text step e f g) h =
    inr (still_there _ item (map.get a.items key)
    (sym (replaced_get a text step key e) ∙ ap (λ (l : Content). map.get l.items key) (sym (replaced_is a b text step e g)) ∙ h))

grown_greatest : (a b : Content) → Grows a b → a.greatest_cas ≤ b.greatest_cas
grown_greatest a b (Same e) = left_of a.greatest_cas a.greatest_cas b.greatest_cas (ap (λ (l : Content). l.greatest_cas) e ∙ same_max a.greatest_cas)
  where
    same_max : (n : ℕ) → n ≡ max n n
    same_max n = omega arith
grown_greatest a b (Changed k what known above e) =
    left_of a.greatest_cas (cas_of what) b.greatest_cas (ap (λ (l : Content). l.greatest_cas) e ∙ greatest_made a k what)
grown_greatest a b (Replaced text step e f g) =
    left_of a.greatest_cas a.greatest_cas b.greatest_cas (ap (λ (l : Content). l.greatest_cas) (replaced_is a b text step e g) ∙ same_max a.greatest_cas)
  where
    same_max : (n : ℕ) → n ≡ max n n
    same_max n = omega arith

-- ---- none is above the greatest

up_to : (a b c : ℕ) → a ≤ b → b ≤ c → a ≤ c
up_to a b c h k = omega arith

pub within_stays : (key : DocKey) → Stays (IsWithinCas key)
within_stays key a b grows h item e =
    elim (grown_recent key a b item grows e) [
      | inl recent ↦ recent.within
      | inr old ↦ up_to (cas_of item.what) a.greatest_cas b.greatest_cas (h item old) (grown_greatest a b grows)
    ]

pub none_within : (key : DocKey) → IsWithinCas key no_content
none_within key item e = absurd (let f = map.get-empty {X = Item} key_cmp key in cc)

-- ---- what a Get tells

-- a Get's step that goes well
record IsFound (request : Request) (key : DocKey) (doc : Option Doc) (change : Change) : Type 0 where
  found : Doc
  there : doc ≡ Some found
  is : change.reply ≡ carrying request key found
  still : (cas : ℕ) → what_of change.effect cas ≡ None

get_found : (request : Request) (key : DocKey) (doc : Option Doc) (change : Change) → get_step request key doc ≡ Ok change → IsFound request key doc change
get_found request key None change e = absurd (cc)
get_found request key (Some doc) change e =
    let P = λ (c : Change). IsFound request key (Some doc) c in
    subst P (ap (change_of change) e) (record { found = doc; there = refl; is = refl; still = λ cas. refl })
  where
    change_of : Change → Result Change Status → Change
    change_of other (Ok c) = c
    change_of other (Err why) = other

abbrev Unless : Option Status → Result Change Status → Result Change Status
Unless o r = option_map_or {U = Result Change Status} (λ why. Err why) o r

guarded_found : (request : Request) (key : DocKey) (doc : Option Doc) (o : Option Status) (change : Change) → Unless o (get_step request key doc) ≡ Ok change
    → IsFound request key doc change
guarded_found request key doc None change e = get_found request key doc change e
guarded_found request key doc (Some why) change e = absurd (cc)

abbrev Unsuccessful : Result Change Status → Type 0
Unsuccessful (Ok change) = Unit {0}
Unsuccessful (Err why) = Fails why

cas_unsuccessful : (cas : ℕ) (doc : Option Doc) (r : Result Change Status) → Unsuccessful r → Unsuccessful (Unless (cas_refusal cas doc) r)
cas_unsuccessful cas None r h =
    by_test (λ o. Unsuccessful (Unless o r)) (nat_eq cas 0) _ _ (λ _. h) (λ _. by_code status.KEY_ENOENT (λ e. absurd (cc)))
cas_unsuccessful cas (Some doc) r h =
    by_test (λ o. Unsuccessful (Unless o r)) (nat_eq cas 0) _ _ (λ _. h)
    (λ _. by_test (λ o. Unsuccessful (Unless o r)) (nat_eq doc.cas cas) _ _ (λ _. h) (λ _. by_code status.KEY_EEXISTS (λ e. absurd (cc))))

get_unsuccessful : (request : Request) (key : DocKey) (doc : Option Doc) → Unsuccessful (get_step request key doc)
get_unsuccessful request key None = by_code status.KEY_ENOENT (λ e. absurd (cc))
get_unsuccessful request key (Some doc) = tt

module _ {Y : Type 0} (y : LayoutKind Y) (a b : Copy Content Y) (get : Request) (now : ℕ) (key : DocKey) (told : Reply) (none : NoneWaits a)
    (body : get.body ≡ bodies.Get key) (t : Takes y a (Asked get now told) b) where
  abbrev doc : Option Doc
  doc = document_at a.log key now

  abbrev step : Result Change Status
  step = step_on a.log (seeing now a).seen (moment_of now) get

  step_is : step ≡ Unless (cas_refusal get.cas doc) (get_step get key doc)
  step_is = ap (step_by a.log (seeing now a).seen (moment_of now) get) body

  found_by : (change : Change) → step ≡ Ok change → IsFound get key doc change
  found_by change e = guarded_found get key doc (cas_refusal get.cas doc) change (sym step_is ∙ e)

  named : is_some (key_named get.body) ≡ true
  named = ap (λ body. is_some (key_named body)) body

  -- what a reply tells of the document
  abbrev Tells : Reply → Type 0
  Tells reply = (found : Doc) × (doc ≡ Some found) × (reply.cas ≡ found.cas)

  abbrev SoTells : Copy Content Y × Outcome → Type 0
  SoTells r = (told_of told r.1).status ≡ status.SUCCESS → Tells (told_of told r.1)

  pub get_tells : told.status ≡ status.SUCCESS → Tells told
  get_tells =
      asked y a b get now told SoTells t
      (λ luck. named_ends y luck get now a SoTells named (λ e. absurd (by_code status.ENOMEM (λ k. absurd (cc)) e))
      (served_ends y luck get (seeing now a) none SoTells (λ d why s f e. absurd (f e)) (moment_of now) t.0
      (λ why e f. absurd (subst Unsuccessful (sym step_is ∙ e) (cas_unsuccessful get.cas doc (get_step get key doc) (get_unsuccessful get key doc)) f))
      (λ change e _ _. let h : IsFound get key doc change = found_by change e in (h.found, h.there, ap (λ (r : Reply). r.cas) h.is))
      (λ change what d _ e f _. absurd (let g : None ≡ Some what = sym ((found_by change e).still (drawn a.log (seeing now a).seen)) ∙ f in cc))))

pub set_tells : {Y : Type 0} (y : LayoutKind Y) (a b : Copy Content Y) (set : Request) (now flags expiry : ℕ) (key : DocKey) (value : List ℕ)
    (done : Reply) → NoneWaits a → IsSetOf key flags expiry value set → Takes y a (Asked set now done) b → done.status ≡ status.SUCCESS
    → (doc : Doc) × (kept_document b.log key ≡ Some doc) × (done.cas ≡ doc.cas)
set_tells y a b set now flags expiry key value done none sets t success =
    let s : Doc = stored y a b set now flags expiry key value done none sets t success in
    let h : Holds key (whats.Put s) done b = set_holds y a b set now flags expiry key value done none sets t success in
    (record s { seqno = h.at }, h.doc, h.cas)

-- ---- a CAS of before

-- what a key has is newer than a CAS, and so is the log
pub record IsNewer (cas : ℕ) (key : DocKey) (l : Content) : Type 0 where
  pub item : (i : Item) → map.get l.items key ≡ Some i → cas < cas_of i.what
  pub greatest : cas ≤ l.greatest_cas

behind : (a b c : ℕ) → a ≤ b → b < c → a < c
behind a b c h k = omega arith

newer_stays : (cas : ℕ) (key : DocKey) → Stays (IsNewer cas key)
newer_stays cas key a b grows h = record {
  item = λ i e. elim (grown_recent key a b i grows e) [
    | inl recent ↦ behind cas a.greatest_cas (cas_of i.what) h.greatest recent.above
    | inr old ↦ h.item i old
  ];
  greatest = up_to cas a.greatest_cas b.greatest_cas h.greatest (grown_greatest a b grows);
}

-- what the key has once its document was changed
made_item : (l : Content) (key : DocKey) (what : What)
    → map.get (with_entry l (plain_entry key what)).items key ≡ Some (item_made (l.length + 1) key what)
made_item l key (whats.Put doc) = get_same l.items key (item_made (l.length + 1) key (whats.Put doc))
made_item l key (whats.Remove cas) = get_same l.items key (item_made (l.length + 1) key (whats.Remove cas))

abbrev cas_in : ℕ → Option Item → ℕ
cas_in n o = option_map_or (λ (i : Item). cas_of i.what) o n

is_cas : (l : Content) (key : DocKey) (what : What) (i : Item) → map.get (with_entry l (plain_entry key what)).items key ≡ Some i
    → cas_of what ≡ cas_of i.what
is_cas l key what i e = sym (cas_made (l.length + 1) key what) ∙ ap (cas_in (cas_of i.what)) (sym (made_item l key what) ∙ e)

-- a change of the key's document makes it so
made_newer : (l : Content) (cas : ℕ) (key : DocKey) (what : What) → cas ≤ l.greatest_cas → l.greatest_cas < cas_of what
    → IsNewer cas key (with_entry l (plain_entry key what))
made_newer l cas key what h above = record {
  item = λ i e. behind cas l.greatest_cas (cas_of i.what) h (subst (λ n. l.greatest_cas < n) (is_cas l key what i e) above);
  greatest = up_to cas l.greatest_cas _ h (left_of l.greatest_cas (cas_of what) _ (greatest_made l key what));
}

module _ {Y : Type 0} (y : LayoutKind Y) (c d : Copy Content Y) (change : Request) (now cas : ℕ) (key : DocKey) (done : Reply) (none : NoneWaits c)
    (named : key_named change.body ≡ Some key) (t : Takes y c (Asked change now done) d) (old : cas ≤ c.log.greatest_cas) where
  abbrev Newer : Copy Content Y × Outcome → Type 0
  Newer r = r.0.log.length ≢ c.log.length → IsNewer cas key r.0.log

  key_is : document_key change.body ≡ key
  key_is = ap (λ o. option_map_or (λ k. k) o (record { collection = 0; key = [] })) named

  made_so : (made : Change) (what : What) (l : Content) → step_on c.log (seeing now c).seen (moment_of now) change ≡ Ok made
      → what_of made.effect (drawn c.log (seeing now c).seen) ≡ Some what → l ≡ c.log
      → IsNewer cas key (with_entry l (plain_entry (document_key change.body) what))
  made_so made what l e f same =
      subst (λ k. IsNewer cas key (with_entry l (plain_entry k what))) (sym key_is)
      (subst (λ m. IsNewer cas key (with_entry m (plain_entry key what))) (sym same)
      (made_newer c.log cas key what old (change_above c.log (seeing now c).seen (moment_of now) change made what e f)))

  pub change_newer : d.log.length ≢ c.log.length → IsNewer cas key d.log
  change_newer =
      asked y c d change now done Newer t
      (λ luck. named_ends y luck change now c Newer (ap is_some named) (λ differs. absurd (differs refl))
      (served_ends y luck change (seeing now c) none Newer (λ e why s _ differs. absurd (differs (ap (λ (l : Content). l.length) s.log)))
      (moment_of now) t.0
      (λ why _ differs. absurd (differs refl)) (λ made _ _ differs. absurd (differs refl))
      (λ made what e _ f g s _. made_so made what e.log f g s.log)))

-- ---- what a change tells

cas_kept : (what : What) (at : ℕ) (doc : Doc) → stored_doc (numbered at what) ≡ Some doc → cas_of what ≡ doc.cas
cas_kept (whats.Put d) at doc e = ap (λ (o : Option Doc). option_map_or (λ (x : Doc). x.cas) o 0) e
cas_kept (whats.Remove cas) at doc e = absurd (cc)

module _ {Y : Type 0} (y : LayoutKind Y) (a b : Copy Content Y) (request : Request) (now : ℕ) (key : DocKey) (reply : Reply) (doc : Doc)
    (none : NoneWaits a) (named : key_named request.body ≡ Some key) (t : Takes y a (Asked request now reply) b) where
  abbrev TellsKept : Copy Content Y × Outcome → Type 0
  TellsKept r = r.0.log.length ≢ a.log.length → kept_document r.0.log key ≡ Some doc → (told_of reply r.1).cas ≡ doc.cas

  named_key : document_key request.body ≡ key
  named_key = ap (λ o. option_map_or (λ k. k) o (record { collection = 0; key = [] })) named

  tells_kept : (change : Change) (what : What) (d : Copy Content Y)
      → step_on a.log (seeing now a).seen (moment_of now) request ≡ Ok change
      → what_of change.effect (drawn a.log (seeing now a).seen) ≡ Some what
      → kept_document (with_entry d.log (plain_entry (document_key request.body) what)) key ≡ Some doc
      → (telling_next folds request change.reply d).cas ≡ doc.cas
  tells_kept change what d e f kept =
      let at : DocKey = document_key request.body in
      let draw : ℕ = drawn a.log (seeing now a).seen in
      let h : IsDrawn draw change what =
      effect_drawn draw change what change.effect
      (carries (setting_at a.log (seeing now a).seen (moment_of now) at.collection) request (doc_in (map.get a.log.items at)) change e) f in
      let item = made_item d.log at what in
      let has : doc_in (map.get (with_entry d.log (plain_entry at what)).items at) ≡ Some doc =
      ap (λ k. doc_in (map.get (with_entry d.log (plain_entry at what)).items k)) named_key ∙ kept in
      token_cas (tells_token request.body) (d.accepted, d.log.length + 1) change.reply ∙ h.told ∙ sym h.has
      ∙ cas_kept what (d.log.length + 1) doc (sym (ap doc_in item) ∙ has)

  pub change_tells : b.log.length ≢ a.log.length → kept_document b.log key ≡ Some doc → reply.cas ≡ doc.cas
  change_tells =
      asked y a b request now reply TellsKept t
      (λ luck. named_ends y luck request now a TellsKept (ap is_some named) (λ differs. absurd (differs refl))
      (served_ends y luck request (seeing now a) none TellsKept (λ e why s _ differs. absurd (differs (ap (λ (l : Content). l.length) s.log)))
      (moment_of now) t.0
      (λ why _ differs. absurd (differs refl)) (λ change _ _ differs. absurd (differs refl))
      (λ change what d _ e f _ _ kept. tells_kept change what d e f kept)))

-- the CAS of a document that is there is that of its item
item_of : (item : Option Item) (now : ℕ) (doc : Doc) → there now (doc_in item) ≡ Some doc
    → (i : Item) × (item ≡ Some i) × (cas_of i.what ≡ doc.cas)
item_of None now doc e = absurd (cc)
item_of (Some i) now doc e = (i, refl, of_what i.what e)
  where
    kept : (now : ℕ) (d doc : Doc) → there now (Some d) ≡ Some doc → d.cas ≡ doc.cas
    kept now d doc e = go (is_expired d.expiry now) e
      where
        go : (b : Bool) → (if b then None else Some d) ≡ Some doc → d.cas ≡ doc.cas
        go true f = absurd (cc)
        go false f = ap (λ (o : Option Doc). option_map_or (λ (x : Doc). x.cas) o 0) f

    of_what : (what : What) → there now (stored_doc what) ≡ Some doc → cas_of what ≡ doc.cas
    of_what (whats.Put d) f = kept now d doc f
    of_what (whats.Remove cas) f = absurd (cc)

other_cas : (a b : ℕ) → a < b → nat_eq b a ≡ false
other_cas a b h = grind (arith, nat_tests)

not_none : (n : ℕ) → n ≢ 0 → nat_eq n 0 ≡ false
not_none n h = grind (arith, nat_tests)

-- a status that tells that a CAS isn't the document's
abbrev IsOfCas : Status → Type 0
IsOfCas why = (why ≡ status.KEY_EEXISTS) ⊎ (why ≡ status.KEY_ENOENT)

-- a step is refused so
record IsRefused (r : Result Change Status) : Type 0 where
  why : Status
  of_cas : IsOfCas why
  is : r ≡ Err why

old_refused : (cas : ℕ) (doc : Option Doc) (r : Result Change Status) → cas ≢ 0 → ((d : Doc) → doc ≡ Some d → cas < d.cas)
    → IsRefused (Unless (cas_refusal cas doc) r)
old_refused cas None r some newer =
    by_test (λ o. IsRefused (Unless o r)) (nat_eq cas 0) _ _ (λ e. absurd (let g : true ≡ false = sym e ∙ not_none cas some in cc))
    (λ _. record { why = status.KEY_ENOENT; of_cas = inr refl; is = refl })
old_refused cas (Some doc) r some newer =
    by_test (λ o. IsRefused (Unless o r)) (nat_eq cas 0) _ _ (λ e. absurd (let g : true ≡ false = sym e ∙ not_none cas some in cc))
    (λ _. by_test (λ o. IsRefused (Unless o r)) (nat_eq doc.cas cas) _ _
    (λ e. absurd (let g : true ≡ false = sym e ∙ other_cas cas doc.cas (newer doc refl) in cc))
    (λ _. record { why = status.KEY_EEXISTS; of_cas = inl refl; is = refl }))

module _ {Y : Type 0} (y : LayoutKind Y) (e f : Copy Content Y) (request : Request) (now : ℕ) (key : DocKey) (reply : Reply) (none : NoneWaits e)
    (named : key_named request.body ≡ Some key) (some : request.cas ≢ 0) (newer : IsNewer request.cas key e.log)
    (t : Takes y e (Asked request now reply) f) where
  abbrev key_at : DocKey
  key_at = document_key request.body

  at_key : key_at ≡ key
  at_key = ap (λ o. option_map_or (λ k. k) o (record { collection = 0; key = [] })) named

  newer_doc : (d : Doc) → document_at e.log key_at now ≡ Some d → request.cas < d.cas
  newer_doc d h =
      let i = item_of (map.get e.log.items key_at) (moment_of now) d h in
      subst (λ n. request.cas < n) i.2 (newer.item i.0 (ap (λ (k : DocKey). map.get e.log.items k) (sym at_key) ∙ i.1))

  refused : IsRefused (step_on e.log (seeing now e).seen (moment_of now) request)
  refused = old_refused request.cas (document_at e.log key_at now) _ some newer_doc

  pub old_adds_nothing : f.log ≡ e.log
  old_adds_nothing =
      unchanged y e f request now reply none t (ap is_some named)
      (λ change what h _. absurd (let g : Ok change ≡ Err refused.why = sym h ∙ refused.is in cc))

  pub old_is_refused : IsServed reply → has_collection e.log.manifest key.collection ≡ true → IsOfCas reply.status
  old_is_refused served known =
      served_as y e f request now reply none t (ap is_some named)
      (ap (λ (k : DocKey). has_collection e.log.manifest k.collection) at_key ∙ known) (λ (told : Reply). IsOfCas told.status) (Err refused.why) refused.is
      (λ luck _. refused.of_cas) served

module _ {Y : Type 0} (y : LayoutKind Y) (a b c d e : Copy Content Y) (get change request : Request) (first second : ℕ) (key : DocKey)
    (told done : Reply) (before since : List Deed) (none : NoneWaits a) (within : IsWithinCas key a.log)
    (body : get.body ≡ bodies.Get key) (t : Takes y a (Asked get first told) b) (success : told.status ≡ status.SUCCESS)
    (u : TakesAll y b before c) (named : key_named change.body ≡ Some key) (v : Takes y c (Asked change second done) d)
    (differs : d.log.length ≢ c.log.length) (w : TakesAll y d since e) where
  none_b : Rises a.log b.log
  none_b = deed_rises y a b (Asked get first told) none t

  none_c : Rises b.log c.log
  none_c = all_rise y b c before none_b.none u

  none_d : Rises c.log d.log
  none_d = deed_rises y c d (Asked change second done) none_c.none v

  pub none_e : Rises d.log e.log
  none_e = all_rise y d e since none_d.none w

  told_within : told.cas ≤ a.log.greatest_cas
  told_within =
      let h = get_tells y a b get first key told none body t success in
      let i = item_of (map.get a.log.items key) (moment_of first) h.0 h.1 in
      subst (λ n. n ≤ a.log.greatest_cas) (i.2 ∙ sym h.2) (within i.0 i.1)

  told_old : told.cas ≤ c.log.greatest_cas
  told_old =
      up_to told.cas b.log.greatest_cas c.log.greatest_cas
      (up_to told.cas a.log.greatest_cas b.log.greatest_cas told_within none_b.greatest) none_c.greatest

  newer_then : IsNewer told.cas key d.log
  newer_then = change_newer y c d change second told.cas key done none_c.none named v told_old differs

  pub newer_now : IsNewer told.cas key e.log
  newer_now = all_stay y (IsNewer told.cas key) (newer_stays told.cas key) d e since none_d.none w newer_then
