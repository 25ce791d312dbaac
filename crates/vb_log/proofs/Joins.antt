-- The part of a log's content behind a position, joined to the content up to there, is the whole.
use Rattle.std.specs.Prelude.{◌≡◌, ℕ, ◌+◌, ◌<◌, ◌≤◌, nat_lt, is_some, is_none, Bool, true, false, cond, not, ◌&&◌, List, [], ◌∷◌, ◌++◌, take, drop, Option, Some, None, Result, Ok, Err, refl}
use Rattle.std.specs.Result.{is_ok}
use Rattle.std.specs.Option.{option_map_or}
use Rattle.std.specs.Ordering.{eq_by_cmp}
use Rattle.std.specs.FinMap as map
use Rattle.std.proofs.Common.{◌⊎◌, inl, inr, sym, ◌∙◌, ap, subst, arith}
use Rattle.std.proofs.lemmas.Bool.{and_parts}
use Rattle.std.proofs.lemmas.Bool.Decides.{nat_tests}
use Rattle.std.proofs.lemmas.List.{take-append-drop, length-take-le}
use Rattle.doc_model.specs.declared.key.DocKey.{DocKey}
use Rattle.doc_model.specs.declared.document.What.{What}
use Rattle.doc_model.specs.declared.document.What.TheVariants as whats
use Rattle.doc_model.specs.declared.document.Item.{Item}
use Rattle.doc_model.specs.declared.status.Status.{Status}
use Rattle.doc_model.specs.declared.status.TheConstants.Status as status
use Rattle.doc_model.specs.Keys.{key_cmp}
use Rattle.doc_model.proofs.Entries.{exact_keys, keys_total, same_key}
use Rattle.doc_model.proofs.Drops.{get_kept}
use Rattle.manifest_rules.specs.Catalog.{Catalog}
use Rattle.manifest_rules.specs.Form.{manifest_in}
use Rattle.manifest_rules.specs.Rules.{Step, manifest_step}
use Rattle.manifest_rules.specs.Applying.{text_step}
use Rattle.vb_log.specs.declared.entry.Entry.{Entry}
use Rattle.vb_log.specs.declared.entry.Entry.TheVariants as entries
use Rattle.vb_log.specs.declared.entry.Pending.{Pending}
use Rattle.vb_log.specs.Content.{Content, no_content, has_collection, prepare_at, prepare_of, item_made, with_item, committed, with_step, with_entry, with_entries, content_of, with_entries-append, allowed, AllAllowed}
use Rattle.vb_log.specs.Parts.{is_behind, difference, joined, JoinsBack}
use Rattle.vb_log.proofs.Logs.{entry_counts, content_length}
use Rattle.vb_log.specs.Laws.{DroppedHasNothing, ManifestLeavesOthers}
use Rattle.vb_log.proofs.Collections.{is_listed, is_gone, Moves, step_moves}
use Rattle.vb_log.proofs.Waiting.{one_more, item_more}

-- ---- one item more

-- the item that a key gets
abbrev next_item : Content → DocKey → What → Item
next_item c key what = item_made (c.length + 1) key what

-- what a key has once another, or the same, got something
with_get : (c : Content) (key q : DocKey) (what : What) → map.get (with_item c key what).items q ≡ cond (eq_by_cmp key_cmp q key) (Some (next_item c key what)) (map.get c.items q)
with_get c key q what = map.get-insert keys_total c.items key (next_item c key what) q

-- ---- what an entry does to a key: nothing, a new item, or what a manifest does
pub data Does (c : Content) (q : DocKey) (d : Content) : Type 0 where
  Leaves : map.get d.items q ≡ map.get c.items q → d.manifest ≡ c.manifest → Does c q d
  Gives : (item : Item) → item.seqno ≡ c.length + 1 → map.get d.items q ≡ Some item → has_collection c.manifest q.collection ≡ true → d.manifest ≡ c.manifest → Does c q d
  Turns : (step : Step) → Moves c.manifest step q.collection → d.manifest ≡ step.after → map.get d.items q ≡ cond (not (is_listed q.collection step.dropped)) (map.get c.items q) None → Does c q d

gives_or_leaves : (c d : Content) (key q : DocKey) (what : What) → has_collection c.manifest key.collection ≡ true → d.items ≡ (with_item c key what).items → d.manifest ≡ c.manifest → Does c q d
gives_or_leaves c d key q what has e f = go (eq_by_cmp key_cmp q key) refl
  where
    get_is : map.get d.items q ≡ cond (eq_by_cmp key_cmp q key) (Some (next_item c key what)) (map.get c.items q)
    get_is = ap (λ (m : map.FinMap key_cmp Item). map.get m q) e ∙ with_get c key q what

    go : (b : Bool) → eq_by_cmp key_cmp q key ≡ b → Does c q d
    go true g = Gives (next_item c key what) refl (get_is ∙ ap (λ b. cond b (Some (next_item c key what)) (map.get c.items q)) g) (ap (λ (k : DocKey). has_collection c.manifest k.collection) (same_key q key g) ∙ has) f
    go false g = Leaves (get_is ∙ ap (λ b. cond b (Some (next_item c key what)) (map.get c.items q)) g) f

committed_does : (c d : Content) (q : DocKey) (o : Option Pending) → d.items ≡ (committed c o).items → d.manifest ≡ (committed c o).manifest → Does c q d
committed_does c d q None e f = Leaves (ap (λ (m : map.FinMap key_cmp Item). map.get m q) e) f
committed_does c d q (Some p) e f = go (has_collection c.manifest p.key.collection) refl e f
  where
    go : (b : Bool) → has_collection c.manifest p.key.collection ≡ b → d.items ≡ (cond b (with_item c p.key p.what) c).items → d.manifest ≡ (cond b (with_item c p.key p.what) c).manifest → Does c q d
    go true g i j = gives_or_leaves c d p.key q p.what g i j
    go false g i j = Leaves (ap (λ (m : map.FinMap key_cmp Item). map.get m q) i) j

turns_by : (c d : Content) (q : DocKey) (r : Result Step Status) → ((step : Step) → r ≡ Ok step → Moves c.manifest step q.collection) → is_ok r ≡ true → d.items ≡ (with_step c r).items → d.manifest ≡ (with_step c r).manifest → Does c q d
turns_by c d q (Ok step) moves ok e f = Turns step (moves step refl) f (ap (λ (m : map.FinMap key_cmp Item). map.get m q) e ∙ get_kept c.items (λ key. not (is_listed key.collection step.dropped)) q)
turns_by c d q (Err why) moves ok e f = absurd (cc)

text_moves : (m : Catalog) (id : ℕ) (o : Option Catalog) (step : Step) → option_map_or {U = Result Step Status} (λ new. manifest_step m new) o (Err status.EINVAL) ≡ Ok step → Moves m step id
text_moves m id None step e = absurd (cc)
text_moves m id (Some new) step e = step_moves m new step id e

pub entry_does : (c : Content) (q : DocKey) (e : Entry) → allowed c e ≡ true → Does c q (with_entry c e)
entry_does c q (entries.Mutation key doc) h = gives_or_leaves c (with_entry c (entries.Mutation key doc)) key q (whats.Put doc) (and_parts (is_none (prepare_of c.prepares key)) (has_collection c.manifest key.collection) h).1 refl refl
entry_does c q (entries.Deletion key cas) h = gives_or_leaves c (with_entry c (entries.Deletion key cas)) key q (whats.Remove cas) (and_parts (is_none (prepare_of c.prepares key)) (has_collection c.manifest key.collection) h).1 refl refl
entry_does c q (entries.Prepare key what level) h = Leaves refl refl
entry_does c q (entries.Commit of) h = committed_does c (with_entry c (entries.Commit of)) q (prepare_at c.prepares of) refl refl
entry_does c q (entries.Abort of) h = Leaves refl refl
entry_does c q (entries.Manifest text) h = turns_by c (with_entry c (entries.Manifest text)) q (text_step c.manifest text) (λ step e. text_moves c.manifest q.collection (manifest_in text) step e) h refl refl

-- ---- keys of collections that aren't there have nothing

abbrev pub IsTidy : Content → Type 0
IsTidy c = (q : DocKey) → has_collection c.manifest q.collection ≡ false → map.get c.items q ≡ None

dropped_none : (after before : Bool) (listed : Bool) (o : Option Item) → listed ≡ (not after && before) → after ≡ false → (before ≡ false → o ≡ None) → cond (not listed) o None ≡ None
dropped_none true before listed o e f h = absurd (cc)
dropped_none false true true o e f h = refl
dropped_none false true false o e f h = absurd (cc)
dropped_none false false true o e f h = absurd (cc)
dropped_none false false false o e f h = h refl

pub tidy_does : (c d : Content) (q : DocKey) → IsTidy c → Does c q d → has_collection d.manifest q.collection ≡ false → map.get d.items q ≡ None
tidy_does c d q tidy (Leaves e f) h = e ∙ tidy q (ap (λ (m : Catalog). has_collection m q.collection) (sym f) ∙ h)
tidy_does c d q tidy (Gives item n e has f) h = absurd (let z : true ≡ false = sym has ∙ ap (λ (m : Catalog). has_collection m q.collection) (sym f) ∙ h in cc)
tidy_does c d q tidy (Turns step moves f e) h =
    e ∙ dropped_none (has_collection step.after q.collection) (has_collection c.manifest q.collection) (is_listed q.collection step.dropped) (map.get c.items q) moves.dropped (ap (λ (m : Catalog). has_collection m q.collection) (sym f) ∙ h) (tidy q)

tidy_entries : (c : Content) (es : List Entry) → AllAllowed c es → IsTidy c → IsTidy (with_entries c es)
tidy_entries c [] h t = t
tidy_entries c (e ∷ es) h t = tidy_entries (with_entry c e) es h.1 (λ q f. tidy_does c (with_entry c e) q t (entry_does c q e h.0) f)

-- ---- what has become of a key since a content

pub record Since (old c : Content) (q : DocKey) : Type 0 where
  pub longer : old.length ≤ c.length
  -- a collection that was there is there, or gone for ever
  pub collection : has_collection old.manifest q.collection ≡ true → (has_collection c.manifest q.collection ≡ true) ⊎ ((has_collection c.manifest q.collection ≡ false) × (is_gone c.manifest q.collection ≡ true))
  -- the key has something newer, or what it had, if its collection is there
  pub item : (is_behind old.length (map.get c.items q) ≡ true) ⊎ (map.get c.items q ≡ cond (has_collection c.manifest q.collection) (map.get old.items q) None)

since_start : (c : Content) (q : DocKey) → IsTidy c → Since c c q
since_start c q tidy = record { longer = omega arith; collection = λ e. inl e; item = inr (go (has_collection c.manifest q.collection) (tidy q)) }
  where
    go : (b : Bool) → (b ≡ false → map.get c.items q ≡ None) → map.get c.items q ≡ cond b (map.get c.items q) None
    go true h = refl
    go false h = h refl

newer : (n : ℕ) (item : Item) (o : Option Item) → o ≡ Some item → n < item.seqno → is_behind n o ≡ true
newer n item o e l = ap (is_behind n) e ∙ below n item.seqno l
  where
    below : (a b : ℕ) → a < b → nat_lt a b ≡ true
    below a b h = grind (arith, nat_tests)

-- what a manifest does to a key's item
turned : (after before : Bool) (listed : Bool) (n : ℕ) (o old : Option Item) → listed ≡ (not after && before) → (after ≡ true → before ≡ false → old ≡ None)
    → (is_behind n o ≡ true) ⊎ (o ≡ cond before old None) → (is_behind n (cond (not listed) o None) ≡ true) ⊎ (cond (not listed) o None ≡ cond after old None)
turned true true true n o old e h s = absurd (cc)
turned true true false n o old e h s = s
turned true false true n o old e h s = absurd (cc)
turned true false false n o old e h (inl s) = inl s
turned true false false n o old e h (inr s) = inr (s ∙ sym (h refl refl))
turned false true true n o old e h s = inr refl
turned false true false n o old e h s = absurd (cc)
turned false false true n o old e h s = absurd (cc)
turned false false false n o old e h s = s

since_does : (old c d : Content) (q : DocKey) → IsTidy old → d.length ≡ c.length + 1 → Since old c q → Does c q d → Since old d q
since_does old c d q tidy len s (Leaves e f) = record {
  longer = let l = s.longer in omega arith;
  collection = λ h. subst (λ (m : Catalog). (has_collection m q.collection ≡ true) ⊎ ((has_collection m q.collection ≡ false) × (is_gone m q.collection ≡ true))) (sym f) (s.collection h);
  item = subst (λ (p : Option Item × Catalog). (is_behind old.length p.0 ≡ true) ⊎ (p.0 ≡ cond (has_collection p.1 q.collection) (map.get old.items q) None)) (λ i. (sym e i, sym f i)) s.item;
}
since_does old c d q tidy len s (Gives item n e has f) = record {
  longer = let l = s.longer in omega arith;
  collection = λ h. subst (λ (m : Catalog). (has_collection m q.collection ≡ true) ⊎ ((has_collection m q.collection ≡ false) × (is_gone m q.collection ≡ true))) (sym f) (s.collection h);
  item = inl (newer old.length item (map.get d.items q) e (let l = s.longer in omega arith));
}
since_does old c d q tidy len s (Turns step moves f e) = record {
  longer = let l = s.longer in omega arith;
  collection = λ h. subst (λ (m : Catalog). (has_collection m q.collection ≡ true) ⊎ ((has_collection m q.collection ≡ false) × (is_gone m q.collection ≡ true))) (sym f) (there (has_collection step.after q.collection) refl (s.collection h));
  item = subst (λ (p : Option Item × Catalog). (is_behind old.length p.0 ≡ true) ⊎ (p.0 ≡ cond (has_collection p.1 q.collection) (map.get old.items q) None)) (λ i. (sym e i, sym f i))
      (turned (has_collection step.after q.collection) (has_collection c.manifest q.collection) (is_listed q.collection step.dropped) old.length (map.get c.items q) (map.get old.items q) moves.dropped (back (has_collection old.manifest q.collection) refl) s.item);
}
  where
    there : (b : Bool) → has_collection step.after q.collection ≡ b → (has_collection c.manifest q.collection ≡ true) ⊎ ((has_collection c.manifest q.collection ≡ false) × (is_gone c.manifest q.collection ≡ true))
        → (has_collection step.after q.collection ≡ true) ⊎ ((has_collection step.after q.collection ≡ false) × (is_gone step.after q.collection ≡ true))
    there true g h = inl g
    there false g (inl h) = inr (g, moves.goes h g)
    there false g (inr h) = inr (g, moves.stays h.1)

    -- a collection that is there again wasn't there then
    back : (b : Bool) → has_collection old.manifest q.collection ≡ b → has_collection step.after q.collection ≡ true → has_collection c.manifest q.collection ≡ false → map.get old.items q ≡ None
    back false g h i = tidy q g
    back true g h i = never (s.collection g)
      where
        never : (has_collection c.manifest q.collection ≡ true) ⊎ ((has_collection c.manifest q.collection ≡ false) × (is_gone c.manifest q.collection ≡ true)) → map.get old.items q ≡ None
        never (inl j) = absurd (let z : true ≡ false = sym j ∙ i in cc)
        never (inr j) = absurd (let z : true ≡ false = sym (moves.back j.1 h) ∙ i in cc)

since_entries : (old c : Content) (es : List Entry) (q : DocKey) → IsTidy old → AllAllowed c es → Since old c q → Since old (with_entries c es) q
since_entries old c [] q tidy h s = s
since_entries old c (e ∷ es) q tidy h s = since_entries old (with_entry c e) es q tidy h.1 (since_does old c (with_entry c e) q tidy (entry_counts c e) s (entry_does c q e h.0))

-- ---- joining

find_both : (q : DocKey) (es fs : List (DocKey × Item)) → map.find key_cmp q (es ++ fs) ≡ cond (is_some (map.find key_cmp q es)) (map.find key_cmp q es) (map.find key_cmp q fs)
find_both q [] fs = refl
find_both q (e ∷ es) fs = go (eq_by_cmp key_cmp q e.0) (find_both q es fs)
  where
    go : (b : Bool) → map.find key_cmp q (es ++ fs) ≡ cond (is_some (map.find key_cmp q es)) (map.find key_cmp q es) (map.find key_cmp q fs)
        → cond b (Some e.1) (map.find key_cmp q (es ++ fs)) ≡ cond (is_some (cond b (Some e.1) (map.find key_cmp q es))) (cond b (Some e.1) (map.find key_cmp q es)) (map.find key_cmp q fs)
    go true h = refl
    go false h = h

joined_get : (a b : map.FinMap key_cmp Item) (q : DocKey) → map.get (map.from_entries {R = key_cmp} (map.entries a ++ map.entries b)) q ≡ cond (is_some (map.get a q)) (map.get a q) (map.get b q)
joined_get a b q =
    map.get-from_entries keys_total (map.entries a ++ map.entries b) q ∙ find_both q (map.entries a) (map.entries b)
    ∙ (λ i. cond (is_some (sym (map.get-entries a q) i)) (sym (map.get-entries a q) i) (sym (map.get-entries b q) i))

-- a key's item of the newer part, or else of the older
picked : (n : ℕ) (b : Bool) (o old : Option Item) → (is_behind n o ≡ true) ⊎ (o ≡ cond b old None) → cond (is_some (cond (is_behind n o) o None)) (cond (is_behind n o) o None) (cond b old None) ≡ o
picked n b None old (inl e) = absurd (cc)
picked n b None old (inr e) = sym e
picked n b (Some item) old (inl e) = rw e refl
picked n b (Some item) old (inr e) = go (nat_lt n item.seqno)
  where
    go : (t : Bool) → cond (is_some (cond t (Some item) None)) (cond t (Some item) None) (cond b old None) ≡ Some item
    go true = refl
    go false = sym e

behind_alike : (m : map.FinMap key_cmp Item) (n : ℕ) (q : DocKey) → map.get (map.retain_keys m (λ key. is_behind n (map.get m key))) q ≡ cond (is_behind n (map.get m q)) (map.get m q) None
behind_alike m n q = get_kept m (λ key. is_behind n (map.get m key)) q

joins : (old c : Content) → ((q : DocKey) → Since old c q) → joined old (difference c old.length) ≡ c
joins old c s = λ i. record c { items = same i }
  where
    same : (joined old (difference c old.length)).items ≡ c.items
    same = map.same_map keys_total exact_keys (joined old (difference c old.length)).items c.items (λ q.
        joined_get (difference c old.length).items (map.retain_keys old.items (λ key. has_collection c.manifest key.collection)) q
        ∙ (λ i. cond (is_some (behind_alike c.items old.length q i)) (behind_alike c.items old.length q i) (get_kept old.items (λ key. has_collection c.manifest key.collection) q i))
        ∙ picked old.length (has_collection c.manifest q.collection) (map.get c.items q) (map.get old.items q) (s q).item)

-- ---- whole logs

allowed_parts : (c : Content) (es fs : List Entry) → AllAllowed c (es ++ fs) → AllAllowed c es × AllAllowed (with_entries c es) fs
allowed_parts c [] fs h = (tt, h)
allowed_parts c (e ∷ es) fs h = let p = allowed_parts (with_entry c e) es fs h.1 in ((h.0, p.0), p.1)

pub joins_back : JoinsBack
joins_back log a h l =
    let whole : take a log ++ drop a log ≡ log = take-append-drop a log in
    let parts = allowed_parts no_content (take a log) (drop a log) (subst (λ es. AllAllowed no_content es) (sym whole) h) in
    let tidy : IsTidy (content_of (take a log)) = tidy_entries no_content (take a log) parts.0 (λ q e. map.get-empty key_cmp q) in
    let all : content_of log ≡ with_entries (content_of (take a log)) (drop a log) = ap content_of (sym whole) ∙ with_entries-append no_content (take a log) (drop a log) in
    let len : (content_of (take a log)).length ≡ a = content_length (take a log) ∙ length-take-le a log l in
    subst (λ n. joined (content_of (take a log)) (difference (content_of log) n) ≡ content_of log) len
    (subst (λ c. joined (content_of (take a log)) (difference c (content_of (take a log)).length) ≡ c) (sym all)
    (joins (content_of (take a log)) (with_entries (content_of (take a log)) (drop a log)) (λ q. since_entries (content_of (take a log)) (content_of (take a log)) (drop a log) q tidy parts.1 (since_start (content_of (take a log)) q tidy))))

-- ---- what a manifest takes and leaves

pub dropped_has_nothing : DroppedHasNothing
dropped_has_nothing log key h gone = tidy_entries no_content log h (λ q e. map.get-empty key_cmp q) key gone

-- behind a manifest a collection that is there was there, and keeps its items
left_alone : (c : Content) (q : DocKey) (r : Result Step Status) → ((step : Step) → r ≡ Ok step → Moves c.manifest step q.collection) → is_ok r ≡ true → has_collection (with_step c r).manifest q.collection ≡ true → map.get (with_step c r).items q ≡ map.get c.items q
left_alone c q (Ok step) moves ok there =
    get_kept c.items (λ key. not (is_listed key.collection step.dropped)) q
    ∙ ap (λ b. cond (not b) (map.get c.items q) None) ((moves step refl).dropped ∙ ap (λ b. not b && has_collection c.manifest q.collection) there)
left_alone c q (Err why) moves ok there = absurd (cc)

pub manifest_leaves_others : ManifestLeavesOthers
manifest_leaves_others log text key may there =
    let c = content_of log in
    let has : has_collection (with_step c (text_step c.manifest text)).manifest key.collection ≡ true = ap (λ (d : Content). has_collection d.manifest key.collection) (sym (one_more log (entries.Manifest text))) ∙ there in
    item_more log (entries.Manifest text) key
    ∙ left_alone c key (text_step c.manifest text) (λ step e. text_moves c.manifest key.collection (manifest_in text) step e) may has
