-- The changes that wait are those that Prepares of the log say.
use Rattle.std.specs.Prelude.{◌≡◌, ◌≢◌, ℕ, ◌+◌, ◌<◌, nat_eq, is_some, find, filter, Bool, true, false, cond, not, List, [], ◌∷◌, ◌++◌, length, drop, Option, Some, None, Result, Ok, Err, refl}
use Rattle.std.specs.List.{AllByRecursion}
use Rattle.std.specs.FinMap as map
use Rattle.std.specs.Option.{option_or}
use Rattle.std.specs.declared.cmp.Ordering.{Ordering}
use Rattle.std.specs.declared.cmp.Ordering.TheVariants.{Less, Equal, Greater}
use Rattle.std.specs.Ordering.{is_eq, eq_by_cmp, ordering_reverse}
use Rattle.std.proofs.Common.{sym, ◌∙◌, ap, subst, append_assoc, arith}
use Rattle.std.proofs.lemmas.Bool.{eqb-true}
use Rattle.std.proofs.lemmas.Bool.Decides.{nat_tests}
use Rattle.std.proofs.lemmas.List.{drop_at, length-append}
use Rattle.std.proofs.lemmas.List.Folds.{find-append}
use Rattle.doc_model.specs.declared.key.DocKey.{DocKey}
use Rattle.doc_model.specs.declared.document.What.{What}
use Rattle.doc_model.specs.declared.document.Item.{Item}
use Rattle.doc_model.specs.declared.status.Status.{Status}
use Rattle.doc_model.specs.Keys.{key_cmp}
use Rattle.doc_model.proofs.Entries.{keys_total, same_key}
use Rattle.manifest_rules.specs.Rules.{Step}
use Rattle.manifest_rules.specs.Applying.{text_step}
use Rattle.vb_log.specs.declared.entry.Entry.{Entry}
use Rattle.vb_log.specs.declared.entry.Entry.TheVariants as entries
use Rattle.vb_log.specs.declared.entry.Pending.{Pending}
use Rattle.vb_log.specs.Content.{Content, no_content, has_collection, prepare_at, item_made, with_item, other_than, committed, with_step, with_entry, with_entries, content_of, with_entries-append}
use Rattle.vb_log.specs.Laws.{item_of, followed_by, PreparedAt, Waits, WaitsAsPrepared, PrepareShowsNothing, PrepareWaits, CommitShows, CommitLeavesOthers, CommitOfDropped, EndsOne, AbortShowsNothing}
use Rattle.vb_log.proofs.Logs.{entry_counts, content_length}

-- ---- lists of what waits

all_weaker : {A : Type 0} (P Q : A → Type 0) → ((x : A) → P x → Q x) → (xs : List A) → AllByRecursion P xs → AllByRecursion Q xs
all_weaker P Q f [] h = tt
all_weaker P Q f (x ∷ xs) h = (f x h.0, all_weaker P Q f xs h.1)

all_push : {A : Type 0} (P : A → Type 0) (xs : List A) (y : A) → AllByRecursion P xs → P y → AllByRecursion P (xs ++ y ∷ [])
all_push P [] y h k = (k, tt)
all_push P (x ∷ xs) y h k = (h.0, all_push P xs y h.1 k)

all_filter : {A : Type 0} (P : A → Type 0) (test : A → Bool) (xs : List A) → AllByRecursion P xs → AllByRecursion P (filter test xs)
all_filter P test [] h = tt
all_filter {A} P test (x ∷ xs) h = go (test x) (all_filter P test xs h.1)
  where
    go : (b : Bool) → AllByRecursion P (filter test xs) → AllByRecursion P (cond b (x ∷ filter test xs) (filter test xs))
    go true k = (h.0, k)
    go false k = k

-- what is found passes the test, and is as all are
pub record Found {A : Type 0} (P : A → Type 0) (test : A → Bool) (x : A) : Type 0 where
  pub one : P x
  pub passes : test x ≡ true

found_one : {A : Type 0} (P : A → Type 0) (test : A → Bool) (xs : List A) (y : A) → AllByRecursion P xs → find test xs ≡ Some y → Found P test y
found_one P test [] y h e = absurd (cc)
found_one {A} P test (x ∷ xs) y h e = go (test x) refl (λ q. found_one P test xs y h.1 q) e
  where
    same : (a b : A) → Some a ≡ Some b → a ≡ b
    same a b q = cc

    go : (b : Bool) → test x ≡ b → (find test xs ≡ Some y → Found P test y) → cond b (Some x) (find test xs) ≡ Some y → Found P test y
    go true t later q = subst (λ z. Found P test z) (same x y q) (record { one = h.0; passes = t })
    go false t later q = later q

-- ---- what waits stands in the log

abbrev pub Stands : List Entry → Pending → Type 0
Stands log p = PreparedAt log p.position p.key p.what p.level

stands_longer : (log more : List Entry) (p : Pending) → Stands log p → Stands (log ++ more) p
stands_longer log more p s = record {
  before = s.before;
  after = s.after ++ more;
  parts = ap (λ l. l ++ more) s.parts ∙ append_assoc s.before (entries.Prepare p.key p.what p.level ∷ s.after) more;
  place = s.place;
}

step_prepares : (c : Content) (r : Result Step Status) → c.prepares ≡ (with_step c r).prepares
step_prepares c (Ok step) = refl
step_prepares c (Err why) = refl

-- they do behind one entry more
entry_stands : (log : List Entry) (c : Content) (e : Entry) → c.length ≡ length log → AllByRecursion (Stands log) c.prepares → AllByRecursion (Stands (log ++ e ∷ [])) (with_entry c e).prepares
entry_stands log c e len h = go e (all_weaker (Stands log) (Stands (log ++ e ∷ [])) (stands_longer log (e ∷ [])) c.prepares h)
  where
    go : (e : Entry) → AllByRecursion (Stands (log ++ e ∷ [])) c.prepares → AllByRecursion (Stands (log ++ e ∷ [])) (with_entry c e).prepares
    go (entries.Mutation key doc) k = k
    go (entries.Deletion key cas) k = k
    go (entries.Prepare key what level) k =
        all_push (Stands (log ++ entries.Prepare key what level ∷ [])) c.prepares _ k (record { before = log; after = []; parts = refl; place = ap (λ n. n + 1) len })
    go (entries.Commit of) k = all_filter (Stands (log ++ entries.Commit of ∷ [])) (λ p. not (nat_eq p.position of)) c.prepares k
    go (entries.Abort of) k = all_filter (Stands (log ++ entries.Abort of ∷ [])) (λ p. not (nat_eq p.position of)) c.prepares k
    go (entries.Manifest text) k = subst (λ ps. AllByRecursion (Stands (log ++ entries.Manifest text ∷ [])) ps) (step_prepares c (text_step c.manifest text)) k

all_stand : (log es : List Entry) (c : Content) → c.length ≡ length log → AllByRecursion (Stands log) c.prepares → AllByRecursion (Stands (log ++ es)) (with_entries c es).prepares
all_stand log [] c len h = all_weaker (Stands log) (Stands (log ++ [])) (stands_longer log []) c.prepares h
all_stand log (e ∷ es) c len h =
    let longer : (with_entry c e).length ≡ length (log ++ e ∷ []) = omega (arith, entry_counts c e, length-append log (e ∷ [])) in
    subst (λ l. AllByRecursion (Stands l) (with_entries (with_entry c e) es).prepares) (append_assoc log (e ∷ []) es)
    (all_stand (log ++ e ∷ []) es (with_entry c e) longer (entry_stands log c e len h))

log_stands : (log : List Entry) → AllByRecursion (Stands log) (content_of log).prepares
log_stands log = all_stand [] log no_content refl tt

pub waits_as_prepared : WaitsAsPrepared
waits_as_prepared log position p e =
    let f = found_one (Stands log) (λ p. nat_eq p.position position) (content_of log).prepares p (log_stands log) e in
    let at : p.position ≡ position = eqb-true p.position position f.passes in
    (at, subst (λ n. PreparedAt log n p.key p.what p.level) at f.one)

-- one position has one Prepare
pub record SameChange (key also : DocKey) (what other : What) (level less : ℕ) : Type 0 where
  pub key_is : key ≡ also
  pub what_is : what ≡ other
  pub level_is : level ≡ less

one_prepare : (log : List Entry) (position : ℕ) (key also : DocKey) (what other : What) (level less : ℕ) → PreparedAt log position key what level → PreparedAt log position also other less → SameChange key also what other level less
one_prepare log position key also what other level less a b =
    let e : a.before ++ entries.Prepare key what level ∷ a.after ≡ b.before ++ entries.Prepare also other less ∷ b.after = sym a.parts ∙ b.parts in
    let len : length b.before ≡ length a.before = (let p = a.place in let q = b.place in omega arith) in
    let rest : entries.Prepare key what level ∷ a.after ≡ entries.Prepare also other less ∷ b.after =
    sym (drop_at a.before (entries.Prepare key what level ∷ a.after) (length a.before) refl) ∙ ap (drop (length a.before)) e ∙ drop_at b.before (entries.Prepare also other less ∷ b.after) (length a.before) len in
    record { key_is = cc; what_is = cc; level_is = cc }

-- ---- one entry more

pub one_more : (log : List Entry) (e : Entry) → content_of (followed_by log e) ≡ with_entry (content_of log) e
one_more log e = with_entries-append no_content log (e ∷ [])

pub item_more : (log : List Entry) (e : Entry) (key : DocKey) → item_of (followed_by log e) key ≡ map.get (with_entry (content_of log) e).items key
item_more log e key = ap (λ (c : Content). map.get c.items key) (one_more log e)

pub prepare_shows_nothing : PrepareShowsNothing
prepare_shows_nothing log key other what level = item_more log (entries.Prepare key what level) other

pub abort_shows_nothing : AbortShowsNothing
abort_shows_nothing log of key = item_more log (entries.Abort of) key

-- ---- a wait that ends

none_left : (of : ℕ) (ps : List Pending) → prepare_at (other_than of ps) of ≡ None
none_left of [] = refl
none_left of (p ∷ ps) = go (nat_eq p.position of) refl (none_left of ps)
  where
    go : (b : Bool) → nat_eq p.position of ≡ b → prepare_at (other_than of ps) of ≡ None → prepare_at (cond (not b) (p ∷ other_than of ps) (other_than of ps)) of ≡ None
    go true e later = later
    go false e later = ap (λ b. cond b (Some p) (prepare_at (other_than of ps) of)) e ∙ later

others_left : (of position : ℕ) (ps : List Pending) → position ≢ of → prepare_at (other_than of ps) position ≡ prepare_at ps position
others_left of position [] n = refl
others_left of position (p ∷ ps) n = go (nat_eq p.position of) refl (others_left of position ps n)
  where
    other : nat_eq p.position of ≡ true → nat_eq p.position position ≡ false
    other e = grind (arith, nat_tests)

    go : (b : Bool) → nat_eq p.position of ≡ b → prepare_at (other_than of ps) position ≡ prepare_at ps position
        → prepare_at (cond (not b) (p ∷ other_than of ps) (other_than of ps)) position ≡ cond (nat_eq p.position position) (Some p) (prepare_at ps position)
    go true e later = later ∙ sym (ap (λ b. cond b (Some p) (prepare_at ps position)) (other e))
    go false e later = ap (λ o. cond (nat_eq p.position position) (Some p) o) later

ends : (entry : ℕ → Entry) → ((c : Content) (of : ℕ) → (with_entry c (entry of)).prepares ≡ other_than of c.prepares) → EndsOne entry
ends entry h log of position =
    let is : (content_of (followed_by log (entry of))).prepares ≡ other_than of (content_of log).prepares = ap (λ (c : Content). c.prepares) (one_more log (entry of)) ∙ h (content_of log) of in (
      ap (λ ps. prepare_at ps of) is ∙ none_left of (content_of log).prepares,
      λ n. ap (λ ps. prepare_at ps position) is ∙ others_left of position (content_of log).prepares n,
    )

pub commit_ends : EndsOne (λ of. entries.Commit of)
commit_ends = ends (λ of. entries.Commit of) (λ c of. refl)

pub abort_ends : EndsOne (λ of. entries.Abort of)
abort_ends = ends (λ of. entries.Abort of) (λ c of. refl)

-- ---- a Commit

-- what waits is what is found at its position
pub record IsFound (log : List Entry) (of : ℕ) (key : DocKey) (what : What) : Type 0 where
  pub pending : Pending
  pub found : prepare_at (content_of log).prepares of ≡ Some pending
  pub key_is : pending.key ≡ key
  pub what_is : pending.what ≡ what

is_found : (log : List Entry) (of : ℕ) (key : DocKey) (what : What) (level : ℕ) → Waits log of key what level → IsFound log of key what
is_found log of key what level w = go (prepare_at (content_of log).prepares of) refl w.undecided
  where
    go : (o : Option Pending) → prepare_at (content_of log).prepares of ≡ o → is_some o ≡ true → IsFound log of key what
    go None e h = absurd (cc)
    go (Some p) e h =
        let same = one_prepare log of p.key key p.what what p.level level (waits_as_prepared log of p e).1 w.prepared in
        record { pending = p; found = e; key_is = same.key_is; what_is = same.what_is }

-- the items behind a Commit, where the collection is there and where it isn't
commit_items : (c : Content) (of : ℕ) (p : Pending) (b : Bool) → prepare_at c.prepares of ≡ Some p → has_collection c.manifest p.key.collection ≡ b → (with_entry c (entries.Commit of)).items ≡ (cond b (with_item c p.key p.what) c).items
commit_items c of p b e h = ap (λ o. (committed c o).items) e ∙ ap (λ b. (cond b (with_item c p.key p.what) c).items) h

pub commit_shows : CommitShows
commit_shows log of key what level w there =
    let f = is_found log of key what level w in
    let p = f.pending in
    let c = content_of log in
    let has : has_collection c.manifest p.key.collection ≡ true = ap (λ (k : DocKey). has_collection c.manifest k.collection) f.key_is ∙ there in
    item_more log (entries.Commit of) key
    ∙ ap (λ (m : map.FinMap key_cmp Item). map.get m key) (commit_items c of p true f.found has)
    ∙ map.get-insert keys_total c.items p.key (item_made (c.length + 1) p.key p.what) key
    ∙ ap (λ k. cond (eq_by_cmp key_cmp key k) (Some (item_made (c.length + 1) k p.what)) (map.get c.items key)) f.key_is
    ∙ ap (λ b. cond b (Some (item_made (c.length + 1) key p.what)) (map.get c.items key)) (itself key)
    ∙ ap (λ x. Some (item_made (c.length + 1) key x)) f.what_is
    ∙ ap (λ n. Some (item_made (n + 1) key what)) (content_length log)
  where
    even : (o : Ordering) → o ≡ ordering_reverse o → is_eq o ≡ true
    even Less e = absurd (cc)
    even Equal e = refl
    even Greater e = absurd (cc)

    itself : (k : DocKey) → eq_by_cmp key_cmp k k ≡ true
    itself k = even (key_cmp k k) (keys_total.antisymm k k)

pub commit_leaves_others : CommitLeavesOthers
commit_leaves_others log of key other what level w differs =
    let f = is_found log of key what level w in
    go f (has_collection (content_of log).manifest f.pending.key.collection) refl
  where
    apart : (f : IsFound log of key what) → eq_by_cmp key_cmp other f.pending.key ≡ false
    apart f = go (eq_by_cmp key_cmp other f.pending.key) refl
      where
        go : (b : Bool) → eq_by_cmp key_cmp other f.pending.key ≡ b → b ≡ false
        go true e = absurd (differs (same_key other f.pending.key e ∙ f.key_is))
        go false e = refl

    go : (f : IsFound log of key what) (b : Bool) → has_collection (content_of log).manifest f.pending.key.collection ≡ b → item_of (followed_by log (entries.Commit of)) other ≡ item_of log other
    go f true h =
        item_more log (entries.Commit of) other
        ∙ ap (λ (m : map.FinMap key_cmp Item). map.get m other) (commit_items (content_of log) of f.pending true f.found h)
        ∙ map.get-insert keys_total (content_of log).items f.pending.key (item_made ((content_of log).length + 1) f.pending.key f.pending.what) other
        ∙ ap (λ b. cond b (Some (item_made ((content_of log).length + 1) f.pending.key f.pending.what)) (item_of log other)) (apart f)
    go f false h = item_more log (entries.Commit of) other ∙ ap (λ (m : map.FinMap key_cmp Item). map.get m other) (commit_items (content_of log) of f.pending false f.found h)

pub commit_of_dropped : CommitOfDropped
commit_of_dropped log of key other what level w gone =
    let f = is_found log of key what level w in
    let h : has_collection (content_of log).manifest f.pending.key.collection ≡ false = ap (λ (k : DocKey). has_collection (content_of log).manifest k.collection) f.key_is ∙ gone in
    item_more log (entries.Commit of) other ∙ ap (λ (m : map.FinMap key_cmp Item). map.get m other) (commit_items (content_of log) of f.pending false f.found h)

-- ---- a Prepare

-- none of what waits was prepared behind the log
none_behind : (log : List Entry) (ps : List Pending) → AllByRecursion (Stands log) ps → prepare_at ps (length log + 1) ≡ None
none_behind log [] h = refl
none_behind log (p ∷ ps) h = ap (λ b. cond b (Some p) (prepare_at ps (length log + 1))) other ∙ none_behind log ps h.1
  where
    other : nat_eq p.position (length log + 1) ≡ false
    other =
        let s = h.0 in
        let place = s.place in
        let whole = ap length s.parts ∙ length-append s.before (entries.Prepare p.key p.what p.level ∷ s.after) in
        let less : p.position < length log + 1 = omega arith in
        grind (arith, nat_tests)

pub prepare_waits : PrepareWaits
prepare_waits log key what level =
    let c = content_of log in
    let len : c.length ≡ length log = content_length log in
    let new : Pending = record { position = c.length + 1; level = level; key = key; what = what } in
    let none : prepare_at c.prepares (length log + 1) ≡ None = none_behind log c.prepares (log_stands log) in
    let at : nat_eq (c.length + 1) (length log + 1) ≡ true = grind (arith, nat_tests) in
    record {
      prepared = record { before = log; after = []; parts = refl; place = refl };
      undecided =
          ap (λ (d : Content). is_some (prepare_at d.prepares (length log + 1))) (one_more log (entries.Prepare key what level))
          ∙ ap is_some (find-append (λ p. nat_eq p.position (length log + 1)) c.prepares (new ∷ []))
          ∙ ap (λ o. is_some (option_or o (cond (nat_eq (c.length + 1) (length log + 1)) (Some new) None))) none
          ∙ ap (λ b. is_some (cond b (Some new) None)) at;
    }
