-- A content stays one that may be held, entry by entry.
use Rattle.std.specs.Prelude.{◌≡◌, ℕ, ◌+◌, ◌≤◌, nat_eq, nat_lt, nat_le, is_some, is_none, filter, Bool, true, false, cond, not, List, [], ◌∷◌, ◌++◌, length, Option, Some, None, Result, Ok, Err, IsTrue, refl}
use Rattle.std.specs.List.{list_all}
use Rattle.std.specs.Ordering.{eq_by_cmp}
use Rattle.std.specs.Option.{option_copied}
use Rattle.std.specs.Result.{is_ok}
use denote.Ref.{Bor}
use Rattle.std.specs.FinMap as map
use Rattle.std.proofs.Common.{sym, ◌∙◌, ap, subst, arith}
use Rattle.std.proofs.lemmas.Bool.{and_parts, and_from, leb-true, le-leb, lt-ltb}
use Rattle.doc_model.specs.declared.key.DocKey.{DocKey}
use Rattle.doc_model.specs.declared.document.Item.{Item}
use Rattle.doc_model.specs.declared.document.What.{What}
use Rattle.doc_model.specs.declared.status.Status.{Status}
use Rattle.doc_model.specs.Keys.{key_cmp, is_in}
use Rattle.doc_model.proofs.Entries.{exact_keys, keys_total, same_key}
use Rattle.doc_model.proofs.Drops.{same_kept}
use Rattle.doc_model.proofs.Weights.{key_tied}
use Rattle.manifest_rules.specs.Catalog.{Catalog}
use Rattle.manifest_rules.specs.Rules.{Step, first_catalog}
use Rattle.manifest_rules.specs.declared.applying.Dropped.{Dropped}
use Rattle.manifest_rules.specs.Applying.{text_step, Drops}
use Rattle.manifest_rules.specs.Ids.{SameIds}
use Rattle.manifest_rules.specs.State.{is_kept}
use Rattle.manifest_rules.proofs.Runs.{first_kept}
use Rattle.vb_log.specs.declared.entry.Entry.TheVariants as entries
use Rattle.vb_log.specs.declared.entry.Pending.{Pending}
use Rattle.vb_log.specs.declared.limits.TheConstants.{CONTENT_LIMIT, SUM_LIMIT}
use Rattle.vb_log.specs.Content.{Content, no_content, has_collection, prepare_at, prepare_of, item_made, with_item, other_than, committed, without, with_step, one_longer, with_entry, is_free}
use Rattle.vb_log.specs.Sizes.{size_of, item_size, size, is_within}
use Rattle.vb_log.specs.Held.{item_weight, items_size, pending_weight, pending_size, waiting_size, AreThere, positions_rise, positions_within, IsHeld}
use Rattle.vb_log.specs.Adding.{HasRoom, with_change, with_waiting, mark, with_room, items_given, items_with}
use Rattle.vb_log.proofs.Weighing.{size_none, size_insert, of_some, some_taken}
use Rattle.vb_log.proofs.Totals.{numbered_bytes}
use Rattle.vb_log.proofs.Prepared.{all_left, others_size}
use Rattle.vb_log.proofs.Joins.{IsTidy, entry_does, tidy_does}

-- ---- the parts

-- a content without entries
pub held_none : (items : map.FinMap key_cmp Item) (prepares : List Pending) (manifest : Catalog) → items ≡ map.empty → prepares ≡ [] → manifest ≡ first_catalog → IsHeld (record { items = items; prepares = prepares; manifest = manifest; greatest_cas = 0; length = 0 })
held_none items prepares manifest e f g = subst IsHeld same nothing
  where
    nothing : IsHeld no_content
    nothing = record { kept = first_kept; there = λ key _. map.get-empty key_cmp key; within = refl; fits = let z = size_none in omega arith }

    same : no_content ≡ record { items = items; prepares = prepares; manifest = manifest; greatest_cas = 0; length = 0 }
    same = λ i. record { items = sym e i; prepares = sym f i; manifest = sym g i; greatest_cas = 0; length = 0 }

-- a key whose collection is there has something else
pub there_insert : (manifest : Catalog) (items : map.FinMap key_cmp Item) (key : DocKey) (item : Item) → has_collection manifest key.collection ≡ true → AreThere manifest items → AreThere manifest (map.insert items key item)
there_insert manifest items key item has h q gone = map.get-insert keys_total items key item q ∙ go (eq_by_cmp key_cmp q key) refl
  where
    go : (b : Bool) → eq_by_cmp key_cmp q key ≡ b → cond b (Some item) (map.get items q) ≡ None
    go true t = absurd (let z : true ≡ false = sym has ∙ ap (λ (k : DocKey). has_collection manifest k.collection) (sym (same_key q key t)) ∙ gone in cc)
    go false t = h q gone

pub within_longer : (n m : ℕ) (ps : List Pending) → n ≤ m → positions_within n ps ≡ true → positions_within m ps ≡ true
within_longer n m [] l h = refl
within_longer n m (p ∷ ps) l h =
    let parts = and_parts (nat_le p.position n) (positions_within n ps) h in
    let low = leb-true p.position n parts.0 in
    and_from (nat_le p.position m) (positions_within m ps) (le-leb p.position m (omega arith)) (within_longer n m ps l parts.1)

pub within_push : (n : ℕ) (ps : List Pending) (p : Pending) → p.position ≤ n → positions_within n ps ≡ true → positions_within n (ps ++ p ∷ []) ≡ true
within_push n [] p l h = and_from (nat_le p.position n) true (le-leb p.position n l) refl
within_push n (x ∷ xs) p l h =
    let parts = and_parts (nat_le x.position n) (positions_within n xs) h in
    and_from (nat_le x.position n) _ parts.0 (within_push n xs p l parts.1)

within_kept : (n : ℕ) (test : Pending → Bool) (ps : List Pending) → positions_within n ps ≡ true → positions_within n (filter test ps) ≡ true
within_kept n test [] h = refl
within_kept n test (p ∷ ps) h =
    let parts = and_parts (nat_le p.position n) (positions_within n ps) h in
    go parts.0 (test p) (within_kept n test ps parts.1)
  where
    go : nat_le p.position n ≡ true → (b : Bool) → positions_within n (filter test ps) ≡ true → positions_within n (cond b (p ∷ filter test ps) (filter test ps)) ≡ true
    go first true rest = and_from (nat_le p.position n) _ first rest
    go first false rest = rest

pub within_others : (n of : ℕ) (ps : List Pending) → positions_within n ps ≡ true → positions_within n (other_than of ps) ≡ true
within_others n of ps h = within_kept n (λ p. not (nat_eq p.position of)) ps h

-- all that waits was prepared before the next entry
pub all_before : (n : ℕ) (ps : List Pending) → positions_within n ps ≡ true → list_all (λ (p : Pending). nat_lt p.position (n + 1)) ps ≡ true
all_before n [] h = refl
all_before n (p ∷ ps) h =
    let parts = and_parts (nat_le p.position n) (positions_within n ps) h in
    let low = leb-true p.position n parts.0 in
    and_from (nat_lt p.position (n + 1)) _ (lt-ltb p.position (n + 1) (omega arith)) (all_before n ps parts.1)

-- ---- whole contents

-- a content that isn't too large
pub record Fits (c : Content) : Type 0 where
  pub sized : size c ≤ CONTENT_LIMIT
  pub short : c.length + length c.prepares ≤ SUM_LIMIT

pub fits : (c : Content) → is_within c ≡ true → Fits c
fits c h =
    let parts = and_parts (nat_le (size c) CONTENT_LIMIT) (nat_le (c.length + length c.prepares) SUM_LIMIT) h in
    record { sized = leb-true (size c) CONTENT_LIMIT parts.0; short = leb-true (c.length + length c.prepares) SUM_LIMIT parts.1 }

-- a change that a look-up found is there
pub found : (o : Option (Bor Pending)) (p : Option Pending) (none : Bool) → option_copied o ≡ p → is_some o ≡ not none → none ≡ false → is_some p ≡ true
found o p none is told e = ap is_some (sym is) ∙ copied o ∙ told ∙ ap not e
  where
    copied : (o : Option (Bor Pending)) → is_some (option_copied o) ≡ is_some o
    copied None = refl
    copied (Some x) = refl

-- ---- a key that may be changed

pub free_there : (c : Content) (key : DocKey) → is_free c key ≡ true → has_collection c.manifest key.collection ≡ true
free_there c key h = (and_parts (is_none (prepare_of c.prepares key)) (has_collection c.manifest key.collection) h).1

-- ---- a Commit

-- a key that was given room has something, and what it gets then stands as if it had been set at once
pub room_there : (items : map.FinMap key_cmp Item) (key : DocKey) → is_some (map.get (with_room items key) key) ≡ true
room_there items key = go (is_some (map.get items key)) refl
  where
    go : (b : Bool) → is_some (map.get items key) ≡ b → is_some (map.get (cond b items (map.insert items key (mark key))) key) ≡ true
    go true e = e
    go false e = ap is_some (map.get-insert keys_total items key (mark key) key) ∙ ap (λ b. is_some (cond b (Some (mark key)) (map.get items key))) (key_tied key)

-- what is set twice
pub twice : (items : map.FinMap key_cmp Item) (key : DocKey) (first second : Item) → map.insert (map.insert items key first) key second ≡ map.insert items key second
twice items key first second = map.same_map keys_total exact_keys (map.insert (map.insert items key first) key second) (map.insert items key second) (λ q.
    map.get-insert keys_total (map.insert items key first) key second q
    ∙ ap (cond (eq_by_cmp key_cmp q key) (Some second)) (map.get-insert keys_total items key first q)
    ∙ go (eq_by_cmp key_cmp q key) (map.get items q)
    ∙ sym (map.get-insert keys_total items key second q))
  where
    go : (b : Bool) (o : Option Item) → cond b (Some second) (cond b (Some first) o) ≡ cond b (Some second) o
    go true o = refl
    go false o = refl

pub room_given : (items : map.FinMap key_cmp Item) (key : DocKey) (item : Item) → map.insert (with_room items key) key item ≡ map.insert items key item
room_given items key item = go (is_some (map.get items key))
  where
    go : (b : Bool) → map.insert (cond b items (map.insert items key (mark key))) key item ≡ map.insert items key item
    go true = refl
    go false = twice items key (mark key) item

pub room_size : (items : map.FinMap key_cmp Item) (key : DocKey) → items_size (with_room items key) ≤ items_size items + size_of key (mark key).what
room_size items key = go (is_some (map.get items key))
  where
    go : (b : Bool) → items_size (cond b items (map.insert items key (mark key))) ≤ items_size items + size_of key (mark key).what
    go true = omega arith
    go false = let e = size_insert items key (mark key) in omega arith

-- a content one entry longer, with other items and other changes that wait
abbrev pub longer_with : Content → map.FinMap key_cmp Item → List Pending → Content
longer_with c items prepares = record { items = items; prepares = prepares; manifest = c.manifest; greatest_cas = c.greatest_cas; length = c.length + 1 }

-- what a Commit leaves, as the code makes it
pub commit_is : (c : Content) (of : ℕ) → with_entry c (entries.Commit of) ≡ longer_with c (items_with c.items c.manifest (c.length + 1) (prepare_at c.prepares of)) (other_than of c.prepares)
commit_is c of = go (prepare_at c.prepares of)
  where
    by : (p : Pending) (b : Bool) → one_longer (record (cond b (with_item c p.key p.what) c) { prepares = other_than of c.prepares }) ≡ longer_with c (cond b (map.insert c.items p.key (item_made (c.length + 1) p.key p.what)) c.items) (other_than of c.prepares)
    by p true = refl
    by p false = refl

    go : (o : Option Pending) → one_longer (record (committed c o) { prepares = other_than of c.prepares }) ≡ longer_with c (items_with c.items c.manifest (c.length + 1) o) (other_than of c.prepares)
    go None = refl
    go (Some p) = by p (has_collection c.manifest p.key.collection)

-- a change whose collection is there is made where its key was given room
pub made_in_room : (items new : map.FinMap key_cmp Item) (manifest : Catalog) (position : ℕ) (key : DocKey) (p : Pending) (o : Option Pending) → Some p ≡ o → key ≡ p.key → has_collection manifest key.collection ≡ true
    → new ≡ items_given (with_room items key) position o → new ≡ items_with items manifest position o
made_in_room items new manifest position key p o is own has made =
    made ∙ ap (items_given (with_room items key) position) (sym is)
    ∙ ap (λ k. map.insert (with_room items k) p.key (item_made position p.key p.what)) own
    ∙ room_given items p.key (item_made position p.key p.what)
    ∙ sym (ap (λ b. cond b (map.insert items p.key (item_made position p.key p.what)) items) (ap (λ (k : DocKey). has_collection manifest k.collection) (sym own) ∙ has))
    ∙ ap (items_with items manifest position) is

-- what a content counts once a change is made, and what its key had, or else itself
pub commit_counts : (c : Content) (of : ℕ) (p : Pending) (n : ℕ) → Some p ≡ prepare_at c.prepares of → positions_rise c.prepares ≡ true → n ≡ cond (has_collection c.manifest p.key.collection) (item_size (map.get c.items p.key)) (pending_weight p)
    → size (with_entry c (entries.Commit of)) + n ≡ size c
commit_counts c of p n is rise counted = go (has_collection c.manifest p.key.collection) refl
  where
    items : Bool → map.FinMap key_cmp Item
    items b = cond b (map.insert c.items p.key (item_made (c.length + 1) p.key p.what)) c.items

    whole : (b : Bool) → has_collection c.manifest p.key.collection ≡ b → size (with_entry c (entries.Commit of)) ≡ items_size (items b) + waiting_size (other_than of c.prepares)
    whole b e = ap size (commit_is c of) ∙ ap (λ o. items_size (items_with c.items c.manifest (c.length + 1) o) + waiting_size (other_than of c.prepares)) (sym is) ∙ ap (λ b. items_size (items b) + waiting_size (other_than of c.prepares)) e

    weighs : item_weight (item_made (c.length + 1) p.key p.what) ≡ pending_weight p
    weighs = ap (λ n. 288 + length p.key.key + n) (numbered_bytes (c.length + 1) p.what)

    go : (b : Bool) → has_collection c.manifest p.key.collection ≡ b → size (with_entry c (entries.Commit of)) + n ≡ size c
    go b e =
        let all = whole b e in
        let less = others_size of c.prepares rise in
        let its : pending_size (prepare_at c.prepares of) ≡ pending_weight p = ap pending_size (sym is) in
        let its_size = counted ∙ ap (λ b. cond b (item_size (map.get c.items p.key)) (pending_weight p)) e in
        by b all less its its_size
      where
        by : (b : Bool) → size (with_entry c (entries.Commit of)) ≡ items_size (items b) + waiting_size (other_than of c.prepares) → waiting_size (other_than of c.prepares) + pending_size (prepare_at c.prepares of) ≡ waiting_size c.prepares
            → pending_size (prepare_at c.prepares of) ≡ pending_weight p → n ≡ cond b (item_size (map.get c.items p.key)) (pending_weight p) → size (with_entry c (entries.Commit of)) + n ≡ size c
        by true all less its own = let k = size_insert c.items p.key (item_made (c.length + 1) p.key p.what) in let w = weighs in omega arith
        by false all less its own = omega arith

-- where none waits, a Commit leaves as much
pub no_commit_counts : (c : Content) (of : ℕ) → None ≡ prepare_at c.prepares of → size (with_entry c (entries.Commit of)) ≡ size c
no_commit_counts c of is =
    let whole : size (with_entry c (entries.Commit of)) ≡ items_size c.items + waiting_size (other_than of c.prepares) =
    ap size (commit_is c of) ∙ ap (λ o. items_size (items_with c.items c.manifest (c.length + 1) o) + waiting_size (other_than of c.prepares)) (sym is) in
    let same = ap waiting_size (all_left of c.prepares (sym is)) in
    omega arith

pub there_with : (manifest : Catalog) (items : map.FinMap key_cmp Item) (position : ℕ) (o : Option Pending) → AreThere manifest items → AreThere manifest (items_with items manifest position o)
there_with manifest items position None h = h
there_with manifest items position (Some p) h = go (has_collection manifest p.key.collection) refl
  where
    go : (b : Bool) → has_collection manifest p.key.collection ≡ b → AreThere manifest (cond b (map.insert items p.key (item_made position p.key p.what)) items)
    go true e = there_insert manifest items p.key (item_made position p.key p.what) e h
    go false e = h

-- ---- a Manifest

-- the items without those of some collections, whichever way the ids stand
pub same_without : (items : map.FinMap key_cmp Item) (ids dropped : List ℕ) → SameIds ids dropped → map.retain_keys items (λ key. not (is_in ids key)) ≡ without items dropped
same_without items ids dropped same = same_kept items (λ key. not (is_in ids key)) (λ key. not (is_in dropped key)) (λ q. ap (λ b. cond (not b) (map.get items q) None) (same q.collection))

-- ---- what each entry leaves is held

pub change_held : (c : Content) (items : map.FinMap key_cmp Item) (key : DocKey) (what : What) (cas : ℕ) → IsHeld c → HasRoom (is_free c key) c (with_change c key what) → is_free c key ≡ true
    → items ≡ map.insert c.items key (item_made (c.length + 1) key what) → IsHeld (record { items = items; prepares = c.prepares; manifest = c.manifest; greatest_cas = cas; length = c.length + 1 })
change_held c items key what cas h room free is = record {
  kept = h.kept;
  there = subst (AreThere c.manifest) (sym is) (there_insert c.manifest c.items key (item_made (c.length + 1) key what) (free_there c key free) h.there);
  within = within_longer c.length (c.length + 1) c.prepares (omega arith) h.within;
  fits = let f = (fits (with_change c key what) (room.after free)).sized in let e = ap items_size is in omega arith;
}

pub prepare_held : (c : Content) (prepares : List Pending) (key : DocKey) (what : What) (level cas : ℕ) → IsHeld c → HasRoom (is_free c key) c (with_waiting c key what level) → is_free c key ≡ true
    → prepares ≡ c.prepares ++ record { position = c.length + 1; level = level; key = key; what = what } ∷ [] → IsHeld (record { items = c.items; prepares = prepares; manifest = c.manifest; greatest_cas = cas; length = c.length + 1 })
prepare_held c prepares key what level cas h room free is = record {
  kept = h.kept;
  there = h.there;
  within = ap (positions_within (c.length + 1)) is ∙ within_push (c.length + 1) c.prepares (record { position = c.length + 1; level = level; key = key; what = what }) (omega arith) (within_longer c.length (c.length + 1) c.prepares (omega arith) h.within);
  fits = let f = (fits (with_waiting c key what level) (room.after free)).sized in let e = ap waiting_size is in omega arith;
}

pub commit_held : (c : Content) (of : ℕ) (items : map.FinMap key_cmp Item) (prepares : List Pending) → IsHeld c → HasRoom (is_some (prepare_at c.prepares of)) c (with_entry c (entries.Commit of)) → is_some (prepare_at c.prepares of) ≡ true
    → items ≡ items_with c.items c.manifest (c.length + 1) (prepare_at c.prepares of) → prepares ≡ other_than of c.prepares → IsHeld (longer_with c items prepares)
commit_held c of items prepares h room may is also = record {
  kept = h.kept;
  there = subst (AreThere c.manifest) (sym is) (there_with c.manifest c.items (c.length + 1) (prepare_at c.prepares of) h.there);
  within = ap (positions_within (c.length + 1)) also ∙ within_others (c.length + 1) of c.prepares (within_longer c.length (c.length + 1) c.prepares (omega arith) h.within);
  fits =
      let f = (fits (with_entry c (entries.Commit of)) (room.after may)).sized in
      let e = ap size (commit_is c of) in
      let a = ap items_size is in
      let b = ap waiting_size also in
      omega arith;
}

pub abort_held : (c : Content) (of : ℕ) (prepares : List Pending) → IsHeld c → HasRoom (is_some (prepare_at c.prepares of)) c (with_entry c (entries.Abort of)) → is_some (prepare_at c.prepares of) ≡ true
    → prepares ≡ other_than of c.prepares → IsHeld (longer_with c c.items prepares)
abort_held c of prepares h room may is = record {
  kept = h.kept;
  there = h.there;
  within = ap (positions_within (c.length + 1)) is ∙ within_others (c.length + 1) of c.prepares (within_longer c.length (c.length + 1) c.prepares (omega arith) h.within);
  fits = let f = (fits (with_entry c (entries.Abort of)) (room.after may)).sized in let e = ap waiting_size is in omega arith;
}

-- a content one entry longer, with other items and another manifest
abbrev pub longer_under : Content → map.FinMap key_cmp Item → Catalog → Content
longer_under c items manifest = record { items = items; prepares = c.prepares; manifest = manifest; greatest_cas = c.greatest_cas; length = c.length + 1 }

-- what a manifest leaves, as the code makes it
pub manifest_is : (c : Content) (text : List ℕ) (step : Step) (items : map.FinMap key_cmp Item) → text_step c.manifest text ≡ Ok step → items ≡ without c.items step.dropped
    → longer_under c items step.after ≡ with_entry c (entries.Manifest text)
manifest_is c text step items e is = ap (λ m. longer_under c m step.after) is ∙ sym (ap (λ r. one_longer (with_step c r)) e)

pub manifest_held : (c : Content) (text : List ℕ) (step : Step) (items : map.FinMap key_cmp Item) → IsHeld c → HasRoom (is_ok (text_step c.manifest text)) c (with_entry c (entries.Manifest text)) → text_step c.manifest text ≡ Ok step
    → IsTrue (is_kept step.after) → items ≡ without c.items step.dropped → IsHeld (longer_under c items step.after)
manifest_held c text step items h room e kept is =
    let may : is_ok (text_step c.manifest text) ≡ true = ap is_ok e in
    let made = manifest_is c text step items e is in
    record {
      kept = kept;
      there = subst IsTidy (sym made) (λ q gone. tidy_does c (with_entry c (entries.Manifest text)) q h.there (entry_does c q (entries.Manifest text) may) gone);
      within = within_longer c.length (c.length + 1) c.prepares (omega arith) h.within;
      fits = let f = (fits (with_entry c (entries.Manifest text)) (room.after may)).sized in let s = ap size made in omega arith;
    }

-- what a content counts under another manifest, and what that drops
pub manifest_counts : (c : Content) (text : List ℕ) (dropped : Dropped) (ids : List ℕ) → Drops (text_step c.manifest text) dropped → SameIds ids dropped.collections → size (with_entry c (entries.Manifest text)) + items_size (of_some ids c.items) ≡ size c
manifest_counts c text dropped ids h same = by (text_step c.manifest text) refl h
  where
    by : (r : Result Step Status) → text_step c.manifest text ≡ r → Drops r dropped → size (with_entry c (entries.Manifest text)) + items_size (of_some ids c.items) ≡ size c
    by (Err why) e h = absurd h
    by (Ok step) e h =
        let whole = ap size (ap (λ r. one_longer (with_step c r)) e) in
        let left : map.retain_keys c.items (λ key. not (is_in ids key)) ≡ without c.items step.dropped = same_without c.items ids dropped.collections same ∙ ap (without c.items) (sym h.0) in
        let less = ap items_size left in
        let parts = some_taken c.items ids in
        omega arith
