-- The first changes that wait, as they are committed.
use Rattle.std.specs.Prelude.{◌≡◌, ℕ, ◌+◌, ◌<◌, ◌≤◌, ◌^◌, nat_eq, nat_le, is_some, is_none, map as list_map, Bool, true, false, cond, not, ◌&&◌, ◌||◌, List, [], ◌∷◌, ◌++◌, length, take, Option, Some, None, refl}
use Rattle.std.specs.List.{list_any, flat_map}
use Rattle.std.specs.Ordering.{eq_by_cmp}
use Rattle.std.specs.FinMap as map
use Rattle.std.proofs.Common.{zero, suc, sym, ◌∙◌, ap, subst, get_or, drop, drop-cons, length-drop, arith}
use Rattle.std.proofs.lemmas.Bool.{and_parts}
use Rattle.std.proofs.lemmas.Bool.Decides.{nat_tests}
use Rattle.std.proofs.lemmas.List.Sums.{sum_by-cons}
use Rattle.doc_model.specs.declared.key.DocKey.{DocKey}
use Rattle.doc_model.specs.declared.document.Item.{Item}
use Rattle.doc_model.specs.Keys.{key_cmp}
use Rattle.doc_model.proofs.Entries.{exact_keys, keys_total}
use Rattle.doc_model.proofs.Weights.{key_tied}
use Rattle.manifest_rules.specs.Catalog.{Catalog}
use Rattle.vb_log.specs.declared.entry.Entry.TheVariants as entries
use Rattle.vb_log.specs.declared.entry.Pending.{Pending}
use Rattle.vb_log.specs.declared.limits.TheConstants.{CONTENT_LIMIT, SUM_LIMIT}
use Rattle.vb_log.specs.Adding.{mark, items_with}
use Rattle.vb_log.specs.Content.{Content, has_collection, prepare_at, item_made, other_than, with_entry, with_entries, AllAllowed}
use Rattle.vb_log.specs.Contents.{keys_waiting}
use Rattle.vb_log.specs.Held.{item_weight, items_size, pending_weight, waiting_size, positions_rise, positions_within, IsHeld}
use Rattle.vb_log.specs.Joining.{with_all}
use Rattle.vb_log.specs.Settling.{commits_of, content_with, mark_for, HaveSomething, CanBeMade, AreMade}
use Rattle.vb_log.specs.Sizes.{size}
use Rattle.vb_log.specs.Wholes.{by_keys, listed_size}
use Rattle.vb_log.proofs.Holding.{longer_with, commit_is, there_with, within_longer}
use Rattle.vb_log.proofs.Prepared.{positions, rise_above, rise_rest, none_equal}
use Rattle.vb_log.proofs.Together.{none_in, size_all}
use Rattle.vb_log.proofs.Totals.{numbered_bytes}
use Rattle.vb_log.proofs.Weighing.{size_insert}

-- ---- the Commit of the first change

same_number : (n : ℕ) → nat_eq n n ≡ true
same_number n = grind (arith, nat_tests)

-- the Commit of the first change that waits gives its key what was prepared, and leaves the others
pub commit_step : (items : map.FinMap key_cmp Item) (p : Pending) (ps : List Pending) (manifest : Catalog) (cas n : ℕ) → positions_rise (p ∷ ps) ≡ true
    → with_entry (content_with items (p ∷ ps) manifest cas n) (entries.Commit p.position) ≡ content_with (items_with items manifest (n + 1) (Some p)) ps manifest cas (n + 1)
commit_step items p ps manifest cas n rise =
    commit_is c p.position
    ∙ ap (λ b. longer_with c (items_with items manifest (n + 1) (cond b (Some p) (prepare_at ps p.position))) (cond (not b) (p ∷ other_than p.position ps) (other_than p.position ps))) (same_number p.position)
    ∙ ap (λ l. longer_with c (items_with items manifest (n + 1) (Some p)) l) (none_equal p.position ps (rise_above p.position (positions ps) rise))
  where
    c : Content
    c = content_with items (p ∷ ps) manifest cas n

-- so the Commits of the others lead on from there
pub commits_lead : (items : map.FinMap key_cmp Item) (p : Pending) (ps : List Pending) (manifest : Catalog) (cas n k : ℕ) → positions_rise (p ∷ ps) ≡ true
    → with_entries (content_with items (p ∷ ps) manifest cas n) (commits_of (take (suc k) (p ∷ ps))) ≡ with_entries (content_with (items_with items manifest (n + 1) (Some p)) ps manifest cas (n + 1)) (commits_of (take k ps))
commits_lead items p ps manifest cas n k rise = ap (λ c. with_entries c (commits_of (take k ps))) (commit_step items p ps manifest cas n rise)

-- ---- what keys had doesn't matter, if they are set

-- a key is one of some keys, of a collection that is there
abbrev is_set : Catalog → List DocKey → DocKey → Bool
is_set manifest keys q = list_any (λ (k : DocKey). has_collection manifest k.collection && eq_by_cmp key_cmp q k) keys

-- items are the same but for those of keys that are to be set
abbrev pub Agree : Catalog → List DocKey → map.FinMap key_cmp Item → map.FinMap key_cmp Item → Type 0
Agree manifest keys a b = (q : DocKey) → is_set manifest keys q ≡ false → map.get a q ≡ map.get b q

-- one of them is set
agree_step : (manifest : Catalog) (a b : map.FinMap key_cmp Item) (n : ℕ) (p : Pending) (keys : List DocKey) → Agree manifest (p.key ∷ keys) a b → Agree manifest keys (items_with a manifest n (Some p)) (items_with b manifest n (Some p))
agree_step manifest a b n p keys h = by (has_collection manifest p.key.collection) h
  where
    item : Item
    item = item_made n p.key p.what

    at : (q : DocKey) (t : Bool) → (t ≡ false → map.get a q ≡ map.get b q) → cond t (Some item) (map.get a q) ≡ cond t (Some item) (map.get b q)
    at q true h = refl
    at q false h = h refl

    by : (s : Bool) → ((q : DocKey) → ((s && eq_by_cmp key_cmp q p.key) || is_set manifest keys q) ≡ false → map.get a q ≡ map.get b q)
        → (q : DocKey) → is_set manifest keys q ≡ false → map.get (cond s (map.insert a p.key item) a) q ≡ map.get (cond s (map.insert b p.key item) b) q
    by true h q u =
        map.get-insert keys_total a p.key item q
        ∙ at q (eq_by_cmp key_cmp q p.key) (λ e. h q (ap (λ t. t || is_set manifest keys q) e ∙ u))
        ∙ sym (map.get-insert keys_total b p.key item q)
    by false h q u = h q u

-- the Commits of changes leave the same, whatever their keys had
pub same_commits : (manifest : Catalog) (k : ℕ) (ps : List Pending) (a b : map.FinMap key_cmp Item) (cas n : ℕ) → positions_rise ps ≡ true → Agree manifest (keys_waiting (take k ps)) a b
    → with_entries (content_with a ps manifest cas n) (commits_of (take k ps)) ≡ with_entries (content_with b ps manifest cas n) (commits_of (take k ps))
same_commits manifest zero ps a b cas n rise h = ap (λ m. content_with m ps manifest cas n) (map.same_map keys_total exact_keys a b (λ q. h q refl))
same_commits manifest (suc k) [] a b cas n rise h = ap (λ m. content_with m [] manifest cas n) (map.same_map keys_total exact_keys a b (λ q. h q refl))
same_commits manifest (suc k) (p ∷ ps) a b cas n rise h =
    commits_lead a p ps manifest cas n k rise
    ∙ same_commits manifest k ps (items_with a manifest (n + 1) (Some p)) (items_with b manifest (n + 1) (Some p)) cas (n + 1) (rise_rest p.position (positions ps) rise) (agree_step manifest a b (n + 1) p (keys_waiting (take k ps)) h)
    ∙ sym (commits_lead b p ps manifest cas n k rise)

-- ---- keys that have something

some_insert : (m : map.FinMap key_cmp Item) (k : DocKey) (i : Item) (q : DocKey) → is_some (map.get m q) ≡ true → is_some (map.get (map.insert m k i) q) ≡ true
some_insert m k i q h = ap is_some (map.get-insert keys_total m k i q) ∙ go (eq_by_cmp key_cmp q k)
  where
    go : (b : Bool) → is_some (cond b (Some i) (map.get m q)) ≡ true
    go true = refl
    go false = h

some_kept : (m : map.FinMap key_cmp Item) (new : List Item) (q : DocKey) → is_some (map.get m q) ≡ true → is_some (map.get (with_all m (by_keys new)) q) ≡ true
some_kept m [] q h = h
some_kept m (i ∷ is) q h = some_insert (with_all m (by_keys is)) i.key i q (some_kept m is q h)

have_insert : (manifest : Catalog) (m : map.FinMap key_cmp Item) (k : DocKey) (i : Item) (keys : List DocKey) → HaveSomething manifest m keys → HaveSomething manifest (map.insert m k i) keys
have_insert manifest m k i [] h = tt
have_insert manifest m k i (q ∷ qs) h = (λ there. some_insert m k i q (h.0 there), have_insert manifest m k i qs h.1)

have_with : (manifest : Catalog) (m : map.FinMap key_cmp Item) (n : ℕ) (p : Pending) (keys : List DocKey) → HaveSomething manifest m keys → HaveSomething manifest (items_with m manifest n (Some p)) keys
have_with manifest m n p keys h = go (has_collection manifest p.key.collection)
  where
    go : (b : Bool) → HaveSomething manifest (cond b (map.insert m p.key (item_made n p.key p.what)) m) keys
    go true = have_insert manifest m p.key (item_made n p.key p.what) keys h
    go false = h

-- ---- marks

-- the marks that keys need, and the items with them
abbrev pub marks : map.FinMap key_cmp Item → Catalog → List DocKey → List Item
marks m manifest keys = flat_map (mark_for m manifest) keys

abbrev pub marked : map.FinMap key_cmp Item → Catalog → List DocKey → map.FinMap key_cmp Item
marked m manifest keys = with_all m (by_keys (marks m manifest keys))

-- then each of them has something
pub have_marked : (m : map.FinMap key_cmp Item) (manifest : Catalog) (keys : List DocKey) → HaveSomething manifest (marked m manifest keys) keys
have_marked m manifest [] = tt
have_marked m manifest (k ∷ ks) = by (has_collection manifest k.collection && is_none (map.get m k)) refl (have_marked m manifest ks)
  where
    has : (o : Option Item) → is_none o ≡ false → is_some o ≡ true
    has None e = absurd (let z : true ≡ false = e in cc)
    has (Some i) e = refl

    by : (b : Bool) → (has_collection manifest k.collection && is_none (map.get m k)) ≡ b → HaveSomething manifest (marked m manifest ks) ks
        → HaveSomething manifest (with_all m (by_keys (cond b (mark k ∷ []) [] ++ marks m manifest ks))) (k ∷ ks)
    by true e h = (
      λ there. ap is_some (map.get-insert keys_total (marked m manifest ks) k (mark k) k) ∙ ap (λ b. is_some (cond b (Some (mark k)) (map.get (marked m manifest ks) k))) (key_tied k),
      have_insert manifest (marked m manifest ks) k (mark k) ks h,
    )
    by false e h = (λ there. some_kept m (marks m manifest ks) k (has (map.get m k) (ap (λ b. b && is_none (map.get m k)) (sym there) ∙ e)), h)

-- and no other key has anything else
pub agree_marked : (m : map.FinMap key_cmp Item) (manifest : Catalog) (keys : List DocKey) → Agree manifest keys (marked m manifest keys) m
agree_marked m manifest [] q u = refl
agree_marked m manifest (k ∷ ks) q u = by (has_collection manifest k.collection) (is_none (map.get m k)) u (agree_marked m manifest ks q)
  where
    at : (t : Bool) → (t || is_set manifest ks q) ≡ false → (is_set manifest ks q ≡ false → map.get (marked m manifest ks) q ≡ map.get m q) → cond t (Some (mark k)) (map.get (marked m manifest ks) q) ≡ map.get m q
    at true e rest = absurd (let z : true ≡ false = e in cc)
    at false e rest = rest e

    others : (t : Bool) → (t || is_set manifest ks q) ≡ false → is_set manifest ks q ≡ false
    others true e = absurd (let z : true ≡ false = e in cc)
    others false e = e

    by : (s n : Bool) → ((s && eq_by_cmp key_cmp q k) || is_set manifest ks q) ≡ false → (is_set manifest ks q ≡ false → map.get (marked m manifest ks) q ≡ map.get m q)
        → map.get (with_all m (by_keys (cond (s && n) (mark k ∷ []) [] ++ marks m manifest ks))) q ≡ map.get m q
    by true true e rest = map.get-insert keys_total (marked m manifest ks) k (mark k) q ∙ at (eq_by_cmp key_cmp q k) e rest
    by true false e rest = rest (others (eq_by_cmp key_cmp q k) e)
    by false n e rest = rest e

-- ---- what they count

waiting_more : (p : Pending) (ps : List Pending) → waiting_size (p ∷ ps) ≡ pending_weight p + waiting_size ps
waiting_more p ps = sum_by-cons (λ n. n) (pending_weight p) (list_map pending_weight ps)

-- the first of some changes count no more than all
pub first_size : (k : ℕ) (ps : List Pending) → waiting_size (take k ps) ≤ waiting_size ps
first_size zero ps = omega arith
first_size (suc k) [] = omega arith
first_size (suc k) (p ∷ ps) =
    let all = waiting_more p ps in
    let some = waiting_more p (take k ps) in
    omega (arith, first_size k ps)

-- marks count no more than the changes whose keys they stand for
pub marks_size : (m : map.FinMap key_cmp Item) (manifest : Catalog) (ps : List Pending) → listed_size (marks m manifest (keys_waiting ps)) ≤ waiting_size ps
marks_size m manifest [] = omega arith
marks_size m manifest (p ∷ ps) = by (has_collection manifest p.key.collection && is_none (map.get m p.key)) (marks_size m manifest ps)
  where
    others : List Item
    others = marks m manifest (keys_waiting ps)

    by : (b : Bool) → listed_size others ≤ waiting_size ps → listed_size (cond b (mark p.key ∷ []) [] ++ others) ≤ waiting_size (p ∷ ps)
    by true h = let one = sum_by-cons (λ n. n) (item_weight (mark p.key)) (list_map item_weight others) in let all = waiting_more p ps in omega arith
    by false h = let all = waiting_more p ps in omega arith

-- a change that is made counts no more than it did
pub made_size : (m : map.FinMap key_cmp Item) (manifest : Catalog) (n : ℕ) (p : Pending) → items_size (items_with m manifest n (Some p)) ≤ items_size m + pending_weight p
made_size m manifest n p = go (has_collection manifest p.key.collection)
  where
    weighs : item_weight (item_made n p.key p.what) ≡ pending_weight p
    weighs = ap (λ b. 288 + length p.key.key + b) (numbered_bytes n p.what)

    go : (b : Bool) → items_size (cond b (map.insert m p.key (item_made n p.key p.what)) m) ≤ items_size m + pending_weight p
    go true = let k = size_insert m p.key (item_made n p.key p.what) in let w = weighs in omega arith
    go false = omega arith

-- ---- what the Commits leave is held

step_held : (items : map.FinMap key_cmp Item) (p : Pending) (ps : List Pending) (manifest : Catalog) (cas n : ℕ) → IsHeld (content_with items (p ∷ ps) manifest cas n) → IsHeld (content_with (items_with items manifest (n + 1) (Some p)) ps manifest cas (n + 1))
step_held items p ps manifest cas n h = record {
  kept = h.kept;
  there = there_with manifest items (n + 1) (Some p) h.there;
  within = within_longer n (n + 1) ps (omega arith) (and_parts (nat_le p.position n) (positions_within n ps) h.within).1;
  fits = let made = made_size items manifest (n + 1) p in let all = waiting_more p ps in let f = h.fits in omega arith;
}

pub commits_held : (k : ℕ) (items : map.FinMap key_cmp Item) (ps : List Pending) (manifest : Catalog) (cas n : ℕ) → IsHeld (content_with items ps manifest cas n) → positions_rise ps ≡ true → IsHeld (with_entries (content_with items ps manifest cas n) (commits_of (take k ps)))
commits_held zero items ps manifest cas n h rise = h
commits_held (suc k) items [] manifest cas n h rise = h
commits_held (suc k) items (p ∷ ps) manifest cas n h rise =
    subst IsHeld (sym (commits_lead items p ps manifest cas n k rise))
    (commits_held k (items_with items manifest (n + 1) (Some p)) ps manifest cas (n + 1) (step_held items p ps manifest cas n h) (rise_rest p.position (positions ps) rise))

-- ---- one change after another

-- Some of the first changes are made, and those of the keys that are left can be.
pub record Making (manifest : Catalog) (items : map.FinMap key_cmp Item) (waiting : List Pending) (keys : List DocKey) (position : ℕ) (now : map.FinMap key_cmp Item) (left : List Pending) (later : List DocKey) (last counted : ℕ) : Type 0 where
  pub can : CanBeMade manifest now left later last
  pub leads : (cas : ℕ) → with_entries (content_with now left manifest cas last) (commits_of (take (length later) left)) ≡ with_entries (content_with items waiting manifest cas position) (commits_of (take (length keys) waiting))
  pub counts : counted + waiting_size left ≡ waiting_size waiting
  pub reached : last + length later ≡ position + length keys

pub none_made : (manifest : Catalog) (items : map.FinMap key_cmp Item) (waiting : List Pending) (keys : List DocKey) (position : ℕ) → CanBeMade manifest items waiting keys position → Making manifest items waiting keys position items waiting keys position 0
none_made manifest items waiting keys position can = record { can = can; leads = λ cas. refl; counts = omega arith; reached = refl }

-- the next change is that of the next key
pub record IsNext (manifest : Catalog) (now : map.FinMap key_cmp Item) (p : Pending) (left : List Pending) (key : DocKey) (last : ℕ) : Type 0 where
  pub own : p.key ≡ key
  pub have : has_collection manifest key.collection ≡ true → is_some (map.get now key) ≡ true
  pub fits : items_size now + (pending_weight p + waiting_size left) < 2 ^ 64
  pub short : last + 1 < 2 ^ 64

pub is_next : {manifest : Catalog} {now : map.FinMap key_cmp Item} {p : Pending} {left : List Pending} {key : DocKey} {keys : List DocKey} {last : ℕ} → CanBeMade manifest now (p ∷ left) (key ∷ keys) last → IsNext manifest now p left key last
is_next {manifest} {now} {p} {left} {key} {keys} {last} can = record {
  own = first_key p.key key (keys_waiting (take (length keys) left)) keys can.first;
  have = can.have.0;
  fits = let all = waiting_more p left in let f = can.fits in omega arith;
  short = let s = can.short in omega arith;
}
  where
    first_key : (a b : DocKey) (some others : List DocKey) → b ∷ others ≡ a ∷ some → a ≡ b
    first_key a b some others e = cc

pub one_made : {manifest : Catalog} {items : map.FinMap key_cmp Item} {waiting : List Pending} {keys : List DocKey} {position : ℕ} {now : map.FinMap key_cmp Item} {p : Pending} {left : List Pending} {key : DocKey} {later : List DocKey} {last counted : ℕ}
    (after : map.FinMap key_cmp Item) (weight : ℕ) → Making manifest items waiting keys position now (p ∷ left) (key ∷ later) last counted → after ≡ items_with now manifest (last + 1) (Some p) → weight ≡ pending_weight p
    → Making manifest items waiting keys position after left later (last + 1) (counted + weight)
one_made {manifest} {items} {waiting} {keys} {position} {now} {p} {left} {key} {later} {last} {counted} after weight h is weighs = subst (λ m. Making manifest items waiting keys position m left later (last + 1) (counted + weight)) (sym is) (record {
  can = record {
    rise = rise_rest p.position (positions left) h.can.rise;
    first = other_keys p.key key (keys_waiting (take (length later) left)) later h.can.first;
    have = have_with manifest now (last + 1) p later h.can.have.1;
    fits = let made = made_size now manifest (last + 1) p in let all = waiting_more p left in let f = h.can.fits in omega arith;
    short = let s = h.can.short in omega arith;
  };
  leads = λ cas. sym (commits_lead now p left manifest cas last (length later) h.can.rise) ∙ h.leads cas;
  counts = let all = waiting_more p left in let c = h.counts in omega arith;
  reached = let r = h.reached in omega arith;
})
  where
    other_keys : (a b : DocKey) (some others : List DocKey) → b ∷ others ≡ a ∷ some → others ≡ some
    other_keys a b some others e = cc

-- what the next change counts, beside those before it
pub next_counts : {manifest : Catalog} {items : map.FinMap key_cmp Item} {waiting : List Pending} {keys : List DocKey} {position : ℕ} {now : map.FinMap key_cmp Item} {p : Pending} {left : List Pending} {later : List DocKey} {last counted : ℕ}
    → Making manifest items waiting keys position now (p ∷ left) later last counted → counted + pending_weight p ≤ waiting_size waiting
next_counts {p = p} {left = left} h = let all = waiting_more p left in let c = h.counts in omega arith

-- where no key is left, all are made
pub all_made : {manifest : Catalog} {items : map.FinMap key_cmp Item} {waiting : List Pending} {keys : List DocKey} {position : ℕ} {now : map.FinMap key_cmp Item} {left : List Pending} {last counted : ℕ} (i : ℕ)
    → Making manifest items waiting keys position now left (drop i keys) last counted → length keys ≤ i → AreMade (length keys) manifest position items waiting now left
all_made {manifest} {items} {waiting} {keys} {position} {now} {left} {last} {counted} i h l = done (subst (λ ks. Making manifest items waiting keys position now left ks last counted) (none_in (drop i keys) (omega (arith, length-drop i keys))) h)
  where
    done : Making manifest items waiting keys position now left [] last counted → AreMade (length keys) manifest position items waiting now left
    done h = λ cas. ap (λ n. content_with now left manifest cas n) (let r = h.reached in omega arith) ∙ h.leads cas

-- the key at a place, and those behind it
key_at : (keys : List DocKey) (i : ℕ) (k : DocKey) → i < length keys → k ≡ get_or keys i k → drop i keys ≡ k ∷ drop (i + 1) keys
key_at keys i k l is = drop-cons keys i k l ∙ ap (λ x. x ∷ drop (suc i) keys) (sym is) ∙ ap (λ n. k ∷ drop n keys) (one_more i)
  where
    one_more : (n : ℕ) → suc n ≡ n + 1
    one_more n = omega arith

-- the next change is taken, and the next key
pub next_taken : {manifest : Catalog} {items : map.FinMap key_cmp Item} {waiting : List Pending} {keys : List DocKey} {position : ℕ} {now : map.FinMap key_cmp Item} {left : List Pending} {last counted : ℕ} (rest : List Pending) (p : Pending) (i : ℕ) (k : DocKey)
    → Making manifest items waiting keys position now left (drop i keys) last counted → left ≡ p ∷ rest → i < length keys → k ≡ get_or keys i k
    → Making manifest items waiting keys position now (p ∷ rest) (k ∷ drop (i + 1) keys) last counted
next_taken {manifest} {items} {waiting} {keys} {position} {now} {left} {last} {counted} rest p i k h e l is =
    subst (λ ps. Making manifest items waiting keys position now ps (k ∷ drop (i + 1) keys) last counted) e
    (subst (λ ks. Making manifest items waiting keys position now left ks last counted) (key_at keys i k l is) h)

-- as long as a key is left, a change is
pub some_left : {manifest : Catalog} {items : map.FinMap key_cmp Item} {waiting : List Pending} {keys : List DocKey} {position : ℕ} {now : map.FinMap key_cmp Item} {left : List Pending} {last counted : ℕ} (i : ℕ) (k : DocKey)
    → Making manifest items waiting keys position now left (drop i keys) last counted → left ≡ [] → i < length keys → k ≡ get_or keys i k → ⊥
some_left {keys = keys} {left = left} i k h e l is = none (drop (i + 1) keys) (
    subst (λ ps. k ∷ drop (i + 1) keys ≡ keys_waiting (take (length (k ∷ drop (i + 1) keys)) ps)) e
    (subst (λ ks. ks ≡ keys_waiting (take (length ks) left)) (key_at keys i k l is) h.can.first))
  where
    none : (ks : List DocKey) → k ∷ ks ≡ [] → ⊥
    none ks e = cc

-- ---- the whole

-- the keys of the first changes are so many
keys_count : (k : ℕ) (ps : List Pending) → k ≤ length ps → length (keys_waiting (take k ps)) ≡ k
keys_count zero ps l = refl
keys_count (suc k) [] l = absurd (omega arith)
keys_count (suc k) (p ∷ ps) l = let h = keys_count k ps (omega arith) in omega arith

-- what stands before the first changes are made: their keys, and the items with the marks that these need
pub record AreReady (items new : map.FinMap key_cmp Item) (manifest : Catalog) (ps : List Pending) (k : ℕ) (keys : List DocKey) (added : List Item) : Type 0 where
  pub rise : positions_rise ps ≡ true
  pub within : k ≤ length ps
  pub first : keys ≡ keys_waiting (take k ps)
  pub needed : added ≡ marks items manifest keys
  pub set : new ≡ with_all items (by_keys added)

-- there is room for the marks
pub marks_fit : (items : map.FinMap key_cmp Item) (manifest : Catalog) (ps : List Pending) (k : ℕ) (keys : List DocKey) (added : List Item) → keys ≡ keys_waiting (take k ps) → added ≡ marks items manifest keys → listed_size added ≤ waiting_size ps
marks_fit items manifest ps k keys added first needed =
    let is : listed_size added ≡ listed_size (marks items manifest (keys_waiting (take k ps))) = ap listed_size (needed ∙ ap (marks items manifest) first) in
    let part = marks_size items manifest (take k ps) in
    let all = first_size k ps in
    omega arith

pub can_be_made : (items new : map.FinMap key_cmp Item) (manifest : Catalog) (ps : List Pending) (k : ℕ) (keys : List DocKey) (added : List Item) (n : ℕ) → AreReady items new manifest ps k keys added
    → items_size items + waiting_size ps ≤ CONTENT_LIMIT → n + length ps ≤ SUM_LIMIT → CanBeMade manifest new ps keys n
can_be_made items new manifest ps k keys added n h small short =
    let count : length keys ≡ k = ap length h.first ∙ keys_count k ps h.within in
    record {
      rise = h.rise;
      first = h.first ∙ ap (λ j. keys_waiting (take j ps)) (sym count);
      have = subst (λ m. HaveSomething manifest m keys) (sym (h.set ∙ ap (λ l. with_all items (by_keys l)) h.needed)) (have_marked items manifest keys);
      fits =
          let whole = ap items_size h.set in
          let more = size_all items added in
          let part = marks_fit items manifest ps k keys added h.first h.needed in
          omega arith;
      short = let l = h.within in omega arith;
    }

-- what is left once they are made is what their Commits leave
pub committed : (items new after : map.FinMap key_cmp Item) (manifest : Catalog) (ps left : List Pending) (k : ℕ) (keys : List DocKey) (added : List Item) (cas n : ℕ) → AreReady items new manifest ps k keys added
    → AreMade (length keys) manifest n new ps after left → content_with after left manifest cas (n + k) ≡ with_entries (content_with items ps manifest cas n) (commits_of (take k ps))
committed items new after manifest ps left k keys added cas n h made =
    let count : length keys ≡ k = ap length h.first ∙ keys_count k ps h.within in
    let whole : new ≡ marked items manifest (keys_waiting (take k ps)) = h.set ∙ ap (λ l. with_all items (by_keys l)) (h.needed ∙ ap (marks items manifest) h.first) in
    ap (λ j. content_with after left manifest cas (n + j)) (sym count)
    ∙ made cas
    ∙ ap (λ j. with_entries (content_with new ps manifest cas n) (commits_of (take j ps))) count
    ∙ same_commits manifest k ps new items cas n h.rise (subst (λ m. Agree manifest (keys_waiting (take k ps)) m items) (sym whole) (agree_marked items manifest (keys_waiting (take k ps))))

-- ---- for who calls

commits_leave : (k : ℕ) (items : map.FinMap key_cmp Item) (ps : List Pending) (manifest : Catalog) (cas n : ℕ) → positions_rise ps ≡ true
    → size (with_entries (content_with items ps manifest cas n) (commits_of (take k ps))) ≤ size (content_with items ps manifest cas n)
commits_leave zero items ps manifest cas n rise = omega arith
commits_leave (suc k) items [] manifest cas n rise = omega arith
commits_leave (suc k) items (p ∷ ps) manifest cas n rise =
    let led = ap size (commits_lead items p ps manifest cas n k rise) in
    let made = made_size items manifest (n + 1) p in
    let all = waiting_more p ps in
    let rest = commits_leave k (items_with items manifest (n + 1) (Some p)) ps manifest cas (n + 1) (rise_rest p.position (positions ps) rise) in
    omega arith

-- what Commits leave isn't larger than what was
pub commits_size : (c : Content) (k : ℕ) → positions_rise c.prepares ≡ true → size (with_entries c (commits_of (take k c.prepares))) ≤ size c
commits_size c k rise = commits_leave k c.items c.prepares c.manifest c.greatest_cas c.length rise

commits_stand : (k : ℕ) (items : map.FinMap key_cmp Item) (ps : List Pending) (manifest : Catalog) (cas n : ℕ) → positions_rise ps ≡ true → AllAllowed (content_with items ps manifest cas n) (commits_of (take k ps))
commits_stand zero items ps manifest cas n rise = tt
commits_stand (suc k) items [] manifest cas n rise = tt
commits_stand (suc k) items (p ∷ ps) manifest cas n rise = (
  ap (λ b. is_some (cond b (Some p) (prepare_at ps p.position))) (same_number p.position),
  subst (λ c. AllAllowed c (commits_of (take k ps))) (sym (commit_step items p ps manifest cas n rise))
      (commits_stand k (items_with items manifest (n + 1) (Some p)) ps manifest cas (n + 1) (rise_rest p.position (positions ps) rise)),
)

-- each of them may be added behind those before it
pub commits_allowed : (c : Content) (k : ℕ) → positions_rise c.prepares ≡ true → AllAllowed c (commits_of (take k c.prepares))
commits_allowed c k rise = commits_stand k c.items c.prepares c.manifest c.greatest_cas c.length rise
