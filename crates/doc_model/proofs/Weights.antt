-- What the values of a map count together.
use Rattle.std.specs.Prelude.{◌≡◌, ℕ, ◌+◌, ◌≤◌, is_some, sum, map as list_map, filter, Bool, true, false, cond, not, ◌&&◌, T, List, [], ◌∷◌, length, Option, Some, None, refl}
use Rattle.std.specs.declared.cmp.Ordering.{Ordering}
use Rattle.std.specs.declared.cmp.Ordering.TheVariants.{Less, Equal, Greater}
use Rattle.std.specs.Ordering.{is_eq, is_lt, eq_by_cmp}
use Rattle.std.specs.FinMap as map
use Rattle.std.specs.FinMap.Entries.{by_order, put, find, below_all, is_sorted, length-put}
use Rattle.std.proofs.Common.{sym, ◌∙◌, ap, arith}
use Rattle.std.proofs.Math.Numerals.{add-one}
use Rattle.std.proofs.lemmas.Cmp.{tied_itself}
use Rattle.std.proofs.lemmas.List.Sums.{sum_by-cons}
use Rattle.doc_model.specs.declared.key.DocKey.{DocKey}
use Rattle.doc_model.specs.Keys.{key_cmp}
use Rattle.doc_model.specs.Values.{StandOnce, AreValues, weight_of}
use Rattle.doc_model.proofs.Entries.{exact_keys, keys_total, same_key, value_at, find_value}
use Rattle.doc_model.proofs.Drops.{lookup_kept, entries_kept}

-- the sum of a number over the values of entries
abbrev pub total : {X : Type 0} → (X → ℕ) → List (DocKey × X) → ℕ
total f entries = sum (list_map f (list_map (λ e. e.1) entries))

pub total_cons : {X : Type 0} (f : X → ℕ) (e : DocKey × X) (entries : List (DocKey × X)) → total f (e ∷ entries) ≡ f e.1 + total f entries
total_cons f e entries = sum_by-cons (λ x. x) (f e.1) (list_map f (list_map (λ e. e.1) entries))

-- what a key counted
abbrev pub counted_of : {X : Type 0} → (X → ℕ) → Option X → ℕ
counted_of f None = 0
counted_of f (Some x) = f x

-- a list that one more made longer hadn't the key
not_there : {X : Type 0} (f : X → ℕ) (o : Option X) (n : ℕ) → n + 1 ≡ cond (is_some o) n (n + 1) → counted_of f o ≡ 0
not_there f None n e = refl
not_there f (Some x) n e = absurd (omega arith)

total_put : {X : Type 0} (f : X → ℕ) (k : DocKey) (v : X) (entries : List (DocKey × X)) → T (is_sorted key_cmp entries) → total f (put key_cmp k v entries) + counted_of f (find key_cmp k entries) ≡ total f entries + f v
total_put f k v [] h = let one : total f ((k, v) ∷ []) ≡ f v + 0 = total_cons f (k, v) [] in omega arith
total_put {X} f k v (e ∷ entries) h = go (key_cmp k e.0) (length-put key_cmp keys_total k v (e ∷ entries) h) (total_put f k v entries (second (below_all key_cmp e.0 entries) (is_sorted key_cmp entries) h))
  where
    second : (a b : Bool) → T (a && b) → T b
    second true b t = t
    second false b t = absurd t

    go : (r : Ordering) → length (by_order r ((k, v) ∷ e ∷ entries) ((e.0, v) ∷ entries) (e ∷ put key_cmp k v entries)) ≡ cond (is_some (cond (is_eq r) (Some e.1) (find key_cmp k entries))) (length (e ∷ entries)) (length (e ∷ entries) + 1)
        → (total f (put key_cmp k v entries) + counted_of f (find key_cmp k entries) ≡ total f entries + f v)
        → total f (by_order r ((k, v) ∷ e ∷ entries) ((e.0, v) ∷ entries) (e ∷ put key_cmp k v entries)) + counted_of f (cond (is_eq r) (Some e.1) (find key_cmp k entries)) ≡ total f (e ∷ entries) + f v
    go Less l rest =
        let new : total f ((k, v) ∷ e ∷ entries) ≡ f v + total f (e ∷ entries) = total_cons f (k, v) (e ∷ entries) in
        let none : counted_of f (find key_cmp k entries) ≡ 0 = not_there f (find key_cmp k entries) (length (e ∷ entries)) (add-one (length (e ∷ entries)) ∙ l) in
        omega arith
    go Equal l rest =
        let old : total f (e ∷ entries) ≡ f e.1 + total f entries = total_cons f e entries in
        let new : total f ((e.0, v) ∷ entries) ≡ f v + total f entries = total_cons f (e.0, v) entries in
        omega arith
    go Greater l rest =
        let old : total f (e ∷ entries) ≡ f e.1 + total f entries = total_cons f e entries in
        let new : total f (e ∷ put key_cmp k v entries) ≡ f e.1 + total f (put key_cmp k v entries) = total_cons f e (put key_cmp k v entries) in
        omega arith

-- what a map counts with one more, and what the key had before
pub weight_insert : {X : Type 0} (f : X → ℕ) (m : map.FinMap key_cmp X) (k : DocKey) (v : X) → weight_of f (map.insert m k v) + counted_of f (map.get m k) ≡ weight_of f m + f v
weight_insert f m k v =
    let a : total f (map.entries (map.insert m k v)) ≡ total f (put key_cmp k v (map.entries m)) = ap (total f) (map.entries-insert keys_total m k v) in
    let b : counted_of f (map.get m k) ≡ counted_of f (find key_cmp k (map.entries m)) = ap (counted_of f) (map.get-entries m k) in
    let c : total f (put key_cmp k v (map.entries m)) + counted_of f (find key_cmp k (map.entries m)) ≡ total f (map.entries m) + f v = total_put f k v (map.entries m) (map.entries_sorted m) in
    omega arith

-- ---- a map that is made of entries

-- an empty map counts nothing
pub weight_none : {X : Type 0} (f : X → ℕ) → weight_of f (map.empty {X = X} {R = key_cmp}) ≡ 0
weight_none {X} f = ap (total f) (no_entries (map.entries (map.empty {X = X} {R = key_cmp})) (sym (map.len-entries (map.empty {X = X} {R = key_cmp})) ∙ map.len-empty key_cmp X))
  where
    no_entries : (es : List (DocKey × X)) → length es ≡ 0 → es ≡ []
    no_entries [] e = refl
    no_entries (x ∷ xs) e = absurd (omega arith)

-- a map counts what entries count of which it is made, where each key stands once
pub weight_made : {X : Type 0} (f : X → ℕ) (es : List (DocKey × X)) → StandOnce es → weight_of f (map.from_entries {R = key_cmp} es) ≡ total f es
weight_made f [] h = weight_none f
weight_made f (e ∷ es) h =
    let more = weight_insert f (map.from_entries {R = key_cmp} es) e.0 e.1 in
    let none : counted_of f (map.get (map.from_entries {R = key_cmp} es) e.0) ≡ 0 = ap (counted_of f) (map.get-from_entries keys_total es e.0 ∙ h.0) in
    let rest = weight_made f es h.1 in
    let one = total_cons f e es in
    omega arith

pub weight_listed : {X : Type 0} (f : X → ℕ) (m : map.FinMap key_cmp X) (values : List X) → AreValues m values → weight_of f m ≡ sum (list_map f values)
weight_listed f m values h = ap (weight_of f) (sym h.made) ∙ weight_made f h.entries h.once ∙ ap (λ l. sum (list_map f l)) h.read

-- each key stands once among those that pass
pub once_kept : {X : Type 0} (p : DocKey → Bool) (es : List (DocKey × X)) → StandOnce es → StandOnce (filter (λ e. p e.0) es)
once_kept p [] h = tt
once_kept {X} p (e ∷ es) h = go (p e.0) (once_kept p es h.1)
  where
    kept_none : (b : Bool) (o : Option X) → o ≡ None → cond b o None ≡ None
    kept_none true o e = e
    kept_none false o e = refl

    go : (b : Bool) → StandOnce (filter (λ e. p e.0) es) → StandOnce (cond b (e ∷ filter (λ e. p e.0) es) (filter (λ e. p e.0) es))
    go true rest = (
      find_value (filter (λ e. p e.0) es) e.0 ∙ lookup_kept p es e.0 ∙ kept_none (p e.0) (value_at es e.0) (sym (find_value es e.0) ∙ h.0),
      rest,
    )
    go false rest = rest

-- what keys that pass a test have counts what their entries count
pub weight_kept : {X : Type 0} (f : X → ℕ) (p : DocKey → Bool) (es : List (DocKey × X)) → StandOnce es → weight_of f (map.retain_keys (map.from_entries {R = key_cmp} es) p) ≡ total f (filter (λ e. p e.0) es)
weight_kept f p es h = ap (weight_of f) (sym (entries_kept p es)) ∙ weight_made f (filter (λ e. p e.0) es) (once_kept p es h)

-- ---- parts of a map

both_parts : (a b : Bool) → T (a && b) → T a × T b
both_parts true b t = (tt, t)
both_parts false b t = absurd t

none_below : {X : Type 0} (k : DocKey) (es : List (DocKey × X)) → T (below_all key_cmp k es) → find key_cmp k es ≡ None
none_below k [] h = refl
none_below {X} k (e ∷ es) h =
    let parts = both_parts (is_lt (key_cmp k e.0)) (below_all key_cmp k es) h in
    go (key_cmp k e.0) parts.0 (none_below k es parts.1)
  where
    go : (o : Ordering) → T (is_lt o) → find key_cmp k es ≡ None → cond (is_eq o) (Some e.1) (find key_cmp k es) ≡ None
    go Less t rest = rest
    go Equal t rest = absurd t
    go Greater t rest = absurd t

once_ordered : {X : Type 0} (es : List (DocKey × X)) → T (is_sorted key_cmp es) → StandOnce es
once_ordered [] h = tt
once_ordered (e ∷ es) h = let parts = both_parts (below_all key_cmp e.0 es) (is_sorted key_cmp es) h in (none_below e.0 es parts.0, once_ordered es parts.1)

-- a map is made of its entries
pub made_again : {X : Type 0} (m : map.FinMap key_cmp X) → map.from_entries {R = key_cmp} (map.entries m) ≡ m
made_again m = map.same_map keys_total exact_keys (map.from_entries {R = key_cmp} (map.entries m)) m (λ q. map.get-from_entries keys_total (map.entries m) q ∙ sym (map.get-entries m q))

pub weight_where : {X : Type 0} (f : X → ℕ) (m : map.FinMap key_cmp X) (p : DocKey → Bool) → weight_of f (map.retain_keys m p) ≡ total f (filter (λ e. p e.0) (map.entries m))
weight_where f m p = ap (λ n. weight_of f (map.retain_keys n p)) (sym (made_again m)) ∙ weight_kept f p (map.entries m) (once_ordered (map.entries m) (map.entries_sorted m))

total_parts : {X : Type 0} (f : X → ℕ) (p : DocKey → Bool) (es : List (DocKey × X)) → total f (filter (λ e. p e.0) es) + total f (filter (λ e. not (p e.0)) es) ≡ total f es
total_parts f p [] = refl
total_parts {X} f p (e ∷ es) = go (p e.0) (total_parts f p es)
  where
    go : (b : Bool) → total f (filter (λ e. p e.0) es) + total f (filter (λ e. not (p e.0)) es) ≡ total f es
        → total f (cond b (e ∷ filter (λ e. p e.0) es) (filter (λ e. p e.0) es)) + total f (cond (not b) (e ∷ filter (λ e. not (p e.0)) es) (filter (λ e. not (p e.0)) es)) ≡ total f (e ∷ es)
    go true rest = let a = total_cons f e (filter (λ e. p e.0) es) in let b = total_cons f e es in omega arith
    go false rest = let a = total_cons f e (filter (λ e. not (p e.0)) es) in let b = total_cons f e es in omega arith

-- what passes a test and what doesn't count together what all do
pub weight_parts : {X : Type 0} (f : X → ℕ) (m : map.FinMap key_cmp X) (p : DocKey → Bool) → weight_of f (map.retain_keys m p) + weight_of f (map.retain_keys m (λ key. not (p key))) ≡ weight_of f m
weight_parts f m p =
    let a = weight_where f m p in
    let b = weight_where f m (λ key. not (p key)) in
    let c = total_parts f p (map.entries m) in
    omega arith

pub weight_part : {X : Type 0} (f : X → ℕ) (m : map.FinMap key_cmp X) (p : DocKey → Bool) → weight_of f (map.retain_keys m p) ≤ weight_of f m
weight_part f m p = omega (arith, weight_parts f m p)

-- a key is alike itself
pub key_tied : (k : DocKey) → eq_by_cmp key_cmp k k ≡ true
key_tied k = ap is_eq (tied_itself keys_total k)

-- a map without what a key has counts so much less
pub weight_remove : {X : Type 0} (f : X → ℕ) (m : map.FinMap key_cmp X) (k : DocKey) → weight_of f (map.remove m k) + counted_of f (map.get m k) ≡ weight_of f m
weight_remove {X} f m k = go (map.get m k) refl
  where
    back : (x : X) → map.get m k ≡ Some x → (q : DocKey) (b : Bool) → eq_by_cmp key_cmp q k ≡ b → cond b (Some x) (cond b None (map.get m q)) ≡ map.get m q
    back x e q true t = sym (ap (map.get m) (same_key q k t) ∙ e)
    back x e q false t = refl

    away : map.get m k ≡ None → (q : DocKey) (b : Bool) → eq_by_cmp key_cmp q k ≡ b → cond b None (map.get m q) ≡ map.get m q
    away e q true t = sym (ap (map.get m) (same_key q k t) ∙ e)
    away e q false t = refl

    go : (o : Option X) → map.get m k ≡ o → weight_of f (map.remove m k) + counted_of f (map.get m k) ≡ weight_of f m
    go None e =
        let same : map.remove m k ≡ m = map.same_map keys_total exact_keys (map.remove m k) m (λ q. map.get-remove keys_total m k q ∙ away e q (eq_by_cmp key_cmp q k) refl) in
        let a = ap (weight_of f) same in
        let b : counted_of f (map.get m k) ≡ 0 = ap (counted_of f) e in
        omega arith
    go (Some x) e =
        let same : map.insert (map.remove m k) k x ≡ m = map.same_map keys_total exact_keys (map.insert (map.remove m k) k x) m (λ q.
        map.get-insert keys_total (map.remove m k) k x q ∙ ap (cond (eq_by_cmp key_cmp q k) (Some x)) (map.get-remove keys_total m k q) ∙ back x e q (eq_by_cmp key_cmp q k) refl) in
        let none : map.get (map.remove m k) k ≡ None = map.get-remove keys_total m k k ∙ ap (λ b. cond b None (map.get m k)) (key_tied k) in
        let a = weight_insert f (map.remove m k) k x in
        let b = ap (weight_of f) same in
        let c : counted_of f (map.get (map.remove m k) k) ≡ 0 = ap (counted_of f) none in
        let d : counted_of f (map.get m k) ≡ f x = ap (counted_of f) e in
        omega arith

pub weight_at : {X : Type 0} (f : X → ℕ) (m : map.FinMap key_cmp X) (k : DocKey) → counted_of f (map.get m k) ≤ weight_of f m
weight_at f m k = omega (arith, weight_remove f m k)
