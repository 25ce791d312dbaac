-- Maps by the keys of documents: what the entries of a tree say of the finite map that they make.
use Rattle.std.specs.Prelude.{◌≡◌, ℕ, true, cond, List, [], ◌∷◌, Option, Some, None, refl}
use Rattle.std.specs.declared.cmp.Ordering.{Ordering}
use Rattle.std.specs.declared.cmp.Ordering.TheVariants.{Less, Equal, Greater}
use Rattle.std.specs.Ordering.{nat_cmp, is_eq, eq_by_cmp}
use Rattle.std.specs.Cmp.{IsTotalOrder, eq_by_cmp_equiv}
use Rattle.std.specs.Cmp.Lexicographic.{slice_cmp}
use Rattle.std.specs.BTreeMap.{is_at}
use Rattle.std.specs.Map.{lookup}
use Rattle.std.specs.FinMap.{get, insert, remove, from_entries, find, get-insert, get-remove, get-from_entries, same_map}
use Rattle.std.proofs.Common.{sym, ◌∙◌, ap}
use Rattle.std.proofs.lemmas.Cmp.{nat_cmp_total, nat_list_cmp_total, on_total, then_total}
use Rattle.std.proofs.lemmas.Map.Lookups.{CmpEqualImpliesEq, exact_pairs, exact_unsigned, exact_bytes}
use Rattle.doc_model.specs.declared.key.DocKey.{DocKey}
use Rattle.doc_model.specs.Keys.{key_cmp}

-- keys that compare alike are one
pub exact_keys : CmpEqualImpliesEq key_cmp
exact_keys a b h = ap (λ (p : ℕ × List ℕ). record { collection = p.0; key = p.1 }) (exact_pairs nat_cmp (slice_cmp nat_cmp) exact_unsigned exact_bytes (a.collection, a.key) (b.collection, b.key) h)

pub is_equal : (o : Ordering) → is_eq o ≡ true → o ≡ Equal
is_equal Less e = absurd (cc)
is_equal Equal e = refl
is_equal Greater e = absurd (cc)

pub same_key : (a b : DocKey) → eq_by_cmp key_cmp a b ≡ true → a ≡ b
same_key a b e = exact_keys a b (is_equal (key_cmp a b) e)

pub keys_total : IsTotalOrder key_cmp
keys_total = then_total (on_total (λ k. k.collection) nat_cmp_total) (on_total (λ k. k.key) nat_list_cmp_total)

-- what entries have at a key
abbrev pub value_at : {X : Type 0} → List (DocKey × X) → DocKey → Option X
value_at es q = lookup (is_at (key_cmp q)) es

pub find_value : {X : Type 0} (es : List (DocKey × X)) (q : DocKey) → find key_cmp q es ≡ value_at es q
find_value [] q = refl
find_value (e ∷ es) q = ap (cond (is_at (key_cmp q) e.0) (Some e.1)) (find_value es q)

-- what the map that the entries make has at a key
pub get_value : {X : Type 0} (es : List (DocKey × X)) (q : DocKey) → get (from_entries {R = key_cmp} es) q ≡ value_at es q
get_value es q = get-from_entries keys_total es q ∙ find_value es q

-- entries that differ at one key make maps that differ there
pub one_given : {X : Type 0} (es fs : List (DocKey × X)) (k : DocKey) (x : X) → ((q : DocKey) → value_at fs q ≡ cond (is_at (key_cmp k) q) (Some x) (value_at es q)) → from_entries {R = key_cmp} fs ≡ insert (from_entries es) k x
one_given es fs k x h = same_map keys_total exact_keys _ _ (λ q.
    get_value fs q ∙ h q ∙ ap (λ b. cond b (Some x) (value_at es q)) ((eq_by_cmp_equiv keys_total).symm k q)
    ∙ sym (get-insert keys_total (from_entries es) k x q ∙ ap (cond (is_at (key_cmp q) k) (Some x)) (get_value es q)))

-- entries of which one key has nothing any more make a map without it
pub one_removed : {X : Type 0} (es fs : List (DocKey × X)) (k : DocKey) → ((q : DocKey) → value_at fs q ≡ cond (is_at (key_cmp k) q) None (value_at es q)) → from_entries {R = key_cmp} fs ≡ remove (from_entries es) k
one_removed es fs k h = same_map keys_total exact_keys _ _ (λ q.
    get_value fs q ∙ h q ∙ ap (λ b. cond b None (value_at es q)) ((eq_by_cmp_equiv keys_total).symm k q)
    ∙ sym (get-remove keys_total (from_entries es) k q ∙ ap (cond (is_at (key_cmp q) k) None) (get_value es q)))
