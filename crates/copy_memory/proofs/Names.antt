-- Maps by the names of tickets: what the entries of a tree say of the finite map that they make.
use Rattle.std.specs.Prelude.{◌≡◌, ℕ, Bool, true, false, cond, List, [], ◌∷◌, Option, Some, None, refl}
use Rattle.std.specs.declared.cmp.Ordering.{Ordering}
use Rattle.std.specs.declared.cmp.Ordering.TheVariants.{Less, Equal, Greater}
use Rattle.std.specs.Ordering.{nat_cmp, is_eq, eq_by_cmp}
use Rattle.std.specs.Cmp.{IsTotalOrder, eq_by_cmp_equiv}
use Rattle.std.specs.BTreeMap.{is_at}
use Rattle.std.specs.Map.{lookup}
use Rattle.std.specs.FinMap.{FinMap, get, insert, remove, from_entries, find, get-insert, get-remove, get-from_entries, same_map}
use Rattle.std.proofs.Common.{sym, ◌∙◌, ap}
use Rattle.std.proofs.lemmas.Cmp.{nat_cmp_total, on_total, then_total}
use Rattle.std.proofs.lemmas.Map.Lookups.{CmpEqualImpliesEq, exact_pairs, exact_unsigned}
use Rattle.copy_memory.specs.declared.tickets.TicketName.{TicketName}
use Rattle.copy_memory.specs.Tickets.{name_cmp}

-- names that compare alike are one
pub exact_names : CmpEqualImpliesEq name_cmp
exact_names a b h = ap (λ (p : ℕ × ℕ). record { term = p.0; prepare = p.1 }) (exact_pairs nat_cmp nat_cmp exact_unsigned exact_unsigned (a.term, a.prepare) (b.term, b.prepare) h)

is_equal : (o : Ordering) → is_eq o ≡ true → o ≡ Equal
is_equal Less e = absurd (cc)
is_equal Equal e = refl
is_equal Greater e = absurd (cc)

pub same_name : (a b : TicketName) → eq_by_cmp name_cmp a b ≡ true → a ≡ b
same_name a b e = exact_names a b (is_equal (name_cmp a b) e)

pub names_total : IsTotalOrder name_cmp
names_total = then_total (on_total (λ n. n.term) nat_cmp_total) (on_total (λ n. n.prepare) nat_cmp_total)

-- what entries have at a name
abbrev pub value_at : {X : Type 0} → List (TicketName × X) → TicketName → Option X
value_at es q = lookup (is_at (name_cmp q)) es

pub find_value : {X : Type 0} (es : List (TicketName × X)) (q : TicketName) → find name_cmp q es ≡ value_at es q
find_value [] q = refl
find_value (e ∷ es) q = ap (cond (is_at (name_cmp q) e.0) (Some e.1)) (find_value es q)

-- what the map that the entries make has at a name
pub get_value : {X : Type 0} (es : List (TicketName × X)) (q : TicketName) → get (from_entries {R = name_cmp} es) q ≡ value_at es q
get_value es q = get-from_entries names_total es q ∙ find_value es q

-- entries that have a value at a name, and else what others have, make the others' map with that value there
pub one_given : {X : Type 0} (es fs : List (TicketName × X)) (k : TicketName) (x : X) → ((q : TicketName) → value_at fs q ≡ cond (is_at (name_cmp k) q) (Some x) (value_at es q)) → from_entries {R = name_cmp} fs ≡ insert (from_entries es) k x
one_given es fs k x h = same_map names_total exact_names _ _ (λ q.
    get_value fs q ∙ h q ∙ ap (λ b. cond b (Some x) (value_at es q)) ((eq_by_cmp_equiv names_total).symm k q)
    ∙ sym (get-insert names_total (from_entries es) k x q ∙ ap (cond (is_at (name_cmp q) k) (Some x)) (get_value es q)))

-- entries of which one name has nothing any more make a map without it
pub one_removed : {X : Type 0} (es fs : List (TicketName × X)) (k : TicketName) → ((q : TicketName) → value_at fs q ≡ cond (is_at (name_cmp k) q) None (value_at es q)) → from_entries {R = name_cmp} fs ≡ remove (from_entries es) k
one_removed es fs k h = same_map names_total exact_names _ _ (λ q.
    get_value fs q ∙ h q ∙ ap (λ b. cond b None (value_at es q)) ((eq_by_cmp_equiv names_total).symm k q)
    ∙ sym (get-remove names_total (from_entries es) k q ∙ ap (cond (is_at (name_cmp q) k) None) (get_value es q)))

-- the map that entries make
abbrev pub shown : {X : Type 0} → List (TicketName × X) → FinMap name_cmp X
shown es = from_entries es

-- what a map has at a name, put there again, changes nothing
pub same_given : {X : Type 0} (es : List (TicketName × X)) (k : TicketName) (x : X) → value_at es k ≡ Some x → insert (shown es) k x ≡ shown es
same_given es k x h = sym (one_given es es k x (λ q. at_name q (is_at (name_cmp k) q) (same_name k q)))
  where
    at_name : (q : TicketName) (b : Bool) → (b ≡ true → k ≡ q) → value_at es q ≡ cond b (Some x) (value_at es q)
    at_name q true e = ap (value_at es) (sym (e refl)) ∙ h
    at_name q false e = refl
