-- What stands in slots, and what it is together with the others.
use Rattle.std.specs.Prelude.{◌≡◌, ℕ, Bool, true, false, cond, ◌&&◌, nat_eq, List, [], ◌∷◌, ◌++◌, Option, Some, None, Result, Ok, Err, OnErr, refl}
use Rattle.std.specs.declared.cmp.Ordering.{Ordering}
use Rattle.std.specs.declared.cmp.Ordering.TheVariants.{Less, Equal, Greater}
use Rattle.std.specs.List.{AllByRecursion}
use Rattle.std.specs.List.Sorted.{IsStrictlySortedBy}
use Rattle.std.specs.Map.{keys_of, values_of, lookup, set_value, remove_entry}
use Rattle.std.specs.Ordering.{nat_cmp, is_eq, eq_by_cmp, match_ordering}
use Rattle.std.specs.Cmp.{IsTotalOrder, eq_by_cmp_equiv, first_so, second_so, nat_eq_equiv}
use Rattle.std.specs.Cmp.Lexicographic.{pointwise, nat_list_eq_equiv}
use Rattle.std.specs.BTreeMap.{is_at, insert_entry}
use Rattle.std.specs.FinMap as map
use Rattle.std.proofs.Common.{sym, ◌∙◌, ap, subst}
use Rattle.std.proofs.lemmas.Bool.Decides.{Decides-eqb}
use Rattle.std.proofs.lemmas.Cmp.{nat_cmp_total, on_total, then_total, tied_itself}
use Rattle.std.proofs.lemmas.Map.{lookup-none, NonePasses}
use Rattle.std.proofs.lemmas.Map.Keys.{sorted_head, sorted_tail}
use Rattle.std.proofs.lemmas.Map.Lookups.{CmpEqualImpliesEq, exact_pairs, exact_unsigned}
use Rattle.std.proofs.lemmas.Slice.Eq.{bytes_eq-Decides}
use Rattle.doc_model.specs.declared.key.DocKey.{DocKey}
use Rattle.doc_model.specs.declared.slot.Slot.{Slot}
use Rattle.doc_model.specs.Keys.{key_cmp}
use Rattle.doc_model.specs.Slots.{slot_cmp, slot_of, ArePlaced}
use Rattle.doc_model.proofs.Entries.{keys_total, same_key, is_equal, value_at, get_value, one_given, one_removed}

-- slots that compare alike are one
exact_slots : CmpEqualImpliesEq slot_cmp
exact_slots a b h = ap (λ (p : ℕ × ℕ). record { collection = p.0; hash = p.1 }) (exact_pairs nat_cmp nat_cmp exact_unsigned exact_unsigned (a.collection, a.hash) (b.collection, b.hash) h)

pub slots_total : IsTotalOrder slot_cmp
slots_total = then_total (on_total (λ s. s.collection) nat_cmp_total) (on_total (λ s. s.hash) nat_cmp_total)

pub same_slot : (a b : Slot) → is_at (slot_cmp a) b ≡ true → a ≡ b
same_slot a b e = exact_slots a b (is_equal (slot_cmp a b) e)

pub slot_itself : (a : Slot) → is_at (slot_cmp a) a ≡ true
slot_itself a = ap is_eq (tied_itself slots_total a)

pub key_itself : (a : DocKey) → is_at (key_cmp a) a ≡ true
key_itself a = ap is_eq (tied_itself keys_total a)

-- what stands in a slot
abbrev pub slot_at : {X : Type 0} → List (Slot × (DocKey × X)) → Slot → Option (DocKey × X)
slot_at es s = lookup (is_at (slot_cmp s)) es

-- what a key has of what stands in its slot
abbrev pub its : {X : Type 0} → DocKey → Option (DocKey × X) → Option X
its q None = None
its q (Some p) = cond (is_at (key_cmp q) p.0) (Some p.1) None

abbrev pub own : {X : Type 0} → List (Slot × (DocKey × X)) → DocKey → Option X
own es q = its q (slot_at es (slot_of q))

abbrev pub first_of : {X : Type 0} → Option X → Option X → Option X
first_of None o = o
first_of (Some x) o = Some x

-- ---- a look-up

weigh : {X : Type 0} (q : DocKey) (p : DocKey × X) (b c : Bool) (left : Option X) (o : Option (DocKey × X)) → b ≡ is_at (key_cmp q) p.0 → (b ≡ true → c ≡ true) → (c ≡ true → o ≡ None) → left ≡ its q o → cond b (Some p.1) left ≡ its q (cond c (Some p) o)
weigh q p true true left o is same none h = ap (λ b. cond b (Some p.1) None) is
weigh q p true false left o is same none h = absurd (let e = same refl in cc)
weigh q p false true left o is same none h = h ∙ ap (its q) (none refl) ∙ ap (λ b. cond b (Some p.1) None) is
weigh q p false false left o is same none h = h

is_not : (o : Ordering) → o ≡ Less → is_eq o ≡ false
is_not Less e = refl
is_not Equal e = absurd (cc)
is_not Greater e = refl

pub none_later : {X : Type 0} (s : Slot) (es : List (Slot × (DocKey × X))) → AllByRecursion (λ t. slot_cmp s t ≡ Less) (keys_of es) → NonePasses (is_at (slot_cmp s)) es
none_later s [] h = tt
none_later s (e ∷ es) h = (is_not (slot_cmp s e.0) h.0, none_later s es h.1)

-- a key that stands in a slot stands in its own
pub found : {X : Type 0} (es : List (Slot × (DocKey × X))) (q : DocKey) → IsStrictlySortedBy slot_cmp (keys_of es) → AllByRecursion (λ e. e.0 ≡ slot_of e.1.0) es → value_at (values_of es) q ≡ own es q
found [] q sorted placed = refl
found {X} (e ∷ es) q sorted placed =
    weigh q e.1 (is_at (key_cmp q) e.1.0) (is_at (slot_cmp (slot_of q)) e.0) (value_at (values_of es) q) (slot_at es (slot_of q)) refl
    (λ is. let same : slot_of q ≡ e.0 = ap slot_of (same_key q e.1.0 is) ∙ sym placed.0 in ap (λ s. is_at (slot_cmp s) e.0) same ∙ slot_itself e.0)
    (λ is. ap (λ s. slot_at es s) (same_slot (slot_of q) e.0 is) ∙ lookup-none (is_at (slot_cmp e.0)) es (none_later e.0 es (sorted_head slot_cmp e.0 (keys_of es) sorted)))
    (found es q (sorted_tail slot_cmp e.0 (keys_of es) sorted) placed.1)

pub lookup_both : {K X : Type 0} (test : K → Bool) (es fs : List (K × X)) → lookup test (es ++ fs) ≡ first_of (lookup test es) (lookup test fs)
lookup_both test [] fs = refl
lookup_both {K} {X} test (e ∷ es) fs =
    elim (test e.0) as (λ b. cond b (Some e.1) (lookup test (es ++ fs)) ≡ first_of (cond b (Some e.1) (lookup test es)) (lookup test fs)) [
      | true ↦ refl
      | false ↦ lookup_both test es fs
    ]

-- what a key has: what it has in its slot, or else among the others
value_both : {X : Type 0} (es : List (Slot × (DocKey × X))) (fs : List (DocKey × X)) (q : DocKey) → ArePlaced es → value_at (values_of es ++ fs) q ≡ first_of (own es q) (value_at fs q)
value_both es fs q h = lookup_both (is_at (key_cmp q)) (values_of es) fs ∙ ap (λ o. first_of o (value_at fs q)) (found es q h.sorted h.placed)

-- the map of what stands in slots and of the others
abbrev pub joined : {X : Type 0} → List (Slot × (DocKey × X)) → List (DocKey × X) → map.FinMap key_cmp X
joined es fs = map.from_entries (values_of es ++ fs)

pub get_both : {X : Type 0} (es : List (Slot × (DocKey × X))) (fs : List (DocKey × X)) (q : DocKey) → ArePlaced es → map.get (joined es fs) q ≡ first_of (own es q) (value_at fs q)
get_both es fs q h = get_value (values_of es ++ fs) q ∙ value_both es fs q h

-- ---- what stands where it should, still does

pub none_placed : {X : Type 0} (es : List (Slot × (DocKey × X))) → es ≡ [] → IsStrictlySortedBy slot_cmp (keys_of es) → ArePlaced es
none_placed {X} es is sorted = record {
  sorted = sorted;
  placed = let P : List (Slot × (DocKey × X)) → Type 0 = λ l. AllByRecursion (λ e. e.0 ≡ slot_of e.1.0) l in subst P (sym is) tt;
}

-- what stands in each slot belongs there
abbrev pub InPlace : {X : Type 0} → List (Slot × (DocKey × X)) → Type 0
InPlace es = AllByRecursion (λ e. e.0 ≡ slot_of e.1.0) es

set_in_place : {X : Type 0} (es : List (Slot × (DocKey × X))) (s : Slot) (p : DocKey × X) → s ≡ slot_of p.0 → InPlace es → InPlace (set_value (is_at (slot_cmp s)) es p)
set_in_place [] s p is h = tt
set_in_place {X} (e ∷ es) s p is h =
    elim (is_at (slot_cmp s) e.0) as (λ b. is_at (slot_cmp s) e.0 ≡ b → InPlace (cond b ((e.0, p) ∷ es) (e ∷ set_value (is_at (slot_cmp s)) es p))) [
      | true ↦ λ same. (sym (same_slot s e.0 same) ∙ is, h.1)
      | false ↦ λ _. (h.0, set_in_place es s p is h.1)
    ] refl

insert_in_place : {X : Type 0} (es : List (Slot × (DocKey × X))) (s : Slot) (p : DocKey × X) → s ≡ slot_of p.0 → InPlace es → InPlace (insert_entry slot_cmp es s p)
insert_in_place [] s p is h = (is, tt)
insert_in_place {X} (e ∷ es) s p is h =
    elim (slot_cmp s e.0) as (λ o. slot_cmp s e.0 ≡ o → InPlace (match_ordering o ((s, p) ∷ e ∷ es) ((e.0, p) ∷ es) (e ∷ insert_entry slot_cmp es s p))) [
      | Less ↦ λ _. (is, h)
      | Equal ↦ λ same. (sym (exact_slots s e.0 same) ∙ is, h.1)
      | Greater ↦ λ _. (h.0, insert_in_place es s p is h.1)
    ] refl

remove_in_place : {X : Type 0} (es : List (Slot × (DocKey × X))) (test : Slot → Bool) → InPlace es → InPlace (remove_entry test es)
remove_in_place [] test h = tt
remove_in_place {X} (e ∷ es) test h =
    elim (test e.0) as (λ b. InPlace (cond b es (e ∷ remove_entry test es))) [
      | true ↦ h.1
      | false ↦ (h.0, remove_in_place es test h.1)
    ]

placed_by : {X : Type 0} (es fs : List (Slot × (DocKey × X))) → es ≡ fs → InPlace fs → IsStrictlySortedBy slot_cmp (keys_of es) → ArePlaced es
placed_by {X} es fs is h sorted = record { sorted = sorted; placed = let P : List (Slot × (DocKey × X)) → Type 0 = InPlace in subst P (sym is) h }

pub placed_same : {X : Type 0} (es fs : List (Slot × (DocKey × X))) → fs ≡ es → ArePlaced es → ArePlaced fs
placed_same {X} es fs is h = let P : List (Slot × (DocKey × X)) → Type 0 = ArePlaced in subst P (sym is) h

pub placed_set : {X : Type 0} (es fs : List (Slot × (DocKey × X))) (s : Slot) (k : DocKey) (p : DocKey × X) → s ≡ slot_of k → p.0 ≡ k → fs ≡ set_value (is_at (slot_cmp s)) es p → ArePlaced es → IsStrictlySortedBy slot_cmp (keys_of fs) → ArePlaced fs
placed_set es fs s k p is same given h sorted = placed_by fs (set_value (is_at (slot_cmp s)) es p) given (set_in_place es s p (is ∙ ap slot_of (sym same)) h.placed) sorted

pub placed_inserted : {X : Type 0} (es fs : List (Slot × (DocKey × X))) (s : Slot) (k : DocKey) (p : DocKey × X) → s ≡ slot_of k → p.0 ≡ k → fs ≡ insert_entry slot_cmp es s p → ArePlaced es → IsStrictlySortedBy slot_cmp (keys_of fs) → ArePlaced fs
placed_inserted es fs s k p is same given h sorted = placed_by fs (insert_entry slot_cmp es s p) given (insert_in_place es s p (is ∙ ap slot_of (sym same)) h.placed) sorted

pub placed_removed : {X : Type 0} (es fs : List (Slot × (DocKey × X))) (test : Slot → Bool) → fs ≡ remove_entry test es → ArePlaced es → IsStrictlySortedBy slot_cmp (keys_of fs) → ArePlaced fs
placed_removed es fs test given h sorted = placed_by fs (remove_entry test es) given (remove_in_place es test h.placed) sorted

-- ---- a slot changes

place : {X : Type 0} (q : DocKey) (b c : Bool) (o to : Option (DocKey × X)) (w : Option X) → (b ≡ true → c ≡ true) → (c ≡ true → its q to ≡ cond b w None) → (b ≡ false → c ≡ true → its q o ≡ None) → its q (cond c to o) ≡ cond b w (its q o)
place q true true o to w same now before = now refl
place q true false o to w same now before = absurd (let e = same refl in cc)
place q false true o to w same now before = now refl ∙ sym (before refl refl)
place q false false o to w same now before = refl

-- the slot of k has another thing, which is k's
own_changed : {X : Type 0} (es fs : List (Slot × (DocKey × X))) (k : DocKey) (to : Option (DocKey × X)) (w : Option X) → ((t : Slot) → slot_at fs t ≡ cond (is_at (slot_cmp (slot_of k)) t) to (slot_at es t)) → ((q : DocKey) → its q to ≡ cond (is_at (key_cmp k) q) w None) → ((q : DocKey) → is_at (key_cmp k) q ≡ false → its q (slot_at es (slot_of k)) ≡ None) → (q : DocKey) → own fs q ≡ cond (is_at (key_cmp k) q) w (own es q)
own_changed es fs k to w changed now before q =
    ap (its q) (changed (slot_of q))
    ∙ place q (is_at (key_cmp k) q) (is_at (slot_cmp (slot_of k)) (slot_of q)) (slot_at es (slot_of q)) to w
    (λ e. ap (λ r. is_at (slot_cmp (slot_of k)) (slot_of r)) (sym (same_key k q e)) ∙ slot_itself (slot_of k))
    (λ _. now q)
    (λ apart same. ap (λ s. its q (slot_at es s)) (sym (same_slot (slot_of k) (slot_of q) same)) ∙ before q apart)

-- what stands there is k's, or nothing is there
alone : {X : Type 0} (k q : DocKey) (p : DocKey × X) → p.0 ≡ k → is_at (key_cmp k) q ≡ false → its q (Some p) ≡ None
alone k q p same apart = ap (λ b. cond b (Some p.1) None) (ap (is_at (key_cmp q)) same ∙ (eq_by_cmp_equiv keys_total).symm q k ∙ apart)

its_value : {X : Type 0} (k : DocKey) (x : X) (q : DocKey) → its q (Some (k, x)) ≡ cond (is_at (key_cmp k) q) (Some x) None
its_value k x q = ap (λ b. cond b (Some x) None) ((eq_by_cmp_equiv keys_total).symm q k)

nothing : {X : Type 0} (b : Bool) → (let o : Option X = None in o) ≡ cond b None None
nothing true = refl
nothing false = refl

first_given : {X : Type 0} (b : Bool) (x : X) (o to f fto : Option X) → to ≡ cond b (Some x) o → (b ≡ false → fto ≡ f) → first_of to fto ≡ cond b (Some x) (first_of o f)
first_given true x o to f fto h g = ap (λ a. first_of a fto) h
first_given false x o to f fto h g = ap (λ a. first_of a fto) h ∙ ap (first_of o) (g refl)

-- k has x in its slot
in_slot : {X : Type 0} (es es' : List (Slot × (DocKey × X))) (fs fs' : List (DocKey × X)) (k : DocKey) (x : X) → ArePlaced es → ArePlaced es' → ((q : DocKey) → own es' q ≡ cond (is_at (key_cmp k) q) (Some x) (own es q)) → ((q : DocKey) → is_at (key_cmp k) q ≡ false → value_at fs' q ≡ value_at fs q) → joined es' fs' ≡ map.insert (joined es fs) k x
in_slot es es' fs fs' k x h h' slots others = one_given (values_of es ++ fs) (values_of es' ++ fs') k x (λ q.
    let b = is_at (key_cmp k) q in
    value_both es' fs' q h'
    ∙ first_given b x (own es q) (own es' q) (value_at fs q) (value_at fs' q) (slots q) (others q)
    ∙ ap (cond b (Some x)) (sym (value_both es fs q h)))

-- k had something in its slot, and has x there
pub replaced_own : {X : Type 0} (es es' : List (Slot × (DocKey × X))) (s : Slot) (k : DocKey) (p : DocKey × X) (x : X) → s ≡ slot_of k → p.0 ≡ k → Some p ≡ slot_at es s → ((t : Slot) → slot_at es' t ≡ cond (is_at (slot_cmp s) t) (Some (p.0, x)) (slot_at es t)) → (q : DocKey) → own es' q ≡ cond (is_at (key_cmp k) q) (Some x) (own es q)
replaced_own es es' s k p x is same there changed = own_changed es es' k (Some (k, x)) (Some x)
    (λ t. changed t ∙ ap (λ r. cond (is_at (slot_cmp r) t) (Some (p.0, x)) (slot_at es t)) is ∙ ap (λ r. cond (is_at (slot_cmp (slot_of k)) t) (Some (r, x)) (slot_at es t)) same)
    (its_value k x)
    (λ q apart. ap (its q) (ap (slot_at es) (sym is) ∙ sym there) ∙ alone k q p same apart)

pub replaced : {X : Type 0} (es es' : List (Slot × (DocKey × X))) (fs : List (DocKey × X)) (s : Slot) (k : DocKey) (p : DocKey × X) (x : X) → s ≡ slot_of k → p.0 ≡ k → Some p ≡ slot_at es s → ((t : Slot) → slot_at es' t ≡ cond (is_at (slot_cmp s) t) (Some (p.0, x)) (slot_at es t)) → ArePlaced es → ArePlaced es' → joined es' fs ≡ map.insert (joined es fs) k x
replaced es es' fs s k p x is same there changed h h' = in_slot es es' fs fs k x h h' (replaced_own es es' s k p x is same there changed) (λ q _. refl)

-- its slot was free, and it has x there
pub taken_own : {X : Type 0} (es es' : List (Slot × (DocKey × X))) (s : Slot) (k c : DocKey) (x : X) → s ≡ slot_of k → c ≡ k → None ≡ slot_at es s → ((t : Slot) → slot_at es' t ≡ cond (is_at (slot_cmp s) t) (Some (c, x)) (slot_at es t)) → (q : DocKey) → own es' q ≡ cond (is_at (key_cmp k) q) (Some x) (own es q)
taken_own es es' s k c x is same free changed = own_changed es es' k (Some (k, x)) (Some x)
    (λ t. changed t ∙ ap (λ r. cond (is_at (slot_cmp r) t) (Some (c, x)) (slot_at es t)) is ∙ ap (λ r. cond (is_at (slot_cmp (slot_of k)) t) (Some (r, x)) (slot_at es t)) same)
    (its_value k x)
    (λ q apart. ap (its q) (ap (slot_at es) (sym is) ∙ sym free))

pub taken : {X : Type 0} (es es' : List (Slot × (DocKey × X))) (fs fs' : List (DocKey × X)) (s : Slot) (k c : DocKey) (x : X) → s ≡ slot_of k → c ≡ k → None ≡ slot_at es s → ((t : Slot) → slot_at es' t ≡ cond (is_at (slot_cmp s) t) (Some (c, x)) (slot_at es t)) → ((q : DocKey) → value_at fs' q ≡ cond (is_at (key_cmp k) q) None (value_at fs q)) → ArePlaced es → ArePlaced es' → joined es' fs' ≡ map.insert (joined es fs) k x
taken es es' fs fs' s k c x is same free changed others h h' = in_slot es es' fs fs' k x h h' (taken_own es es' s k c x is same free changed)
    (λ q apart. others q ∙ ap (λ b. cond b None (value_at fs q)) apart)

second_given : {X : Type 0} (b : Bool) (x : X) (o f fto : Option X) → (b ≡ true → o ≡ None) → fto ≡ cond b (Some x) f → first_of o fto ≡ cond b (Some x) (first_of o f)
second_given true x o f fto h g = ap (λ a. first_of a fto) (h refl) ∙ g
second_given false x o f fto h g = ap (first_of o) g

own_at : {X : Type 0} (es : List (Slot × (DocKey × X))) (k q : DocKey) → is_at (key_cmp k) q ≡ true → own es k ≡ None → own es q ≡ None
own_at es k q e h = ap (own es) (sym (same_key k q e)) ∙ h

-- its slot is another's, and it has x among the others
pub elsewhere : {X : Type 0} (es es' : List (Slot × (DocKey × X))) (fs fs' : List (DocKey × X)) (k : DocKey) (x : X) → es' ≡ es → own es k ≡ None → ((q : DocKey) → value_at fs' q ≡ cond (is_at (key_cmp k) q) (Some x) (value_at fs q)) → ArePlaced es → joined es' fs' ≡ map.insert (joined es fs) k x
elsewhere es es' fs fs' k x same free others h =
    ap (λ l. joined l fs') same
    ∙ one_given (values_of es ++ fs) (values_of es ++ fs') k x (λ q.
    let b = is_at (key_cmp k) q in
    value_both es fs' q h
    ∙ second_given b x (own es q) (value_at fs q) (value_at fs' q) (λ e. own_at es k q e free) (others q)
    ∙ ap (cond b (Some x)) (sym (value_both es fs q h)))

both_gone : {X : Type 0} (b : Bool) (o to f fto : Option X) → to ≡ cond b None o → fto ≡ cond b None f → first_of to fto ≡ cond b None (first_of o f)
both_gone true o to f fto h g = ap (λ a. first_of a fto) h ∙ g
both_gone false o to f fto h g = ap (λ a. first_of a fto) h ∙ ap (first_of o) g

gone : {X : Type 0} (es es' : List (Slot × (DocKey × X))) (fs fs' : List (DocKey × X)) (k : DocKey) → ((q : DocKey) → own es' q ≡ cond (is_at (key_cmp k) q) None (own es q)) → ((q : DocKey) → value_at fs' q ≡ cond (is_at (key_cmp k) q) None (value_at fs q)) → ArePlaced es → ArePlaced es' → joined es' fs' ≡ map.remove (joined es fs) k
gone es es' fs fs' k slots others h h' = one_removed (values_of es ++ fs) (values_of es' ++ fs') k (λ q.
    let b = is_at (key_cmp k) q in
    value_both es' fs' q h' ∙ both_gone b (own es q) (own es' q) (value_at fs q) (value_at fs' q) (slots q) (others q) ∙ ap (cond b None) (sym (value_both es fs q h)))

-- k stood in its slot, and is gone
pub freed_own : {X : Type 0} (es es' : List (Slot × (DocKey × X))) (s : Slot) (k : DocKey) (p : DocKey × X) → s ≡ slot_of k → p.0 ≡ k → Some p ≡ slot_at es s → ((t : Slot) → slot_at es' t ≡ cond (is_at (slot_cmp s) t) None (slot_at es t)) → (q : DocKey) → own es' q ≡ cond (is_at (key_cmp k) q) None (own es q)
freed_own es es' s k p is same there changed = own_changed es es' k None None
    (λ t. changed t ∙ ap (λ r. cond (is_at (slot_cmp r) t) None (slot_at es t)) is)
    (λ q. nothing (is_at (key_cmp k) q))
    (λ q apart. ap (its q) (ap (slot_at es) (sym is) ∙ sym there) ∙ alone k q p same apart)

pub slot_freed : {X : Type 0} (es es' : List (Slot × (DocKey × X))) (fs fs' : List (DocKey × X)) (s : Slot) (k : DocKey) (p : DocKey × X) → s ≡ slot_of k → p.0 ≡ k → Some p ≡ slot_at es s → ((t : Slot) → slot_at es' t ≡ cond (is_at (slot_cmp s) t) None (slot_at es t)) → ((q : DocKey) → value_at fs' q ≡ cond (is_at (key_cmp k) q) None (value_at fs q)) → ArePlaced es → ArePlaced es' → joined es' fs' ≡ map.remove (joined es fs) k
slot_freed es es' fs fs' s k p is same there changed others h h' = gone es es' fs fs' k (freed_own es es' s k p is same there changed) others h h'

not_there : {X : Type 0} (b : Bool) (o : Option X) → (b ≡ true → o ≡ None) → o ≡ cond b None o
not_there true o h = h refl
not_there false o h = refl

-- k stood in no slot, and is gone from the others
pub other_gone : {X : Type 0} (es : List (Slot × (DocKey × X))) (fs fs' : List (DocKey × X)) (k : DocKey) → own es k ≡ None → ((q : DocKey) → value_at fs' q ≡ cond (is_at (key_cmp k) q) None (value_at fs q)) → ArePlaced es → joined es fs' ≡ map.remove (joined es fs) k
other_gone es fs fs' k free others h = gone es es fs fs' k (λ q. not_there (is_at (key_cmp k) q) (own es q) (λ e. own_at es k q e free)) others h h

-- ---- whether what stands in a slot is a key's

-- what `==` says of two keys
abbrev pub eq_keys : DocKey → DocKey → Bool
eq_keys a b = nat_eq a.collection b.collection && pointwise nat_eq a.key b.key

same_bytes : (xs ys : List ℕ) → pointwise nat_eq xs ys ≡ true → xs ≡ ys
same_bytes xs ys e = (bytes_eq-Decides xs ys).0 e

pub told_same : (a b : DocKey) (r : Bool) → r ≡ eq_keys a b → r ≡ true → a ≡ b
told_same a b r is holds =
    let both : eq_keys a b ≡ true = sym is ∙ holds in
    let number : a.collection ≡ b.collection = (Decides-eqb a.collection b.collection).0 (first_so (nat_eq a.collection b.collection) (pointwise nat_eq a.key b.key) both) in
    let bytes : a.key ≡ b.key = same_bytes a.key b.key (second_so (nat_eq a.collection b.collection) (pointwise nat_eq a.key b.key) both) in
    ap (λ n. record { collection = n; key = a.key }) number ∙ ap (λ xs. record { collection = b.collection; key = xs }) bytes

eq_itself : (a : DocKey) → eq_keys a a ≡ true
eq_itself a = ap (λ b. b && pointwise nat_eq a.key a.key) (nat_eq_equiv.refl a.collection) ∙ nat_list_eq_equiv.refl a.key

told_apart : (a b : DocKey) (r : Bool) → r ≡ eq_keys a b → r ≡ false → is_at (key_cmp b) a ≡ false
told_apart a b r is fails =
    elim (is_at (key_cmp b) a) as (λ v. is_at (key_cmp b) a ≡ v → v ≡ false) [
      | true ↦ λ e. sym (eq_itself a) ∙ ap (eq_keys a) (sym (same_key b a e)) ∙ sym is ∙ fails
      | false ↦ λ _. refl
    ] refl

pub is_its : {X : Type 0} (es : List (Slot × (DocKey × X))) (s : Slot) (k : DocKey) (p : DocKey × X) → s ≡ slot_of k → Some p ≡ slot_at es s → p.0 ≡ k → own es k ≡ Some p.1
is_its es s k p is there same = ap (its k) (ap (slot_at es) (sym is) ∙ sym there) ∙ ap (λ r. cond (is_at (key_cmp k) r) (Some p.1) None) same ∙ ap (λ b. cond b (Some p.1) None) (key_itself k)

pub is_free : {X : Type 0} (es : List (Slot × (DocKey × X))) (s : Slot) (k : DocKey) → s ≡ slot_of k → None ≡ slot_at es s → own es k ≡ None
is_free es s k is free = ap (its k) (ap (slot_at es) (sym is) ∙ sym free)

pub is_others : {X : Type 0} (es : List (Slot × (DocKey × X))) (s : Slot) (k : DocKey) (p : DocKey × X) (r : Bool) → s ≡ slot_of k → Some p ≡ slot_at es s → r ≡ eq_keys p.0 k → r ≡ false → own es k ≡ None
is_others es s k p r is there e fails = ap (its k) (ap (slot_at es) (sym is) ∙ sym there) ∙ ap (λ b. cond b (Some p.1) None) (told_apart p.0 k r e fails)

-- another thing that was found there is the same one
pub is_had : {X : Type 0} (es : List (Slot × (DocKey × X))) (s : Slot) (k : DocKey) (p had : DocKey × X) → s ≡ slot_of k → Some p ≡ slot_at es s → p.0 ≡ k → Some had ≡ slot_at es s → own es k ≡ Some had.1
is_had es s k p had is there same found =
    let both : Some p ≡ Some had = there ∙ sym found in
    let one : p ≡ had = cc in
    is_its es s k p is there same ∙ ap (λ r. Some r.1) one

-- ---- what the map has

pub from_slot : {X : Type 0} (es : List (Slot × (DocKey × X))) (fs : List (DocKey × X)) (m : map.FinMap key_cmp X) (q : DocKey) (x : X) → joined es fs ≡ m → ArePlaced es → own es q ≡ Some x → Some x ≡ map.get m q
from_slot es fs m q x view h is = sym (ap (λ n. map.get n q) (sym view) ∙ get_both es fs q h ∙ ap (λ o. first_of o (value_at fs q)) is)

pub from_others : {X : Type 0} (es : List (Slot × (DocKey × X))) (fs : List (DocKey × X)) (m : map.FinMap key_cmp X) (q : DocKey) (r : Option X) → joined es fs ≡ m → ArePlaced es → own es q ≡ None → r ≡ value_at fs q → r ≡ map.get m q
from_others es fs m q r view h is e = e ∙ sym (ap (λ n. map.get n q) (sym view) ∙ get_both es fs q h ∙ ap (λ o. first_of o (value_at fs q)) is)

pub at_err : {T E P : Type 0} (r : Result T E) → P → OnErr r P
at_err (Ok x) p = tt
at_err (Err e) p = p

-- `==` of keys, and their order
pub same_tests : (a b : DocKey) → eq_keys a b ≡ eq_by_cmp key_cmp a b
same_tests a b = go (eq_keys a b) refl
  where
    go : (r : Bool) → r ≡ eq_keys a b → r ≡ eq_by_cmp key_cmp a b
    go true e = sym (ap (eq_by_cmp key_cmp a) (sym (told_same a b true e refl)) ∙ key_itself a)
    go false e = sym ((eq_by_cmp_equiv keys_total).symm a b ∙ told_apart a b false e refl)
