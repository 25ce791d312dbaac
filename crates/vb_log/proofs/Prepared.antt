-- Lists of changes that wait: where one stands, what they count, and their positions.
use Rattle.std.specs.Prelude.{◌≡◌, ℕ, ◌+◌, ◌<◌, ◌≤◌, nat_eq, nat_lt, is_some, find, filter, position, map as list_map, Bool, true, false, cond, not, ◌||◌, List, [], ◌∷◌, ◌++◌, length, Some, None, refl}
use Rattle.std.specs.List.{list_any, list_all, position_or_len, remove, sum_by}
use Rattle.std.proofs.Common.{suc, sym, ◌∙◌, ap, subst, get_or, arith}
use Rattle.std.proofs.lemmas.Bool.{and_parts, and_from, lt-ltb, ltb-true, eqb-true}
use Rattle.std.proofs.lemmas.Bool.Decides.{nat_tests}
use Rattle.std.proofs.lemmas.List.Sums.{sum_by-cons, sum-map, sum_by-remove}
use Rattle.manifest_rules.specs.State.{are_rising}
use Rattle.vb_log.specs.declared.entry.Pending.{Pending}
use Rattle.vb_log.specs.Content.{prepare_at, other_than}
use Rattle.vb_log.specs.Held.{pending_weight, pending_size, waiting_size, positions_rise}

-- ---- the first that passes

abbrev at_position : ℕ → Pending → Bool
at_position of p = nat_eq p.position of

pub some_any : {A : Type 0} (p : A → Bool) (xs : List A) → is_some (find p xs) ≡ list_any p xs
some_any p [] = refl
some_any {A} p (x ∷ xs) = go (p x) (some_any p xs)
  where
    go : (b : Bool) → is_some (find p xs) ≡ list_any p xs → is_some (cond b (Some x) (find p xs)) ≡ (b || list_any p xs)
    go true h = refl
    go false h = h

-- a place as a number, within the list
pub record Stands {A : Type 0} (p : A → Bool) (xs : List A) (i : ℕ) : Type 0 where
  pub within : i < length xs
  pub place : position_or_len p xs ≡ i

pub stands_at : {A : Type 0} (p : A → Bool) (xs : List A) (i : ℕ) → Some i ≡ position p xs → Stands p xs i
stands_at {A} p xs i e = go (nat_lt (position_or_len p xs) (length xs)) refl e
  where
    same : (a b : ℕ) → Some a ≡ Some b → a ≡ b
    same a b q = cc

    go : (b : Bool) → nat_lt (position_or_len p xs) (length xs) ≡ b → Some i ≡ cond b (Some (position_or_len p xs)) None → Stands p xs i
    go true l e = let is = sym (same i (position_or_len p xs) e) in let less = ltb-true (position_or_len p xs) (length xs) l in record { within = omega arith; place = is }
    go false l e = absurd (let z : Some i ≡ None = e in cc)

no_place : {A : Type 0} (p : A → Bool) (xs : List A) → length xs ≤ position_or_len p xs → find p xs ≡ None
no_place p [] l = refl
no_place {A} p (x ∷ xs) l = by (p x) l (λ m. no_place p xs m)
  where
    by : (b : Bool) → length (x ∷ xs) ≤ cond (not b) (1 + position_or_len p xs) 0 → (length xs ≤ position_or_len p xs → find p xs ≡ None) → cond b (Some x) (find p xs) ≡ None
    by true l rest = absurd (omega arith)
    by false l rest = rest (omega arith)

pub none_stands : {A : Type 0} (p : A → Bool) (xs : List A) → None ≡ position p xs → find p xs ≡ None
none_stands {A} p xs e = no_place p xs (past (nat_lt (position_or_len p xs) (length xs)) refl e)
  where
    past : (b : Bool) → nat_lt (position_or_len p xs) (length xs) ≡ b → None ≡ cond b (Some (position_or_len p xs)) None → length xs ≤ position_or_len p xs
    past true l e = absurd (let z : None ≡ Some (position_or_len p xs) = e in cc)
    past false l e = grind (arith, nat_tests)

first_found : {A : Type 0} (p : A → Bool) (xs : List A) (x : A) → position_or_len p xs < length xs → x ≡ get_or xs (position_or_len p xs) x → find p xs ≡ Some x
first_found p [] x l e = absurd (omega arith)
first_found {A} p (y ∷ ys) x l e = by (p y) l e (λ m f. first_found p ys x m f)
  where
    one_more : (n : ℕ) → 1 + n ≡ suc n
    one_more n = omega arith

    by : (b : Bool) → cond (not b) (1 + position_or_len p ys) 0 < length (y ∷ ys) → x ≡ get_or (y ∷ ys) (cond (not b) (1 + position_or_len p ys) 0) x
        → (position_or_len p ys < length ys → x ≡ get_or ys (position_or_len p ys) x → find p ys ≡ Some x) → cond b (Some y) (find p ys) ≡ Some x
    by true l e rest = ap (λ z. Some z) (sym e)
    by false l e rest = rest (omega arith) (e ∙ ap (λ n. get_or (y ∷ ys) n x) (one_more (position_or_len p ys)))

-- what stands at the place is what is found
pub found_at : {A : Type 0} (p : A → Bool) (xs : List A) (i : ℕ) (x : A) → Stands p xs i → x ≡ get_or xs i x → find p xs ≡ Some x
found_at p xs i x h e = let is = h.place in first_found p xs x (let w = h.within in omega arith) (e ∙ ap (λ n. get_or xs n x) (sym is))

-- ---- positions that rise

abbrev pub positions : List Pending → List ℕ
positions ps = list_map (λ (p : Pending). p.position) ps

all_above : (a b : ℕ) (xs : List ℕ) → a < b → list_all (nat_lt b) xs ≡ true → list_all (nat_lt a) xs ≡ true
all_above a b [] l h = refl
all_above a b (x ∷ xs) l h =
    let parts = and_parts (nat_lt b x) (list_all (nat_lt b) xs) h in
    let above = ltb-true b x parts.0 in
    and_from (nat_lt a x) (list_all (nat_lt a) xs) (lt-ltb a x (omega arith)) (all_above a b xs l parts.1)

-- numbers that rise behind one are above it
pub rise_above : (a : ℕ) (xs : List ℕ) → are_rising (a ∷ xs) ≡ true → list_all (nat_lt a) xs ≡ true
rise_above a [] h = refl
rise_above a (x ∷ xs) h =
    let parts = and_parts (nat_lt a x) (are_rising (x ∷ xs)) h in
    and_from (nat_lt a x) (list_all (nat_lt a) xs) parts.0 (all_above a x xs (ltb-true a x parts.0) (rise_above x xs parts.1))

pub rise_rest : (a : ℕ) (xs : List ℕ) → are_rising (a ∷ xs) ≡ true → are_rising xs ≡ true
rise_rest a [] h = refl
rise_rest a (x ∷ xs) h = (and_parts (nat_lt a x) (are_rising (x ∷ xs)) h).1

rise_cons : (a : ℕ) (xs : List ℕ) → list_all (nat_lt a) xs ≡ true → are_rising xs ≡ true → are_rising (a ∷ xs) ≡ true
rise_cons a [] h k = refl
rise_cons a (x ∷ xs) h k = and_from (nat_lt a x) (are_rising (x ∷ xs)) (and_parts (nat_lt a x) (list_all (nat_lt a) xs) h).0 k

above_kept : (a : ℕ) (p : Pending → Bool) (ps : List Pending) → list_all (nat_lt a) (positions ps) ≡ true → list_all (nat_lt a) (positions (filter p ps)) ≡ true
above_kept a p [] h = refl
above_kept a p (x ∷ xs) h = by (p x) (above_kept a p xs (and_parts (nat_lt a x.position) (list_all (nat_lt a) (positions xs)) h).1)
  where
    by : (b : Bool) → list_all (nat_lt a) (positions (filter p xs)) ≡ true → list_all (nat_lt a) (positions (cond b (x ∷ filter p xs) (filter p xs))) ≡ true
    by true rest = and_from (nat_lt a x.position) _ (and_parts (nat_lt a x.position) (list_all (nat_lt a) (positions xs)) h).0 rest
    by false rest = rest

pub rise_kept : (p : Pending → Bool) (ps : List Pending) → positions_rise ps ≡ true → positions_rise (filter p ps) ≡ true
rise_kept p [] h = refl
rise_kept p (x ∷ xs) h = by (p x) (rise_kept p xs (rise_rest x.position (positions xs) h))
  where
    by : (b : Bool) → positions_rise (filter p xs) ≡ true → positions_rise (cond b (x ∷ filter p xs) (filter p xs)) ≡ true
    by true rest = rise_cons x.position (positions (filter p xs)) (above_kept x.position p xs (rise_above x.position (positions xs) h)) rest
    by false rest = rest

above_push : (a : ℕ) (ps : List Pending) (change : Pending) → a < change.position → list_all (nat_lt a) (positions ps) ≡ true → list_all (nat_lt a) (positions (ps ++ change ∷ [])) ≡ true
above_push a [] change l h = and_from (nat_lt a change.position) true (lt-ltb a change.position l) refl
above_push a (x ∷ xs) change l h =
    let parts = and_parts (nat_lt a x.position) (list_all (nat_lt a) (positions xs)) h in
    and_from (nat_lt a x.position) _ parts.0 (above_push a xs change l parts.1)

pub rise_push : (ps : List Pending) (change : Pending) → list_all (λ (p : Pending). nat_lt p.position change.position) ps ≡ true → positions_rise ps ≡ true → positions_rise (ps ++ change ∷ []) ≡ true
rise_push [] change behind h = refl
rise_push (x ∷ xs) change behind h =
    let parts = and_parts (nat_lt x.position change.position) (list_all (λ (p : Pending). nat_lt p.position change.position) xs) behind in
    rise_cons x.position (positions (xs ++ change ∷ []))
    (above_push x.position xs change (ltb-true x.position change.position parts.0) (rise_above x.position (positions xs) h))
    (rise_push xs change parts.1 (rise_rest x.position (positions xs) h))

-- ---- one change less

-- where none was prepared at a position, all are left
pub all_left : (of : ℕ) (ps : List Pending) → prepare_at ps of ≡ None → other_than of ps ≡ ps
all_left of [] e = refl
all_left of (p ∷ ps) e = by (nat_eq p.position of) e (λ f. all_left of ps f)
  where
    by : (b : Bool) → cond b (Some p) (prepare_at ps of) ≡ None → (prepare_at ps of ≡ None → other_than of ps ≡ ps) → cond (not b) (p ∷ other_than of ps) (other_than of ps) ≡ p ∷ ps
    by true e rest = absurd (let z : Some p ≡ None = e in cc)
    by false e rest = ap (λ l. p ∷ l) (rest e)

pub none_equal : (of : ℕ) (ps : List Pending) → list_all (nat_lt of) (positions ps) ≡ true → other_than of ps ≡ ps
none_equal of [] h = refl
none_equal of (p ∷ ps) h =
    let parts = and_parts (nat_lt of p.position) (list_all (nat_lt of) (positions ps)) h in
    ap (λ b. cond (not b) (p ∷ other_than of ps) (other_than of ps)) (differs p.position of (ltb-true of p.position parts.0)) ∙ ap (λ l. p ∷ l) (none_equal of ps parts.1)
  where
    differs : (a b : ℕ) → b < a → nat_eq a b ≡ false
    differs a b l = grind (arith, nat_tests)

removed_first : (of : ℕ) (ps : List Pending) → positions_rise ps ≡ true → position_or_len (at_position of) ps < length ps → remove ps (position_or_len (at_position of) ps) ≡ other_than of ps
removed_first of [] h l = absurd (omega arith)
removed_first of (p ∷ ps) h l = by (nat_eq p.position of) refl l (λ m. removed_first of ps (rise_rest p.position (positions ps) h) m)
  where
    one_more : (n : ℕ) → 1 + n ≡ suc n
    one_more n = omega arith

    by : (b : Bool) → nat_eq p.position of ≡ b → cond (not b) (1 + position_or_len (at_position of) ps) 0 < length (p ∷ ps)
        → (position_or_len (at_position of) ps < length ps → remove ps (position_or_len (at_position of) ps) ≡ other_than of ps)
        → remove (p ∷ ps) (cond (not b) (1 + position_or_len (at_position of) ps) 0) ≡ cond (not b) (p ∷ other_than of ps) (other_than of ps)
    by true e l rest = sym (none_equal of ps (subst (λ n. list_all (nat_lt n) (positions ps) ≡ true) (eqb-true p.position of e) (rise_above p.position (positions ps) h)))
    by false e l rest = ap (λ n. remove (p ∷ ps) n) (one_more (position_or_len (at_position of) ps)) ∙ ap (λ l. p ∷ l) (rest (omega arith))

-- what is left when the change at the place is removed
pub removed_at : (of : ℕ) (ps : List Pending) (i : ℕ) → positions_rise ps ≡ true → Stands (at_position of) ps i → remove ps i ≡ other_than of ps
removed_at of ps i h s = ap (remove ps) (sym s.place) ∙ removed_first of ps h (let w = s.within in let is = s.place in omega arith)

-- ---- what changes count

waiting_by : (ps : List Pending) → waiting_size ps ≡ sum_by pending_weight ps
waiting_by ps = sum-map pending_weight ps

pub removed_size : (ps : List Pending) (i : ℕ) (d : Pending) → i < length ps → waiting_size (remove ps i) + pending_weight (get_or ps i d) ≡ waiting_size ps
removed_size ps i d l =
    let a = waiting_by (remove ps i) in
    let b = waiting_by ps in
    let c = sum_by-remove pending_weight ps i d l in
    omega arith

-- a change that waits counts as a part
pub found_size : (p : Pending → Bool) (ps : List Pending) → pending_size (find p ps) ≤ waiting_size ps
found_size p [] = omega arith
found_size p (x ∷ xs) = by (p x) (found_size p xs)
  where
    more : waiting_size (x ∷ xs) ≡ pending_weight x + waiting_size xs
    more = sum_by-cons (λ n. n) (pending_weight x) (list_map pending_weight xs)

    by : (b : Bool) → pending_size (find p xs) ≤ waiting_size xs → pending_size (cond b (Some x) (find p xs)) ≤ waiting_size (x ∷ xs)
    by true rest = let m = more in omega arith
    by false rest = let m = more in omega arith

-- without the change of a position they count so much less
pub others_size : (of : ℕ) (ps : List Pending) → positions_rise ps ≡ true → waiting_size (other_than of ps) + pending_size (prepare_at ps of) ≡ waiting_size ps
others_size of [] h = refl
others_size of (p ∷ ps) h = by (nat_eq p.position of) refl (others_size of ps (rise_rest p.position (positions ps) h))
  where
    more : (xs : List Pending) → waiting_size (p ∷ xs) ≡ pending_weight p + waiting_size xs
    more xs = sum_by-cons (λ n. n) (pending_weight p) (list_map pending_weight xs)

    by : (b : Bool) → nat_eq p.position of ≡ b → waiting_size (other_than of ps) + pending_size (prepare_at ps of) ≡ waiting_size ps
        → waiting_size (cond (not b) (p ∷ other_than of ps) (other_than of ps)) + pending_size (cond b (Some p) (prepare_at ps of)) ≡ waiting_size (p ∷ ps)
    by true e rest =
        let none = none_equal of ps (subst (λ n. list_all (nat_lt n) (positions ps) ≡ true) (eqb-true p.position of e) (rise_above p.position (positions ps) h)) in
        let a = ap waiting_size none in
        let b = more ps in
        omega arith
    by false e rest = let a = more ps in let b = more (other_than of ps) in omega arith

-- a change was found in a slice of them, and is removed there
pub record Removes (of : ℕ) (ps : List Pending) (size i : ℕ) (change : Pending) : Type 0 where
  pub found : prepare_at ps of ≡ Some change
  pub left : remove ps i ≡ other_than of ps
  pub rise : positions_rise (remove ps i) ≡ true
  pub counts : waiting_size (remove ps i) + pending_weight change ≡ size

pub removes : (of : ℕ) (ps slice : List Pending) (size i : ℕ) (change : Pending) → slice ≡ ps → Some i ≡ position (at_position of) slice → change ≡ get_or ps i change → size ≡ waiting_size ps → positions_rise ps ≡ true → Removes of ps size i change
removes of ps slice size i change same at is counted rise =
    let s = stands_at (at_position of) ps i (at ∙ ap (position (at_position of)) same) in
    let left = removed_at of ps i rise s in
    record {
      found = found_at (at_position of) ps i change s is;
      left = left;
      rise = ap positions_rise left ∙ rise_kept (λ p. not (nat_eq p.position of)) ps rise;
      counts = let less = removed_size ps i change s.within in let e = ap pending_weight is in omega arith;
    }
