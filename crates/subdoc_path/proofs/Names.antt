-- A name that is read is spelled so, and a name that is spelled is read.
use Rattle.std.proofs.Common.{◌≡◌, ℕ, zero, suc, ◌≤◌, List, [], ◌∷◌, ◌++◌, length, take, drop, Bool, true, false, cond, eqb, Option, Some, None, ◌⊎◌, inl, inr, refl, sym, ap, subst, ◌∙◌, arith, append_assoc}
use Rattle.std.specs.List.{flat_map, AllByRecursion}
use Rattle.std.proofs.lemmas.Bool.Decides.{nat_tests}
use Rattle.std.proofs.lemmas.List.{take_at, drop_at, take-append-drop}
use Rattle.json_model.specs.Paths.{IsBare, doubled, ticked, IsComponent}
use Rattle.subdoc_path.specs.Reading.{is_bare, bare_length, bare_at, led, ticked_at, name_at}

-- what may stand behind a part: nothing, a point or an opening bracket
abbrev pub Stops : List ℕ → Type 0
Stops [] = Unit {0}
Stops (x ∷ xs) = (x ≡ 0x2e) ⊎ (x ≡ 0x5b)

-- a name, and what is behind it
abbrev pub a_name : List ℕ → List ℕ → Option (List ℕ × List ℕ)
a_name name rest = Some (name, rest)

-- ---- between backticks

abbrev waiting : Bool → List ℕ
waiting true = 0x60 ∷ []
waiting false = []

pub some_pair : (a b name rest : List ℕ) → (a_name a b) ≡ (a_name name rest) → (a ≡ name) × (b ≡ rest)
some_pair a b name rest e = let h : (λ (p q : List ℕ × List ℕ). p ≡ q) (a, b) (name, rest) = cc in (ap (λ (p : List ℕ × List ℕ). p.0) h, ap (λ (p : List ℕ × List ℕ). p.1) h)

led_took : (x : ℕ) (o : Option (List ℕ × List ℕ)) (name rest : List ℕ) → led x o ≡ (a_name name rest) → (inner : List ℕ) × (o ≡ (a_name inner rest)) × (name ≡ x ∷ inner)
led_took x None name rest e = cc
led_took x (Some r) name rest e =
    let p = some_pair (x ∷ r.0) r.1 name rest e in
    (r.0, ap (λ (b : List ℕ). (a_name r.0 b)) p.1, sym p.0)

doubled_tick : (x : ℕ) → eqb x 0x60 ≡ true → doubled x ≡ 0x60 ∷ 0x60 ∷ []
doubled_tick x e = ap (λ b. cond b (0x60 ∷ 0x60 ∷ []) (x ∷ [])) e

doubled_other : (x : ℕ) → eqb x 0x60 ≡ false → doubled x ≡ x ∷ []
doubled_other x e = ap (λ b. cond b (0x60 ∷ 0x60 ∷ []) (x ∷ [])) e

tick_is : (x : ℕ) → eqb x 0x60 ≡ true → x ≡ 0x60
tick_is x e = grind (arith, nat_tests)

test_case : (b : Bool) → (b ≡ true) ⊎ (b ≡ false)
test_case true = inl refl
test_case false = inr refl

ticks_false : (x : ℕ) (xs : List ℕ) (b : Bool) → eqb x 0x60 ≡ b → ticked_at false (x ∷ xs) ≡ cond b (ticked_at true xs) (led x (ticked_at false xs))
unfolding ticked_at
ticks_false x xs b e = ap (λ b. cond b (ticked_at true xs) (led x (ticked_at false xs))) e

ticks_true : (x : ℕ) (xs : List ℕ) (b : Bool) → eqb x 0x60 ≡ b → ticked_at true (x ∷ xs) ≡ cond b (led x (ticked_at false xs)) ((a_name [] (x ∷ xs)))
unfolding ticked_at
ticks_true x xs b e = ap (λ b. cond b (led x (ticked_at false xs)) ((a_name [] (x ∷ xs)))) e

no_none : (name rest : List ℕ) → None ≡ (a_name name rest) → ⊥
no_none name rest e = cc

ticks_none : ticked_at false [] ≡ None
unfolding ticked_at
ticks_none = refl

ticks_ended : ticked_at true [] ≡ (a_name [] [])
unfolding ticked_at
ticks_ended = refl

abbrev Ticked : Bool → List ℕ → Type 0
Ticked w bytes = (name rest : List ℕ) → ticked_at w bytes ≡ (a_name name rest) → waiting w ++ bytes ≡ flat_map doubled name ++ (0x60 ∷ rest)

false_turn : (x : ℕ) (xs : List ℕ) → Ticked true xs → Ticked false xs → (eqb x 0x60 ≡ true) ⊎ (eqb x 0x60 ≡ false) → Ticked false (x ∷ xs)
false_turn x xs waits goes (inl t) name rest e = ap (λ (y : ℕ). y ∷ xs) (tick_is x t) ∙ waits name rest (sym (ticks_false x xs true t) ∙ e)
false_turn x xs waits goes (inr t) name rest e =
    let l = led_took x (ticked_at false xs) name rest (sym (ticks_false x xs false t) ∙ e) in
    ap (λ (r : List ℕ). x ∷ r) (goes l.0 rest l.1) ∙ ap (λ (d : List ℕ). (d ++ flat_map doubled l.0) ++ (0x60 ∷ rest)) (sym (doubled_other x t)) ∙ ap (λ (n : List ℕ). flat_map doubled n ++ (0x60 ∷ rest)) (sym l.2)

true_turn : (x : ℕ) (xs : List ℕ) → Ticked false xs → (eqb x 0x60 ≡ true) ⊎ (eqb x 0x60 ≡ false) → Ticked true (x ∷ xs)
true_turn x xs goes (inl t) name rest e =
    let l = led_took x (ticked_at false xs) name rest (sym (ticks_true x xs true t) ∙ e) in
    ap (λ (y : ℕ). 0x60 ∷ y ∷ xs) (tick_is x t) ∙ ap (λ (r : List ℕ). 0x60 ∷ 0x60 ∷ r) (goes l.0 rest l.1) ∙ ap (λ (d : List ℕ). (d ++ flat_map doubled l.0) ++ (0x60 ∷ rest)) (sym (doubled_tick x t)) ∙ ap (λ (n : List ℕ). flat_map doubled n ++ (0x60 ∷ rest)) (sym l.2)
true_turn x xs goes (inr t) name rest e =
    let p = some_pair [] (x ∷ xs) name rest (sym (ticks_true x xs false t) ∙ e) in
    ap (λ (r : List ℕ). 0x60 ∷ r) p.1 ∙ ap (λ (n : List ℕ). flat_map doubled n ++ (0x60 ∷ rest)) p.0

-- what is read between backticks is spelled so
pub ticked_took : (w : Bool) (bytes : List ℕ) → Ticked w bytes
ticked_took false [] = λ name rest e. absurd (no_none name rest (sym ticks_none ∙ e))
ticked_took true [] = λ name rest e.
    let p = some_pair [] [] name rest (sym ticks_ended ∙ e) in
    ap (λ (r : List ℕ). 0x60 ∷ r) p.1 ∙ ap (λ (n : List ℕ). flat_map doubled n ++ (0x60 ∷ rest)) p.0
ticked_took false (x ∷ xs) = false_turn x xs (ticked_took true xs) (ticked_took false xs) (test_case (eqb x 0x60))
ticked_took true (x ∷ xs) = true_turn x xs (ticked_took false xs) (test_case (eqb x 0x60))

stop_no_tick : (x : ℕ) → (x ≡ 0x2e) ⊎ (x ≡ 0x5b) → eqb x 0x60 ≡ false
stop_no_tick x (inl e) = grind (arith, nat_tests)
stop_no_tick x (inr e) = grind (arith, nat_tests)

tick_stops : (rest : List ℕ) → Stops rest → ticked_at false (0x60 ∷ rest) ≡ (a_name [] rest)
tick_stops [] s = ticks_false 0x60 [] true refl ∙ ticks_ended
tick_stops (x ∷ xs) s = ticks_false 0x60 (x ∷ xs) true refl ∙ ticks_true x xs false (stop_no_tick x s)

again_turn : (n : ℕ) (ns rest : List ℕ) → ticked_at false (flat_map doubled ns ++ (0x60 ∷ rest)) ≡ (a_name ns rest) → (eqb n 0x60 ≡ true) ⊎ (eqb n 0x60 ≡ false)
    → ticked_at false ((doubled n ++ flat_map doubled ns) ++ (0x60 ∷ rest)) ≡ (a_name (n ∷ ns) rest)
again_turn n ns rest goes (inl t) =
    let inner : List ℕ = flat_map doubled ns ++ (0x60 ∷ rest) in
    ap (λ (d : List ℕ). ticked_at false ((d ++ flat_map doubled ns) ++ (0x60 ∷ rest))) (doubled_tick n t)
    ∙ ticks_false 0x60 (0x60 ∷ inner) true refl ∙ ticks_true 0x60 inner true refl ∙ ap (led 0x60) goes ∙ ap (λ (y : ℕ). (a_name (y ∷ ns) rest)) (sym (tick_is n t))
again_turn n ns rest goes (inr t) =
    ap (λ (d : List ℕ). ticked_at false ((d ++ flat_map doubled ns) ++ (0x60 ∷ rest))) (doubled_other n t)
    ∙ ticks_false n (flat_map doubled ns ++ (0x60 ∷ rest)) false t ∙ ap (led n) goes

-- what is spelled between backticks is read
pub ticked_again : (name rest : List ℕ) → Stops rest → ticked_at false (flat_map doubled name ++ (0x60 ∷ rest)) ≡ (a_name name rest)
ticked_again [] rest s = tick_stops rest s
ticked_again (n ∷ ns) rest s = again_turn n ns rest (ticked_again ns rest s) (test_case (eqb n 0x60))

-- ---- without backticks

false_true : false ≡ true → ⊥
false_true e = cc

bare_is : (x : ℕ) → is_bare x ≡ true → IsBare x
bare_is x e = record {
  no_point = λ h. false_true (sym (ap is_bare h) ∙ e);
  no_opening = λ h. false_true (sym (ap is_bare h) ∙ e);
  no_closing = λ h. false_true (sym (ap is_bare h) ∙ e);
  no_backtick = λ h. false_true (sym (ap is_bare h) ∙ e);
}

differs : (x y : ℕ) → (x ≡ y → ⊥) → eqb x y ≡ false
differs x y h = grind (arith, nat_tests)

is_bare_for : (x : ℕ) → IsBare x → is_bare x ≡ true
is_bare_for x b =
    ap (λ t. cond t false (cond (eqb x 0x5b) false (cond (eqb x 0x5d) false (cond (eqb x 0x60) false true)))) (differs x 0x2e b.no_point)
    ∙ ap (λ t. cond t false (cond (eqb x 0x5d) false (cond (eqb x 0x60) false true))) (differs x 0x5b b.no_opening)
    ∙ ap (λ t. cond t false (cond (eqb x 0x60) false true)) (differs x 0x5d b.no_closing)
    ∙ ap (λ t. cond t false true) (differs x 0x60 b.no_backtick)

bare_more : (x : ℕ) (xs : List ℕ) (b : Bool) → is_bare x ≡ b → bare_length (x ∷ xs) ≡ cond b (suc (bare_length xs)) 0
unfolding bare_length
bare_more x xs b e = ap (λ b. cond b (suc (bare_length xs)) 0) e

bare_none : bare_length [] ≡ 0
unfolding bare_length
bare_none = refl

front_turn : (x : ℕ) (xs : List ℕ) → AllByRecursion IsBare (take (bare_length xs) xs) → (is_bare x ≡ true) ⊎ (is_bare x ≡ false) → AllByRecursion IsBare (take (bare_length (x ∷ xs)) (x ∷ xs))
front_turn x xs front (inl t) = subst (λ (n : ℕ). AllByRecursion IsBare (take n (x ∷ xs))) (sym (bare_more x xs true t)) (bare_is x t, front)
front_turn x xs front (inr t) = subst (λ (n : ℕ). AllByRecursion IsBare (take n (x ∷ xs))) (sym (bare_more x xs false t)) tt

bare_front : (bytes : List ℕ) → AllByRecursion IsBare (take (bare_length bytes) bytes)
bare_front [] = subst (λ (n : ℕ). AllByRecursion IsBare (take n [])) (sym bare_none) tt
bare_front (x ∷ xs) = front_turn x xs (bare_front xs) (test_case (is_bare x))

stop_no_bare : (x : ℕ) → (x ≡ 0x2e) ⊎ (x ≡ 0x5b) → is_bare x ≡ false
stop_no_bare x (inl e) = ap is_bare e
stop_no_bare x (inr e) = ap is_bare e

bare_whole : (name rest : List ℕ) → AllByRecursion IsBare name → Stops rest → bare_length (name ++ rest) ≡ length name
bare_whole [] [] b s = bare_none
bare_whole [] (x ∷ xs) b s = bare_more x xs false (stop_no_bare x s)
bare_whole (n ∷ ns) rest b s = bare_more n (ns ++ rest) true (is_bare_for n b.0) ∙ ap suc (bare_whole ns rest b.1 s)

take_some : (n : ℕ) (bytes : List ℕ) → eqb n 0 ≡ false → n ≤ length bytes → take n bytes ≡ [] → ⊥
take_some zero bytes e h t = cc
take_some (suc n) [] e h t = omega arith
take_some (suc n) (x ∷ xs) e h t = cc

within_turn : (x : ℕ) (xs : List ℕ) → bare_length xs ≤ length xs → (is_bare x ≡ true) ⊎ (is_bare x ≡ false) → bare_length (x ∷ xs) ≤ length (x ∷ xs)
within_turn x xs h (inl t) = omega (arith, bare_more x xs true t)
within_turn x xs h (inr t) = omega (arith, bare_more x xs false t)

bare_within : (bytes : List ℕ) → bare_length bytes ≤ length bytes
bare_within [] = omega (arith, bare_none)
bare_within (x ∷ xs) = within_turn x xs (bare_within xs) (test_case (is_bare x))

-- a name that was read, and what is behind it
pub record Named (bytes name rest : List ℕ) : Type 0 where
  pub spelled : List ℕ
  pub is : IsComponent name spelled
  pub whole : bytes ≡ spelled ++ rest

bare_took : (bytes name rest : List ℕ) → bare_at bytes ≡ (a_name name rest) → Named bytes name rest
bare_took bytes name rest e = by_test (test_case (eqb (bare_length bytes) 0))
  where
    by_test : (eqb (bare_length bytes) 0 ≡ true) ⊎ (eqb (bare_length bytes) 0 ≡ false) → Named bytes name rest
    by_test (inl t) = absurd (no_none name rest (sym (ap (λ b. cond b None ((a_name (take (bare_length bytes) bytes) (drop (bare_length bytes) bytes)))) t) ∙ e))
    by_test (inr t) =
        let n : ℕ = bare_length bytes in
        let p = some_pair (take n bytes) (drop n bytes) name rest (sym (ap (λ b. cond b None ((a_name (take n bytes) (drop n bytes)))) t) ∙ e) in
        subst (λ (m : List ℕ). Named bytes m rest) p.0 (record {
          spelled = take n bytes;
          is = inl (λ h. take_some n bytes t (bare_within bytes) h, bare_front bytes, refl);
          whole = sym (take-append-drop n bytes) ∙ ap (λ (r : List ℕ). take n bytes ++ r) p.1;
        })

-- a name that is read is spelled so
pub name_took : (bytes name rest : List ℕ) → name_at bytes ≡ (a_name name rest) → Named bytes name rest
name_took [] name rest e = absurd (no_none name rest e)
name_took (x ∷ xs) name rest e = by_test (test_case (eqb x 0x60))
  where
    by_test : (eqb x 0x60 ≡ true) ⊎ (eqb x 0x60 ≡ false) → Named (x ∷ xs) name rest
    by_test (inl t) =
        let h = ticked_took false xs name rest (sym (ap (λ b. cond b (ticked_at false xs) (bare_at (x ∷ xs))) t) ∙ e) in
        record {
          spelled = ticked name;
          is = inr refl;
          whole = ap (λ (y : ℕ). y ∷ xs) (tick_is x t) ∙ ap (λ (l : List ℕ). 0x60 ∷ l) (h ∙ sym (append_assoc (flat_map doubled name) (0x60 ∷ []) rest));
        }
    by_test (inr t) = bare_took (x ∷ xs) name rest (sym (ap (λ b. cond b (ticked_at false xs) (bare_at (x ∷ xs))) t) ∙ e)

bare_some : (bytes : List ℕ) (k : ℕ) (front behind : List ℕ) → bare_length bytes ≡ k → eqb k 0 ≡ false → take k bytes ≡ front → drop k bytes ≡ behind → bare_at bytes ≡ a_name front behind
bare_some bytes k front behind l some f b =
    ap (λ (k : ℕ). cond (eqb k 0) None (a_name (take k bytes) (drop k bytes))) l
    ∙ ap (λ t. cond t None (a_name (take k bytes) (drop k bytes))) some
    ∙ ap (λ (m : List ℕ). a_name m (drop k bytes)) f
    ∙ ap (λ (m : List ℕ). a_name front m) b

long : (n : ℕ) (ns : List ℕ) → eqb (length (n ∷ ns)) 0 ≡ false
long n ns = grind (arith, nat_tests)

bare_again : (name rest : List ℕ) → (name ≡ [] → ⊥) → AllByRecursion IsBare name → Stops rest → name_at (name ++ rest) ≡ (a_name name rest)
bare_again [] rest some b s = absurd (some refl)
bare_again (n ∷ ns) rest some b s =
    let bytes : List ℕ = n ∷ (ns ++ rest) in
    let l : bare_length bytes ≡ length (n ∷ ns) = bare_whole (n ∷ ns) rest b s in
    let front : take (length (n ∷ ns)) bytes ≡ n ∷ ns = take_at (n ∷ ns) rest (length (n ∷ ns)) refl in
    let behind : drop (length (n ∷ ns)) bytes ≡ rest = drop_at (n ∷ ns) rest (length (n ∷ ns)) refl in
    ap (λ t. cond t (ticked_at false (ns ++ rest)) (bare_at bytes)) (differs n 0x60 b.0.no_backtick) ∙ bare_some bytes (length (n ∷ ns)) (n ∷ ns) rest l (long n ns) front behind

-- a name that is spelled is read
pub name_again : (name spelled rest : List ℕ) → IsComponent name spelled → Stops rest → name_at (spelled ++ rest) ≡ (a_name name rest)
name_again name spelled rest (inl (some, b, e)) s = ap (λ (l : List ℕ). name_at (l ++ rest)) e ∙ bare_again name rest some b s
name_again name spelled rest (inr e) s =
    ap (λ (l : List ℕ). name_at (l ++ rest)) e ∙ ap (λ (l : List ℕ). ticked_at false l) (append_assoc (flat_map doubled name) (0x60 ∷ []) rest) ∙ ticked_again name rest s

-- what is spelled has a byte, which is no point and no bracket
pub begins : (name spelled : List ℕ) → IsComponent name spelled → spelled ≡ [] → ⊥
begins name spelled (inl (some, b, e)) h = some (sym e ∙ h)
begins name spelled (inr e) h = no (sym e ∙ h)
  where
    no : 0x60 ∷ (flat_map doubled name ++ 0x60 ∷ []) ≡ [] → ⊥
    no e = cc

pub no_bracket : (name spelled rest : List ℕ) (x : ℕ) (xs : List ℕ) → IsComponent name spelled → spelled ++ rest ≡ x ∷ xs → eqb x 0x5b ≡ false
no_bracket name [] rest x xs c e = absurd (begins name [] c refl)
no_bracket name (y ∷ ys) rest x xs (inl (some, b, h)) e = by_name name b h
  where
    by_name : (name : List ℕ) → AllByRecursion IsBare name → y ∷ ys ≡ name → eqb x 0x5b ≡ false
    by_name [] b h = absurd (no h)
      where
        no : y ∷ ys ≡ [] → ⊥
        no h = cc
    by_name (n ∷ ns) b h = let same : x ≡ n = cc in ap (λ (z : ℕ). eqb z 0x5b) same ∙ differs n 0x5b b.0.no_opening
no_bracket name (y ∷ ys) rest x xs (inr h) e = let same : x ≡ 0x60 = cc in ap (λ (z : ℕ). eqb z 0x5b) same
