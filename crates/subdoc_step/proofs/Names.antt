-- The names in a path are UTF-8.
use Rattle.std.proofs.Common.{◌≡◌, ℕ, zero, suc, ◌+◌, ◌<◌, List, [], ◌∷◌, ◌++◌, length, get_or, drop, Bool, true, false, cond, eqb, ◌⊎◌, inl, inr, refl, sym, ap, subst, ◌∙◌, arith, append_assoc, length-append}
use Rattle.std.specs.Prelude.{IsUtf8}
use Rattle.std.specs.List.{flat_map}
use Rattle.std.proofs.lemmas.Bool.Decides.{nat_tests}
use Rattle.std.proofs.lemmas.List.{take_at, drop_at}
use Rattle.std.proofs.lemmas.Str.{IsUtf8-append, IsUtf8-take, IsUtf8-drop, IsUtf8-from_ascii, IsUtf8-nil, IsCharBoundary-before_ascii, IsCharBoundary-after_ascii}
use Rattle.json_model.specs.declared.asked.Part.{Part}
use Rattle.json_model.specs.declared.asked.Part.TheVariants.{Member, At, Last}
use Rattle.json_model.specs.Paths.{doubled, IsComponent, IsFirst, IsFurther, AreFurther, Spells, IsPath}
use Rattle.subdoc_path.proofs.Names.{Stops}
use Rattle.subdoc_path.proofs.Spelling.{parts_stop}

-- ---- text is cut at a byte of ASCII

get_middle : (front : List ℕ) (x : ℕ) (rest : List ℕ) → get_or (front ++ x ∷ rest) (length front) 0 ≡ x
get_middle [] x rest = refl
get_middle (y ∷ front) x rest = get_middle front x rest

-- what stands before and behind a byte of ASCII
record Cut (front rest : List ℕ) : Type 0 where
  before : IsUtf8 front
  behind : IsUtf8 rest

cut_at : (front : List ℕ) (x : ℕ) (rest : List ℕ) → x < 128 → IsUtf8 (front ++ x ∷ rest) → Cut front rest
cut_at front x rest small utf8 =
    let bytes : List ℕ = front ++ x ∷ rest in
    let within : length front < length bytes = omega (arith, length-append front (x ∷ rest)) in
    let ascii : get_or bytes (length front) 0 < 128 = omega (arith, get_middle front x rest, small) in
    let split : bytes ≡ (front ++ x ∷ []) ++ rest = sym (append_assoc front (x ∷ []) rest) in
    let one_more : length front + 1 ≡ length (front ++ x ∷ []) = omega (arith, length-append front (x ∷ [])) in
    record {
      before = subst (λ (l : List ℕ). IsUtf8 l) (take_at front (x ∷ rest) (length front) refl) (IsUtf8-take bytes (length front) utf8 (IsCharBoundary-before_ascii bytes (length front) within ascii));
      behind = subst (λ (l : List ℕ). IsUtf8 l) (ap (drop (length front + 1)) split ∙ drop_at (front ++ x ∷ []) rest (length front + 1) (sym one_more))
          (IsUtf8-drop bytes (length front + 1) utf8 (IsCharBoundary-after_ascii bytes (length front) utf8 within ascii));
    }

ascii_one : (x : ℕ) → x < 128 → IsUtf8 (x ∷ [])
ascii_one x small = IsUtf8-from_ascii (x ∷ []) (λ k. by_place k)
  where
    by_place : (k : ℕ) → get_or (x ∷ []) k 0 < 128
    by_place zero = small
    by_place (suc k) = omega arith

led_utf8 : (x : ℕ) (s : List ℕ) → x < 128 → IsUtf8 s → IsUtf8 (x ∷ s)
led_utf8 x s small utf8 = IsUtf8-append (x ∷ []) s (ascii_one x small) utf8

-- ---- a name

doubled_case : (b : Bool) (x : ℕ) (more : List ℕ) → b ≡ true → cond b (0x60 ∷ 0x60 ∷ []) (x ∷ []) ++ more ≡ 0x60 ∷ 0x60 ∷ more
doubled_case true x more e = refl
doubled_case false x more e = cc

single_case : (b : Bool) (x : ℕ) (more : List ℕ) → b ≡ false → cond b (0x60 ∷ 0x60 ∷ []) (x ∷ []) ++ more ≡ x ∷ more
single_case true x more e = cc
single_case false x more e = refl

tick_is : (x : ℕ) → eqb x 0x60 ≡ true → x ≡ 0x60
tick_is x e = grind (arith, nat_tests)

-- a name, behind other bytes, is UTF-8 where it is with its backticks doubled
abbrev Undoubled : List ℕ → Type 0
Undoubled name = (front : List ℕ) → IsUtf8 (front ++ flat_map doubled name) → IsUtf8 (front ++ name)

tick_undoubled : (name front : List ℕ) → Undoubled name → IsUtf8 (front ++ 0x60 ∷ 0x60 ∷ flat_map doubled name) → IsUtf8 (front ++ 0x60 ∷ name)
tick_undoubled name front law utf8 =
    let outer = cut_at front 0x60 (0x60 ∷ flat_map doubled name) (omega arith) utf8 in
    let inner = cut_at [] 0x60 (flat_map doubled name) (omega arith) outer.behind in
    IsUtf8-append front (0x60 ∷ name) outer.before (led_utf8 0x60 name (omega arith) (law [] inner.behind))

other_undoubled : (x : ℕ) (name front : List ℕ) → Undoubled name → IsUtf8 (front ++ x ∷ flat_map doubled name) → IsUtf8 (front ++ x ∷ name)
other_undoubled x name front law utf8 =
    subst (λ (l : List ℕ). IsUtf8 l) (append_assoc front (x ∷ []) name)
    (law (front ++ x ∷ []) (subst (λ (l : List ℕ). IsUtf8 l) (sym (append_assoc front (x ∷ []) (flat_map doubled name))) utf8))

one_undoubled : (x : ℕ) (name front : List ℕ) (b : Bool) → eqb x 0x60 ≡ b → Undoubled name → IsUtf8 (front ++ flat_map doubled (x ∷ name)) → IsUtf8 (front ++ x ∷ name)
one_undoubled x name front true e law utf8 =
    subst (λ (y : ℕ). IsUtf8 (front ++ y ∷ name)) (sym (tick_is x e))
    (tick_undoubled name front law (subst (λ (l : List ℕ). IsUtf8 (front ++ l)) (doubled_case (eqb x 0x60) x (flat_map doubled name) e) utf8))
one_undoubled x name front false e law utf8 =
    other_undoubled x name front law (subst (λ (l : List ℕ). IsUtf8 (front ++ l)) (single_case (eqb x 0x60) x (flat_map doubled name) e) utf8)

undoubled : (name : List ℕ) → Undoubled name
undoubled [] front utf8 = utf8
undoubled (x ∷ name) front utf8 = one_undoubled x name front (eqb x 0x60) refl (λ left u. undoubled name left u) utf8

component_utf8 : (name spelled : List ℕ) → IsComponent name spelled → IsUtf8 spelled → IsUtf8 name
component_utf8 name spelled (inl (some, bare, e)) utf8 = subst (λ (l : List ℕ). IsUtf8 l) e utf8
component_utf8 name spelled (inr e) utf8 =
    let inner = cut_at [] 0x60 (flat_map doubled name ++ 0x60 ∷ []) (omega arith) (subst (λ (l : List ℕ). IsUtf8 l) e utf8) in
    undoubled name [] (cut_at (flat_map doubled name) 0x60 [] (omega arith) inner.behind).before

-- ---- a path

-- the names of these parts are UTF-8
abbrev pub NamesUtf8 : List Part → Type 0
NamesUtf8 [] = Unit {0}
NamesUtf8 (Member name ∷ ps) = IsUtf8 name × NamesUtf8 ps
NamesUtf8 (At n ∷ ps) = NamesUtf8 ps
NamesUtf8 (Last ∷ ps) = NamesUtf8 ps

-- text is cut where a part ends
stop_cut : (front rest : List ℕ) → Stops rest → IsUtf8 (front ++ rest) → Cut front rest
stop_cut front [] stops utf8 = record { before = subst (λ (l : List ℕ). IsUtf8 l) (append_none front) utf8; behind = IsUtf8-nil }
  where
    append_none : (l : List ℕ) → l ++ [] ≡ l
    append_none [] = refl
    append_none (x ∷ l) = ap (λ (m : List ℕ). x ∷ m) (append_none l)
stop_cut front (x ∷ rest) stops utf8 =
    let small = ascii x stops in
    let c = cut_at front x rest small utf8 in
    record { before = c.before; behind = led_utf8 x rest small c.behind }
  where
    ascii : (x : ℕ) → (x ≡ 0x2e) ⊎ (x ≡ 0x5b) → x < 128
    ascii x (inl e) = omega (arith, e)
    ascii x (inr e) = omega (arith, e)

further_name : (name bytes : List ℕ) → IsFurther (Member name) bytes → IsUtf8 bytes → IsUtf8 name
further_name name bytes (spelled, is, e) utf8 = component_utf8 name spelled is (cut_at [] 0x2e spelled (omega arith) (subst (λ (l : List ℕ). IsUtf8 l) e utf8)).behind

with_further : (p : Part) (ps : List Part) (bytes : List ℕ) → IsFurther p bytes → IsUtf8 bytes → NamesUtf8 ps → NamesUtf8 (p ∷ ps)
with_further (Member name) ps bytes is utf8 names = (further_name name bytes is utf8, names)
with_further (At n) ps bytes is utf8 names = names
with_further Last ps bytes is utf8 names = names

with_first : (p : Part) (ps : List Part) (bytes : List ℕ) → IsFirst p bytes → IsUtf8 bytes → NamesUtf8 ps → NamesUtf8 (p ∷ ps)
with_first (Member name) ps bytes is utf8 names = (component_utf8 name bytes is utf8, names)
with_first (At n) ps bytes is utf8 names = names
with_first Last ps bytes is utf8 names = names

further_names : (ps : List Part) (bytes : List ℕ) → AreFurther ps bytes → IsUtf8 bytes → NamesUtf8 ps
further_names [] bytes are utf8 = tt
further_names (p ∷ ps) bytes (spelled, rest, is, are, e) utf8 =
    let c = stop_cut spelled rest (parts_stop ps rest are) (subst (λ (l : List ℕ). IsUtf8 l) e utf8) in
    with_further p ps spelled is c.before (further_names ps rest are c.behind)

spelled_names : (ps : List Part) (bytes : List ℕ) → Spells ps bytes → IsUtf8 bytes → NamesUtf8 ps
spelled_names [] bytes are utf8 = tt
spelled_names (p ∷ ps) bytes (spelled, rest, is, are, e) utf8 =
    let c = stop_cut spelled rest (parts_stop ps rest are) (subst (λ (l : List ℕ). IsUtf8 l) e utf8) in
    with_first p ps spelled is c.before (further_names ps rest are c.behind)

-- the names in a path are UTF-8
pub path_names : (ps : List Part) (bytes : List ℕ) → IsPath ps bytes → NamesUtf8 ps
path_names ps bytes is = spelled_names ps bytes is.spelled is.utf8
