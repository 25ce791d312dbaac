-- The names in a path are UTF-8.
use Rattle.std.proofs.Common.{◌≡◌, ℕ, zero, suc, ◌+◌, ◌/◌, ◌%◌, ◌<◌, ◌≤◌, List, [], ◌∷◌, ◌++◌, length, get_or, Bool, true, false, cond, ltb, Option, Some, None, ◌⊎◌, inl, inr, refl, sym, ap, subst, ◌∙◌, arith, append-nil, length-append}
use Rattle.std.specs.Prelude.{IsUtf8, option_map, ◌&&◌, codes}
use Rattle.std.specs.List.{flat_map, AllByRecursion}
use Rattle.std.proofs.lemmas.List.{take_at, drop_at}
use Rattle.std.proofs.lemmas.Str.{IsUtf8-append, IsUtf8-encode, IsUtf8-take, IsUtf8-drop, IsUtf8-nil, IsCharBoundary-before_ascii, IsCharBoundary-after_ascii, encode_ascii, cons_from_encodes}
use Rattle.std.proofs.lemmas.Bool.{cases_eq}
use Rattle.std.proofs.lemmas.Bool.Decides.{nat_tests}
use lib.Utf8.{scalar, scalars, encode, encodes}
use Rattle.json_model.specs.declared.asked.Part.{Part}
use Rattle.json_model.specs.declared.asked.Part.TheVariants.{Member, At, Last}
use Rattle.json_model.specs.Edit.{names_of}
use Rattle.json_model.specs.Paths.{doubled, IsComponent, IsFirst, IsFurther, AreFurther, IsPath}

-- ---- cuts at bytes of ASCII

-- nothing, or a byte of ASCII first
abbrev BeginsAscii : List ℕ → Type 0
BeginsAscii bytes = (bytes ≡ []) ⊎ ((x : ℕ) × (xs : List ℕ) × (bytes ≡ x ∷ xs) × (x < 128))

at_front : (a : List ℕ) (x : ℕ) (xs : List ℕ) → get_or (a ++ x ∷ xs) (length a) 0 ≡ x
at_front [] x xs = refl
at_front (y ∷ a) x xs = at_front a x xs

-- UTF-8 parted before a byte of ASCII
parted : (a b : List ℕ) → IsUtf8 (a ++ b) → BeginsAscii b → IsUtf8 a × IsUtf8 b
parted a b u (inl e) =
    let whole : a ++ b ≡ a = ap (λ (l : List ℕ). a ++ l) e ∙ append-nil a in
    (subst (λ (l : List ℕ). IsUtf8 l) whole u, subst (λ (l : List ℕ). IsUtf8 l) (sym e) IsUtf8-nil)
parted a b u (inr (x, xs, e, low)) =
    let at : get_or (a ++ b) (length a) 0 ≡ x = ap (λ (l : List ℕ). get_or (a ++ l) (length a) 0) e ∙ at_front a x xs in
    let long : length a < length (a ++ b) = omega (arith, length-append a b, ap (λ (l : List ℕ). length l) e) in
    let cut = IsCharBoundary-before_ascii (a ++ b) (length a) long (omega (arith, at, low)) in (
      subst (λ (l : List ℕ). IsUtf8 l) (take_at a b (length a) refl) (IsUtf8-take (a ++ b) (length a) u cut),
      subst (λ (l : List ℕ). IsUtf8 l) (drop_at a b (length a) refl) (IsUtf8-drop (a ++ b) (length a) u cut),
    )

behind_ascii : (x : ℕ) (xs : List ℕ) → IsUtf8 (x ∷ xs) → x < 128 → IsUtf8 xs
behind_ascii x xs u low = IsUtf8-drop (x ∷ xs) 1 u (IsCharBoundary-after_ascii (x ∷ xs) 0 u (omega arith) low)

-- ---- a name between backticks

no_tick : (x : ℕ) → (x ≡ 0x60 → ⊥) → doubled x ≡ x ∷ []
no_tick x h = grind (arith, nat_tests)

a_tick : (x : ℕ) → x ≡ 0x60 → doubled x ≡ 0x60 ∷ 0x60 ∷ []
a_tick x e = ap doubled e

heads : (a b : ℕ) (xs ys : List ℕ) → a ∷ xs ≡ b ∷ ys → (a ≡ b) × (xs ≡ ys)
heads a b xs ys e = (cc, cc)

-- a byte is first in its own spelling
first_byte : (x b : ℕ) (r rest : List ℕ) → b ∷ rest ≡ doubled x ++ r → b ≡ x
first_byte x b r rest e = elim (cases_eq x 0x60) [
  | inl tick ↦ (heads b 0x60 rest (0x60 ∷ r) (e ∙ ap (λ (l : List ℕ). l ++ r) (a_tick x tick))).0 ∙ sym tick
  | inr other ↦ (heads b x rest r (e ∙ ap (λ (l : List ℕ). l ++ r) (no_tick x other))).0
]

-- bytes other than a backtick are written as they are
strip : (bytes rest name : List ℕ) → AllByRecursion (λ x. x ≡ 0x60 → ⊥) bytes → bytes ++ rest ≡ flat_map doubled name → (xs : List ℕ) × (name ≡ bytes ++ xs) × (rest ≡ flat_map doubled xs)
strip [] rest name others e = (name, refl, e)
strip (b ∷ bytes) rest [] others e = cc
strip (b ∷ bytes) rest (x ∷ name) others e =
    let same : b ≡ x = first_byte x b (flat_map doubled name) (bytes ++ rest) e in
    let alone = heads b x (bytes ++ rest) (flat_map doubled name) (e ∙ ap (λ (l : List ℕ). l ++ flat_map doubled name) (no_tick x (λ tick. others.0 (same ∙ tick)))) in
    let s = strip bytes rest name others.1 alone.1 in
    (s.0, ap (λ (y : ℕ). y ∷ name) (sym same) ∙ ap (λ (l : List ℕ). b ∷ l) s.1, s.2)

-- a character other than a backtick has no byte that is one
no_tick_in : (c : ℕ) → (c ≡ 0x60 → ⊥) → AllByRecursion (λ x. x ≡ 0x60 → ⊥) (encode c)
unfolding encode
no_tick_in c other = rows (ltb c 128) (ltb c 2048) (ltb c 65536)
  where
    high : (n : ℕ) → 128 ≤ n → n ≡ 0x60 → ⊥
    high n h e = absurd (omega (arith, h, e))

    rows : (a b d : Bool) → AllByRecursion (λ x. x ≡ 0x60 → ⊥) (cond a (c ∷ []) (cond b ((192 + c / 64) ∷ (128 + c % 64) ∷ []) (cond d ((224 + c / 4096) ∷ (128 + c / 64 % 64) ∷ (128 + c % 64) ∷ []) ((240 + c / 262144) ∷ (128 + c / 4096 % 64) ∷ (128 + c / 64 % 64) ∷ (128 + c % 64) ∷ []))))
    rows true b d = (other, tt)
    rows false true d = (high (192 + c / 64) (omega arith), (high (128 + c % 64) (omega arith), tt))
    rows false false true = (high (224 + c / 4096) (omega arith), (high (128 + c / 64 % 64) (omega arith), (high (128 + c % 64) (omega arith), tt)))
    rows false false false = (high (240 + c / 262144) (omega arith), (high (128 + c / 4096 % 64) (omega arith), (high (128 + c / 64 % 64) (omega arith), (high (128 + c % 64) (omega arith), tt))))

both : (a b : Bool) → (a && b) ≡ true → (a ≡ true) × (b ≡ true)
both true b e = (refl, e)
both false b e = cc

-- a backtick is written twice
ticks : (name rest : List ℕ) → 0x60 ∷ rest ≡ flat_map doubled name → (xs : List ℕ) × (name ≡ 0x60 ∷ xs) × (rest ≡ 0x60 ∷ flat_map doubled xs)
ticks [] rest e = cc
ticks (x ∷ xs) rest e =
    let same : 0x60 ≡ x = first_byte x 0x60 (flat_map doubled xs) rest e in
    (xs, ap (λ (y : ℕ). y ∷ xs) (sym same), (heads 0x60 0x60 rest (0x60 ∷ flat_map doubled xs) (e ∙ ap (λ (l : List ℕ). l ++ flat_map doubled xs) (a_tick x (sym same)))).1)

tick_encoded : encode 0x60 ≡ 0x60 ∷ []
tick_encoded = encode_ascii 0x60 (omega arith)

-- the characters of a name's spelling, at most so many, are those of a name
undoubled : (most : ℕ) (cs name : List ℕ) → length cs ≤ most → scalars cs ≡ true → encodes cs ≡ flat_map doubled name → IsUtf8 name
undoubled most [] [] few are e = IsUtf8-nil
undoubled most [] (x ∷ name) few are e = absurd (longer x (flat_map doubled name) e)
  where
    nothing : (x : ℕ) (l : List ℕ) → [] ≡ x ∷ l → ⊥
    nothing x l e = cc

    longer : (x : ℕ) (r : List ℕ) → [] ≡ doubled x ++ r → ⊥
    longer x r e = elim (cases_eq x 0x60) [
      | inl tick ↦ nothing 0x60 (0x60 ∷ r) (e ∙ ap (λ (l : List ℕ). l ++ r) (a_tick x tick))
      | inr other ↦ nothing x r (e ∙ ap (λ (l : List ℕ). l ++ r) (no_tick x other))
    ]
undoubled zero (c ∷ cs) name few are e = absurd (omega (arith, few))
undoubled (suc most) (c ∷ cs) name few are e = elim (cases_eq c 0x60) [
  | inl tick ↦ (let start : encode c ≡ 0x60 ∷ [] = ap encode tick ∙ tick_encoded in
      let t = ticks name (encodes cs) (ap (λ (l : List ℕ). l ++ encodes cs) (sym start) ∙ e) in
      let next = cons_from_encodes cs (flat_map doubled t.0) 0x60 (t.2 ∙ ap (λ (l : List ℕ). l ++ flat_map doubled t.0) (sym tick_encoded)) in
      let inner : IsUtf8 t.0 = undoubled most next.0 t.0 (omega (arith, few, ap (λ (l : List ℕ). length l) next.1)) (ap (λ (l : List ℕ). scalars l) (sym next.1) ∙ (both (scalar c) (scalars cs) are).1) next.2 in
      subst (λ (l : List ℕ). IsUtf8 l) (sym (t.1 ∙ ap (λ (l : List ℕ). l ++ t.0) (sym start))) (IsUtf8-append (encode c) t.0 (IsUtf8-encode c (both (scalar c) (scalars cs) are).0) inner))
  | inr other ↦ (let s = strip (encode c) (encodes cs) name (no_tick_in c other) e in
      let inner : IsUtf8 s.0 = undoubled most cs s.0 (omega (arith, few)) (both (scalar c) (scalars cs) are).1 s.2 in
      subst (λ (l : List ℕ). IsUtf8 l) (sym s.1) (IsUtf8-append (encode c) s.0 (IsUtf8-encode c (both (scalar c) (scalars cs) are).0) inner))
]

undoubled_name : (name : List ℕ) → IsUtf8 (flat_map doubled name) → IsUtf8 name
undoubled_name name u = undoubled (length u.0) u.0 name (omega arith) u.1.0 u.1.1

-- ---- the parts of a path

component_utf8 : (name bytes : List ℕ) → IsComponent name bytes → IsUtf8 bytes → IsUtf8 name
component_utf8 name bytes (inl h) u = subst (λ (l : List ℕ). IsUtf8 l) h.2 u
component_utf8 name bytes (inr h) u =
    let inner : IsUtf8 (flat_map doubled name ++ 0x60 ∷ []) = behind_ascii 0x60 (flat_map doubled name ++ 0x60 ∷ []) (subst (λ (l : List ℕ). IsUtf8 l) h u) (omega arith) in
    undoubled_name name (parted (flat_map doubled name) (0x60 ∷ []) inner (inr (0x60, [], refl, omega arith))).0

-- a part that is a name is one in UTF-8
abbrev pub IsUtf8Part : Part → Type 0
IsUtf8Part (Member name) = IsUtf8 name
IsUtf8Part (At n) = Unit {0}
IsUtf8Part Last = Unit {0}

first_utf8 : (p : Part) (bytes : List ℕ) → IsFirst p bytes → IsUtf8 bytes → IsUtf8Part p
first_utf8 (Member name) bytes h u = component_utf8 name bytes h u
first_utf8 (At n) bytes h u = tt
first_utf8 Last bytes h u = tt

further_utf8 : (p : Part) (bytes : List ℕ) → IsFurther p bytes → IsUtf8 bytes → IsUtf8Part p
further_utf8 (Member name) bytes (spelled, is, e) u = component_utf8 name spelled is (behind_ascii 0x2e spelled (subst (λ (l : List ℕ). IsUtf8 l) e u) (omega arith))
further_utf8 (At n) bytes h u = tt
further_utf8 Last bytes h u = tt

further_begins : (p : Part) (first rest : List ℕ) → IsFurther p first → BeginsAscii (first ++ rest)
further_begins (Member name) first rest (spelled, is, e) = inr (0x2e, spelled ++ rest, ap (λ (l : List ℕ). l ++ rest) e, omega arith)
further_begins (At n) first rest h = inr (0x5b, (h.0 ++ 0x5d ∷ []) ++ rest, ap (λ (l : List ℕ). l ++ rest) h.4, omega arith)
further_begins Last first rest h = inr (0x5b, codes "-1]" ++ rest, ap (λ (l : List ℕ). l ++ rest) h, omega arith)

more_begin : (ps : List Part) (bytes : List ℕ) → AreFurther ps bytes → BeginsAscii bytes
more_begin [] bytes h = inl h
more_begin (p ∷ ps) bytes (first, rest, is, more, e) = subst (λ (l : List ℕ). BeginsAscii l) (sym e) (further_begins p first rest is)

more_utf8 : (ps : List Part) (bytes : List ℕ) → AreFurther ps bytes → IsUtf8 bytes → AllByRecursion IsUtf8Part ps
more_utf8 [] bytes h u = tt
more_utf8 (p ∷ ps) bytes (first, rest, is, more, e) u =
    let cut = parted first rest (subst (λ (l : List ℕ). IsUtf8 l) e u) (more_begin ps rest more) in
    (further_utf8 p first is cut.0, more_utf8 ps rest more cut.1)

-- each name of a path is UTF-8
pub path_utf8 : (ps : List Part) (bytes : List ℕ) → IsPath ps bytes → AllByRecursion IsUtf8Part ps
path_utf8 [] bytes is = tt
path_utf8 (p ∷ ps) bytes is =
    let s = is.spelled in
    let cut = parted s.0 s.1 (subst (λ (l : List ℕ). IsUtf8 l) s.4 is.utf8) (more_begin ps s.1 s.3) in
    (first_utf8 p s.0 s.2 cut.0, more_utf8 ps s.1 s.3 cut.1)

-- names of parts in UTF-8
pub names_utf8 : (ps : List Part) (names : List (List ℕ)) → AllByRecursion IsUtf8Part ps → names_of ps ≡ Some names → AllByRecursion IsUtf8 names
names_utf8 [] names u e = let n : names ≡ [] = cc in subst (λ (l : List (List ℕ)). AllByRecursion IsUtf8 l) (sym n) tt
names_utf8 (Member name ∷ ps) names u e = named name names (names_of ps) e u.0 (λ l more. names_utf8 ps l u.1 more)
  where
    named : (name : List ℕ) (names : List (List ℕ)) (o : Option (List (List ℕ))) → option_map (λ l. name ∷ l) o ≡ Some names → IsUtf8 name → ((l : List (List ℕ)) → o ≡ Some l → AllByRecursion IsUtf8 l) → AllByRecursion IsUtf8 names
    named name names None e u more = cc
    named name names (Some l) e u more = let n : name ∷ l ≡ names = cc in subst (λ (m : List (List ℕ)). AllByRecursion IsUtf8 m) n (u, more l refl)
names_utf8 (At n ∷ ps) names u e = cc
names_utf8 (Last ∷ ps) names u e = cc
