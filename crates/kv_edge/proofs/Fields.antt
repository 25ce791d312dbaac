-- A field that is read is the field that was written, and what was written is read again.
use Rattle.std.proofs.Common.{◌≡◌, ℕ, suc, ◌+◌, ◌^◌, ◌<◌, ◌≤◌, Bool, true, false, cond, ltb, List, [], ◌∷◌, ◌++◌, length, take, drop, Option, Some, None, refl, sym, ap, subst, ◌∙◌, append_assoc, arith, inl, inr, ◌⊎◌}
use Rattle.std.specs.Int.{Width, w16, w32, w64, byte_len, from_be_bytes, to_be_bytes}
use Rattle.std.proofs.lemmas.Bool.{cases_lt, ltb-true, ltb-false, le-ltb}
use Rattle.std.proofs.lemmas.List.{take_at, drop_at, take-append-drop, length-append, length-take, length-drop, get_or-drop, get_or-take, get_or_past}
use Rattle.std.proofs.lemmas.Nat.{be_bytes_2, be_bytes_4, be_bytes_8, from_be_bytes-to_be_bytes_2, from_be_bytes-to_be_bytes_4, from_be_bytes-to_be_bytes_8}
use Rattle.std.proofs.lemmas.Option.{none-some}
use Rattle.kv_edge.specs.Fields.{◌>>=◌, IsBytes, byte_at, number_at, bytes_at, three_at}

pub IsBytes-drop : (n : ℕ) (bytes : List ℕ) → IsBytes bytes → IsBytes (drop n bytes)
IsBytes-drop n bytes h i = rw get_or-drop (h (n + i))

pub IsBytes-take : (n : ℕ) (bytes : List ℕ) → IsBytes bytes → IsBytes (take n bytes)
IsBytes-take n bytes h i =
    elim (cases_lt i n) [
      | inl lt ↦ rw (get_or-take n bytes i 0 lt) (h i)
      | inr le ↦ rw (get_or_past (take n bytes) i 0 (omega (arith, length-take n bytes))) (omega arith)
    ]

-- the value of a step that read something
pub bind_some : {A B : Type 0} (r : Option A) (f : A → Option B) (y : B) → (r >>= f) ≡ Some y → (x : A) × (r ≡ Some x) × (f x ≡ Some y)
bind_some (Some x) f y e = (x, refl, e)
bind_some None f y e = absurd cc

-- a test that let the reading go on
pub guard_some : {A : Type 0} (b : Bool) (x y : A) → cond b None (Some x) ≡ Some y → (b ≡ false) × (x ≡ y)
guard_some true x y e = absurd cc
guard_some false x y e = (refl, cc)

-- a test that ended the reading
pub guard_none : {A : Type 0} (b : Bool) (x : A) → cond b None (Some x) ≡ None → b ≡ true
guard_none true x e = refl
guard_none false x e = absurd cc

abbrev given : {A : Type 0} → A → Option A
given x = Some x

pub some_is : {A : Type 0} (x y : A) → given x ≡ given y → x ≡ y
some_is x y e = cc

-- what a reading took from the front: this text, and the rest stands behind it
pub record Takes (bytes text rest : List ℕ) : Type 0 where
  pub parts : bytes ≡ text ++ rest
  pub rest_fits : IsBytes rest

pub Takes-then : (a x b y c : List ℕ) → Takes a x b → Takes b y c → Takes a (x ++ y) c
Takes-then a x b y c p q = record { parts = p.parts ∙ ap (λ (t : List ℕ). x ++ t) q.parts ∙ sym (append_assoc x y c); rest_fits = q.rest_fits }

-- ---- a byte

pub byte_takes : (bytes : List ℕ) (b : ℕ) (rest : List ℕ) → IsBytes bytes → byte_at bytes ≡ Some (b, rest) → Takes bytes (b ∷ []) rest × (b < 2 ^ 8)
byte_takes [] b rest fits e = absurd cc
byte_takes (x ∷ bytes) b rest fits e =
    subst (λ (p : ℕ × List ℕ). Takes (x ∷ bytes) (p.0 ∷ []) p.1 × (p.0 < 2 ^ 8)) (some_is (x, bytes) (b, rest) e) (record { parts = refl; rest_fits = λ i. fits (suc i) }, omega (arith, fits 0))

pub byte_again : (b : ℕ) (rest : List ℕ) → byte_at (b ∷ rest) ≡ Some (b, rest)
byte_again b rest = refl

byte_short : (bytes : List ℕ) → byte_at bytes ≡ None → length bytes < 1
byte_short [] e = omega arith
byte_short (x ∷ bytes) e = absurd cc

byte_whole : (bytes : List ℕ) (b : ℕ) (rest : List ℕ) → byte_at bytes ≡ Some (b, rest) → 1 + length rest ≡ length bytes
byte_whole [] b rest e = absurd cc
byte_whole (x ∷ bytes) b rest e = omega (arith, ap (λ (p : ℕ × List ℕ). length p.1) (some_is (x, bytes) (b, rest) e))

-- ---- numbers

-- how many bytes a width has, and that reading and spelling undo each other
pub record IsWide (w : Width) (limit : ℕ) : Type 0 where
  pub len : (n : ℕ) → length (to_be_bytes w n) ≡ byte_len w
  pub back : (bytes : List ℕ) → length bytes ≡ byte_len w → IsBytes bytes → to_be_bytes w (from_be_bytes w bytes) ≡ bytes
  pub again : (n : ℕ) → n < limit → from_be_bytes w (to_be_bytes w n) ≡ n
  pub below : (bytes : List ℕ) → IsBytes bytes → from_be_bytes w bytes < limit

pub wide16 : IsWide w16 (2 ^ 16)
wide16 = record {
  len = λ n. refl;
  back = λ bytes len fits. be_bytes_2 bytes _ len fits refl;
  again = λ n lt. from_be_bytes-to_be_bytes_2 n lt;
  below = λ bytes fits. omega (arith, fits 0, fits 1);
}

pub wide32 : IsWide w32 (2 ^ 32)
wide32 = record {
  len = λ n. refl;
  back = λ bytes len fits. be_bytes_4 bytes _ len fits refl;
  again = λ n lt. from_be_bytes-to_be_bytes_4 n lt;
  below = λ bytes fits. omega (arith, fits 0, fits 1, fits 2, fits 3);
}

pub wide64 : IsWide w64 (2 ^ 64)
wide64 = record {
  len = λ n. refl;
  back = λ bytes len fits. be_bytes_8 bytes _ len fits refl;
  again = λ n lt. from_be_bytes-to_be_bytes_8 n lt;
  below = λ bytes fits. omega (arith, fits 0, fits 1, fits 2, fits 3, fits 4, fits 5, fits 6, fits 7);
}

pub number_takes : (w : Width) (limit : ℕ) (wide : IsWide w limit) (bytes : List ℕ) (n : ℕ) (rest : List ℕ) → IsBytes bytes → number_at w bytes ≡ Some (n, rest) → Takes bytes (to_be_bytes w n) rest × (n < limit)
number_takes w limit wide bytes n rest fits e =
    let g = guard_some (ltb (length bytes) (byte_len w)) (from_be_bytes w (take (byte_len w) bytes), drop (byte_len w) bytes) (n, rest) e in
    let long : byte_len w ≤ length bytes = ltb-false _ _ g.0 in
    let n-is : from_be_bytes w (take (byte_len w) bytes) ≡ n = ap (λ (p : ℕ × List ℕ). p.0) g.1 in
    let rest-is : drop (byte_len w) bytes ≡ rest = ap (λ (p : ℕ × List ℕ). p.1) g.1 in
    let front : to_be_bytes w n ≡ take (byte_len w) bytes = rw (← n-is) (wide.back (take (byte_len w) bytes) (omega (arith, length-take (byte_len w) bytes)) (IsBytes-take (byte_len w) bytes fits)) in
    (record { parts = rw (front, ← rest-is) (sym (take-append-drop (byte_len w) bytes)); rest_fits = rw (← rest-is) (IsBytes-drop (byte_len w) bytes fits) }, rw (← n-is) (wide.below (take (byte_len w) bytes) (IsBytes-take (byte_len w) bytes fits)))

number_whole : (w : Width) (bytes : List ℕ) (n : ℕ) (rest : List ℕ) → number_at w bytes ≡ Some (n, rest) → byte_len w + length rest ≡ length bytes
number_whole w bytes n rest e =
    let g = guard_some (ltb (length bytes) (byte_len w)) (from_be_bytes w (take (byte_len w) bytes), drop (byte_len w) bytes) (n, rest) e in
    let long : byte_len w ≤ length bytes = ltb-false _ _ g.0 in
    let rest-is : drop (byte_len w) bytes ≡ rest = ap (λ (p : ℕ × List ℕ). p.1) g.1 in
    omega (arith, ap (λ (l : List ℕ). length l) rest-is, length-drop (byte_len w) bytes)

number_short : (w : Width) (bytes : List ℕ) → number_at w bytes ≡ None → length bytes < byte_len w
number_short w bytes e = ltb-true _ _ (guard_none _ _ e)

pub number_again : (w : Width) (limit : ℕ) (wide : IsWide w limit) (n : ℕ) (rest : List ℕ) → n < limit → number_at w (to_be_bytes w n ++ rest) ≡ Some (n, rest)
number_again w limit wide n rest lt =
    let len = wide.len n in
    let long : ltb (length (to_be_bytes w n ++ rest)) (byte_len w) ≡ false = le-ltb _ _ (omega (arith, length-append (to_be_bytes w n) rest)) in
    rw (long, take_at (to_be_bytes w n) rest (byte_len w) len, drop_at (to_be_bytes w n) rest (byte_len w) len, wide.again n lt) refl

-- ---- a run of bytes

pub bytes_take : (n : ℕ) (bytes text rest : List ℕ) → IsBytes bytes → bytes_at n bytes ≡ Some (text, rest) → Takes bytes text rest × (length text ≡ n)
bytes_take n bytes text rest fits e =
    let g = guard_some (ltb (length bytes) n) (take n bytes, drop n bytes) (text, rest) e in
    let long : n ≤ length bytes = ltb-false _ _ g.0 in
    subst (λ (p : List ℕ × List ℕ). Takes bytes p.0 p.1 × (length p.0 ≡ n)) g.1
    (record { parts = sym (take-append-drop n bytes); rest_fits = IsBytes-drop n bytes fits }, omega (arith, length-take n bytes))

pub bytes_again : (text rest : List ℕ) → bytes_at (length text) (text ++ rest) ≡ Some (text, rest)
bytes_again text rest =
    let long : ltb (length (text ++ rest)) (length text) ≡ false = le-ltb _ _ (omega (arith, length-append text rest)) in
    rw (long, take_at text rest (length text) refl, drop_at text rest (length text) refl) refl

-- ---- fields in general

-- A reading and a spelling undo each other, on the values that are Good.
pub record IsField {A : Type 0} (read : List ℕ → Option (A × List ℕ)) (spell : A → List ℕ) (Good : A → Type 0) : Type 0 where
  pub takes : (bytes : List ℕ) (x : A) (rest : List ℕ) → IsBytes bytes → read bytes ≡ Some (x, rest) → Takes bytes (spell x) rest × Good x
  pub again : (x : A) (rest : List ℕ) → Good x → read (spell x ++ rest) ≡ Some (x, rest)

-- A field always has this many bytes, and only bytes that are fewer aren't read.
pub record HasSize {A : Type 0} (read : List ℕ → Option (A × List ℕ)) (size : ℕ) : Type 0 where
  pub short : (bytes : List ℕ) → read bytes ≡ None → length bytes < size
  pub whole : (bytes : List ℕ) (x : A) (rest : List ℕ) → read bytes ≡ Some (x, rest) → size + length rest ≡ length bytes

pub byte_field : IsField byte_at (λ b. b ∷ []) (λ b. b < 2 ^ 8)
byte_field = record { takes = byte_takes; again = λ b rest lt. refl }

pub number_field : (w : Width) (limit : ℕ) (wide : IsWide w limit) → IsField (number_at w) (to_be_bytes w) (λ n. n < limit)
number_field w limit wide = record { takes = number_takes w limit wide; again = number_again w limit wide }

-- where a step reads nothing, it is the first that doesn't
pub bind_none : {A B : Type 0} (r : Option A) (f : A → Option B) → (r >>= f) ≡ None → (r ≡ None) ⊎ ((x : A) × (r ≡ Some x) × (f x ≡ None))
bind_none (Some x) f e = inr (x, refl, e)
bind_none None f e = inl refl

pub three_fields : {A B C : Type 0} {p : List ℕ → Option (A × List ℕ)} {q : List ℕ → Option (B × List ℕ)} {r : List ℕ → Option (C × List ℕ)} {sp : A → List ℕ} {sq : B → List ℕ} {sr : C → List ℕ} {Gp : A → Type 0} {Gq : B → Type 0} {Gr : C → Type 0}
    → IsField p sp Gp → IsField q sq Gq → IsField r sr Gr → IsField (three_at p q r) (λ x. sp x.0 ++ (sq x.1 ++ sr x.2)) (λ x. Gp x.0 × Gq x.1 × Gr x.2)
three_fields {A} {B} {C} {p} {q} {r} {sp} {sq} {sr} {Gp} {Gq} {Gr} fp fq fr = record {
  takes = λ bytes x rest fits e.
      let a = bind_some (p bytes) (λ a. q a.1 >>= λ b. r b.1 >>= λ c. Some ((a.0, b.0, c.0), c.1)) (x, rest) e in
      let b = bind_some (q a.0.1) (λ b. r b.1 >>= λ c. Some ((a.0.0, b.0, c.0), c.1)) (x, rest) a.2 in
      let c = bind_some (r b.0.1) (λ c. Some ((a.0.0, b.0.0, c.0), c.1)) (x, rest) b.2 in
      let t0 = fp.takes bytes a.0.0 a.0.1 fits a.1 in
      let t1 = fq.takes a.0.1 b.0.0 b.0.1 t0.0.rest_fits b.1 in
      let t2 = fr.takes b.0.1 c.0.0 c.0.1 t1.0.rest_fits c.1 in
      let both = Takes-then bytes (sp a.0.0) a.0.1 (sq b.0.0 ++ sr c.0.0) c.0.1 t0.0 (Takes-then a.0.1 (sq b.0.0) b.0.1 (sr c.0.0) c.0.1 t1.0 t2.0) in
      let made : (A × B × C) × List ℕ = ((a.0.0, b.0.0, c.0.0), c.0.1) in
      subst (λ (y : (A × B × C) × List ℕ). Takes bytes (sp y.0.0 ++ (sq y.0.1 ++ sr y.0.2)) y.1 × (Gp y.0.0 × Gq y.0.1 × Gr y.0.2)) (some_is made (x, rest) c.2) (both, (t0.1, t1.1, t2.1));
  again = λ x rest good.
      let regrouped : (sp x.0 ++ (sq x.1 ++ sr x.2)) ++ rest ≡ sp x.0 ++ (sq x.1 ++ (sr x.2 ++ rest)) = append_assoc (sp x.0) (sq x.1 ++ sr x.2) rest ∙ ap (λ (t : List ℕ). sp x.0 ++ t) (append_assoc (sq x.1) (sr x.2) rest) in
      ap (three_at p q r) regrouped ∙ rw (fp.again x.0 (sq x.1 ++ (sr x.2 ++ rest)) good.0, fq.again x.1 (sr x.2 ++ rest) good.1, fr.again x.2 rest good.2) refl;
}

pub byte_size : HasSize byte_at 1
byte_size = record { short = byte_short; whole = byte_whole }

pub number_size : (w : Width) → HasSize (number_at w) (byte_len w)
number_size w = record { short = number_short w; whole = number_whole w }

pub three_size : {A B C : Type 0} {p : List ℕ → Option (A × List ℕ)} {q : List ℕ → Option (B × List ℕ)} {r : List ℕ → Option (C × List ℕ)} (k m n : ℕ)
    → HasSize p k → HasSize q m → HasSize r n → HasSize (three_at p q r) (k + (m + n))
three_size {A} {B} {C} {p} {q} {r} k m n sp sq sr = record {
  short = λ bytes e.
      elim (bind_none (p bytes) (λ a. q a.1 >>= λ b. r b.1 >>= λ c. Some ((a.0, b.0, c.0), c.1)) e) [
        | inl none ↦ let h = sp.short bytes none in omega arith
        | inr a ↦ let h = sp.whole bytes a.0.0 a.0.1 a.1 in
            elim (bind_none (q a.0.1) (λ b. r b.1 >>= λ c. Some ((a.0.0, b.0, c.0), c.1)) a.2) [
              | inl none ↦ let h2 = sq.short a.0.1 none in omega arith
              | inr b ↦ let h2 = sq.whole a.0.1 b.0.0 b.0.1 b.1 in
                  elim (bind_none (r b.0.1) (λ c. Some ((a.0.0, b.0.0, c.0), c.1)) b.2) [
                    | inl none ↦ let h3 = sr.short b.0.1 none in omega arith
                    | inr c ↦ absurd (none-some _ (sym c.2))
                  ]
            ]
      ];
  whole = λ bytes x rest e.
      let a = bind_some (p bytes) (λ a. q a.1 >>= λ b. r b.1 >>= λ c. Some ((a.0, b.0, c.0), c.1)) (x, rest) e in
      let b = bind_some (q a.0.1) (λ b. r b.1 >>= λ c. Some ((a.0.0, b.0, c.0), c.1)) (x, rest) a.2 in
      let c = bind_some (r b.0.1) (λ c. Some ((a.0.0, b.0.0, c.0), c.1)) (x, rest) b.2 in
      let made : (A × B × C) × List ℕ = ((a.0.0, b.0.0, c.0.0), c.0.1) in
      let same : c.0.1 ≡ rest = ap (λ (y : (A × B × C) × List ℕ). y.1) (some_is made (x, rest) c.2) in
      let h1 = sp.whole bytes a.0.0 a.0.1 a.1 in
      let h2 = sq.whole a.0.1 b.0.0 b.0.1 b.1 in
      let h3 = sr.whole b.0.1 c.0.0 c.0.1 c.1 in
      omega (arith, ap (λ (l : List ℕ). length l) same);
}
