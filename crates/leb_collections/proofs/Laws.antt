-- Each number has one spelling, and none begins another.
use Rattle.std.proofs.Common.{◌≡◌, ℕ, zero, suc, ◌+◌, ◌-◌, ◌*◌, ◌/◌, ◌%◌, ◌^◌, ◌<◌, ◌≤◌, nat_lt, List, [], ◌∷◌, ◌++◌, length, get_or, take, refl, sym, ap, subst, ◌∙◌, inl, inr, arith}
use Rattle.std.proofs.Math.Nat.{pow-suc}
use Rattle.std.proofs.lemmas.Bool.{cases_lt, cond-true, cond-false, lt-ltb, le-ltb}
use Rattle.std.proofs.lemmas.List.{take_at}
use Rattle.leb_collections.specs.Leb128.{AreBytes, value_of, AllContinue, last_of, IsShortest}
use Rattle.leb_collections.specs.Functions.{groups, id_bytes}
use Rattle.leb_collections.proofs.Ends.{Ends, Ends-from_spelling}
use Rattle.leb_collections.proofs.Reading.{only_end}

-- the last byte, with one more in front
last_front : (b c : ℕ) (s : List ℕ) → last_of (b ∷ c ∷ s) ≡ last_of (c ∷ s)
last_front b c s =
    let more : length (b ∷ c ∷ s) - 1 ≡ suc (length s) = omega arith in
    let fewer : length (c ∷ s) - 1 ≡ length s = omega arith in
    ap (λ k. get_or (b ∷ c ∷ s) k 0) more ∙ ap (λ k. get_or (c ∷ s) k 0) (sym fewer)

-- a sole byte 0 stands for 0
sole_zero : (s : List ℕ) → last_of s ≡ 0 → length s ≡ 1 → value_of s ≡ 0
sole_zero [] nil one = refl
sole_zero (c ∷ []) nil one = omega arith
sole_zero (c ∷ d ∷ s) nil one = absurd (omega arith)

-- a last byte that isn't 0 makes the number positive
value_positive : (s : List ℕ) → 1 ≤ length s → last_of s < 128 → (last_of s ≡ 0 → ⊥) →
    0 < value_of s
value_positive [] some ended other = absurd (omega arith)
value_positive (c ∷ []) some ended other =
    elim (cases_lt 0 c) [ inl positive ↦ omega arith | inr none ↦ absurd (other (omega arith)) ]
value_positive (c ∷ d ∷ s) some ended other =
    omega (arith, value_positive (d ∷ s) (omega arith) (rw last_front at ended) (λ nil. other (last_front c d s ∙ nil)))

bytes_front : (b : ℕ) (s : List ℕ) → b < 256 → AreBytes s → AreBytes (b ∷ s)
bytes_front b s fits each zero = fits
bytes_front b s fits each (suc k) = each k

continued_front : (b c : ℕ) (s : List ℕ) → 128 ≤ b → AllContinue (length (c ∷ s) - 1) (c ∷ s) →
    AllContinue (length (b ∷ c ∷ s) - 1) (b ∷ c ∷ s)
continued_front b c s top continued zero lt = top
continued_front b c s top continued (suc k) lt = continued k (omega arith)

one_byte : (n : ℕ) → n < 128 → IsShortest n (n ∷ [])
one_byte n small = record {
  in_range = omega arith;
  nonempty = omega arith;
  at_most_five = omega arith;
  each_a_byte = bytes_front n [] (omega arith) (λ k. omega arith);
  valued = omega arith;
  continued = λ k lt. absurd (omega arith);
  ended = small;
  shortest = λ nil. refl;
}

-- a byte with the top bit in front of the spelling of a number other than 0
with_front : (b high : ℕ) (s : List ℕ) → 128 ≤ b → b < 256 → 0 < high →
    b % 128 + 128 * high < 2 ^ 32 → length s ≤ 4 → IsShortest high s →
    IsShortest (b % 128 + 128 * high) (b ∷ s)
with_front b high [] top byte some fits few is =
    let none : 1 ≤ 0 = is.nonempty in absurd (omega arith)
with_front b high (c ∷ s) top byte some fits few is = record {
  in_range = fits;
  nonempty = omega arith;
  at_most_five = omega arith;
  each_a_byte = bytes_front b (c ∷ s) byte is.each_a_byte;
  valued = let valued : high ≡ value_of (c ∷ s) = is.valued in ap (λ v. b % 128 + 128 * v) valued;
  continued = continued_front b c s top is.continued;
  ended = rw last_front is.ended;
  shortest = λ nil.
      let last : last_of (c ∷ s) ≡ 0 = sym (last_front b c s) ∙ nil in
      let none : value_of (c ∷ s) ≡ 0 = sole_zero (c ∷ s) last (is.shortest last) in
      let valued : high ≡ value_of (c ∷ s) = is.valued in
      absurd (omega arith);
}

-- what a spelling of two bytes or more is without its first byte
record IsFronted (b c : ℕ) (s : List ℕ) : Type 0 where
  pub top : 128 ≤ b
  pub byte : b < 256
  pub some : 0 < value_of (c ∷ s)
  pub rest : IsShortest (value_of (c ∷ s)) (c ∷ s)

without_front : (n b c : ℕ) (s : List ℕ) → IsShortest n (b ∷ c ∷ s) → IsFronted b c s
without_front n b c s is =
    let valued : n ≡ b % 128 + 128 * value_of (c ∷ s) = is.valued in
    let long : length (b ∷ c ∷ s) ≤ 5 = is.at_most_five in
    let last : last_of (c ∷ s) < 128 = rw last_front at is.ended in
    let other : last_of (c ∷ s) ≡ 0 → ⊥ =
    λ nil. let one : length (b ∷ c ∷ s) ≡ 1 = is.shortest (last_front b c s ∙ nil) in omega arith in
    record {
      top = is.continued 0 (omega arith);
      byte = is.each_a_byte 0;
      some = value_positive (c ∷ s) (omega arith) last other;
      rest = record {
        in_range = omega (arith, is.in_range);
        nonempty = omega arith;
        at_most_five = omega arith;
        each_a_byte = λ k. is.each_a_byte (suc k);
        valued = refl;
        continued = λ k lt. is.continued (suc k) (omega arith);
        ended = last;
        shortest = λ nil. absurd (other nil);
      };
    }

-- the groups of a number are its shortest spelling, where there is room for them
groups_within : (more n : ℕ) → more ≤ 4 → n < 128 ^ suc more → n < 2 ^ 32 →
    (length (groups more n) ≤ suc more) × IsShortest n (groups more n)
groups_within zero n few below fits = (omega arith, one_byte n (omega arith))
groups_within (suc more) n few below fits =
    elim (cases_lt n 128) [
      | inl small ↦ rw (cond-true (nat_lt n 128) (n ∷ []) ((128 + n % 128) ∷ groups more (n / 128)) (lt-ltb n 128 small)) (omega arith, one_byte n small)
      | inr large ↦
          let product : n < 128 ^ suc more * 128 = rw pow-suc at below in
          let high = groups_within more (n / 128) (omega arith) (omega arith) (omega arith) in
          let value : (128 + n % 128) % 128 + 128 * (n / 128) ≡ n = omega arith in
          let len : length (groups more (n / 128)) ≤ suc more = high.0 in
          let P : ℕ → Type 0 = λ v. IsShortest v ((128 + n % 128) ∷ groups more (n / 128)) in
          rw (cond-false (nat_lt n 128) (n ∷ []) ((128 + n % 128) ∷ groups more (n / 128)) (le-ltb n 128 large)) (
            omega arith,
            subst P value (with_front (128 + n % 128) (n / 128) (groups more (n / 128)) (omega arith) (omega arith) (omega arith) (omega arith) (omega arith) high.1),
          )
    ]

pub id_bytes_shortest : (n : ℕ) → n < 2 ^ 32 → IsShortest n (id_bytes n)
id_bytes_shortest n fits = let found = groups_within 4 n (omega arith) (omega arith) fits in found.1

groups_short : (more n : ℕ) → length (groups more n) ≤ suc more
groups_short zero n = omega arith
groups_short (suc more) n =
    elim (cases_lt n 128) [
      | inl small ↦ rw (cond-true (nat_lt n 128) (n ∷ []) ((128 + n % 128) ∷ groups more (n / 128)) (lt-ltb n 128 small)) (omega arith)
      | inr large ↦
          let others : length (groups more (n / 128)) ≤ suc more = groups_short more (n / 128) in
          rw (cond-false (nat_lt n 128) (n ∷ []) ((128 + n % 128) ∷ groups more (n / 128)) (le-ltb n 128 large)) (omega arith)
    ]

-- an id has at most five bytes
pub id_bytes_short : (n : ℕ) → length (id_bytes n) ≤ 5
id_bytes_short n = groups_short 4 n

pub exists : (n : ℕ) → n < 2 ^ 32 → (s : List ℕ) × IsShortest n s
exists n fits = (id_bytes n, id_bytes_shortest n fits)

pub unique : (n : ℕ) (a b : List ℕ) → IsShortest n a → IsShortest n b → a ≡ b
unique n [] b p q = let some : 1 ≤ 0 = p.nonempty in absurd (omega arith)
unique n (x ∷ xs) [] p q = let some : 1 ≤ 0 = q.nonempty in absurd (omega arith)
unique n (x ∷ []) (y ∷ []) p q =
    let low : x < 128 = p.ended in
    let low2 : y < 128 = q.ended in
    let same : x ≡ y = omega (arith, p.valued, q.valued) in
    rw same refl
unique n (x ∷ []) (y ∷ w ∷ ys) p q =
    let low : x < 128 = p.ended in
    let fronted = without_front n y w ys q in
    absurd (omega (arith, p.valued, q.valued, fronted.some))
unique n (x ∷ z ∷ xs) (y ∷ []) p q =
    let low : y < 128 = q.ended in
    let fronted = without_front n x z xs p in
    absurd (omega (arith, p.valued, q.valued, fronted.some))
unique n (x ∷ z ∷ xs) (y ∷ w ∷ ys) p q =
    let f = without_front n x z xs p in
    let g = without_front n y w ys q in
    let front : x ≡ y = omega (arith, p.valued, q.valued, f.top, f.byte, g.top, g.byte) in
    let high : value_of (z ∷ xs) ≡ value_of (w ∷ ys) = omega (arith, p.valued, q.valued) in
    let rest : IsShortest (value_of (z ∷ xs)) (w ∷ ys) = rw high g.rest in
    let tails : z ∷ xs ≡ w ∷ ys = unique (value_of (z ∷ xs)) (z ∷ xs) (w ∷ ys) f.rest rest in
    cc (front, tails)

-- ---- no spelling begins another

pub prefix_free : (m n : ℕ) (a b x y : List ℕ) → IsShortest m a → IsShortest n b → a ++ x ≡ b ++ y →
    (a ≡ b) × (m ≡ n)
prefix_free m n a b x y p q same =
    let ends : Ends (a ++ x) (length a - 1) = Ends-from_spelling m a x (a ++ x) p refl in
    let front = only_end (a ++ x) (length a - 1) n b y ends q same in
    let some : 1 ≤ length a = p.nonempty in
    let len : length a ≡ length b = omega (arith, front.1) in
    let is : a ≡ b =
    sym (take_at a x (length b) len) ∙ ap (take (length b)) same ∙ take_at b y (length b) refl in
    (is, p.valued ∙ ap value_of is ∙ sym q.valued)
