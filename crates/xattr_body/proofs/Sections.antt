-- Bytes are the section of one list of pairs at most, or break off at one place.
use Rattle.std.proofs.Common.{◌≡◌, ◌≢◌, ℕ, ◌+◌, ◌<◌, ◌≤◌, ◌^◌, ◌⊎◌, inl, inr, List, [], ◌∷◌, ◌++◌, length, min, ◌-◌, refl, sym, ap, subst, ◌∙◌, append_assoc, append-nil, length-append, arith}
use Rattle.std.proofs.lemmas.List.Elements.{All-head, All-tail, All-nil, All-cons}
use Rattle.std.specs.List.{All}
use Rattle.std.specs.Int.{w32, to_be_bytes}
use Rattle.xattr_body.specs.Section.{Pair, IsPair, pair_body, pair_bytes, names, are_distinct, pairs_bytes, section_of, ArePairs, IsSection}
use Rattle.xattr_body.specs.Faults.{IsBehindLength, PairsBreak, Breaks, at_length, at_pair}
use Rattle.xattr_body.specs.Fields.{SizedAt, PairAt}
use Rattle.xattr_body.proofs.Names.{distinct_front, names-append}
use Rattle.xattr_body.proofs.Pairs.{sized_same, pair_same, pair_some}

-- ---- pairs at the front of a list

All-front : {A : Type 0} (P : A → Type 0) (xs ys : List A) → All P (xs ++ ys) → All P xs
All-front P [] ys h = All-nil P
All-front P (x ∷ xs) ys h = All-cons P x xs (All-head P x (xs ++ ys) h) (All-front P xs ys (All-tail P x (xs ++ ys) h))

pub pairs_front : (a b : List Pair) → ArePairs (a ++ b) → ArePairs a
pairs_front a b h = record {
  each = All-front IsPair a b h.each;
  distinct = distinct_front (names a) (names b) (sym (ap are_distinct (names-append a b)) ∙ h.distinct);
}

-- the pair behind these is the next of more
next_pairs : (a : List Pair) (q : Pair) (more : List Pair) → ArePairs (a ++ q ∷ more) → ArePairs (a ++ q ∷ [])
next_pairs a q more h = pairs_front (a ++ q ∷ []) more (subst ArePairs (sym (append_assoc a (q ∷ []) more)) h)

-- ---- two lists at the front of the same bytes

-- a list goes on with a pair, which stands at the front of what follows the other
pub record GoesOn (short : List Pair) (behind : List ℕ) (long : List Pair) (left : List ℕ) : Type 0 where
  pub pair : Pair
  pub more : List Pair
  pub list : long ≡ short ++ pair ∷ more
  pub front : behind ≡ pair_bytes pair ++ (pairs_bytes more ++ left)

abbrev Compared : List Pair → List ℕ → List Pair → List ℕ → Type 0
Compared a x b y = ((a ≡ b) × (x ≡ y)) ⊎ GoesOn a x b y ⊎ GoesOn b y a x

longer : (p : Pair) (a : List Pair) (x : List ℕ) (b : List Pair) (y : List ℕ) → GoesOn a x b y → GoesOn (p ∷ a) x (p ∷ b) y
longer p a x b y g = record { pair = g.pair; more = g.more; list = ap (λ (l : List Pair). p ∷ l) g.list; front = g.front }

both_longer : (p : Pair) (a : List Pair) (x : List ℕ) (b : List Pair) (y : List ℕ) → Compared a x b y → Compared (p ∷ a) x (p ∷ b) y
both_longer p a x b y (inl same) = inl (ap (λ (l : List Pair). p ∷ l) same.0, same.1)
both_longer p a x b y (inr (inl g)) = inr (inl (longer p a x b y g))
both_longer p a x b y (inr (inr g)) = inr (inr (longer p b y a x g))

parted : (p : Pair) (a : List Pair) (x : List ℕ) → pairs_bytes (p ∷ a) ++ x ≡ pair_bytes p ++ (pairs_bytes a ++ x)
parted p a x = append_assoc (pair_bytes p) (pairs_bytes a) x

pub compared : (a b : List Pair) (x y : List ℕ) → All IsPair a → All IsPair b → pairs_bytes a ++ x ≡ pairs_bytes b ++ y → Compared a x b y
compared [] [] x y h k e = inl (refl, e)
compared [] (q ∷ b) x y h k e = inr (inl (record { pair = q; more = b; list = refl; front = e ∙ parted q b y }))
compared (p ∷ a) [] x y h k e = inr (inr (record { pair = p; more = a; list = refl; front = sym e ∙ parted p a x }))
compared (p ∷ a) (q ∷ b) x y h k e =
    let at_p : PairAt (pairs_bytes (p ∷ a) ++ x) p (pairs_bytes a ++ x) = record { good = All-head IsPair p a h; front = parted p a x } in
    let at_q : PairAt (pairs_bytes (p ∷ a) ++ x) q (pairs_bytes b ++ y) = record { good = All-head IsPair q b k; front = e ∙ parted q b y } in
    let same = pair_same (pairs_bytes (p ∷ a) ++ x) p q (pairs_bytes a ++ x) (pairs_bytes b ++ y) at_p at_q in
    let rest = compared a b x y (All-tail IsPair p a h) (All-tail IsPair q b k) same.1 in
    subst (λ (r : Pair). Compared (p ∷ a) x (r ∷ b) y) same.0 (both_longer p a x b y rest)

-- ---- pairs to the end

goes_past : (a b : List Pair) (x : List ℕ) → GoesOn a [] b x → ⊥
goes_past a b x g = omega (arith, pair_some [] g.pair (pairs_bytes g.more ++ x) g.front)

pub pairs_same : (a b : List Pair) → All IsPair a → All IsPair b → pairs_bytes a ≡ pairs_bytes b → a ≡ b
pairs_same a b h k e = by (compared a b [] [] h k (append-nil (pairs_bytes a) ∙ e ∙ sym (append-nil (pairs_bytes b))))
  where
    by : Compared a [] b [] → a ≡ b
    by (inl same) = same.0
    by (inr (inl g)) = absurd (goes_past a b [] g)
    by (inr (inr g)) = absurd (goes_past b a [] g)

-- none goes on where pairs break off
breaks_on : (bytes : List ℕ) (offset : ℕ) (p : PairsBreak bytes offset) (long : List Pair) (left : List ℕ) → ArePairs long → GoesOn p.before p.rest long left → ⊥
breaks_on bytes offset p long left h g = p.none g.pair (pairs_bytes g.more ++ left) (next_pairs p.before g.pair g.more (subst ArePairs g.list h)) g.front

pub break_place : (bytes : List ℕ) (first second : ℕ) → PairsBreak bytes first → PairsBreak bytes second → first ≡ second
break_place bytes first second p q = by (compared p.before q.before p.rest q.rest p.together.each q.together.each (sym p.front ∙ q.front))
  where
    by : Compared p.before p.rest q.before q.rest → first ≡ second
    by (inl same) = p.taken ∙ ap (λ (l : List Pair). length (pairs_bytes l)) same.0 ∙ sym q.taken
    by (inr (inl g)) = absurd (breaks_on bytes first p q.before q.rest q.together g)
    by (inr (inr g)) = absurd (breaks_on bytes second q p.before p.rest p.together g)

pub break_none : (bytes : List ℕ) (offset : ℕ) (pairs : List Pair) → PairsBreak bytes offset → ArePairs pairs → bytes ≡ pairs_bytes pairs → ⊥
break_none bytes offset pairs p h e = by (compared p.before pairs p.rest [] p.together.each h.each (sym p.front ∙ e ∙ sym (append-nil (pairs_bytes pairs))))
  where
    by : Compared p.before p.rest pairs [] → ⊥
    by (inl same) = p.some same.1
    by (inr (inl g)) = breaks_on bytes offset p pairs [] h g
    by (inr (inr g)) = goes_past pairs p.before p.rest g

-- ---- behind the length

behind_sized : (bytes behind : List ℕ) → IsBehindLength bytes behind → SizedAt bytes behind []
behind_sized bytes behind b = record { fits = b.fits; front = b.front ∙ ap (λ (l : List ℕ). to_be_bytes w32 (length behind) ++ l) (sym (append-nil behind)) }

behind_same : (bytes a b : List ℕ) → IsBehindLength bytes a → IsBehindLength bytes b → a ≡ b
behind_same bytes a b h k = (sized_same bytes a [] b [] (behind_sized bytes a h) (behind_sized bytes b k)).0

pub none_behind : (bytes : List ℕ) → ((body rest : List ℕ) → SizedAt bytes body rest → ⊥) → (behind : List ℕ) → IsBehindLength bytes behind → ⊥
none_behind bytes none behind b = none behind [] (behind_sized bytes behind b)

pub not_all : (bytes body rest : List ℕ) → SizedAt bytes body rest → (rest ≡ [] → body ≢ [] → ⊥) → (behind : List ℕ) → IsBehindLength bytes behind → ⊥
not_all bytes body rest s none behind b =
    let same = sized_same bytes body rest behind [] s (behind_sized bytes behind b) in
    none same.1 (λ e. omega (arith, b.some, ap length (sym same.0 ∙ e)))

pub all_behind : (bytes body rest : List ℕ) → SizedAt bytes body rest → rest ≡ [] → body ≢ [] → IsBehindLength bytes body
all_behind bytes body rest s none some = record {
  some = nonempty body some;
  fits = s.fits;
  front = s.front ∙ ap (λ (l : List ℕ). to_be_bytes w32 (length body) ++ (body ++ l)) none ∙ ap (λ (l : List ℕ). to_be_bytes w32 (length body) ++ l) (append-nil body);
}
  where
    nonempty : (l : List ℕ) → l ≢ [] → 1 ≤ length l
    nonempty [] n = absurd (n refl)
    nonempty (x ∷ l) n = omega arith

-- the section of some pairs
pub section_some : (pair : Pair) (more : List Pair) → section_of (pair ∷ more) ≡ to_be_bytes w32 (length (pairs_bytes (pair ∷ more))) ++ pairs_bytes (pair ∷ more)
unfolding section_of
section_some pair more = refl

pub section_none : section_of [] ≡ []
unfolding section_of
section_none = refl

pub bytes_some : (pair : Pair) (more : List Pair) → 1 ≤ length (pairs_bytes (pair ∷ more))
bytes_some pair more = omega (arith, pair_some (pairs_bytes (pair ∷ more)) pair (pairs_bytes more) refl)

-- a section is empty, or stands behind its length
pub section_behind : (pairs : List Pair) (bytes : List ℕ) → IsSection pairs bytes → bytes ≢ [] → IsBehindLength bytes (pairs_bytes pairs)
section_behind [] bytes s n = absurd (n (s.spelled ∙ section_none))
section_behind (pair ∷ more) bytes s n = record { some = bytes_some pair more; fits = s.whole.fits; front = s.spelled ∙ section_some pair more }

pub section_long : (pairs : List Pair) → length (section_of pairs) < 2 ^ 32 → length (pairs_bytes pairs) < 2 ^ 32
section_long [] h = omega arith
section_long (pair ∷ more) h =
    omega (arith, ap length (section_some pair more), length-append (to_be_bytes w32 (length (pairs_bytes (pair ∷ more)))) (pairs_bytes (pair ∷ more)), h)

-- no bytes are the section of none
pub empty_section : (bytes : List ℕ) → bytes ≡ [] → IsSection [] bytes
empty_section bytes e = record { whole = record { together = record { each = All-nil IsPair; distinct = refl }; fits = omega arith }; spelled = e ∙ sym section_none }

pub section_found : (pairs : List Pair) (bytes behind : List ℕ) → IsBehindLength bytes behind → ArePairs pairs → behind ≡ pairs_bytes pairs → IsSection pairs bytes
section_found [] bytes behind b h e = absurd (omega (arith, b.some, ap length e))
section_found (pair ∷ more) bytes behind b h e = record {
  whole = record { together = h; fits = subst (λ (l : List ℕ). length l < 2 ^ 32) e b.fits };
  spelled = b.front ∙ ap (λ (l : List ℕ). to_be_bytes w32 (length l) ++ l) e ∙ sym (section_some pair more);
}

-- ---- the laws

section_empty : (pairs : List Pair) → IsSection pairs [] → pairs ≡ []
section_empty [] s = refl
section_empty (pair ∷ more) s =
    absurd (omega (arith, ap length (s.spelled ∙ section_some pair more), length-append (to_be_bytes w32 (length (pairs_bytes (pair ∷ more)))) (pairs_bytes (pair ∷ more)), bytes_some pair more))

pub one_list : (first second : List Pair) (bytes : List ℕ) → IsSection first bytes → IsSection second bytes → first ≡ second
one_list first second [] s t = section_empty first s ∙ sym (section_empty second t)
one_list first second (x ∷ bytes) s t =
    let some : (x ∷ bytes) ≢ [] = λ e. cc in
    let same = behind_same (x ∷ bytes) (pairs_bytes first) (pairs_bytes second) (section_behind first (x ∷ bytes) s some) (section_behind second (x ∷ bytes) t some) in
    pairs_same first second s.whole.together.each t.whole.together.each same

pub one_place : (bytes : List ℕ) (first second : ℕ) → Breaks bytes first → Breaks bytes second → first ≡ second
one_place bytes first second (at_length p n f) (at_length q m g) = p ∙ sym q
one_place bytes first second (at_length p n f) (at_pair behind o q b k) = absurd (f behind b)
one_place bytes first second (at_pair behind o p b k) (at_length q m g) = absurd (g behind b)
one_place bytes first second (at_pair behind o p b k) (at_pair other u q c l) =
    let same = behind_same bytes behind other b c in
    let place = break_place other o u (subst (λ (x : List ℕ). PairsBreak x o) same k) l in
    p ∙ ap (λ (n : ℕ). 4 + n) place ∙ sym q

pub broken_none : (bytes : List ℕ) (place : ℕ) (pairs : List Pair) → Breaks bytes place → IsSection pairs bytes → ⊥
broken_none bytes place pairs (at_length p n f) s = f (pairs_bytes pairs) (section_behind pairs bytes s n)
broken_none bytes place pairs (at_pair behind o p b k) s =
    let some : bytes ≢ [] = λ e. omega (arith, ap length (sym b.front ∙ e), length-append (to_be_bytes w32 (length behind)) behind, b.some) in
    break_none behind o pairs k s.whole.together (behind_same bytes behind (pairs_bytes pairs) b (section_behind pairs bytes s some))

-- ---- how many bytes

pub size_none : (pairs slice : List Pair) → slice ≡ pairs → slice ≡ [] → 0 ≡ min (length (section_of pairs)) (2 ^ 64 - 1)
size_none pairs slice is none = sym (ap (λ (l : List Pair). min (length (section_of l)) (2 ^ 64 - 1)) (sym is ∙ none) ∙ ap (λ (l : List ℕ). min (length l) (2 ^ 64 - 1)) section_none)

counted : (pair : Pair) (more : List Pair) → length (section_of (pair ∷ more)) ≡ 4 + length (pairs_bytes (pair ∷ more))
counted pair more = omega (arith, ap length (section_some pair more), length-append (to_be_bytes w32 (length (pairs_bytes (pair ∷ more)))) (pairs_bytes (pair ∷ more)))

size_counts : (pairs : List Pair) → pairs ≢ [] → length (section_of pairs) ≡ 4 + length (pairs_bytes pairs)
size_counts [] n = absurd (n refl)
size_counts (pair ∷ more) n = counted pair more

pub size_some : (pairs slice : List Pair) (size whole : ℕ) → slice ≡ pairs → slice ≢ [] → size ≡ min (length (pairs_bytes slice)) (2 ^ 64 - 1) → whole ≡ min (size + 4) (2 ^ 64 - 1) → whole ≡ min (length (section_of pairs)) (2 ^ 64 - 1)
size_some pairs slice size whole is n s w =
    let c = size_counts pairs (λ e. n (is ∙ e)) in
    let l : length (pairs_bytes slice) ≡ length (pairs_bytes pairs) = ap (λ (x : List Pair). length (pairs_bytes x)) is in
    omega (arith, c, l, s, w)

-- ---- what is written

-- each pair fits where they all do
pub each_fits : (pairs : List Pair) → length (pairs_bytes pairs) < 2 ^ 32 → All (λ pair. length (pair_body pair) < 2 ^ 32) pairs
each_fits [] h = All-nil (λ pair. length (pair_body pair) < 2 ^ 32)
each_fits (p ∷ ps) h =
    let all : length (pairs_bytes (p ∷ ps)) ≡ length (pair_bytes p) + length (pairs_bytes ps) = length-append (pair_bytes p) (pairs_bytes ps) in
    let one : length (pair_bytes p) ≡ length (to_be_bytes w32 (length (pair_body p))) + length (pair_body p) = length-append (to_be_bytes w32 (length (pair_body p))) (pair_body p) in
    All-cons (λ pair. length (pair_body pair) < 2 ^ 32) p ps (omega (arith, h)) (each_fits ps (omega (arith, h)))

pub written_none : (pairs : List Pair) (bytes : List ℕ) → pairs ≡ [] → bytes ≡ [] → bytes ≡ section_of pairs
written_none pairs bytes none e = e ∙ sym section_none ∙ ap section_of (sym none)

pub written_some : (pairs : List Pair) (size : ℕ) (bytes : List ℕ) → length (pairs_bytes pairs) < 2 ^ 32 → pairs ≢ [] → size ≡ min (length (pairs_bytes pairs)) (2 ^ 64 - 1) → bytes ≡ to_be_bytes w32 size ++ pairs_bytes pairs → bytes ≡ section_of pairs
written_some [] size bytes h n s e = absurd (n refl)
written_some (p ∷ ps) size bytes h n s e =
    let counted : size ≡ length (pairs_bytes (p ∷ ps)) = omega (arith, s, h) in
    e ∙ ap (λ (m : ℕ). to_be_bytes w32 m ++ pairs_bytes (p ∷ ps)) counted ∙ sym (section_some p ps)
