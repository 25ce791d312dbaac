-- The pairs of a section as a function: what it gives of the bytes of pairs, and one pair after another.
use Rattle.std.proofs.Common.{◌≡◌, ℕ, zero, suc, ◌+◌, ◌-◌, ◌<◌, ◌≤◌, ◌^◌, nat_eq, ltb, cond, Bool, true, false, List, [], ◌∷◌, ◌++◌, length, take, drop, get_or, position, Option, Some, None, refl, sym, ap, ap₂, ◌∙◌, append_assoc, append-nil, length-append, length-drop, arith}
use Rattle.std.proofs.Math.Seq.{take-append_seam, drop-append-add, get_or-append_seam}
use Rattle.std.proofs.lemmas.List.{get_or_append_left}
use Rattle.std.proofs.lemmas.List.Elements.{All-head, All-tail}
use Rattle.std.proofs.lemmas.List.Sums.{position_or_len_is}
use Rattle.std.proofs.lemmas.Bool.{ne_eqb, ltb-true, lt-ltb}
use Rattle.std.specs.List.{All, position_or_len}
use Rattle.std.specs.Option.{option_map_or}
use Rattle.std.specs.Int.{w32, to_be_bytes}
use Rattle.kv_edge.specs.Fields.{◌>>=◌, number_at, bytes_at}
use Rattle.kv_edge.proofs.Fields.{wide32, bind_some, guard_some, some_is, number_size, number_again, bytes_again}
use Rattle.xattr_body.specs.Section.{Pair, HasNoZero, IsPair, pair_body, pair_bytes, pairs_bytes, section_of, HaveSection, IsSection}
use Rattle.xattr_body.specs.Fields.{SplitAt}
use Rattle.xattr_body.specs.Pairs.{pair_in, pair_at, and_more, pairs_from, pairs_in}
use Rattle.xattr_body.proofs.Sections.{section_some, section_none, bytes_some}

-- ---- what stands behind the length of a pair

abbrev is_zero : ℕ → Bool
is_zero byte = nat_eq byte 0

abbrev place : ℕ → Option ℕ
place n = Some n

not_below : (b : Bool) (n : ℕ) → ltb n n ≡ b → cond b (place n) None ≡ None
not_below true n e = absurd (omega (arith, ltb-true n n e))
not_below false n e = refl

nowhere : (body : List ℕ) → HasNoZero body → position is_zero body ≡ None
nowhere body h =
    let n : position_or_len is_zero body ≡ length body = position_or_len_is is_zero body (length body) 0 (omega arith) (λ k less. ne_eqb (get_or body k 0) 0 (h k 0 less)) (λ less. absurd (omega arith)) in
    ap (λ (k : ℕ). cond (ltb k (length body)) (place k) None) n ∙ not_below (ltb (length body) (length body)) (length body) refl

at_front : (front back : List ℕ) → HasNoZero front → position is_zero (front ++ 0 ∷ back) ≡ place (length front)
at_front front back h =
    let body : List ℕ = front ++ 0 ∷ back in
    let within : length front < length body = omega (arith, length-append front (0 ∷ back)) in
    let n : position_or_len is_zero body ≡ length front =
    position_or_len_is is_zero body (length front) 0 (omega arith) (λ k less. ne_eqb (get_or body k 0) 0 (λ e. h k 0 less (sym (get_or_append_left front (0 ∷ back) 0 k less) ∙ e)))
    (λ less. ap is_zero (get_or-append_seam front 0 back 0)) in
    ap (λ (k : ℕ). cond (ltb k (length body)) (place k) None) n ∙ ap (λ b. cond b (place (length front)) None) (lt-ltb (length front) (length body) within)

-- the pair round a byte at this place
abbrev round : List ℕ → ℕ → Option Pair
round body at = Some (take at body, take (length body - (at + 2)) (drop (at + 1) body))

abbrev pub some_pair : List ℕ → List ℕ → Option Pair
some_pair name text = Some (name, text)

pub no_pair_in : (body : List ℕ) → HasNoZero body → pair_in body ≡ None
unfolding pair_in
no_pair_in body h = ap (λ (o : Option ℕ). o >>= round body) (nowhere body h)

pub pair_split : (body front back : List ℕ) → SplitAt body front back → pair_in body ≡ some_pair front (take (length back - 1) back)
unfolding pair_in
pair_split body front back s =
    let n : length (front ++ 0 ∷ back) - (length front + 2) ≡ length back - 1 = omega (arith, length-append front (0 ∷ back)) in
    ap (λ (b : List ℕ). position is_zero b >>= round b) s.parts ∙ ap (λ (o : Option ℕ). o >>= round (front ++ 0 ∷ back)) (at_front front back s.no_zero)
    ∙ ap₂ (λ (x : List ℕ) (y : List ℕ). some_pair x (take (length (front ++ 0 ∷ back) - (length front + 2)) y)) (take-append_seam front (0 ∷ back)) (drop-append-add front (0 ∷ back) 1)
    ∙ ap (λ (k : ℕ). some_pair front (take k back)) n

pub none_left : (rest : List ℕ) → length rest < 1 → rest ≡ take (length rest - 1) rest
none_left [] h = refl
none_left (x ∷ xs) h = absurd (omega arith)

without_last : (text : List ℕ) → take (length (text ++ 0 ∷ []) - 1) (text ++ 0 ∷ []) ≡ text
without_last text =
    let n : length (text ++ 0 ∷ []) - 1 ≡ length text = omega (arith, length-append text (0 ∷ [])) in
    ap (λ (k : ℕ). take k (text ++ 0 ∷ [])) n ∙ take-append_seam text (0 ∷ [])

pair_again : (p : Pair) → HasNoZero p.0 → pair_in (pair_body p) ≡ some_pair p.0 p.1
pair_again p h = pair_split (pair_body p) p.0 (p.1 ++ 0 ∷ []) (record { no_zero = h; parts = refl }) ∙ ap (λ (l : List ℕ). some_pair p.0 l) (without_last p.1)

-- ---- a pair at the front

abbrev read : Pair → List ℕ → Option (Pair × List ℕ)
read p rest = Some (p, rest)

-- the pair behind its length, which was read
pair_behind : List ℕ × List ℕ → Option (Pair × List ℕ)
pair_behind body = pair_in body.0 >>= λ pair. read pair body.1

pair_sized : ℕ × List ℕ → Option (Pair × List ℕ)
pair_sized size = bytes_at size.0 size.1 >>= pair_behind

pair_steps : (bytes : List ℕ) → pair_at bytes ≡ (number_at w32 bytes >>= pair_sized)
unfolding pair_at pair_sized pair_behind
pair_steps bytes = refl

-- where there is no length, there is no pair
pub pair_none : (bytes : List ℕ) → None ≡ number_at w32 bytes → None ≡ pair_at bytes
pair_none bytes e = sym (pair_steps bytes ∙ ap (λ o. o >>= pair_sized) (sym e))

front_again : (p : Pair) (rest : List ℕ) → IsPair p → pair_at (pair_bytes p ++ rest) ≡ read p rest
unfolding pair_sized pair_behind
front_again p rest good =
    let body : List ℕ = pair_body p in
    let n : ℕ = length body in
    pair_steps (pair_bytes p ++ rest)
    ∙ ap (λ (b : List ℕ). number_at w32 b >>= pair_sized) (append_assoc (to_be_bytes w32 n) body rest)
    ∙ ap (λ o. o >>= pair_sized) (number_again w32 (2 ^ 32) wide32 n (body ++ rest) good.fits)
    ∙ ap (λ o. o >>= pair_behind) (bytes_again body rest)
    ∙ ap (λ o. o >>= λ pair. read pair rest) (pair_again p good.name.no_zero)

bytes_within : (n : ℕ) (bytes text rest : List ℕ) → bytes_at n bytes ≡ Some (text, rest) → length rest ≤ length bytes
bytes_within n bytes text rest e =
    let g = guard_some (ltb (length bytes) n) (take n bytes, drop n bytes) (text, rest) e in
    omega (arith, length-drop n bytes, ap (λ (x : List ℕ × List ℕ). length x.1) g.1)

rest_is : (p q : Pair) (x y : List ℕ) → read p x ≡ read q y → length x ≡ length y
rest_is p q x y e = ap (λ (r : Pair × List ℕ). length r.1) (some_is (p, x) (q, y) e)

-- bytes have fewer behind a pair
pub shorter : (bytes rest : List ℕ) (p : Pair) → pair_at bytes ≡ read p rest → length rest < length bytes
unfolding pair_sized pair_behind
shorter bytes rest p e =
    let a = bind_some (number_at w32 bytes) pair_sized (p, rest) (sym (pair_steps bytes) ∙ e) in
    let b = bind_some (bytes_at a.0.0 a.0.1) pair_behind (p, rest) a.2 in
    let c = bind_some (pair_in b.0.0) (λ pair. read pair b.0.1) (p, rest) b.2 in
    let last : length b.0.1 ≡ length rest = rest_is c.0 p b.0.1 rest c.2 in
    let behind : 4 + length a.0.1 ≡ length bytes = (number_size w32).whole bytes a.0.0 a.0.1 a.1 in
    let within : length b.0.1 ≤ length a.0.1 = bytes_within a.0.0 a.0.1 b.0.0 b.0.1 b.1 in
    omega arith

-- ---- all at the front

from_none : (most : ℕ) (bytes : List ℕ) → pair_at bytes ≡ None → pairs_from most bytes ≡ []
unfolding pairs_from
from_none zero bytes e = refl
from_none (suc most) bytes e = ap (λ o. and_more o (λ rest. pairs_from most rest)) e

from_some : (most : ℕ) (bytes rest : List ℕ) (p : Pair) → pair_at bytes ≡ read p rest → pairs_from (suc most) bytes ≡ p ∷ pairs_from most rest
unfolding pairs_from
from_some most bytes rest p e = ap (λ o. and_more o (λ rest. pairs_from most rest)) e

nothing_at : pair_at [] ≡ None
unfolding pair_at
nothing_at = refl

from_nothing : (most : ℕ) (bytes : List ℕ) → length bytes ≤ 0 → pairs_from most bytes ≡ []
from_nothing most [] h = from_none most [] nothing_at
from_nothing most (x ∷ xs) h = absurd (omega arith)

from_enough : (m n : ℕ) (bytes : List ℕ) → length bytes ≤ m → length bytes ≤ n → pairs_from m bytes ≡ pairs_from n bytes
from_enough zero n bytes h k = from_nothing zero bytes h ∙ sym (from_nothing n bytes h)
from_enough (suc m) zero bytes h k = from_nothing (suc m) bytes k ∙ sym (from_nothing zero bytes k)
from_enough (suc m) (suc n) bytes h k = by (pair_at bytes) refl (from_enough m n)
  where
    by : (o : Option (Pair × List ℕ)) → pair_at bytes ≡ o → ((rest : List ℕ) → length rest ≤ m → length rest ≤ n → pairs_from m rest ≡ pairs_from n rest) → pairs_from (suc m) bytes ≡ pairs_from (suc n) bytes
    by None e more = from_none (suc m) bytes e ∙ sym (from_none (suc n) bytes e)
    by (Some x) e more =
        let less : length x.1 < length bytes = shorter bytes x.1 x.0 e in
        from_some m bytes x.1 x.0 e ∙ ap (λ (l : List Pair). x.0 ∷ l) (more x.1 (omega (arith, h, less)) (omega (arith, k, less))) ∙ sym (from_some n bytes x.1 x.0 e)

-- ---- as the loop has it

pub no_more : (bytes : List ℕ) → None ≡ pair_at bytes → pairs_from (length bytes) bytes ≡ []
no_more bytes e = from_none (length bytes) bytes (sym e)

pub one_more : (bytes rest : List ℕ) (p : Pair) → read p rest ≡ pair_at bytes → pairs_from (length bytes) bytes ≡ p ∷ pairs_from (length rest) rest
one_more bytes rest p e =
    let less : length rest < length bytes = shorter bytes rest p (sym e) in
    from_enough (length bytes) (suc (length bytes)) bytes (omega arith) (omega arith) ∙ from_some (length bytes) bytes rest p (sym e)
    ∙ ap (λ (l : List Pair). p ∷ l) (from_enough (length bytes) (length rest) rest (omega arith) (omega arith))

-- none is left
pub all_there : (all bytes : List ℕ) (items : List Pair) → items ++ pairs_from (length bytes) bytes ≡ pairs_from (length all) all → None ≡ pair_at bytes → items ≡ pairs_from (length all) all
all_there all bytes items h e = sym (append-nil items) ∙ ap (λ (l : List Pair). items ++ l) (sym (no_more bytes e)) ∙ h

-- one more was read
pub more_there : (all bytes rest : List ℕ) (items now : List Pair) (p : Pair) → items ++ pairs_from (length bytes) bytes ≡ pairs_from (length all) all → read p rest ≡ pair_at bytes → now ≡ items ++ p ∷ []
    → now ++ pairs_from (length rest) rest ≡ pairs_from (length all) all
more_there all bytes rest items now p h e is =
    ap (λ (l : List Pair). l ++ pairs_from (length rest) rest) is ∙ append_assoc items (p ∷ []) (pairs_from (length rest) rest)
    ∙ ap (λ (l : List Pair). items ++ l) (sym (one_more bytes rest p e)) ∙ h

-- ---- the whole

pub in_none : (bytes : List ℕ) → None ≡ number_at w32 bytes → pairs_in bytes ≡ []
unfolding pairs_in
in_none bytes e = ap (λ (o : Option (ℕ × List ℕ)). option_map_or (λ size. pairs_from (length bytes) size.1) o []) (sym e)

pub in_some : (bytes behind : List ℕ) (n : ℕ) → Some (n, behind) ≡ number_at w32 bytes → pairs_in bytes ≡ pairs_from (length behind) behind
unfolding pairs_in
in_some bytes behind n e =
    let whole : 4 + length behind ≡ length bytes = (number_size w32).whole bytes n behind (sym e) in
    ap (λ (o : Option (ℕ × List ℕ)). option_map_or (λ size. pairs_from (length bytes) size.1) o []) (sym e)
    ∙ from_enough (length bytes) (length behind) behind (omega arith) (omega arith)

from_again : (most : ℕ) (pairs : List Pair) → All IsPair pairs → length (pairs_bytes pairs) ≤ most → pairs_from most (pairs_bytes pairs) ≡ pairs
from_again most [] h long = from_none most [] nothing_at
from_again zero (p ∷ ps) h long = absurd (omega (arith, bytes_some p ps))
from_again (suc most) (p ∷ ps) h long =
    let here = front_again p (pairs_bytes ps) (All-head IsPair p ps h) in
    let less : length (pairs_bytes ps) < length (pairs_bytes (p ∷ ps)) = shorter (pairs_bytes (p ∷ ps)) (pairs_bytes ps) p here in
    from_some most (pairs_bytes (p ∷ ps)) (pairs_bytes ps) p here ∙ ap (λ (l : List Pair). p ∷ l) (from_again most ps (All-tail IsPair p ps h) (omega (arith, less, long)))

-- what is written is read back
pub read_back : (pairs : List Pair) → HaveSection pairs → pairs_in (section_of pairs) ≡ pairs
read_back [] h = ap pairs_in section_none ∙ in_none [] refl
read_back (p ∷ ps) h =
    let behind : List ℕ = pairs_bytes (p ∷ ps) in
    ap pairs_in (section_some p ps)
    ∙ in_some (to_be_bytes w32 (length behind) ++ behind) behind (length behind) (sym (number_again w32 (2 ^ 32) wide32 (length behind) behind h.fits))
    ∙ from_again (length behind) (p ∷ ps) h.together.each (omega arith)

pub its_pairs : (pairs : List Pair) (bytes : List ℕ) → IsSection pairs bytes → pairs_in bytes ≡ pairs
its_pairs pairs bytes s = ap pairs_in s.spelled ∙ read_back pairs s.whole
