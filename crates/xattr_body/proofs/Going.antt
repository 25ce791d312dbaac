-- Pairs are read one after another.
use Rattle.std.proofs.Common.{◌≡◌, ◌≢◌, ℕ, ◌-◌, Bool, true, false, cond, eqb, List, [], ◌∷◌, ◌++◌, length, Option, Some, MatchOption, refl, sym, ap, subst, ◌∙◌, append_assoc, append-nil, length-append, arith, true≢false}
use Rattle.std.proofs.lemmas.List.{get_or_push, length_push}
use Rattle.std.proofs.lemmas.List.Elements.{All-push, All-nil}
use Rattle.std.proofs.lemmas.List.Concat.{flat_map-append}
use Rattle.std.proofs.lemmas.Bool.Decides.{nat_tests}
use Rattle.std.specs.List.{All}
use Rattle.xattr_body.specs.declared.xattrs.XattrFault.{XattrFault}
use Rattle.xattr_body.specs.declared.xattrs.XattrFault.TheVariants as fault
use Rattle.xattr_body.specs.Section.{Pair, same_name, IsPair, pair_bytes, names, are_distinct, pairs_bytes, ArePairs, IsSection}
use Rattle.xattr_body.specs.Faults.{IsBehindLength, NoPair, PairsBreak, Breaks, at_pair, IsNoSection}
use Rattle.xattr_body.specs.Fields.{PairAt, NoPairAt, Adds, IsNoPairs}
use Rattle.xattr_body.proofs.Names.{AreSeen, seen_twice, seen_once, names-append, not_true, not_false}
use Rattle.xattr_body.proofs.Pairs.{pair_same}
use Rattle.xattr_body.proofs.Sections.{broken_none}

-- pairs have been read as far as the rest, and a set has their names
pub record Reading (bytes rest : List ℕ) (pairs : List Pair) (has : List ℕ → Bool) : Type 0 where
  pub front : bytes ≡ pairs_bytes pairs ++ rest
  pub each : All IsPair pairs
  pub seen : AreSeen (names pairs) has

pub reading_none : (bytes : List ℕ) (has : List ℕ → Bool) → ((q : List ℕ) → has q ≡ false) → Reading bytes bytes [] has
reading_none bytes has none = record { front = refl; each = All-nil IsPair; seen = record { distinct = refl; there = none } }

bytes_push : (pairs : List Pair) (p : Pair) (rest : List ℕ) → pairs_bytes (pairs ++ p ∷ []) ++ rest ≡ pairs_bytes pairs ++ (pair_bytes p ++ rest)
bytes_push pairs p rest =
    ap (λ (l : List ℕ). l ++ rest) (flat_map-append pair_bytes pairs (p ∷ []) ∙ ap (λ (l : List ℕ). pairs_bytes pairs ++ l) (append-nil (pair_bytes p)))
    ∙ append_assoc (pairs_bytes pairs) (pair_bytes p) rest

pub reading_more : (bytes rest next : List ℕ) (pairs : List Pair) (p : Pair) (has now : List ℕ → Bool) → Reading bytes rest pairs has → PairAt rest p next → has p.0 ≡ false
    → ((q : List ℕ) → now q ≡ cond (same_name p.0 q) true (has q)) → Reading bytes next (pairs ++ p ∷ []) now
reading_more bytes rest next pairs p has now h at new updates = record {
  front = h.front ∙ ap (λ (l : List ℕ). pairs_bytes pairs ++ l) at.front ∙ sym (bytes_push pairs p next);
  each = All-push IsPair pairs p h.each at.good;
  seen = subst (λ (l : List (List ℕ)). AreSeen l now) (sym (names-append pairs (p ∷ []))) (seen_once (names pairs) has now p.0 h.seen new updates);
}

pub pairs_read : (bytes rest : List ℕ) (pairs : List Pair) (has : List ℕ → Bool) → Reading bytes rest pairs has → ArePairs pairs
pairs_read bytes rest pairs has h = record { each = h.each; distinct = h.seen.distinct }

pub all_read : (bytes rest : List ℕ) (pairs : List Pair) (has : List ℕ → Bool) → Reading bytes rest pairs has → rest ≡ [] → bytes ≡ pairs_bytes pairs
all_read bytes rest pairs has h e = h.front ∙ ap (λ (l : List ℕ). pairs_bytes pairs ++ l) e ∙ append-nil (pairs_bytes pairs)

last_of : (pairs : List Pair) (p : Pair) → All IsPair (pairs ++ p ∷ []) → IsPair p
last_of pairs p h = subst IsPair (get_or_push pairs p p (length pairs) refl) (h (length pairs) p (omega (arith, length_push pairs p)))

breaks_with : (bytes rest : List ℕ) (pairs : List Pair) (has : List ℕ → Bool) (offset : ℕ) → Reading bytes rest pairs has → rest ≢ [] → offset ≡ length bytes - length rest → NoPair pairs rest → PairsBreak bytes offset
breaks_with bytes rest pairs has offset h some at none = record {
  before = pairs;
  rest = rest;
  taken = omega (arith, at, ap length h.front, length-append (pairs_bytes pairs) rest);
  front = h.front;
  together = pairs_read bytes rest pairs has h;
  some = some;
  none = none;
}

-- no pair is next
pub none_next : (bytes rest : List ℕ) (pairs : List Pair) (has : List ℕ → Bool) (offset : ℕ) → Reading bytes rest pairs has → rest ≢ [] → offset ≡ length bytes - length rest → NoPairAt rest → PairsBreak bytes offset
none_next bytes rest pairs has offset h some at none =
    breaks_with bytes rest pairs has offset h some at (λ p more g e. none p more (record { good = last_of pairs p g.each; front = e }))

-- the next has a name that stood before
pub twice_next : (bytes rest next : List ℕ) (pairs : List Pair) (p : Pair) (has : List ℕ → Bool) (offset : ℕ) → Reading bytes rest pairs has → rest ≢ [] → offset ≡ length bytes - length rest → PairAt rest p next → has p.0 ≡ true → PairsBreak bytes offset
twice_next bytes rest next pairs p has offset h some at here twice =
    breaks_with bytes rest pairs has offset h some at (λ q more g e.
    let same = pair_same rest q p more next (record { good = last_of pairs q g.each; front = e }) here in
    let doubled : are_distinct (names (pairs ++ q ∷ [])) ≡ false = ap are_distinct (names-append pairs (q ∷ [])) ∙ seen_twice (names pairs) has q.0 h.seen (ap (λ (r : Pair). has r.0) same.0 ∙ twice) in
    true≢false (sym g.distinct ∙ doubled))

-- ---- why there is no section

pub broken_at : (bytes : List ℕ) (place : ℕ) → Breaks bytes place → IsNoSection bytes (fault.Bad place)
broken_at bytes place b = (b, λ pairs s. broken_none bytes place pairs b s)

pub broken_behind : (bytes behind : List ℕ) (f : XattrFault) → IsBehindLength bytes behind → IsNoPairs behind f → IsNoSection bytes f
broken_behind bytes behind (fault.Bad place) b h = broken_at bytes place (at_pair behind h.0 h.1 b h.2)
broken_behind bytes behind fault.NoMemory b h = tt

-- a section is found, unless memory was refused
pub only_broken : (bytes : List ℕ) (f : XattrFault) → IsNoSection bytes f → (pairs : List Pair) → IsSection pairs bytes → f ≡ fault.NoMemory
only_broken bytes (fault.Bad place) h pairs s = absurd (h.1 pairs s)
only_broken bytes fault.NoMemory h pairs s = refl

-- ---- as the loop has it

pub match_some : {A : Type 0} (r : Option A) (x : A) (P : Type 0) (Q : A → Type 0) → r ≡ Some x → MatchOption r P Q → Q x
match_some r x P Q e h = subst (λ o. MatchOption o P Q) e h

pub empty_is : {A : Type 0} (l : List A) → true ≡ eqb (length l) 0 → l ≡ []
empty_is [] e = refl
empty_is (x ∷ xs) e = absurd (grind (arith, nat_tests))

pub not_empty : {A : Type 0} (l : List A) → false ≡ eqb (length l) 0 → l ≢ []
not_empty [] e h = cc
not_empty (x ∷ xs) e h = cc

-- the next pair is read
pub next_read : (bytes rest next : List ℕ) (p : Pair) (pairs items : List Pair) (has now : List ℕ → Bool) (added : Bool) → Reading bytes rest pairs has → PairAt rest p next
    → Adds has now p.0 added → added ≡ true → items ≡ pairs ++ p ∷ [] → Reading bytes next items now
next_read bytes rest next p pairs items has now added h at adds was is =
    subst (λ (l : List Pair). Reading bytes next l now) (sym is)
    (reading_more bytes rest next pairs p has now h at (not_true (has p.0) (sym adds.told ∙ was)) adds.updates)

-- it has a name that stood before
pub next_twice : (bytes rest next : List ℕ) (p : Pair) (pairs : List Pair) (has now : List ℕ → Bool) (added : Bool) → Reading bytes rest pairs has → rest ≢ [] → PairAt rest p next
    → Adds has now p.0 added → added ≡ false → PairsBreak bytes (length bytes - length rest)
next_twice bytes rest next p pairs has now added h some at adds was =
    twice_next bytes rest next pairs p has (length bytes - length rest) h some refl at (not_false (has p.0) (sym adds.told ∙ was))
