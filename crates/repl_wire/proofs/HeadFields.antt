-- The head of a message: what was read of it, field by field.
use Rattle.std.specs.Prelude.{◌≡◌, ℕ, ◌+◌, ◌<◌, ◌≤◌, ◌^◌, nat_eq, nat_le, Bool, true, false, not, List, ◌∷◌, ◌++◌, length, IsTrue, refl, if◌then◌else◌}
use Rattle.std.specs.Int.{w16, w32, to_be_bytes}
use Rattle.std.proofs.Common.{inl, inr, ap, ◌∙◌, append_assoc, arith}
use Rattle.std.proofs.lemmas.Bool.{and_parts}
use Rattle.std.proofs.lemmas.Bool.Decides.{nat_tests}
use Rattle.std.proofs.lemmas.List.{length-append}
use Rattle.repl_wire.specs.declared.heads.Head.{Head}
use Rattle.repl_wire.specs.declared.heads.HeadFault.{HeadFault}
use Rattle.repl_wire.specs.declared.limits.TheConstants.{BODY_LIMIT}
use Rattle.repl_wire.specs.Grammar.{is_place, is_other, is_any, is_size, head_bytes, head_layout}
use Rattle.repl_wire.specs.Judging.{HeadAt}
use Rattle.repl_wire.specs.Layout.{Size, bytes_in, Layout, anything, number, one, two, four, digits, within, RightAt, Fits, Ends}
use Rattle.repl_wire.specs.Reading.{HeadFails}
use Rattle.repl_wire.proofs.Layouts.{head_behind, IsOpen}
use Rattle.repl_wire.proofs.OneNumber.{digits_length, number_one, same_number}

-- ---- what follows each field

abbrev pub size_part : ℕ → Layout
size_part kind = number four (is_size kind) (λ size. anything)

abbrev pub unused_part : ℕ → Layout
unused_part kind = number two (within 0 0) (λ unused. size_part kind)

abbrev pub vbucket_part : ℕ → Layout
vbucket_part kind = number two is_any (λ vbucket. unused_part kind)

abbrev pub target_part : ℕ → ℕ → Layout
target_part kind from = number one (is_other from) (λ to. vbucket_part kind)

abbrev pub source_part : ℕ → Layout
source_part kind = number one is_place (λ from. target_part kind from)

abbrev pub kind_part : Layout
kind_part = number one (within 1 4) source_part

-- ---- the fields that were read

-- the mark and the kind
pub record Begun (bytes : List ℕ) (kind : ℕ) (rest : List ℕ) : Type 0 where
  pub mark : ℕ
  pub middle : List ℕ
  pub first : RightAt one (within 0x70 0x70) bytes mark middle
  pub second : RightAt one (within 1 4) middle kind rest

-- the two places behind them
pub record Routed (bytes : List ℕ) (kind from to : ℕ) (rest : List ℕ) : Type 0 where
  pub front : List ℕ
  pub middle : List ℕ
  pub begun : Begun bytes kind front
  pub source : RightAt one is_place front from middle
  pub target : RightAt one (is_other from) middle to rest

-- the vbucket and the unused bytes
pub record Placed (bytes : List ℕ) (kind from to vbucket : ℕ) (rest : List ℕ) : Type 0 where
  pub front : List ℕ
  pub middle : List ℕ
  pub routed : Routed bytes kind from to front
  pub number : RightAt two is_any front vbucket middle
  pub unused : RightAt two (within 0 0) middle 0 rest

pub begun_fails : (bytes : List ℕ) (kind : ℕ) (rest : List ℕ) (fault : HeadFault) → Begun bytes kind rest → HeadFails (source_part kind) rest fault → HeadFails head_layout bytes fault
begun_fails bytes kind rest fault b f =
    head_behind one (within 0x70 0x70) (λ mark. kind_part) bytes b.mark b.middle fault b.first
    (head_behind one (within 1 4) source_part b.middle kind rest fault b.second f)

pub source_fails : (bytes : List ℕ) (kind from : ℕ) (front rest : List ℕ) (fault : HeadFault) → Begun bytes kind front → RightAt one is_place front from rest → HeadFails (target_part kind from) rest fault → HeadFails head_layout bytes fault
source_fails bytes kind from front rest fault b at f =
    begun_fails bytes kind front fault b (head_behind one is_place (λ from. target_part kind from) front from rest fault at f)

pub routed_fails : (bytes : List ℕ) (kind from to : ℕ) (rest : List ℕ) (fault : HeadFault) → Routed bytes kind from to rest → HeadFails (vbucket_part kind) rest fault → HeadFails head_layout bytes fault
routed_fails bytes kind from to rest fault r f =
    source_fails bytes kind from r.front r.middle fault r.begun r.source
    (head_behind one (is_other from) (λ to. vbucket_part kind) r.middle to rest fault r.target f)

pub vbucket_fails : (bytes : List ℕ) (kind from to vbucket : ℕ) (front rest : List ℕ) (fault : HeadFault) → Routed bytes kind from to front → RightAt two is_any front vbucket rest → HeadFails (unused_part kind) rest fault → HeadFails head_layout bytes fault
vbucket_fails bytes kind from to vbucket front rest fault r at f =
    routed_fails bytes kind from to front fault r (head_behind two is_any (λ vbucket. unused_part kind) front vbucket rest fault at f)

pub placed_fails : (bytes : List ℕ) (kind from to vbucket : ℕ) (rest : List ℕ) (fault : HeadFault) → Placed bytes kind from to vbucket rest → HeadFails (size_part kind) rest fault → HeadFails head_layout bytes fault
placed_fails bytes kind from to vbucket rest fault p f =
    vbucket_fails bytes kind from to vbucket p.front p.middle fault p.routed p.number
    (head_behind two (within 0 0) (λ unused. size_part kind) p.middle 0 rest fault p.unused f)

-- ---- a head keeps its layout

at_most : (n most : ℕ) → IsTrue (nat_le n most) → n ≤ most
at_most n most h = grind (arith, nat_tests)

below_four : (least n : ℕ) → IsTrue (within least 4 n) → n ≤ 4
below_four least n h = grind (arith, nat_tests)

other_place : (from to : ℕ) → IsTrue (is_other from to) → to ≤ 3
other_place from to h = at_most to 3 (and_parts (nat_le to 3) (not (nat_eq from to)) h).0

-- a body's size has four bytes
pub size_small : (kind size : ℕ) → IsTrue (is_size kind size) → size < 2 ^ 32
size_small kind size h = go (nat_eq kind 2) (nat_eq kind 3) h
  where
    up_to : (least most : ℕ) → IsTrue (within least most size) → size ≤ most
    up_to least most h = at_most size most (and_parts (nat_le least size) (nat_le size most) h).1

    go : (a b : Bool) → IsTrue (within (if a then 24 else (if b then 32 else 16)) (if a then 24 else (if b then 32 else BODY_LIMIT)) size) → size < 2 ^ 32
    go true b h = let l = up_to 24 24 h in omega arith
    go false true h = let l = up_to 32 32 h in omega arith
    go false false h = let l = up_to 16 BODY_LIMIT h in omega arith

pub head_fits : (bytes : List ℕ) (head : Head) (rest : List ℕ) → HeadAt bytes head rest → Fits head_layout bytes
head_fits bytes head rest at =
    let right = at.right in
    let kind = below_four 1 head.kind right.kind in
    let from = at_most head.from 3 right.source in
    let to = other_place head.from head.to right.target in
    let size_on : List ℕ = to_be_bytes w32 head.size ++ rest in
    let unused_on : List ℕ = to_be_bytes w16 0 ++ size_on in
    let vbucket_on : List ℕ = to_be_bytes w16 head.vbucket ++ unused_on in
    let front : bytes ≡ 0x70 ∷ head.kind ∷ head.from ∷ head.to ∷ vbucket_on =
    at.front ∙ ap (λ l. 0x70 ∷ head.kind ∷ head.from ∷ head.to ∷ l) (three (to_be_bytes w16 head.vbucket) (to_be_bytes w16 0) (to_be_bytes w32 head.size) rest) in (
      0x70,
      head.kind ∷ head.from ∷ head.to ∷ vbucket_on,
      record { number = record { front = front; small = omega arith }; passes = refl },
      (
        head.kind,
        head.from ∷ head.to ∷ vbucket_on,
        record { number = record { front = refl; small = omega arith }; passes = right.kind },
        (
          head.from,
          head.to ∷ vbucket_on,
          record { number = record { front = refl; small = omega arith }; passes = right.source },
          (
            head.to,
            vbucket_on,
            record { number = record { front = refl; small = omega arith }; passes = right.target },
            (
              head.vbucket,
              unused_on,
              record { number = record { front = refl; small = right.vbucket }; passes = refl },
              (
                0,
                size_on,
                record { number = record { front = refl; small = omega arith }; passes = refl },
                (head.size, rest, record { number = record { front = refl; small = size_small head.kind head.size right.size }; passes = right.size }, tt),
              ),
            ),
          ),
        ),
      ),
    )
  where
    three : (x y z w : List ℕ) → (x ++ (y ++ z)) ++ w ≡ x ++ (y ++ (z ++ w))
    three x y z w = simp append_assoc

pub head_open : IsOpen head_layout
head_open = λ mark kind from to vbucket unused size. tt

-- ---- a head has 12 bytes

longer : (size : Size) (test : ℕ → Bool) (bytes : List ℕ) (n : ℕ) (rest : List ℕ) → RightAt size test bytes n rest → length bytes ≡ bytes_in size + length rest
longer size test bytes n rest at = let d = digits_length size n in omega (arith, ap length at.number.front, length-append (digits size n) rest)

size_ends : (kind : ℕ) (bytes : List ℕ) → Ends (size_part kind) bytes → length bytes < 4
size_ends kind bytes (inl h) = h
size_ends kind bytes (inr e) = absurd e.3

unused_ends : (kind : ℕ) (bytes : List ℕ) → Ends (unused_part kind) bytes → length bytes < 6
unused_ends kind bytes (inl h) = omega arith
unused_ends kind bytes (inr e) = let l = size_ends kind e.1 e.3 in let m = longer two (within 0 0) bytes e.0 e.1 e.2 in omega arith

vbucket_ends : (kind : ℕ) (bytes : List ℕ) → Ends (vbucket_part kind) bytes → length bytes < 8
vbucket_ends kind bytes (inl h) = omega arith
vbucket_ends kind bytes (inr e) = let l = unused_ends kind e.1 e.3 in let m = longer two is_any bytes e.0 e.1 e.2 in omega arith

target_ends : (kind from : ℕ) (bytes : List ℕ) → Ends (target_part kind from) bytes → length bytes < 9
target_ends kind from bytes (inl h) = omega arith
target_ends kind from bytes (inr e) = let l = vbucket_ends kind e.1 e.3 in let m = longer one (is_other from) bytes e.0 e.1 e.2 in omega arith

source_ends : (kind : ℕ) (bytes : List ℕ) → Ends (source_part kind) bytes → length bytes < 10
source_ends kind bytes (inl h) = omega arith
source_ends kind bytes (inr e) = let l = target_ends kind e.0 e.1 e.3 in let m = longer one is_place bytes e.0 e.1 e.2 in omega arith

kind_ends : (bytes : List ℕ) → Ends kind_part bytes → length bytes < 11
kind_ends bytes (inl h) = omega arith
kind_ends bytes (inr e) = let l = source_ends e.0 e.1 e.3 in let m = longer one (within 1 4) bytes e.0 e.1 e.2 in omega arith

pub head_ends : (bytes : List ℕ) → Ends head_layout bytes → length bytes < 12
head_ends bytes (inl h) = omega arith
head_ends bytes (inr e) = let l = kind_ends e.1 e.3 in let m = longer one (within 0x70 0x70) bytes e.0 e.1 e.2 in omega arith

pub head_length : (bytes : List ℕ) (head : Head) (rest : List ℕ) → HeadAt bytes head rest → length bytes ≡ 12 + length rest
head_length bytes head rest at = omega (arith, ap length at.front, length-append (head_bytes head.kind head.from head.to head.vbucket head.size) rest)

-- ---- bytes begin with one head

pub record SameHead (h k : Head) (r s : List ℕ) : Type 0 where
  pub kind : h.kind ≡ k.kind
  pub source : h.from ≡ k.from
  pub target : h.to ≡ k.to
  pub vbucket : h.vbucket ≡ k.vbucket
  pub size : h.size ≡ k.size
  pub rest : r ≡ s

pub same_head : (bytes : List ℕ) (h k : Head) (r s : List ℕ) → HeadAt bytes h r → HeadAt bytes k s → SameHead h k r s
unfolding head_fits
same_head bytes h k r s p q =
    let f = head_fits bytes h r p in
    let g = head_fits bytes k s q in
    let mark = number_one one bytes f.0 g.0 f.1 g.1 f.2.number g.2.number in
    let e1 : h.kind ∷ f.3.1 ≡ k.kind ∷ g.3.1 = mark.rest in
    let kind = same_number one h.kind k.kind f.3.1 g.3.1 f.3.2.number.small g.3.2.number.small e1 in
    let e2 : h.from ∷ f.3.3.1 ≡ k.from ∷ g.3.3.1 = kind.rest in
    let source = same_number one h.from k.from f.3.3.1 g.3.3.1 f.3.3.2.number.small g.3.3.2.number.small e2 in
    let e3 : h.to ∷ f.3.3.3.1 ≡ k.to ∷ g.3.3.3.1 = source.rest in
    let target = same_number one h.to k.to f.3.3.3.1 g.3.3.3.1 f.3.3.3.2.number.small g.3.3.3.2.number.small e3 in
    let vbucket = same_number two h.vbucket k.vbucket f.3.3.3.3.1 g.3.3.3.3.1 f.3.3.3.3.2.number.small g.3.3.3.3.2.number.small target.rest in
    let unused = same_number two 0 0 f.3.3.3.3.3.1 g.3.3.3.3.3.1 (omega arith) (omega arith) vbucket.rest in
    let size = same_number four h.size k.size r s (size_small h.kind h.size p.right.size) (size_small k.kind k.size q.right.size) unused.rest in
    record { kind = kind.same; source = source.same; target = target.same; vbucket = vbucket.same; size = size.same; rest = size.rest }
