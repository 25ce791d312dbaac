-- A change of the value at a place is a change of the bytes there alone.
use Rattle.std.proofs.Common.{◌≡◌, ℕ, zero, suc, ◌+◌, List, [], ◌∷◌, ◌++◌, length, take, drop, Some, Option, unwrap_or, refl, sym, ap, ◌∙◌, arith, append_assoc, length-append}
use Rattle.std.proofs.lemmas.List.{drop_at, take_at}
use Rattle.json_model.specs.declared.kinds.Shape.{Shape}
use Rattle.json_model.specs.Spelled.{Tree, group, Parts, last, more, opening, closing, head_text, text, parts_text, Document, IsText}
use Rattle.json_model.specs.Moves.{at_part, at_trail}
use Rattle.json_walk.specs.Places.{StaysRound}
use Rattle.json_walk.specs.Telling.{tree_end, first_tree, part_at, end_at, parts_from}

-- the same for the value of one of some parts
record StaysInParts (change : (Tree → Tree) → List ℕ) (at place : ℕ) (t : Tree) : Type 0 where
  front : List ℕ
  back : List ℕ
  at_is : at + length front ≡ place
  spliced : (f : Tree → Tree) → change f ≡ front ++ (text (f t) ++ back)

first_last : (at : ℕ) (ps left : Parts) (from : ℕ) → parts_from zero at ps ≡ Some (from, left) → (part_at at ps).value ≡ (part_at from left).value
first_last at ps left from e = ap (λ (o : Option (ℕ × Parts)). (part_at (unwrap_or o (at, ps)).0 (unwrap_or o (at, ps)).1).value) e

first_same : (at : ℕ) (ps left : Parts) (from : ℕ) → parts_from zero at ps ≡ Some (from, left) → first_tree ps ≡ first_tree left
first_same at ps left from e = ap (λ (o : Option (ℕ × Parts)). first_tree (unwrap_or o (at, ps)).1) e

parts_stay : (k at : ℕ) (ps : Parts) (from : ℕ) (left : Parts) → parts_from k at ps ≡ Some (from, left) → StaysInParts (λ f. parts_text (at_part k f ps)) at (part_at from left).value (first_tree left)
parts_stay zero at (last h u g) from left e =
    let value = first_last at (last h u g) left from e in
    let same : u ≡ first_tree left = first_same at (last h u g) left from e in
    record { front = head_text h; back = g; at_is = value; spliced = λ f. ap (λ v. head_text h ++ (text (f v) ++ g)) same }
parts_stay (suc k) at (last h u g) from left e = cc
parts_stay zero at (more h u g ps) from left e =
    let value = first_last at (more h u g ps) left from e in
    let same : u ≡ first_tree left = first_same at (more h u g ps) left from e in
    record { front = head_text h; back = g ++ 0x2c ∷ parts_text ps; at_is = value; spliced = λ f. ap (λ v. head_text h ++ (text (f v) ++ (g ++ 0x2c ∷ parts_text ps))) same }
parts_stay (suc k) at (more h u g ps) from left e =
    let s = parts_stay k (end_at at (more h u g ps) + length g + 1) ps from left e in
    let before : List ℕ = head_text h ++ (text u ++ (g ++ 0x2c ∷ s.front)) in
    record {
      front = before;
      back = s.back;
      at_is = omega (arith, s.at_is, length-append (head_text h) (text u ++ (g ++ 0x2c ∷ s.front)), length-append (text u) (g ++ 0x2c ∷ s.front), length-append g (0x2c ∷ s.front));
      spliced = λ f. ap (λ l. head_text h ++ (text u ++ (g ++ 0x2c ∷ l))) (s.spliced f) ∙ simp append_assoc;
    }

pub part_stays : (change : (Tree → Tree) → List ℕ) (at : ℕ) (shape : Shape) (ps : Parts) (k from : ℕ) (left : Parts) → StaysRound change at (group shape ps) → parts_from k (at + 1) ps ≡ Some (from, left)
    → StaysRound (λ f. change (λ t. at_trail (k ∷ []) f t)) (part_at from left).value (first_tree left)
part_stays change at shape ps k from left s e =
    let p = parts_stay k (at + 1) ps from left e in
    record {
      front = s.front ++ opening shape ∷ p.front;
      back = p.back ++ closing shape ∷ s.back;
      at_is = omega (arith, s.at_is, p.at_is, length-append s.front (opening shape ∷ p.front));
      spliced = λ f. s.spliced (λ t. at_trail (k ∷ []) f t) ∙ ap (λ l. s.front ++ (opening shape ∷ (l ++ closing shape ∷ []) ++ s.back)) (p.spliced f) ∙ simp append_assoc;
    }

pub whole_stays : (most : ℕ) (d : Document) (bytes : List ℕ) → IsText most d bytes → StaysRound (λ f. d.before ++ (text (f d.tree) ++ d.after)) (length d.before) d.tree
whole_stays most d bytes s = record { front = d.before; back = d.after; at_is = refl; spliced = λ f. refl }

pub stays_spliced : (change : (Tree → Tree) → List ℕ) (bytes : List ℕ) (at : ℕ) (t : Tree) → StaysRound change at t → change (λ u. u) ≡ bytes
    → (f : Tree → Tree) → change f ≡ take at bytes ++ (text (f t) ++ drop (tree_end at t) bytes)
stays_spliced change bytes at t s e f =
    let whole : bytes ≡ s.front ++ (text t ++ s.back) = sym e ∙ s.spliced (λ u. u) in
    let a : take at bytes ≡ s.front = ap (take at) whole ∙ take_at s.front (text t ++ s.back) at s.at_is in
    let n : length (s.front ++ text t) ≡ tree_end at t = omega (arith, s.at_is, length-append s.front (text t)) in
    let b : drop (tree_end at t) bytes ≡ s.back = ap (drop (tree_end at t)) (whole ∙ sym (append_assoc s.front (text t) s.back)) ∙ drop_at (s.front ++ text t) s.back (tree_end at t) n in
    s.spliced f ∙ ap (λ l. l ++ (text (f t) ++ s.back)) (sym a) ∙ ap (λ l. take at bytes ++ (text (f t) ++ l)) (sym b)
