-- What is left of bytes is no longer than they are.
use Rattle.std.proofs.Common.{ℕ, ◌+◌, ◌-◌, ◌≤◌, List, [], ◌∷◌, length, drop, Bool, true, false, cond, eqb, arith, length-drop}
use Rattle.json_model.specs.declared.kinds.Shape.{Shape}
use Rattle.json_model.specs.declared.kinds.Shape.TheVariants as shapes
use Rattle.json_spell.specs.Tokens.{behind_gap}
use Rattle.json_spell.proofs.Placed.{behind_short}
use Rattle.json_walk.specs.Stepping.{opens, closes, ends_word, behind_word, behind_string, behind_escape, closed_at, string_at, escape_at, behind_value, behind_key, behind_colon}

one_of : (b : Bool) (x y : List ℕ) (n : ℕ) → length x ≤ n → length y ≤ n → length (cond b x y) ≤ n
one_of true x y n p q = p
one_of false x y n p q = q

longer : (x : ℕ) (xs ys : List ℕ) → length ys ≤ length xs → length ys ≤ length (x ∷ xs)
longer x xs ys h = omega (arith, h)

mutual
  unfolding behind_string behind_escape

  pub string_short : (xs : List ℕ) → length (behind_string xs) ≤ length xs
  string_short [] = omega arith
  string_short (x ∷ xs) =
      one_of (eqb x 0x22) xs (cond (eqb x 0x5c) (behind_escape xs) (behind_string xs)) (length (x ∷ xs)) (longer x xs xs (omega arith))
      (one_of (eqb x 0x5c) (behind_escape xs) (behind_string xs) (length (x ∷ xs)) (longer x xs (behind_escape xs) (escape_short xs)) (longer x xs (behind_string xs) (string_short xs)))

  escape_short : (xs : List ℕ) → length (behind_escape xs) ≤ length xs
  escape_short [] = omega arith
  escape_short (x ∷ xs) = longer x xs (behind_string xs) (string_short xs)

word_short : (xs : List ℕ) → length (behind_word xs) ≤ length xs
unfolding behind_word
word_short [] = omega arith
word_short (x ∷ xs) = one_of (ends_word x) (x ∷ xs) (behind_word xs) (length (x ∷ xs)) (omega arith) (longer x xs (behind_word xs) (word_short xs))

mutual
  unfolding closed_at string_at escape_at

  closed_short : (depth : ℕ) (xs : List ℕ) → length (closed_at depth xs) ≤ length xs
  closed_short depth [] = omega arith
  closed_short depth (x ∷ xs) =
      let outer : List ℕ = closed_at (depth - 1) xs in
      let shut : List ℕ = cond (eqb depth 0) xs outer in
      let same : List ℕ = closed_at depth xs in
      let inner : List ℕ = closed_at (depth + 1) xs in
      let quoted : List ℕ = string_at depth xs in
      let n : ℕ = length (x ∷ xs) in
      one_of (eqb x 0x22) quoted (cond (opens x) inner (cond (closes x) shut same)) n (longer x xs quoted (within_short depth xs))
      (one_of (opens x) inner (cond (closes x) shut same) n (longer x xs inner (closed_short (depth + 1) xs))
      (one_of (closes x) shut same n
      (one_of (eqb depth 0) xs outer n (longer x xs xs (omega arith)) (longer x xs outer (closed_short (depth - 1) xs)))
      (longer x xs same (closed_short depth xs))))

  within_short : (depth : ℕ) (xs : List ℕ) → length (string_at depth xs) ≤ length xs
  within_short depth [] = omega arith
  within_short depth (x ∷ xs) =
      let closed : List ℕ = closed_at depth xs in
      let escaped : List ℕ = escape_at depth xs in
      let same : List ℕ = string_at depth xs in
      let n : ℕ = length (x ∷ xs) in
      one_of (eqb x 0x22) closed (cond (eqb x 0x5c) escaped same) n (longer x xs closed (closed_short depth xs))
      (one_of (eqb x 0x5c) escaped same n (longer x xs escaped (skipped_short depth xs)) (longer x xs same (within_short depth xs)))

  skipped_short : (depth : ℕ) (xs : List ℕ) → length (escape_at depth xs) ≤ length xs
  skipped_short depth [] = omega arith
  skipped_short depth (x ∷ xs) = longer x xs (string_at depth xs) (within_short depth xs)

pub value_short : (xs : List ℕ) → length (behind_value xs) ≤ length xs
value_short [] = omega arith
value_short (x ∷ xs) =
    let n : ℕ = length (x ∷ xs) in
    let word : List ℕ = behind_word (x ∷ xs) in
    one_of (eqb x 0x22) (behind_string xs) (cond (opens x) (closed_at 0 xs) word) n (longer x xs (behind_string xs) (string_short xs))
    (one_of (opens x) (closed_at 0 xs) word n (longer x xs (closed_at 0 xs) (closed_short 0 xs)) (word_short (x ∷ xs)))

pub key_short : (shape : Shape) (xs : List ℕ) → length (behind_key shape xs) ≤ length xs
key_short shapes.Object xs = value_short xs
key_short shapes.Array xs = omega arith

pub colon_short : (shape : Shape) (xs : List ℕ) → length (behind_colon shape xs) ≤ length xs
colon_short shapes.Object xs =
    omega (arith, behind_short (drop 1 (behind_gap xs)), length-drop 1 (behind_gap xs), behind_short xs)
colon_short shapes.Array xs = omega arith
