-- What is found and what is left isn't too long.
use Rattle.std.proofs.Common.{◌≡◌, ℕ, zero, suc, ◌+◌, ◌/◌, ◌%◌, ◌<◌, ◌≤◌, ◌^◌, List, [], ◌∷◌, ◌++◌, length, Bool, true, false, cond, Some, Result, Ok, refl, ap, subst, arith, length-append}
use Rattle.std.specs.Prelude.{nat_lt, ◌==◌}
use Rattle.std.specs.Fmt.{digit_glyph, digits_onto, digits, decimal}
use Rattle.std.proofs.lemmas.Bool.Decides.{nat_tests}
use Rattle.std.proofs.lemmas.Fmt.{length-decimal-le}
use Rattle.doc_model.specs.declared.status.Status.{Status}
use Rattle.json_model.specs.declared.TheConstants.{TEXT_LIMIT}
use Rattle.json_model.specs.declared.kinds.Shape.{Shape}
use Rattle.json_model.specs.declared.asked.Part.{Part}
use Rattle.json_model.specs.declared.asked.Lookup.{Lookup}
use Rattle.json_model.specs.declared.asked.Lookup.TheVariants as lookups
use Rattle.json_model.specs.declared.asked.Edit.{Edit}
use Rattle.json_model.specs.Spelled.{Tree, leaf, empty, group, Parts, last, more, closing, head_text, text, parts_text, count, Fits, PartsFit}
use Rattle.json_model.specs.Follow.{child, Outcome, reached, missing, mismatch, Follows}
use Rattle.json_model.specs.Splices.{Reaches, here, there}
use Rattle.json_model.specs.Edit.{looked, look_at}
use Rattle.json_model.specs.Order.{EditedText}
use Rattle.json_model.proofs.Following.{reached_trail}
use Rattle.json_spell.proofs.Again.{tree_first}
use Rattle.subdoc_step.specs.Texts.{read_text}
use Rattle.subdoc_step.specs.Paths.{read_parts, followed}
use Rattle.subdoc_step.specs.Answers.{◌>>=◌, looked_up, edited}
use Rattle.subdoc_step.proofs.Texts.{read_is}
use Rattle.subdoc_step.proofs.Followed.{child_fits, follows}
use Rattle.subdoc_step.proofs.Went.{gave, went}

-- ---- a value is within its text

child_length : (k : ℕ) (ps : Parts) (u : Tree) → child ps k ≡ Some u → length (text u) ≤ length (parts_text ps)
child_length zero (last h t g) u e =
    let same : t ≡ u = cc in
    omega (arith, ap (λ (v : Tree). length (text v)) same, length-append (head_text h) (text t ++ g), length-append (text t) g)
child_length (suc k) (last h t g) u e = cc
child_length zero (more h t g ps) u e =
    let same : t ≡ u = cc in
    omega (arith, ap (λ (v : Tree). length (text v)) same, length-append (head_text h) (text t ++ (g ++ 0x2c ∷ parts_text ps)), length-append (text t) (g ++ 0x2c ∷ parts_text ps))
child_length (suc k) (more h t g ps) u e =
    omega (arith, child_length k ps u e, length-append (head_text h) (text t ++ (g ++ 0x2c ∷ parts_text ps)), length-append (text t) (g ++ 0x2c ∷ parts_text ps), length-append g (0x2c ∷ parts_text ps))

trail_length : (trail : List ℕ) (root t : Tree) → Reaches trail root t → length (text t) ≤ length (text root)
trail_length trail root t (here u) = omega arith
trail_length trail root t (there k ks shape ps u v e r) =
    omega (arith, trail_length ks u v r, child_length k ps u e, length-append (parts_text ps) (closing shape ∷ []))

trail_fits : (trail : List ℕ) (root t : Tree) → Reaches trail root t → Fits root → Fits t
trail_fits trail root t (here u) f = f
trail_fits trail root t (there k ks shape ps u v e r) f = trail_fits ks u v r (child_fits shape k ps u e f)

-- ---- a count is short

some_text : (t : Tree) → Fits t → 0 < length (text t)
some_text t f = let first = tree_first t f in omega (arith, ap (λ (l : List ℕ). length l) first.whole)

count_within : (shape : Shape) (ps : Parts) → PartsFit shape ps → count ps ≤ length (parts_text ps)
count_within shape (last h t g) f = omega (arith, some_text t f.1, length-append (head_text h) (text t ++ g), length-append (text t) g)
count_within shape (more h t g ps) f =
    omega (arith, some_text t f.1, count_within shape ps f.3, length-append (head_text h) (text t ++ (g ++ 0x2c ∷ parts_text ps)), length-append (text t) (g ++ 0x2c ∷ parts_text ps), length-append g (0x2c ∷ parts_text ps))

if_length : (b : Bool) (x y : List ℕ) (most : ℕ) → length x ≤ most → length y ≤ most → length (cond b x y) ≤ most
if_length true x y most f g = f
if_length false x y most f g = g

onto_length : (k base : ℕ) (upper : Bool) (n : ℕ) (acc : List ℕ) → length (digits_onto k base upper n acc) ≤ k + length acc
onto_length zero base upper n acc = omega arith
onto_length (suc k) base upper n acc =
    if_length (n / base == 0) (digit_glyph upper (n % base) ∷ acc) (digits_onto k base upper (n / base) (digit_glyph upper (n % base) ∷ acc)) (suc k + length acc)
    (omega arith) (omega (arith, onto_length k base upper (n / base) (digit_glyph upper (n % base) ∷ acc)))

decimal_length : (n : ℕ) → length (decimal n) ≤ 64
unfolding digits
decimal_length n = onto_length 64 10 false n []

-- a number's digits are no more than the number, or 20
decimal_short : (n most : ℕ) → n ≤ most → length (decimal n) ≤ most + 20
decimal_short n most h = by_size (nat_lt n (2 ^ 64)) refl
  where
    is_small : (n : ℕ) → nat_lt n (2 ^ 64) ≡ true → n < 2 ^ 64
    is_small n e = grind (arith, nat_tests)

    is_large : (n : ℕ) → nat_lt n (2 ^ 64) ≡ false → 64 ≤ n
    is_large n e = grind (arith, nat_tests)

    by_size : (b : Bool) → nat_lt n (2 ^ 64) ≡ b → length (decimal n) ≤ most + 20
    by_size true e =
        let small : n < 2 ^ 64 = is_small n e in
        omega (arith, length-decimal-le 20 n (omega arith) (omega (arith, small)) small)
    by_size false e = omega (arith, decimal_length n, is_large n e, h)

-- ---- what is found

abbrev bytes_are : List ℕ → Result (List ℕ) Status
bytes_are bytes = Ok bytes

looked_length : (lookup : Lookup) (t : Tree) (bytes : List ℕ) → Fits t → looked lookup t ≡ bytes_are bytes → length bytes ≤ length (text t) + 20
looked_length lookups.Get t bytes f e = let same : text t ≡ bytes = cc in omega (arith, ap (λ (l : List ℕ). length l) same)
looked_length lookups.Exists t bytes f e = let same : [] ≡ bytes = cc in omega (arith, ap (λ (l : List ℕ). length l) same)
looked_length lookups.GetCount (leaf kind s) bytes f e = cc
looked_length lookups.GetCount (empty shape gap) bytes f e =
    let same : decimal 0 ≡ bytes = cc in
    subst (λ (l : List ℕ). length l ≤ length (text (empty shape gap)) + 20) same (decimal_short 0 (length (text (empty shape gap))) (omega arith))
looked_length lookups.GetCount (group shape ps) bytes f e =
    let same : decimal (count ps) ≡ bytes = cc in
    let within : count ps ≤ length (text (group shape ps)) = omega (arith, count_within shape ps f, length-append (parts_text ps) (closing shape ∷ [])) in
    subst (λ (l : List ℕ). length l ≤ length (text (group shape ps)) + 20) same (decimal_short (count ps) (length (text (group shape ps))) within)

look_length : (lookup : Lookup) (parts : List Part) (tree : Tree) (bytes : List ℕ) (o : Outcome) → Fits tree → Follows parts tree o → look_at lookup o ≡ bytes_are bytes → length bytes ≤ length (text tree) + 20
look_length lookup parts tree bytes (reached trail t) f follow e =
    let r = reached_trail parts tree trail t follow in
    omega (arith, looked_length lookup t bytes (trail_fits trail tree t r f) e, trail_length trail tree t r)
look_length lookup parts tree bytes (missing trail t absent) f follow e = cc
look_length lookup parts tree bytes (mismatch d) f follow e = cc

pub found_within : (lookup : Lookup) (text path bytes : List ℕ) → looked_up lookup text path ≡ Ok bytes → length bytes ≤ length text + 20
unfolding looked_up
found_within lookup all path bytes e =
    let a = gave (read_parts path) (λ parts. read_text all >>= λ d. look_at lookup (followed parts d.tree)) bytes e in
    let b = gave (read_text all) (λ d. look_at lookup (followed a.value d.tree)) bytes a.then_is in
    let is = read_is all b.value b.is in
    let d = b.value in
    omega (
      arith,
      look_length lookup a.value d.tree bytes (followed a.value d.tree) is.tree (follows a.value d.tree is.tree) b.then_is,
      ap (λ (l : List ℕ). length l) is.spelled,
      length-append d.before (text d.tree ++ d.after),
      length-append (text d.tree) d.after,
    )

-- ---- what is left

pub left_within : (edit : Edit) (several : Bool) (text path value : List ℕ) (e : EditedText) → edited edit several text path value ≡ Ok e → length e.text ≤ TEXT_LIMIT
left_within edit several text path value e h = (went edit several text path value e h).room
