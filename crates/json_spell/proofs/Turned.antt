-- Reading on by a token: the machine comes to the same, and fewer bytes are left.
use Rattle.std.proofs.Common.{◌≡◌, ℕ, zero, suc, ◌-◌, ◌*◌, ◌/◌, ◌^◌, ◌<◌, ◌≤◌, List, [], ◌∷◌, ◌++◌, length, take, drop, get_or, Bool, true, false, cond, eqb, Option, Some, None, Result, Ok, Err, refl, sym, ap, subst, ◌∙◌, arith, length-append}
use Rattle.std.specs.Prelude.{nat_lt}
use Rattle.std.proofs.Math.Nat.{div-lt_iff_lt-mul, pow-suc}
use Rattle.std.proofs.lemmas.Bool.Decides.{nat_tests}
use Rattle.std.proofs.lemmas.List.{take_all}
use Rattle.std.specs.Borrow.{Bor}
use Rattle.json_model.specs.declared.TheConstants.{MOST_DEEP}
use Rattle.json_model.specs.declared.kinds.Kind.{Kind}
use Rattle.json_model.specs.declared.kinds.Kind.TheVariants as kinds
use Rattle.json_model.specs.declared.kinds.Shape.{Shape}
use Rattle.json_model.specs.declared.kinds.Shape.TheVariants as shapes
use Rattle.json_model.specs.Grammar.{IsLeaf, IsWhole}
use Rattle.json_model.specs.Spelled.{closing}
use Rattle.json_spell.specs.declared.judging.Spot.{Spot}
use Rattle.json_spell.specs.declared.tokens.Stop.{Stop}
use Rattle.json_spell.specs.declared.tokens.Stop.TheVariants as stops
use Rattle.json_spell.specs.declared.tokens.Mode.TheVariants as modes
use Rattle.json_spell.specs.Nodes.{kind_of}
use Rattle.json_spell.specs.Tokens.{next, behind_gap, is_blank, kind_at}
use Rattle.json_spell.specs.Reading.{◌>>=◌, leaf_end, behind_byte, key_end, part_end, closed, shape_of, IsAt}
use Rattle.json_spell.specs.Machine.{State, before, opened, naming, named, behind, Move, go, wrong, deep, if_blank, again, deeper, begin, first, step, moved, Verdict, verdict}
use Rattle.json_spell.specs.Brackets.{open_shapes}
use Rattle.json_spell.specs.Turns.{Turns}
use Rattle.json_spell.proofs.Values.{kind_opens, leaf_took, byte_took, end_took}
use Rattle.json_spell.proofs.Again.{Starts}
use Rattle.json_spell.proofs.Placed.{behind_short, key_short}
use Rattle.json_spell.proofs.Loops.{end_short}
use Rattle.json_spell.proofs.Simulation.{Skips, skips_before, skips_opened, skips_naming, skips_behind, sim_gap, sim_name_at, sim_colon, sim_leaf, sim_end, behind_end, starts_behind, not_blank, first_same, deeper_none, deeper_room}

-- ---- brackets as bits

pub open_length : (count objects : ℕ) → length (open_shapes count objects) ≡ count
open_length zero objects = refl
open_length (suc count) objects = ap suc (open_length count (objects / 2))

pub half_less : (count objects : ℕ) → (count ≡ 0 → ⊥) → objects < 2 ^ count → objects / 2 < 2 ^ (count - 1)
half_less zero objects some less = absurd (some refl)
half_less (suc count) objects some less =
    let n : suc count - 1 ≡ count = omega arith in
    let below : objects < 2 ^ count * 2 = subst (λ (m : ℕ). objects < m) (pow-suc 2 count) less in
    subst (λ (m : ℕ). objects / 2 < 2 ^ m) (sym n) ((div-lt_iff_lt-mul (omega arith)).1 below)

-- ---- stops

pub turns_stop : (s : State) (bytes : List ℕ) (e : Stop) (r : Result (Spot × Bor (List ℕ)) Stop) → r ≡ Err e → verdict MOST_DEEP s bytes ≡ Err e → Turns s bytes r
turns_stop s bytes e r is v = subst (λ r. Turns s bytes r) (sym is) v

pub turns_gap : (s : State) → Skips MOST_DEEP s → (bytes at : List ℕ) → at ≡ behind_gap bytes → (r : Result (Spot × Bor (List ℕ)) Stop) → Turns s at r → Turns s bytes r
turns_gap s skips bytes at e (Ok t) h = (
  sim_gap MOST_DEEP s skips bytes ∙ ap (verdict MOST_DEEP s) (sym e) ∙ h.0,
  omega (arith, h.1, behind_short bytes, ap (λ (l : List ℕ). length l) e),
)
turns_gap s skips bytes at e (Err stop) h = sim_gap MOST_DEEP s skips bytes ∙ ap (verdict MOST_DEEP s) (sym e) ∙ h

starts_at : (bytes at : List ℕ) → at ≡ behind_gap bytes → Starts at
starts_at bytes at e = subst Starts (sym e) (starts_behind bytes)

-- ---- before a value

at_before : (stack : List Shape) (bytes at : List ℕ) → at ≡ behind_gap bytes → verdict MOST_DEEP (before stack) bytes ≡ verdict MOST_DEEP (before stack) at
at_before stack bytes at e = sim_gap MOST_DEEP (before stack) (skips_before MOST_DEEP stack) bytes ∙ ap (verdict MOST_DEEP (before stack)) (sym e)

-- the machine at the first byte of a value
begins : (stack : List Shape) (x : ℕ) (xs : List ℕ) (k : Option Kind) → is_blank x ≡ false → kind_at x ≡ k
    → verdict MOST_DEEP (before stack) (x ∷ xs) ≡ moved (begin MOST_DEEP stack k (next modes.Start x)) (λ s. verdict MOST_DEEP s xs) (length (x ∷ xs))
unfolding verdict
begins stack x xs k nb e =
    ap (λ m. moved m (λ s. verdict MOST_DEEP s xs) (length (x ∷ xs))) (not_blank x (before stack) _ nb)
    ∙ ap (λ o. moved (begin MOST_DEEP stack o (next modes.Start x)) (λ s. verdict MOST_DEEP s xs) (length (x ∷ xs))) e

none_at : (stack : List Shape) (at : List ℕ) → length at < 1 → verdict MOST_DEEP (before stack) at ≡ Err (stops.Not 0)
unfolding verdict
none_at stack [] short = refl
none_at stack (x ∷ xs) short = absurd (omega arith)

pub value_none : (stack : List Shape) (bytes at : List ℕ) → at ≡ behind_gap bytes → length at < 1 → verdict MOST_DEEP (before stack) bytes ≡ Err (stops.Not 0)
value_none stack bytes at e short = at_before stack bytes at e ∙ none_at stack at short

wrong_at : (stack : List Shape) (at : List ℕ) → Starts at → 1 ≤ length at → None ≡ kind_at (get_or at 0 0) → verdict MOST_DEEP (before stack) at ≡ Err (stops.Not (length at))
wrong_at stack [] s long k = absurd (omega arith)
wrong_at stack (x ∷ xs) s long k = begins stack x xs None s (sym k)

pub value_wrong : (stack : List Shape) (bytes at : List ℕ) → at ≡ behind_gap bytes → 1 ≤ length at → None ≡ kind_at (get_or at 0 0) → verdict MOST_DEEP (before stack) bytes ≡ Err (stops.Not (length at))
value_wrong stack bytes at e long k = at_before stack bytes at e ∙ wrong_at stack at (starts_at bytes at e) long k

leaf_at : (stack : List Shape) (at : List ℕ) (kind : Kind) → Starts at → 1 ≤ length at → Some kind ≡ kind_at (get_or at 0 0) → None ≡ shape_of kind
    → verdict MOST_DEEP (before stack) at ≡ (leaf_end kind at >>= λ rest. verdict MOST_DEEP (behind stack) rest)
leaf_at stack [] kind s long k none = absurd (omega arith)
leaf_at stack (x ∷ xs) kind s long k none = begins stack x xs (Some kind) s (sym k) ∙ sim_leaf MOST_DEEP stack x xs kind (sym k) none

pub value_leaf : (stack : List Shape) (bytes at : List ℕ) (kind : Kind) (r : Result (List ℕ) Stop) → at ≡ behind_gap bytes → 1 ≤ length at → Some kind ≡ kind_at (get_or at 0 0) → None ≡ shape_of kind → r ≡ leaf_end kind at
    → verdict MOST_DEEP (before stack) bytes ≡ (r >>= λ rest. verdict MOST_DEEP (behind stack) rest)
value_leaf stack bytes at kind r e long k none is =
    at_before stack bytes at e ∙ leaf_at stack at kind (starts_at bytes at e) long k none ∙ ap (λ o. o >>= λ rest. verdict MOST_DEEP (behind stack) rest) (sym is)

-- a leaf has a byte
whole_some : (s : List ℕ) → IsWhole s → 0 < length s
whole_some [] h = absurd h
whole_some (d ∷ ds) h = omega arith

leaf_some : (kind : Kind) (s : List ℕ) → IsLeaf kind s → 0 < length s
leaf_some kinds.Object s h = absurd h
leaf_some kinds.Array s h = absurd h
leaf_some kinds.Text s (cs, fit, e) = omega (arith, ap (λ (l : List ℕ). length l) e)
leaf_some kinds.Number s n =
    omega (arith, whole_some n.whole n.whole_is, ap (λ (l : List ℕ). length l) n.parts, length-append n.minus (n.whole ++ (n.fraction ++ n.exponent)), length-append n.whole (n.fraction ++ n.exponent))
leaf_some kinds.True s e = omega (arith, ap (λ (l : List ℕ). length l) e)
leaf_some kinds.False s e = omega (arith, ap (λ (l : List ℕ). length l) e)
leaf_some kinds.Null s e = omega (arith, ap (λ (l : List ℕ). length l) e)

leaf_less : (at rest : List ℕ) (kind : Kind) → 1 ≤ length at → Some kind ≡ kind_at (get_or at 0 0) → Ok rest ≡ leaf_end kind at → length rest < length at
leaf_less [] rest kind long k is = absurd (omega arith)
leaf_less (x ∷ xs) rest kind long k is =
    let t = leaf_took kind x xs rest (kind_opens x kind (sym k)) (sym is) in
    omega (arith, leaf_some kind t.front t.is, ap (λ (l : List ℕ). length l) t.whole, length-append t.front rest)

pub value_short : (bytes at rest : List ℕ) (kind : Kind) → at ≡ behind_gap bytes → 1 ≤ length at → Some kind ≡ kind_at (get_or at 0 0) → Ok rest ≡ leaf_end kind at → length rest < length bytes
value_short bytes at rest kind e long k is = omega (arith, leaf_less at rest kind long k is, behind_short bytes, ap (λ (l : List ℕ). length l) e)

-- ---- at an opening bracket

opens_bare : (shape : Shape) (x : ℕ) → kind_at x ≡ Some (kind_of shape) → is_blank x ≡ false
opens_bare shapes.Object x k = subst (λ (y : ℕ). is_blank y ≡ false) (sym (kind_opens x kinds.Object k)) refl
opens_bare shapes.Array x k = subst (λ (y : ℕ). is_blank y ≡ false) (sym (kind_opens x kinds.Array k)) refl

begin_is : (stack : List Shape) (shape : Shape) (x : ℕ) → begin MOST_DEEP stack (Some (kind_of shape)) (next modes.Start x) ≡ deeper MOST_DEEP shape stack
begin_is stack shapes.Object x = refl
begin_is stack shapes.Array x = refl

bracket_is : (stack : List Shape) (shape : Shape) (x : ℕ) (xs : List ℕ) (m : Move) → kind_at x ≡ Some (kind_of shape) → deeper MOST_DEEP shape stack ≡ m
    → verdict MOST_DEEP (before stack) (x ∷ xs) ≡ moved m (λ s. verdict MOST_DEEP s xs) (length (x ∷ xs))
bracket_is stack shape x xs m k d =
    begins stack x xs (Some (kind_of shape)) (opens_bare shape x k) k ∙ ap (λ m. moved m (λ s. verdict MOST_DEEP s xs) (length (x ∷ xs))) (begin_is stack shape x ∙ d)

pub enter_deep : (count objects : ℕ) (shape : Shape) (bytes : List ℕ) → count ≤ 32 → MOST_DEEP ≤ count → IsAt (kind_of shape) bytes
    → verdict MOST_DEEP (before (open_shapes count objects)) bytes ≡ Err (stops.Deep (length bytes))
enter_deep count objects shape bytes few full (x, xs, e, k) =
    let stack = open_shapes count objects in
    let full_is : MOST_DEEP ≡ length stack = omega (arith, open_length count objects, few, full) in
    ap (verdict MOST_DEEP (before stack)) e ∙ bracket_is stack shape x xs deep k (deeper_none MOST_DEEP shape stack full_is) ∙ ap (λ (l : List ℕ). told_deep (length l)) (sym e)
  where
    told_deep : ℕ → Verdict
    told_deep n = Err (stops.Deep n)

pub not_full : (count : ℕ) → (MOST_DEEP ≤ count → false ≡ true) → count < MOST_DEEP
not_full count none = by_test (nat_lt count MOST_DEEP) refl
  where
    by_test : (b : Bool) → nat_lt count MOST_DEEP ≡ b → count < MOST_DEEP
    by_test true e = grind (arith, nat_tests)
    by_test false e = let full : MOST_DEEP ≤ count = grind (arith, nat_tests) in let bad : false ≡ true = none full in cc

pub enter_on : (count objects : ℕ) (shape : Shape) (bytes : List ℕ) → count < MOST_DEEP → IsAt (kind_of shape) bytes
    → (verdict MOST_DEEP (before (open_shapes count objects)) bytes ≡ verdict MOST_DEEP (opened shape (open_shapes count objects)) (take (length bytes - 1) (drop 1 bytes)))
    × (length (take (length bytes - 1) (drop 1 bytes)) < length bytes)
enter_on count objects shape bytes room (x, xs, e, k) =
    let stack = open_shapes count objects in
    let room_is : length stack < MOST_DEEP = omega (arith, open_length count objects, room) in
    let rest : take (length bytes - 1) (drop 1 bytes) ≡ xs = ap (λ (l : List ℕ). take (length l - 1) (drop 1 l)) e ∙ take_all (length (x ∷ xs) - 1) xs (omega arith) in (
      ap (verdict MOST_DEEP (before stack)) e ∙ bracket_is stack shape x xs (go (opened shape stack)) k (deeper_room MOST_DEEP shape stack room_is) ∙ ap (verdict MOST_DEEP (opened shape stack)) (sym rest),
      omega (arith, ap (λ (l : List ℕ). length l) rest, ap (λ (l : List ℕ). length l) e),
    )

-- ---- a key

pub name_is : (stack : List Shape) (bytes at : List ℕ) (r : Result (List ℕ) Stop) → at ≡ behind_gap bytes → r ≡ key_end at → verdict MOST_DEEP (naming stack) bytes ≡ (r >>= λ rest. verdict MOST_DEEP (named stack) rest)
name_is stack bytes at r e is =
    sim_gap MOST_DEEP (naming stack) (skips_naming MOST_DEEP stack) bytes ∙ ap (verdict MOST_DEEP (naming stack)) (sym e)
    ∙ sim_name_at MOST_DEEP stack at (starts_at bytes at e) ∙ ap (λ o. o >>= λ rest. verdict MOST_DEEP (named stack) rest) (sym is)

pub colon_is : (stack : List Shape) (rest at : List ℕ) (r : Result (List ℕ) Stop) → at ≡ behind_gap rest → r ≡ behind_byte 0x3a at → verdict MOST_DEEP (named stack) rest ≡ (r >>= λ value. verdict MOST_DEEP (before stack) value)
colon_is stack rest at r e is = sim_colon MOST_DEEP stack rest ∙ ap (λ o. o >>= λ value. verdict MOST_DEEP (before stack) value) (ap (behind_byte 0x3a) (sym e) ∙ sym is)

pub member_short : (bytes at rest gap value : List ℕ) → at ≡ behind_gap bytes → Ok rest ≡ key_end at → gap ≡ behind_gap rest → Ok value ≡ behind_byte 0x3a gap → length value < length bytes
member_short bytes at rest gap value e k g v =
    omega (arith, behind_short bytes, ap (λ (l : List ℕ). length l) e, key_short at rest k, behind_short rest, ap (λ (l : List ℕ). length l) g, ap (λ (l : List ℕ). length l) (byte_took 0x3a gap value (sym v)))

-- ---- behind an opening bracket

or_part : Option (List ℕ) → (List ℕ → Verdict) → Verdict → Verdict
or_part None done part = part
or_part (Some rest) done part = done rest

first_by : (shape : Shape) (stack : List Shape) (x : ℕ) (xs : List ℕ) (b : Bool) → is_blank x ≡ false
    → moved (cond b (go (behind stack)) (first MOST_DEEP shape stack x)) (λ s. verdict MOST_DEEP s xs) (length (x ∷ xs))
    ≡ or_part (cond b (Some xs) None) (λ rest. verdict MOST_DEEP (behind stack) rest) (verdict MOST_DEEP (again shape stack) (x ∷ xs))
unfolding or_part
first_by shape stack x xs true nb = refl
first_by shape stack x xs false nb = first_same MOST_DEEP shape stack x xs nb

none_first : (shape : Shape) (stack : List Shape) → verdict MOST_DEEP (opened shape stack) [] ≡ verdict MOST_DEEP (again shape stack) []
unfolding verdict
none_first shapes.Object stack = refl
none_first shapes.Array stack = refl

first_at : (shape : Shape) (stack : List Shape) (at : List ℕ) → Starts at
    → verdict MOST_DEEP (opened shape stack) at ≡ or_part (closed shape at) (λ rest. verdict MOST_DEEP (behind stack) rest) (verdict MOST_DEEP (again shape stack) at)
unfolding verdict or_part
first_at shape stack [] s = none_first shape stack
first_at shape stack (x ∷ xs) s =
    ap (λ m. moved m (λ after. verdict MOST_DEEP after xs) (length (x ∷ xs))) (not_blank x (opened shape stack) _ s) ∙ first_by shape stack x xs (eqb x (closing shape)) s

first_is : (shape : Shape) (stack : List Shape) (bytes at : List ℕ) (o : Option (List ℕ)) → at ≡ behind_gap bytes → o ≡ closed shape at
    → verdict MOST_DEEP (opened shape stack) bytes ≡ or_part o (λ rest. verdict MOST_DEEP (behind stack) rest) (verdict MOST_DEEP (again shape stack) at)
first_is shape stack bytes at o e is =
    sim_gap MOST_DEEP (opened shape stack) (skips_opened MOST_DEEP shape stack) bytes ∙ ap (verdict MOST_DEEP (opened shape stack)) (sym e) ∙ first_at shape stack at (starts_at bytes at e)
    ∙ ap (λ o. or_part o (λ rest. verdict MOST_DEEP (behind stack) rest) (verdict MOST_DEEP (again shape stack) at)) (sym is)

closed_by : (xs rest : List ℕ) (b : Bool) → Some rest ≡ cond b (Some xs) None → rest ≡ xs
closed_by xs rest true e = cc
closed_by xs rest false e = cc

closed_less : (shape : Shape) (at rest : List ℕ) → Some rest ≡ closed shape at → length rest < length at
closed_less shape [] rest e = cc
closed_less shape (x ∷ xs) rest e = omega (arith, ap (λ (l : List ℕ). length l) (closed_by xs rest (eqb x (closing shape)) e))

pub first_closed : (shape : Shape) (stack : List Shape) (bytes at rest : List ℕ) → at ≡ behind_gap bytes → Some rest ≡ closed shape at
    → (verdict MOST_DEEP (opened shape stack) bytes ≡ verdict MOST_DEEP (behind stack) rest) × (length rest < length bytes)
unfolding or_part
first_closed shape stack bytes at rest e is = (
  first_is shape stack bytes at (Some rest) e is,
  omega (arith, closed_less shape at rest is, behind_short bytes, ap (λ (l : List ℕ). length l) e),
)

-- the first part is read as any other
pub first_part : (shape : Shape) (stack : List Shape) (bytes at : List ℕ) (s : State) (r : Result (Spot × Bor (List ℕ)) Stop) → at ≡ behind_gap bytes → None ≡ closed shape at → again shape stack ≡ s → Turns s at r → Turns (opened shape stack) bytes r
unfolding or_part
first_part shape stack bytes at s (Ok t) e is same h = (
  first_is shape stack bytes at None e is ∙ ap (λ s. verdict MOST_DEEP s at) same ∙ h.0,
  omega (arith, h.1, behind_short bytes, ap (λ (l : List ℕ). length l) e),
)
first_part shape stack bytes at s (Err stop) e is same h = first_is shape stack bytes at None e is ∙ ap (λ s. verdict MOST_DEEP s at) same ∙ h

-- ---- behind a part

pub next_is : (shape : Shape) (inner stack : List Shape) (bytes at : List ℕ) (r : Result (Bool × List ℕ) Stop) → inner ≡ shape ∷ stack → at ≡ behind_gap bytes → r ≡ part_end shape at
    → verdict MOST_DEEP (behind inner) bytes ≡ (r >>= λ e. verdict MOST_DEEP (behind_end shape stack e.0) e.1)
next_is shape inner stack bytes at r i e is =
    ap (λ s. verdict MOST_DEEP (behind s) bytes) i ∙ sim_end MOST_DEEP shape stack bytes ∙ ap (λ o. o >>= λ e. verdict MOST_DEEP (behind_end shape stack e.0) e.1) (ap (part_end shape) (sym e) ∙ sym is)

pub next_short : (shape : Shape) (bytes at : List ℕ) (more : Bool) (rest : List ℕ) → at ≡ behind_gap bytes → Ok (more, rest) ≡ part_end shape at → length rest < length bytes
next_short shape bytes at more rest e is = end_short shape bytes more rest (end_took shape (behind_gap bytes) (more, rest) (ap (part_end shape) (sym e) ∙ sym is))

-- ---- the end of the text

abbrev done : Verdict
done = Ok tt

abbrev stopped : ℕ → Verdict
stopped n = Err (stops.Not n)

abbrev refused : Verdict
refused = Err stops.NoMemory

end_at : (at : List ℕ) → Starts at → verdict MOST_DEEP (behind []) at ≡ cond (eqb (length at) 0) done (stopped (length at))
unfolding verdict
end_at [] s = refl
end_at (x ∷ xs) s =
    ap (λ m. moved m (λ after. verdict MOST_DEEP after xs) (length (x ∷ xs))) (not_blank x (behind []) _ s)
    ∙ sym (ap (λ b. cond b done (stopped (length (x ∷ xs)))) (some (length xs)))
  where
    some : (n : ℕ) → eqb (suc n) 0 ≡ false
    some n = grind (arith, nat_tests)

pub end_is : (bytes at : List ℕ) → at ≡ behind_gap bytes → verdict MOST_DEEP (behind []) bytes ≡ cond (eqb (length at) 0) done (stopped (length at))
end_is bytes at e = sim_gap MOST_DEEP (behind []) (skips_behind MOST_DEEP []) bytes ∙ ap (verdict MOST_DEEP (behind [])) (sym e) ∙ end_at at (starts_at bytes at e)

-- ---- want of memory is told of no bytes

no_memory_end : (b : Bool) → cond b done (stopped 0) ≡ refused → ⊥
no_memory_end true e = cc
no_memory_end false e = cc

no_memory_move : (m : Move) (xs : List ℕ) (n : ℕ) → ((s : State) → verdict MOST_DEEP s xs ≡ refused → ⊥) → moved m (λ s. verdict MOST_DEEP s xs) n ≡ refused → ⊥
no_memory_move (go s) xs n law e = law s e
no_memory_move wrong xs n law e = cc
no_memory_move deep xs n law e = cc

pub no_memory : (bytes : List ℕ) (s : State) → verdict MOST_DEEP s bytes ≡ refused → ⊥
unfolding verdict
no_memory [] s e = no_memory_end (Rattle.json_spell.specs.Machine.final s) e
no_memory (x ∷ xs) s e = no_memory_move (step MOST_DEEP s x) xs (length (x ∷ xs)) (λ s h. no_memory xs s h) e
