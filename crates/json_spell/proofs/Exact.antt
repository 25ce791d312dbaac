-- A text is read as itself, and where none is, the place told is the first wrong one.
use Rattle.std.proofs.Common.{◌≡◌, ℕ, suc, ◌+◌, ◌-◌, ◌<◌, ◌≤◌, max, List, [], ◌∷◌, ◌++◌, length, take, Bool, true, false, cond, eqb, Option, Some, None, Result, Ok, Err, ◌⊎◌, inl, inr, refl, sym, ap, subst, ◌∙◌, arith, append_assoc, length-append}
use Rattle.std.specs.Prelude.{nat_lt}
use Rattle.std.proofs.lemmas.Bool.Decides.{nat_tests}
use Rattle.std.proofs.lemmas.List.{take_at}
use Rattle.json_model.specs.declared.kinds.Kind.{Kind}
use Rattle.json_model.specs.declared.kinds.Kind.TheVariants as kinds
use Rattle.json_model.specs.declared.kinds.Shape.{Shape}
use Rattle.json_model.specs.declared.kinds.Shape.TheVariants as shapes
use Rattle.json_spell.specs.declared.tokens.Stop.{Stop}
use Rattle.json_spell.specs.declared.tokens.Stop.TheVariants as stops
use Rattle.json_spell.specs.declared.tokens.Mode.{Mode}
use Rattle.json_spell.specs.declared.tokens.Mode.TheVariants as modes
use Rattle.json_model.specs.Grammar.{AreBlanks}
use Rattle.json_model.specs.Spelled.{Document, text, closing, IsText}
use Rattle.json_model.specs.declared.TheConstants.{MOST_DEEP}
use Rattle.json_model.specs.Fronts.{Begins, IsNot, IsDeep}
use Rattle.json_spell.specs.Tokens.{next, ends, gap, behind_gap, is_blank, kind_at}
use Rattle.json_spell.specs.Reading.{value_at, ended, document_at}
use Rattle.json_spell.proofs.Fronts.{gap_front, gap_blank}
use Rattle.json_spell.proofs.Values.{stop, bind_ok, ok_is, err_no, value_took}
use Rattle.json_spell.proofs.Again.{Starts, gap_again, behind_again, clean_blanks, tree_starts, value_again}
use Rattle.json_spell.proofs.Runs.{Clean}
use Rattle.json_spell.specs.Machine.{State, before, opened, naming, key, named, token, word, behind, Move, go, wrong, deep, if_blank, again, after, deeper, begin, begin_key, first, colon, in_token, in_key, step, final, Verdict, moved, verdict}
use Rattle.json_spell.proofs.Simulation.{told, sim_document}
use Rattle.json_spell.proofs.Alive.{Good, GoodMove, good_step, completes, stack_of}

-- ---- whole texts

ended_is : (l : List ℕ) (d e : Document) → ended l d ≡ Ok e → (l ≡ []) × (d ≡ e)
ended_is [] d e h = (refl, ok_is d e h)
ended_is (x ∷ xs) d e h = err_no _ _ e h

append_none : (l : List ℕ) → l ++ [] ≡ l
append_none [] = refl
append_none (x ∷ l) = ap (λ m. x ∷ m) (append_none l)

-- what is read is a text
pub document_took : (most : ℕ) (bytes : List ℕ) (d : Document) → document_at most bytes ≡ Ok d → IsText most d bytes
unfolding document_at
document_took most bytes d e =
    let r = bind_ok (value_at most (behind_gap bytes)) (λ t. ended (behind_gap t.1) (record { before = gap bytes; tree = t.0; after = gap t.1 })) d e in
    let t = value_took most (behind_gap bytes) r.0 r.1 in
    let h = ended_is (behind_gap r.0.1) (record { before = gap bytes; tree = r.0.0; after = gap r.0.1 }) d r.2 in
    let rest : gap r.0.1 ≡ r.0.1 = sym (append_none (gap r.0.1)) ∙ ap (λ l. gap r.0.1 ++ l) (sym h.0) ∙ gap_front r.0.1 in
    subst (λ (d : Document). IsText most d bytes) h.1
    (record {
      before = gap_blank bytes;
      tree = t.fits;
      after = gap_blank r.0.1;
      depth = t.deep;
      spelled = sym (gap_front bytes) ∙ ap (λ l. gap bytes ++ l) (t.whole ∙ ap (λ l. text r.0.0 ++ l) (sym rest));
    })

clean_end : (g : List ℕ) → AreBlanks g → Clean g
clean_end g h = subst (λ (l : List ℕ). Clean l) (append_none g) (clean_blanks g [] h tt)

-- a text is read as itself
pub document_again : (most : ℕ) (bytes : List ℕ) (d : Document) → IsText most d bytes → document_at most bytes ≡ Ok d
unfolding document_at
document_again most bytes d is =
    let rest : List ℕ = text d.tree ++ d.after in
    let starts : Starts rest = tree_starts d.tree d.after is.tree in
    let b : behind_gap bytes ≡ rest = ap behind_gap is.spelled ∙ behind_again d.before rest is.before starts in
    let g : gap bytes ≡ d.before = ap gap is.spelled ∙ gap_again d.before rest is.before starts in
    let v : value_at most (behind_gap bytes) ≡ Ok (d.tree, d.after) = ap (value_at most) b ∙ value_again d.tree most d.after is.tree is.depth (clean_end d.after is.after) in
    let g2 : gap d.after ≡ d.after = ap gap (sym (append_none d.after)) ∙ gap_again d.after [] is.after tt in
    let b2 : behind_gap d.after ≡ [] = ap behind_gap (sym (append_none d.after)) ∙ behind_again d.after [] is.after tt in
    rw (v, b2, g, g2) refl

-- ---- walks of the machine

pub data Walk (most : ℕ) : State → List ℕ → State → Type 0 where
  here : (s : State) → Walk most s [] s
  there : (s n : State) (x : ℕ) (xs : List ℕ) (z : State) → step most s x ≡ go n → Walk most n xs z → Walk most s (x ∷ xs) z

walk_verdict : (most : ℕ) (s : State) (front : List ℕ) (z : State) (rest : List ℕ) → Walk most s front z → verdict most s (front ++ rest) ≡ verdict most z rest
unfolding verdict
walk_verdict most s front z rest (here t) = refl
walk_verdict most s front z rest (there t n x xs y e w) = ap (λ m. moved m (λ after. verdict most after (xs ++ rest)) (length (x ∷ (xs ++ rest)))) e ∙ walk_verdict most n xs y rest w

walk_good : (most : ℕ) (s : State) (front : List ℕ) (z : State) → Walk most s front z → Good most s → Good most z
walk_good most s front z (here t) g = g
walk_good most s front z (there t n x xs y e w) g = walk_good most n xs y w (subst (GoodMove most) e (good_step most t x g))

-- where the machine stops: at the end, at a byte that is wrong, or at a bracket too deep
pub record Stopped (most : ℕ) (s : State) (bytes : List ℕ) (left : ℕ) (H : State → List ℕ → Type 0) : Type 0 where
  pub front : List ℕ
  pub rest : List ℕ
  pub state : State
  pub parts : bytes ≡ front ++ rest
  pub left_is : left ≡ length rest
  pub walk : Walk most s front state
  pub halts : H state rest

abbrev pub HaltsWrong : ℕ → State → List ℕ → Type 0
HaltsWrong most s [] = final s ≡ false
HaltsWrong most s (x ∷ xs) = step most s x ≡ wrong

abbrev pub HaltsDeep : ℕ → State → List ℕ → Type 0
HaltsDeep most s [] = ⊥
HaltsDeep most s (x ∷ xs) = step most s x ≡ deep

abbrev yes : Verdict
yes = Ok tt

abbrev no : Stop → Verdict
no s = Err s

not_is : (m n : ℕ) → no (stops.Not m) ≡ no (stops.Not n) → n ≡ m
not_is m n e = cc

deep_is : (m n : ℕ) → no (stops.Deep m) ≡ no (stops.Deep n) → n ≡ m
deep_is m n e = cc

-- one more byte before
longer : (most : ℕ) (H : State → List ℕ → Type 0) (s n : State) (x : ℕ) (xs : List ℕ) (left : ℕ) → step most s x ≡ go n → Stopped most n xs left H → Stopped most s (x ∷ xs) left H
longer most H s n x xs left e t = record { front = x ∷ t.front; rest = t.rest; state = t.state; parts = ap (λ l. x ∷ l) t.parts; left_is = t.left_is; walk = there s n x t.front t.state e t.walk; halts = t.halts }

at_once : (most : ℕ) (H : State → List ℕ → Type 0) (s : State) (bytes : List ℕ) (left : ℕ) → left ≡ length bytes → H s bytes → Stopped most s bytes left H
at_once most H s bytes left e h = record { front = []; rest = bytes; state = s; parts = refl; left_is = e; walk = here s; halts = h }

not_end : (most : ℕ) (s : State) (n : ℕ) (b : Bool) → final s ≡ b → cond b yes (no (stops.Not 0)) ≡ no (stops.Not n) → Stopped most s [] n (HaltsWrong most)
not_end most s n true f e = cc
not_end most s n false f e = at_once most (HaltsWrong most) s [] n (not_is 0 n e) f

not_move : (most : ℕ) (s : State) (x : ℕ) (xs : List ℕ) (n : ℕ) (m : Move) → step most s x ≡ m → ((z : State) → verdict most z xs ≡ no (stops.Not n) → Stopped most z xs n (HaltsWrong most))
    → moved m (λ z. verdict most z xs) (length (x ∷ xs)) ≡ no (stops.Not n) → Stopped most s (x ∷ xs) n (HaltsWrong most)
not_move most s x xs n (go z) is law e = longer most (HaltsWrong most) s z x xs n is (law z e)
not_move most s x xs n wrong is law e = at_once most (HaltsWrong most) s (x ∷ xs) n (not_is (length (x ∷ xs)) n e) is
not_move most s x xs n deep is law e = cc

stopped_not : (most : ℕ) (bytes : List ℕ) (s : State) (n : ℕ) → verdict most s bytes ≡ no (stops.Not n) → Stopped most s bytes n (HaltsWrong most)
unfolding verdict
stopped_not most [] s n e = not_end most s n (final s) refl e
stopped_not most (x ∷ xs) s n e = not_move most s x xs n (step most s x) refl (λ z h. stopped_not most xs z n h) e

deep_end : (most : ℕ) (s : State) (n : ℕ) (b : Bool) → cond b yes (no (stops.Not 0)) ≡ no (stops.Deep n) → ⊥
deep_end most s n true e = cc
deep_end most s n false e = cc

deep_move : (most : ℕ) (s : State) (x : ℕ) (xs : List ℕ) (n : ℕ) (m : Move) → step most s x ≡ m → ((z : State) → verdict most z xs ≡ no (stops.Deep n) → Stopped most z xs n (HaltsDeep most))
    → moved m (λ z. verdict most z xs) (length (x ∷ xs)) ≡ no (stops.Deep n) → Stopped most s (x ∷ xs) n (HaltsDeep most)
deep_move most s x xs n (go z) is law e = longer most (HaltsDeep most) s z x xs n is (law z e)
deep_move most s x xs n wrong is law e = cc
deep_move most s x xs n deep is law e = at_once most (HaltsDeep most) s (x ∷ xs) n (deep_is (length (x ∷ xs)) n e) is

stopped_deep : (most : ℕ) (bytes : List ℕ) (s : State) (n : ℕ) → verdict most s bytes ≡ no (stops.Deep n) → Stopped most s bytes n (HaltsDeep most)
unfolding verdict
stopped_deep most [] s n e = absurd (deep_end most s n (final s) e)
stopped_deep most (x ∷ xs) s n e = deep_move most s x xs n (step most s x) refl (λ z h. stopped_deep most xs z n h) e

-- ---- more room

-- a move is the same where more brackets may be open, unless it was too deep
abbrev Grows : Move → Move → Type 0
Grows m n = (m ≡ n) ⊎ (m ≡ deep)

grows_if : (b : Bool) (x y z w : Move) → Grows x z → Grows y w → Grows (cond b x y) (cond b z w)
grows_if true x y z w g h = g
grows_if false x y z w g h = h

grows_deeper : (most D : ℕ) (shape : Shape) (stack : List Shape) → most ≤ D → Grows (deeper most shape stack) (deeper D shape stack)
grows_deeper most D shape stack le = by_tests (nat_lt (length stack) most) (nat_lt (length stack) D) (tests (length stack) most D le)
  where
    tests : (n m d : ℕ) → m ≤ d → nat_lt n m ≡ true → nat_lt n d ≡ true
    tests n m d le e = grind (arith, nat_tests)

    by_tests : (b c : Bool) → (b ≡ true → c ≡ true) → Grows (cond b (go (opened shape stack)) deep) (cond c (go (opened shape stack)) deep)
    by_tests true true h = inl refl
    by_tests true false h = let e : false ≡ true = h refl in cc
    by_tests false c h = inr refl

grows_begin : (most D : ℕ) (stack : List Shape) (k : Option Kind) (o : Option Mode) → most ≤ D → Grows (begin most stack k o) (begin D stack k o)
grows_begin most D stack None o le = inl refl
grows_begin most D stack (Some kinds.Object) o le = grows_deeper most D shapes.Object stack le
grows_begin most D stack (Some kinds.Array) o le = grows_deeper most D shapes.Array stack le
grows_begin most D stack (Some kinds.Text) o le = inl refl
grows_begin most D stack (Some kinds.Number) None le = inl refl
grows_begin most D stack (Some kinds.Number) (Some m) le = inl refl
grows_begin most D stack (Some kinds.True) o le = inl refl
grows_begin most D stack (Some kinds.False) o le = inl refl
grows_begin most D stack (Some kinds.Null) o le = inl refl

grows_first : (most D : ℕ) (shape : Shape) (stack : List Shape) (x : ℕ) → most ≤ D → Grows (first most shape stack x) (first D shape stack x)
grows_first most D shapes.Object stack x le = inl refl
grows_first most D shapes.Array stack x le = grows_begin most D (shapes.Array ∷ stack) (kind_at x) (next modes.Start x) le

grows_step : (most D : ℕ) (s : State) (x : ℕ) → most ≤ D → Grows (step most s x) (step D s x)
grows_step most D (before stack) x le = grows_if (is_blank x) (go (before stack)) _ (go (before stack)) _ (inl refl) (grows_begin most D stack (kind_at x) (next modes.Start x) le)
grows_step most D (opened shape stack) x le = grows_if (is_blank x) (go (opened shape stack)) _ (go (opened shape stack)) _ (inl refl) (grows_if (eqb x (closing shape)) (go (behind stack)) _ (go (behind stack)) _ (inl refl) (grows_first most D shape stack x le))
grows_step most D (naming stack) x le = inl refl
grows_step most D (key m stack) x le = inl refl
grows_step most D (named stack) x le = inl refl
grows_step most D (token m stack) x le = inl refl
grows_step most D (word ws stack) x le = inl refl
grows_step most D (behind stack) x le = inl refl

step_go : (most D : ℕ) (s z : State) (x : ℕ) → most ≤ D → step most s x ≡ go z → step D s x ≡ go z
step_go most D s z x le e = by_grows (grows_step most D s x le)
  where
    by_grows : Grows (step most s x) (step D s x) → step D s x ≡ go z
    by_grows (inl h) = sym h ∙ e
    by_grows (inr h) = cc

step_wrong : (most D : ℕ) (s : State) (x : ℕ) → most ≤ D → step most s x ≡ wrong → step D s x ≡ wrong
step_wrong most D s x le e = by_grows (grows_step most D s x le)
  where
    by_grows : Grows (step most s x) (step D s x) → step D s x ≡ wrong
    by_grows (inl h) = sym h ∙ e
    by_grows (inr h) = cc

walk_more : (most D : ℕ) (s : State) (front : List ℕ) (z : State) → most ≤ D → Walk most s front z → Walk D s front z
walk_more most D s front z le (here t) = here t
walk_more most D s front z le (there t n x xs y e w) = there t n x xs y (step_go most D t n x le e) (walk_more most D n xs y le w)

-- ---- fronts of texts

start_good : (most : ℕ) → Good most (before [])
start_good most = record { room = omega arith; mode = tt }

told_ok : (most : ℕ) (bytes : List ℕ) → verdict most (before []) bytes ≡ yes → (d : Document) × IsText most d bytes
told_ok most bytes e = by_read (document_at most bytes) refl (sym (sim_document most bytes) ∙ e)
  where
    by_read : (r : Result Document Stop) → document_at most bytes ≡ r → told r ≡ yes → (d : Document) × IsText most d bytes
    by_read (Ok d) is e = (d, document_took most bytes d is)
    by_read (Err s) is e = cc

ok_told : (most : ℕ) (bytes : List ℕ) (d : Document) → IsText most d bytes → verdict most (before []) bytes ≡ yes
ok_told most bytes d is = sim_document most bytes ∙ ap told (document_again most bytes d is)

-- what the machine passes over is the front of a text
walk_begins : (most : ℕ) (front : List ℕ) (z : State) → Walk most (before []) front z → Begins most front
walk_begins most front z w =
    let c = completes most z (walk_good most (before []) front z w (start_good most)).mode in
    let t = told_ok most (front ++ c.bytes) (walk_verdict most (before []) front z c.bytes w ∙ c.ends_it) in
    (t.0, c.bytes, t.1)

deeper_text : (most D : ℕ) (d : Document) (bytes : List ℕ) → most ≤ D → IsText most d bytes → IsText D d bytes
deeper_text most D d bytes le is = record { before = is.before; tree = is.tree; after = is.after; depth = omega (arith, is.depth); spelled = is.spelled }

-- a byte at which the machine is wrong ends no front of a text
wrong_no : (most D : ℕ) (front : List ℕ) (x : ℕ) (z : State) → most ≤ D → Walk most (before []) front z → step most z x ≡ wrong → Begins D (front ++ x ∷ []) → ⊥
unfolding verdict
wrong_no most D front x z le w e (d, more, is) =
    let split : (front ++ x ∷ []) ++ more ≡ front ++ x ∷ more = append_assoc front (x ∷ []) more in
    let good : verdict D (before []) (front ++ x ∷ more) ≡ yes = ap (verdict D (before [])) (sym split) ∙ ok_told D ((front ++ x ∷ []) ++ more) d is in
    let bad : verdict D (before []) (front ++ x ∷ more) ≡ no (stops.Not (length (x ∷ more))) =
    walk_verdict D (before []) front z (x ∷ more) (walk_more most D (before []) front z le w) ∙ ap (λ m. moved m (λ after. verdict D after more) (length (x ∷ more))) (step_wrong most D z x le e) in
    cc

deep_no : (most : ℕ) (front : List ℕ) (x : ℕ) (z : State) → Walk most (before []) front z → step most z x ≡ deep → Begins most (front ++ x ∷ []) → ⊥
unfolding verdict
deep_no most front x z w e (d, more, is) =
    let split : (front ++ x ∷ []) ++ more ≡ front ++ x ∷ more = append_assoc front (x ∷ []) more in
    let good : verdict most (before []) (front ++ x ∷ more) ≡ yes = ap (verdict most (before [])) (sym split) ∙ ok_told most ((front ++ x ∷ []) ++ more) d is in
    let bad : verdict most (before []) (front ++ x ∷ more) ≡ no (stops.Deep (length (x ∷ more))) =
    walk_verdict most (before []) front z (x ∷ more) w ∙ ap (λ m. moved m (λ after. verdict most after more) (length (x ∷ more))) e in
    cc

-- ---- one more bracket

abbrev NoDeep : Move → Type 0
NoDeep m = m ≡ deep → ⊥

no_if : (b : Bool) (x y : Move) → NoDeep x → NoDeep y → NoDeep (cond b x y)
no_if true x y g h = g
no_if false x y g h = h

no_go : (s : State) → NoDeep (go s)
no_go s e = cc

no_wrong : NoDeep wrong
no_wrong e = cc

no_after : (stack : List Shape) (x : ℕ) → NoDeep (after stack x)
no_after [] x = no_wrong
no_after (shape ∷ stack) x = no_if (eqb x 0x2c) (go (again shape stack)) _ (no_go (again shape stack)) (no_if (eqb x (closing shape)) (go (behind stack)) wrong (no_go (behind stack)) no_wrong)

no_blank : (stack : List Shape) (x : ℕ) → NoDeep (if_blank x (behind stack) (after stack x))
no_blank stack x = no_if (is_blank x) (go (behind stack)) (after stack x) (no_go (behind stack)) (no_after stack x)

no_key : (stack : List Shape) (x : ℕ) → NoDeep (begin_key stack x)
no_key stack x = no_if (eqb x 0x22) (go (key modes.Inside stack)) wrong (no_go (key modes.Inside stack)) no_wrong

no_colon : (stack : List Shape) (x : ℕ) → NoDeep (colon stack x)
no_colon stack x = no_if (is_blank x) (go (named stack)) _ (no_go (named stack)) (no_if (eqb x 0x3a) (go (before stack)) wrong (no_go (before stack)) no_wrong)

no_token : (stack : List Shape) (o : Option Mode) (b : Bool) (x : ℕ) → NoDeep (in_token o stack b (if_blank x (behind stack) (after stack x)))
no_token stack None b x = no_if b (if_blank x (behind stack) (after stack x)) wrong (no_blank stack x) no_wrong
no_token stack (Some m) b x = no_go (token m stack)

no_name : (stack : List Shape) (o : Option Mode) (b : Bool) (x : ℕ) → NoDeep (in_key o stack b (colon stack x))
no_name stack None b x = no_if b (colon stack x) wrong (no_colon stack x) no_wrong
no_name stack (Some m) b x = no_go (key m stack)

-- what was too deep is not, where one more bracket may be open
abbrev Lets : Move → Move → Type 0
Lets m n = m ≡ deep → (z : State) × (n ≡ go z)

lets_none : (m n : Move) → NoDeep m → Lets m n
lets_none m n h e = absurd (h e)

lets_if : (b : Bool) (x y z w : Move) → Lets x z → Lets y w → Lets (cond b x y) (cond b z w)
lets_if true x y z w g h = g
lets_if false x y z w g h = h

lets_deeper : (most : ℕ) (shape : Shape) (stack : List Shape) → length stack ≤ most → Lets (deeper most shape stack) (deeper (suc most) shape stack)
lets_deeper most shape stack room e = by_test (nat_lt (length stack) (suc most)) (test (length stack) most room)
  where
    test : (n m : ℕ) → n ≤ m → nat_lt n (suc m) ≡ true
    test n m h = grind (arith, nat_tests)

    by_test : (b : Bool) → b ≡ true → (z : State) × (cond b (go (opened shape stack)) deep ≡ go z)
    by_test true h = (opened shape stack, refl)
    by_test false h = cc

lets_begin : (most : ℕ) (stack : List Shape) (k : Option Kind) (o : Option Mode) → length stack ≤ most → Lets (begin most stack k o) (begin (suc most) stack k o)
lets_begin most stack None o r = lets_none wrong wrong no_wrong
lets_begin most stack (Some kinds.Object) o r = lets_deeper most shapes.Object stack r
lets_begin most stack (Some kinds.Array) o r = lets_deeper most shapes.Array stack r
lets_begin most stack (Some kinds.Text) o r = lets_none _ _ (no_go (token modes.Inside stack))
lets_begin most stack (Some kinds.Number) None r = lets_none wrong wrong no_wrong
lets_begin most stack (Some kinds.Number) (Some m) r = lets_none _ _ (no_go (token m stack))
lets_begin most stack (Some kinds.True) o r = lets_none _ _ (no_go _)
lets_begin most stack (Some kinds.False) o r = lets_none _ _ (no_go _)
lets_begin most stack (Some kinds.Null) o r = lets_none _ _ (no_go _)

lets_first : (most : ℕ) (shape : Shape) (stack : List Shape) (x : ℕ) → length (shape ∷ stack) ≤ most → Lets (first most shape stack x) (first (suc most) shape stack x)
lets_first most shapes.Object stack x r = lets_none _ _ (no_key (shapes.Object ∷ stack) x)
lets_first most shapes.Array stack x r = lets_begin most (shapes.Array ∷ stack) (kind_at x) (next modes.Start x) r

lets_step : (most : ℕ) (s : State) (x : ℕ) → length (stack_of s) ≤ most → Lets (step most s x) (step (suc most) s x)
lets_step most (before stack) x r = lets_if (is_blank x) (go (before stack)) _ (go (before stack)) _ (lets_none _ _ (no_go (before stack))) (lets_begin most stack (kind_at x) (next modes.Start x) r)
lets_step most (opened shape stack) x r =
    lets_if (is_blank x) (go (opened shape stack)) _ (go (opened shape stack)) _ (lets_none _ _ (no_go (opened shape stack)))
    (lets_if (eqb x (closing shape)) (go (behind stack)) _ (go (behind stack)) _ (lets_none _ _ (no_go (behind stack))) (lets_first most shape stack x r))
lets_step most (naming stack) x r = lets_none _ _ (no_if (is_blank x) (go (naming stack)) (begin_key stack x) (no_go (naming stack)) (no_key stack x))
lets_step most (key m stack) x r = lets_none _ _ (no_name stack (next m x) (ends m) x)
lets_step most (named stack) x r = lets_none _ _ (no_colon stack x)
lets_step most (token m stack) x r = lets_none _ _ (no_token stack (next m x) (ends m) x)
lets_step most (word [] stack) x r = lets_none _ _ (no_blank stack x)
lets_step most (word (w ∷ ws) stack) x r = lets_none _ _ (no_if (eqb x w) (go (word ws stack)) wrong (no_go (word ws stack)) no_wrong)
lets_step most (behind stack) x r = lets_none _ _ (no_blank stack x)

walk_end : (most : ℕ) (s : State) (front : List ℕ) (z n : State) (x : ℕ) → Walk most s front z → step most z x ≡ go n → Walk most s (front ++ x ∷ []) n
walk_end most s front z n x (here t) e = there t n x [] n e (here n)
walk_end most s front z n x (there t m y ys w f k) e = there t m y (ys ++ x ∷ []) n f (walk_end most m ys w n x k e)

-- ---- the places

take_front : (bytes front rest : List ℕ) (n : ℕ) → bytes ≡ front ++ rest → n ≡ length rest → take (length bytes - n) bytes ≡ front
take_front bytes front rest n e m =
    let k : length bytes - n ≡ length front = omega (arith, ap (λ (l : List ℕ). length l) e, length-append front rest, m) in
    ap (λ (i : ℕ). take i bytes) k ∙ ap (take (length front)) e ∙ take_at front rest (length front) refl

take_next : (bytes front : List ℕ) (x : ℕ) (xs : List ℕ) (n : ℕ) → bytes ≡ front ++ x ∷ xs → n ≡ length (x ∷ xs) → take (length bytes - n + 1) bytes ≡ front ++ x ∷ []
take_next bytes front x xs n e m =
    let split : bytes ≡ (front ++ x ∷ []) ++ xs = e ∙ sym (append_assoc front (x ∷ []) xs) in
    let k : length bytes - n + 1 ≡ length (front ++ x ∷ []) = omega (arith, ap (λ (l : List ℕ). length l) e, length-append front (x ∷ xs), m, length-append front (x ∷ [])) in
    ap (λ (i : ℕ). take i bytes) k ∙ ap (take (length (front ++ x ∷ []))) split ∙ take_at (front ++ x ∷ []) xs (length (front ++ x ∷ [])) refl

more_begins : (most D : ℕ) (bytes : List ℕ) → most ≤ D → Begins most bytes → Begins D bytes
more_begins most D bytes le (d, behind_it, is) = (d, behind_it, deeper_text most D d (bytes ++ behind_it) le is)

not_wrong : (bytes front rest : List ℕ) (n : ℕ) (z : State) → bytes ≡ front ++ rest → n ≡ length rest → Walk MOST_DEEP (before []) front z → HaltsWrong MOST_DEEP z rest
    → length bytes - n < length bytes → (D : ℕ) → Begins D (take (length bytes - n + 1) bytes) → ⊥
not_wrong bytes front [] n z e m w h less D b = absurd (omega (arith, m, less))
not_wrong bytes front (x ∷ xs) n z e m w h less D b =
    wrong_no MOST_DEEP (max D MOST_DEEP) front x z (omega arith) w h (subst (λ (l : List ℕ). Begins (max D MOST_DEEP) l) (take_next bytes front x xs n e m) (more_begins D (max D MOST_DEEP) (take (length bytes - n + 1) bytes) (omega arith) b))

-- where no text is read, the place is the first wrong one
pub not_exact : (bytes : List ℕ) (n : ℕ) → document_at MOST_DEEP bytes ≡ Err (stops.Not n) → (n ≤ length bytes) × IsNot bytes (length bytes - n)
not_exact bytes n e =
    let s = stopped_not MOST_DEEP bytes (before []) n (sim_document MOST_DEEP bytes ∙ ap told e) in (
      omega (arith, s.left_is, ap (λ (l : List ℕ). length l) s.parts, length-append s.front s.rest),
      record {
        within = omega arith;
        front = subst (λ (l : List ℕ). Begins MOST_DEEP l) (sym (take_front bytes s.front s.rest n s.parts s.left_is)) (walk_begins MOST_DEEP s.front s.state s.walk);
        wrong = not_wrong bytes s.front s.rest n s.state s.parts s.left_is s.walk s.halts;
        cut = λ d is. no_text d (sym e ∙ document_again MOST_DEEP bytes d is);
      },
    )
  where
    no_text : (d : Document) → stop (stops.Not n) ≡ Ok d → ⊥
    no_text d h = cc

deep_place : (bytes front rest : List ℕ) (n : ℕ) (z : State) → bytes ≡ front ++ rest → n ≡ length rest → Walk MOST_DEEP (before []) front z → HaltsDeep MOST_DEEP z rest → IsDeep bytes (length bytes - n)
deep_place bytes front [] n z e m w h = absurd h
deep_place bytes front (x ∷ xs) n z e m w h =
    let up = lets_step MOST_DEEP z x (walk_good MOST_DEEP (before []) front z w (start_good MOST_DEEP)).room h in
    let next_is : take (length bytes - n + 1) bytes ≡ front ++ x ∷ [] = take_next bytes front x xs n e m in
    record {
      within = omega (arith, m, ap (λ (l : List ℕ). length l) e, length-append front (x ∷ xs));
      front = subst (λ (l : List ℕ). Begins MOST_DEEP l) (sym (take_front bytes front (x ∷ xs) n e m)) (walk_begins MOST_DEEP front z w);
      deeper = subst (λ (l : List ℕ). Begins (MOST_DEEP + 1) l) (sym next_is) (walk_begins (MOST_DEEP + 1) (front ++ x ∷ []) up.0 (walk_end (MOST_DEEP + 1) (before []) front z up.0 x (walk_more MOST_DEEP (MOST_DEEP + 1) (before []) front z (omega arith) w) up.1));
      wrong = λ b. deep_no MOST_DEEP front x z w h (subst (λ (l : List ℕ). Begins MOST_DEEP l) next_is b);
    }

pub deep_exact : (bytes : List ℕ) (n : ℕ) → document_at MOST_DEEP bytes ≡ Err (stops.Deep n) → (n ≤ length bytes) × IsDeep bytes (length bytes - n)
deep_exact bytes n e =
    let s = stopped_deep MOST_DEEP bytes (before []) n (sim_document MOST_DEEP bytes ∙ ap told e) in
    (omega (arith, s.left_is, ap (λ (l : List ℕ). length l) s.parts, length-append s.front s.rest), deep_place bytes s.front s.rest n s.state s.parts s.left_is s.walk s.halts)

-- no two texts are spelled alike
pub one_text : (most : ℕ) (bytes : List ℕ) (d e : Document) → IsText most d bytes → IsText most e bytes → d ≡ e
one_text most bytes d e a b = ok_is d e (sym (document_again most bytes d a) ∙ document_again most bytes e b)
