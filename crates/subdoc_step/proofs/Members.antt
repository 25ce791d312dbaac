-- The first member of a name, and what changes leave of it.
use Rattle.std.proofs.Common.{◌≡◌, ◌≢◌, ℕ, zero, suc, List, [], ◌∷◌, drop, Bool, true, false, cond, Option, Some, None, Result, Err, inl, inr, refl, sym, ap, subst, ◌∙◌}
use Rattle.std.specs.Prelude.{option_map, if◌then◌else◌}
use Rattle.doc_model.specs.declared.status.Status.{Status}
use Rattle.doc_model.specs.declared.status.TheConstants.Status as status
use Rattle.json_model.specs.declared.kinds.Shape.{Shape}
use Rattle.json_model.specs.declared.kinds.Shape.TheVariants as shapes
use Rattle.json_model.specs.declared.asked.Part.{Part}
use Rattle.json_model.specs.declared.asked.Part.TheVariants.{Member}
use Rattle.json_model.specs.declared.asked.Lookup.{Lookup}
use Rattle.json_model.specs.Spelled.{Head, plain, keyed, Tree, leaf, empty, group, Parts, last, more, PartsFit}
use Rattle.json_model.specs.Follow.{IsCalled, IsFirstCalled, child, Outcome, reached, missing, mismatch, over}
use Rattle.json_model.specs.Moves.{at_part, gap_before, led, pushed, without}
use Rattle.json_model.specs.Edit.{look_at}
use Rattle.subdoc_path.specs.Matching.{matches}
use Rattle.subdoc_path.proofs.Matches.{matched}
use Rattle.subdoc_step.specs.Paths.{is_called, first_called, onward, through, followed}
use Rattle.subdoc_step.proofs.Followed.{Calls, calls}

-- ---- a head has one name

abbrev pub named_so : List ℕ → Option (List ℕ)
named_so name = Some name

same_name : (a b : List ℕ) → named_so a ≡ named_so b → a ≡ b
same_name a b e = cc

-- the test finds a name that is there
pub called_is : (name : List ℕ) (h : Head) → IsCalled name h → is_called name h ≡ true
called_is name (plain gap) called = absurd called
called_is name (keyed gap key behind before) s = ap (λ (l : List ℕ). matches None (drop 1 l) name) s.2 ∙ (matched s.0 s.1 None name).whole s.3

called_one : (name other : List ℕ) (h : Head) → IsCalled name h → is_called other h ≡ true → name ≡ other
called_one name other (plain gap) called e = absurd called
called_one name other (keyed gap key behind before) s e =
    same_name name other (sym s.3 ∙ (matched s.0 s.1 None other).sound (ap (λ (l : List ℕ). matches None (drop 1 l) other) (sym s.2) ∙ e))

not_true : (b : Bool) → (b ≡ true → ⊥) → b ≡ false
not_true true h = absurd (h refl)
not_true false h = refl

-- a head of one name has no other
pub called_other : (name other : List ℕ) (h : Head) → name ≢ other → IsCalled name h → is_called other h ≡ false
called_other name other h differs called = not_true (is_called other h) (λ e. differs (called_one name other h called e))

uncalled : (name : List ℕ) (h : Head) (b : Bool) → Calls name h b → (IsCalled name h → ⊥) → b ≡ false
uncalled name h b c no_call = not_true b (λ e. no_call (c.sound e))

-- ---- the first member of a name

-- the value of the first part of this name
abbrev pub member_of : List ℕ → Parts → Option Tree
member_of name (last h t g) = if is_called name h then Some t else None
member_of name (more h t g ps) = if is_called name h then Some t else member_of name ps

-- the part of the number that is told has the value
abbrev pub at_number : Parts → Option ℕ → Option Tree
at_number ps None = None
at_number ps (Some k) = child ps k

later_at : (h : Head) (t : Tree) (g : List ℕ) (ps : Parts) (o : Option ℕ) → at_number (more h t g ps) (option_map (λ k. suc k) o) ≡ at_number ps o
later_at h t g ps None = refl
later_at h t g ps (Some k) = refl

first_case : (b : Bool) (h : Head) (t : Tree) (g : List ℕ) (ps : Parts) (o : Option ℕ) (m : Option Tree) → at_number ps o ≡ m → at_number (more h t g ps) (cond b (Some 0) (option_map (λ k. suc k) o)) ≡ cond b (Some t) m
first_case true h t g ps o m e = refl
first_case false h t g ps o m e = later_at h t g ps o ∙ e

last_case : (b : Bool) (h : Head) (t : Tree) (g : List ℕ) → at_number (last h t g) (cond b (Some 0) None) ≡ cond b (Some t) None
last_case true h t g = refl
last_case false h t g = refl

first_member : (name : List ℕ) (ps : Parts) → at_number ps (first_called name ps) ≡ member_of name ps
unfolding first_called
first_member name (last h t g) = last_case (is_called name h) h t g
first_member name (more h t g ps) = first_case (is_called name h) h t g ps (first_called name ps) (member_of name ps) (first_member name ps)

-- ---- what is looked up behind a member

abbrev pub Seen : Type 0
Seen = Result (List ℕ) Status

pub look_over : (lookup : Lookup) (k : ℕ) (o : Outcome) → look_at lookup (over k o) ≡ look_at lookup o
look_over lookup k (reached trail t) = refl
look_over lookup k (missing trail t absent) = refl
look_over lookup k (mismatch d) = refl

-- what is looked up by parts behind a member, where there is one
abbrev pub behind_member : Lookup → List Part → Option Tree → Seen
behind_member lookup qs None = Err status.PATH_ENOENT
behind_member lookup qs (Some t) = look_at lookup (followed qs t)

-- what is looked up by a name and the parts behind it
abbrev pub looked_in : Lookup → List ℕ → List Part → Tree → Seen
looked_in lookup name qs (leaf kind s) = Err status.PATH_MISMATCH
looked_in lookup name qs (empty shapes.Object gap) = Err status.PATH_ENOENT
looked_in lookup name qs (empty shapes.Array gap) = Err status.PATH_MISMATCH
looked_in lookup name qs (group shapes.Object ps) = behind_member lookup qs (member_of name ps)
looked_in lookup name qs (group shapes.Array ps) = Err status.PATH_MISMATCH

first_within : (name : List ℕ) (ps : Parts) (k : ℕ) → first_called name ps ≡ Some k → (t : Tree) × (child ps k ≡ Some t)
unfolding first_called
first_within name (last h t g) k e = by_test (is_called name h) e
  where
    by_test : (b : Bool) → cond b (Some 0) None ≡ Some k → (u : Tree) × (child (last h t g) k ≡ Some u)
    by_test true e = let same : 0 ≡ k = cc in (t, ap (child (last h t g)) (sym same))
    by_test false e = cc
first_within name (more h t g ps) k e = by_test (is_called name h) (first_called name ps) (λ j h. first_within name ps j h) e
  where
    by_test : (b : Bool) (o : Option ℕ) → ((j : ℕ) → o ≡ Some j → (u : Tree) × (child ps j ≡ Some u)) → cond b (Some 0) (option_map (λ k. suc k) o) ≡ Some k → (u : Tree) × (child (more h t g ps) k ≡ Some u)
    by_test true o law e = let same : 0 ≡ k = cc in (t, ap (child (more h t g ps)) (sym same))
    by_test false None law e = cc
    by_test false (Some j) law e =
        let same : suc j ≡ k = cc in
        let c = law j refl in
        (c.0, ap (child (more h t g ps)) (sym same) ∙ c.1)

through_member : (lookup : Lookup) (qs : List Part) (ps : Parts) (none : Outcome) (o : Option ℕ) → look_at lookup none ≡ Err status.PATH_ENOENT → ((k : ℕ) → o ≡ Some k → (t : Tree) × (child ps k ≡ Some t))
    → look_at lookup (through ps o (λ t. followed qs t) none) ≡ behind_member lookup qs (at_number ps o)
through_member lookup qs ps none None e law = e
through_member lookup qs ps none (Some k) e law =
    let c = law k refl in
    ap (λ (o : Option Tree). look_at lookup (onward k o (λ t. followed qs t))) c.1 ∙ look_over lookup k (followed qs c.0) ∙ ap (behind_member lookup qs) (sym c.1)

-- a look-up by a name and the parts behind it
pub look_member : (lookup : Lookup) (name : List ℕ) (qs : List Part) (t : Tree) → look_at lookup (followed (Member name ∷ qs) t) ≡ looked_in lookup name qs t
unfolding followed
look_member lookup name qs (leaf kind s) = refl
look_member lookup name qs (empty shapes.Object gap) = refl
look_member lookup name qs (empty shapes.Array gap) = refl
look_member lookup name qs (group shapes.Object ps) =
    through_member lookup qs ps (missing [] (group shapes.Object ps) (Member name ∷ qs)) (first_called name ps) refl (λ k e. first_within name ps k e)
    ∙ ap (behind_member lookup qs) (first_member name ps)
look_member lookup name qs (group shapes.Array ps) = refl

-- ---- changes of other members

abbrev one_of : Bool → Tree → Option Tree → Option Tree
one_of b t m = cond b (Some t) m

passed : (b : Bool) (t u : Tree) (m : Option Tree) → b ≡ false → one_of b t m ≡ one_of b u m
passed true t u m e = cc
passed false t u m e = refl

skipped : (b : Bool) (t : Tree) (m : Option Tree) → b ≡ false → one_of b t m ≡ m
skipped true t m e = cc
skipped false t m e = refl

zero_suc : (j : ℕ) → zero ≡ suc j → ⊥
zero_suc j e = cc

suc_same : (k j : ℕ) → suc k ≡ suc j → j ≡ k
suc_same k j e = cc

-- a change of one member leaves those of other names
pub member_kept : (name other : List ℕ) (k : ℕ) (f : Tree → Tree) (ps : Parts) → name ≢ other → IsFirstCalled name ps k → member_of other (at_part k f ps) ≡ member_of other ps
member_kept name other zero f (last h t g) ne is = passed (is_called other h) (f t) t None (called_other name other h ne is.0)
member_kept name other (suc k) f (last h t g) ne is = refl
member_kept name other zero f (more h t g ps) ne (inl is) = passed (is_called other h) (f t) t (member_of other ps) (called_other name other h ne is.0)
member_kept name other zero f (more h t g ps) ne (inr (n, j, e, is)) = absurd (zero_suc j e)
member_kept name other (suc k) f (more h t g ps) ne (inl is) = absurd (zero_suc k (sym is.1))
member_kept name other (suc k) f (more h t g ps) ne (inr (n, j, e, is)) =
    ap (one_of (is_called other h) t) (member_kept name other k f ps ne (subst (IsFirstCalled name ps) (suc_same k j e) is))

member_led : (name gap : List ℕ) (ps : Parts) → member_of name (led gap ps) ≡ member_of name ps
member_led name gap (last (plain old) t g) = refl
member_led name gap (last (keyed old key behind before) t g) = refl
member_led name gap (more (plain old) t g ps) = refl
member_led name gap (more (keyed old key behind before) t g ps) = refl

-- a member that goes leaves those of other names
pub member_without : (name other : List ℕ) (k : ℕ) (h : Head) (t : Tree) (g : List ℕ) (ps : Parts) → name ≢ other → IsFirstCalled name (more h t g ps) k → member_of other (without k h t g ps) ≡ member_of other (more h t g ps)
member_without name other zero h t g ps ne (inl is) = member_led other (gap_before h) ps ∙ sym (skipped (is_called other h) t (member_of other ps) (called_other name other h ne is.0))
member_without name other zero h t g ps ne (inr (n, j, e, is)) = absurd (zero_suc j e)
member_without name other (suc k) h t g ps ne (inl is) = absurd (zero_suc k (sym is.1))
member_without name other (suc k) h t g (last h2 t2 g2) ne (inr (n, j, e, is)) =
    ap (one_of (is_called other h) t) (sym (skipped (is_called other h2) t2 None (called_other name other h2 ne is.0)))
member_without name other (suc k) h t g (more h2 t2 g2 ps) ne (inr (n, j, e, is)) =
    ap (one_of (is_called other h) t) (member_without name other k h2 t2 g2 ps ne (subst (IsFirstCalled name (more h2 t2 g2 ps)) (suc_same k j e) is))

-- a new member leaves those of other names
pub member_pushed : (other : List ℕ) (h : Head) (t : Tree) (g : List ℕ) (ps : Parts) → is_called other h ≡ false → member_of other (pushed (last h t g) ps) ≡ member_of other ps
member_pushed other h t g (last h0 t0 g0) e = ap (one_of (is_called other h0) t0) (skipped (is_called other h) t None e)
member_pushed other h t g (more h0 t0 g0 ps) e = ap (one_of (is_called other h0) t0) (member_pushed other h t g ps e)

-- ---- the member itself

found : (b : Bool) (t : Tree) (m : Option Tree) → b ≡ true → one_of b t m ≡ Some t
found true t m e = refl
found false t m e = cc

-- the first member of a name, and that member changed
pub record Changed (name : List ℕ) (k : ℕ) (f : Tree → Tree) (ps : Parts) (u : Tree) : Type 0 where
  pub was : member_of name ps ≡ Some u
  pub is : member_of name (at_part k f ps) ≡ Some (f u)

pub member_changed : (name : List ℕ) (shape : Shape) (k : ℕ) (f : Tree → Tree) (ps : Parts) (u : Tree) → PartsFit shape ps → IsFirstCalled name ps k → child ps k ≡ Some u → Changed name k f ps u
member_changed name shape zero f (last h t g) u fits is c =
    let same : t ≡ u = cc in
    let test = called_is name h is.0 in
    subst (Changed name zero f (last h t g)) same (record { was = found (is_called name h) t None test; is = found (is_called name h) (f t) None test })
member_changed name shape (suc k) f (last h t g) u fits is c = cc
member_changed name shape zero f (more h t g ps) u fits (inl is) c =
    let same : t ≡ u = cc in
    let test = called_is name h is.0 in
    subst (Changed name zero f (more h t g ps)) same (record { was = found (is_called name h) t (member_of name ps) test; is = found (is_called name h) (f t) (member_of name ps) test })
member_changed name shape zero f (more h t g ps) u fits (inr (n, j, e, is)) c = absurd (zero_suc j e)
member_changed name shape (suc k) f (more h t g ps) u fits (inl is) c = absurd (zero_suc k (sym is.1))
member_changed name shape (suc k) f (more h t g ps) u fits (inr (n, j, e, is)) c =
    let r = member_changed name shape k f ps u fits.3 (subst (IsFirstCalled name ps) (suc_same k j e) is) c in
    let test = uncalled name h (is_called name h) (calls name shape h fits.0) n in
    record { was = skipped (is_called name h) t (member_of name ps) test ∙ r.was; is = skipped (is_called name h) t (member_of name (at_part k f ps)) test ∙ r.is }

-- a member that a name doesn't name isn't there
pub none_member : (name : List ℕ) (shape : Shape) (ps : Parts) → PartsFit shape ps → ((k : ℕ) → IsFirstCalled name ps k → ⊥) → member_of name ps ≡ None
none_member name shape (last h t g) fits none = skipped (is_called name h) t None (uncalled name h (is_called name h) (calls name shape h fits.0) (λ c. none 0 (c, refl)))
none_member name shape (more h t g ps) fits none =
    let no_call : IsCalled name h → ⊥ = λ c. none 0 (inl (c, refl)) in
    skipped (is_called name h) t (member_of name ps) (uncalled name h (is_called name h) (calls name shape h fits.0) no_call)
    ∙ none_member name shape ps fits.3 (λ k is. none (suc k) (inr (no_call, k, refl, is)))

-- a new member of a name that named nothing
pub member_new : (name : List ℕ) (h : Head) (t : Tree) (g : List ℕ) (ps : Parts) → is_called name h ≡ true → member_of name ps ≡ None → member_of name (pushed (last h t g) ps) ≡ Some t
member_new name h t g (last h0 t0 g0) e none = by_test (is_called name h0) none
  where
    by_test : (b : Bool) → cond b (Some t0) None ≡ None → one_of b t0 (one_of (is_called name h) t None) ≡ Some t
    by_test true none = cc
    by_test false none = found (is_called name h) t None e
member_new name h t g (more h0 t0 g0 ps) e none = by_test (is_called name h0) none (λ n. member_new name h t g ps e n)
  where
    by_test : (b : Bool) → cond b (Some t0) (member_of name ps) ≡ None → (member_of name ps ≡ None → member_of name (pushed (last h t g) ps) ≡ Some t) → one_of b t0 (member_of name (pushed (last h t g) ps)) ≡ Some t
    by_test true none law = cc
    by_test false none law = law none
