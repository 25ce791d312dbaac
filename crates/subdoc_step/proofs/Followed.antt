-- Following as a function comes to what following comes to.
use Rattle.std.proofs.Common.{◌≡◌, ◌≢◌, ℕ, zero, suc, ◌<◌, List, [], ◌∷◌, drop, Bool, true, false, cond, Option, Some, None, inl, inr, refl, sym, ap, subst, ◌∙◌, arith}
use Rattle.std.specs.Prelude.{nat_lt, option_map}
use Rattle.std.proofs.lemmas.Bool.Decides.{nat_tests}
use Rattle.json_model.specs.declared.kinds.Shape.{Shape}
use Rattle.json_model.specs.declared.kinds.Shape.TheVariants as shapes
use Rattle.json_model.specs.declared.asked.Part.{Part}
use Rattle.json_model.specs.declared.asked.Part.TheVariants.{Member, At, Last}
use Rattle.json_model.specs.Spelled.{Head, plain, keyed, Tree, leaf, empty, group, Parts, last, more, count, HeadFits, Fits, PartsFit}
use Rattle.json_model.specs.Follow.{IsCalled, IsFirstCalled, Names, asks, child, Outcome, missing, mismatch, Follows}
use Rattle.json_model.proofs.Following.{follows_one}
use Rattle.subdoc_path.specs.Matching.{matches}
use Rattle.subdoc_path.proofs.Matches.{matched}
use Rattle.subdoc_step.specs.Paths.{same_shape, is_called, first_called, named, onward, through, followed}

-- ---- names

-- a test says whether a head has a name
pub record Calls (name : List ℕ) (h : Head) (b : Bool) : Type 0 where
  pub sound : b ≡ true → IsCalled name h
  pub whole : IsCalled name h → b ≡ true

no_name : (name gap : List ℕ) → Calls name (plain gap) false
no_name name gap = record { sound = λ e. no_call e; whole = λ called. absurd called }
  where
    no_call : false ≡ true → ⊥
    no_call e = cc

pub calls : (name : List ℕ) (shape : Shape) (h : Head) → HeadFits shape h → Calls name h (is_called name h)
calls name shapes.Array (plain gap) fits = no_name name gap
calls name shapes.Array (keyed gap key behind before) fits = absurd fits
calls name shapes.Object (plain gap) fits = absurd fits
calls name shapes.Object (keyed gap key behind before) (b, (cs, are, e), c, d) = record {
  sound = λ h. (cs, are, e, (matched cs are None name).sound (ap (λ (l : List ℕ). matches None (drop 1 l) name) (sym e) ∙ h));
  whole = λ s. ap (λ (l : List ℕ). matches None (drop 1 l) name) s.2 ∙ (matched s.0 s.1 None name).whole s.3;
}

-- what is said of the number of the part that a part of a path names
abbrev pub Numbers : Part → Parts → Option ℕ → Type 0
Numbers p parts None = (k : ℕ) → Names p parts k → ⊥
Numbers p parts (Some k) = Names p parts k

not_called : (name : List ℕ) (h : Head) (b : Bool) → Calls name h b → b ≡ false → IsCalled name h → ⊥
not_called name h b c e called = different (sym (c.whole called) ∙ e)
  where
    different : true ≡ false → ⊥
    different e = cc

last_numbers : (name : List ℕ) (h : Head) (t : Tree) (g : List ℕ) (b : Bool) → Calls name h b → Numbers (Member name) (last h t g) (cond b (Some 0) None)
last_numbers name h t g true c = (c.sound refl, refl)
last_numbers name h t g false c = λ k is. not_called name h false c refl is.0

later_numbers : (name : List ℕ) (h : Head) (t : Tree) (g : List ℕ) (ps : Parts) (o : Option ℕ) → (IsCalled name h → ⊥) → Numbers (Member name) ps o → Numbers (Member name) (more h t g ps) (option_map (λ k. suc k) o)
later_numbers name h t g ps None other law = λ k is. by_case k is
  where
    by_case : (k : ℕ) → IsFirstCalled name (more h t g ps) k → ⊥
    by_case k (inl is) = other is.0
    by_case k (inr (n, j, e, is)) = law j is
later_numbers name h t g ps (Some j) other law = inr (other, j, refl, law)

more_numbers : (name : List ℕ) (h : Head) (t : Tree) (g : List ℕ) (ps : Parts) (b : Bool) (o : Option ℕ) → Calls name h b → Numbers (Member name) ps o → Numbers (Member name) (more h t g ps) (cond b (Some 0) (option_map (λ k. suc k) o))
more_numbers name h t g ps true o c law = inl (c.sound refl, refl)
more_numbers name h t g ps false o c law = later_numbers name h t g ps o (not_called name h false c refl) law

first_numbers : (shape : Shape) (name : List ℕ) (parts : Parts) → PartsFit shape parts → Numbers (Member name) parts (first_called name parts)
unfolding first_called
first_numbers shape name (last h t g) fits = last_numbers name h t g (is_called name h) (calls name shape h fits.0)
first_numbers shape name (more h t g ps) fits = more_numbers name h t g ps (is_called name h) (first_called name ps) (calls name shape h fits.0) (first_numbers shape name ps fits.3)

-- ---- one part

count_some : (parts : Parts) → 0 < count parts
count_some (last h t g) = omega arith
count_some (more h t g ps) = omega arith

at_numbers : (n : ℕ) (parts : Parts) (b : Bool) → nat_lt n (count parts) ≡ b → Numbers (At n) parts (cond b (Some n) None)
at_numbers n parts true e = (refl, below n (count parts) e)
  where
    below : (a b : ℕ) → nat_lt a b ≡ true → a < b
    below a b e = grind (arith, nat_tests)
at_numbers n parts false e = λ k is. beyond n (count parts) e is.1
  where
    beyond : (a b : ℕ) → nat_lt a b ≡ false → a < b → ⊥
    beyond a b e h = absurd (grind (arith, nat_tests))

-- the part that is named is told
pub numbers : (p : Part) (shape : Shape) (parts : Parts) → PartsFit shape parts → Numbers p parts (named p parts)
numbers (Member name) shape parts fits = first_numbers shape name parts fits
numbers (At n) shape parts fits = at_numbers n parts (nat_lt n (count parts)) refl
numbers Last shape parts fits = omega (arith, count_some parts)

first_within : (name : List ℕ) (parts : Parts) (k : ℕ) → IsFirstCalled name parts k → k < count parts
first_within name (last h t g) k is = omega (arith, is.1)
first_within name (more h t g ps) k (inl is) = omega (arith, is.1)
first_within name (more h t g ps) k (inr (n, j, e, is)) = omega (arith, e, first_within name ps j is)

names_within : (p : Part) (parts : Parts) (k : ℕ) → Names p parts k → k < count parts
names_within (Member name) parts k is = first_within name parts k is
names_within (At n) parts k is = omega (arith, is.0, is.1)
names_within Last parts k is = omega (arith, is)

child_within : (parts : Parts) (k : ℕ) → k < count parts → (t : Tree) × (child parts k ≡ Some t)
child_within (last h t g) zero less = (t, refl)
child_within (last h t g) (suc k) less = absurd (omega (arith, less))
child_within (more h t g ps) zero less = (t, refl)
child_within (more h t g ps) (suc k) less = child_within ps k (omega (arith, less))

pub child_fits : (shape : Shape) (k : ℕ) (ps : Parts) (u : Tree) → child ps k ≡ Some u → PartsFit shape ps → Fits u
child_fits shape zero (last h t g) u e f = let same : t ≡ u = cc in subst Fits same f.1
child_fits shape (suc k) (last h t g) u e f = cc
child_fits shape zero (more h t g ps) u e f = let same : t ≡ u = cc in subst Fits same f.1
child_fits shape (suc k) (more h t g ps) u e f = child_fits shape k ps u e f.3

-- ---- all parts

same_is : (a b : Shape) → same_shape a b ≡ true → a ≡ b
same_is shapes.Object shapes.Object e = refl
same_is shapes.Object shapes.Array e = cc
same_is shapes.Array shapes.Object e = cc
same_is shapes.Array shapes.Array e = refl

other_is : (a b : Shape) → same_shape a b ≡ false → a ≢ b
other_is shapes.Object shapes.Object e h = cc
other_is shapes.Object shapes.Array e h = cc
other_is shapes.Array shapes.Object e h = cc
other_is shapes.Array shapes.Array e h = cc

follows_empty : (p : Part) (ps : List Part) (shape : Shape) (gap : List ℕ) (b : Bool) → same_shape (asks p) shape ≡ b
    → Follows (p ∷ ps) (empty shape gap) (cond b (missing [] (empty shape gap) (p ∷ ps)) (mismatch 0))
follows_empty p ps shape gap true e = inr (same_is (asks p) shape e, refl)
follows_empty p ps shape gap false e = inl (other_is (asks p) shape e, refl)

follows_group : (p : Part) (ps : List Part) (shape : Shape) (parts : Parts) (b : Bool) (o : Option ℕ) → same_shape (asks p) shape ≡ b → Numbers p parts o → PartsFit shape parts
    → ((t : Tree) → Fits t → Follows ps t (followed ps t))
    → Follows (p ∷ ps) (group shape parts) (cond b (through parts o (λ t. followed ps t) (missing [] (group shape parts) (p ∷ ps))) (mismatch 0))
follows_group p ps shape parts false o e number fits law = inl (other_is (asks p) shape e, refl)
follows_group p ps shape parts true None e number fits law = inr (inl (same_is (asks p) shape e, number, refl))
follows_group p ps shape parts true (Some k) e number fits law =
    let c = child_within parts k (names_within p parts k number) in
    inr (inr (same_is (asks p) shape e, k, c.0, followed ps c.0, number, c.1, law c.0 (child_fits shape k parts c.0 c.1 fits), ap (λ (o : Option Tree). onward k o (λ t. followed ps t)) c.1))

-- following in JSON comes to this
pub follows : (ps : List Part) (t : Tree) → Fits t → Follows ps t (followed ps t)
unfolding followed
follows [] t fits = refl
follows (p ∷ ps) (leaf kind s) fits = refl
follows (p ∷ ps) (empty shape gap) fits = follows_empty p ps shape gap (same_shape (asks p) shape) refl
follows (p ∷ ps) (group shape parts) fits =
    follows_group p ps shape parts (same_shape (asks p) shape) (named p parts) refl (numbers p shape parts fits) fits (λ t f. follows ps t f)

-- and to nothing else
pub follows_only : (ps : List Part) (t : Tree) (o : Outcome) → Fits t → Follows ps t o → o ≡ followed ps t
follows_only ps t o fits f = follows_one ps t o (followed ps t) f (follows ps t fits)
