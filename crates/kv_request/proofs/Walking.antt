-- Specs are walked one after the other, and those that are read are spelled so.
use Rattle.std.proofs.Common.{◌≡◌, ℕ, zero, suc, ◌+◌, ◌<◌, ◌≤◌, Bool, true, false, List, [], ◌∷◌, ◌++◌, length, Option, Some, None, refl, sym, ap, subst, ◌∙◌, arith, length-append}
use Rattle.std.specs.Prelude.{is_some, unwrap_or, option_map}
use Rattle.std.specs.List.{AllByRecursion}
use Rattle.kv_edge.specs.Fields.{IsBytes}
use Rattle.kv_request.specs.declared.request.Spec.{Spec}
use Rattle.kv_request.specs.Multi.{spec_bytes, specs_bytes, look_spec_at, edit_spec_at, spec_at, and_more, specs_from, specs_in, FitsSpec}
use Rattle.kv_request.specs.Viewing.{AreSpecs, specs_at}
use Rattle.kv_request.proofs.OneSpec.{spec_takes, spec_again, spec_long, spec_some}

-- what follows a spec is shorter
pub spec_shorter : (edits : Bool) (bytes : List ℕ) (spec : Spec) (rest : List ℕ)
    → spec_at edits bytes ≡ Some (spec, rest) → length rest < length bytes
spec_shorter edits bytes spec rest read = omega (arith, spec_long edits bytes spec rest read, spec_some edits spec)

-- what is read behind a spec counts for the bytes that follow it alone
and_same : (read : Option (Spec × List ℕ)) (f g : List ℕ → Option (List Spec))
    → ((spec : Spec) (rest : List ℕ) → read ≡ Some (spec, rest) → f rest ≡ g rest)
    → and_more read f ≡ and_more read g
and_same None f g same = refl
and_same (Some x) f g same = ap (option_map (λ specs. x.0 ∷ specs)) (same x.0 x.1 refl)

-- more than enough is as good as enough
enough : (m n : ℕ) (edits : Bool) (bytes : List ℕ) → length bytes ≤ m → length bytes ≤ n
    → specs_from m edits bytes ≡ specs_from n edits bytes
unfolding specs_from
enough m n edits [] p q = refl
enough zero n edits (x ∷ xs) p q = absurd (omega arith)
enough (suc m) zero edits (x ∷ xs) p q = absurd (omega arith)
enough (suc m) (suc n) edits (x ∷ xs) p q =
    and_same (spec_at edits (x ∷ xs)) (specs_from m edits) (specs_from n edits)
    (λ spec rest read.
    let less = spec_shorter edits (x ∷ xs) spec rest read in
    enough m n edits rest (omega arith) (omega arith))

none_at : (edits : Bool) → spec_at edits [] ≡ None
unfolding look_spec_at edit_spec_at
none_at true = refl
none_at false = refl

-- the specs of bytes with a spec at the front
pub specs_step : (edits : Bool) (bytes : List ℕ) (spec : Spec) (rest : List ℕ)
    → spec_at edits bytes ≡ Some (spec, rest)
    → specs_in edits bytes ≡ option_map (λ specs. spec ∷ specs) (specs_in edits rest)
unfolding specs_from
specs_step edits [] spec rest read = absurd (let e = sym (none_at edits) ∙ read in cc)
specs_step edits (x ∷ xs) spec rest read =
    let less = spec_shorter edits (x ∷ xs) spec rest read in
    ap (λ r. and_more r (specs_from (length xs) edits)) read
    ∙ ap (option_map (λ specs. spec ∷ specs)) (enough (length xs) (length rest) edits rest (omega arith) (omega arith))

-- ---- the bytes of specs

pub specs_read : (edits : Bool) (specs : List Spec) → AllByRecursion (FitsSpec edits) specs
    → specs_in edits (specs_bytes edits specs) ≡ Some specs
unfolding specs_from
specs_read edits [] all = refl
specs_read edits (spec ∷ specs) all =
    let back = specs_bytes edits specs in
    specs_step edits (spec_bytes edits spec ++ back) spec back (spec_again edits spec back all.0)
    ∙ ap (option_map (λ more. spec ∷ more)) (specs_read edits specs all.1)

-- specs with one more at the front
one_more : (spec : Spec) (more : Option (List Spec)) (specs : List Spec)
    → option_map (λ more. spec ∷ more) more ≡ Some specs
    → (tail : List Spec) × (more ≡ Some tail) × (spec ∷ tail ≡ specs)
one_more spec None specs e = absurd (cc)
one_more spec (Some tail) specs e = (tail, refl, cc)

-- what holds of no specs, and of specs with one more at the front, holds of all that are read
module _ (edits : Bool) (P : List ℕ → List Spec → Type 0) (nothing : P [] [])
    (more : (bytes : List ℕ) (spec : Spec) (rest : List ℕ) (specs : List Spec)
    → spec_at edits bytes ≡ Some (spec, rest) → P rest specs → P bytes (spec ∷ specs)) where
  behind_one : (bytes : List ℕ) (read : Option (Spec × List ℕ)) (others : List ℕ → Option (List Spec)) (specs : List Spec)
      → spec_at edits bytes ≡ read → and_more read others ≡ Some specs
      → ((rest : List ℕ) (tail : List Spec) → others rest ≡ Some tail → P rest tail) → P bytes specs
  behind_one bytes None others specs is e further = absurd (cc)
  behind_one bytes (Some x) others specs is e further =
      let m = one_more x.0 (others x.1) specs e in
      subst (P bytes) m.2 (more bytes x.0 x.1 m.0 is (further x.1 m.0 m.1))

  by_specs : (most : ℕ) (bytes : List ℕ) (specs : List Spec) → specs_from most edits bytes ≡ Some specs
      → P bytes specs
  unfolding specs_from
  by_specs most [] specs e = subst (P []) (let same : [] ≡ specs = cc in same) nothing
  by_specs zero (x ∷ xs) specs e = absurd (cc)
  by_specs (suc most) (x ∷ xs) specs e =
      behind_one (x ∷ xs) (spec_at edits (x ∷ xs)) (specs_from most edits) specs refl e (λ rest tail. by_specs most rest tail)

pub specs_spelled : (edits : Bool) (bytes : List ℕ) (specs : List Spec) → IsBytes bytes
    → specs_in edits bytes ≡ Some specs → bytes ≡ specs_bytes edits specs
specs_spelled edits bytes specs all e =
    by_specs edits (λ bytes specs. IsBytes bytes → bytes ≡ specs_bytes edits specs) (λ all. refl)
    (λ bytes spec rest specs read so all.
    let t = spec_takes edits bytes spec rest all read in
    t.parts ∙ ap (λ l. spec_bytes edits spec ++ l) (so t.rest_fits))
    (length bytes) bytes specs e all

pub specs_long : (edits : Bool) (bytes : List ℕ) (specs : List Spec) → specs_in edits bytes ≡ Some specs
    → length (specs_bytes edits specs) ≡ length bytes
specs_long edits bytes specs e =
    by_specs edits (λ bytes specs. length (specs_bytes edits specs) ≡ length bytes) refl
    (λ bytes spec rest specs read so.
    omega (arith, so, spec_long edits bytes spec rest read, length-append (spec_bytes edits spec) (specs_bytes edits specs)))
    (length bytes) bytes specs e

-- ---- a walk

-- how a walk goes on behind a spec
pub record Walks (edits : Bool) (bytes : List ℕ) (spec : Spec) (rest : List ℕ) : Type 0 where
  pub shorter : length rest < length bytes
  pub are : AreSpecs edits rest
  pub specs : specs_at edits bytes ≡ spec ∷ specs_at edits rest

step_walks : (spec : Spec) (more : Option (List Spec))
    → is_some (option_map (λ specs. spec ∷ specs) more) ≡ true
    → (is_some more ≡ true) × (unwrap_or (option_map (λ specs. spec ∷ specs) more) [] ≡ spec ∷ unwrap_or more [])
step_walks spec None e = absurd (cc)
step_walks spec (Some specs) e = (refl, refl)

pub walks : (edits : Bool) (bytes : List ℕ) (spec : Spec) (rest : List ℕ)
    → spec_at edits bytes ≡ Some (spec, rest) → AreSpecs edits bytes → Walks edits bytes spec rest
walks edits bytes spec rest read are =
    let step = specs_step edits bytes spec rest read in
    let h = step_walks spec (specs_in edits rest) (rw step at are) in
    record { shorter = spec_shorter edits bytes spec rest read; are = h.0; specs = ap (λ o. unwrap_or o []) step ∙ h.1 }

-- where no spec is at the front of bytes, they are specs only if there are none
pub specs_end : (edits : Bool) (bytes : List ℕ) → spec_at edits bytes ≡ None → 0 < length bytes
    → specs_in edits bytes ≡ None
unfolding specs_from
specs_end edits [] read some = absurd (omega arith)
specs_end edits (x ∷ xs) read some = ap (λ r. and_more r (specs_from (length xs) edits)) read

-- a walk ends behind the last spec
pub walked : (edits : Bool) (bytes : List ℕ) → spec_at edits bytes ≡ None → AreSpecs edits bytes
    → specs_at edits bytes ≡ []
unfolding specs_from
walked edits [] read are = refl
walked edits (x ∷ xs) read are =
    absurd (let none = specs_end edits (x ∷ xs) read (omega arith) in let e = rw none at are in cc)

-- where no bytes follow, no spec does
pub counted : (n : ℕ) (edits : Bool) (bytes : List ℕ) → length bytes ≡ 0
    → option_map (λ specs. n + length specs) (specs_in edits bytes) ≡ Some n
unfolding specs_from
counted n edits [] none = ap (λ k. Some k) (let e : n + 0 ≡ n = omega arith in e)
counted n edits (x ∷ xs) none = absurd (omega arith)

-- one more spec counts for one
count_one : (n : ℕ) (spec : Spec) (more : Option (List Spec))
    → option_map (λ specs. n + length specs) (option_map (λ specs. spec ∷ specs) more) ≡ option_map (λ specs. n + 1 + length specs) more
count_one n spec None = refl
count_one n spec (Some specs) = ap (λ k. Some k) (let e : n + length (spec ∷ specs) ≡ n + 1 + length specs = omega arith in e)

pub count_step : (n : ℕ) (edits : Bool) (bytes : List ℕ) (spec : Spec) (rest : List ℕ)
    → spec_at edits bytes ≡ Some (spec, rest)
    → option_map (λ specs. n + 1 + length specs) (specs_in edits rest) ≡ option_map (λ specs. n + length specs) (specs_in edits bytes)
count_step n edits bytes spec rest read =
    let step = specs_step edits bytes spec rest read in
    sym (ap (option_map (λ specs. n + length specs)) step ∙ count_one n spec (specs_in edits rest))
