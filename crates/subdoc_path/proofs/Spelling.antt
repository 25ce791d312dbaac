-- Parts that are read are spelled so, and parts that are spelled are read.
use Rattle.std.proofs.Common.{◌≡◌, ℕ, List, [], ◌∷◌, ◌++◌, length, Bool, true, false, cond, eqb, Option, Some, None, Result, Err, inl, inr, refl, sym, ap, subst, ◌∙◌, arith, append_assoc}
use Rattle.json_model.specs.declared.asked.Part.{Part}
use Rattle.json_model.specs.declared.asked.Part.TheVariants.{Member, At, Last}
use Rattle.json_model.specs.Paths.{IsFirst, IsFurther, AreFurther, Spells}
use Rattle.std.proofs.lemmas.Bool.Decides.{nat_tests}
use Rattle.subdoc_path.specs.declared.path.PathFault.{PathFault}
use Rattle.subdoc_path.specs.declared.path.PathFault.TheVariants as faults
use Rattle.subdoc_path.specs.Reading.{Reads, ReadsParts, name_at, index_at, named, first_at, further_at}
use Rattle.subdoc_path.proofs.Names.{Stops, a_name, name_took, name_again, no_bracket}
use Rattle.subdoc_path.proofs.Indices.{a_part, IsIndex, some_part, index_took, index_again}

none_part : (p : Part) (rest : List ℕ) → None ≡ (a_part p rest) → ⊥
none_part p rest e = cc

test_is : (x y : ℕ) → eqb x y ≡ true → x ≡ y
test_is x y e = grind (arith, nat_tests)

named_took : (o : Option (List ℕ × List ℕ)) (p : Part) (rest : List ℕ) → named o ≡ (a_part p rest) → (name : List ℕ) × (o ≡ a_name name rest) × (p ≡ Member name)
named_took None p rest e = absurd (none_part p rest e)
named_took (Some r) p rest e = let h = some_part (Member r.0) p r.1 rest e in (r.0, ap (λ (l : List ℕ). a_name r.0 l) h.1, sym h.0)

index_first : (p : Part) (spelled : List ℕ) → IsIndex p spelled → IsFirst p spelled
index_first (Member name) spelled i = absurd i
index_first (At n) spelled i = i
index_first Last spelled i = i

index_further : (p : Part) (spelled : List ℕ) → IsIndex p spelled → IsFurther p spelled
index_further (Member name) spelled i = absurd i
index_further (At n) spelled i = i
index_further Last spelled i = i

-- ---- the first part

-- a first part that was read, and what is behind it
pub record First (bytes : List ℕ) (p : Part) (rest : List ℕ) : Type 0 where
  pub spelled : List ℕ
  pub is : IsFirst p spelled
  pub whole : bytes ≡ spelled ++ rest

first_turn : (x : ℕ) (xs : List ℕ) (p : Part) (rest : List ℕ) (b : Bool) → eqb x 0x5b ≡ b → cond b (index_at xs) (named (name_at (x ∷ xs))) ≡ (a_part p rest) → First (x ∷ xs) p rest
first_turn x xs p rest true t e =
    let i = index_took xs p rest e in
    record { spelled = i.spelled; is = index_first p i.spelled i.is; whole = ap (λ (y : ℕ). y ∷ xs) (test_is x 0x5b t) ∙ i.whole }
first_turn x xs p rest false t e =
    let n = named_took (name_at (x ∷ xs)) p rest e in
    let m = name_took (x ∷ xs) n.0 rest n.1 in
    subst (λ (q : Part). First (x ∷ xs) q rest) (sym n.2) (record { spelled = m.spelled; is = m.is; whole = m.whole })

pub first_took : (bytes : List ℕ) (p : Part) (rest : List ℕ) → first_at bytes ≡ (a_part p rest) → First bytes p rest
first_took [] p rest e = absurd (none_part p rest e)
first_took (x ∷ xs) p rest e = first_turn x xs p rest (eqb x 0x5b) refl e

named_first : (bytes name rest : List ℕ) → ((x : ℕ) (xs : List ℕ) → bytes ≡ x ∷ xs → eqb x 0x5b ≡ false) → name_at bytes ≡ a_name name rest → first_at bytes ≡ (a_part (Member name) rest)
named_first [] name rest none e = ap named e
named_first (x ∷ xs) name rest none e = ap (λ b. cond b (index_at xs) (named (name_at (x ∷ xs)))) (none x xs refl) ∙ ap named e

indexed_first : (p : Part) (spelled rest : List ℕ) → IsIndex p spelled → first_at (spelled ++ rest) ≡ (a_part p rest)
indexed_first p spelled rest i = let a = index_again p spelled rest i in ap first_at a.1 ∙ a.2

pub first_again : (p : Part) (spelled rest : List ℕ) → IsFirst p spelled → Stops rest → first_at (spelled ++ rest) ≡ (a_part p rest)
first_again (Member name) spelled rest c s = named_first (spelled ++ rest) name rest (λ x xs e. no_bracket name spelled rest x xs c e) (name_again name spelled rest c s)
first_again (At n) spelled rest i s = indexed_first (At n) spelled rest i
first_again Last spelled rest i s = indexed_first Last spelled rest i

-- ---- a further part

-- a further part that was read, and what is behind it
pub record Further (bytes : List ℕ) (p : Part) (rest : List ℕ) : Type 0 where
  pub spelled : List ℕ
  pub is : IsFurther p spelled
  pub whole : bytes ≡ spelled ++ rest

further_turn : (x : ℕ) (xs : List ℕ) (p : Part) (rest : List ℕ) (a b : Bool) → eqb x 0x5b ≡ a → eqb x 0x2e ≡ b → cond a (index_at xs) (cond b (named (name_at xs)) None) ≡ (a_part p rest) → Further (x ∷ xs) p rest
further_turn x xs p rest true b t u e =
    let i = index_took xs p rest e in
    record { spelled = i.spelled; is = index_further p i.spelled i.is; whole = ap (λ (y : ℕ). y ∷ xs) (test_is x 0x5b t) ∙ i.whole }
further_turn x xs p rest false true t u e =
    let n = named_took (name_at xs) p rest e in
    let m = name_took xs n.0 rest n.1 in
    subst (λ (q : Part). Further (x ∷ xs) q rest) (sym n.2) (record { spelled = 0x2e ∷ m.spelled; is = (m.spelled, m.is, refl); whole = ap (λ (y : ℕ). y ∷ xs) (test_is x 0x2e u) ∙ ap (λ (l : List ℕ). 0x2e ∷ l) m.whole })
further_turn x xs p rest false false t u e = absurd (none_part p rest e)

pub further_took : (bytes : List ℕ) (p : Part) (rest : List ℕ) → further_at bytes ≡ (a_part p rest) → Further bytes p rest
further_took [] p rest e = absurd (none_part p rest e)
further_took (x ∷ xs) p rest e = further_turn x xs p rest (eqb x 0x5b) (eqb x 0x2e) refl refl e

indexed_further : (p : Part) (spelled rest : List ℕ) → IsIndex p spelled → further_at (spelled ++ rest) ≡ (a_part p rest)
indexed_further p spelled rest i = let a = index_again p spelled rest i in ap further_at a.1 ∙ a.2

pub further_again : (p : Part) (spelled rest : List ℕ) → IsFurther p spelled → Stops rest → further_at (spelled ++ rest) ≡ (a_part p rest)
further_again (Member name) spelled rest (inner, c, e) s = ap (λ (l : List ℕ). further_at (l ++ rest)) e ∙ ap named (name_again name inner rest c s)
further_again (At n) spelled rest i s = indexed_further (At n) spelled rest i
further_again Last spelled rest i s = indexed_further Last spelled rest i

-- ---- all parts

further_stops : (p : Part) (spelled rest : List ℕ) → IsFurther p spelled → Stops (spelled ++ rest)
further_stops (Member name) spelled rest (inner, c, e) = subst (λ (l : List ℕ). Stops (l ++ rest)) (sym e) (inl refl)
further_stops (At n) spelled rest (ds, w, v, h, e) = subst (λ (l : List ℕ). Stops (l ++ rest)) (sym e) (inr refl)
further_stops Last spelled rest e = subst (λ (l : List ℕ). Stops (l ++ rest)) (sym e) (inr refl)

pub parts_stop : (ps : List Part) (bytes : List ℕ) → AreFurther ps bytes → Stops bytes
parts_stop [] bytes e = subst (λ (l : List ℕ). Stops l) (sym e) tt
parts_stop (p ∷ ps) bytes (spelled, rest, is, are, e) = subst (λ (l : List ℕ). Stops l) (sym e) (further_stops p spelled rest is)

-- parts behind another whose bytes begin with a part that is read
pub further_split : (ps : List Part) (bytes : List ℕ) (p : Part) (rest : List ℕ) → AreFurther ps bytes → further_at bytes ≡ (a_part p rest) → (qs : List Part) × (ps ≡ p ∷ qs) × AreFurther qs rest
further_split [] bytes p rest e r = absurd (none_part p rest (ap further_at (sym e) ∙ r))
further_split (q ∷ qs) bytes p rest (spelled, more, is, are, e) r =
    let again : (a_part q more) ≡ (a_part p rest) = sym (further_again q spelled more is (parts_stop qs more are)) ∙ ap further_at (sym e) ∙ r in
    let h = some_part q p more rest again in
    (qs, ap (λ (x : Part). x ∷ qs) h.0, subst (λ (l : List ℕ). AreFurther qs l) h.1 are)

pub first_split : (ps : List Part) (bytes : List ℕ) (p : Part) (rest : List ℕ) → Spells ps bytes → first_at bytes ≡ (a_part p rest) → (qs : List Part) × (ps ≡ p ∷ qs) × AreFurther qs rest
first_split [] bytes p rest e r = absurd (none_part p rest (ap first_at (sym e) ∙ r))
first_split (q ∷ qs) bytes p rest (spelled, more, is, are, e) r =
    let again : (a_part q more) ≡ (a_part p rest) = sym (first_again q spelled more is (parts_stop qs more are)) ∙ ap first_at (sym e) ∙ r in
    let h = some_part q p more rest again in
    (qs, ap (λ (x : Part). x ∷ qs) h.0, subst (λ (l : List ℕ). AreFurther qs l) h.1 are)

-- where parts are read, some are spelled
pub further_reads : (p : Part) (ps : List Part) (bytes : List ℕ) → AreFurther (p ∷ ps) bytes → (rest : List ℕ) × (further_at bytes ≡ (a_part p rest))
further_reads p ps bytes (spelled, rest, is, are, e) = (rest, ap further_at e ∙ further_again p spelled rest is (parts_stop ps rest are))

pub first_reads : (p : Part) (ps : List Part) (bytes : List ℕ) → Spells (p ∷ ps) bytes → (rest : List ℕ) × (first_at bytes ≡ (a_part p rest))
first_reads p ps bytes (spelled, rest, is, are, e) = (rest, ap first_at e ∙ first_again p spelled rest is (parts_stop ps rest are))

-- no bytes spell no parts
pub none_further : (ps : List Part) (bytes : List ℕ) → AreFurther ps bytes → bytes ≡ [] → ps ≡ []
none_further [] bytes are e = refl
none_further (p ∷ ps) bytes are e = let r = further_reads p ps bytes are in absurd (none_part p r.0 (ap further_at (sym e) ∙ r.1))

pub none_spelled : (ps : List Part) (bytes : List ℕ) → Spells ps bytes → bytes ≡ [] → ps ≡ []
none_spelled [] bytes are e = refl
none_spelled (p ∷ ps) bytes are e = let r = first_reads p ps bytes are in absurd (none_part p r.0 (ap first_at (sym e) ∙ r.1))

pub one_further : (ps qs : List Part) (bytes : List ℕ) → AreFurther ps bytes → AreFurther qs bytes → ps ≡ qs
one_further [] qs bytes a b = sym (none_further qs bytes b a)
one_further (p ∷ ps) qs bytes a b =
    let r = further_reads p ps bytes a in
    let s = further_split qs bytes p r.0 b r.1 in
    let t = further_split (p ∷ ps) bytes p r.0 a r.1 in
    let tail : ps ≡ t.0 = cc in
    ap (λ (l : List Part). p ∷ l) (one_further ps s.0 r.0 (subst (λ (l : List Part). AreFurther l r.0) (sym tail) t.2) s.2) ∙ sym s.1

-- bytes spell one list of parts at most
pub one_spelled : (ps qs : List Part) (bytes : List ℕ) → Spells ps bytes → Spells qs bytes → ps ≡ qs
one_spelled [] qs bytes a b = sym (none_spelled qs bytes b a)
one_spelled (p ∷ ps) qs bytes a b =
    let r = first_reads p ps bytes a in
    let s = first_split qs bytes p r.0 b r.1 in
    let t = first_split (p ∷ ps) bytes p r.0 a r.1 in
    let tail : ps ≡ t.0 = cc in
    ap (λ (l : List Part). p ∷ l) (one_further ps s.0 r.0 (subst (λ (l : List Part). AreFurther l r.0) (sym tail) t.2) s.2) ∙ sym s.1

-- ---- the loop over parts

-- What is left spells the parts behind those that were read, and nothing else does.
pub record Going (bytes : List ℕ) (done : List Part) (rest : List ℕ) : Type 0 where
  pub sound : (ps : List Part) → AreFurther ps rest → Spells (done ++ ps) bytes
  pub whole : (all : List Part) → Spells all bytes → (ps : List Part) × (all ≡ done ++ ps) × AreFurther ps rest

pub going_first : (bytes : List ℕ) (p : Part) (rest : List ℕ) → first_at bytes ≡ (a_part p rest) → Going bytes (p ∷ []) rest
going_first bytes p rest r =
    let f = first_took bytes p rest r in
    record {
      sound = λ ps are. (f.spelled, rest, f.is, are, f.whole);
      whole = λ all s. first_split all bytes p rest s r;
    }

pub going_more : (bytes : List ℕ) (done : List Part) (rest : List ℕ) (p : Part) (behind : List ℕ) → Going bytes done rest → further_at rest ≡ (a_part p behind) → Going bytes (done ++ p ∷ []) behind
going_more bytes done rest p behind g r =
    let f = further_took rest p behind r in
    record {
      sound = λ ps are. subst (λ (l : List Part). Spells l bytes) (sym (append_assoc done (p ∷ []) ps)) (g.sound (p ∷ ps) (f.spelled, behind, f.is, are, f.whole));
      whole = λ all s.
          let w = g.whole all s in
          let h = further_split w.0 rest p behind w.2 r in
          (h.0, w.1 ∙ ap (λ (l : List Part). done ++ l) h.1 ∙ sym (append_assoc done (p ∷ []) h.0), h.2);
    }

append_none : (l : List Part) → l ++ [] ≡ l
append_none [] = refl
append_none (x ∷ l) = ap (λ (m : List Part). x ∷ m) (append_none l)

pub going_done : (bytes : List ℕ) (done : List Part) (rest : List ℕ) → Going bytes done rest → rest ≡ [] → Spells done bytes
going_done bytes done rest g e = subst (λ (l : List Part). Spells l bytes) (append_none done) (g.sound [] e)

-- where no part is read, nothing is spelled
pub going_stops : (bytes : List ℕ) (done : List Part) (rest : List ℕ) → Going bytes done rest → (rest ≡ [] → ⊥) → further_at rest ≡ None → (all : List Part) → Spells all bytes → ⊥
going_stops bytes done rest g some r all s = let w = g.whole all s in by_parts w.0 w.2
  where
    by_parts : (ps : List Part) → AreFurther ps rest → ⊥
    by_parts [] e = some e
    by_parts (p ∷ ps) are = let f = further_reads p ps rest are in none_part p f.0 (sym r ∙ f.1)

pub first_stops : (bytes : List ℕ) → (bytes ≡ [] → ⊥) → first_at bytes ≡ None → (all : List Part) → Spells all bytes → ⊥
first_stops bytes some r [] e = some e
first_stops bytes some r (p ∷ ps) s = let f = first_reads p ps bytes s in none_part p f.0 (sym r ∙ f.1)

-- ---- as the loop reads

pub some_bytes : (l : List ℕ) (b : Bool) → b ≡ eqb (length l) 0 → b ≡ false → l ≡ [] → ⊥
some_bytes l b e f n = different (sym (ap (λ (m : List ℕ). eqb (length m) 0) n) ∙ sym e ∙ f)
  where
    different : true ≡ false → ⊥
    different e = cc

pub no_bytes : (l : List ℕ) (b : Bool) → b ≡ eqb (length l) 0 → b ≡ true → l ≡ []
no_bytes [] b e f = refl
no_bytes (x ∷ xs) b e f = absurd (grind (arith, nat_tests))

pub first_fails : (bytes : List ℕ) (e : PathFault) (r : Result (List Part) PathFault) → (bytes ≡ [] → ⊥) → Reads {A = Part × List ℕ} (first_at bytes) (Err e) → r ≡ Err e → ReadsParts bytes r
first_fails bytes e r some h is = subst (λ (x : Result (List Part) PathFault). ReadsParts bytes x) (sym is) (by_fault e h)
  where
    by_fault : (e : PathFault) → Reads {A = Part × List ℕ} (first_at bytes) (Err e) → ReadsParts bytes (Err e)
    by_fault faults.Einval h = first_stops bytes some h
    by_fault faults.E2big h = h
    by_fault faults.NoMemory h = tt

pub going_fails : (bytes : List ℕ) (done : List Part) (rest : List ℕ) (e : PathFault) (r : Result (List Part) PathFault) → Going bytes done rest → (rest ≡ [] → ⊥) → Reads {A = Part × List ℕ} (further_at rest) (Err e) → r ≡ Err e → ReadsParts bytes r
going_fails bytes done rest e r g some h is = subst (λ (x : Result (List Part) PathFault). ReadsParts bytes x) (sym is) (by_fault e h)
  where
    by_fault : (e : PathFault) → Reads {A = Part × List ℕ} (further_at rest) (Err e) → ReadsParts bytes (Err e)
    by_fault faults.Einval h = going_stops bytes done rest g some h
    by_fault faults.E2big h = h
    by_fault faults.NoMemory h = tt
