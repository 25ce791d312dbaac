-- The parts that are read of a path are those that are told of it.
use Rattle.std.proofs.Common.{◌≡◌, ℕ, zero, suc, ◌<◌, ◌≤◌, List, [], ◌∷◌, ◌++◌, length, Bool, true, false, cond, Option, Some, None, Result, Ok, Err, inl, inr, refl, sym, ap, subst, ◌∙◌, arith, length-append}
use Rattle.std.specs.Prelude.{nat_lt, option_map}
use Rattle.std.specs.Str.{is_utf8}
use Rattle.std.proofs.lemmas.Bool.Decides.{nat_tests}
use Rattle.std.proofs.lemmas.Str.{IsUtf8-from_is_utf8, is_utf8-from_IsUtf8}
use Rattle.doc_model.specs.declared.status.Status.{Status}
use Rattle.doc_model.specs.declared.status.TheConstants.Status as status
use Rattle.json_model.specs.declared.TheConstants.{PATH_LIMIT, PARTS_LIMIT}
use Rattle.json_model.specs.declared.asked.Part.{Part}
use Rattle.json_model.specs.declared.asked.Part.TheVariants.{Member, At, Last}
use Rattle.json_model.specs.Paths.{IsComponent, IsFirst, IsFurther, AreFurther, Spells, IsPath, ReadsPath}
use Rattle.subdoc_path.specs.Reading.{first_at, further_at}
use Rattle.subdoc_path.proofs.Indices.{a_part}
use Rattle.subdoc_path.proofs.Spelling.{first_took, first_again, further_took, further_again, parts_stop}
use Rattle.subdoc_step.specs.Paths.{and_then, further_parts, parts_of, few, read_parts}

abbrev pub these : List Part → Option (List Part)
these parts = Some parts

abbrev parts_are : List Part → Result (List Part) Status
parts_are parts = Ok parts

abbrev refused : Status → Result (List Part) Status
refused s = Err s

-- ---- part by part

-- what a part and the parts behind it come from
record Split (o : Option (Part × List ℕ)) (further : List ℕ → Option (List Part)) (parts : List Part) : Type 0 where
  part : Part
  rest : List ℕ
  others : List Part
  read : o ≡ a_part part rest
  behind : further rest ≡ these others
  whole : part ∷ others ≡ parts

split_by : (p : Part) (rest : List ℕ) (further : List ℕ → Option (List Part)) (o : Option (List Part)) (parts : List Part) → further rest ≡ o → option_map (λ ps. p ∷ ps) o ≡ these parts → Split (a_part p rest) further parts
split_by p rest further None parts is e = cc
split_by p rest further (Some others) parts is e = record { part = p; rest = rest; others = others; read = refl; behind = is; whole = cc }

split_of : (o : Option (Part × List ℕ)) (further : List ℕ → Option (List Part)) (parts : List Part) → and_then o further ≡ these parts → Split o further parts
split_of None further parts e = cc
split_of (Some r) further parts e = split_by r.0 r.1 further (further r.1) parts refl e

further_none : (most : ℕ) → further_parts most [] ≡ these []
unfolding further_parts
further_none zero = refl
further_none (suc most) = refl

none_are : (parts : List Part) → these [] ≡ these parts → AreFurther parts []
none_are [] e = refl
none_are (p ∷ ps) e = cc

-- parts that are read are spelled
further_sound : (most : ℕ) (bytes : List ℕ) (parts : List Part) → further_parts most bytes ≡ these parts → AreFurther parts bytes
unfolding further_parts
further_sound most [] parts e = none_are parts (sym (further_none most) ∙ e)
further_sound zero (x ∷ xs) parts e = cc
further_sound (suc most) (x ∷ xs) parts e =
    let s = split_of (further_at (x ∷ xs)) (λ rest. further_parts most rest) parts e in
    let f = further_took (x ∷ xs) s.part s.rest s.read in
    subst (λ (l : List Part). AreFurther l (x ∷ xs)) s.whole (f.spelled, s.rest, f.is, further_sound most s.rest s.others s.behind, f.whole)

parts_sound : (bytes : List ℕ) (parts : List Part) → parts_of bytes ≡ these parts → Spells parts bytes
unfolding parts_of
parts_sound [] [] e = refl
parts_sound [] (p ∷ ps) e = cc
parts_sound (x ∷ xs) parts e =
    let s = split_of (first_at (x ∷ xs)) (λ rest. further_parts (length xs) rest) parts e in
    let f = first_took (x ∷ xs) s.part s.rest s.read in
    subst (λ (l : List Part). Spells l (x ∷ xs)) s.whole (f.spelled, s.rest, f.is, further_sound (length xs) s.rest s.others s.behind, f.whole)

-- a part has a byte at least
some_component : (name bytes : List ℕ) → IsComponent name bytes → 0 < length bytes
some_component [] bytes (inl (some, bare, e)) = absurd (some refl)
some_component (x ∷ xs) bytes (inl (some, bare, e)) = omega (arith, ap (λ (l : List ℕ). length l) e)
some_component name bytes (inr e) = omega (arith, ap (λ (l : List ℕ). length l) e)

some_first : (p : Part) (bytes : List ℕ) → IsFirst p bytes → 0 < length bytes
some_first (Member name) bytes is = some_component name bytes is
some_first (At n) bytes (digits, whole, value, small, e) = omega (arith, ap (λ (l : List ℕ). length l) e)
some_first Last bytes e = omega (arith, ap (λ (l : List ℕ). length l) e)

some_further : (p : Part) (bytes : List ℕ) → IsFurther p bytes → 0 < length bytes
some_further (Member name) bytes (spelled, is, e) = omega (arith, ap (λ (l : List ℕ). length l) e)
some_further (At n) bytes is = some_first (At n) bytes is
some_further Last bytes is = some_first Last bytes is

shorter : (bytes spelled rest : List ℕ) → bytes ≡ spelled ++ rest → 0 < length spelled → length rest < length bytes
shorter bytes spelled rest e some = omega (arith, ap (λ (l : List ℕ). length l) e, length-append spelled rest)

further_step : (most : ℕ) (bytes : List ℕ) (p : Part) (rest : List ℕ) (ps : List Part) → further_at bytes ≡ a_part p rest → length bytes ≤ most → length rest < length bytes
    → ((n : ℕ) → length rest ≤ n → further_parts n rest ≡ these ps) → further_parts most bytes ≡ these (p ∷ ps)
unfolding further_parts
further_step most [] p rest ps e room less law = absurd (omega (arith, less))
further_step zero (x ∷ xs) p rest ps e room less law = absurd (omega (arith, room))
further_step (suc most) (x ∷ xs) p rest ps e room less law =
    ap (λ o. and_then o (λ rest. further_parts most rest)) e ∙ ap (λ (o : Option (List Part)). option_map (λ ps. p ∷ ps) o) (law most (omega (arith, room, less)))

-- parts that are spelled are read
further_whole : (parts : List Part) (most : ℕ) (bytes : List ℕ) → AreFurther parts bytes → length bytes ≤ most → further_parts most bytes ≡ these parts
further_whole [] most bytes e room = ap (further_parts most) e ∙ further_none most
further_whole (p ∷ ps) most bytes (spelled, rest, is, are, e) room =
    further_step most bytes p rest ps (ap further_at e ∙ further_again p spelled rest is (parts_stop ps rest are)) room (shorter bytes spelled rest e (some_further p spelled is)) (λ n h. further_whole ps n rest are h)

first_step : (bytes : List ℕ) (p : Part) (rest : List ℕ) (ps : List Part) → first_at bytes ≡ a_part p rest → length rest < length bytes
    → ((n : ℕ) → length rest ≤ n → further_parts n rest ≡ these ps) → parts_of bytes ≡ these (p ∷ ps)
unfolding parts_of
first_step [] p rest ps e less law = absurd (omega (arith, less))
first_step (x ∷ xs) p rest ps e less law =
    ap (λ o. and_then o (λ rest. further_parts (length xs) rest)) e ∙ ap (λ (o : Option (List Part)). option_map (λ ps. p ∷ ps) o) (law (length xs) (omega (arith, less)))

none_parts : parts_of [] ≡ these []
unfolding parts_of
none_parts = refl

parts_whole : (parts : List Part) (bytes : List ℕ) → Spells parts bytes → parts_of bytes ≡ these parts
parts_whole [] bytes e = ap parts_of e ∙ none_parts
parts_whole (p ∷ ps) bytes (spelled, rest, is, are, e) =
    first_step bytes p rest ps (ap first_at e ∙ first_again p spelled rest is (parts_stop ps rest are)) (shorter bytes spelled rest e (some_first p spelled is)) (λ n h. further_whole ps n rest are h)

-- ---- a whole path

false_true : {A : Type 0} → true ≡ false → A
false_true e = cc

below : (a b : ℕ) → nat_lt a b ≡ true → a < b
below a b e = grind (arith, nat_tests)

not_below : (a b : ℕ) → nat_lt a b ≡ false → b ≤ a
not_below a b e = grind (arith, nat_tests)

is_below : (a b : ℕ) → a < b → nat_lt a b ≡ true
is_below a b h = grind (arith, nat_tests)

isnt_below : (a b : ℕ) → b ≤ a → nat_lt a b ≡ false
isnt_below a b h = grind (arith, nat_tests)

few_told : (bytes : List ℕ) (parts : List Part) (many : Bool) → length bytes ≤ PATH_LIMIT → IsPath parts bytes → nat_lt PARTS_LIMIT (length parts) ≡ many
    → ReadsPath bytes (cond many (refused status.PATH_E2BIG) (parts_are parts))
few_told bytes parts true room is e = inr (inr (inl (room, parts, is, below PARTS_LIMIT (length parts) e, refl)))
few_told bytes parts false room is e = inr (inr (inr (room, parts, is, not_below PARTS_LIMIT (length parts) e, refl)))

path_told : (bytes : List ℕ) (long utf8 : Bool) (o : Option (List Part)) → nat_lt PATH_LIMIT (length bytes) ≡ long → is_utf8 bytes ≡ utf8 → parts_of bytes ≡ o
    → ReadsPath bytes (cond long (refused status.PATH_E2BIG) (cond utf8 (few o) (refused status.PATH_EINVAL)))
path_told bytes true utf8 o a b c = inl (below PATH_LIMIT (length bytes) a, refl)
path_told bytes false false o a b c = inr (inl (not_below PATH_LIMIT (length bytes) a, λ parts is. false_true (sym (is_utf8-from_IsUtf8 bytes is.utf8) ∙ b), refl))
path_told bytes false true None a b c =
    inr (inl (not_below PATH_LIMIT (length bytes) a, λ parts is. none_no parts (sym c ∙ parts_whole parts bytes is.spelled), refl))
  where
    none_no : (parts : List Part) → None ≡ these parts → ⊥
    none_no parts e = cc
path_told bytes false true (Some parts) a b c =
    few_told bytes parts (nat_lt PARTS_LIMIT (length parts)) (not_below PATH_LIMIT (length bytes) a) (record { utf8 = IsUtf8-from_is_utf8 bytes b; spelled = parts_sound bytes parts c }) refl

-- a path is told as the definition has it
pub path_answered : (bytes : List ℕ) → ReadsPath bytes (read_parts bytes)
unfolding read_parts
path_answered bytes = path_told bytes (nat_lt PATH_LIMIT (length bytes)) (is_utf8 bytes) (parts_of bytes) refl refl refl

-- the answer where the tests come out so
read_is : (bytes : List ℕ) (long utf8 : Bool) (o : Option (List Part)) → nat_lt PATH_LIMIT (length bytes) ≡ long → is_utf8 bytes ≡ utf8 → parts_of bytes ≡ o
    → read_parts bytes ≡ cond long (refused status.PATH_E2BIG) (cond utf8 (few o) (refused status.PATH_EINVAL))
unfolding read_parts
read_is bytes long utf8 o a b c =
    ap (λ (t : Bool). cond t (refused status.PATH_E2BIG) (cond (is_utf8 bytes) (few (parts_of bytes)) (refused status.PATH_EINVAL))) a
    ∙ ap (λ (t : Bool). cond long (refused status.PATH_E2BIG) (cond t (few (parts_of bytes)) (refused status.PATH_EINVAL))) b
    ∙ ap (λ (p : Option (List Part)). cond long (refused status.PATH_E2BIG) (cond utf8 (few p) (refused status.PATH_EINVAL))) c

-- the parts of a path, as they are counted
pub path_reads : (bytes : List ℕ) (parts : List Part) → length bytes ≤ PATH_LIMIT → IsPath parts bytes → read_parts bytes ≡ few (these parts)
path_reads bytes parts room is = read_is bytes false true (these parts) (isnt_below PATH_LIMIT (length bytes) room) (is_utf8-from_IsUtf8 bytes is.utf8) (parts_whole parts bytes is.spelled)

no_path : (bytes : List ℕ) (utf8 : Bool) (o : Option (List Part)) → is_utf8 bytes ≡ utf8 → parts_of bytes ≡ o → ((parts : List Part) → IsPath parts bytes → ⊥) → cond utf8 (few o) (refused status.PATH_EINVAL) ≡ refused status.PATH_EINVAL
no_path bytes false o b c none = refl
no_path bytes true None b c none = refl
no_path bytes true (Some parts) b c none = absurd (none parts (record { utf8 = IsUtf8-from_is_utf8 bytes b; spelled = parts_sound bytes parts c }))

-- and nothing else is told
pub path_only : (bytes : List ℕ) (answer : Result (List Part) Status) → ReadsPath bytes answer → answer ≡ read_parts bytes
path_only bytes answer (inl (long, e)) = e ∙ sym (read_is bytes true (is_utf8 bytes) (parts_of bytes) (is_below PATH_LIMIT (length bytes) long) refl refl)
path_only bytes answer (inr (inl (room, none, e))) =
    e ∙ sym (read_is bytes false (is_utf8 bytes) (parts_of bytes) (isnt_below PATH_LIMIT (length bytes) room) refl refl ∙ no_path bytes (is_utf8 bytes) (parts_of bytes) refl refl none)
path_only bytes answer (inr (inr (inl (room, parts, is, many, e)))) =
    e ∙ sym (path_reads bytes parts room is ∙ ap (λ (t : Bool). cond t (refused status.PATH_E2BIG) (parts_are parts)) (is_below PARTS_LIMIT (length parts) many))
path_only bytes answer (inr (inr (inr (room, parts, is, some, e)))) =
    e ∙ sym (path_reads bytes parts room is ∙ ap (λ (t : Bool). cond t (refused status.PATH_E2BIG) (parts_are parts)) (isnt_below PARTS_LIMIT (length parts) some))

-- parts that are read are those of a path, and not too many
pub path_is : (bytes : List ℕ) (parts : List Part) → read_parts bytes ≡ parts_are parts → IsPath parts bytes × (length parts ≤ PARTS_LIMIT)
path_is bytes parts e = by_case (read_parts bytes) (path_answered bytes) e
  where
    err_no : (s : Status) → refused s ≡ parts_are parts → ⊥
    err_no s e = cc

    same_parts : (ps : List Part) → parts_are ps ≡ parts_are parts → ps ≡ parts
    same_parts ps e = cc

    by_case : (r : Result (List Part) Status) → ReadsPath bytes r → r ≡ parts_are parts → IsPath parts bytes × (length parts ≤ PARTS_LIMIT)
    by_case r (inl (long, h)) e = absurd (err_no status.PATH_E2BIG (sym h ∙ e))
    by_case r (inr (inl (room, none, h))) e = absurd (err_no status.PATH_EINVAL (sym h ∙ e))
    by_case r (inr (inr (inl (room, ps, is, many, h)))) e = absurd (err_no status.PATH_E2BIG (sym h ∙ e))
    by_case r (inr (inr (inr (room, ps, is, some, h)))) e =
        let same : ps ≡ parts = same_parts ps (sym h ∙ e) in
        (subst (λ (l : List Part). IsPath l bytes) same is, subst (λ (l : List Part). length l ≤ PARTS_LIMIT) same some)
