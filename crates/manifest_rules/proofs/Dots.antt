-- A path that has a dot.
use Rattle.doc_model.specs.declared.status.Status.{Status}
use Rattle.doc_model.specs.declared.status.TheConstants.Status as status
use Rattle.manifest_rules.specs.declared.types.Scope.{Scope}
use Rattle.std.proofs.Common.{◌≡◌, ℕ, ◌+◌, ◌<◌, Bool, true, false, cond, List, [], ◌∷◌, length, drop, nat_eq, Option, Some, Result, Err, if◌then◌else◌, refl, sym, ap, ◌∙◌, arith}
use Rattle.std.proofs.lemmas.List.{drop-drop}
use Rattle.std.specs.List.{count_by, position_or_len, before_first, after_first}
use Rattle.std.specs.Option.{option_map_or}
use Rattle.std.proofs.lemmas.List.Sums.{sum_by-cons}
use Rattle.manifest_rules.specs.Paths.{is_dot, scope_at, collection_in, collection_by}

-- where some element passes, the first that does stands within
some_passes : {X : Type 0} (p : X → Bool) (xs : List X) → 0 < count_by p xs → position_or_len p xs < length xs
some_passes p [] h = absurd (omega arith)
some_passes p (x ∷ xs) h = by (p x) refl (some_passes p xs)
  where
    by : (b : Bool) → p x ≡ b → (0 < count_by p xs → position_or_len p xs < length xs) → position_or_len p (x ∷ xs) < length (x ∷ xs)
    by true e rest = rw e (omega arith)
    by false e rest = rw e (let more : 0 < count_by p xs = (let whole = sum_by-cons (λ y. cond (p y) 1 0) x xs in let weight : Bool → ℕ = λ b. cond b 1 0 in let one : weight (p x) ≡ weight false = ap weight e in omega (arith, whole, one, h)) in omega (arith, rest more))

pub one_dot : (path : List ℕ) → count_by is_dot path ≡ 1 → position_or_len is_dot path < length path
one_dot path h = some_passes is_dot path (omega arith)

-- what stands behind the element at a place
pub behind : (n : ℕ) (path rest collection : List ℕ) → rest ≡ drop n path → collection ≡ drop 1 rest → collection ≡ drop (n + 1) path
behind n path rest collection p q = q ∙ ap (drop 1) p ∙ drop-drop 1 n path

-- where the scope of a path is found, the collection is looked for in it
pub found : (scopes : List Scope) (path front name : List ℕ) (s : Scope) (r : Result ℕ Status) → count_by is_dot path ≡ 1 → front ≡ before_first is_dot path → name ≡ after_first is_dot path
    → scope_at scopes front ≡ Some s → r ≡ collection_in s name → r ≡ collection_by scopes path
found scopes path front name s r dots before after there is =
    let looked = λ (o : Option Scope). option_map_or (λ t. collection_in t (after_first is_dot path)) o (Err status.UNKNOWN_SCOPE) in
    is ∙ ap (collection_in s) after ∙ sym (ap (λ n. if nat_eq n 1 then looked (scope_at scopes (before_first is_dot path)) else Err status.EINVAL) dots ∙ ap looked (ap (scope_at scopes) (sym before) ∙ there))
