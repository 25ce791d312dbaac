-- The fields of a pair: what stands at the front of bytes stands there in one way.
use Rattle.std.proofs.Common.{◌≡◌, ◌≢◌, ℕ, ◌<◌, ◌^◌, List, [], ◌∷◌, ◌++◌, length, get_or, ◌-◌, Option, Some, None, MatchOption, refl, sym, ap, ap₂, subst, ◌∙◌, append_assoc, length-append, arith, option_map}
use Rattle.std.proofs.lemmas.List.{append_cancel_right, get_or_at}
use Rattle.std.proofs.lemmas.List.Elements.{All-head, All-tail}
use Rattle.std.proofs.lemmas.Option.{none-some}
use Rattle.std.specs.Int.{w32, to_be_bytes}
use Rattle.kv_edge.specs.Fields.{◌>>=◌, IsBytes, number_at, bytes_at}
use Rattle.kv_edge.proofs.Fields.{wide32, some_is, number_takes, number_again, bytes_take, bytes_again}
use Rattle.xattr_body.specs.Section.{Pair, HasNoZero, IsName, IsValue, pair_body, pair_bytes}
use Rattle.xattr_body.specs.Fields.{SizedAt, NotSized, SplitAt, PartsOf, NoParts, PairAt, NoPairAt}

-- ---- bytes behind their length

-- a length, so many bytes, and the rest
read_sized : List ℕ → Option (List ℕ × List ℕ)
read_sized bytes = number_at w32 bytes >>= λ x. bytes_at x.0 x.1

abbrev both : List ℕ → List ℕ → Option (List ℕ × List ℕ)
both body rest = Some (body, rest)

sized_again : (bytes body rest : List ℕ) → SizedAt bytes body rest → read_sized bytes ≡ both body rest
unfolding read_sized
sized_again bytes body rest s =
    ap (λ (b : List ℕ). number_at w32 b >>= λ x. bytes_at x.0 x.1) s.front
    ∙ ap (λ r. r >>= λ x. bytes_at x.0 x.1) (number_again w32 (2 ^ 32) wide32 (length body) (body ++ rest) s.fits)
    ∙ bytes_again body rest

pub sized_same : (bytes a x b y : List ℕ) → SizedAt bytes a x → SizedAt bytes b y → (a ≡ b) × (x ≡ y)
sized_same bytes a x b y s t =
    let same = some_is (a, x) (b, y) (sym (sized_again bytes a x s) ∙ sized_again bytes b y t) in
    (ap (λ (p : List ℕ × List ℕ). p.0) same, ap (λ (p : List ℕ × List ℕ). p.1) same)

abbrev number : ℕ → List ℕ → Option (ℕ × List ℕ)
number n rest = Some (n, rest)

read_on : (bytes rest : List ℕ) (n : ℕ) → number_at w32 bytes ≡ number n rest → read_sized bytes ≡ bytes_at n rest
unfolding read_sized
read_on bytes rest n e = ap (λ r. r >>= λ x. bytes_at x.0 x.1) e

not_read : (bytes : List ℕ) → read_sized bytes ≡ None → NotSized bytes
not_read bytes e body rest s = none-some _ (sym e ∙ sized_again bytes body rest s)

pub no_number : (bytes : List ℕ) → number_at w32 bytes ≡ None → NotSized bytes
unfolding read_sized
no_number bytes e = not_read bytes (ap (λ r. r >>= λ x. bytes_at x.0 x.1) e)

pub sized_by : {A : Type 0} (f : A → List ℕ × List ℕ) (bytes rest : List ℕ) (n : ℕ) (r : Option A) → IsBytes bytes → number_at w32 bytes ≡ number n rest → option_map f r ≡ bytes_at n rest
    → MatchOption r (NotSized bytes) (λ x. SizedAt bytes (f x).0 (f x).1)
sized_by f bytes rest n None fits e g = not_read bytes (read_on bytes rest n e ∙ sym g)
sized_by f bytes rest n (Some x) fits e g =
    let t = number_takes w32 (2 ^ 32) wide32 bytes n rest fits e in
    let u = bytes_take n rest (f x).0 (f x).1 t.0.rest_fits (sym g) in
    record {
      fits = omega (arith, t.1, u.1);
      front = t.0.parts ∙ ap₂ (λ (m : ℕ) (l : List ℕ). to_be_bytes w32 m ++ l) (sym u.1) u.0.parts;
    }

-- ---- bytes before and behind the first 00

pub split_same : (a b x y : List ℕ) → HasNoZero a → HasNoZero b → a ++ 0 ∷ x ≡ b ++ 0 ∷ y → (a ≡ b) × (x ≡ y)
split_same [] [] x y h k e = (refl, cc)
split_same [] (c ∷ b) x y h k e = absurd (All-head (λ byte. byte ≢ 0) c b k cc)
split_same (c ∷ a) [] x y h k e = absurd (All-head (λ byte. byte ≢ 0) c a h cc)
split_same (c ∷ a) (d ∷ b) x y h k e =
    let first : c ≡ d = cc in
    let more : a ++ 0 ∷ x ≡ b ++ 0 ∷ y = cc in
    let same = split_same a b x y (All-tail (λ byte. byte ≢ 0) c a h) (All-tail (λ byte. byte ≢ 0) d b k) more in
    (ap₂ (λ (z : ℕ) (l : List ℕ). z ∷ l) first same.0, same.1)

pub parts_same : (body : List ℕ) (p q : Pair) → PartsOf body p → PartsOf body q → p ≡ q
parts_same body p q s t =
    let same = split_same p.0 q.0 (p.1 ++ 0 ∷ []) (q.1 ++ 0 ∷ []) s.no_zero t.no_zero (sym s.spelled ∙ t.spelled) in
    ap₂ (λ (a : List ℕ) (b : List ℕ). (a, b)) same.0 (append_cancel_right p.1 q.1 (0 ∷ []) same.1)

-- ---- a pair

pub pair_sized : (bytes : List ℕ) (p : Pair) (rest : List ℕ) → PairAt bytes p rest → SizedAt bytes (pair_body p) rest
pair_sized bytes p rest a = record {
  fits = a.good.fits;
  front = a.front ∙ append_assoc (to_be_bytes w32 (length (pair_body p))) (pair_body p) rest;
}

pub pair_parts : (bytes body rest : List ℕ) (p : Pair) (more : List ℕ) → SizedAt bytes body rest → PairAt bytes p more → PartsOf body p
pair_parts bytes body rest p more s a =
    record { no_zero = a.good.name.no_zero; spelled = (sized_same bytes body rest (pair_body p) more s (pair_sized bytes p more a)).0 }

pub pair_same : (bytes : List ℕ) (p q : Pair) (x y : List ℕ) → PairAt bytes p x → PairAt bytes q y → (p ≡ q) × (x ≡ y)
pair_same bytes p q x y a b = (
  parts_same (pair_body p) p q (pair_parts bytes (pair_body p) x p x (pair_sized bytes p x a) a) (pair_parts bytes (pair_body p) x q y (pair_sized bytes p x a) b),
  (sized_same bytes (pair_body p) x (pair_body q) y (pair_sized bytes p x a) (pair_sized bytes q y b)).1,
)

-- why there is none

pub none_sized : (bytes : List ℕ) → NotSized bytes → NoPairAt bytes
none_sized bytes none p rest a = none (pair_body p) rest (pair_sized bytes p rest a)

pub none_parted : (bytes body rest : List ℕ) → SizedAt bytes body rest → NoParts body → NoPairAt bytes
none_parted bytes body rest s none p more a = none p (pair_parts bytes body rest p more s a)

pub none_named : (bytes body rest : List ℕ) (q : Pair) → SizedAt bytes body rest → PartsOf body q → (IsName q.0 → ⊥) → NoPairAt bytes
none_named bytes body rest q s t none p more a =
    none (subst (λ (r : Pair). IsName r.0) (parts_same body p q (pair_parts bytes body rest p more s a) t) a.good.name)

pub none_valued : (bytes body rest : List ℕ) (q : Pair) → SizedAt bytes body rest → PartsOf body q → (IsValue q.1 → ⊥) → NoPairAt bytes
none_valued bytes body rest q s t none p more a =
    none (subst (λ (r : Pair). IsValue r.1) (parts_same body p q (pair_parts bytes body rest p more s a) t) a.good.value)

pub pair_found : (bytes body rest : List ℕ) (p : Pair) → SizedAt bytes body rest → PartsOf body p → IsName p.0 → IsValue p.1 → PairAt bytes p rest
pair_found bytes body rest p s t name value = record {
  good = record { name = name; value = value; fits = subst (λ (l : List ℕ). length l < 2 ^ 32) t.spelled s.fits };
  front = s.front ∙ ap (λ (l : List ℕ). to_be_bytes w32 (length l) ++ (l ++ rest)) t.spelled ∙ sym (append_assoc (to_be_bytes w32 (length (pair_body p))) (pair_body p) rest);
}

-- a pair has bytes
pub pair_some : (bytes : List ℕ) (p : Pair) (rest : List ℕ) → bytes ≡ pair_bytes p ++ rest → length rest < length bytes
pair_some bytes p rest e =
    omega (arith, ap length e, length-append (pair_bytes p) rest, length-append (to_be_bytes w32 (length (pair_body p))) (pair_body p), wide32.len (length (pair_body p)))

-- ---- why bytes aren't a name, 00, a text, 00

pub parts_split : (body : List ℕ) (p : Pair) → PartsOf body p → SplitAt body p.0 (p.1 ++ 0 ∷ [])
parts_split body p s = record { no_zero = s.no_zero; parts = s.spelled }

pub no_parts : (body : List ℕ) → HasNoZero body → NoParts body
no_parts body none p s =
    let within : length p.0 < length body = omega (arith, ap length s.spelled, length-append p.0 (0 ∷ (p.1 ++ 0 ∷ []))) in
    none (length p.0) 0 within (ap (λ (l : List ℕ). get_or l (length p.0) 0) s.spelled ∙ get_or_at p.0 0 (p.1 ++ 0 ∷ []) 0 (length p.0) refl)

pub split_rest : (body name rest : List ℕ) (p : Pair) → SplitAt body name rest → PartsOf body p → rest ≡ p.1 ++ 0 ∷ []
split_rest body name rest p s t = (split_same name p.0 rest (p.1 ++ 0 ∷ []) s.no_zero t.no_zero (sym s.parts ∙ t.spelled)).1

pub no_rest : (body name rest : List ℕ) → SplitAt body name rest → length rest < 1 → NoParts body
no_rest body name rest s none p t = omega (arith, none, ap length (split_rest body name rest p s t), length-append p.1 (0 ∷ []))

pub no_last : (body name rest : List ℕ) → SplitAt body name rest → (get_or rest (length rest - 1) 0 ≡ 0 → ⊥) → NoParts body
no_last body name rest s none p t =
    let same = split_rest body name rest p s t in
    let at : length rest - 1 ≡ length p.1 = omega (arith, ap length same, length-append p.1 (0 ∷ [])) in
    none (ap₂ (λ (l : List ℕ) (i : ℕ). get_or l i 0) same at ∙ get_or_at p.1 0 [] 0 (length p.1) refl)
