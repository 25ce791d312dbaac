use Rattle.std.proofs.Common.{rules, ◌≡◌, ◌≢◌, List, [], ◌∷◌, length, ◌<◌, ◌≤◌, get_or, IsTrue, Bool, true, false, arith, sym, ◌∙◌, ap, subst, codes, ℕ, nat_eq, not, refl}
use Rattle.std.specs.String.{string_bytes}
use Rattle.std.proofs.lemmas.Slice.Eq.{slice_eq-Decides}
use Rattle.std.proofs.lemmas.Bool.{ne_eqb}
use Rattle.std.proofs.lemmas.Bool.Decides.{Decides-eqb}
use Rattle.kv_tool.specs.Outcomes.{IsPipe}
use Rattle.kv_tool.proofs.offline.is_pipe.Goals as goal

-- a list of two elements
double : {A : Type 0} (xs : List A) (x y : A) → 2 ≤ length xs → length xs < 3 → x ≡ get_or xs 0 x → y ≡ get_or xs 1 y → xs ≡ x ∷ y ∷ []
double [] x y some few e f = absurd (omega arith)
double (a ∷ []) x y some few e f = absurd (omega arith)
double (a ∷ b ∷ []) x y some few e f = cc
double (a ∷ b ∷ c ∷ xs) x y some few e f = absurd (omega arith)

-- bytes that aren't none
some_bytes : (b : Bool) (n : ℕ) (bytes : List ℕ) → b ≡ nat_eq n 0 → n ≡ length bytes → IsTrue (not b) → bytes ≢ []
some_bytes b n bytes e len some none =
    let zero : n ≡ 0 = len ∙ ap (λ (l : List ℕ). length l) none in
    let never : IsTrue (not true) = subst (λ (x : Bool). IsTrue (not x)) (e ∙ ap (λ (k : ℕ). nat_eq k 0) zero) some in
    absurd (search rules)

are_some : (b : Bool) (n : ℕ) (bytes : List ℕ) → b ≡ nat_eq n 0 → n ≡ length bytes → bytes ≢ [] → IsTrue (not b)
are_some b n [] e len some = absurd (some refl)
are_some b n (x ∷ xs) e len some =
    let ne : n ≢ 0 = omega arith in
    let off : b ≡ false = e ∙ ne_eqb n 0 ne in
    subst (λ (y : Bool). IsTrue (not y)) (sym off) refl

pub returns-then-eq : goal.returns-then-eq
returns-then-eq c =
    let two : c.args.words.now ≡ c.word-item-then-words-lt3.result ∷ c.file-item.result ∷ [] =
    double c.args.words.now c.word-item-then-words-lt3.result c.file-item.result c.in-len2.len_at_least c.in-len2.len_below c.word-item-then-words-lt3.is c.file-item.is in
    let decides = slice_eq-Decides Decides-eqb c.as_str-in-len2.result.now (codes "pipe") c.eq-in-len2.result c.eq-in-len2.ensures in
    let named : string_bytes c.word-item-then-words-lt3.result ≡ codes "pipe" = sym c.as_str-in-len2.ensures.value ∙ decides.0 c.if-eq.true in (
      λ some. subst IsPipe (sym two) (named, λ none. some_bytes c.is_empty.result c.file-item.result.bytes.len (string_bytes c.file-item.result) c.is_empty.ensures c.file-item.result.bytes.ok.0 some none),
      λ is. are_some c.is_empty.result c.file-item.result.bytes.len (string_bytes c.file-item.result) c.is_empty.ensures c.file-item.result.bytes.ok.0 (subst IsPipe two is).1,
    )
