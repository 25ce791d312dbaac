-- The bytes of a line are no other line's.
use Rattle.std.specs.Prelude.{◌≡◌, ◌≢◌, ℕ, zero, suc, ◌<◌, nat_eq, nat_lt, Bool, true, false, List, [], ◌∷◌, ◌++◌, length, map, codes, Option, Some, Result, Ok, if◌then◌else◌, refl}
use Rattle.std.specs.Cmp.Lexicographic.{pointwise}
use Rattle.std.specs.Fmt.{decimal}
use Rattle.std.specs.List.{AllByRecursion, Contains, list_all}
use Rattle.std.proofs.Common.{inl, inr, sym, ap, ◌∙◌, subst, arith, get_or}
use Rattle.std.proofs.lemmas.Bool.{and_parts}
use Rattle.std.proofs.lemmas.Bool.Decides.{nat_tests}
use Rattle.std.proofs.lemmas.Fmt.{decimal_injective}
use Rattle.std.proofs.lemmas.List.{append-nil}
use Rattle.hex.specs.Hex.{decode_of}
use Rattle.kv_script.specs.declared.keyword.Keyword.{Keyword}
use Rattle.kv_script.specs.declared.keyword.Keyword.TheVariants as keywords
use Rattle.kv_script.specs.declared.line.Line.{Line}
use Rattle.kv_script.specs.declared.line.Line.TheVariants as lines
use Rattle.kv_script.specs.Lines.{IsNumber, IsOneNumber, IsOneCopy, IsCopyAndNumber, IsFed, IsPromotion, IsChainOf, IsLine, IsComment, IsSpelled, HasParts, joined, keyword_of, strength, word}
use Rattle.kv_script.specs.Reading.{place_of}
use Rattle.kv_script.proofs.Places.{places_back}
use Rattle.kv_script.proofs.Reread.{split_words}
use Rattle.kv_script.proofs.Solid.{Solid, solid_parts, solid_word}

-- ---- words

same_head : (a b : List ℕ) (s t : List (List ℕ)) → a ∷ s ≡ b ∷ t → a ≡ b
same_head a b s t e = cc

same_rest : (a b : List ℕ) (s t : List (List ℕ)) → a ∷ s ≡ b ∷ t → s ≡ t
same_rest a b s t e = cc

abbrev is : List ℕ → Keyword → Bool
is w k = pointwise nat_eq w (word k)

-- the keyword of a word
abbrev keyword_at : List ℕ → Keyword
keyword_at w =
    if is w keywords.Chain then keywords.Chain
    else if is w keywords.At then keywords.At
    else if is w keywords.Feed then keywords.Feed
    else if is w keywords.Deliver then keywords.Deliver
    else if is w keywords.All then keywords.All
    else if is w keywords.Tick then keywords.Tick
    else if is w keywords.Flush then keywords.Flush
    else if is w keywords.Clean then keywords.Clean
    else if is w keywords.Fence then keywords.Fence
    else if is w keywords.Promote then keywords.Promote
    else if is w keywords.Fuse then keywords.Fuse
    else if is w keywords.Fail then keywords.Fail
    else if is w keywords.Crash then keywords.Crash
    else keywords.Open

found : (k : Keyword) → keyword_at (word k) ≡ k
found keywords.Chain = refl
found k = refl

same_word : (j k : Keyword) → word j ≡ word k → j ≡ k
same_word j k e = sym (found j) ∙ ap keyword_at e ∙ found k

strong : (a b : Bool) → strength a ≡ strength b → a ≡ b
strong a b e = sym (weak_back a) ∙ ap (λ w. pointwise nat_eq w (codes "weak")) e ∙ weak_back b
  where
    weak_back : (c : Bool) → pointwise nat_eq (strength c) (codes "weak") ≡ c
    weak_back true = refl
    weak_back false = refl

same_number : (m n : ℕ) → IsNumber m → IsNumber n → decimal m ≡ decimal n → m ≡ n
same_number m n p q e = decimal_injective m n (omega arith) (omega arith) e

same_numbers : (ms ns : List ℕ) → AllByRecursion IsNumber ms → AllByRecursion IsNumber ns → map decimal ms ≡ map decimal ns → ms ≡ ns
same_numbers [] [] p q e = refl
same_numbers [] (n ∷ ns) p q e = absurd (cc)
same_numbers (m ∷ ms) [] p q e = absurd (cc)
same_numbers (m ∷ ms) (n ∷ ns) p q e =
    let first = same_number m n p.0 q.0 (same_head (decimal m) (decimal n) (map decimal ms) (map decimal ns) e) in
    let rest = same_numbers ms ns p.1 q.1 (same_rest (decimal m) (decimal n) (map decimal ms) (map decimal ns) e) in
    λ i. first i ∷ rest i

-- ---- parts

one_number : (m n : ℕ) (parts : List (List ℕ)) → IsOneNumber m parts → IsOneNumber n parts → m ≡ n
one_number m n parts p q = same_number m n p.number q.number (same_head (decimal m) (decimal n) [] [] (sym p.words ∙ q.words))

one_copy : (c d : List ℕ) (parts : List (List ℕ)) → IsOneCopy c parts → IsOneCopy d parts → c ≡ d
one_copy c d parts p q = same_head c d [] [] (sym p.words ∙ q.words)

counted_copy : (least : ℕ) (c d : List ℕ) (m n : ℕ) (parts : List (List ℕ)) → IsCopyAndNumber least c m parts → IsCopyAndNumber least d n parts → c ≡ d
counted_copy least c d m n parts p q = same_head c d (decimal m ∷ []) (decimal n ∷ []) (sym p.words ∙ q.words)

counted_number : (least : ℕ) (c d : List ℕ) (m n : ℕ) (parts : List (List ℕ)) → IsCopyAndNumber least c m parts → IsCopyAndNumber least d n parts → m ≡ n
counted_number least c d m n parts p q =
    same_number m n p.number q.number (same_head (decimal m) (decimal n) [] [] (same_rest c d (decimal m ∷ []) (decimal n ∷ []) (sym p.words ∙ q.words)))

one_ok : {E : Type 0} (r : Result (List ℕ) E) (a b : List ℕ) → r ≡ Ok a → r ≡ Ok b → a ≡ b
one_ok r a b e f = cc

fed_same : (c d : List ℕ) (m n : ℕ) (a b : List ℕ) (parts : List (List ℕ)) → IsFed c m a parts → IsFed d n b parts → lines.Feed c m a ≡ lines.Feed d n b
fed_same c d m n a b parts p q =
    let e = sym p.words ∙ q.words in
    let few = p.few in
    let few' = q.few in
    let copy = same_head c d (decimal m ∷ p.digits ∷ []) (decimal n ∷ q.digits ∷ []) e in
    let rest = same_rest c d (decimal m ∷ p.digits ∷ []) (decimal n ∷ q.digits ∷ []) e in
    let number : m ≡ n = decimal_injective m n (omega arith) (omega arith) (same_head (decimal m) (decimal n) (p.digits ∷ []) (q.digits ∷ []) rest) in
    let digits = same_head p.digits q.digits [] [] (same_rest (decimal m) (decimal n) (p.digits ∷ []) (q.digits ∷ []) rest) in
    let bytes = one_ok (decode_of q.digits) a b (sym (ap decode_of digits) ∙ p.spelled) q.spelled in
    λ i. lines.Feed (copy i) (number i) (bytes i)

promotion_same : (c d : List ℕ) (m n : ℕ) (v w : Bool) (a b : List ℕ) (parts : List (List ℕ)) → IsPromotion c m v a parts → IsPromotion d n w b parts → lines.Promote c m v a ≡ lines.Promote d n w b
promotion_same c d m n v w a b parts p q =
    let e = sym p.words ∙ q.words in
    let firsts = map decimal a in
    let others = map decimal b in
    let copy = same_head c d (decimal m ∷ strength v ∷ firsts) (decimal n ∷ strength w ∷ others) e in
    let rest = same_rest c d (decimal m ∷ strength v ∷ firsts) (decimal n ∷ strength w ∷ others) e in
    let term = same_number m n p.number q.number (same_head (decimal m) (decimal n) (strength v ∷ firsts) (strength w ∷ others) rest) in
    let behind = same_rest (decimal m) (decimal n) (strength v ∷ firsts) (strength w ∷ others) rest in
    let weak = strong v w (same_head (strength v) (strength w) firsts others behind) in
    let answers = same_numbers a b p.numbers q.numbers (same_rest (strength v) (strength w) firsts others behind) in
    λ i. lines.Promote (copy i) (term i) (weak i) (answers i)

chain_same : (a b : List (Option (List ℕ))) (parts : List (List ℕ)) → IsChainOf a parts → IsChainOf b parts → a ≡ b
chain_same a b parts p q =
    sym (places_back a p.chain.places) ∙ ap (map place_of) (sym p.words ∙ q.words) ∙ places_back b q.chain.places

-- ---- lines

same_parts : (a b : Line) (parts : List (List ℕ)) → keyword_of a ≡ keyword_of b → HasParts a parts → HasParts b parts → a ≡ b
same_parts lines.Comment lines.Comment parts e p q = refl
same_parts (lines.Chain a) (lines.Chain b) parts e p q = ap lines.Chain (chain_same a b parts p q)
same_parts (lines.At m) (lines.At n) parts e p q = ap lines.At (one_number m n parts p q)
same_parts (lines.Feed c m a) (lines.Feed d n b) parts e p q = fed_same c d m n a b parts p q
same_parts (lines.Deliver m) (lines.Deliver n) parts e p q = ap lines.Deliver (one_number m n parts p q)
same_parts lines.All lines.All parts e p q = refl
same_parts (lines.Tick c) (lines.Tick d) parts e p q = ap lines.Tick (one_copy c d parts p q)
same_parts (lines.Flush c) (lines.Flush d) parts e p q = ap lines.Flush (one_copy c d parts p q)
same_parts (lines.Clean c m) (lines.Clean d n) parts e p q = λ i. lines.Clean (counted_copy 1 c d m n parts p q i) (counted_number 1 c d m n parts p q i)
same_parts (lines.Fence c m) (lines.Fence d n) parts e p q = λ i. lines.Fence (counted_copy 4 c d m n parts p q i) (counted_number 4 c d m n parts p q i)
same_parts (lines.Promote c m v a) (lines.Promote d n w b) parts e p q = promotion_same c d m n v w a b parts p q
same_parts (lines.Fuse c m) (lines.Fuse d n) parts e p q = λ i. lines.Fuse (counted_copy 1 c d m n parts p q i) (counted_number 1 c d m n parts p q i)
same_parts (lines.Fail c m) (lines.Fail d n) parts e p q = λ i. lines.Fail (counted_copy 1 c d m n parts p q i) (counted_number 1 c d m n parts p q i)
same_parts (lines.Crash c) (lines.Crash d) parts e p q = ap lines.Crash (one_copy c d parts p q)
same_parts (lines.OpenCopy c) (lines.OpenCopy d) parts e p q = ap lines.OpenCopy (one_copy c d parts p q)
same_parts a b parts e p q = absurd (cc)

spelled_same : (a b : Line) (bytes : List ℕ) → IsSpelled a bytes → IsSpelled b bytes → a ≡ b
spelled_same a b bytes s t =
    let e = sym (split_words a bytes s) ∙ split_words b bytes t in
    let first = same_word s.first t.first (same_head (word s.first) (word t.first) s.parts t.parts e) in
    let parts = same_rest (word s.first) (word t.first) s.parts t.parts e in
    same_parts a b t.parts
    (s.worded.begins ∙ ap Some first ∙ sym t.worded.begins)
    (subst (HasParts a) parts s.worded.follows)
    t.worded.follows

-- no line that is spelled begins as a comment does
letter : (k : Keyword) → nat_eq (get_or (word k) 0 0) 0x23 ≡ false
letter keywords.Chain = refl
letter k = refl

some : (k : Keyword) → nat_lt 0 (length (word k)) ≡ true
some keywords.Chain = refl
some k = refl

front : (w : List ℕ) (ws : List (List ℕ)) → nat_lt 0 (length w) ≡ true → get_or (joined (w ∷ ws)) 0 0 ≡ get_or w 0 0
front [] ws h = absurd (cc)
front (c ∷ w) [] h = refl
front (c ∷ w) (v ∷ ws) h = refl

unmarked : (a b : Line) (bytes : List ℕ) → IsComment a bytes → IsSpelled b bytes → ⊥
unmarked a b bytes p s =
    let e : 0x23 ≡ get_or (word s.first) 0 0 = sym (ap (λ l. get_or l 0 0) p.marked) ∙ ap (λ l. get_or l 0 0) s.spelled ∙ front (word s.first) s.parts (some s.first) in
    let n = letter s.first in
    grind (arith, nat_tests)

pub one_line : (a b : Line) (bytes : List ℕ) → IsLine a bytes → IsLine b bytes → a ≡ b
one_line a b bytes (inl p) (inl q) = p.comment ∙ sym q.comment
one_line a b bytes (inl p) (inr t) = absurd (unmarked a b bytes p t)
one_line a b bytes (inr s) (inl q) = absurd (unmarked b a bytes q s)
one_line a b bytes (inr s) (inr t) = spelled_same a b bytes s t

-- ---- no line feed

-- no byte is a line feed
abbrev AllUnfed : List ℕ → Type 0
AllUnfed = AllByRecursion (λ c. c ≢ 0x0a)

solid_unfed : (c : ℕ) → nat_lt 0x20 c ≡ true → c ≢ 0x0a
solid_unfed c h e = grind (arith, nat_tests)

unfed : (w rest : List ℕ) → Solid w → AllUnfed rest → AllUnfed (w ++ rest)
unfed [] rest h t = t
unfed (c ∷ w) rest h t =
    let parts = and_parts (nat_lt 0x20 c) (list_all (nat_lt 0x20) w) h in
    (solid_unfed c parts.0, unfed w rest parts.1 t)

joined_unfed : (w : List ℕ) (ws : List (List ℕ)) → Solid w → AllByRecursion Solid ws → AllUnfed (joined (w ∷ ws))
joined_unfed w [] h t = subst AllUnfed (append-nil w) (unfed w [] h tt)
joined_unfed w (v ∷ ws) h t = unfed w (0x20 ∷ joined (v ∷ ws)) h (λ e. omega arith, joined_unfed v ws t.0 t.1)

not_there : (bytes : List ℕ) → AllUnfed bytes → (k : ℕ) → k < length bytes → get_or bytes k 0x0a ≢ 0x0a
not_there [] h k l = absurd (omega arith)
not_there (c ∷ bytes) h zero l = h.0
not_there (c ∷ bytes) h (suc k) l = not_there bytes h.1 k (omega arith)

pub line_feeds_are_in_comments : (line : Line) (bytes : List ℕ) → IsLine line bytes → Contains bytes 0x0a → line ≡ lines.Comment
line_feeds_are_in_comments line bytes (inl p) h = p.comment
line_feeds_are_in_comments line bytes (inr s) h =
    let none = subst AllUnfed (sym s.spelled) (joined_unfed (word s.first) s.parts (solid_word s.first) (solid_parts line s.parts s.worded.follows)) in
    absurd (not_there bytes none h.0 h.1 h.2)
