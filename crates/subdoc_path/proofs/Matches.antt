-- Matching byte by byte is what decoding tells.
use Rattle.std.proofs.Common.{◌≡◌, ℕ, ◌+◌, ◌*◌, ◌≤◌, List, [], ◌∷◌, ◌++◌, Bool, true, false, cond, eqb, Option, Some, None, inl, inr, refl, sym, ap, subst, ◌∙◌, arith, append_assoc}
use Rattle.std.specs.List.{flat_map, AllByRecursion}
use Rattle.std.proofs.lemmas.Bool.Decides.{nat_tests}
use Rattle.json_model.specs.Grammar.{IsPlain, BeginsThree, BeginsFour, IsEscaped, IsCharacter}
use Rattle.json_model.specs.Decoding.{utf8, escaped, hex, is_high, is_low, paired, Unit16, character, unit as code, unit_of, join, decode_unit, decode}
use Rattle.subdoc_path.specs.Matching.{strip, plain, unit, ended, matches, slash, hexes}

-- a test says that an optional value is this
pub record Says (b : Bool) (o : Option (List ℕ)) (name : List ℕ) : Type 0 where
  pub sound : b ≡ true → o ≡ Some name
  pub whole : o ≡ Some name → b ≡ true

never : (o : Option (List ℕ)) (name : List ℕ) → (o ≡ Some name → ⊥) → Says false o name
never o name h = record { sound = λ e. absurd_bool e; whole = λ e. absurd (h e) }
  where
    absurd_bool : false ≡ true → o ≡ Some name
    absurd_bool e = cc

none_never : (name : List ℕ) → Says false None name
none_never name = never None name (λ e. no_some e)
  where
    no_some : None ≡ Some name → ⊥
    no_some e = cc

join_cons : (b : ℕ) (bs : List ℕ) (o : Option (List ℕ)) (n : ℕ) (ns : List ℕ) → join (b ∷ bs) o ≡ Some (n ∷ ns) → (b ≡ n) × (join bs o ≡ Some ns)
join_cons b bs None n ns e = cc
join_cons b bs (Some l) n ns e = let h : b ≡ n = cc in let t : bs ++ l ≡ ns = cc in (h, ap (λ (x : List ℕ). Some x) t)

join_empty : (b : ℕ) (bs : List ℕ) (o : Option (List ℕ)) → join (b ∷ bs) o ≡ Some [] → ⊥
join_empty b bs None e = cc
join_empty b bs (Some l) e = cc

join_more : (b : ℕ) (bs : List ℕ) (o : Option (List ℕ)) (n : ℕ) (ns : List ℕ) → b ≡ n → join bs o ≡ Some ns → join (b ∷ bs) o ≡ Some (n ∷ ns)
join_more b bs None n ns h e = cc
join_more b bs (Some l) n ns h e = let t : bs ++ l ≡ ns = cc in cc

join_none : (o : Option (List ℕ)) → join [] o ≡ o
join_none None = refl
join_none (Some l) = refl

eqb_is : (x y : ℕ) → eqb x y ≡ true → x ≡ y
eqb_is x y h = grind (arith, nat_tests)

eqb_same : (x y : ℕ) → x ≡ y → eqb x y ≡ true
eqb_same x y h = grind (arith, nat_tests)

strip_says : (bs name : List ℕ) (rest : List ℕ → Bool) (o : Option (List ℕ)) → ((left : List ℕ) → Says (rest left) o left) → Says (strip bs name rest) (join bs o) name
strip_says [] name rest o law = record { sound = λ e. join_none o ∙ (law name).sound e; whole = λ e. (law name).whole (sym (join_none o) ∙ e) }
strip_says (b ∷ bs) [] rest o law = never (join (b ∷ bs) o) [] (join_empty b bs o)
strip_says (b ∷ bs) (n ∷ ns) rest o law = by_test (eqb b n) (eqb_is b n) (λ h. eqb_same b n h) (strip_says bs ns rest o law)
  where
    differs : (t : Bool) → t ≡ false → t ≡ true → ⊥
    differs t e f = cc

    by_test : (t : Bool) → (t ≡ true → b ≡ n) → (b ≡ n → t ≡ true) → Says (strip bs ns rest) (join bs o) ns → Says (cond t (strip bs ns rest) false) (join (b ∷ bs) o) (n ∷ ns)
    by_test true is same s = record { sound = λ e. join_more b bs o n ns (is refl) (s.sound e); whole = λ e. s.whole (join_cons b bs o n ns e).1 }
    by_test false is same s = never (join (b ∷ bs) o) (n ∷ ns) (λ e. differs false refl (same (join_cons b bs o n ns e).0))

-- what is to be shown of the rest of a string
abbrev pub Matched : List (List ℕ) → Type 0
Matched cs = (w : Option ℕ) (name : List ℕ) → Says (matches w (flat_map (λ c. c) cs ++ 0x22 ∷ []) name) (decode w cs) name

-- bytes that stand for themselves, one by one
abbrev pub Bytes : List ℕ → Type 0
Bytes = AllByRecursion (λ x. (eqb x 0x22 ≡ false) × (eqb x 0x5c ≡ false))

if_false : (b : Bool) (x y : Bool) → b ≡ false → cond b x y ≡ y
if_false true x y e = cc
if_false false x y e = refl

matches_plain : (w : Option ℕ) (x : ℕ) (xs name : List ℕ) → eqb x 0x22 ≡ false → eqb x 0x5c ≡ false → matches w (x ∷ xs) name ≡ plain w x name (λ left. matches None xs left)
unfolding matches
matches_plain w x xs name a b = if_false (eqb x 0x22) (ended w name) _ a ∙ if_false (eqb x 0x5c) (slash w xs name) _ b

strip_strip : (x : ℕ) (xs name : List ℕ) (f rest : List ℕ → Bool) → ((left : List ℕ) → f left ≡ strip xs left rest) → strip (x ∷ []) name f ≡ strip (x ∷ xs) name rest
strip_strip x xs [] f rest h = refl
strip_strip x xs (n ∷ ns) f rest h = ap (λ (b : Bool). cond (eqb x n) b false) (h ns)

bytes_match : (xs rest name : List ℕ) → Bytes xs → matches None (xs ++ rest) name ≡ strip xs name (λ left. matches None rest left)
bytes_match [] rest name h = refl
bytes_match (x ∷ xs) rest name h =
    matches_plain None x (xs ++ rest) name h.0.0 h.0.1 ∙ strip_strip x xs name (λ left. matches None (xs ++ rest) left) (λ left. matches None rest left) (λ left. bytes_match xs rest left h.1)

high_match : (high x : ℕ) (xs rest name : List ℕ) → Bytes (x ∷ xs) → matches (Some high) ((x ∷ xs) ++ rest) name ≡ false
high_match high x xs rest name h = matches_plain (Some high) x (xs ++ rest) name h.0.0 h.0.1

-- a character without an escape
plain_says : (c : List ℕ) (x : ℕ) (xs : List ℕ) (cs : List (List ℕ)) → c ≡ x ∷ xs → unit_of c ≡ character c → Bytes (x ∷ xs) → Matched cs → (w : Option ℕ) (name : List ℕ)
    → Says (matches w (c ++ (flat_map (λ c. c) cs ++ 0x22 ∷ [])) name) (decode w (c ∷ cs)) name
unfolding decode
plain_says c x xs cs e u h law None name =
    let rest : List ℕ = flat_map (λ c. c) cs ++ 0x22 ∷ [] in
    let a : matches None (c ++ rest) name ≡ strip c name (λ left. matches None rest left) = ap (λ (l : List ℕ). matches None (l ++ rest) name) e ∙ bytes_match (x ∷ xs) rest name h ∙ ap (λ (l : List ℕ). strip l name (λ left. matches None rest left)) (sym e) in
    let b : decode_unit None (unit_of c) (λ next. decode next cs) ≡ join c (decode None cs) = ap (λ (v : Unit16). decode_unit None v (λ next. decode next cs)) u in
    subst (λ (t : Bool). Says t (decode_unit None (unit_of c) (λ next. decode next cs)) name) (sym a)
    (subst (λ (o : Option (List ℕ)). Says (strip c name (λ left. matches None rest left)) o name) (sym b) (strip_says c name (λ left. matches None rest left) (decode None cs) (λ left. law None left)))
plain_says c x xs cs e u h law (Some high) name =
    let rest : List ℕ = flat_map (λ c. c) cs ++ 0x22 ∷ [] in
    let a : matches (Some high) (c ++ rest) name ≡ false = ap (λ (l : List ℕ). matches (Some high) (l ++ rest) name) e ∙ high_match high x xs rest name h in
    let b : decode_unit (Some high) (unit_of c) (λ next. decode next cs) ≡ None = ap (λ (v : Unit16). decode_unit (Some high) v (λ next. decode next cs)) u in
    subst (λ (t : Bool). Says t (decode_unit (Some high) (unit_of c) (λ next. decode next cs)) name) (sym a)
    (subst (λ (o : Option (List ℕ)). Says false o name) (sym b) (none_never name))

-- ---- an escape of one letter

escape_match : (w : Option ℕ) (a b : ℕ) (xs name : List ℕ) → a ≡ 0x5c → eqb b 0x75 ≡ false → matches w (a ∷ b ∷ xs) name ≡ plain w (escaped b) name (λ left. matches None xs left)
unfolding matches
escape_match w a b xs name e n = ap (λ (x : ℕ). matches w (x ∷ b ∷ xs) name) e ∙ if_false (eqb b 0x75) (hexes w xs name) _ n

escape_says : (a b : ℕ) (cs : List (List ℕ)) → a ≡ 0x5c → eqb b 0x75 ≡ false → Matched cs → (w : Option ℕ) (name : List ℕ)
    → Says (matches w (a ∷ b ∷ (flat_map (λ c. c) cs ++ 0x22 ∷ [])) name) (decode w ((a ∷ b ∷ []) ∷ cs)) name
unfolding decode
escape_says a b cs e n law None name =
    let rest : List ℕ = flat_map (λ c. c) cs ++ 0x22 ∷ [] in
    let u : unit_of (a ∷ b ∷ []) ≡ character (escaped b ∷ []) = ap (λ (x : ℕ). unit_of (x ∷ b ∷ [])) e in
    let d : decode_unit None (unit_of (a ∷ b ∷ [])) (λ next. decode next cs) ≡ join (escaped b ∷ []) (decode None cs) = ap (λ (v : Unit16). decode_unit None v (λ next. decode next cs)) u in
    subst (λ (t : Bool). Says t (decode_unit None (unit_of (a ∷ b ∷ [])) (λ next. decode next cs)) name) (sym (escape_match None a b rest name e n))
    (subst (λ (o : Option (List ℕ)). Says (strip (escaped b ∷ []) name (λ left. matches None rest left)) o name) (sym d) (strip_says (escaped b ∷ []) name (λ left. matches None rest left) (decode None cs) (λ left. law None left)))
escape_says a b cs e n law (Some high) name =
    let rest : List ℕ = flat_map (λ c. c) cs ++ 0x22 ∷ [] in
    let u : unit_of (a ∷ b ∷ []) ≡ character (escaped b ∷ []) = ap (λ (x : ℕ). unit_of (x ∷ b ∷ [])) e in
    let d : decode_unit (Some high) (unit_of (a ∷ b ∷ [])) (λ next. decode next cs) ≡ None = ap (λ (v : Unit16). decode_unit (Some high) v (λ next. decode next cs)) u in
    subst (λ (t : Bool). Says t (decode_unit (Some high) (unit_of (a ∷ b ∷ [])) (λ next. decode next cs)) name) (sym (escape_match (Some high) a b rest name e n))
    (subst (λ (o : Option (List ℕ)). Says false o name) (sym d) (none_never name))

-- ---- an escape of four digits

unicode_match : (w : Option ℕ) (a b c d e f : ℕ) (xs name : List ℕ) → a ≡ 0x5c → b ≡ 0x75
    → matches w (a ∷ b ∷ c ∷ d ∷ e ∷ f ∷ xs) name ≡ unit w (4096 * hex c + 256 * hex d + 16 * hex e + hex f) name (λ next left. matches next xs left)
unfolding matches
unicode_match w a b c d e f xs name h k = ap (λ (x : ℕ). matches w (x ∷ b ∷ c ∷ d ∷ e ∷ f ∷ xs) name) h ∙ ap (λ (x : ℕ). matches w (0x5c ∷ x ∷ c ∷ d ∷ e ∷ f ∷ xs) name) k

if_says : (b : Bool) (x y : Bool) (o p : Option (List ℕ)) (name : List ℕ) → Says x o name → Says y p name → Says (cond b x y) (cond b o p) name
if_says true x y o p name s t = s
if_says false x y o p name s t = t

unit_says : (w : Option ℕ) (n : ℕ) (cs : List (List ℕ)) (name : List ℕ) → Matched cs
    → Says (unit w n name (λ next left. matches next (flat_map (λ c. c) cs ++ 0x22 ∷ []) left)) (decode_unit w (code n) (λ next. decode next cs)) name
unit_says None n cs name law =
    let rest : List ℕ = flat_map (λ c. c) cs ++ 0x22 ∷ [] in
    if_says (is_high n) (matches (Some n) rest name) _ (decode (Some n) cs) _ name (law (Some n) name)
    (if_says (is_low n) false _ None _ name (none_never name) (strip_says (utf8 n) name (λ left. matches None rest left) (decode None cs) (λ left. law None left)))
unit_says (Some high) n cs name law =
    let rest : List ℕ = flat_map (λ c. c) cs ++ 0x22 ∷ [] in
    if_says (is_low n) _ false _ None name (strip_says (utf8 (paired high n)) name (λ left. matches None rest left) (decode None cs) (λ left. law None left)) (none_never name)

unicode_says : (a b c d e f : ℕ) (cs : List (List ℕ)) → a ≡ 0x5c → b ≡ 0x75 → Matched cs → (w : Option ℕ) (name : List ℕ)
    → Says (matches w (a ∷ b ∷ c ∷ d ∷ e ∷ f ∷ (flat_map (λ c. c) cs ++ 0x22 ∷ [])) name) (decode w ((a ∷ b ∷ c ∷ d ∷ e ∷ f ∷ []) ∷ cs)) name
unfolding decode
unicode_says a b c d e f cs h k law w name =
    let rest : List ℕ = flat_map (λ c. c) cs ++ 0x22 ∷ [] in
    subst (λ (t : Bool). Says t (decode_unit w (code (4096 * hex c + 256 * hex d + 16 * hex e + hex f)) (λ next. decode next cs)) name) (sym (unicode_match w a b c d e f rest name h k))
    (unit_says w (4096 * hex c + 256 * hex d + 16 * hex e + hex f) cs name law)

-- ---- strings

above_no : (x : ℕ) → 0x80 ≤ x → (eqb x 0x22 ≡ false) × (eqb x 0x5c ≡ false)
above_no x h = (grind (arith, nat_tests), grind (arith, nat_tests))

plain_no : (x : ℕ) → IsPlain x → (eqb x 0x22 ≡ false) × (eqb x 0x5c ≡ false)
plain_no x (inl h) = (grind (arith, nat_tests), grind (arith, nat_tests))
plain_no x (inr (inl h)) = (grind (arith, nat_tests), grind (arith, nat_tests))
plain_no x (inr (inr h)) = (grind (arith, nat_tests), grind (arith, nat_tests))

escaped_no : (x : ℕ) → IsEscaped x → eqb x 0x75 ≡ false
escaped_no x h = grind (arith, nat_tests)

three_high : (a b : ℕ) → BeginsThree a b → (0x80 ≤ a) × (0x80 ≤ b)
three_high a b (inl (e, h)) = (omega (arith, e), omega (arith, h.low))
three_high a b (inr (inl (w, h))) = (omega (arith, w.low), omega (arith, h.low))
three_high a b (inr (inr (inl (e, h)))) = (omega (arith, e), omega (arith, h.low))
three_high a b (inr (inr (inr (w, h)))) = (omega (arith, w.low), omega (arith, h.low))

four_high : (a b : ℕ) → BeginsFour a b → (0x80 ≤ a) × (0x80 ≤ b)
four_high a b (inl (e, h)) = (omega (arith, e), omega (arith, h.low))
four_high a b (inr (inl (w, h))) = (omega (arith, w.low), omega (arith, h.low))
four_high a b (inr (inr (e, h))) = (omega (arith, e), omega (arith, h.low))

two_unit : (a b : ℕ) → eqb a 0x5c ≡ false → unit_of (a ∷ b ∷ []) ≡ character (a ∷ b ∷ [])
two_unit a b e = ap (λ t. cond t (character (escaped b ∷ [])) (character (a ∷ b ∷ []))) e

two_says : (a b : ℕ) (cs : List (List ℕ)) → IsCharacter (a ∷ b ∷ []) → Matched cs → (w : Option ℕ) (name : List ℕ)
    → Says (matches w (a ∷ b ∷ (flat_map (λ c. c) cs ++ 0x22 ∷ [])) name) (decode w ((a ∷ b ∷ []) ∷ cs)) name
two_says a b cs (inl (h, t)) law w name =
    let n = above_no a (omega (arith, h.low)) in
    plain_says (a ∷ b ∷ []) a (b ∷ []) cs refl (two_unit a b n.1) (n, (above_no b (omega (arith, t.low)), tt)) law w name
two_says a b cs (inr (e, h)) law w name = escape_says a b cs e (escaped_no b h) law w name

character_says : (c : List ℕ) (cs : List (List ℕ)) → IsCharacter c → Matched cs → (w : Option ℕ) (name : List ℕ) → Says (matches w (c ++ (flat_map (λ c. c) cs ++ 0x22 ∷ [])) name) (decode w (c ∷ cs)) name
character_says [] cs h law w name = absurd h
character_says (a ∷ []) cs h law w name = plain_says (a ∷ []) a [] cs refl refl (plain_no a h, tt) law w name
character_says (a ∷ b ∷ []) cs h law w name = two_says a b cs h law w name
character_says (a ∷ b ∷ c ∷ []) cs h law w name =
    let t = three_high a b h.0 in
    plain_says (a ∷ b ∷ c ∷ []) a (b ∷ c ∷ []) cs refl refl (above_no a t.0, (above_no b t.1, (above_no c (omega (arith, h.1.low)), tt))) law w name
character_says (a ∷ b ∷ c ∷ d ∷ []) cs h law w name =
    let t = four_high a b h.0 in
    plain_says (a ∷ b ∷ c ∷ d ∷ []) a (b ∷ c ∷ d ∷ []) cs refl refl (above_no a t.0, (above_no b t.1, (above_no c (omega (arith, h.1.low)), (above_no d (omega (arith, h.2.low)), tt)))) law w name
character_says (a ∷ b ∷ c ∷ d ∷ e ∷ []) cs h law w name = absurd h
character_says (a ∷ b ∷ c ∷ d ∷ e ∷ f ∷ []) cs h law w name = unicode_says a b c d e f cs h.0 h.1 law w name
character_says (a ∷ b ∷ c ∷ d ∷ e ∷ f ∷ g ∷ more) cs h law w name = absurd h

end_says : (w : Option ℕ) (name : List ℕ) → Says (matches w (0x22 ∷ []) name) (decode w []) name
unfolding matches decode
end_says None [] = record { sound = λ e. refl; whole = λ e. refl }
end_says None (n ∷ ns) = never (Some []) (n ∷ ns) (λ e. differs n ns e)
  where
    differs : (n : ℕ) (ns : List ℕ) → Some [] ≡ Some (n ∷ ns) → ⊥
    differs n ns e = cc
end_says (Some high) name = none_never name

-- matching is decoding
pub matched : (cs : List (List ℕ)) → AllByRecursion IsCharacter cs → Matched cs
matched [] fit w name = end_says w name
matched (c ∷ cs) fit w name =
    let split : (c ++ flat_map (λ c. c) cs) ++ 0x22 ∷ [] ≡ c ++ (flat_map (λ c. c) cs ++ 0x22 ∷ []) = append_assoc c (flat_map (λ c. c) cs) (0x22 ∷ []) in
    subst (λ (l : List ℕ). Says (matches w l name) (decode w (c ∷ cs)) name) (sym split) (character_says c cs fit.0 (matched cs fit.1) w name)
