-- The places of a chain and their words.
use Rattle.std.specs.Prelude.{◌≡◌, ◌≢◌, ◌↔◌, ℕ, ◌<◌, ◌+◌, ◌∷◌, [], ◌++◌, nat_eq, not, Bool, true, false, ◌||◌, List, length, map, codes, Option, Some, None, if◌then◌else◌, IsTrue, refl}
use Rattle.std.specs.Borrow.{Bor}
use Rattle.std.specs.Cmp.Lexicographic.{pointwise}
use Rattle.std.specs.List.{AllByRecursion, list_any, list_all}
use Rattle.std.proofs.Common.{sym, ap, ◌∙◌, subst, arith, get_or, take}
use Rattle.std.proofs.lemmas.List.{get_or-map, length-map, take_more}
use Rattle.std.proofs.lemmas.Slice.Eq.{bytes_eq-Decides}
use Rattle.kv_script.specs.Lines.{IsName, IsPlace, ArePlaces, IsChain, IsChainOf, is_name_byte, place_word}
use Rattle.kv_script.specs.Reading.{texts, place_of}

-- ---- one place

dash : (word : List ℕ) → pointwise nat_eq word (codes "-") ≡ true → word ≡ codes "-"
dash word e = (bytes_eq-Decides word (codes "-")).0 e

-- no name is the word for a place without one
no_dash : (name : List ℕ) → IsName name → pointwise nat_eq name (codes "-") ≡ false
no_dash name n = go (pointwise nat_eq name (codes "-")) refl
  where
    go : (b : Bool) → pointwise nat_eq name (codes "-") ≡ b → b ≡ false
    go true e =
        let plain : IsTrue (list_all is_name_byte (codes "-")) = subst (λ l. IsTrue (list_all is_name_byte l)) (dash name e) n.plain in
        absurd (cc)
    go false e = refl

named_when : (b : Bool) (word : List ℕ) → b ≡ false → (if b then None else Some word) ≡ Some word
named_when true word e = absurd (cc)
named_when false word e = refl

named : (name : List ℕ) → IsName name → place_of name ≡ Some name
named name n = named_when (pointwise nat_eq name (codes "-")) name (no_dash name n)

same_name : (b : Bool) (word name : List ℕ) → (if b then None else Some word) ≡ Some name → word ≡ name
same_name true word name e = absurd (cc)
same_name false word name e = cc

word_back : (word : List ℕ) → place_word (place_of word) ≡ word
word_back word = go (pointwise nat_eq word (codes "-")) refl
  where
    go : (b : Bool) → pointwise nat_eq word (codes "-") ≡ b → place_word (if b then None else Some word) ≡ word
    go true e = sym (dash word e)
    go false e = refl

-- ---- a place among others

or_false : (a b : Bool) → (a || b) ≡ false → (a ≡ false) × (b ≡ false)
or_false true b e = absurd (cc)
or_false false b e = (refl, e)

-- a word that no later word is
differs : (word : List ℕ) (later : List (Bor (List ℕ))) → list_any (λ y. pointwise nat_eq y.now word) later ≡ false → AllByRecursion (λ place. place ≢ Some word) (map place_of (texts later))
differs word [] e = tt
differs word (y ∷ ys) e =
    let both = or_false (pointwise nat_eq y.now word) (list_any (λ z. pointwise nat_eq z.now word) ys) e in (
      λ same. let hit = (bytes_eq-Decides y.now word).1 (same_name (pointwise nat_eq y.now (codes "-")) y.now word same) in cc (both.0),
      differs word ys both.1,
    )

-- a name that a later word is
stands_again : (word : List ℕ) (later : List (Bor (List ℕ))) → IsName word → list_any (λ y. pointwise nat_eq y.now word) later ≡ true → AllByRecursion (λ place. place ≢ Some word) (map place_of (texts later)) → ⊥
stands_again word [] n e a = cc
stands_again word (y ∷ ys) n e a = go (pointwise nat_eq y.now word) refl e (λ t. stands_again word ys n t a.1)
  where
    go : (b : Bool) → pointwise nat_eq y.now word ≡ b → (b || list_any (λ z. pointwise nat_eq z.now word) ys) ≡ true → (list_any (λ z. pointwise nat_eq z.now word) ys ≡ true → ⊥) → ⊥
    go true hit t rest = a.0 (ap place_of ((bytes_eq-Decides y.now word).0 hit) ∙ named word n)
    go false hit t rest = rest t

-- the test of a name
pub place_tested : (word : List ℕ) (later : List (Bor (List ℕ))) (b : Bool) → IsName word → b ≡ list_any (λ y. pointwise nat_eq y.now word) later → IsTrue (not b) ↔ IsPlace (place_of word) (map place_of (texts later))
place_tested word later b n e =
    subst (λ place. IsTrue (not b) ↔ IsPlace place (map place_of (texts later))) (sym (named word n)) (go b e)
  where
    go : (b : Bool) → b ≡ list_any (λ y. pointwise nat_eq y.now word) later → IsTrue (not b) ↔ (IsName word × AllByRecursion (λ place. place ≢ Some word) (map place_of (texts later)))
    go true e = (λ t. absurd (cc), λ p. absurd (stands_again word later n (sym e) p.1))
    go false e = (λ t. (n, differs word later (sym e)), λ p. refl)

-- ---- all places

words_back : (words : List (List ℕ)) → map place_word (map place_of words) ≡ words
words_back [] = refl
words_back (w ∷ ws) = λ i. word_back w i ∷ words_back ws i

pub places_back : (names : List (Option (List ℕ))) → ArePlaces names → map place_of (map place_word names) ≡ names
places_back [] h = refl
places_back (None ∷ later) h = ap (λ l. None ∷ l) (places_back later h.1)
places_back (Some name ∷ later) h = λ i. named name h.0.0 i ∷ places_back later h.1 i

pub chain_right : (words : List (Bor (List ℕ))) (names : List (Option (List ℕ))) → names ≡ map place_of (texts words) → IsChain (map place_of (texts words)) → IsChainOf names (texts words)
chain_right words names e h = record {
  chain = subst IsChain (sym e) h;
  words = sym (words_back (texts words)) ∙ ap (map place_word) (sym e);
}

pub chain_bad : (words : List (Bor (List ℕ))) → ¬ (IsChain (map place_of (texts words))) → (names : List (Option (List ℕ))) → IsChainOf names (texts words) → ⊥
chain_bad words bad names h =
    bad (subst IsChain (sym (ap (map place_of) h.words ∙ places_back names h.chain.places)) h.chain)

-- ---- the places so far

pub place_more : (words : List (Bor (List ℕ))) (places : List (Option (List ℕ))) (k : ℕ) (d : Bor (List ℕ)) → k < length words → places ≡ take k (map place_of (texts words)) → places ++ place_of (get_or words k d).now ∷ [] ≡ take (k + 1) (map place_of (texts words))
place_more words places k d h e =
    let texts_long = length-map words (λ (w : Bor (List ℕ)). w.now) in
    let long = length-map (texts words) place_of in
    let more = take_more (map place_of (texts words)) k (place_of d.now) (omega arith) in
    let there = get_or-map place_of (texts words) k d.now (place_of d.now) (omega arith) in
    let word = get_or-map (λ (w : Bor (List ℕ)). w.now) words k d d.now h in
    ap (λ l. l ++ place_of (get_or words k d).now ∷ []) e
    ∙ ap (λ x. take k (map place_of (texts words)) ++ x ∷ []) (sym (there ∙ ap place_of word))
    ∙ sym more

-- ---- how many there are

pub as_many : (words : List (Bor (List ℕ))) → length (map place_of (texts words)) ≡ length words
as_many words = length-map (texts words) place_of ∙ length-map words (λ (w : Bor (List ℕ)). w.now)
