-- Parts of a state, read from the front of bytes.
use Rattle.std.proofs.Common.{◌≡◌, ℕ, ◌+◌, ◌*◌, ◌^◌, ◌<◌, Bool, true, false, nat_lt, ◌&&◌, List, [], ◌∷◌, ◌++◌, length, take, drop, ◌⊎◌, inl, inr, Some, None, refl, sym, ap, ap₂, ◌∙◌, subst, arith, append_assoc, true≢false, lt-ltb}
use Rattle.std.proofs.lemmas.Bool.{and_parts, and_from, ltb-true, leb-true}
use Rattle.std.proofs.lemmas.List.{take_at, drop_at, length-append, drop-drop}
use Rattle.std.specs.Int.{w32, to_be_bytes}
use Rattle.std.specs.List.{list_all, flat_map}
use Rattle.std.specs.Str.{IsUtf8}
use Rattle.kv_edge.specs.Fields.{number_at}
use Rattle.kv_edge.proofs.Fields.{wide32, number_again}
use Rattle.manifest_rules.specs.declared.types.TheConstants.{DROPPED_LIMIT}
use Rattle.manifest_rules.specs.Catalog.{Catalog, scope_ids, collection_ids}
use Rattle.manifest_rules.specs.Text.{text_of}
use Rattle.manifest_rules.specs.Form.{catalog_in}
use Rattle.manifest_rules.specs.Laws.{without_dropped}
use Rattle.manifest_rules.specs.State.{is_sound, are_gone, is_kept, ids_bytes, text_bytes, state_of, TextAt, IdsAt, IsAt}
use Rattle.manifest_rules.proofs.Runs.{gone_parts, kept_parts}
use Rattle.manifest_rules.proofs.ReadBack.{sound_parts, sound_read_back}
use Rattle.manifest_rules.proofs.Ascii.{manifest_utf8}

-- ---- fronts

pub record Same (a b r s : List ℕ) : Type 0 where
  pub front : a ≡ b
  pub rest : r ≡ s

same_front : (a r b s : List ℕ) → a ++ r ≡ b ++ s → length a ≡ length b → Same a b r s
same_front a r b s e len = record {
  front = sym (take_at a r (length a) refl) ∙ ap (take (length a)) e ∙ take_at b s (length a) (sym len);
  rest = sym (drop_at a r (length a) refl) ∙ ap (drop (length a)) e ∙ drop_at b s (length a) (sym len);
}

pub front_and_rest : (bytes a r : List ℕ) (size : ℕ) → bytes ≡ a ++ r → size ≡ length a → bytes ≡ a ++ drop size bytes
front_and_rest bytes a r size e len = e ∙ ap (λ t. a ++ t) (sym (ap (drop size) e ∙ drop_at a r size (sym len)))

-- ---- text

some_is : {A : Type 0} (a b : A) → Some a ≡ Some b → a ≡ b
some_is a b e = cc

abbrev counted : List ℕ → List ℕ
counted text = to_be_bytes w32 (length text) ++ text

-- a text behind its length is told apart from any other
pub counted_again : (text rest : List ℕ) → length text < 2 ^ 32 → number_at w32 (counted text ++ rest) ≡ Some (length text, text ++ rest)
counted_again text rest short = ap (number_at w32) (append_assoc (to_be_bytes w32 (length text)) text rest) ∙ number_again w32 (2 ^ 32) wide32 (length text) (text ++ rest) short

pub pair_is : {A B : Type 0} (a c : A) (b d : B) → Some (let p : A × B = (a, b) in p) ≡ Some (let p : A × B = (c, d) in p) → (a ≡ c) × (b ≡ d)
pair_is {A} {B} a c b d e = let same = some_is (let p : A × B = (a, b) in p) (let p : A × B = (c, d) in p) e in (ap (λ p. p.0) same, ap (λ p. p.1) same)

same_counted : (a b r s : List ℕ) → length a < 2 ^ 32 → length b < 2 ^ 32 → counted a ++ r ≡ counted b ++ s → Same a b r s
same_counted a b r s short low e =
    let p = pair_is (length a) (length b) (a ++ r) (b ++ s) (sym (counted_again a r short) ∙ ap (number_at w32) e ∙ counted_again b s low) in
    same_front a r b s p.1 p.0

pub sound_short : (m : Catalog) → is_sound m ≡ true → length (text_of m) < 2 ^ 32
sound_short m h = let sound = sound_parts m h in let short = sound.short in omega arith

-- bytes begin with one manifest's text at most
pub record SameText (m n : Catalog) (r s : List ℕ) : Type 0 where
  pub bare : without_dropped m ≡ without_dropped n
  pub rest : r ≡ s

pub same_text : (m n : Catalog) (r s : List ℕ) → is_sound m ≡ true → is_sound n ≡ true → text_bytes m ++ r ≡ text_bytes n ++ s → SameText m n r s
same_text m n r s h k e =
    let same = same_counted (text_of m) (text_of n) r s (sound_short m h) (sound_short n k) e in
    record { bare = some_is (without_dropped m) (without_dropped n) (sym (sound_read_back m h) ∙ ap catalog_in same.front ∙ sound_read_back n k); rest = same.rest }

-- ---- ids

abbrev pub flat : List ℕ → List ℕ
flat ids = flat_map (to_be_bytes w32) ids

abbrev pub below : List ℕ → Bool
below ids = list_all (λ id. nat_lt id (2 ^ 32)) ids

pub flat-length : (ids : List ℕ) → length (flat ids) ≡ 4 * length ids
flat-length [] = refl
flat-length (id ∷ ids) =
    let all = length-append (to_be_bytes w32 id) (flat ids) in
    let front = wide32.len id in
    let rest = flat-length ids in
    omega (arith, all, front, rest)

same_flat : (xs ys : List ℕ) → below xs ≡ true → below ys ≡ true → length xs ≡ length ys → flat xs ≡ flat ys → xs ≡ ys
same_flat [] [] h k len e = refl
same_flat [] (y ∷ ys) h k len e = absurd (omega arith)
same_flat (x ∷ xs) [] h k len e = absurd (omega arith)
same_flat (x ∷ xs) (y ∷ ys) h k len e =
    let first = and_parts (nat_lt x (2 ^ 32)) (below xs) h in
    let second = and_parts (nat_lt y (2 ^ 32)) (below ys) k in
    let p = pair_is x y (flat xs) (flat ys) (sym (number_again w32 (2 ^ 32) wide32 x (flat xs) (ltb-true x (2 ^ 32) first.0)) ∙ ap (number_at w32) e ∙ number_again w32 (2 ^ 32) wide32 y (flat ys) (ltb-true y (2 ^ 32) second.0)) in
    let shorter : length xs ≡ length ys = omega arith in
    ap₂ (λ a more. a ∷ more) p.0 (same_flat xs ys first.1 second.1 shorter p.1)

pub ids_again : (ids rest : List ℕ) → length ids < 2 ^ 32 → number_at w32 (ids_bytes ids ++ rest) ≡ Some (length ids, flat ids ++ rest)
ids_again ids rest short = ap (number_at w32) (append_assoc (to_be_bytes w32 (length ids)) (flat ids) rest) ∙ number_again w32 (2 ^ 32) wide32 (length ids) (flat ids ++ rest) short

pub gone_short : (present gone : List ℕ) → are_gone present gone ≡ true → length gone < 2 ^ 32
gone_short present gone h = let parts = gone_parts present gone h in let few = leb-true (length gone) DROPPED_LIMIT parts.few in omega arith

pub same_ids : (present also xs ys r s : List ℕ) → are_gone present xs ≡ true → are_gone also ys ≡ true → ids_bytes xs ++ r ≡ ids_bytes ys ++ s → Same xs ys r s
same_ids present also xs ys r s h k e =
    let p = pair_is (length xs) (length ys) (flat xs ++ r) (flat ys ++ s) (sym (ids_again xs r (gone_short present xs h)) ∙ ap (number_at w32) e ∙ ids_again ys s (gone_short also ys k)) in
    let count = p.0 in
    let wide : length (flat xs) ≡ length (flat ys) = omega (arith, flat-length xs, flat-length ys) in
    let same = same_front (flat xs) r (flat ys) s p.1 wide in
    record { front = same_flat xs ys (gone_parts present xs h).fits (gone_parts also ys k).fits count same.front; rest = same.rest }

-- ---- one more id

pub below-push : (ids : List ℕ) (id : ℕ) → below ids ≡ true → id < 2 ^ 32 → below (ids ++ id ∷ []) ≡ true
below-push [] id h small = and_from (nat_lt id (2 ^ 32)) true (lt-ltb id (2 ^ 32) small) refl
below-push (x ∷ xs) id h small = let p = and_parts (nat_lt x (2 ^ 32)) (below xs) h in and_from (nat_lt x (2 ^ 32)) (below (xs ++ id ∷ [])) p.0 (below-push xs id p.1 small)

-- ---- the text of a manifest

pub no_manifest : (text : List ℕ) → (IsUtf8 text → catalog_in text ≡ None) → (m : Catalog) → is_sound m ≡ true → text ≡ text_of m → ⊥
no_manifest text none m h e =
    let sound = sound_parts m h in
    let utf8 = subst IsUtf8 (sym e) (manifest_utf8 m.uid m.scopes sound.small sound.fine) in
    let clash : None ≡ Some (without_dropped m) = sym (none utf8) ∙ ap catalog_in e ∙ sound_read_back m h in
    absurd (cc)

-- a manifest that was read and isn't the one that has the text, or doesn't obey its own rules
pub other_manifest : (text : List ℕ) (n : Catalog) → catalog_in text ≡ Some n → (is_sound n ≡ false) ⊎ (text_of n ≡ text → ⊥) → (m : Catalog) → is_sound m ≡ true → text ≡ text_of m → ⊥
other_manifest text n found bad m h e =
    let same : n ≡ without_dropped m = some_is n (without_dropped m) (sym found ∙ ap catalog_in e ∙ sound_read_back m h) in
    elim bad [
      | inl unsound ↦ true≢false (sym h ∙ sym (ap is_sound same) ∙ unsound)
      | inr unlike ↦ unlike (ap text_of same ∙ sym e)
    ]

-- ---- a state

abbrev pub with_gone : Catalog → List ℕ → List ℕ → Catalog
with_gone m a b = record { uid = m.uid; scopes = m.scopes; dropped_scopes = a; dropped_collections = b }

pub state_found : (bytes : List ℕ) (m : Catalog) (text size last : ℕ) (a b : List ℕ) → TextAt bytes m text → IdsAt (scope_ids m.scopes) (drop text bytes) a size → IdsAt (collection_ids m.scopes) (drop (text + size) bytes) b last
    → IsAt bytes (with_gone m a b) (text + size + last)
state_found bytes m text size last a b t i j =
    let first = text_bytes m in
    let second = ids_bytes a in
    let third = ids_bytes b in
    let after = drop last (drop (text + size) bytes) in
    let whole : bytes ≡ (first ++ second ++ third) ++ after =
    t.front ∙ ap (λ u. first ++ u) (i.front ∙ ap (λ u. second ++ u) (drop-drop size text bytes ∙ j.front))
    ∙ sym (append_assoc first second (third ++ after)) ∙ sym (append_assoc (first ++ second) third after) in
    let len : text + size + last ≡ length (first ++ second ++ third) =
    (let a1 = length-append (first ++ second) third in let a2 = length-append first second in let l1 = t.len in let l2 = i.len in let l3 = j.len in omega (arith, a1, a2, l1, l2, l3)) in
    record {
      kept = and_from _ _ (and_from _ _ t.sound i.may) j.may;
      front = front_and_rest bytes (first ++ second ++ third) after (text + size + last) whole len;
      len = len;
    }

-- the state of a kept manifest, part by part
pub parted : (m : Catalog) (rest : List ℕ) → state_of m ++ rest ≡ text_bytes m ++ (ids_bytes m.dropped_scopes ++ (ids_bytes m.dropped_collections ++ rest))
parted m rest = append_assoc (text_bytes m ++ ids_bytes m.dropped_scopes) (ids_bytes m.dropped_collections) rest ∙ append_assoc (text_bytes m) (ids_bytes m.dropped_scopes) (ids_bytes m.dropped_collections ++ rest)

pub kept_sound : (m : Catalog) → is_kept m ≡ true → is_sound m ≡ true
kept_sound m h = let first = and_parts (is_sound m && are_gone (scope_ids m.scopes) m.dropped_scopes) (are_gone (collection_ids m.scopes) m.dropped_collections) h in (and_parts (is_sound m) (are_gone (scope_ids m.scopes) m.dropped_scopes) first.0).0

pub state_whole : (m : Catalog) (old first second third now : List ℕ) → first ≡ [] ++ text_bytes m → second ≡ first ++ ids_bytes m.dropped_scopes → third ≡ second ++ ids_bytes m.dropped_collections → now ≡ old ++ third → now ≡ old ++ state_of m
state_whole m old first second third now p q r e = e ∙ ap (λ t. old ++ t) (r ∙ ap (λ t. t ++ ids_bytes m.dropped_collections) (q ∙ ap (λ t. t ++ ids_bytes m.dropped_scopes) p))

-- bytes begin with one kept manifest's state at most
pub same_state : (m n : Catalog) (rest more : List ℕ) → is_kept m ≡ true → is_kept n ≡ true → state_of m ++ rest ≡ state_of n ++ more → m ≡ n
same_state m n rest more h k e =
    let a = kept_parts m h in
    let b = kept_parts n k in
    let after = λ (x : Catalog) (r : List ℕ). ids_bytes x.dropped_scopes ++ (ids_bytes x.dropped_collections ++ r) in
    let texts = same_text m n (after m rest) (after n more) (kept_sound m h) (kept_sound n k) (sym (parted m rest) ∙ e ∙ parted n more) in
    let first = same_ids (scope_ids m.scopes) (scope_ids n.scopes) m.dropped_scopes n.dropped_scopes (ids_bytes m.dropped_collections ++ rest) (ids_bytes n.dropped_collections ++ more) a.gone_scopes b.gone_scopes texts.rest in
    let second = same_ids (collection_ids m.scopes) (collection_ids n.scopes) m.dropped_collections n.dropped_collections rest more a.gone_collections b.gone_collections first.rest in
    ap (λ x. with_gone x m.dropped_scopes m.dropped_collections) texts.bare ∙ ap₂ (λ x y. with_gone n x y) first.front second.front
