-- What a queue keeps of keys agrees with its prepares.
use Rattle.std.specs.Prelude.{find, option_map}
use Rattle.std.specs.FinMap as map
use Rattle.std.specs.FinMap.{get-insert, get-remove, get-empty}
use Rattle.std.specs.Option.{option_or}
use Rattle.std.specs.Ordering.{eq_by_cmp}
use Rattle.std.proofs.Common.{◌≡◌, Bool, true, false, cond, List, [], ◌∷◌, ◌++◌, Option, Some, None}
use Rattle.std.proofs.Common.{refl, sym, ◌∙◌, ap}
use Rattle.std.proofs.lemmas.Cmp.{eq_by_cmp_equiv}
use Rattle.std.proofs.lemmas.List.Folds.{find-append}
use Rattle.doc_model.specs.declared.key.DocKey.{DocKey}
use Rattle.doc_model.specs.Keys.{key_cmp}
use Rattle.doc_model.proofs.Entries.{same_key, keys_total}
use Rattle.durability_core.specs.declared.waiting.Waiting.{Waiting}
use Rattle.durability_core.specs.Tracking.{is_of, is_inherited, inherited_of, has_waiting}
use Rattle.durability_core.specs.Kept.{AreApart, IsQueue}

-- ---- keys

same : DocKey → DocKey → Bool
same a b = eq_by_cmp key_cmp a b

turned : (a b : DocKey) → eq_by_cmp key_cmp a b ≡ eq_by_cmp key_cmp b a
turned a b = (eq_by_cmp_equiv keys_total).symm a b

itself : (a : DocKey) → eq_by_cmp key_cmp a a ≡ true
itself a = (eq_by_cmp_equiv keys_total).refl a

-- ---- look-ups in lists

-- a list with one more prepare, of another key or not, has what it had or that one
last_found : (b : Bool) (w : Waiting) (found : Option Waiting)
    → option_or found (cond b (Some w) None) ≡ cond b (option_or found (Some w)) found
last_found true w found = refl
last_found false w (Some x) = refl
last_found false w None = refl

found_more : (key : DocKey) (w : Waiting) (ws : List Waiting)
    → find (is_of key) (ws ++ w ∷ [])
    ≡ cond (is_of key w) (option_or (find (is_of key) ws) (Some w)) (find (is_of key) ws)
found_more key w ws =
    find-append (is_of key) ws (w ∷ []) ∙ last_found (is_of key w) w (find (is_of key) ws)

-- where none of the others is of its key, a prepare is found wherever it stands
found_last : (key : DocKey) (w : Waiting) (ws : List Waiting) → find (is_of w.key) ws ≡ None
    → find (is_of key) (ws ++ w ∷ []) ≡ find (is_of key) (w ∷ ws)
found_last key w ws e = found_more key w ws ∙ go (is_of key w) refl
  where
    go : (b : Bool) → is_of key w ≡ b
        → cond b (option_or (find (is_of key) ws) (Some w)) (find (is_of key) ws)
        ≡ cond b (Some w) (find (is_of key) ws)
    go true f =
        let none = ap (λ (k : DocKey). find (is_of k) ws) (sym (same_key w.key key f)) ∙ e in
        ap (λ (found : Option Waiting). option_or found (Some w)) none
    go false f = refl

none_waits : (ws : List Waiting) (key : DocKey) → has_waiting ws key ≡ false
    → find (is_of key) ws ≡ None
none_waits ws key e = go (find (is_of key) ws) refl e
  where
    go : (found : Option Waiting) → find (is_of key) ws ≡ found → has_waiting ws key ≡ false
        → found ≡ None
    go None f e = refl
    go (Some w) f e = absurd (cc (ap (λ (o : Option Waiting). option_map is_inherited o) f))

-- ---- prepares apart

-- where a key isn't that of a first prepare, it is the key of none or of a later one
other_first : (b : Bool) (w : Waiting) (found : Option Waiting) → cond b (Some w) found ≡ None
    → (b ≡ false) × (found ≡ None)
other_first true w found e = absurd (cc)
other_first false w found e = (refl, e)

none_more : (key : DocKey) (w : Waiting) (ws : List Waiting) → is_of key w ≡ false
    → find (is_of key) ws ≡ None → find (is_of key) (ws ++ w ∷ []) ≡ None
none_more key w ws f e =
    found_more key w ws
    ∙ ap (λ (b : Bool). cond b (option_or (find (is_of key) ws) (Some w)) (find (is_of key) ws)) f
    ∙ e

apart_more : (w : Waiting) (ws : List Waiting) → find (is_of w.key) ws ≡ None → AreApart ws
    → AreApart (ws ++ w ∷ [])
apart_more w [] e a = (refl, tt)
apart_more w (x ∷ xs) e a =
    let first = other_first (is_of w.key x) x (find (is_of w.key) xs) e in
    (none_more x.key w xs (turned w.key x.key ∙ first.0) a.0, apart_more w xs first.1 a.1)

-- ---- queues

pub none_kept : IsQueue map.empty []
none_kept = record { agrees = λ key. get-empty key_cmp key; apart = tt }

pub one_more_kept : (keys : map.FinMap key_cmp Bool) (ws : List Waiting) (w : Waiting)
    → has_waiting ws w.key ≡ false → IsQueue keys ws
    → IsQueue (map.insert keys w.key (is_inherited w)) (ws ++ w ∷ [])
one_more_kept keys ws w free q = record {
  agrees = λ key. agrees key;
  apart = apart_more w ws none q.apart;
}
  where
    none : find (is_of w.key) ws ≡ None
    none = none_waits ws w.key free

    agrees : (key : DocKey)
        → map.get (map.insert keys w.key (is_inherited w)) key ≡ inherited_of (ws ++ w ∷ []) key
    agrees key =
        get-insert keys_total keys w.key (is_inherited w) key
        ∙ go (is_of key w) refl
        ∙ ap (λ (o : Option Waiting). option_map is_inherited o) (sym (found_last key w ws none))
      where
        go : (b : Bool) → is_of key w ≡ b
            → cond (eq_by_cmp key_cmp key w.key) (Some (is_inherited w)) (map.get keys key)
            ≡ option_map is_inherited (cond (is_of key w) (Some w) (find (is_of key) ws))
        go true f = rw (f, turned key w.key, f) refl
        go false f = rw (f, turned key w.key, f) (q.agrees key)

pub one_less_kept : (keys : map.FinMap key_cmp Bool) (ws : List Waiting) (w : Waiting)
    → IsQueue keys (w ∷ ws) → IsQueue (map.remove keys w.key) ws
one_less_kept keys ws w q = record { agrees = λ key. agrees key; apart = q.apart.1 }
  where
    agrees : (key : DocKey) → map.get (map.remove keys w.key) key ≡ inherited_of ws key
    agrees key = get-remove keys_total keys w.key key ∙ go (is_of key w) refl
      where
        go : (b : Bool) → is_of key w ≡ b
            → cond (eq_by_cmp key_cmp key w.key) None (map.get keys key) ≡ inherited_of ws key
        go true f =
            let none = ap (λ (k : DocKey). find (is_of k) ws) (sym (same_key w.key key f)) ∙ q.apart.0 in
            rw (turned key w.key, f) (ap (λ (o : Option Waiting). option_map is_inherited o) (sym none))
        go false f =
            rw (turned key w.key, f)
            (q.agrees key
            ∙ ap (λ (b : Bool). option_map is_inherited (cond b (Some w) (find (is_of key) ws))) f)

pub one_turned_kept : (keys : map.FinMap key_cmp Bool) (ws : List Waiting) (w : Waiting)
    → IsQueue keys (w ∷ ws) → IsQueue keys (ws ++ w ∷ [])
one_turned_kept keys ws w q = record {
  agrees = λ key.
      q.agrees key
      ∙ ap (λ (o : Option Waiting). option_map is_inherited o) (sym (found_last key w ws q.apart.0));
  apart = apart_more w ws q.apart.0 q.apart.1;
}
