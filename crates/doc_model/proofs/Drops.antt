-- What a map keeps without the keys of dropped collections.
use Rattle.std.specs.Prelude.{◌≡◌, Bool, true, false, cond, filter, List, [], ◌∷◌, Option, Some, None, refl}
use Rattle.std.specs.BTreeMap.{is_at}
use Rattle.std.specs.FinMap as map
use Rattle.std.proofs.Common.{sym, ◌∙◌, ap}
use Rattle.doc_model.specs.declared.key.DocKey.{DocKey}
use Rattle.doc_model.specs.Keys.{key_cmp}
use Rattle.doc_model.proofs.Entries.{exact_keys, keys_total, same_key, value_at, get_value}

-- what a map has at a key, once the keys that fail a test are gone
pub get_kept : {X : Type 0} (m : map.FinMap key_cmp X) (p : DocKey → Bool) (q : DocKey) → map.get (map.retain_keys m p) q ≡ cond (p q) (map.get m q) None
get_kept m p q = map.get-retain_keys m p q (λ x e. ap p (sym (exact_keys q x e)))

-- tests that agree on what a map has keep the same
pub same_kept : {X : Type 0} (m : map.FinMap key_cmp X) (p r : DocKey → Bool) → ((q : DocKey) → cond (p q) (map.get m q) None ≡ cond (r q) (map.get m q) None) → map.retain_keys m p ≡ map.retain_keys m r
same_kept m p r h = map.same_map keys_total exact_keys _ _ (λ q. get_kept m p q ∙ h q ∙ sym (get_kept m r q))

-- ---- entries that pass a test

pub lookup_kept : {X : Type 0} (p : DocKey → Bool) (es : List (DocKey × X)) (q : DocKey) → value_at (filter (λ e. p e.0) es) q ≡ cond (p q) (value_at es q) None
lookup_kept p [] q = nothing (p q)
  where
    nothing : {X : Type 0} (b : Bool) → (let o : Option X = None in o) ≡ cond b None None
    nothing true = refl
    nothing false = refl
lookup_kept {X} p (e ∷ es) q = by (p e.0) refl (is_at (key_cmp q) e.0) refl (lookup_kept p es q)
  where
    here : (c : Bool) → c ≡ true → cond c (Some e.1) None ≡ Some e.1
    here c h = ap (λ b. cond b (Some e.1) None) h

    by : (b : Bool) → p e.0 ≡ b → (c : Bool) → is_at (key_cmp q) e.0 ≡ c → value_at (filter (λ e. p e.0) es) q ≡ cond (p q) (value_at es q) None
        → value_at (cond b (e ∷ filter (λ e. p e.0) es) (filter (λ e. p e.0) es)) q ≡ cond (p q) (cond c (Some e.1) (value_at es q)) None
    by true f true g rest =
        ap (λ v. cond v (Some e.1) (value_at (filter (λ e. p e.0) es) q)) g
        ∙ sym (ap (λ b. cond b (Some e.1) None) (ap p (same_key q e.0 g) ∙ f))
    by true f false g rest = ap (λ v. cond v (Some e.1) (value_at (filter (λ e. p e.0) es) q)) g ∙ rest
    by false f true g rest =
        let out : p q ≡ false = ap p (same_key q e.0 g) ∙ f in
        rest ∙ ap (λ b. cond b (value_at es q) None) out ∙ sym (ap (λ b. cond b (Some e.1) None) out)
    by false f false g rest = rest

-- the map of the entries whose keys pass
pub entries_kept : {X : Type 0} (p : DocKey → Bool) (es : List (DocKey × X)) → map.from_entries {R = key_cmp} (filter (λ e. p e.0) es) ≡ map.retain_keys (map.from_entries es) p
entries_kept p es = map.same_map keys_total exact_keys _ _ (λ q.
    get_value (filter (λ e. p e.0) es) q ∙ lookup_kept p es q ∙ ap (λ o. cond (p q) o None) (sym (get_value es q)) ∙ sym (get_kept (map.from_entries es) p q))
