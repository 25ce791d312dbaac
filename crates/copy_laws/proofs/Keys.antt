-- What a map has at one key, once another has changed.
use Rattle.std.specs.Prelude.{◌≡◌, ◌≢◌, Bool, true, false, cond, Some, refl}
use Rattle.std.specs.Ordering.{eq_by_cmp}
use Rattle.std.specs.Cmp.{eq_by_cmp_equiv}
use Rattle.std.specs.FinMap as map
use Rattle.std.proofs.Common.{◌∙◌, ap}
use Rattle.doc_model.specs.declared.key.DocKey.{DocKey}
use Rattle.doc_model.specs.Keys.{key_cmp}
use Rattle.doc_model.proofs.Entries.{same_key, keys_total}

at_false : {X : Type 0} (b : Bool) (x y : X) → (b ≡ true → ⊥) → cond b x y ≡ y
at_false true x y no_way = absurd (no_way refl)
at_false false x y no_way = refl

-- what the key has that is given something
pub get_same : {X : Type 0} (m : map.FinMap key_cmp X) (key : DocKey) (x : X) → map.get (map.insert m key x) key ≡ Some x
get_same m key x = map.get-insert keys_total m key x key ∙ ap (λ b. cond b (Some x) (map.get m key)) ((eq_by_cmp_equiv keys_total).refl key)

-- what another key has
pub get_other : {X : Type 0} (m : map.FinMap key_cmp X) (key other : DocKey) (x : X) → other ≢ key → map.get (map.insert m key x) other ≡ map.get m other
get_other m key other x differs =
    map.get-insert keys_total m key x other
    ∙ at_false (eq_by_cmp key_cmp other key) (Some x) (map.get m other) (λ e. differs (same_key other key e))
