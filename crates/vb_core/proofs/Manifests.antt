-- The text of a manifest that is kept.
use Rattle.std.specs.Prelude.{◌≡◌, ◌≤◌, nat_le, true, ◌&&◌, IsTrue, length}
use Rattle.std.specs.Cmp.{first_so}
use Rattle.std.proofs.Common.{arith}
use Rattle.std.proofs.lemmas.Bool.{and_parts, leb-true}
use Rattle.doc_model.specs.declared.limits.TheConstants.{MANIFEST_LIMIT}
use Rattle.kv_request.specs.declared.reading.TheConstants.{VALUE_LIMIT}
use Rattle.manifest_rules.specs.declared.types.TheConstants.{COUNT_LIMIT}
use Rattle.manifest_rules.specs.Catalog.{Catalog, scope_ids, collections_in, collection_ids, numbers_fit}
use Rattle.manifest_rules.specs.Rules.{is_small, obeys_alone}
use Rattle.manifest_rules.specs.State.{is_sound, are_gone, is_kept}
use Rattle.manifest_rules.specs.Text.{text_of}

-- the text of a manifest that is kept isn't too long for a reply
pub kept_short : (m : Catalog) → IsTrue (is_kept m) → length (text_of m) ≤ VALUE_LIMIT
kept_short m h =
    let most : (is_sound m && are_gone (scope_ids m.scopes) m.dropped_scopes) ≡ true = first_so _ (are_gone (collection_ids m.scopes) m.dropped_collections) h in
    let sound : is_sound m ≡ true = first_so (is_sound m) (are_gone (scope_ids m.scopes) m.dropped_scopes) most in
    let fits : (numbers_fit m.uid m.scopes && is_small m) ≡ true = first_so _ (obeys_alone m.scopes) sound in
    let small : is_small m ≡ true = (and_parts (numbers_fit m.uid m.scopes) (is_small m) fits).1 in
    let short : nat_le (length (text_of m)) MANIFEST_LIMIT ≡ true = (and_parts (nat_le (length m.scopes) COUNT_LIMIT && nat_le (length (collections_in m.scopes)) COUNT_LIMIT) (nat_le (length (text_of m)) MANIFEST_LIMIT) small).1 in
    let within : length (text_of m) ≤ MANIFEST_LIMIT = leb-true (length (text_of m)) MANIFEST_LIMIT short in
    omega arith
