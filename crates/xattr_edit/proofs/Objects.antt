-- The object of attributes, member by member.
use Rattle.std.proofs.Common.{◌≡◌, ℕ, List, [], ◌∷◌, ◌++◌, length, Some, None, sym, ap, ◌∙◌, append_assoc, append-nil}
use Rattle.std.specs.Int.{w32}
use Rattle.kv_edge.specs.Fields.{number_at}
use Rattle.xattr_body.specs.Section.{Pair}
use Rattle.xattr_body.specs.Pairs.{pair_at, pairs_from, pairs_in}
use Rattle.xattr_body.proofs.Fronts.{no_more, one_more, pair_none, in_some, in_none}
use Rattle.xattr_step.specs.Object.{member_text, further_text, members_text, object_text}

-- ---- further members

pub further_none : (all was bytes : List ℕ) → was ++ further_text (pairs_from (length bytes) bytes) ≡ all → None ≡ pair_at bytes → was ≡ all
further_none all was bytes h e = sym (append-nil was) ∙ ap (λ (l : List Pair). was ++ further_text l) (sym (no_more bytes e)) ∙ h

pub further_more : (all was pushed now bytes rest : List ℕ) (p : Pair) → was ++ further_text (pairs_from (length bytes) bytes) ≡ all → Some (p, rest) ≡ pair_at bytes → pushed ≡ was ++ 0x2c ∷ [] → now ≡ pushed ++ member_text p
    → now ++ further_text (pairs_from (length rest) rest) ≡ all
further_more all was pushed now bytes rest p h e a b =
    let behind : List ℕ = further_text (pairs_from (length rest) rest) in
    ap (λ (l : List ℕ). l ++ behind) b ∙ ap (λ (l : List ℕ). (l ++ member_text p) ++ behind) a ∙ append_assoc (was ++ 0x2c ∷ []) (member_text p) behind ∙ append_assoc was (0x2c ∷ []) (member_text p ++ behind)
    ∙ ap (λ (l : List Pair). was ++ further_text l) (sym (one_more bytes rest p e)) ∙ h

-- ---- all members

pub members_none : (out bytes : List ℕ) → None ≡ pair_at bytes → out ≡ out ++ members_text (pairs_from (length bytes) bytes)
members_none out bytes e = sym (append-nil out) ∙ ap (λ (l : List Pair). out ++ members_text l) (sym (no_more bytes e))

pub members_some : (out first now bytes rest : List ℕ) (p : Pair) → Some (p, rest) ≡ pair_at bytes → first ≡ out ++ member_text p → now ≡ first ++ further_text (pairs_from (length rest) rest)
    → now ≡ out ++ members_text (pairs_from (length bytes) bytes)
members_some out first now bytes rest p e a b =
    let behind : List ℕ = further_text (pairs_from (length rest) rest) in
    b ∙ ap (λ (l : List ℕ). l ++ behind) a ∙ append_assoc out (member_text p) behind ∙ ap (λ (l : List Pair). out ++ members_text l) (sym (one_more bytes rest p e))

-- ---- the object

pub behind_none : (bytes : List ℕ) → None ≡ number_at w32 bytes → pairs_from (length bytes) bytes ≡ pairs_in bytes
behind_none bytes e = no_more bytes (pair_none bytes e) ∙ sym (in_none bytes e)

pub behind_some : (bytes behind : List ℕ) (n : ℕ) → Some (n, behind) ≡ number_at w32 bytes → pairs_from (length behind) behind ≡ pairs_in bytes
behind_some bytes behind n e = sym (in_some bytes behind n e)

pub object_is : (bytes behind begun members ended : List ℕ) → pairs_from (length behind) behind ≡ pairs_in bytes → begun ≡ 0x7b ∷ [] → members ≡ begun ++ members_text (pairs_from (length behind) behind) → ended ≡ members ++ 0x7d ∷ []
    → ended ≡ object_text (pairs_in bytes)
unfolding object_text
object_is bytes behind begun members ended h a b c =
    c ∙ ap (λ (l : List ℕ). l ++ 0x7d ∷ []) b ∙ ap (λ (l : List ℕ). (l ++ members_text (pairs_from (length behind) behind)) ++ 0x7d ∷ []) a
    ∙ ap (λ (l : List Pair). 0x7b ∷ (members_text l ++ 0x7d ∷ [])) h
