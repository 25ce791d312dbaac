-- Contents that were read from their bytes, or made of parts.
use Rattle.std.specs.Prelude.{◌≡◌, ℕ, ◌++◌, List, Result, Ok, Err, IfOk, IfErr, MatchResult, refl}
use Rattle.std.specs.Int.{w64, to_be_bytes}
use Rattle.std.specs.List.Sorted.{IsPermutation}
use Rattle.std.proofs.Common.{inr, sym, ap, ◌∙◌, subst}
use Rattle.std.proofs.lemmas.List.Sorted.{IsPermutation-sym}
use Rattle.doc_model.specs.declared.document.Item.{Item}
use Rattle.manifest_rules.specs.Catalog.{Catalog}
use Rattle.vb_log.specs.declared.bounds.Bounds.{Bounds}
use Rattle.vb_log.specs.declared.entry.Pending.{Pending}
use Rattle.vb_log.specs.declared.reading.ContentFault.{ContentFault}
use Rattle.vb_log.specs.declared.reading.ContentFault.TheVariants as fault
use Rattle.vb_log.specs.declared.spelt_content.Body.{Body}
use Rattle.vb_log.specs.Content.{Content}
use Rattle.vb_log.specs.Contents.{IsWhole, IsContent, PartsAt, body_bytes, content_bytes, content_layout}
use Rattle.vb_log.specs.Faults.{IsNoContent}
use Rattle.vb_log.specs.Layout.{Fits}
use Rattle.vb_log.specs.Wholes.{AreParts, IsNoWhole, AreOrdered}
use Rattle.vb_log.proofs.ContentBytes.{one_content, content_fits}
use Rattle.vb_log.proofs.Wholes.{made_of, is_made, one_made, parts_moved, values_made, bytes_made, parts_made}

-- ---- made of parts

-- what is made of parts is what has them
pub only_made : (items : List Item) (pending : List Pending) (manifest : Catalog) (cas last : ℕ) (r : Result Content ContentFault) → IfOk r (AreParts items pending manifest cas last) → IfErr r (IsNoWhole items pending manifest cas last)
    → (c : Content) → AreParts items pending manifest cas last c → IsWhole c → MatchResult r (λ found. found ≡ c) (λ why. why ≡ fault.NoMemory)
only_made items pending manifest cas last (Ok found) h n c p w = one_made items pending manifest cas last found c h p
only_made items pending manifest cas last (Err (fault.Bad place)) h n c p w = absurd (n.1 c p w)
only_made items pending manifest cas last (Err fault.NoMemory) h n c p w = refl

-- whichever way the items stand
pub found_moved : (items sorted : List Item) (pending : List Pending) (manifest : Catalog) (cas last : ℕ) (r : Result Content ContentFault) → IsPermutation items sorted → IfOk r (AreParts sorted pending manifest cas last) → IfOk r (AreParts items pending manifest cas last)
found_moved items sorted pending manifest cas last (Ok found) moved h = parts_moved sorted items pending manifest cas last found (IsPermutation-sym items sorted moved) h
found_moved items sorted pending manifest cas last (Err why) moved h = tt

pub none_moved : (items sorted : List Item) (pending : List Pending) (manifest : Catalog) (cas last : ℕ) (r : Result Content ContentFault) → IsPermutation items sorted → IfErr r (IsNoWhole sorted pending manifest cas last) → IfErr r (IsNoWhole items pending manifest cas last)
none_moved items sorted pending manifest cas last (Ok found) moved h = tt
none_moved items sorted pending manifest cas last (Err (fault.Bad place)) moved h = (h.0, λ c p w. h.1 c (parts_moved items sorted pending manifest cas last c moved p) w)
none_moved items sorted pending manifest cas last (Err fault.NoMemory) moved h = tt

-- ---- read from bytes

module _ (bytes : List ℕ) (bounds : Bounds) (body : Body) (at : PartsAt bytes bounds body) where
  pub ordered_parts : AreOrdered body.items body.prepares body.manifest bounds
  ordered_parts = let p = at.parts in record { wide = record { last = at.last; cas = at.cas }; kept = p.kept; rising = p.items; waiting = p.prepares }

  spelled : bytes ≡ content_bytes (made_of body.items body.prepares body.manifest bounds.cas bounds.last)
  spelled = at.whole
      ∙ ap (λ l. to_be_bytes w64 bounds.last ++ (to_be_bytes w64 bounds.cas ++ body_bytes body.manifest l body.prepares)) (sym (values_made body.items body.prepares body.manifest bounds ordered_parts))

  has : (c : Content) → IsContent c bytes → AreParts body.items body.prepares body.manifest bounds.cas bounds.last c
  has c s =
      let w = s.whole in
      subst (AreParts body.items body.prepares body.manifest bounds.cas bounds.last)
      (one_content (made_of body.items body.prepares body.manifest bounds.cas bounds.last) c (bytes_made body.items body.prepares body.manifest bounds ordered_parts) w.parts (sym spelled ∙ s.spelled))
      (parts_made body.items body.prepares body.manifest bounds ordered_parts)

  pub read_found : (r : Result Content ContentFault) → IfOk r (AreParts body.items body.prepares body.manifest bounds.cas bounds.last) → IfOk r IsWhole → IfOk r (λ c. IsContent c bytes)
  read_found (Ok c) p w = record { whole = w; spelled = spelled ∙ ap content_bytes (is_made body.items body.prepares body.manifest bounds.cas bounds.last c p) }
  read_found (Err why) p w = tt

  pub read_only : (r : Result Content ContentFault) → IfOk r (AreParts body.items body.prepares body.manifest bounds.cas bounds.last) → IfErr r (IsNoWhole body.items body.prepares body.manifest bounds.cas bounds.last)
      → (c : Content) → IsContent c bytes → MatchResult r (λ found. found ≡ c) (λ why. why ≡ fault.NoMemory)
  read_only r p n c s = only_made body.items body.prepares body.manifest bounds.cas bounds.last r p n c (has c s) s.whole

  pub read_none : (r : Result Content ContentFault) → IfErr r (IsNoWhole body.items body.prepares body.manifest bounds.cas bounds.last) → IfErr r (IsNoContent bytes)
  read_none (Ok c) n = tt
  read_none (Err (fault.Bad place)) n = (
    inr (record {
      fits = subst (Fits content_layout) (sym spelled) (content_fits (made_of body.items body.prepares body.manifest bounds.cas bounds.last) (bytes_made body.items body.prepares body.manifest bounds ordered_parts));
      zero = n.0;
    }),
    λ c s. n.1 c (has c s) s.whole,
  )
  read_none (Err fault.NoMemory) n = tt
