-- When a document is there, and the expiry that a request gives.
use Rattle.std.specs.Prelude.{ℕ, ◌+◌, ◌/◌, min, nat_eq, nat_le, Bool, ◌&&◌, not, Option, Some, None, if◌then◌else◌}
use Rattle.doc_model.specs.declared.document.Doc.{Doc}
use Rattle.doc_step.specs.declared.TheConstants.{RELATIVE_LIMIT, LAST_EXPIRY}

-- what surrounds an operation: the greatest lifetime that the collection grants, in seconds and 0 for any, the moment
-- in milliseconds since 1970, and the CAS that a change draws
pub record Setting : Type 0 where
  pub max_ttl : ℕ
  pub now : ℕ
  pub draw : ℕ

-- seconds since 1970
abbrev pub seconds : ℕ → ℕ
seconds now = now / 1000

-- whether an expiry has passed: it isn't 0, and not above the seconds
abbrev pub is_expired : ℕ → ℕ → Bool
is_expired expiry now = not (nat_eq expiry 0) && nat_le expiry (seconds now)

-- the document that is there at a moment
abbrev pub there : ℕ → Option Doc → Option Doc
there now None = None
there now (Some doc) = if is_expired doc.expiry now then None else Some doc

-- the second that lies this many after another, or the last that there is
abbrev pub later : ℕ → ℕ → ℕ
later second lifetime = min (second + lifetime) LAST_EXPIRY

-- the expiry that a request's own comes to: none, seconds from now, or seconds since 1970
abbrev pub asked : ℕ → ℕ → ℕ
asked second expiry = if nat_eq expiry 0 then 0 else (if nat_le expiry RELATIVE_LIMIT then later second expiry else expiry)

-- an expiry cut to the greatest lifetime, where there is one; none is later than any
abbrev pub cut_to : ℕ → ℕ → ℕ → ℕ
cut_to second max_ttl expiry =
    if nat_eq max_ttl 0 then expiry
    else (if nat_eq expiry 0 then later second max_ttl else min expiry (later second max_ttl))

-- the expiry that a document gets
abbrev pub expiry_of : Setting → ℕ → ℕ
expiry_of s expiry = cut_to (seconds s.now) s.max_ttl (asked (seconds s.now) expiry)
