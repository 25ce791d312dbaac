-- A spec that is read is spelled so, and one that is spelled is read.
use Rattle.std.proofs.Common.{◌≡◌, ℕ, ◌+◌, ◌^◌, ◌<◌, ◌≤◌, Bool, true, false, ltb, List, [], ◌∷◌, ◌++◌, length, take, drop, Option, Some, refl, sym, ap, subst, ◌∙◌, append_assoc, arith, length-append, length-take, length-drop}
use Rattle.std.specs.Int.{w16, w32, to_be_bytes}
use Rattle.std.proofs.lemmas.Bool.{ltb-false}
use Rattle.kv_edge.specs.Fields.{◌>>=◌, IsBytes, byte_at, number_at, bytes_at}
use Rattle.kv_edge.proofs.Fields.{Takes, Takes-then, bind_some, guard_some, some_is, byte_takes, number_takes, wide16, wide32, bytes_take, number_again, bytes_again, byte_size, number_size}
use Rattle.kv_request.specs.declared.request.Spec.{Spec}
use Rattle.kv_request.specs.Multi.{look_bytes, edit_bytes, spec_bytes, look_spec_at, edit_spec_at, spec_at, FitsSpec}

-- a run of bytes that was read, and the rest, are all
bytes_whole : (n : ℕ) (bytes text rest : List ℕ) → bytes_at n bytes ≡ Some (text, rest)
    → (length text ≡ n) × (n + length rest ≡ length bytes)
bytes_whole n bytes text rest e =
    let g = guard_some (ltb (length bytes) n) (take n bytes, drop n bytes) (text, rest) e in
    let long : n ≤ length bytes = ltb-false _ _ g.0 in
    let text-is : length (take n bytes) ≡ length text = ap (λ (p : List ℕ × List ℕ). length p.0) g.1 in
    let rest-is : length (drop n bytes) ≡ length rest = ap (λ (p : List ℕ × List ℕ). length p.1) g.1 in
    (omega (arith, text-is, length-take n bytes), omega (arith, rest-is, length-drop n bytes))

again16 : (n : ℕ) (rest : List ℕ) → n < 2 ^ 16 → number_at w16 (to_be_bytes w16 n ++ rest) ≡ Some (n, rest)
again16 n rest fits = number_again w16 (2 ^ 16) wide16 n rest fits

again32 : (n : ℕ) (rest : List ℕ) → n < 2 ^ 32 → number_at w32 (to_be_bytes w32 n ++ rest) ≡ Some (n, rest)
again32 n rest fits = number_again w32 (2 ^ 32) wide32 n rest fits

-- ---- the spec of a look-up

abbrev path_only : ℕ → ℕ → List ℕ × List ℕ → Option (Spec × List ℕ)
path_only opcode flags path = Some (record { opcode = opcode; flags = flags; path = path.0; value = [] }, path.1)

abbrev with_path : ℕ → ℕ → ℕ × List ℕ → Option (Spec × List ℕ)
with_path opcode flags size = bytes_at size.0 size.1 >>= path_only opcode flags

abbrev with_flags : ℕ → ℕ × List ℕ → Option (Spec × List ℕ)
with_flags opcode flags = number_at w16 flags.1 >>= with_path opcode flags.0

abbrev with_opcode : ℕ × List ℕ → Option (Spec × List ℕ)
with_opcode opcode = byte_at opcode.1 >>= with_flags opcode.0

-- the fields of a look-up's spec, one after the other
record Looked (bytes : List ℕ) (spec : Spec) (rest : List ℕ) : Type 0 where
  a : List ℕ
  b : List ℕ
  size : ℕ
  c : List ℕ
  opcode : byte_at bytes ≡ Some (spec.opcode, a)
  flags : byte_at a ≡ Some (spec.flags, b)
  sized : number_at w16 b ≡ Some (size, c)
  path : bytes_at size c ≡ Some (spec.path, rest)

looked : (bytes : List ℕ) (spec : Spec) (rest : List ℕ) → look_spec_at bytes ≡ Some (spec, rest)
    → Looked bytes spec rest
unfolding look_spec_at
looked bytes spec rest read =
    let a = bind_some (byte_at bytes) with_opcode (spec, rest) read in
    let b = bind_some (byte_at a.0.1) (with_flags a.0.0) (spec, rest) a.2 in
    let c = bind_some (number_at w16 b.0.1) (with_path a.0.0 b.0.0) (spec, rest) b.2 in
    let d = bind_some (bytes_at c.0.0 c.0.1) (path_only a.0.0 b.0.0) (spec, rest) c.2 in
    let made : Spec × List ℕ = (record { opcode = a.0.0; flags = b.0.0; path = d.0.0; value = [] }, d.0.1) in
    subst (λ (p : Spec × List ℕ). Looked bytes p.0 p.1) {x = made} (some_is made (spec, rest) d.2) (record {
      a = a.0.1;
      b = b.0.1;
      size = c.0.0;
      c = c.0.1;
      opcode = a.1;
      flags = b.1;
      sized = c.1;
      path = d.1;
    })

look_takes : (bytes : List ℕ) (spec : Spec) (rest : List ℕ) → IsBytes bytes → Looked bytes spec rest
    → Takes bytes (look_bytes spec) rest
look_takes bytes spec rest all l =
    let a = byte_takes bytes spec.opcode l.a all l.opcode in
    let b = byte_takes l.a spec.flags l.b a.0.rest_fits l.flags in
    let c = number_takes w16 (2 ^ 16) wide16 l.b l.size l.c b.0.rest_fits l.sized in
    let d = bytes_take l.size l.c spec.path rest c.0.rest_fits l.path in
    let sized = subst (λ n. Takes l.b (to_be_bytes w16 n) l.c) (sym d.1) c.0 in
    let back = Takes-then l.b (to_be_bytes w16 (length spec.path)) l.c spec.path rest sized d.0 in
    let middle = Takes-then l.a (spec.flags ∷ []) l.b (to_be_bytes w16 (length spec.path) ++ spec.path) rest b.0 back in
    Takes-then bytes (spec.opcode ∷ []) l.a (spec.flags ∷ (to_be_bytes w16 (length spec.path) ++ spec.path)) rest a.0 middle

look_long : (bytes : List ℕ) (spec : Spec) (rest : List ℕ) → Looked bytes spec rest
    → length (look_bytes spec) + length rest ≡ length bytes
look_long bytes spec rest l =
    let path = bytes_whole l.size l.c spec.path rest l.path in
    let opcode = byte_size.whole bytes spec.opcode l.a l.opcode in
    let flags = byte_size.whole l.a spec.flags l.b l.flags in
    omega (arith, opcode, flags, (number_size w16).whole l.b l.size l.c l.sized)

look_again : (spec : Spec) (rest : List ℕ) → FitsSpec false spec
    → look_spec_at (look_bytes spec ++ rest) ≡ Some (spec, rest)
unfolding look_spec_at
look_again spec rest fits =
    let size = to_be_bytes w16 (length spec.path) in
    ap (λ l. with_flags spec.opcode (spec.flags, l)) (append_assoc size spec.path rest)
    ∙ ap (λ r. r >>= with_path spec.opcode spec.flags) (again16 (length spec.path) (spec.path ++ rest) fits.path)
    ∙ ap (λ r. r >>= path_only spec.opcode spec.flags) (bytes_again spec.path rest)
    ∙ ap (λ v. Some (let s : Spec = record spec { value = v } in s, rest)) (sym (fits.none refl))

-- ---- the spec of an edit

abbrev valued : ℕ → ℕ → List ℕ → List ℕ × List ℕ → Option (Spec × List ℕ)
valued opcode flags path value = Some (record { opcode = opcode; flags = flags; path = path; value = value.0 }, value.1)

abbrev edit_path : ℕ → ℕ → ℕ → List ℕ × List ℕ → Option (Spec × List ℕ)
edit_path opcode flags more path = bytes_at more path.1 >>= valued opcode flags path.0

abbrev edit_more : ℕ → ℕ → ℕ → ℕ × List ℕ → Option (Spec × List ℕ)
edit_more opcode flags size more = bytes_at size more.1 >>= edit_path opcode flags more.0

abbrev edit_size : ℕ → ℕ → ℕ × List ℕ → Option (Spec × List ℕ)
edit_size opcode flags size = number_at w32 size.1 >>= edit_more opcode flags size.0

abbrev edit_flags : ℕ → ℕ × List ℕ → Option (Spec × List ℕ)
edit_flags opcode flags = number_at w16 flags.1 >>= edit_size opcode flags.0

abbrev edit_opcode : ℕ × List ℕ → Option (Spec × List ℕ)
edit_opcode opcode = byte_at opcode.1 >>= edit_flags opcode.0

-- the fields of an edit's spec, one after the other
record Edited (bytes : List ℕ) (spec : Spec) (rest : List ℕ) : Type 0 where
  a : List ℕ
  b : List ℕ
  size : ℕ
  c : List ℕ
  more : ℕ
  d : List ℕ
  f : List ℕ
  opcode : byte_at bytes ≡ Some (spec.opcode, a)
  flags : byte_at a ≡ Some (spec.flags, b)
  sized : number_at w16 b ≡ Some (size, c)
  worth : number_at w32 c ≡ Some (more, d)
  path : bytes_at size d ≡ Some (spec.path, f)
  value : bytes_at more f ≡ Some (spec.value, rest)

edited : (bytes : List ℕ) (spec : Spec) (rest : List ℕ) → edit_spec_at bytes ≡ Some (spec, rest)
    → Edited bytes spec rest
unfolding edit_spec_at
edited bytes spec rest read =
    let a = bind_some (byte_at bytes) edit_opcode (spec, rest) read in
    let b = bind_some (byte_at a.0.1) (edit_flags a.0.0) (spec, rest) a.2 in
    let c = bind_some (number_at w16 b.0.1) (edit_size a.0.0 b.0.0) (spec, rest) b.2 in
    let d = bind_some (number_at w32 c.0.1) (edit_more a.0.0 b.0.0 c.0.0) (spec, rest) c.2 in
    let f = bind_some (bytes_at c.0.0 d.0.1) (edit_path a.0.0 b.0.0 d.0.0) (spec, rest) d.2 in
    let g = bind_some (bytes_at d.0.0 f.0.1) (valued a.0.0 b.0.0 f.0.0) (spec, rest) f.2 in
    let made : Spec × List ℕ = (record { opcode = a.0.0; flags = b.0.0; path = f.0.0; value = g.0.0 }, g.0.1) in
    subst (λ (p : Spec × List ℕ). Edited bytes p.0 p.1) {x = made} (some_is made (spec, rest) g.2) (record {
      a = a.0.1;
      b = b.0.1;
      size = c.0.0;
      c = c.0.1;
      more = d.0.0;
      d = d.0.1;
      f = f.0.1;
      opcode = a.1;
      flags = b.1;
      sized = c.1;
      worth = d.1;
      path = f.1;
      value = g.1;
    })

edit_takes : (bytes : List ℕ) (spec : Spec) (rest : List ℕ) → IsBytes bytes → Edited bytes spec rest
    → Takes bytes (edit_bytes spec) rest
edit_takes bytes spec rest all l =
    let a = byte_takes bytes spec.opcode l.a all l.opcode in
    let b = byte_takes l.a spec.flags l.b a.0.rest_fits l.flags in
    let c = number_takes w16 (2 ^ 16) wide16 l.b l.size l.c b.0.rest_fits l.sized in
    let d = number_takes w32 (2 ^ 32) wide32 l.c l.more l.d c.0.rest_fits l.worth in
    let f = bytes_take l.size l.d spec.path l.f d.0.rest_fits l.path in
    let g = bytes_take l.more l.f spec.value rest f.0.rest_fits l.value in
    let size = to_be_bytes w16 (length spec.path) in
    let more = to_be_bytes w32 (length spec.value) in
    let sized = subst (λ n. Takes l.b (to_be_bytes w16 n) l.c) (sym f.1) c.0 in
    let worth = subst (λ n. Takes l.c (to_be_bytes w32 n) l.d) (sym g.1) d.0 in
    let texts = Takes-then l.d spec.path l.f spec.value rest f.0 g.0 in
    let behind = Takes-then l.c more l.d (spec.path ++ spec.value) rest worth texts in
    let back = Takes-then l.b size l.c (more ++ (spec.path ++ spec.value)) rest sized behind in
    let middle = Takes-then l.a (spec.flags ∷ []) l.b (size ++ (more ++ (spec.path ++ spec.value))) rest b.0 back in
    Takes-then bytes (spec.opcode ∷ []) l.a (spec.flags ∷ (size ++ (more ++ (spec.path ++ spec.value)))) rest a.0 middle

edit_long : (bytes : List ℕ) (spec : Spec) (rest : List ℕ) → Edited bytes spec rest
    → length (edit_bytes spec) + length rest ≡ length bytes
edit_long bytes spec rest l =
    let path = bytes_whole l.size l.d spec.path l.f l.path in
    let value = bytes_whole l.more l.f spec.value rest l.value in
    let opcode = byte_size.whole bytes spec.opcode l.a l.opcode in
    let flags = byte_size.whole l.a spec.flags l.b l.flags in
    let sized = (number_size w16).whole l.b l.size l.c l.sized in
    let worth = (number_size w32).whole l.c l.more l.d l.worth in
    let front : 2 + length l.b ≡ length bytes = omega (arith, opcode, flags) in
    let sizes : 6 + length l.d ≡ length l.b = omega (arith, sized, worth) in
    omega (arith, length-append spec.path spec.value)

edit_again : (spec : Spec) (rest : List ℕ) → FitsSpec true spec
    → edit_spec_at (edit_bytes spec ++ rest) ≡ Some (spec, rest)
unfolding edit_spec_at
edit_again spec rest fits =
    let size = to_be_bytes w16 (length spec.path) in
    let more = to_be_bytes w32 (length spec.value) in
    let back : List ℕ = spec.path ++ (spec.value ++ rest) in
    let regrouped : (size ++ (more ++ (spec.path ++ spec.value))) ++ rest ≡ size ++ (more ++ back) =
    append_assoc size (more ++ (spec.path ++ spec.value)) rest
    ∙ ap (λ l. size ++ l) (append_assoc more (spec.path ++ spec.value) rest)
    ∙ ap (λ l. size ++ (more ++ l)) (append_assoc spec.path spec.value rest) in
    ap (λ l. edit_flags spec.opcode (spec.flags, l)) regrouped
    ∙ ap (λ r. r >>= edit_size spec.opcode spec.flags) (again16 (length spec.path) (more ++ back) fits.path)
    ∙ ap (λ r. r >>= edit_more spec.opcode spec.flags (length spec.path)) (again32 (length spec.value) back fits.value)
    ∙ ap (λ r. r >>= edit_path spec.opcode spec.flags (length spec.value)) (bytes_again spec.path (spec.value ++ rest))
    ∙ ap (λ r. r >>= valued spec.opcode spec.flags spec.path) (bytes_again spec.value rest)

-- ---- a spec of either kind

pub spec_takes : (edits : Bool) (bytes : List ℕ) (spec : Spec) (rest : List ℕ) → IsBytes bytes
    → spec_at edits bytes ≡ Some (spec, rest) → Takes bytes (spec_bytes edits spec) rest
spec_takes true bytes spec rest all read = edit_takes bytes spec rest all (edited bytes spec rest read)
spec_takes false bytes spec rest all read = look_takes bytes spec rest all (looked bytes spec rest read)

pub spec_again : (edits : Bool) (spec : Spec) (rest : List ℕ) → FitsSpec edits spec
    → spec_at edits (spec_bytes edits spec ++ rest) ≡ Some (spec, rest)
spec_again true spec rest fits = edit_again spec rest fits
spec_again false spec rest fits = look_again spec rest fits

-- a spec that was read, and what follows it, are all
pub spec_long : (edits : Bool) (bytes : List ℕ) (spec : Spec) (rest : List ℕ)
    → spec_at edits bytes ≡ Some (spec, rest) → length (spec_bytes edits spec) + length rest ≡ length bytes
spec_long true bytes spec rest read = edit_long bytes spec rest (edited bytes spec rest read)
spec_long false bytes spec rest read = look_long bytes spec rest (looked bytes spec rest read)

-- a spec has four bytes at least
pub spec_some : (edits : Bool) (spec : Spec) → 4 ≤ length (spec_bytes edits spec)
spec_some true spec = omega arith
spec_some false spec = omega arith
