use Rattle.std.proofs.Common.{◌≡◌, ◌<◌, ◌^◌, ℤ, ap, sym, subst, arith, length, to_z, of_z, w64, ℕ, Vec, Global}
use Rattle.std.specs.String.{string_vec}
use Rattle.std.specs.Int.Signed.{mag}
use Rattle.std.proofs.lemmas.Fmt.{length_signed_le}
use Rattle.std.proofs.lemmas.Int.{to_z-of_z}
use Rattle.doc_ops.proofs.edits.signed_text.Goals as goal

pub returns-clause-short : goal.returns-clause-short
returns-clause-short c =
    let same : to_z w64 (of_z w64 c.args.number) ≡ c.args.number = to_z-of_z w64 c.args.number c.ranges.number in
    let bound : mag (to_z w64 (of_z w64 c.args.number)) < 2 ^ 63 = subst (λ (z : ℤ). mag z < 2 ^ 63) (sym same) c.ranges.number.sfits in
    let vec : c.into_bytes.result ≡ string_vec c.in_ok-format.field-0 = c.into_bytes.ensures.value in
    let items : length c.into_bytes.result.items ≡ length (string_vec c.in_ok-format.field-0).items = ap (λ (v : Vec ℕ Global). length v.items) vec in
    omega (arith, ap length c.from_vec.ensures, items, ap length c.in_ok-format.ensures.ok, length_signed_le 20 (to_z w64 (of_z w64 c.args.number)) (omega (arith, bound)) bound)
