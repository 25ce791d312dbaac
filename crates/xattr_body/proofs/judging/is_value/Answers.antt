use Rattle.std.proofs.Common.{◌∙◌, refl, sym, subst, List, ℕ}
use Rattle.json_model.specs.declared.TheConstants.{MOST_DEEP}
use Rattle.json_model.specs.Spelled.{Document, IsText}
use Rattle.xattr_body.proofs.Depth.{value_found, value_array}
use Rattle.xattr_body.proofs.judging.is_value.Goals as goal

pub returns : goal.returns
returns c =
    let same = c.as_slice.ensures.value ∙ c.in_ok-array.ensures in
    let P : List ℕ → Type 0 = λ l. (d : Document) × IsText MOST_DEEP d l in (
      λ yes.
          let d = c.if-not-is_json.ensures.found refl in
          let e = subst P same (c.is_json-2.ensures.found yes) in
          value_found c.args.text.now d.0 e.0 d.1 e.1,
      λ v.
          let e = subst P (sym same) (value_array c.args.text.now v) in
          c.is_json-2.ensures.only e.0 e.1,
    )
