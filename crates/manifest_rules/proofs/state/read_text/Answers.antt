use Rattle.std.proofs.Common.{◌≡◌, Some, None, option_map, sym, ap, ◌∙◌, arith}
use Rattle.kv_edge.specs.Fields.{IsBytes, bytes_at}
use Rattle.doc_model.specs.declared.limits.TheConstants.{MANIFEST_LIMIT}
use Rattle.manifest_rules.specs.State.{CountAt}
use Rattle.manifest_rules.proofs.Faults.{text_cut, text_other, text_found}
use Rattle.manifest_rules.proofs.state.read_text.Goals as goal

pub returns-in-None-slice_at-clause-breaks : goal.returns-in-None-slice_at-clause-breaks
returns-in-None-slice_at-clause-breaks c =
    let at : CountAt MANIFEST_LIMIT c.args.bytes.now c.in-Some.found.0 c.in-Some.found.1.now = c.in-Some.ensures in
    let none : bytes_at c.in-Some.found.0 c.in-Some.found.1.now ≡ None = sym c.slice_at.ensures ∙ ap (option_map (λ x. (x.0.now, x.1.now))) c.in-None-slice_at.is in
    text_cut c.args.bytes.now c.in-Some.found.1.now c.in-Some.found.0 at none

pub returns-in-Some-2-clause-found : goal.returns-in-Some-2-clause-found
returns-in-Some-2-clause-found c =
    let at : CountAt MANIFEST_LIMIT c.args.bytes.now c.in-Some.found.0 c.in-Some.found.1.now = c.in-Some.ensures in
    let field : bytes_at c.in-Some.found.0 c.in-Some.found.1.now ≡ Some (c.in-Some-slice_at.found.0.now, c.in-Some-slice_at.found.1.now) = sym c.slice_at.ensures ∙ ap (option_map (λ x. (x.0.now, x.1.now))) c.in-Some-slice_at.is in
    let fits : IsBytes c.args.bytes.now = λ i. omega (arith, c.type_inv.bytes i) in
    let sound = rw c.in-Some-2.is at c.in_ok-manifest.ensures in
    (text_found c.args.bytes.now c.in-Some.found.1.now c.in-Some-slice_at.found.0.now c.in-Some-slice_at.found.1.now c.in-Some.found.0 c.in-Some-2.manifest fits at field sound.0 sound.1, sound.2, sound.3)

pub returns-in-None-2-clause-breaks : goal.returns-in-None-2-clause-breaks
returns-in-None-2-clause-breaks c =
    let at : CountAt MANIFEST_LIMIT c.args.bytes.now c.in-Some.found.0 c.in-Some.found.1.now = c.in-Some.ensures in
    let field : bytes_at c.in-Some.found.0 c.in-Some.found.1.now ≡ Some (c.in-Some-slice_at.found.0.now, c.in-Some-slice_at.found.1.now) = sym c.slice_at.ensures ∙ ap (option_map (λ x. (x.0.now, x.1.now))) c.in-Some-slice_at.is in
    let none = rw c.in-None-2.is at c.in_ok-manifest.ensures in
    text_other c.args.bytes.now c.in-Some.found.1.now c.in-Some-slice_at.found.0.now c.in-Some-slice_at.found.1.now c.in-Some.found.0 at field none
