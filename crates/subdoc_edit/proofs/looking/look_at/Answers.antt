use Rattle.std.proofs.Common.{Result, Err, List, sym, ap, subst, ◌∙◌}
use Rattle.std.proofs.lemmas.Result.{err_from_is_err_and}
use Rattle.doc_model.specs.declared.status.Refused.{Refused}
use Rattle.json_model.specs.declared.asked.Part.{Part}
use Rattle.subdoc_path.specs.declared.led.Led.TheVariants as led
use Rattle.subdoc_path.specs.Led.{LeadsAt}
use Rattle.subdoc_edit.specs.declared.looking.Piece.{Piece}
use Rattle.subdoc_edit.specs.Looking.{TellsLook}
use Rattle.subdoc_edit.proofs.Pieces.{at_within}
use Rattle.subdoc_edit.proofs.Trails.{led_as, leads_at}
use Rattle.subdoc_edit.proofs.Looks.{path_refused, text_refused, nowhere, elsewhere, looked_at}
use Rattle.subdoc_edit.proofs.looking.look_at.Goals as goal

pub returns-in_err-path : goal.returns-in_err-path
returns-in_err-path c =
    let p = err_from_is_err_and c.from_residual.result c.from_residual.ensures.1 in
    subst (λ (r : Result Piece Refused). TellsLook c.args.lookup c.args.text.now c.args.path.now r) (sym (p.1 ∙ ap Err p.2)) (path_refused c.args.lookup c.args.text.now c.args.path.now c.in_err-path.field-0.0 c.in_err-path.ensures)

pub returns-in_err-check_judged : goal.returns-in_err-check_judged
returns-in_err-check_judged c =
    let p = err_from_is_err_and c.from_residual-in_err-check_judged.result c.from_residual-in_err-check_judged.ensures.1 in
    subst (λ (r : Result Piece Refused). TellsLook c.args.lookup c.args.text.now c.args.path.now r) (sym (p.1 ∙ ap Err p.2))
    (text_refused c.args.lookup c.args.text.now c.args.path.now c.in_ok-path.path c.in_err-check_judged.field-0.0 c.in_ok-path.ensures (c.in_err-check_judged.ensures c.args.text.now c.requires))

pub looked-requires : goal.looked-requires
looked-requires c =
    let s = c.in_ok-check_judged.ensures c.args.text.now c.requires in
    let f = leads_at c.args.text.now c.parts.result.now s.0 c.in-At.at (led_as c.args.text.now c.parts.result.now s.0 c.follow-led.result (led.At c.in-At.at) c.in-At.is (c.follow-led.ensures s.0 s.1)) in
    at_within c.args.text.now c.in-At.at f.tree f.stands.place

pub returns-in-At : goal.returns-in-At
returns-in-At c =
    let s = c.in_ok-check_judged.ensures c.args.text.now c.requires in
    let l = subst (λ (ps : List Part). LeadsAt ps c.args.text.now s.0 (led.At c.in-At.at)) c.parts.ensures (led_as c.args.text.now c.parts.result.now s.0 c.follow-led.result (led.At c.in-At.at) c.in-At.is (c.follow-led.ensures s.0 s.1)) in
    let f = leads_at c.args.text.now c.in_ok-path.path s.0 c.in-At.at l in
    looked_at c.args.lookup c.args.text.now c.args.path.now c.in_ok-path.path s.0 c.in-At.at c.looked.result c.in_ok-path.ensures s.1 f (c.looked.ensures f.tree f.stands.place)

pub returns-in-Missing : goal.returns-in-Missing
returns-in-Missing c =
    let s = c.in_ok-check_judged.ensures c.args.text.now c.requires in
    let l = subst (λ (ps : List Part). LeadsAt ps c.args.text.now s.0 (led.Missing c.in-Missing.field-0)) c.parts.ensures (led_as c.args.text.now c.parts.result.now s.0 c.follow-led.result (led.Missing c.in-Missing.field-0) c.in-Missing.is (c.follow-led.ensures s.0 s.1)) in
    nowhere c.args.lookup c.args.text.now c.args.path.now c.in_ok-path.path s.0 c.in-Missing.field-0 c.in_ok-path.ensures s.1 l

pub returns : goal.returns
returns c =
    let s = c.in_ok-check_judged.ensures c.args.text.now c.requires in
    let l = subst (λ (ps : List Part). LeadsAt ps c.args.text.now s.0 (led.Mismatch c.in-Mismatch.field-0)) c.parts.ensures (led_as c.args.text.now c.parts.result.now s.0 c.follow-led.result (led.Mismatch c.in-Mismatch.field-0) c.in-Mismatch.is (c.follow-led.ensures s.0 s.1)) in
    elsewhere c.args.lookup c.args.text.now c.args.path.now c.in_ok-path.path s.0 c.in-Mismatch.field-0 c.in_ok-path.ensures s.1 l
