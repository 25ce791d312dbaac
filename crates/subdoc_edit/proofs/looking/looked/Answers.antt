use Rattle.std.proofs.Common.{Ok, Err, None, Some, rules, subst, sym}
use Rattle.doc_model.specs.declared.status.TheConstants.Status as status
use Rattle.doc_model.specs.declared.status.Refused.TheVariants as refusals
use Rattle.json_model.specs.declared.asked.Lookup.{Lookup}
use Rattle.subdoc_edit.specs.declared.looking.Piece.{Piece}
use Rattle.subdoc_edit.specs.Looking.{TellsLooked}
use Rattle.subdoc_edit.proofs.Looks.{get_is, exists_is, count_none, count_is}
use Rattle.subdoc_edit.proofs.looking.looked.Goals as goal

pub returns-in-Get : goal.returns-in-Get
returns-in-Get c t s =
    let n : Piece = record { from = c.args.at; to = c.value_end.result; count = None } in
    subst (λ (l : Lookup). TellsLooked l c.args.text.now t (Ok n)) (sym c.in-Get.is) (get_is c.args.text.now c.args.at c.value_end.result t s (c.value_end.ensures.found t s))

pub returns-in-Exists : goal.returns-in-Exists
returns-in-Exists c t s =
    let n : Piece = record { from = c.args.at; to = c.args.at; count = None } in
    subst (λ (l : Lookup). TellsLooked l c.args.text.now t (Ok n)) (sym c.in-Exists.is) (exists_is c.args.text.now c.args.at t s)

pub returns-then-not-holds_others : goal.returns-then-not-holds_others
returns-then-not-holds_others c t s =
    subst (λ (l : Lookup). TellsLooked l c.args.text.now t (Err (refusals.Status status.PATH_MISMATCH))) (sym c.in-GetCount.is)
    (count_none c.args.text.now t c.kind_at.result (c.kind_at.ensures t s) (search rules))

pub returns-else-not-holds_others : goal.returns-else-not-holds_others
returns-else-not-holds_others c t s =
    let n : Piece = record { from = c.args.at; to = c.args.at; count = Some c.count.result } in
    subst (λ (l : Lookup). TellsLooked l c.args.text.now t (Ok n)) (sym c.in-GetCount.is)
    (count_is c.args.text.now c.args.at t c.kind_at.result c.count.result s (c.kind_at.ensures t s) (search rules) (c.count.ensures.found t s))
