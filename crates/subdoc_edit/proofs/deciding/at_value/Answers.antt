use Rattle.std.proofs.Common.{sym, subst}
use Rattle.json_model.specs.declared.asked.Edit.{Edit}
use Rattle.subdoc_edit.specs.Planning.{FoundDecides}
use Rattle.subdoc_edit.proofs.deciding.at_value.Goals as goal

pub returns-in-DictUpsert : goal.returns-in-DictUpsert
returns-in-DictUpsert c =
    subst (λ (e : Edit). FoundDecides e c.args.text.now c.args.value.now c.args.parts.now c.args.at c.args.given c.replace.result) (sym c.in-DictUpsert.is)
    c.replace.ensures.upserts

pub returns-in-Delete : goal.returns-in-Delete
returns-in-Delete c =
    subst (λ (e : Edit). FoundDecides e c.args.text.now c.args.value.now c.args.parts.now c.args.at c.args.given c.delete.result) (sym c.in-Delete.is)
    c.delete.ensures

pub returns-in-Replace : goal.returns-in-Replace
returns-in-Replace c =
    subst (λ (e : Edit). FoundDecides e c.args.text.now c.args.value.now c.args.parts.now c.args.at c.args.given c.replace-in-Replace.result) (sym c.in-Replace.is)
    c.replace-in-Replace.ensures.replaces

pub returns-in-ArrayPushLast : goal.returns-in-ArrayPushLast
returns-in-ArrayPushLast c =
    subst (λ (e : Edit). FoundDecides e c.args.text.now c.args.value.now c.args.parts.now c.args.at c.args.given c.push_last.result) (sym c.in-ArrayPushLast.is)
    c.push_last.ensures

pub returns-in-ArrayPushFirst : goal.returns-in-ArrayPushFirst
returns-in-ArrayPushFirst c =
    subst (λ (e : Edit). FoundDecides e c.args.text.now c.args.value.now c.args.parts.now c.args.at c.args.given c.push_first.result) (sym c.in-ArrayPushFirst.is)
    c.push_first.ensures

pub returns-in-ArrayInsert : goal.returns-in-ArrayInsert
returns-in-ArrayInsert c =
    subst (λ (e : Edit). FoundDecides e c.args.text.now c.args.value.now c.args.parts.now c.args.at c.args.given c.insert.result) (sym c.in-ArrayInsert.is)
    c.insert.ensures

pub returns-in-ArrayAddUnique : goal.returns-in-ArrayAddUnique
returns-in-ArrayAddUnique c =
    subst (λ (e : Edit). FoundDecides e c.args.text.now c.args.value.now c.args.parts.now c.args.at c.args.given c.add_unique.result) (sym c.in-ArrayAddUnique.is)
    c.add_unique.ensures

pub returns-in-Counter : goal.returns-in-Counter
returns-in-Counter c =
    subst (λ (e : Edit). FoundDecides e c.args.text.now c.args.value.now c.args.parts.now c.args.at c.args.given c.count.result) (sym c.in-Counter.is)
    c.count.ensures
