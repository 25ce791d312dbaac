use Rattle.std.proofs.Common.{sym, subst}
use Rattle.json_model.specs.declared.asked.Edit.{Edit}
use Rattle.subdoc_edit.specs.Planning.{MissedDecides}
use Rattle.subdoc_edit.proofs.deciding.at_gap.Goals as goal

pub returns-in-DictAdd : goal.returns-in-DictAdd
returns-in-DictAdd c = subst (λ (e : Edit). MissedDecides e c.args.several c.args.text.now c.args.value.now c.args.parts.now c.args.followed c.args.given c.make_value.result) (sym c.in-DictAdd.is) c.make_value.ensures.adds

pub returns-in-DictUpsert : goal.returns-in-DictUpsert
returns-in-DictUpsert c = subst (λ (e : Edit). MissedDecides e c.args.several c.args.text.now c.args.value.now c.args.parts.now c.args.followed c.args.given c.make_value-in-DictUpsert.result) (sym c.in-DictUpsert.is) c.make_value-in-DictUpsert.ensures.upserts

pub returns-in-ArrayPushLast : goal.returns-in-ArrayPushLast
returns-in-ArrayPushLast c = subst (λ (e : Edit). MissedDecides e c.args.several c.args.text.now c.args.value.now c.args.parts.now c.args.followed c.args.given c.make_array.result) (sym c.in-ArrayPushLast.is) c.make_array.ensures.last

pub returns-in-ArrayPushFirst : goal.returns-in-ArrayPushFirst
returns-in-ArrayPushFirst c = subst (λ (e : Edit). MissedDecides e c.args.several c.args.text.now c.args.value.now c.args.parts.now c.args.followed c.args.given c.make_array-in-ArrayPushFirst.result) (sym c.in-ArrayPushFirst.is) c.make_array-in-ArrayPushFirst.ensures.first

pub returns-in-ArrayInsert : goal.returns-in-ArrayInsert
returns-in-ArrayInsert c = subst (λ (e : Edit). MissedDecides e c.args.several c.args.text.now c.args.value.now c.args.parts.now c.args.followed c.args.given c.insert_last.result) (sym c.in-ArrayInsert.is) c.insert_last.ensures

pub returns-in-ArrayAddUnique : goal.returns-in-ArrayAddUnique
returns-in-ArrayAddUnique c = subst (λ (e : Edit). MissedDecides e c.args.several c.args.text.now c.args.value.now c.args.parts.now c.args.followed c.args.given c.make_array-in-ArrayAddUnique.result) (sym c.in-ArrayAddUnique.is) c.make_array-in-ArrayAddUnique.ensures.unique

pub returns-in-Counter : goal.returns-in-Counter
returns-in-Counter c = subst (λ (e : Edit). MissedDecides e c.args.several c.args.text.now c.args.value.now c.args.parts.now c.args.followed c.args.given c.make_counter.result) (sym c.in-Counter.is) c.make_counter.ensures
