use Rattle.subdoc_edit.proofs.GivenEdits.{one_text_given, elements_given, leaf_given, delta_given, nothing_given}
use Rattle.subdoc_edit.proofs.values.given_of.Goals as goal

pub returns-in-DictAdd : goal.returns-in-DictAdd
returns-in-DictAdd c = one_text_given c.args.edit c.args.value.now c.read_tree.result c.in-DictAdd.is c.read_tree.ensures

pub returns-in-ArrayPushLast : goal.returns-in-ArrayPushLast
returns-in-ArrayPushLast c = elements_given c.args.edit c.args.value.now c.read_parts.result c.in-ArrayPushLast.is c.read_parts.ensures

pub returns-in-ArrayAddUnique : goal.returns-in-ArrayAddUnique
returns-in-ArrayAddUnique c = leaf_given c.args.edit c.args.value.now c.read_leaf.result c.in-ArrayAddUnique.is c.read_leaf.ensures

pub returns-in-Counter : goal.returns-in-Counter
returns-in-Counter c = delta_given c.args.edit c.args.value.now c.read_delta.result c.in-Counter.is c.read_delta.ensures

pub returns-in-Delete : goal.returns-in-Delete
returns-in-Delete c = nothing_given c.args.edit c.args.value.now _ c.in-Delete.is
