use Rattle.std.proofs.Common.{◌≡◌, ◌≢◌, true, false, rules}
use Rattle.json_model.specs.declared.kinds.Kind.TheVariants as kinds
use Rattle.subdoc_edit.proofs.Pieces.{standing_within}
use Rattle.subdoc_edit.proofs.Decisions.{set_no_array, array_yes, leaves_told, text_told, set_groups, set_has, set_free}
use Rattle.subdoc_edit.proofs.deciding.set_fault.Goals as goal

pub kind_at-requires : goal.kind_at-requires
kind_at-requires c = standing_within c.args.text.now c.args.at c.requires

pub returns-then-ne : goal.returns-then-ne
returns-then-ne c t s =
    let other : c.kind_at.result ≢ kinds.Array = search rules in
    set_no_array t c.kind_at.result c.args.wanted.now (c.kind_at.ensures t s) other

pub returns-then-not-are_leaves : goal.returns-then-not-are_leaves
returns-then-not-are_leaves c t s =
    let array : c.kind_at.result ≡ kinds.Array = search rules in
    let y = array_yes t c.kind_at.result s.fits (c.kind_at.ensures t s) array in
    set_groups t y.1 c.args.wanted.now y.2 (leaves_told c.args.text.now c.args.at c.are_leaves.result false t y.1 c.are_leaves.ensures s y.2 c.if-not-are_leaves.true)

pub returns-then-has_text : goal.returns-then-has_text
returns-then-has_text c t s =
    let array : c.kind_at.result ≡ kinds.Array = search rules in
    let y = array_yes t c.kind_at.result s.fits (c.kind_at.ensures t s) array in
    set_has t y.1 c.args.wanted.now y.2 (leaves_told c.args.text.now c.args.at c.are_leaves.result true t y.1 c.are_leaves.ensures s y.2 c.if-not-are_leaves.false) (text_told c.args.text.now c.args.at c.args.wanted.now c.has_text.result true t y.1 c.has_text.ensures s y.2 c.if-has_text.true)

pub returns : goal.returns
returns c t s =
    let array : c.kind_at.result ≡ kinds.Array = search rules in
    let y = array_yes t c.kind_at.result s.fits (c.kind_at.ensures t s) array in
    set_free t y.1 c.args.wanted.now y.0 y.2 (leaves_told c.args.text.now c.args.at c.are_leaves.result true t y.1 c.are_leaves.ensures s y.2 c.if-not-are_leaves.false) (text_told c.args.text.now c.args.at c.args.wanted.now c.has_text.result false t y.1 c.has_text.ensures s y.2 c.if-has_text.false)
