use Rattle.std.proofs.Common.{refl, ap, ◌∙◌, arith}
use Rattle.json_spell.specs.Tokens.{behind_gap}
use Rattle.json_walk.proofs.Further.{next_none, none_first, other_first, comma, next_some, next_lies}
use Rattle.json_walk.proofs.walking.next_part.Goals as goal

pub overflow_sub-text : goal.overflow_sub-text
overflow_sub-text c =
    let k = comma c.args.text.now c.split_at.result.1.now c.skip_blanks.result.now _ c.args.end c.requires c.split_at.ensures.back c.skip_blanks.ensures c.in-len1-up.len_at_least c.if-byte-eq44.true refl in
    omega (arith, k.within)

pub returns-in-empty-clause-found : goal.returns-in-empty-clause-found
returns-in-empty-clause-found c =
    next_none c.args.text.now c.skip_blanks.result.now c.args.shape c.args.end (c.skip_blanks.ensures ∙ ap behind_gap c.split_at.ensures.back) (none_first c.skip_blanks.result.now c.in-empty.len_below)

pub returns-else-byte-eq44-clause-found : goal.returns-else-byte-eq44-clause-found
returns-else-byte-eq44-clause-found c =
    next_none c.args.text.now c.skip_blanks.result.now c.args.shape c.args.end (c.skip_blanks.ensures ∙ ap behind_gap c.split_at.ensures.back) (other_first c.skip_blanks.result.now c.if-byte-eq44.false)

pub returns-then-byte-eq44-clause-found : goal.returns-then-byte-eq44-clause-found
returns-then-byte-eq44-clause-found c =
    next_some c.args.text.now c.skip_blanks.result.now _ c.args.shape c.args.end _ c.part_from.result (c.skip_blanks.ensures ∙ ap behind_gap c.split_at.ensures.back)
    (comma c.args.text.now c.split_at.result.1.now c.skip_blanks.result.now _ c.args.end c.requires c.split_at.ensures.back c.skip_blanks.ensures c.in-len1-up.len_at_least c.if-byte-eq44.true refl) refl c.part_from.ensures.found

pub returns-then-byte-eq44-clause-within : goal.returns-then-byte-eq44-clause-within
returns-then-byte-eq44-clause-within c =
    next_lies c.args.text.now c.skip_blanks.result.now _ c.args.end _ c.part_from.result
    (comma c.args.text.now c.split_at.result.1.now c.skip_blanks.result.now _ c.args.end c.requires c.split_at.ensures.back c.skip_blanks.ensures c.in-len1-up.len_at_least c.if-byte-eq44.true refl) refl c.part_from.ensures.within
