use Rattle.std.proofs.Common.{ℕ, List, length, Bool, cond, Ok, Err, sym, ap, ◌∙◌}
use Rattle.json_spell.specs.declared.tokens.Stop.TheVariants as stops
use Rattle.json_spell.specs.Machine.{Verdict}
use Rattle.json_spell.proofs.Turned.{end_is}
use Rattle.json_spell.proofs.judging.text_end.Goals as goal

told : List ℕ → Bool → Verdict
told left b = cond b (Ok tt) (Err (stops.Not (length left)))

pub returns-then-is_empty : goal.returns-then-is_empty
unfolding told
returns-then-is_empty c = end_is c.args.bytes.now c.skip_blanks-left.result.now c.skip_blanks-left.ensures ∙ ap (told c.skip_blanks-left.result.now) (sym c.is_empty.ensures ∙ c.if-is_empty.true)

pub returns-else-is_empty : goal.returns-else-is_empty
unfolding told
returns-else-is_empty c = end_is c.args.bytes.now c.skip_blanks-left.result.now c.skip_blanks-left.ensures ∙ ap (told c.skip_blanks-left.result.now) (sym c.is_empty.ensures ∙ c.if-is_empty.false)
