use Rattle.std.proofs.Common.{◌≡◌, ℕ, ◌-◌, ◌≤◌, List, [], ◌∷◌, length, take, drop, get_or, Some, sym, ap, ◌∙◌, arith}
use Rattle.std.proofs.lemmas.List.{take_all}
use Rattle.json_spell.specs.declared.tokens.Mode.TheVariants as modes
use Rattle.json_spell.specs.Tokens.{next, run}
use Rattle.json_spell.proofs.Runs.{run_step}
use Rattle.json_spell.proofs.tokens.skip_plain.Goals as goal

-- the first of the bytes that are left is passed over
record Passes (rest all : List ℕ) (behind : List ℕ) : Type 0 where
  read : run modes.Inside behind ≡ run modes.Inside all
  within : length behind ≤ length all

passes : (rest all : List ℕ) → 1 ≤ length rest → next modes.Inside (get_or rest 0 0) ≡ Some modes.Inside → run modes.Inside rest ≡ run modes.Inside all → length rest ≤ length all → Passes rest all (take (length rest - 1) (drop 1 rest))
passes [] all some plain read within = absurd (omega arith)
passes (x ∷ xs) all some plain read within =
    let e : take (length (x ∷ xs) - 1) xs ≡ xs = take_all (length (x ∷ xs) - 1) xs (omega arith) in
    record { read = ap (run modes.Inside) e ∙ sym (run_step modes.Inside modes.Inside x xs plain) ∙ read; within = omega (arith, ap (λ (l : List ℕ). length l) e, within) }

pub loop-rest-preserved : goal.loop-rest-preserved
loop-rest-preserved c =
    let p = passes c.loop-rest.rest.now c.args.bytes.now c.in-len1-up.len_at_least (c.is_plain.ensures c.if-not-is_plain.false) c.loop-rest.invariant.read c.loop-rest.invariant.within in
    record { read = p.read; within = p.within }
