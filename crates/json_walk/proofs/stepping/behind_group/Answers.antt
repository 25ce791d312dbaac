use Rattle.std.proofs.Common.{◌≡◌, ℕ, ◌+◌, ◌-◌, ◌≤◌, List, [], ◌∷◌, length, take, drop, get_or, sym, ap, ◌∙◌, arith}
use Rattle.std.proofs.lemmas.List.{take_all}
use Rattle.json_walk.specs.Stepping.{behind_string, closed_at}
use Rattle.json_walk.proofs.Shorter.{string_short}
use Rattle.json_walk.proofs.Passing.{mark_closed}
use Rattle.json_walk.proofs.stepping.behind_group.Goals as goal

-- the string at the front of the bytes that are left is passed over
record Passed (depth : ℕ) (all behind : List ℕ) : Type 0 where
  read : closed_at depth behind ≡ closed_at 0 all
  few : depth + length behind ≤ length all

string_passed : (depth : ℕ) (rest all behind : List ℕ) → 1 ≤ length rest → get_or rest 0 0 ≡ 0x22 → behind ≡ behind_string (take (length rest - 1) (drop 1 rest)) → closed_at depth rest ≡ closed_at 0 all → depth + length rest ≤ length all → Passed depth all behind
string_passed depth [] all behind some mark e read few = absurd (omega arith)
string_passed depth (x ∷ xs) all behind some mark e read few =
    let tail : take (length (x ∷ xs) - 1) xs ≡ xs = take_all (length (x ∷ xs) - 1) xs (omega arith) in
    let b : behind ≡ behind_string xs = e ∙ ap behind_string tail in
    record {
      read = ap (closed_at depth) b ∙ sym (mark_closed depth xs) ∙ ap (λ n. closed_at depth (n ∷ xs)) (sym mark) ∙ read;
      few = omega (arith, ap (λ (l : List ℕ). length l) b, string_short xs, few);
    }

pub loop-rest-preserved-in-34 : goal.loop-rest-preserved-in-34
loop-rest-preserved-in-34 c =
    let p = string_passed c.loop-rest.depth c.loop-rest.rest.now c.args.bytes.now c.behind_string-rest.result.now c.in-len1-up.len_at_least c.in-34.is c.behind_string-rest.ensures c.loop-rest.invariant.read c.loop-rest.invariant.few in
    record { read = p.read; few = p.few }
