use Rattle.std.proofs.Common.{◌≡◌, ℕ, ◌+◌, ◌<◌, true, false, nat_eq, List, [], ◌∷◌, ◌++◌, length, drop, slice_index, ap, subst, arith, sym, ◌∙◌}
use Rattle.std.specs.List.{list_any}
use Rattle.std.specs.Global.{Vec}
use Rattle.kv_session.specs.Answers.{granted}
use Rattle.kv_session.proofs.Granting.{refused_step, known_step, new_step, with_left, found_flipped}
use Rattle.kv_session.proofs.answers.grant.Goals.{then-is_granted+then-not-contains+in_ok-push, else-is_granted, else-is_granted-via-then-is_granted+else-not-contains, else-is_granted-via-else-is_granted}
use Rattle.kv_session.proofs.answers.grant.Goals as goal

pub loop-code-preserved : goal.loop-code-preserved
loop-code-preserved c =
    let wanted = c.args.wanted.now in
    let codes = c.loop-code.codes.items in
    let i = c.loop-code.code-index in
    let lt : i < length wanted = omega arith in
    let before : granted wanted ≡ with_left codes (drop i wanted) = c.loop-code.invariant in
    elim c.if-is_granted.branch [
      | then-is_granted+then-not-contains+in_ok-push w ↦
          let e : c.if-is_granted.codes.items ≡ codes ++ (slice_index wanted i ∷ []) = ap (λ (v : Vec ℕ). v.items) w.codes-is ∙ w.in_ok-push.ensures.items in
          let unknown : list_any (nat_eq (slice_index wanted i)) codes ≡ false = found_flipped (slice_index wanted i) codes ∙ (ap (list_any (λ (other : ℕ). nat_eq other (slice_index wanted i))) (sym w.deref.ensures.value) ∙ sym w.contains.ensures.value ∙ w.if-not-contains.true) in
          subst (λ (l : List ℕ). granted wanted ≡ with_left l (drop (i + 1) wanted)) (sym e) (new_step wanted codes i lt (sym w.if-is_granted.ensures) unknown before)
      | else-is_granted w ↦
          let e : c.if-is_granted.codes.items ≡ codes = ap (λ (v : Vec ℕ). v.items) w.codes-is in
          elim w.else-is_granted.branch [
            | else-is_granted-via-then-is_granted+else-not-contains w' ↦
                let known : list_any (nat_eq (slice_index wanted i)) codes ≡ true = found_flipped (slice_index wanted i) codes ∙ (ap (list_any (λ (other : ℕ). nat_eq other (slice_index wanted i))) (sym w'.deref.ensures.value) ∙ sym w'.contains.ensures.value ∙ w'.if-not-contains.false) in
                subst (λ (l : List ℕ). granted wanted ≡ with_left l (drop (i + 1) wanted)) (sym e) (known_step wanted codes i lt (sym w'.if-is_granted.ensures) known before)
            | else-is_granted-via-else-is_granted w' ↦
                subst (λ (l : List ℕ). granted wanted ≡ with_left l (drop (i + 1) wanted)) (sym e) (refused_step wanted codes i lt (sym w'.if-is_granted.ensures) before)
          ]
    ]
