use Rattle.std.proofs.Common.{◌≡◌, ℕ, List, ◌++◌, ◌+◌, ◌≤◌, length, take, drop, arith, sym, subst, ap, ◌∙◌}
use Rattle.std.proofs.lemmas.List.{length-append, length-take, length-drop}
use Rattle.kv_frame.specs.declared.frame.Side.TheVariants.{Requests}
use Rattle.kv_frame.specs.Judging.{Lacks}
use Rattle.kv_session.specs.Filling.{room_for}
use Rattle.kv_session.proofs.Missing.{lacks_some, none_filled, held_further, lacks_room}
use Rattle.kv_session.proofs.filling.fill.Goals as goal

pub loop-taken-preserved : goal.loop-taken-preserved
loop-taken-preserved c =
    let i = c.loop-taken.invariant in
    let old = c.args.held.now.items in
    let piece = c.args.piece.now in
    let held = c.loop-taken.held.items in
    let taken = c.loop-taken.taken in
    let count = c.in-Ok.count in
    let missing = c.in-More.missing in
    let left : c.split_at.result.1.now ≡ drop taken piece = c.split_at.ensures.back in
    let size : length c.split_at.result.1.now ≡ length (drop taken piece) = ap (λ (l : List ℕ). length l) left in
    let rest = length-drop taken piece in
    let done = c.in-Ok.ensures.ok in
    let new : c.fill_up.new.held.items ≡ held ++ take count (drop taken piece) = done.1 ∙ ap (λ (l : List ℕ). held ++ take count l) left in
    let lacks : Lacks Requests held missing = subst (λ (l : List ℕ). Lacks Requests l missing) c.deref.ensures.value c.in-More.ensures.answer in
    let within : taken + count ≤ length piece = omega (arith, done.0, size, rest, i.within) in
    record {
      within = within;
      held = held_further old piece held c.fill_up.new.held.items taken count i.held new;
      no_more = none_filled old piece held taken missing count i.held lacks (omega (arith, done.0)) within i.no_more;
      held_so = record {
        bounded = subst (λ (l : List ℕ). length l ≤ room_for l) (sym new) (lacks_room held (take count (drop taken piece)) missing lacks (omega (arith, done.0, length-take count (drop taken piece))));
        kept = λ empty.
            let none : length c.fill_up.new.held.items ≡ 0 = ap (λ (l : List ℕ). length l) empty in
            let sum : length c.fill_up.new.held.items ≡ length (held ++ take count (drop taken piece)) = ap (λ (l : List ℕ). length l) new in
            absurd (omega (arith, none, sum, length-append held (take count (drop taken piece)), length-take count (drop taken piece), done.0, size, rest, lacks_some held missing lacks, c.loop-taken-test.true));
      };
      before = i.before;
    }
