use Rattle.std.proofs.Common.{◌≡◌, ◌≤◌, length, refl, sym, ap, subst, ◌∙◌, false}
use Rattle.kv_session.specs.Filling.{room_for}
use Rattle.kv_session.specs.Session.{Line, Gives}
use Rattle.kv_session.proofs.Giving.{found_made, hands_gives, hands_reply, gives_request, gives_other}
use Rattle.kv_session.proofs.Missing.{whole_is_all}
use Rattle.kv_session.proofs.session.Session.next_request.Goals as goal

pub returns-in-Ok-Frame-clause-gives : goal.returns-in-Ok-Frame-clause-gives
returns-in-Ok-Frame-clause-gives c =
    let s = c.self.inside in
    let old = c.args.self.now in
    let w = c.in-Ok-Frame in
    let m = found_made s.features s.quit s.held.items c.deref.result.now old w.field-0 w.made w._used c.self.view_is c.deref.ensures.value w.ensures w.field-0-is in
    let going : old.quit ≡ false = ap (λ (line : Line). line.quit) (sym c.self.view_is) ∙ c.if-self.false in
    let bounded : length old.held ≤ room_for old.held = subst (λ (line : Line). length line.held ≤ room_for line.held) c.self.view_is c.self.invariant.bounded in
    hands_gives old old c.hand_out.new.self w.made w._used c.hand_out.result refl refl going m (whole_is_all old.held m.frame w._used bounded m.begins) c.hand_out.ensures

pub returns-in-Ok-Frame-clause-request : goal.returns-in-Ok-Frame-clause-request
returns-in-Ok-Frame-clause-request c made e =
    gives_request c.args.self.now c.hand_out.new.self made (subst (Gives c.args.self.now c.hand_out.new.self) e (returns-in-Ok-Frame-clause-gives c))

pub returns-in-Ok-Frame-clause-passed : goal.returns-in-Ok-Frame-clause-passed
returns-in-Ok-Frame-clause-passed c made e =
    gives_other c.args.self.now c.hand_out.new.self made (subst (Gives c.args.self.now c.hand_out.new.self) e (returns-in-Ok-Frame-clause-gives c))

pub returns-in-Ok-Frame-clause-reply : goal.returns-in-Ok-Frame-clause-reply
returns-in-Ok-Frame-clause-reply c reply e =
    let s = c.self.inside in
    let w = c.in-Ok-Frame in
    let m = found_made s.features s.quit s.held.items c.deref.result.now c.args.self.now w.field-0 w.made w._used c.self.view_is c.deref.ensures.value w.ensures w.field-0-is in
    hands_reply c.args.self.now c.hand_out.new.self w.made c.hand_out.result reply m.spells c.hand_out.ensures e
