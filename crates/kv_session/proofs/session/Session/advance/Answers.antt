use Rattle.std.proofs.Common.{◌≡◌, ℕ, [], length, Result, Ok, sym, ap, subst, ◌∙◌, false, arith}
use Rattle.kv_edge.specs.declared.traits.NoMemory.{NoMemory}
use Rattle.kv_session.specs.declared.session.Next.{Next}
use Rattle.kv_session.specs.declared.session.Next.TheVariants as nexts
use Rattle.kv_session.specs.Session.{Line, Gives}
use Rattle.std.proofs.lemmas.Bool.Decides.{nat_tests}
use Rattle.kv_session.proofs.Feeding.{none_left}
use Rattle.kv_session.proofs.Giving.{line_found, hands_reply, gives_request, gives_other}
use Rattle.kv_session.proofs.Lying.{lies_gives, more_takes_all}
use Rattle.kv_session.proofs.session.Session.advance.Goals as goal

-- what is told by one answer
told : (x y : ℕ × Next) → ◌≡◌ {A = Result (ℕ × Next) NoMemory} (Ok x) (Ok y) → x ≡ y
told x y e = cc

pub returns-in-Frame-clause-advances : goal.returns-in-Frame-clause-advances
returns-in-Frame-clause-advances c =
    let s = c.self.inside in
    let old = c.args.self.now in
    let m = line_found s.features s.quit s.held.items c.args.piece.now old c.in_ok-made.field-0 c.in-Frame.made c.in-Frame.used c.self.view_is c.in_ok-made.ensures c.in-Frame.is in
    let going : old.quit ≡ false = ap (λ (line : Line). line.quit) (sym c.self.view_is) ∙ c.if-not-self.true in
    let none : length s.held.items ≡ 0 = grind (arith, nat_tests, c.if-is_empty.true, c.is_empty.ensures, s.held.ok) in
    let empty : old.held ≡ [] = ap (λ (line : Line). line.held) (sym c.self.view_is) ∙ none_left s.held.items none in
    lies_gives old c.hand_out-next.new.self c.args.piece.now c.in-Frame.made c.in-Frame.used c.hand_out-next.result empty going m c.hand_out-next.ensures

pub returns-in-Frame-clause-request : goal.returns-in-Frame-clause-request
returns-in-Frame-clause-request c n made e =
    let a = returns-in-Frame-clause-advances c in
    let is : c.hand_out-next.result ≡ nexts.Request made = ap (λ (x : ℕ × Next). x.1) (told (c.in-Frame.used, c.hand_out-next.result) (n, nexts.Request made) e) in
    gives_request a.0 c.hand_out-next.new.self made (subst (Gives a.0 c.hand_out-next.new.self) is a.2)

pub returns-in-Frame-clause-passed : goal.returns-in-Frame-clause-passed
returns-in-Frame-clause-passed c n made e =
    let a = returns-in-Frame-clause-advances c in
    let is : c.hand_out-next.result ≡ nexts.Request made = ap (λ (x : ℕ × Next). x.1) (told (c.in-Frame.used, c.hand_out-next.result) (n, nexts.Request made) e) in
    gives_other a.0 c.hand_out-next.new.self made (subst (Gives a.0 c.hand_out-next.new.self) is a.2)

pub returns-in-Frame-clause-reply : goal.returns-in-Frame-clause-reply
returns-in-Frame-clause-reply c n reply e =
    let s = c.self.inside in
    let m = line_found s.features s.quit s.held.items c.args.piece.now c.args.self.now c.in_ok-made.field-0 c.in-Frame.made c.in-Frame.used c.self.view_is c.in_ok-made.ensures c.in-Frame.is in
    let is : c.hand_out-next.result ≡ nexts.Refused reply = ap (λ (x : ℕ × Next). x.1) (told (c.in-Frame.used, c.hand_out-next.result) (n, nexts.Refused reply) e) in
    hands_reply c.args.self.now c.hand_out-next.new.self c.in-Frame.made c.hand_out-next.result reply m.spells c.hand_out-next.ensures is

pub returns-clause-all : goal.returns-clause-all
returns-clause-all c n missing e =
    let same = told (c.in_ok-taken.taken, c.next_request-next.result) (n, nexts.More missing) e in
    let is : c.next_request-next.result ≡ nexts.More missing = ap (λ (x : ℕ × Next). x.1) same in
    let taken : c.in_ok-taken.taken ≡ n = ap (λ (x : ℕ × Next). x.0) same in
    sym taken ∙ more_takes_all c.args.self.now c.feed.new.self c.next_request-next.new.self c.args.piece.now c.in_ok-taken.taken missing c.in_ok-taken.ensures.fed
    (subst (Gives c.feed.new.self c.next_request-next.new.self) is c.next_request-next.ensures.gives)
