use Rattle.std.proofs.Common.{◌≡◌, ◌⊎◌, ◌↔◌, []}
use Rattle.std.proofs.lemmas.Result.{IfOk-weaker}
use Rattle.kv_session.specs.Session.{IsFull, Feeds}
use Rattle.kv_session.proofs.Feeding.{line_of, feeds_by, none_taken}
use Rattle.kv_session.proofs.session.Session.feed.Goals as goal

pub returns-clause-fed : goal.returns-clause-fed
returns-clause-fed c =
    let s = c.self.inside in
    feeds_by c.fill.result c.args.self.now s.features s.quit s.held.items c.args.piece.now c.fill.new.held.items (c.self.view_is) c.if-self.false c.fill.ensures.ok

pub returns-clause-none : goal.returns-clause-none
returns-clause-none c =
    let s = c.self.inside in
    let old = c.args.self.now in
    let piece = c.args.piece.now in
    let new = line_of s.features s.quit c.fill.new.held.items in
    IfOk-weaker c.fill.result (λ n. Feeds old piece new n) (λ n. (n ≡ 0) ↔ ((piece ≡ []) ⊎ IsFull old)) (λ n feeds. none_taken old new piece n feeds)
    (feeds_by c.fill.result old s.features s.quit s.held.items piece c.fill.new.held.items (c.self.view_is) c.if-self.false c.fill.ensures.ok)
