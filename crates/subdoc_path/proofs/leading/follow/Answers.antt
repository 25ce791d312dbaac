use Rattle.std.proofs.Common.{◌≡◌, refl, sym, subst, ◌∙◌, List, ◌+◌, drop, rules}
use Rattle.json_model.specs.declared.TheConstants.{MOST_DEEP}
use Rattle.json_model.specs.declared.asked.Part.{Part}
use Rattle.json_model.specs.Follow.{asks}
use Rattle.json_spell.specs.Nodes.{kind_of}
use Rattle.json_walk.specs.Telling.{tree_kind}
use Rattle.subdoc_path.proofs.Following.{part_first, none_left}
use Rattle.subdoc_path.proofs.Placing.{Ongoing, ongoing_none, ongoing_step, ongoing_mismatch, ongoing_missing, ongoing_done}
use Rattle.subdoc_path.proofs.leading.follow.Goals as goal

pub loop-followed-init : goal.loop-followed-init
loop-followed-init c d is = ongoing_none c.args.text.now d c.args.parts.now c.root-at.result is (c.root-at.ensures.found MOST_DEEP d is)

pub returns-then-ne : goal.returns-then-ne
returns-then-ne c d is =
    let e = part_first c.args.parts.now c.args.parts.now c.loop-followed.followed c.index-parts-followed.result refl c.loop-followed-test.true c.index-parts-followed.is in
    let o = subst (λ (l : List Part). Ongoing c.args.text.now d c.args.parts.now c.loop-followed.followed c.loop-followed.at l) e (c.loop-followed.invariant d is) in
    let differs : c.kind_at.result ≡ c.kind_asked.result → ⊥ = search rules in
    ongoing_mismatch c.args.text.now d c.args.parts.now c.loop-followed.followed c.loop-followed.at c.index-parts-followed.result (drop (c.loop-followed.followed + 1) c.args.parts.now) o
    (λ k. differs (c.kind_at.ensures o.tree o.stands.place ∙ k ∙ sym c.kind_asked.ensures))

pub returns-in-None : goal.returns-in-None
returns-in-None c d is =
    let e = part_first c.args.parts.now c.args.parts.now c.loop-followed.followed c.index-parts-followed.result refl c.loop-followed-test.true c.index-parts-followed.is in
    let o = subst (λ (l : List Part). Ongoing c.args.text.now d c.args.parts.now c.loop-followed.followed c.loop-followed.at l) e (c.loop-followed.invariant d is) in
    let same : c.kind_at.result ≡ c.kind_asked.result = search rules in
    let k : tree_kind o.tree ≡ kind_of (asks c.index-parts-followed.result) = sym (c.kind_at.ensures o.tree o.stands.place) ∙ same ∙ c.kind_asked.ensures in
    ongoing_missing c.args.text.now d c.args.parts.now c.loop-followed.followed c.loop-followed.at c.index-parts-followed.result (drop (c.loop-followed.followed + 1) c.args.parts.now) o k
    (c.in-None.ensures o.tree o.stands.place k)

pub loop-followed-preserved : goal.loop-followed-preserved
loop-followed-preserved c d is =
    let e = part_first c.args.parts.now c.args.parts.now c.loop-followed.followed c.index-parts-followed.result refl c.loop-followed-test.true c.index-parts-followed.is in
    let o = subst (λ (l : List Part). Ongoing c.args.text.now d c.args.parts.now c.loop-followed.followed c.loop-followed.at l) e (c.loop-followed.invariant d is) in
    let same : c.kind_at.result ≡ c.kind_asked.result = search rules in
    let k : tree_kind o.tree ≡ kind_of (asks c.index-parts-followed.result) = sym (c.kind_at.ensures o.tree o.stands.place) ∙ same ∙ c.kind_asked.ensures in
    ongoing_step c.args.text.now d c.args.parts.now c.loop-followed.followed c.loop-followed.at c.index-parts-followed.result (drop (c.loop-followed.followed + 1) c.args.parts.now) c.in-Some.next o k
    (c.in-Some.ensures o.tree o.stands.place k)

pub returns : goal.returns
returns c d is =
    ongoing_done c.args.text.now d c.args.parts.now c.loop-followed.followed c.loop-followed.at (drop c.loop-followed.followed c.args.parts.now) (c.loop-followed.invariant d is)
    (none_left c.args.parts.now c.args.parts.now c.loop-followed.followed refl c.loop-followed-test.false)
