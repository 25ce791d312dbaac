use Rattle.std.proofs.Common.{◌≡◌, ℕ, ◌+◌, length, refl, sym, ◌∙◌, ap, subst, arith}
use Rattle.std.proofs.lemmas.Result.{IfOk-weaker}
use Rattle.magma_disk.specs.Moments.{Throughout}
use Rattle.magma_store.specs.declared.meta.Meta.{Meta}
use Rattle.magma_store.specs.declared.meta.Numbers.{Numbers}
use Rattle.magma_store.specs.Changes.{Sets, AreNumbers, AreWords, change_bytes}
use Rattle.magma_store.specs.Held.{numbers_of}
use Rattle.magma_store.specs.Journal.{piece_bytes}
use Rattle.magma_store.specs.Layout.{sets_size, LaysNumbers}
use Rattle.magma_store.specs.Store.{Shown, IsOpen, Either, promised}
use Rattle.magma_store.proofs.Storings.{IsBased, based, stays_either, piece_len}
use Rattle.magma_store.proofs.Writings.{promised_meta, promise_moments, promise_open}
use Rattle.magma_store.proofs.store.Store.promise.Goals as goal

pub returns-then-self-gt-FILLED_LIMIT-clause-any_moment : goal.returns-then-self-gt-FILLED_LIMIT-clause-any_moment
returns-then-self-gt-FILLED_LIMIT-clause-any_moment g c = λ held is.
    let store = c.args.self.now in
    let states = g.D.Disk.states in
    (store.layout + sets_size, refl, stays_either held store.spots store.layout (states store.disk) _ (promised c.args.term held) _ (based states held store is) refl)

pub returns-in_err-piece-clause-any_moment : goal.returns-in_err-piece-clause-any_moment
returns-in_err-piece-clause-any_moment g c = λ held is.
    let store = c.args.self.now in
    let states = g.D.Disk.states in
    (store.layout + sets_size, refl, stays_either held store.spots store.layout (states store.disk) _ (promised c.args.term held) _ (based states held store is) refl)

pub returns-clause-any_moment : goal.returns-clause-any_moment
returns-clause-any_moment g c = λ held is.
    let S = Shown g.row.D.Denot in
    let states = g.D.Disk.states in
    let inside = c.self.inside in
    let seen : S = record { disk = inside.disk; spots = inside.spots; meta = inside.meta; layout = inside.filled } in
    let term = c.args.term in
    let now = states c.add.new.self.disk in
    let n = numbers_of (promised_meta term seen.meta) in
    let told = change_bytes (Sets n) in
    let words : AreWords (numbers_of seen.meta) = subst AreWords c.numbers_of-numbers.ensures.is c.numbers_of-numbers.ensures.words in
    let fits : AreWords n = record { promise = omega arith; accepted = words.accepted; incarnation = words.incarnation; length = words.length; cas = words.cas } in
    let same : inside.meta ≡ c.args.self.now.meta = ap (λ (s : S). s.meta) c.self.view_is in
    let numbers : AreNumbers n = subst (λ (m : Meta). AreNumbers (numbers_of (promised_meta term m))) (sym same) (record { promised = c.requires.term; term = c.requires.accepted }) in
    let spelled : c.in_ok-piece.piece.items ≡ piece_bytes told = c.in_ok-piece.ensures ∙ ap (λ (x : Numbers). piece_bytes (change_bytes (Sets (record x { promise = term })))) c.numbers_of-numbers.ensures.is in
    let opened : IsOpen states held seen = subst (IsOpen states held) (sym c.self.view_is) is in
    let b : IsBased held seen.spots seen.layout (states seen.disk) = based states held seen opened in
    subst (λ (s : S). (after : ℕ) × LaysNumbers s.layout after × Throughout (Either held s.layout (promised term held) after) (states s.disk) now) c.self.view_is
    (promise_moments term seen.meta held seen.spots seen.layout (states seen.disk) opened.meta (numbers, fits) b now
    (c.add.ensures.any_moment b.records told b.rests b.base.size (omega arith) (c.as_slice.ensures.value ∙ spelled)))

pub returns-clause-done : goal.returns-clause-done
returns-clause-done g c =
    let S = Shown g.row.D.Denot in
    let states = g.D.Disk.states in
    let inside = c.self.inside in
    let seen : S = record { disk = inside.disk; spots = inside.spots; meta = inside.meta; layout = inside.filled } in
    let term = c.args.term in
    let now = c.add.new.self in
    let n = numbers_of (promised_meta term seen.meta) in
    let told = change_bytes (Sets n) in
    let words : AreWords (numbers_of seen.meta) = subst AreWords c.numbers_of-numbers.ensures.is c.numbers_of-numbers.ensures.words in
    let fits : AreWords n = record { promise = omega arith; accepted = words.accepted; incarnation = words.incarnation; length = words.length; cas = words.cas } in
    let same : inside.meta ≡ c.args.self.now.meta = ap (λ (s : S). s.meta) c.self.view_is in
    let numbers : AreNumbers n = subst (λ (m : Meta). AreNumbers (numbers_of (promised_meta term m))) (sym same) (record { promised = c.requires.term; term = c.requires.accepted }) in
    let spelled : c.in_ok-piece.piece.items ≡ piece_bytes told = c.in_ok-piece.ensures ∙ ap (λ (x : Numbers). piece_bytes (change_bytes (Sets (record x { promise = term })))) c.numbers_of-numbers.ensures.is in
    let piece : c.as_slice.result.now ≡ piece_bytes told = c.as_slice.ensures.value ∙ spelled in
    let rest = c.add.ensures.rest in
    let len : length c.as_slice.result.now ≡ 50 = ap length piece ∙ piece_len told in
    IfOk-weaker c.add.result _ _
    (λ _ added held is.
    let opened : IsOpen states held seen = subst (IsOpen states held) (sym c.self.view_is) is in
    let b : IsBased held seen.spots seen.layout (states seen.disk) = based states held seen opened in
    promise_open term seen.meta held seen.spots seen.layout (states seen.disk) opened.meta (numbers, fits) b states now
    (added b.records told b.rests b.base.size (omega arith) piece)
    (ap (λ (s : S). s.meta) rest)
    (ap (λ (s : S). s.layout) rest ∙ ap (λ k. seen.layout + k) len)
    (ap (λ (s : S). s.spots) rest))
    c.add.ensures.added
