-- A later world has what an earlier one had.
use Rattle.std.specs.Prelude.{List, [], ◌++◌, refl}
use Rattle.std.proofs.Common.{sym, ◌∙◌, ap, append_assoc, append-nil}
use Rattle.vb_log.specs.Logs.{LogKind}
use Rattle.copy_model.specs.Copies.{LayoutKind}
use Rattle.world_model.specs.Worlds.{World, Step, Happens, Crashes, Opens, Run, Start, Then, posted, answers_in, GoesOnFrom, Remembers}

stays : {A : Type 0} (old : List A) → GoesOnFrom old old
stays old = ([], sym (append-nil old))

further : {A : Type 0} (a b c : List A) → GoesOnFrom a b → GoesOnFrom b c → GoesOnFrom a c
further a b c first next = (
  first.0 ++ next.0,
  next.1 ∙ ap (λ l. l ++ next.0) first.1 ∙ append_assoc a first.0 next.0,
)

-- a world has what it had one step before
one : {L Y : Type 0} {k : LogKind L} {y : LayoutKind Y} (v w : World L Y) → Step k y v w
    → Remembers v w
one v _ (Happens x c new told e up may goes) = record {
  chain = refl;
  number = refl;
  posts = (posted new, refl);
  answers = (answers_in told, refl);
}
one v _ (Crashes x c up) = record {
  chain = refl;
  number = refl;
  posts = stays v.posts;
  answers = stays v.answers;
}
one v _ (Opens x disk d torn luck down may laid) = record {
  chain = refl;
  number = refl;
  posts = stays v.posts;
  answers = stays v.answers;
}

-- and what it had before a run
pub remembers :
    {L Y : Type 0} {k : LogKind L} {y : LayoutKind Y} (s w : World L Y) → Run k y s w
    → Remembers s w
remembers s _ Start = record {
  chain = refl;
  number = refl;
  posts = stays s.posts;
  answers = stays s.answers;
}
remembers s w (Then {v = v} run last) =
    let before = remembers s v run in
    let now = one v w last in
    record {
      chain = now.chain ∙ before.chain;
      number = now.number ∙ before.number;
      posts = further s.posts v.posts w.posts before.posts now.posts;
      answers = further s.answers v.answers w.answers before.answers now.answers;
    }
