-- Two runs over the same input come to the same.
use Rattle.std.proofs.Common.{◌≡◌, ◌≢◌, ℕ, ◌+◌, ◌-◌, ◌^◌, ◌<◌, ◌≤◌, Bool, true, false, List, [], ◌∷◌, ◌++◌, length, take, drop, Option, Some, Result, inl, inr, ◌⊎◌, refl, sym, ap, subst, ◌∙◌, append_assoc, append-nil, take-append-drop, length-append, arith}
use Rattle.std.specs.List.{flat_map}
use Rattle.std.specs.Io.KnownBytes.{append_known, IsAtEnd}
use Rattle.std.proofs.lemmas.List.{take_at, drop_at, take-take}
use Rattle.kv_edge.specs.Fields.{IsBytes}
use Rattle.kv_edge.specs.Edge.{TookAll, PutAll}
use Rattle.kv_edge.proofs.Fields.{IsBytes-drop}
use Rattle.kv_edge.proofs.Known.{took_known}
use Rattle.kv_frame.specs.declared.frame.Frame.{Frame}
use Rattle.kv_frame.specs.declared.frame.Side.TheVariants.{Requests}
use Rattle.kv_frame.specs.declared.judging.Fault.{Fault}
use Rattle.kv_frame.specs.declared.judging.Judged.TheVariants as judged
use Rattle.kv_frame.specs.Grammar.{spelling}
use Rattle.kv_frame.specs.Judging.{Lacks, IsBad}
use Rattle.kv_frame.proofs.Growing.{still_bad}
use Rattle.kv_frame.proofs.Unique.{one_judgement, lacking_not_bad}
use Rattle.kv_session.specs.Cutting.{IsRead, IsDrained}
use Rattle.kv_session.proofs.CuttingLaws.{one_reading, lacking_begins_none, bad_begins_none}
use Rattle.kv_tool.specs.declared.exit.Exit.{Exit}
use Rattle.kv_tool.specs.declared.exit.Exit.TheVariants as exits
use Rattle.kv_tool.specs.declared.piping.TheConstants.{INPUT_LIMIT}
use Rattle.kv_session.specs.Weaving.{output, quit_came}
use Rattle.kv_session.specs.Cutting.{at_start}
use Rattle.kv_session.proofs.Weaving.{read_further}
use Rattle.vb_log.specs.Content.{Content}
use Rattle.copy_model.specs.declared.outcome.VbFault.{VbFault}
use Rattle.copy_model.specs.Copies.{Copy}
use Rattle.kv_tool.specs.Course.{Knowledge, IsAt, RoseBy, IsFlushed}
use Rattle.kv_tool.specs.Outcomes.{Seen, Run, IsRun, IsServed, IsOpen, Left, Outcome}
use Rattle.kv_tool.specs.Alike.{run_of, AreGiven, IsClear}
use Rattle.kv_tool.proofs.Same.{same_served, ends_beyond}

-- why a run ended that left these bytes
abbrev Stops : Exit → Run → List ℕ → Type 0
Stops exits.Done run left = (quit_came run.frames ≡ true) ⊎ ((run.rest ≡ []) × (left ≡ []))
Stops exits.TooLong run left = (length run.input ≡ INPUT_LIMIT) × IsOpen run × (0 < length left)
Stops (exits.BadFrame place) run left =
    (offset : ℕ) × (fault : Fault) × (quit_came run.frames ≡ false) × IsBad Requests run.rest offset fault × (place + length run.rest ≡ length run.input + offset)
Stops (exits.Cut count) run left = (left ≡ []) × IsOpen run × (count ≡ length run.rest) × (0 < count)
Stops exits.Usage run left = ⊥
Stops exits.ReadFault run left = ⊥
Stops exits.WriteFault run left = ⊥
Stops exits.NoMemory run left = ⊥
Stops exits.DiskFault run left = ⊥
Stops (exits.Damaged disk place found expected) run left = ⊥
Stops (exits.Spent found) run left = ⊥
Stops (exits.OtherChain disk) run left = ⊥
Stops (exits.Full needed free) run left = ⊥

-- a run over this input that nothing disturbed
record Ran (now : ℕ) (input before : List ℕ) (copy : Copy Content ℕ) (seen : Seen) (exit : Exit) (run : Run) : Type 0 where
  left : List ℕ
  after : Copy Content ℕ
  all : input ≡ run.input ++ left
  small : length run.input ≤ INPUT_LIMIT
  served : IsServed now run.input run.frames run.rest run.replies (IsAt copy 0) (IsAt after 0)
  wrote : seen.written_now ≡ Some (before ++ output run.frames run.replies)
  stops : Stops exit run left

-- ---- what an outcome says where the input is told

-- it began with a copy and came to one, and no fault was counted
record IsServedWell (now : ℕ) (run : Run) (copy : Copy Content ℕ) : Type 0 where
  after : Copy Content ℕ
  served : IsServed now run.input run.frames run.rest run.replies (IsAt copy 0) (IsAt after 0)

served_to : (now : ℕ) (run : Run) (copy after : Copy Content ℕ) (more : ℕ) → IsServed now run.input run.frames run.rest run.replies (IsAt copy 0) run.end → run.end ≡ IsAt after (0 + more) → more ≡ 0 → IsServedWell now run copy
served_to now run copy after more s is none = record {
  after = after;
  served = subst (λ (k : Knowledge). IsServed now run.input run.frames run.rest run.replies (IsAt copy 0) k) (is ∙ ap (λ (n : ℕ). IsAt after (0 + n)) none) s;
}

served_at : (M : ℕ → Type 0) (now : ℕ) (seen : Seen) (run : Run) (copy : Copy Content ℕ) → IsRun M seen.disk_before run → run.now ≡ now → run.begin ≡ IsAt copy 0 → IsServed now run.input run.frames run.rest run.replies (IsAt copy 0) run.end
served_at M now seen run copy is at begins =
    subst (λ (k : Knowledge). IsServed now run.input run.frames run.rest run.replies k run.end) begins (subst (λ (n : ℕ). IsServed n run.input run.frames run.rest run.replies run.begin run.end) at is.served)

-- faults that were counted didn't come where the count stayed below its end
none_came : (before now count : ℕ) → now ≡ before → before < 2 ^ 64 - 1 → RoseBy count before now → count ≡ 0
none_came before now count calm counting rose = omega (arith, calm, counting, rose)

left_well : (now : ℕ) (input before : List ℕ) (copy : Copy Content ℕ) (seen : Seen) (exit : Exit) (run : Run) → IsClear now input before copy seen exit run → IsServed now run.input run.frames run.rest run.replies (IsAt copy 0) run.end → Left seen run.end
    → IsServedWell now run copy
left_well now input before copy seen exit run clear s left =
    let b = ends_beyond now at_start copy 0 run.frames run.replies run.end s.answered in
    let at : Left seen (IsAt b.copy (0 + b.more)) = subst (Left seen) b.is left in
    let none : 0 + b.more ≡ 0 = none_came seen.faults_before seen.faults_now (0 + b.more) clear.calm clear.counting at.1 in
    served_to now run copy b.copy b.more s b.is (omega (arith, none))

flushed_well : (now : ℕ) (input before : List ℕ) (copy : Copy Content ℕ) (seen : Seen) (exit : Exit) (run : Run) (told : Result ℕ VbFault) (last : Knowledge) → IsClear now input before copy seen exit run
    → IsServed now run.input run.frames run.rest run.replies (IsAt copy 0) run.end → IsFlushed run.end told last → Left seen last → IsServedWell now run copy
flushed_well now input before copy seen exit run told last clear s puts left =
    let b = ends_beyond now at_start copy 0 run.frames run.replies run.end s.answered in
    let goes : IsFlushed (IsAt b.copy (0 + b.more)) told last = subst (λ (k : Knowledge). IsFlushed k told last) b.is puts in
    let at : Left seen (IsAt goes.0 (0 + b.more + goes.1)) = subst (Left seen) goes.2 left in
    let none : 0 + b.more + goes.1 ≡ 0 = none_came seen.faults_before seen.faults_now (0 + b.more + goes.1) clear.calm clear.counting at.1 in
    served_to now run copy b.copy b.more s b.is (omega (arith, none))

wrote_at : (seen : Seen) (before out : List ℕ) → seen.written_before ≡ Some before → PutAll seen.written_before seen.written_now out → seen.written_now ≡ Some (before ++ out)
wrote_at seen before out told put = put ∙ ap (λ (b : Option (List ℕ)). append_known b out) told

left_at : (seen : Seen) (input taken : List ℕ) → seen.left_before ≡ Some input → TookAll seen.left_before seen.left_now taken → (left : List ℕ) × (seen.left_now ≡ Some left) × (input ≡ taken ++ left)
left_at seen input taken told took = took_known input seen.left_now taken (subst (λ (b : Option (List ℕ)). TookAll b seen.left_now taken) told took)

at_end : (seen : Seen) (left : List ℕ) → seen.left_now ≡ Some left → IsAtEnd seen.left_now → left ≡ []
at_end seen left is end = subst IsAtEnd is end

ran : (M : ℕ → Type 0) (now : ℕ) (input before : List ℕ) (copy : Copy Content ℕ) (seen : Seen) (exit : Exit) (o : Outcome M seen exit) → IsClear now input before copy seen exit (run_of M seen exit o) → Ran now input before copy seen exit (run_of M seen exit o)
ran M now input before copy seen exits.Done (told, comes, closes) clear =
    let run : Run = closes.run in
    let t = left_at seen input run.input clear.left closes.took in
    let s = served_at M now seen run copy closes.is clear.at_moment clear.begins in
    let well = flushed_well now input before copy seen exits.Done run told closes.last clear s closes.puts closes.left in
    record {
      left = t.0;
      after = well.after;
      all = t.2;
      small = closes.is.small;
      served = well.served;
      wrote = wrote_at seen before (output run.frames run.replies) clear.written closes.wrote;
      stops = elim closes.finished [ inl quit ↦ inl quit | inr (none, end) ↦ inr (none, at_end seen t.0 t.1 end) ];
    }
ran M now input before copy seen exits.TooLong (run, more, is, whole, took, opened, wrote, known) clear =
    let t = left_at seen input (run.input ++ more ∷ []) clear.left took in
    let well = left_well now input before copy seen exits.TooLong run clear (served_at M now seen run copy is clear.at_moment clear.begins) known in
    record {
      left = more ∷ t.0;
      after = well.after;
      all = t.2 ∙ append_assoc run.input (more ∷ []) t.0;
      small = is.small;
      served = well.served;
      wrote = wrote_at seen before (output run.frames run.replies) clear.written wrote;
      stops = (whole, opened, omega arith);
    }
ran M now input before copy seen (exits.BadFrame place) (run, offset, fault, is, took, going, bad, at, wrote, known) clear =
    let t = left_at seen input run.input clear.left took in
    let well = left_well now input before copy seen (exits.BadFrame place) run clear (served_at M now seen run copy is clear.at_moment clear.begins) known in
    record {
      left = t.0;
      after = well.after;
      all = t.2;
      small = is.small;
      served = well.served;
      wrote = wrote_at seen before (output run.frames run.replies) clear.written wrote;
      stops = (offset, fault, going, bad, at);
    }
ran M now input before copy seen (exits.Cut count) (run, is, took, end, opened, size, some, wrote, known) clear =
    let t = left_at seen input run.input clear.left took in
    let well = left_well now input before copy seen (exits.Cut count) run clear (served_at M now seen run copy is clear.at_moment clear.begins) known in
    record {
      left = t.0;
      after = well.after;
      all = t.2;
      small = is.small;
      served = well.served;
      wrote = wrote_at seen before (output run.frames run.replies) clear.written wrote;
      stops = (at_end seen t.0 t.1 end, opened, size, some);
    }
ran M now input before copy seen exits.Usage o clear = absurd clear.undisturbed
ran M now input before copy seen exits.ReadFault o clear = absurd clear.undisturbed
ran M now input before copy seen exits.WriteFault o clear = absurd clear.undisturbed
ran M now input before copy seen exits.NoMemory o clear = absurd clear.undisturbed
ran M now input before copy seen exits.DiskFault o clear = absurd clear.undisturbed
ran M now input before copy seen (exits.Damaged disk place found expected) o clear = absurd clear.undisturbed
ran M now input before copy seen (exits.Spent found) o clear = absurd clear.undisturbed
ran M now input before copy seen (exits.OtherChain disk) o clear = absurd clear.undisturbed
ran M now input before copy seen (exits.Full needed free) o clear = absurd clear.undisturbed

-- ---- what is said of all the input

-- no byte is a whole header
none_lacks : (bytes : List ℕ) → bytes ≡ [] → Lacks Requests bytes 24
none_lacks bytes e = inl (omega arith, omega (arith, ap (λ (l : List ℕ). length l) e))

-- What an exit says of the frames and the rest of all the input.
abbrev Says : Exit → List Frame → List ℕ → List ℕ → Type 0
Says exits.Done frames rest input = (quit_came frames ≡ true) ⊎ (rest ≡ [])
Says (exits.BadFrame place) frames rest input =
    (offset : ℕ) × (fault : Fault) × (quit_came frames ≡ false) × IsBad Requests rest offset fault × (place + length rest ≡ length input + offset)
Says (exits.Cut count) frames rest input = (quit_came frames ≡ false) × ((n : ℕ) × Lacks Requests rest n) × (count ≡ length rest) × (0 < count)
Says exits.TooLong frames rest input = ⊥
Says exits.Usage frames rest input = ⊥
Says exits.ReadFault frames rest input = ⊥
Says exits.WriteFault frames rest input = ⊥
Says exits.NoMemory frames rest input = ⊥
Says exits.DiskFault frames rest input = ⊥
Says (exits.Damaged disk place found expected) frames rest input = ⊥
Says (exits.Spent found) frames rest input = ⊥
Says (exits.OtherChain disk) frames rest input = ⊥
Says (exits.Full needed free) frames rest input = ⊥

drains : (exit : Exit) (frames : List Frame) (rest input : List ℕ) → Says exit frames rest input → IsDrained frames rest
drains exits.Done frames rest input (inl quit) = inl quit
drains exits.Done frames rest input (inr none) = inr (lacking_begins_none rest 24 (none_lacks rest none))
drains (exits.BadFrame place) frames rest input (offset, fault, going, bad, at) = inr (bad_begins_none rest offset fault bad)
drains (exits.Cut count) frames rest input (going, lacks, size, some) = inr (lacking_begins_none rest lacks.0 lacks.1)
drains exits.TooLong frames rest input says = absurd says
drains exits.Usage frames rest input says = absurd says
drains exits.ReadFault frames rest input says = absurd says
drains exits.WriteFault frames rest input says = absurd says
drains exits.NoMemory frames rest input says = absurd says
drains exits.DiskFault frames rest input says = absurd says
drains (exits.Damaged disk place found expected) frames rest input says = absurd says
drains (exits.Spent found) frames rest input says = absurd says
drains (exits.OtherChain disk) frames rest input says = absurd says
drains (exits.Full needed free) frames rest input says = absurd says

not_both : (b : Bool) → b ≡ true → b ≡ false → ⊥
not_both b is isnt = let e : true ≡ false = sym is ∙ isnt in absurd (cc)

one_place : (rest : List ℕ) (o p : ℕ) (f g : Fault) → IsBytes rest → IsBad Requests rest o f → IsBad Requests rest p g → o ≡ p
one_place rest o p f g fits bad worse = let e : judged.Bad o f ≡ judged.Bad p g = one_judgement Requests rest (judged.Bad o f) (judged.Bad p g) fits bad worse in cc

-- of the same frames and rest one thing is said
says_one : (exit end : Exit) (frames : List Frame) (rest input : List ℕ) → IsBytes rest → Says exit frames rest input → Says end frames rest input → exit ≡ end
says_one exits.Done exits.Done frames rest input fits a b = refl
says_one exits.Done (exits.BadFrame q) frames rest input fits (inl quit) (p, g, going, bad, at) = absurd (not_both (quit_came frames) quit going)
says_one exits.Done (exits.BadFrame q) frames rest input fits (inr none) (p, g, going, bad, at) = absurd (lacking_not_bad Requests rest 24 p g (none_lacks rest none) bad)
says_one exits.Done (exits.Cut n) frames rest input fits (inl quit) (going, lacks, size, some) = absurd (not_both (quit_came frames) quit going)
says_one exits.Done (exits.Cut n) frames rest input fits (inr none) (going, lacks, size, some) = absurd (omega (arith, size, some, ap (λ (l : List ℕ). length l) none))
says_one (exits.BadFrame q) exits.Done frames rest input fits (p, g, going, bad, at) (inl quit) = absurd (not_both (quit_came frames) quit going)
says_one (exits.BadFrame q) exits.Done frames rest input fits (p, g, going, bad, at) (inr none) = absurd (lacking_not_bad Requests rest 24 p g (none_lacks rest none) bad)
says_one (exits.BadFrame q) (exits.BadFrame r) frames rest input fits (o, f, going, bad, at) (p, g, also, worse, there) =
    let same : o ≡ p = one_place rest o p f g fits bad worse in
    ap exits.BadFrame (omega (arith, same, at, there))
says_one (exits.BadFrame q) (exits.Cut n) frames rest input fits (p, g, going, bad, at) (also, lacks, size, some) = absurd (lacking_not_bad Requests rest lacks.0 p g lacks.1 bad)
says_one (exits.Cut n) exits.Done frames rest input fits (going, lacks, size, some) (inl quit) = absurd (not_both (quit_came frames) quit going)
says_one (exits.Cut n) exits.Done frames rest input fits (going, lacks, size, some) (inr none) = absurd (omega (arith, size, some, ap (λ (l : List ℕ). length l) none))
says_one (exits.Cut n) (exits.BadFrame q) frames rest input fits (going, lacks, size, some) (p, g, also, bad, at) = absurd (lacking_not_bad Requests rest lacks.0 p g lacks.1 bad)
says_one (exits.Cut n) (exits.Cut m) frames rest input fits (going, lacks, size, some) (also, few, long, more) = ap exits.Cut (size ∙ sym long)
says_one exits.TooLong end frames rest input fits a b = absurd a
says_one exits.Usage end frames rest input fits a b = absurd a
says_one exits.ReadFault end frames rest input fits a b = absurd a
says_one exits.WriteFault end frames rest input fits a b = absurd a
says_one exits.NoMemory end frames rest input fits a b = absurd a
says_one exits.DiskFault end frames rest input fits a b = absurd a
says_one (exits.Damaged disk place found expected) end frames rest input fits a b = absurd a
says_one (exits.Spent found) end frames rest input fits a b = absurd a
says_one (exits.OtherChain disk) end frames rest input fits a b = absurd a
says_one (exits.Full needed free) end frames rest input fits a b = absurd a
says_one exits.Done exits.TooLong frames rest input fits a b = absurd b
says_one exits.Done exits.Usage frames rest input fits a b = absurd b
says_one exits.Done exits.ReadFault frames rest input fits a b = absurd b
says_one exits.Done exits.WriteFault frames rest input fits a b = absurd b
says_one exits.Done exits.NoMemory frames rest input fits a b = absurd b
says_one exits.Done exits.DiskFault frames rest input fits a b = absurd b
says_one exits.Done (exits.Damaged disk place found expected) frames rest input fits a b = absurd b
says_one exits.Done (exits.Spent found) frames rest input fits a b = absurd b
says_one exits.Done (exits.OtherChain disk) frames rest input fits a b = absurd b
says_one exits.Done (exits.Full needed free) frames rest input fits a b = absurd b
says_one (exits.BadFrame q) exits.TooLong frames rest input fits a b = absurd b
says_one (exits.BadFrame q) exits.Usage frames rest input fits a b = absurd b
says_one (exits.BadFrame q) exits.ReadFault frames rest input fits a b = absurd b
says_one (exits.BadFrame q) exits.WriteFault frames rest input fits a b = absurd b
says_one (exits.BadFrame q) exits.NoMemory frames rest input fits a b = absurd b
says_one (exits.BadFrame q) exits.DiskFault frames rest input fits a b = absurd b
says_one (exits.BadFrame q) (exits.Damaged disk place found expected) frames rest input fits a b = absurd b
says_one (exits.BadFrame q) (exits.Spent found) frames rest input fits a b = absurd b
says_one (exits.BadFrame q) (exits.OtherChain disk) frames rest input fits a b = absurd b
says_one (exits.BadFrame q) (exits.Full needed free) frames rest input fits a b = absurd b
says_one (exits.Cut n) exits.TooLong frames rest input fits a b = absurd b
says_one (exits.Cut n) exits.Usage frames rest input fits a b = absurd b
says_one (exits.Cut n) exits.ReadFault frames rest input fits a b = absurd b
says_one (exits.Cut n) exits.WriteFault frames rest input fits a b = absurd b
says_one (exits.Cut n) exits.NoMemory frames rest input fits a b = absurd b
says_one (exits.Cut n) exits.DiskFault frames rest input fits a b = absurd b
says_one (exits.Cut n) (exits.Damaged disk place found expected) frames rest input fits a b = absurd b
says_one (exits.Cut n) (exits.Spent found) frames rest input fits a b = absurd b
says_one (exits.Cut n) (exits.OtherChain disk) frames rest input fits a b = absurd b
says_one (exits.Cut n) (exits.Full needed free) frames rest input fits a b = absurd b

-- ---- a run and more of the input behind it

-- a run that took as much as is taken, with more behind it
record TookLimit (exit : Exit) (run : Run) (left : List ℕ) : Type 0 where
  is : exit ≡ exits.TooLong
  whole : length run.input ≡ INPUT_LIMIT
  opened : IsOpen run
  more : 0 < length left

nothing_left : (bytes left : List ℕ) → left ≡ [] → bytes ≡ bytes ++ left
nothing_left bytes left e = sym (append-nil bytes) ∙ ap (λ (l : List ℕ). bytes ++ l) (sym e)

says_all : (exit : Exit) (run : Run) (left input : List ℕ) → input ≡ run.input ++ left → Stops exit run left → Says exit run.frames (run.rest ++ left) input ⊎ TookLimit exit run left
says_all exits.Done run left input all (inl quit) = inl (inl quit)
says_all exits.Done run left input all (inr (none, end)) = inl (inr (sym (nothing_left run.rest left end) ∙ none))
says_all (exits.BadFrame place) run left input all (offset, fault, going, bad, at) =
    inl (
      offset,
      fault,
      going,
      still_bad Requests run.rest left offset fault bad,
      omega (arith, at, length-append run.rest left, length-append run.input left, ap (λ (l : List ℕ). length l) all),
    )
says_all (exits.Cut count) run left input all (end, opened, size, some) =
    let same = nothing_left run.rest left end in
    inl (
      opened.no_quit,
      (opened.lacking.0, subst (λ (l : List ℕ). Lacks Requests l opened.lacking.0) same opened.lacking.1),
      size ∙ ap (λ (l : List ℕ). length l) same,
      some,
    )
says_all exits.TooLong run left input all (whole, opened, more) = inr (record { is = refl; whole = whole; opened = opened; more = more })
says_all exits.Usage run left input all stops = absurd stops
says_all exits.ReadFault run left input all stops = absurd stops
says_all exits.WriteFault run left input all stops = absurd stops
says_all exits.NoMemory run left input all stops = absurd stops
says_all exits.DiskFault run left input all stops = absurd stops
says_all (exits.Damaged disk place found expected) run left input all stops = absurd stops
says_all (exits.Spent found) run left input all stops = absurd stops
says_all (exits.OtherChain disk) run left input all stops = absurd stops
says_all (exits.Full needed free) run left input all stops = absurd stops

reads_further : (run : Run) (more input : List ℕ) → IsRead run.input run.frames run.rest → input ≡ run.input ++ more → IsRead input run.frames (run.rest ++ more)
reads_further run more input read all = subst (λ (l : List ℕ). IsRead l run.frames (run.rest ++ more)) (sym all) (read_further run.input run.frames run.rest more read)

served_further : (now : ℕ) (run : Run) (copy after : Copy Content ℕ) (more input : List ℕ) → IsServed now run.input run.frames run.rest run.replies (IsAt copy 0) (IsAt after 0) → input ≡ run.input ++ more
    → IsServed now input run.frames (run.rest ++ more) run.replies (IsAt copy 0) (IsAt after 0)
served_further now run copy after more input s all = record {
  read = reads_further run more input s.read all;
  answered = s.answered;
}

rest_bytes : (input : List ℕ) (frames : List Frame) (rest : List ℕ) → IsBytes input → IsRead input frames rest → IsBytes rest
rest_bytes input frames rest fits read =
    let front : List ℕ = flat_map spelling frames in
    subst IsBytes (ap (drop (length front)) read.spelled ∙ drop_at front rest (length front) refl) (IsBytes-drop (length front) input fits)

-- ---- one run took as much as is taken, and the other didn't

front_is : (run : Run) (left input : List ℕ) → input ≡ run.input ++ left → take (length run.input) input ≡ run.input
front_is run left input all = ap (take (length run.input)) all ∙ take_at run.input left (length run.input) refl

-- of two runs the longer begins as the shorter
longer : (f g : Run) (left more input : List ℕ) → input ≡ f.input ++ left → input ≡ g.input ++ more → length f.input ≤ length g.input → g.input ≡ f.input ++ drop (length f.input) g.input
longer f g left more input all also le =
    let front : take (length f.input) g.input ≡ f.input =
    ap (take (length f.input)) (sym (front_is g more input also)) ∙ take-take (length f.input) (length g.input) input le ∙ front_is f left input all in
    sym (take-append-drop (length f.input) g.input) ∙ ap (λ (l : List ℕ). l ++ drop (length f.input) g.input) front

too_few : (f g : Run) (left more input : List ℕ) → input ≡ f.input ++ left → input ≡ g.input ++ more → length f.input ≤ length g.input → 0 < length more → left ≡ [] → ⊥
too_few f g left more input all also le some none =
    omega (
      arith,
      le,
      some,
      ap (λ (l : List ℕ). length l) all,
      ap (λ (l : List ℕ). length l) also,
      length-append f.input left,
      length-append g.input more,
      ap (λ (l : List ℕ). length l) none,
    )

alone : (exit : Exit) (f g : Run) (left more input : List ℕ) → input ≡ f.input ++ left → input ≡ g.input ++ more → length f.input ≤ length g.input → IsRead f.input f.frames f.rest
    → IsRead g.input g.frames g.rest → Stops exit f left → exit ≢ exits.TooLong → IsOpen g → 0 < length more → ⊥
alone exits.Done f g left more input all also le s t (inl quit) other opened some =
    let z : List ℕ = drop (length f.input) g.input in
    let further = reads_further f z g.input s (longer f g left more input all also le) in
    let same = one_reading g.input f.frames g.frames (f.rest ++ z) g.rest further (inl quit) t (inr (lacking_begins_none g.rest opened.lacking.0 opened.lacking.1)) in
    not_both (quit_came g.frames) (ap quit_came (sym same.0) ∙ quit) opened.no_quit
alone exits.Done f g left more input all also le s t (inr (none, end)) other opened some = too_few f g left more input all also le some end
alone (exits.BadFrame place) f g left more input all also le s t (offset, fault, going, bad, at) other opened some =
    let z : List ℕ = drop (length f.input) g.input in
    let further = reads_further f z g.input s (longer f g left more input all also le) in
    let still : IsBad Requests (f.rest ++ z) offset fault = still_bad Requests f.rest z offset fault bad in
    let same =
    one_reading g.input f.frames g.frames (f.rest ++ z) g.rest further (inr (bad_begins_none (f.rest ++ z) offset fault still)) t (inr (lacking_begins_none g.rest opened.lacking.0 opened.lacking.1)) in
    lacking_not_bad Requests g.rest opened.lacking.0 offset fault opened.lacking.1 (subst (λ (l : List ℕ). IsBad Requests l offset fault) same.1 still)
alone (exits.Cut count) f g left more input all also le s t (end, closed, size, long) other opened some = too_few f g left more input all also le some end
alone exits.TooLong f g left more input all also le s t stops other opened some = other refl
alone exits.Usage f g left more input all also le s t stops other opened some = stops
alone exits.ReadFault f g left more input all also le s t stops other opened some = stops
alone exits.WriteFault f g left more input all also le s t stops other opened some = stops
alone exits.NoMemory f g left more input all also le s t stops other opened some = stops
alone exits.DiskFault f g left more input all also le s t stops other opened some = stops
alone (exits.Damaged disk place found expected) f g left more input all also le s t stops other opened some = stops
alone (exits.Spent found) f g left more input all also le s t stops other opened some = stops
alone (exits.OtherChain disk) f g left more input all also le s t stops other opened some = stops
alone (exits.Full needed free) f g left more input all also le s t stops other opened some = stops

-- what isn't said of a run that took as much as is taken
says_short : (exit : Exit) (frames : List Frame) (rest input : List ℕ) → Says exit frames rest input → exit ≢ exits.TooLong
says_short exit frames rest input says e = subst (λ (x : Exit). Says x frames rest input) e says

-- ---- two runs

-- both come to the same exit, and write the same
abbrev Alike : Seen → Seen → Exit → Exit → Type 0
Alike seen other exit end = (exit ≡ end) × (seen.written_now ≡ other.written_now)

both_say : (now : ℕ) (input before : List ℕ) (copy : Copy Content ℕ) (seen other : Seen) (exit end : Exit) (f g : Run) → IsBytes input → (a : Ran now input before copy seen exit f) → (b : Ran now input before copy other end g)
    → AreGiven f.replies → AreGiven g.replies → Says exit f.frames (f.rest ++ a.left) input → Says end g.frames (g.rest ++ b.left) input → Alike seen other exit end
both_say now input before copy seen other exit end f g fits a b given told s t =
    let one = served_further now f copy a.after a.left input a.served a.all in
    let two = served_further now g copy b.after b.left input b.served b.all in
    let same =
    same_served now input f.frames g.frames (f.rest ++ a.left) (g.rest ++ b.left) f.replies g.replies copy a.after b.after one (drains exit f.frames (f.rest ++ a.left) input s) two (drains end g.frames (g.rest ++ b.left) input t)
    given told in
    let moved : Says end f.frames (f.rest ++ a.left) input =
    subst (λ (r : List ℕ). Says end f.frames r input) (sym same.1) (subst (λ (fs : List Frame). Says end fs (g.rest ++ b.left) input) (sym same.0) t) in (
      says_one exit end f.frames (f.rest ++ a.left) input (rest_bytes input f.frames (f.rest ++ a.left) fits one.read) s moved,
      a.wrote ∙ ap (λ (out : List ℕ). Some (before ++ out)) same.2 ∙ sym b.wrote,
    )

both_long : (now : ℕ) (input before : List ℕ) (copy : Copy Content ℕ) (seen other : Seen) (exit end : Exit) (f g : Run) → (a : Ran now input before copy seen exit f) → (b : Ran now input before copy other end g) → AreGiven f.replies → AreGiven g.replies
    → TookLimit exit f a.left → TookLimit end g b.left → Alike seen other exit end
both_long now input before copy seen other exit end f g a b given told r u =
    let taken : f.input ≡ g.input = sym (front_is f a.left input a.all) ∙ ap (λ (n : ℕ). take n input) (r.whole ∙ sym u.whole) ∙ front_is g b.left input b.all in
    let two : IsServed now f.input g.frames g.rest g.replies (IsAt copy 0) (IsAt b.after 0) =
    subst (λ (l : List ℕ). IsServed now l g.frames g.rest g.replies (IsAt copy 0) (IsAt b.after 0)) (sym taken) b.served in
    let same =
    same_served now f.input f.frames g.frames f.rest g.rest f.replies g.replies copy a.after b.after a.served (inr (lacking_begins_none f.rest r.opened.lacking.0 r.opened.lacking.1)) two (inr (lacking_begins_none g.rest u.opened.lacking.0 u.opened.lacking.1))
    given told in (
      r.is ∙ sym u.is,
      a.wrote ∙ ap (λ (out : List ℕ). Some (before ++ out)) same.2 ∙ sym b.wrote,
    )

both_ran : (now : ℕ) (input before : List ℕ) (copy : Copy Content ℕ) (seen other : Seen) (exit end : Exit) (f g : Run) → IsBytes input → (a : Ran now input before copy seen exit f) → (b : Ran now input before copy other end g)
    → AreGiven f.replies → AreGiven g.replies → Alike seen other exit end
both_ran now input before copy seen other exit end f g fits a b given told =
    elim (says_all exit f a.left input a.all a.stops) [
      | inl s ↦ elim (says_all end g b.left input b.all b.stops) [
        | inl t ↦ both_say now input before copy seen other exit end f g fits a b given told s t
        | inr u ↦ absurd (alone exit f g a.left b.left input a.all b.all (omega (arith, a.small, u.whole)) a.served.read b.served.read a.stops (says_short exit f.frames (f.rest ++ a.left) input s) u.opened u.more)
      ]
      | inr r ↦ elim (says_all end g b.left input b.all b.stops) [
        | inl t ↦ absurd (alone end g f b.left a.left input b.all a.all (omega (arith, b.small, r.whole)) b.served.read a.served.read b.stops (says_short end g.frames (g.rest ++ b.left) input t) r.opened r.more)
        | inr u ↦ both_long now input before copy seen other exit end f g a b given told r u
      ]
    ]

pub same_output : (M N : ℕ → Type 0) (now : ℕ) (input before : List ℕ) (copy : Copy Content ℕ) (seen other : Seen) (exit end : Exit) (one : Outcome M seen exit) (two : Outcome N other end) → IsBytes input
    → IsClear now input before copy seen exit (run_of M seen exit one) → IsClear now input before copy other end (run_of N other end two) → (exit ≡ end) × (seen.written_now ≡ other.written_now)
same_output M N now input before copy seen other exit end one two fits clear also =
    both_ran now input before copy seen other exit end (run_of M seen exit one) (run_of N other end two) fits (ran M now input before copy seen exit one clear) (ran N now input before copy other end two also) clear.given also.given
