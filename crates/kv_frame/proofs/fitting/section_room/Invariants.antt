use Rattle.std.proofs.Common.{◌≡◌, ◌<◌, ◌^◌, length, take}
use Rattle.std.specs.List.{AllByRecursion}
use Rattle.kv_frame.specs.Grammar.{section, ExtraFits}
use Rattle.kv_frame.proofs.fitting.section_room.Given as goal

-- the framing extras so far fit, with the length so far
abbrev pub invariant-loop-frame_extra : goal.invariant-loop-frame_extra
invariant-loop-frame_extra l = record {
  fit : AllByRecursion ExtraFits (take l.frame_extra-index l.extras);
  counted : l.total ≡ length (section (take l.frame_extra-index l.extras));
  short : l.total < 2 ^ 8;
}
