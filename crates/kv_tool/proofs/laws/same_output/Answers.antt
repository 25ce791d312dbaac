use Rattle.kv_tool.specs.Outcomes.{IsMoment}
use Rattle.kv_tool.proofs.Alike.{same_output}
use Rattle.kv_tool.proofs.laws.same_output.Goals as goal

pub returns : goal.returns
returns c now input before copy told others may can seen other exit end one two fits clear also =
    same_output (IsMoment told may) (IsMoment others can) now input before copy seen other exit end one two fits clear also
