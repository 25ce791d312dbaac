use Rattle.world_model.proofs.Reporting.{lines_on, report_on}
use Rattle.world_model.proofs.reports.reports_are_of_runs.Goals as goal

pub returns : goal.returns
returns g c = record {
  lines = λ k y s script old new told run d. lines_on k y s script old told new d run;
  report = λ k y number script told end r. report_on k y number script told end r;
}
