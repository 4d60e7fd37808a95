use Rattle.std.proofs.Common.{[]}
use Rattle.core_model.specs.Opened.{new_core, new_opening}
use Rattle.core_model.specs.OpenedLaws.{opened_core_stands, new_core_is_opened}
use Rattle.core_filter.specs.RunLaws.{run_whole, run_answers}
use Rattle.core_example.specs.ExampleRun.{example_run, example_end}
use Rattle.core_example.specs.ExampleRunLaws.{example_runs, kept_value_is_read, newest_value_is_read}
use Rattle.core_example.proofs.laws.an_example_run_is_answered.Goals as goal

pub returns-clause-runs : goal.returns-clause-runs
returns-clause-runs c = example_runs

pub returns-clause-stands : goal.returns-clause-stands
returns-clause-stands c = run_whole new_opening new_core example_end [] example_run (opened_core_stands new_opening new_core new_core_is_opened) example_runs

pub returns-clause-answers : goal.returns-clause-answers
returns-clause-answers c = run_answers new_opening new_core example_end [] example_run (opened_core_stands new_opening new_core new_core_is_opened) example_runs

pub returns-clause-kept : goal.returns-clause-kept
returns-clause-kept c = kept_value_is_read

pub returns-clause-newest : goal.returns-clause-newest
returns-clause-newest c = newest_value_is_read
