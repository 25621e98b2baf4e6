-- When components are where the definition has them.
use Rattle.std.specs.Prelude.{◌≡◌, ◌+◌, ℕ, List, map}
use Rattle.cp_model.specs.Types.{GlobalScope}
use Rattle.cp_model_program.specs.Compile as code
use Rattle.cp_model_program.specs.Compile.{monitors_at, processes_at, sum_words, waiting_words}
use Rattle.cp_model_program.specs.Layout.{component_words}
use Rattle.cp_program.specs.View as view
use Rattle.cp_model_program.specs.Programs.{StartPlan}
use Rattle.cp_compile.specs.declared.layout.MonitorLayout.{MonitorLayout}
use Rattle.cp_compile.specs.declared.layout.ProcessLayout.{ProcessLayout}

pub record MonitorsLie (plans : List StartPlan) (g : GlobalScope) (m : MonitorLayout) (xs : List code.Owner) : Type 0 where
  pub monitors : map (view.monitor plans) m.monitors.items ≡ monitors_at g 0 xs
  pub words : m.words ≡ sum_words (component_words g) xs

pub record ProcessesLie (plans : List StartPlan) (g : GlobalScope) (start : ℕ) (p : ProcessLayout) (xs : List code.Owner)
    : Type 0 where
  pub processes : map (view.process plans) p.processes.items ≡ processes_at g start xs
  pub end : p.end ≡ start + sum_words (waiting_words g) xs
