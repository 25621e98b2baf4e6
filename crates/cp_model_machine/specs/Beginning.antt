-- A process before it begins: its private state, and the parameters that wait for it among the
-- shared words.
--
-- In the meaning, the start of a process stores its parameters, and its task becomes what is left
-- to do. Here both happen at the end of the round. So what is claimed of a started process is
-- claimed of the private state that `begin_from` makes.
use Rattle.std.specs.Prelude.{◌≡◌, ◌≤◌, ◌+◌, ◌-◌, [], length, slice_get, Some}
use Rattle.cp_model.specs.Configurations as stage
use Rattle.cp_model.specs.States.{State}
use Rattle.cp_model_program.specs.Programs as code
use Rattle.cp_model_program.specs.Programs.{CodeUnit}
use Rattle.cp_model_machine.specs.PrivateStates.{NotBegun, PrivateState}
use Rattle.cp_model_machine.specs.KernelSteps.{Kernel}
use Rattle.cp_model_machine.specs.Machines.{begin_from}
use Rattle.cp_model_machine.specs.Addresses.{Ground, in_sight}
use Rattle.cp_model_machine.specs.PartOf.{DataMeans, RunsOn}

-- `o` is at the start of its body, and there is room for the body.
pub record AtStart (G : Ground) (o : PrivateState) : Type 0 where
  pub row : code.Process
  pub there : slice_get G.program.processes (G.p - 1) ≡ Some row
  pub unit : CodeUnit
  pub unit_there : slice_get G.program.units row.body ≡ Some unit
  pub counter : o.counter ≡ unit.start
  pub base : o.base ≡ row.words
  pub temp : o.temp ≡ 0
  pub component : o.component ≡ 0
  pub gate : o.gate ≡ 0
  pub frames : o.frames ≡ []
  pub output : o.output ≡ []
  pub consumed : o.consumed ≡ 0
  pub words_fit : row.words + unit.words ≤ G.own
  pub temps_fit : unit.temps ≤ length o.temps
  pub frames_fit : unit.frames ≤ o.limit

-- The words of an unstarted process have their start values. A fresh process will run as the
-- meaning says, once it has its parameters.
pub record Begins (G : Ground) (s : State) (k : Kernel) (o : PrivateState) : Type 0 where
  pub activity_is : o.activity ≡ NotBegun
  pub at_start : AtStart G o
  pub unstarted : s.status G.p ≡ stage.Unstarted → DataMeans G [] (in_sight G) s.store o.words
  pub fresh : s.status G.p ≡ stage.Fresh → RunsOn G s.store (begin_from G.program k o) (s.continuation G.p)
