use Rattle.std.proofs.Common.{◌≡◌, ◌+◌}
use Rattle.cp_rounds.specs.InStates.{MakesRounds}
use Rattle.cp_trace.specs.Tracers.{form_of}
use Rattle.cp_execute_observe.specs.Writing.{Extends}
use Rattle.cp_execute_observe.proofs.Reported.{WritesPart}
use Rattle.cp_execute_observe.proofs.rounds.trace_rounds.Given as goal

-- so many rounds were made, and what is reported of them is written, or held
abbrev pub invariant-loop-round : goal.invariant-loop-round
invariant-loop-round g l = record {
  made : MakesRounds l.plan.turn.steps l._round l.fn.machine l.machine;
  count : l.machine.rounds ≡ l.fn.machine.rounds + l._round;
  form : form_of l.tracer ≡ form_of l.fn.tracer;
  reported : WritesPart (form_of l.fn.tracer) l.fn.machine.rounds l._round (g.W.Write.contents l.fn.out) (g.W.Write.contents l.out) l.buffer.items;
  written : Extends (g.W.Write.contents l.fn.out) (g.W.Write.contents l.out);
}
