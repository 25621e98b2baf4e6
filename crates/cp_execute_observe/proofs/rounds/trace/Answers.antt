use Rattle.std.proofs.Common.{◌≡◌, ◌∙◌, ◌+◌, ◌-◌, ℕ, OnOk, ap, arith, subst, sym}
use Rattle.cp_model_machine.specs.Machines as plain
use Rattle.cp_model.specs.States.{numbers_from}
use Rattle.cp_model.proofs.Results.{from_ok, if_ok}
use Rattle.cp_rounds.specs.InStates.{MakesRounds}
use Rattle.cp_rounds.specs.Views.{machine_of, processes_of}
use Rattle.cp_base_config.specs.declared.trace.TraceForm.{TraceForm}
use Rattle.cp_execute_observe.specs.Writing.{WritesRounds, unreported}
use Rattle.cp_execute_observe.proofs.RoundsMade.{more_made, rounds_count}
use Rattle.cp_execute_observe.proofs.rounds.trace.Goals as goal

pub trace_rounds-requires-clause-count : goal.trace_rounds-requires-clause-count
trace_rounds-requires-clause-count g c =
    let how = c.args.how.now in
    let old = c.args.machine.now in
    let n = c.min-unreported.result in
    let made = from_ok c.run.result (sym c.if-is_err.ensures.value) c.run.ensures.done in
    let none = c.requires.first in
    let count = ap (λ (m : plain.Machine). m.rounds) made ∙ rounds_count how.plan.turn.steps (numbers_from 1 (processes_of old)) n (machine_of old) in
    Prim.omega (arith, count, none)

pub returns-clause-state : goal.returns-clause-state
returns-clause-state g c =
    let how = c.args.how.now in
    let t = how.plan.turn.steps in
    let n = c.min-unreported.result in
    let first = from_ok c.run.result (sym c.if-is_err.ensures.value) c.run.ensures.state in
    let sum : n + (how.rounds - n) ≡ how.rounds = Prim.omega (arith, c.min-unreported.ensures) in
    if_ok c.trace_rounds.result
    (λ done reported.
    let all = more_made t n (how.rounds - n) c.args.machine.now c.run.new.self c.trace_rounds.new.machine first reported in
    subst (λ (k : ℕ). MakesRounds t k c.args.machine.now c.trace_rounds.new.machine) sum all)
    c.trace_rounds.ensures.state

pub returns-clause-reported : goal.returns-clause-reported
returns-clause-reported g c =
    let how = c.args.how.now in
    let n = c.min-unreported.result in
    let out = g.W.Write.contents in
    let given : n ≡ unreported how = Prim.omega (arith, c.min-unreported.ensures) in
    let made = from_ok c.run.result (sym c.if-is_err.ensures.value) c.run.ensures.done in
    let none = c.requires.first in
    let count = ap (λ (m : plain.Machine). m.rounds) made ∙ rounds_count how.plan.turn.steps (numbers_from 1 (processes_of c.args.machine.now)) n (machine_of c.args.machine.now) in
    let first : c.run.new.self.rounds ≡ n = Prim.omega (arith, count, none) in
    let written = subst (λ (f : TraceForm). OnOk c.trace_rounds.result (WritesRounds f c.run.new.self.rounds (how.rounds - n) (out c.args.out.now) (out c.trace_rounds.new.out)))
    c.in_ok-tracer.ensures c.trace_rounds.ensures.reported in
    let numbered = subst (λ (k : ℕ). OnOk c.trace_rounds.result (WritesRounds how.form k (how.rounds - n) (out c.args.out.now) (out c.trace_rounds.new.out))) first written in
    subst (λ (k : ℕ). OnOk c.trace_rounds.result (WritesRounds how.form k (how.rounds - k) (out c.args.out.now) (out c.trace_rounds.new.out))) given numbered
