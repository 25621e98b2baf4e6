use Rattle.std.proofs.Common.{◌≡◌, ◌∙◌, ◌+◌, suc, ℕ, arith, refl, subst, take}
use Rattle.cp_rounds.specs.InStates.{MakesRounds}
use Rattle.cp_trace.specs.Reporting.{Adds}
use Rattle.cp_trace.specs.Tracers.{Ends, ReportsRound, form_of}
use Rattle.cp_base_config.specs.declared.trace.TraceForm.{TraceForm}
use Rattle.cp_execute_observe.specs.Writing.{WritesRounds}
use Rattle.cp_execute_observe.proofs.Reported.{WritesPart, added, begun, finished, moved}
use Rattle.cp_execute_observe.proofs.RoundsMade.{extends_more, extends_nothing, more_made, none_made}
use Rattle.cp_execute_observe.proofs.rounds.trace_rounds.Goals as goal

pub loop-round-init : goal.loop-round-init
loop-round-init g c =
    let old = g.W.Write.contents c.args.out.now in
    let first = rw c.new-buffer.ensures.items at c.in_ok-begin.ensures in
    record {
      made = none_made c.args.plan.now.turn.steps c.args.machine.now;
      count = Prim.omega arith;
      form = refl;
      reported = begun (form_of c.args.tracer.now) c.args.machine.now.rounds old c.begin.new.out.items first;
      written = extends_nothing old;
    }

pub loop-round-preserved : goal.loop-round-preserved
loop-round-preserved g c =
    let t = c.args.plan.now.turn.steps in
    let f = form_of c.args.tracer.now in
    let old = g.W.Write.contents c.args.out.now in
    let new = g.W.Write.contents c.loop-round.out in
    let newer = g.W.Write.contents c.write_if_long.new.out in
    let before = c.loop-round.invariant in
    let round = c.in_ok-trace_round.ensures in
    let wrote = c.in_ok-write_if_long.ensures in
    let count = before.count in
    let one = round.count in
    let done = c.args.machine.now.rounds in
    let k = c.loop-round._round in
    let next : suc k ≡ k + 1 = Prim.omega arith in
    let number : c.trace_round.new.machine.rounds ≡ done + suc k = Prim.omega (arith, count, one) in
    let formed = subst (λ (x : TraceForm). Adds (ReportsRound x c.trace_round.new.machine.rounds) c.loop-round.buffer.items c.trace_round.new.buffer.items) before.form round.reported in
    let more = subst (λ (n : ℕ). Adds (ReportsRound f n) c.loop-round.buffer.items c.trace_round.new.buffer.items) number formed in
    let reported = added f done k old new c.loop-round.buffer.items c.trace_round.new.buffer.items before.reported more in
    record {
      made = more_made t c.loop-round._round 1 c.args.machine.now c.loop-round.machine c.trace_round.new.machine before.made round.state;
      count = Prim.omega (arith, count, one);
      form = round.form ∙ before.form;
      reported = subst (λ (n : ℕ). WritesPart f done n old newer c.write_if_long.new.buffer.items) next
          (moved f done (suc k) old new newer c.trace_round.new.buffer.items c.write_if_long.new.buffer.items reported wrote.whole);
      written = extends_more old new newer before.written wrote.written;
    }

pub returns-in_err-write_if_long-clause-written : goal.returns-in_err-write_if_long-clause-written
returns-in_err-write_if_long-clause-written g c =
    extends_more (g.W.Write.contents c.args.out.now) (g.W.Write.contents c.loop-round.out) (g.W.Write.contents c.write_if_long.new.out) c.loop-round.invariant.written c.write_if_long.ensures.written

pub returns-in_err-write_result-clause-written : goal.returns-in_err-write_result-clause-written
returns-in_err-write_result-clause-written g c =
    let begun = c.in_err-write_result.ensures.beginning in
    extends_more (g.W.Write.contents c.args.out.now) (g.W.Write.contents c.loop-round.out) (g.W.Write.contents c.write_result.new.out) c.loop-round.invariant.written (take begun.0 c.deref.result.now, begun.2)

-- ---- all rounds were made

pub returns-clause-state : goal.returns-clause-state
returns-clause-state g c =
    let all : c.loop-round._round ≡ c.args.rounds = Prim.omega arith in
    subst (λ (k : ℕ). MakesRounds c.args.plan.now.turn.steps k c.args.machine.now c.loop-round.machine) all c.loop-round.invariant.made

pub returns-clause-reported : goal.returns-clause-reported
returns-clause-reported g c =
    let f = form_of c.args.tracer.now in
    let old = g.W.Write.contents c.args.out.now in
    let new = g.W.Write.contents c.loop-round.out in
    let newer = g.W.Write.contents c.write_result.new.out in
    let before = c.loop-round.invariant in
    let last = subst (λ (k : TraceForm). Adds (Ends k) c.loop-round.buffer.items c.finish.new.out.items) before.form c.in_ok-finish.ensures in
    let whole = rw c.deref.ensures.value at c.in_ok-write_result.ensures.whole in
    let all : c.loop-round._round ≡ c.args.rounds = Prim.omega arith in
    subst (λ (k : ℕ). WritesRounds f c.args.machine.now.rounds k old newer) all
    (finished f c.args.machine.now.rounds c.loop-round._round old new newer c.loop-round.buffer.items c.finish.new.out.items before.reported last whole)

pub returns-clause-written : goal.returns-clause-written
returns-clause-written g c =
    extends_more (g.W.Write.contents c.args.out.now) (g.W.Write.contents c.loop-round.out) (g.W.Write.contents c.write_result.new.out) c.loop-round.invariant.written (c.deref.result.now, c.in_ok-write_result.ensures.whole)
