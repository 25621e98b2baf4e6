use Rattle.std.proofs.Common.{◌≡◌, ◌∙◌, ℕ, ap, arith, subst, sym}
use Rattle.cp_model_machine.specs.InState.{IsIn}
use Rattle.cp_model_machine.specs.Machines as plain
use Rattle.cp_model.specs.Start.{start}
use Rattle.cp_rounds.specs.Views.{machine_of}
use Rattle.cp_execute_start.specs.Starts.{setup_of}
use Rattle.cp_execute_observe.specs.Forms.{Reports}
use Rattle.cp_execute_observe.specs.Outcomes.{state_after}
use Rattle.cp_execute_observe.proofs.until_still.outcome_of.Goals as goal

pub returns-clause-outcome : goal.returns-clause-outcome
returns-clause-outcome g c t inputs begun =
    let how = c.args.how.now in
    let setup = setup_of t inputs how.tick.rounds in
    let none = c.requires.first in
    let n = c.in-Ok._rounds in
    let reported = c.in-Ok.ensures in
    let machine = c.run_until_still.new.machine in
    let s = state_after how t inputs n in
    let I : IsIn (machine_of machine) setup s = reported.state setup (start setup) begun in
    let made = reported.done.rounds in
    let count : machine.rounds ≡ n = omega (arith, made, none) in
    let last = c.found_loop.new.machine in
    let same : machine_of last ≡ machine_of machine = c.found_loop.ensures in
    let J : IsIn (machine_of last) setup s = subst (λ (m : plain.Machine). IsIn m setup s) (sym same) I in
    let last_count : last.rounds ≡ n = ap (λ (m : plain.Machine). m.rounds) same ∙ count in
    record {
      rounds = n;
      most = reported.most;
      still = λ below. reported.still below setup s I;
      first = λ k below. reported.first setup (start setup) begun k below;
      verdict = c.verdict_on-verdict.ensures.verdict setup s I;
      ended = c.verdict_on-verdict.ensures.ended setup s I;
      reported = subst (λ (r : ℕ). Reports c.args.form setup s c.verdict_on-verdict.result r c.in_ok-bytes.bytes.items) last_count (c.in_ok-bytes.ensures setup s J);
    }
