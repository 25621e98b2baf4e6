use Rattle.std.proofs.Common.{rules, ◌≡◌, ◌<◌, ◌+◌, ◌-◌, slice_get, suc, length, drop, ap, sym, ◌∙◌, arith}
use Rattle.cp_model_program.specs.Programs as code
use Rattle.cp_model_machine.specs.Machines as plain
use Rattle.cp_program.specs.View as view
use Rattle.std.specs.Prelude.{List}
use Rattle.cp_kernel.proofs.Starts.{next_monitor}
use Rattle.cp_kernel.proofs.starting.start_monitors.Goals as goal

pub loop-i-preserved : goal.loop-i-preserved
loop-i-preserved c =
    let ms = (view.program c.args.program.now).monitors in
    let i = c.loop-i.i in
    let below : i < length ms = search rules in
    let next = next_monitor ms i below in
    let more : i + 1 ≡ suc i = omega arith in
    let here : (i + 1) - 1 ≡ i = omega arith in
    record {
      below = omega (arith, below);
      length = c.start_monitor.ensures.length ∙ c.loop-i.invariant.length;
      words =
          ap (λ n. plain.first_shared (drop n ms) c.start_monitor.new.words) more
          ∙ (c.start_monitor.ensures.words (drop (suc i) ms) next.0 (ap (slice_get ms) here ∙ next.1)
          ∙ (ap (λ (xs : List code.Monitor). plain.first_shared xs c.loop-i.words) (sym next.2)
          ∙ c.loop-i.invariant.words));
    }
