use Rattle.std.proofs.Common.{sym, ◌∙◌}
use Rattle.cp_program.specs.View as view
use Rattle.cp_kernel.proofs.Starts.{empty_of, unset_of}
use Rattle.cp_kernel.proofs.kernel.Kernel.first.Goals as goal

pub returns-clause-start : goal.returns-clause-start
returns-clause-start c =
    λ tick inputs.
    let program = view.program c.args.program.now in
    let shared = c.in_ok-first_shared_words.ensures.words in
    let gates = c.in_ok-unset_gates.ensures ∙ unset_of program.monitors c.monitors.result c.monitors.ensures in
    let stages = c.in_ok-first_stages.ensures.stages program.processes (sym c.processes-processes.ensures) in
    λ i. record { shared = shared i; gates = gates i; stages = stages i }

pub returns-clause-transcripts : goal.returns-clause-transcripts
returns-clause-transcripts c =
    λ tick inputs.
    let processes = (view.program c.args.program.now).processes in
    c.in_ok-empty_transcripts.ensures ∙ empty_of processes c.processes-processes.result c.processes-processes.ensures
