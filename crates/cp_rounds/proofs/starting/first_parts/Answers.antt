use Rattle.cp_program.specs.View as view
use Rattle.cp_rounds.specs.Starts.{IsStart}
use Rattle.cp_rounds.proofs.Starts.{first_stages_count, numbered_first}
use Rattle.cp_rounds.proofs.starting.first_parts.Goals as goal

pub invariant_of-result : goal.invariant_of-result
invariant_of-result c =
    let program = view.program c.args.program.now in
    let xs = c.in_ok-privates.privates.items in
    let k = c.in_ok-kernel.kernel in
    let first = c.in_ok-privates.ensures in
    let start : IsStart program xs k = record {
      first = first.first;
      count = first.count;
      kernel = c.in_ok-kernel.ensures.start;
      transcripts = c.in_ok-kernel.ensures.transcripts;
    } in
    record { numbers = numbered_first program xs first.count first.first; count = first_stages_count program xs k start }

pub returns : goal.returns
returns c = record {
  first = c.in_ok-privates.ensures.first;
  count = c.in_ok-privates.ensures.count;
  kernel = c.in_ok-kernel.ensures.start;
  transcripts = c.in_ok-kernel.ensures.transcripts;
}
