use Rattle.std.proofs.Common.{arith}
use denote.Param.Send.{sendable}
use Rattle.cp_program.specs.View as view
use Rattle.cp_search_states.specs.SearchStates.{input_of}
use Rattle.std.proofs.Crossing.{crosses}
use Rattle.cp_search.proofs.Crossing.{program_sync, space_sync}
use Rattle.cp_search.proofs.Lists.{both_ok}
use Rattle.cp_search.proofs.Batched.{all_found}
use Rattle.cp_search.proofs.batch.look_all.Goals as goal

pub map_indices-requires-sync-F : goal.map_indices-requires-sync-F
map_indices-requires-sync-F g c κs within = search (sendable, crosses, program_sync, space_sync) depth 40 fits 4000

pub returns : goal.returns
returns g c =
    both_ok c.map_indices.result _ _ _
    (λ all each len. all_found (view.program c.args.program.now) (input_of c.args.inputs.now) c.args.space.now.store all.items
    (λ n d below. (each n d (omega (arith, len, below))).1.met))
    c.map_indices.ensures.each c.map_indices.ensures.len
