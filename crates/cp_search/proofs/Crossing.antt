-- What the threads of a search share may be shared. This includes operations, which have too many
-- kinds to be searched through at each thread.
use denote.Param.Send.{IsSync, sendable}
use denote.Param.SendFields.{declared_sync, variants_sync}
use Rattle.std.proofs.Crossing.{crosses}
use Rattle.cp_program.proofs.term.Application.TheLaws.TheKnot as terms
use Rattle.cp_program.proofs.operation.Counting.TheSendSync as counting
use Rattle.cp_program.proofs.operation.Table.TheSendSync as table
use Rattle.cp_program.proofs.operation.Target.TheSendSync as target
use Rattle.cp_program.proofs.program.CodeUnit.TheSendSync as unit
use Rattle.cp_program.proofs.program.Monitor.TheSendSync as monitor
use Rattle.cp_program.proofs.program.StartPlan.TheSendSync as plan
use Rattle.cp_program.proofs.program.Process.TheSendSync as process
use Rattle.cp_program.specs.contracts.operation.Argument as argument
use Rattle.cp_program.specs.contracts.operation.Call as call
use Rattle.cp_program.specs.contracts.operation.Operation as operation
use Rattle.cp_program.specs.contracts.operation.Then as following
use Rattle.cp_program.specs.contracts.program.Program as program
use Rattle.cp_kernel.proofs.kernel.Kernel.TheSendSync as kernel
use Rattle.cp_search_states.proofs.state.SearchState.TheSendSync as state
use Rattle.cp_search_store.proofs.moves.Moves.TheSendSync as moves
use Rattle.cp_search_store.proofs.store.Store.TheSendSync as store
use Rattle.cp_search.specs.contracts.space.Space as space

argument_sync : IsSync argument.the_row
argument_sync = search (sendable, crosses, terms.crosses, target.the_field_sync) depth 40 fits 4000

call_sync : IsSync call.the_row
call_sync = search (sendable, crosses, argument_sync, target.the_field_sync) depth 40 fits 4000

then_sync : IsSync following.the_row
then_sync =
    variants_sync following.enum (search (sendable, crosses, terms.crosses) depth 40 fits 4000, (search (sendable, crosses, terms.crosses) depth 40 fits 4000, (search (sendable, crosses, terms.crosses) depth 40 fits 4000, (search (sendable, crosses, terms.crosses) depth 40 fits 4000, (search (sendable, crosses, terms.crosses) depth 40 fits 4000, (search (sendable, crosses, terms.crosses) depth 40 fits 4000, tt))))))

ruleset shared = (sendable, crosses, terms.crosses, argument_sync, call_sync, then_sync, counting.the_sync, counting.the_field_sync, table.the_sync, table.the_field_sync)

-- Each of the 19 kinds by itself.
operation_sync : IsSync operation.the_row
operation_sync =
    variants_sync operation.enum (search shared depth 40 fits 4000, (search shared depth 40 fits 4000, (search shared depth 40 fits 4000, (search shared depth 40 fits 4000, (search shared depth 40 fits 4000, (search shared depth 40 fits 4000, (search shared depth 40 fits 4000, (search shared depth 40 fits 4000, (search shared depth 40 fits 4000, (search shared depth 40 fits 4000, (search shared depth 40 fits 4000, (search shared depth 40 fits 4000, (search shared depth 40 fits 4000, (search shared depth 40 fits 4000, (search shared depth 40 fits 4000, (search shared depth 40 fits 4000, (search shared depth 40 fits 4000, (search shared depth 40 fits 4000, (search shared depth 40 fits 4000, tt)))))))))))))))))))

pub program_sync : IsSync program.the_row
program_sync = search (sendable, crosses, operation_sync, unit.the_sync, monitor.the_sync, process.the_sync, plan.the_sync) depth 40 fits 4000

ruleset in_space = (sendable, crosses, store.the_sync, moves.the_sync, state.the_sync, kernel.the_sync)

pub space_sync : IsSync space.the_row
space_sync =
    declared_sync space.the_type (
      search in_space depth 40 fits 4000,
      (
        search in_space depth 40 fits 4000,
        (
          search in_space depth 40 fits 4000,
          (search in_space depth 40 fits 4000, (search in_space depth 40 fits 4000, (search in_space depth 40 fits 4000, tt))),
        ),
      ),
    )
