-- The turns at a handoff queue may be shared, since each of their fields may be. The search for it
-- is split by fields, because a configuration holds operations, which have too many kinds.
use denote.Param.{param}
use denote.Param.Send.{IsSync, sendable}
use denote.Param.SendFields.{as_row_sync, declared_sync}
use mir.Syntax.{named}
use Rattle.std.proofs.Crossing.{crosses}
use Rattle.cp_base_config.proofs.plan.Plan.TheSendSync as plan
use Rattle.cp_rounds_handoff.proofs.handoff.HandoffQueue.TheSendSync as handoff
use Rattle.cp_rounds_handoff.specs.contracts.handoff.HandoffQueue as handoffs
use Rattle.cp_rounds_handoff.specs.contracts.handoff_turns.HandoffTurns as turns
use Rattle.cp_rounds.proofs.run.with_workers.Goals as goal

pub start-requires-sync-W : goal.start-requires-sync-W
start-requires-sync-W g c κs within =
    let shared : IsSync (turns.the_row (record { mir = named 6; lft = κs.1.1.1.1.1.1.0 }) (param 1 g.row.C) (param 3 g.row.G) g.C.Course g.C.Sheets) =
    declared_sync (turns.the_type (record { mir = named 6; lft = κs.1.1.1.1.1.1.0 }) (param 1 g.row.C) (param 3 g.row.G) g.C.Course g.C.Sheets) (
      as_row_sync (handoffs.the_field (record { mir = named 6; lft = κs.1.1.1.1.1.1.0 }) (param 1 g.row.C) g.C.Course g.C.Sheets)
          (handoff.the_field_sync (record { mir = named 6; lft = κs.1.1.1.1.1.1.0 }) (param 1 g.row.C) g.C.Course g.C.Sheets),
      (
        search (sendable, crosses, c.configs_are_shared.ensures) depth 40 fits 4000,
        (
          search (sendable, crosses, plan.the_field_sync) depth 40 fits 4000,
          (search (sendable, crosses, c.type_bounds.sync-G) depth 40 fits 4000, (search (sendable, crosses) depth 40 fits 4000, (search (sendable, crosses) depth 40 fits 4000, (search (sendable, crosses) depth 40 fits 4000, tt)))),
        ),
      ),
    ) in
    search (sendable, shared)
