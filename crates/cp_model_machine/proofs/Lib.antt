-- The lemmas of this crate, from the bottom up.

-- Parts, words and the values of terms.
pub mod Finding
pub mod Layouts
pub mod Tables
pub mod Rooms
pub mod Bounds
pub mod Leads
pub mod Apart
pub mod Indexed
pub mod Evaluates
-- What a process holds.
pub mod Owned
pub mod OwnersFit
pub mod Stacks
pub mod Separate
pub mod Heres
pub mod Given
pub mod Writing
pub mod Keeping
pub mod Holding
pub mod Puts
pub mod StartLeaves
pub mod LeafWords
pub mod PartLeaves
pub mod Declared
pub mod Naming
pub mod InitOffsets
pub mod Copying
-- Statements and their operations.
pub mod NextCalls
pub mod CallsKept
pub mod FirstCalls
pub mod CodeKept
pub mod AssignCalls
pub mod PerformCalls
pub mod InitCalls
pub mod StatementCalls
-- Running on.
pub mod RemainingKept
mod RemainingExample
pub mod Pushing
pub mod RunningOn
-- What steps have in common.
pub mod QuietOperations
pub mod MonitorsThere
pub mod GatesHeld
pub mod Effects
pub mod Stepping
pub mod Doing
pub mod Loops
-- Words of monitors, gates and stages.
pub mod Sights
pub mod Joining
pub mod Parting
pub mod GatesKept
pub mod StagesKept
pub mod KernelKept
pub mod EffectsKept
pub mod KernelAround
-- Steps: tests, assignments, `for`, standard procedures.
pub mod Testing
pub mod Choosing
pub mod Assigning
pub mod CopySteps
pub mod Resulting
pub mod ResultSteps
pub mod Counting
pub mod Standards
-- Steps: calls and returns.
pub mod Passing
pub mod PassedWords
pub mod Entering
pub mod Opening
pub mod ProcessRights
pub mod Declares
pub mod Answered
pub mod Returning
pub mod Invoking
pub mod Targets
pub mod CallSteps
pub mod Ending
-- Steps: `init`.
pub mod Placing
pub mod InitRights
pub mod Settling
pub mod InitPassing
pub mod InitSettled
pub mod InitSteps
pub mod InitMonitors
pub mod Waiting
pub mod Beside
pub mod InitProcesses
pub mod ProcessSteps
-- Steps: queues.
pub mod QueueTypes
pub mod Queues
pub mod Delaying
pub mod Continuing
pub mod ContinueSteps
-- Private steps and turns.
pub mod Deciding
pub mod Alone
pub mod PrivateSteps
pub mod PrivateTurns
-- Others.
pub mod NeverUnset
pub mod PartsBeside
pub mod StartsNone
pub mod StartedUnread
pub mod StartsNobody
pub mod OthersKept
pub mod OthersParts
pub mod OtherGround
pub mod ParametersGiven
pub mod BodyBegins
pub mod BeginsKept
pub mod BeginsStarted
pub mod Spares
pub mod SparingCalls
pub mod SparingStatements
pub mod SparingInits
pub mod Sparing
pub mod ProcessBegins
-- Kernel steps and turns.
pub mod KernelBeside
pub mod Stopping
pub mod EndsAlone
pub mod KernelTurning
pub mod KernelTurns
-- The start.
pub mod StartStores
pub mod Starting
pub mod SharedStarts
pub mod KernelStarts
-- Rounds.
pub mod RoundEnds
pub mod RoundParts
pub mod BeginsBeside
pub mod Represents
pub mod MachineTurns
pub mod MachineRounds
-- The report.
pub mod ReportLines
pub mod ReportQueues
pub mod ReportParts
pub mod ReportStatus
pub mod Reporting
pub mod MachineStarts
-- Rounds in any order of events.
pub mod LawfulEvents
pub mod MachineReplays
-- Chains of askers.
pub mod Waits
pub mod ChainLines
-- Private turns that are made ahead of their rounds.
pub mod AheadQuiet
pub mod AheadNumbers
pub mod AheadStages
pub mod AheadTurns
pub mod AheadRounds
pub mod AheadPassing
mod AheadExample
