-- A turn of kernel steps is that of the meaning, and turns of a process keep the private states of
-- the others and the kernel right.
use Rattle.std.proofs.Common.{refl, subst, suc, zero}
use Rattle.cp_model.specs.Operators.{realtime}
use Rattle.cp_model.specs.States.{running_clock}
use Rattle.cp_model.specs.Turns as meaning
use Rattle.cp_model.proofs.RoundCount.{kernel_turn_count}
use Rattle.cp_model.proofs.StateInvariant.{kernel_step_keeps, private_step_keeps}
use Rattle.cp_model_machine.specs.KernelSteps.{kernel_step, kernel_steps}
use Rattle.cp_model_machine.specs.Laws.{JoinedStepIsStep, KernelStepIsStep, KernelTurnIsTurn, KernelTurnKeepsParts, PrivateTurnKeepsKernel, PrivateTurnKeepsParts, TurningOf, ground_of}
use Rattle.cp_model_machine.proofs.KernelBeside.{private_step_kernel}
use Rattle.cp_model_machine.proofs.KernelTurning.{joined_step_turns, kernel_step_turns}
use Rattle.cp_model_machine.proofs.OthersParts.{kernel_step_beside, private_step_beside}

pub kernel_step_is_step : KernelStepIsStep
kernel_step_is_step program setup F p own s before x I low high T = kernel_step_turns program setup F p own s before x.own x.kernel I (low, high) T.part T.kernel

pub joined_step_is_step : JoinedStepIsStep
joined_step_is_step program setup F p own s before x I low high T = joined_step_turns program setup F p own s before x.own x.kernel I (low, high) T.part T.kernel

pub kernel_turn_is_turn : KernelTurnIsTurn
kernel_turn_is_turn program setup F p own zero s before x I low high T = T
kernel_turn_is_turn program setup F p own (suc n) s before x I low high T =
    subst (λ r. TurningOf program setup F p own (meaning.kernel_turn setup n (meaning.kernel_step setup s p) p) before (kernel_steps program (realtime (record { round = suc r; tick = setup.tick })) n (kernel_step program (realtime (running_clock setup s)) x)))
    (kernel_turn_count setup 1 s p)
    (kernel_turn_is_turn program setup F p own n (meaning.kernel_step setup s p) before (kernel_step program (realtime (running_clock setup s)) x) (kernel_step_keeps setup s p I) low high
    (kernel_step_is_step program setup F p own s before x I low high T))

pub kernel_turn_keeps_parts : KernelTurnKeepsParts
kernel_turn_keeps_parts program setup F p own q others zero s before x past o d I low high T P = P
kernel_turn_keeps_parts program setup F p own q others (suc n) s before x past o d I low high T P =
    let next = kernel_step_is_step program setup F p own s before x I low high T in
    kernel_turn_keeps_parts program setup F p own q others n (meaning.kernel_step setup s p) before (kernel_step program (realtime (running_clock setup s)) x) past o d (kernel_step_keeps setup s p I) low high next
    (kernel_step_beside (ground_of program setup F q others) refl s past o I p d P (kernel_step program (realtime (running_clock setup s)) x).kernel.shared next.kernel.data_means)

pub private_turn_keeps_parts : PrivateTurnKeepsParts
private_turn_keeps_parts program setup F p q others zero s past o d I P = P
private_turn_keeps_parts program setup F p q others (suc n) s past o d I P =
    private_turn_keeps_parts program setup F p q others n (meaning.private_step setup s p) past o d (private_step_keeps setup s p I) (private_step_beside (ground_of program setup F q others) refl s past o I p d P)

pub private_turn_keeps_kernel : PrivateTurnKeepsKernel
private_turn_keeps_kernel program setup F p zero s k I K = K
private_turn_keeps_kernel program setup F p (suc n) s k I K =
    private_turn_keeps_kernel program setup F p n (meaning.private_step setup s p) k (private_step_keeps setup s p I) (private_step_kernel program F.texts setup s p k I K)
