-- Kernel turns, the start and the end of a round are those of the meaning.
--
-- The equalities with plain data say which plain data the kernel and the private states are then, and
-- the laws of cp_model_machine say of these that they are the parts of the state.
use Rattle.std.proofs.Common.{◌≡◌, ◌≤◌, ◌-◌, ◌++◌, ◌∙◌, ℕ, suc, List, [], Result, Ok, Err, IfOk, length, ap, subst, sym, arith}
use Rattle.std.specs.Prelude.{map, slice_set}
use Rattle.cp_model.specs.Laws.{KernelTurnKeepsInvariant}
use Rattle.cp_model.specs.Rounds.{close_round}
use Rattle.cp_model.specs.Start.{start}
use Rattle.cp_model.specs.States.{Setup, State}
use Rattle.cp_model.specs.Turns as meaning
use Rattle.cp_model_program.specs.Programs as code
use Rattle.cp_model_program.specs.IsProgramFor.{IsProgramFor}
use Rattle.cp_model_machine.specs.InState.{IsIn}
use Rattle.cp_model_machine.specs.KernelOf.{KernelOf}
use Rattle.cp_model_machine.specs.KernelSteps as plain
use Rattle.cp_model_machine.specs.Laws.{KernelTurnIsTurn, OutputMoves, StartIsKernel, TurningOf}
use Rattle.cp_model_machine.specs.Machines as machines
use Rattle.cp_model_machine.specs.Machines.{begin_one, first_machine, next_stage, transcript_of}
use Rattle.cp_model_machine.specs.RoundLaws.{EndIsEnd}
use Rattle.cp_model_machine.proofs.MachineTurns.{transcript_there}
use Rattle.cp_private.specs.declared.private.Private.{Private}
use Rattle.cp_program.specs.declared.program.Program.{Program}
use Rattle.cp_program.specs.View as view
use Rattle.cp_kernel.specs.declared.kernel.Kernel.{Kernel}
use Rattle.cp_kernel.specs.KernelOf.{kernel_of, transcripts_of, turning}
use Rattle.cp_kernel.specs.Promises.{EndsRound, IsAtStart, MakesKernelTurn}
use Rattle.cp_kernel.specs.Turns.{IsTurned, parts_of}

-- ---- Kernel turns

-- A state after a turn, with the process's output moved to its transcript.
moved : (program : code.Program) (setup : Setup) (F : IsProgramFor program setup) (p own : ℕ) (s : State) (before : List ℕ) (x : plain.Turning)
    → OutputMoves → TurningOf program setup F p own s before x
    → TurningOf program setup F p own s (before ++ x.own.output) (record x { own = record x.own { output = [] } })
moved program setup F p own s before x law T = record { part = law program setup F p own s before x.own T.part; kernel = T.kernel }

pub kernel_turn_made : (program : code.Program) (setup : Setup) (F : IsProgramFor program setup) (p own n clock : ℕ) (u : State)
    → (k after : Kernel) (x y : Private) (input : List ℕ)
    → OutputMoves → IsTurned program clock n k after x y input
    → 1 ≤ p → p ≤ length (transcripts_of k) → x.number ≡ p
    → TurningOf program setup F p own u (transcript_of (transcripts_of k) p) (plain.kernel_steps program clock n (turning k x input))
    → TurningOf program setup F p own u (transcript_of (transcripts_of after) p) (turning after y input)
kernel_turn_made program setup F p own n clock u k after x y input law turned first last number T =
    let made = plain.kernel_steps program clock n (turning k x input) in
    let M = moved program setup F p own u (transcript_of (transcripts_of k) p) made law T in
    let at : x.number - 1 ≡ p - 1 = ap (λ q. q - 1) number in
    let written = transcript_of (transcripts_of k) p ++ made.own.output in
    let changed : transcripts_of after ≡ slice_set (transcripts_of k) (p - 1) written =
    turned.moves.transcripts ∙ (λ i. slice_set (transcripts_of k) (at i) (transcript_of (transcripts_of k) (number i) ++ made.own.output)) in
    let there : transcript_of (transcripts_of after) p ≡ written =
    ap (λ ts. transcript_of ts p) changed ∙ transcript_there (transcripts_of k) p written (omega (arith, first, last)) in
    let same : turning after y input ≡ record made { own = record made.own { output = [] } } =
    (λ i. record { kernel = turned.kernel i; own = turned.own i }) in
    let back = sym there in
    let alike = sym same in
    subst (λ (z : plain.Turning). TurningOf program setup F p own u (transcript_of (transcripts_of after) p) z) alike
    (subst (λ (before : List ℕ). TurningOf program setup F p own u before (record made { own = record made.own { output = [] } })) back M)

pub makes_kernel_turn : (program : Program) (n clock : ℕ) (k after : Kernel) (x y : Private) (input : List ℕ)
    → KernelTurnIsTurn → OutputMoves → KernelTurnKeepsInvariant
    → IsTurned (view.program program) clock n k after x y input
    → MakesKernelTurn program n k x after y input clock
makes_kernel_turn program n clock k after x y input law moves kept turned setup F p own s I now first last count T =
    let few : p ≤ length (transcripts_of k) = omega (arith, last, count) in
    let there = law (view.program program) setup F p own n s (transcript_of (transcripts_of k) p) (turning k x input) I first last T in
    let here = subst (λ (c : ℕ). TurningOf (view.program program) setup F p own (meaning.kernel_turn setup n s p) (transcript_of (transcripts_of k) p) (plain.kernel_steps (view.program program) c n (turning k x input))) (sym now) there in (
      kernel_turn_made (view.program program) setup F p own n clock (meaning.kernel_turn setup n s p) k after x y input moves turned first few T.part.number here,
      kept setup n p s I,
    )

-- ---- The start

pub is_at_start : {E : Type 0} (program : Program) (r : Result Kernel E) → StartIsKernel
    → IfOk r (λ k. (tick : ℕ) (inputs : ℕ → List ℕ) → kernel_of k ≡ (first_machine (view.program program) tick inputs).kernel)
    → IfOk r (IsAtStart program)
is_at_start program (Err e) law made = tt
is_at_start program (Ok k) law made = λ setup F.
    subst (λ (z : plain.Kernel). KernelOf (view.program program) F.texts setup (start setup) z) (sym (made setup.tick setup.inputs))
    (law (view.program program) setup F setup.tick setup.inputs)

-- ---- The end of a round

pub ends_round : (program : Program) (k after : Kernel) (xs ys : List Private) → EndIsEnd
    → kernel_of after ≡ record (kernel_of k) { stages = map next_stage (kernel_of k).stages }
    → ((inputs : ℕ → List ℕ) → parts_of inputs 1 ys ≡ map (begin_one (view.program program) (kernel_of k)) (parts_of inputs 1 xs))
    → EndsRound program k xs after ys
ends_round program k after xs ys law kernel parts m inputs setup s of_program with_kernel with_parts I =
    subst (λ (z : machines.Machine). IsIn z setup (close_round s)) (sym same) (law m setup s I)
  where
    own_kernel : kernel_of after ≡ record m.kernel { stages = map next_stage m.kernel.stages }
    own_kernel = kernel ∙ sym (ap (λ (z : plain.Kernel). record z { stages = map next_stage z.stages }) with_kernel)

    own_parts : parts_of inputs 1 ys ≡ map (begin_one m.program m.kernel) m.parts
    own_parts = parts inputs ∙ sym (λ i. map (begin_one (of_program i) (with_kernel i)) (with_parts i))

    same : record m { kernel = kernel_of after; parts = parts_of inputs 1 ys; rounds = suc m.rounds } ≡ machines.end_round m
    same i = record m { kernel = own_kernel i; parts = own_parts i; rounds = suc m.rounds }
