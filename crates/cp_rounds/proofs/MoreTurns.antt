-- Both turns of one more process of a round are made.
use Rattle.std.specs.Prelude.{Bool, ◌≡◌, ◌<◌, ◌+◌, ◌-◌, ◌++◌, ◌∷◌, [], ℕ, suc, List, Some, length, slice_get, take, vec_len}
use Rattle.std.proofs.Common.{sym, ap, subst, ◌∙◌, arith}
use Rattle.std.proofs.lemmas.List.{length-take-le}
use Rattle.cp_kernel.specs.KernelOf.{HasRoomForAskers}
use Rattle.cp_kernel.specs.Turns.{IsTurned, Moves}
use Rattle.cp_kernel.specs.declared.kernel.Kernel.{Kernel}
use Rattle.cp_model_machine.specs.PrivateStates.{PrivateState}
use Rattle.cp_private.specs.States.{private_of}
use Rattle.cp_private.specs.declared.private.Private.{Private}
use Rattle.cp_program.specs.View as view
use Rattle.cp_rounds_handoff.specs.Inputs.{input_at}
use Rattle.cp_rounds_handoff.specs.Numbers.{AreNumbered}
use Rattle.cp_rounds_handoff.specs.Tasks.{IsCourseOf, IsTaken}
use Rattle.cp_rounds_handoff.specs.Turned.{round_time_of, take_turn}
use Rattle.cp_rounds_handoff.specs.declared.round_time.RoundTime.{RoundTime}
use Rattle.cp_rounds_handoff.specs.declared.config.MachineConfig.{MachineConfig}
use Rattle.cp_rounds_handoff.proofs.Lists.{got_at}
use Rattle.cp_rounds.specs.Made.{IsReady}
use Rattle.cp_rounds.specs.Runs.{TurnsTaken}
use Rattle.cp_rounds.proofs.Made.{process_made_at}
use Rattle.cp_rounds.proofs.Rooms.{fewer_askers, moved_stages, numbered_more}

-- The private state of the process at index i is y after its private turn and z after its kernel
-- turn.
pub taken_more : (without_kernel : PrivateState → Bool) (turned : RoundTime → PrivateState → PrivateState) (input : ℕ → List ℕ) (most : ℕ) (config : MachineConfig) (t : ℕ)
    → IsCourseOf without_kernel turned input most config t → (rounds : ℕ) (round_time : RoundTime) (xs ys : List Private) (k k1 k2 : Kernel) (i : ℕ) (y z : Private)
    → i < length ys → length ys ≡ length xs → round_time ≡ round_time_of config.tick.rounds rounds
    → IsTaken (turned round_time) (input ((i + 1) - 1)) most xs (i + 1) y
    → IsTurned (view.program config.program) round_time.clock t k1 k2 y z (input_at config.inputs.items ((i + 1) - 1))
    → TurnsTaken config t rounds xs k (take i ys) k1 → TurnsTaken config t rounds xs k (take i ys ++ z ∷ []) k2
taken_more without_kernel turned input most config t course rounds round_time xs ys k k1 k2 i y z within count time taken turn was =
    let program = view.program config.program in
    let inputs = config.inputs.items in
    let back : (i + 1) - 1 ≡ i = Prim.omega arith in
    let next : i + 1 ≡ suc i = Prim.omega arith in
    let x = got_at xs i (Prim.omega (arith, within, count)) in
    let comes = taken.comes x.0 (subst (λ (j : ℕ). slice_get xs j ≡ Some x.0) (sym back) x.1) in
    let at : private_of y (input_at inputs i) ≡ turned round_time (private_of x.0 (input_at inputs i)) =
    subst (λ (l : List ℕ). private_of y l ≡ turned round_time (private_of x.0 l)) (course.inputs i)
    (subst (λ (j : ℕ). private_of y (input j) ≡ turned round_time (private_of x.0 (input j))) back comes) in
    let is = at ∙ course.steps round_time (private_of x.0 (input_at inputs i))
    ∙ ap (λ (w : RoundTime). take_turn program t w (private_of x.0 (input_at inputs i))) time in
    let turned = subst (λ (w : RoundTime). IsTurned program w.clock t k1 k2 y z (input_at inputs i)) time
    (subst (λ (j : ℕ). IsTurned program round_time.clock t k1 k2 y z (input_at inputs j)) back turn) in
    let before : i ≡ length (take i ys) = sym (length-take-le i ys (Prim.omega (arith, within))) in
    process_made_at config t rounds xs k i (take i ys) x.0 y z k1 k2 before x.1 is (taken.number ∙ next) turned was

pub numbers_more : (ys : List Private) (i : ℕ) (z : Private) → i < length ys → z.number ≡ i + 1 → AreNumbered (take i ys)
    → AreNumbered (take i ys ++ z ∷ [])
numbers_more ys i z within is h =
    let next : i + 1 ≡ suc i = Prim.omega arith in
    let before : i ≡ length (take i ys) = sym (length-take-le i ys (Prim.omega (arith, within))) in
    numbered_more (take i ys) z (is ∙ (next ∙ ap suc before)) h

pub ready_more : (most i : ℕ) (xs : List Private) (k1 k2 : Kernel) (p : ℕ) (written : List ℕ) → i < length xs → p ≡ i + 1 → Moves k1 k2 p written
    → ((n : ℕ) → HasRoomForAskers k1 (n + 1) → HasRoomForAskers k2 n) → IsReady most i xs k1 → IsReady most (i + 1) xs k2
ready_more most i xs k1 k2 p written within number moves asking ready =
    let left : length xs - i ≡ (length xs - (i + 1)) + 1 = Prim.omega (arith, within) in
    record {
      stages = moved_stages k1 k2 p written moves ∙ ready.stages;
      asking = asking (length xs - (i + 1)) (subst (λ (n : ℕ). HasRoomForAskers k1 n) left ready.asking);
      transcripts = λ j x from e.
          moves.others (suc j) (vec_len x.output + (most + most)) (λ f. absurd (Prim.omega (arith, f, number, from)))
          (ready.transcripts j x (Prim.omega (arith, from)) e);
    }

-- Where the kernel stays as it is.
pub ready_still : (most i : ℕ) (xs : List Private) (k : Kernel) → IsReady most i xs k → IsReady most (i + 1) xs k
ready_still most i xs k ready = record {
  stages = ready.stages;
  asking = fewer_askers k (length xs - i) (length xs - (i + 1)) (Prim.omega arith) ready.asking;
  transcripts = λ j x from e. ready.transcripts j x (Prim.omega (arith, from)) e;
}
