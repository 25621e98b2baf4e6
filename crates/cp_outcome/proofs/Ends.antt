-- The verdict is `Ended` exactly if all are done.
use Rattle.std.proofs.Common.{◌≡◌, ℕ, List, Bool, true, false, refl, ap, sym, ◌∙◌}
use Rattle.std.specs.Prelude.{if◌then◌else◌}
use Rattle.cp_model.specs.States.{Setup, State, processes}
use Rattle.cp_law_cores.specs.Verdicts.{all_pass, has_no_fault}
use Rattle.cp_law_servers.specs.Laws.{DoneIsSound, DoneIsStill}
use Rattle.cp_law_servers.specs.Servers.{all_done}
use Rattle.cp_law_stillness.specs.Stillness.{is_still}
use Rattle.cp_rounds.specs.declared.machine.Machine.{Machine}
use Rattle.cp_outcome.specs.Verdicts.{EndedMeansDone, IsVerdictOn}
use Rattle.cp_outcome.specs.declared.verdict.Verdict.{Verdict}
use Rattle.cp_outcome.specs.declared.verdict.Verdict.TheVariants.{Ended, Fault, Running, Stuck}

abbrev by : Bool → Bool → Bool → Verdict
by still sound done = if still then (if sound then (if done then Ended else Stuck) else Fault) else Running

only_done : (still sound done : Bool) → by still sound done ≡ Ended → done ≡ true
only_done true true true h = refl
only_done true true false h = absurd (cc)
only_done true false done h = absurd (cc)
only_done false sound done h = absurd (cc)

pub ended_is_done : DoneIsStill → DoneIsSound → (servers : List ℕ) (m : Machine) (v : Verdict) → IsVerdictOn servers m v → EndedMeansDone servers m v
ended_is_done still sound servers m v is setup s I =
    let ps = processes setup in
    let one = is_still setup s in
    let two = all_pass has_no_fault s ps in
    let three = all_done servers s ps in
    record {
      ended = λ e. only_done one two three (is setup s I ∙ e);
      done = λ h.
          let a : one ≡ true = still servers setup s h in
          let b : two ≡ true = sound servers s ps h in
          sym (is setup s I) ∙ (λ i. by (a i) (b i) (h i));
    }
