-- The statements of a `case`, from the last to the first.
use Rattle.std.proofs.Common.{◌≡◌, ◌∙◌, ◌+◌, ℕ, List, length, map, subst}
use Rattle.cp_model.specs.Abstract as a
use Rattle.cp_model_program.specs.CodedStatements.{arms_at, emitted, emitted_arms}
use Rattle.cp_model_program.specs.Scopes.{Scope}
use Rattle.cp_compile_emit.specs.Emission.{place_of}
use Rattle.cp_compile_emit.specs.declared.emitter.Emitter.{Emitter}
use Rattle.cp_program.specs.Labels.{arm}
use Rattle.cp_program.specs.declared.arm.Arm.{Arm}
use Rattle.cp_compile_lower.specs.Statements.{ArmsEnter, Enters}
use Rattle.cp_compile_lower.proofs.Sequencing.{emits_both, place_after}

pub arm_entered : (s : Scope) (ls : List a.Constant) (x : a.Statement) (rest : a.Arms) (low next place : ℕ) (old middle new : Emitter) (arms more : List Arm)
    → ArmsEnter old middle arms (emitted_arms s rest low (place_of old) next)
    → Enters middle new place (emitted s x low (place_of middle) next) → map arm more ≡ arms_at s.globals place ls (map arm arms)
    → ArmsEnter old new more (emitted_arms s (a.MoreArms ls x rest) low (place_of old) next)
arm_entered s ls x rest low next place old middle new arms more others own labels =
    let behind = emitted_arms s rest low (place_of old) next in
    let there =
    subst (λ at. Enters middle new place (emitted s x low at next)) (place_after old middle behind.operations others.emits) own in
    let this = emitted s x low (place_of old + length behind.operations) next in record {
      labels = labels ∙ (λ i. arms_at s.globals (there.entry i) ls (others.labels i));
      emits = emits_both old middle new behind.operations this.operations others.emits there.emits;
    }
