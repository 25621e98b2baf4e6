use Rattle.std.proofs.Common.{◌≡◌, ◌-◌, List, [], ℕ, None, Option, Some, slice_get, sym, ap, ◌∙◌}
use Rattle.std.specs.Prelude.{option_map}
use Rattle.cp_private.specs.States.{private_of}
use Rattle.cp_model_machine.specs.PrivateStates.{PrivateState}
use Rattle.cp_rounds_handoff.specs.Inputs.{input_of}
use Rattle.cp_rounds.specs.Views.{machine_of}
use Rattle.cp_rounds.proofs.machine.Machine.output.Goals as goal

pub returns-in-Some : goal.returns-in-Some
returns-in-Some c =
    let parts = (machine_of c.args.self.now).parts in
    let input = input_of c.args.self.now.config.inputs.items c.args.p in
    let there : slice_get parts (c.args.p - 1) ≡ Some (private_of c.in-Some.private.now input) =
    sym c.private.ensures ∙ ap (option_map (λ x. private_of x.now input)) c.in-Some.is in
    c.output.ensures input ∙ ap (λ (o : Option PrivateState). elim o as (λ x. List ℕ) [ None ↦ [] | Some q ↦ q.output ]) (sym there)
