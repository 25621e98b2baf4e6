use Rattle.std.proofs.Common.{◌≡◌, [], length, drop, ap, sym, ◌∙◌, arith}
use Rattle.std.proofs.lemmas.List.{length-map}
use Rattle.cp_model_program.specs.CodeNeeds.{need_of_all}
use Rattle.cp_program.specs.View as view
use Rattle.cp_compile_emit.specs.Emission.{operations_of, units_of, with_body}
use Rattle.cp_compile_emit.proofs.Changing.{length-changed}
use Rattle.cp_compile_emit.proofs.Needing.{need_changed, need_with_body}
use Rattle.cp_compile_emit.proofs.emitter.Emitter.close_loop.Goals as goal

pub invariant_of-self : goal.invariant_of-self
invariant_of-self c =
    let e = c.args.self.now in
    let f = with_body c.args.body in
    let as_long : length c.complete_at.new.operations.items ≡ length e.operations.items =
    sym (length-map c.complete_at.new.operations.items view.operation)
    ∙ ap length c.complete_at.ensures
    ∙ length-changed c.args.place f (operations_of e)
    ∙ length-map e.operations.items view.operation in
    record {
      begun = omega (arith, e.begun, as_long);
      known = e.known ∙ sym as_long;
      needed =
          e.needed
          ∙ sym (ap (λ os. need_of_all (units_of [] e) e.words (drop e.first os)) c.complete_at.ensures
          ∙ need_changed (units_of [] e) e.words f (need_with_body (units_of [] e) c.args.body) e.first c.args.place (operations_of e));
    }
