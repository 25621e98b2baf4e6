use Rattle.std.proofs.Common.{rules, ◌≡◌, ◌≤◌, ◌∷◌, [], ◌++◌, length, map, drop, ap, sym, ◌∙◌, arith, length-append}
use Rattle.std.proofs.lemmas.List.{drop-append-le, length-map, map-append}
use Rattle.cp_model_program.specs.CodeNeeds.{greater_need, need_of, need_of_all}
use Rattle.cp_program.specs.View as view
use Rattle.cp_compile_emit.specs.Emission.{operations_of, units_of}
use Rattle.cp_compile_emit.proofs.Needing.{need_more}
use Rattle.cp_compile_emit.proofs.emitter.Emitter.push.Goals as goal

pub invariant_of-self-2 : goal.invariant_of-self-2
invariant_of-self-2 c =
    let e = c.args.self.now in
    let o = view.operation c.args.operation in
    let all : map view.operation c.push.new.self.items ≡ operations_of e ++ o ∷ [] =
    ap (map view.operation) c.in_ok-push.ensures.items ∙ map-append view.operation e.operations.items (c.args.operation ∷ []) in
    let longer : length c.push.new.self.items ≡ length (e.operations.items ++ c.args.operation ∷ []) = ap length c.in_ok-push.ensures.items in
    let within : e.first ≤ length (operations_of e) = omega (arith, e.begun, length-map e.operations.items view.operation) in
    let own = c.in_ok-own.ensures ∙ ap (λ us. need_of (map (view.code_unit []) us) o) c.deref.ensures.value in
    record {
      begun = omega (arith, e.begun, longer, length-append e.operations.items (c.args.operation ∷ []));
      known = search rules;
      needed =
          c.greater-self.ensures
          ∙ ((λ i. greater_need (own i) (e.needed i))
          ∙ sym (ap (λ os. need_of_all (units_of [] e) e.words (drop e.first os)) all
          ∙ (ap (need_of_all (units_of [] e) e.words) (drop-append-le e.first (operations_of e) (o ∷ []) within)
          ∙ need_more (units_of [] e) e.words (drop e.first (operations_of e)) o)));
    }
