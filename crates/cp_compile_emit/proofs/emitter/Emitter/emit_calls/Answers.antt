use Rattle.std.proofs.Common.{rules, ◌≡◌, ◌+◌, [], ◌∷◌, ◌++◌, length, map, drop, ap, sym, ◌∙◌, append_assoc, length-append}
use Rattle.cp_model_program.specs.CodedStatements.{calls_at}
use Rattle.cp_model_program.specs.Programs as code
use Rattle.cp_program.specs.View as view
use Rattle.cp_compile_emit.specs.Emission.{coded_call, operations_of, origins_of_calls, place_of}
use Rattle.cp_compile_emit.proofs.CallsEmitted.{back_of, front_of}
use Rattle.cp_compile_emit.proofs.emitter.Emitter.emit_calls.Goals as goal

pub loop-made-preserved : goal.loop-made-preserved
loop-made-preserved c =
    let all = c.args.calls.items in
    let left = c.loop-made.left.items in
    let rest = c.pop.new.self.items in
    let at = place_of c.args.self.now in
    let old = operations_of c.args.self.now in
    let before = calls_at (map coded_call (drop (length left) all)) at c.args.next in
    let i = c.loop-made.invariant in
    let last : left ≡ rest ++ c.in-Some.made ∷ [] = search rules in
    let back : calls_at (map coded_call (drop (length rest) all)) at c.args.next ≡ calls_at (coded_call c.in-Some.made ∷ map coded_call (drop (length left) all)) at c.args.next =
    ap (λ xs. calls_at (map coded_call xs) at c.args.next) (back_of all left rest c.in-Some.made i.left last) in
    let place : place_of c.loop-made.self ≡ at + length before.operations = ap length i.emits.operations_are ∙ length-append old before.operations in
    let made = view.call c.in-Some.made.call in
    let into = c.in-Some.made.into in
    let origins : c.push.new.self.origins.items ≡ c.args.self.now.origins.items ++ origins_of_calls (drop (length rest) all) =
    c.in_ok-entry.ensures.origin
    ∙ (ap (λ xs. xs ++ c.in-Some.made.at ∷ []) i.origins
    ∙ (append_assoc c.args.self.now.origins.items (origins_of_calls (drop (length left) all)) (c.in-Some.made.at ∷ [])
    ∙ ap (λ cs. c.args.self.now.origins.items ++ origins_of_calls cs) (sym (back_of all left rest c.in-Some.made i.left last)))) in
    record {
      left = front_of all left rest c.in-Some.made i.left last;
      entry = c.in_ok-entry.ensures.place ∙ (place ∙ ap (λ e. e.entry) (sym back));
      emits = record {
        operations_are =
            c.in_ok-entry.ensures.emits.operations_are
            ∙ ((λ j. i.emits.operations_are j ++ code.Function made into (i.entry j) ∷ [])
            ∙ (append_assoc old before.operations (code.Function made into before.entry ∷ [])
            ∙ ap (λ e. old ++ e.operations) (sym back)));
        origins_continue = (origins_of_calls (drop (length rest) all), origins);
        units_are = c.in_ok-entry.ensures.emits.units_are ∙ i.emits.units_are;
        first_is = c.in_ok-entry.ensures.emits.first_is ∙ i.emits.first_is;
        words_are = c.in_ok-entry.ensures.emits.words_are ∙ i.emits.words_are;
      };
      origins = origins;
    }
