use Rattle.std.proofs.Common.{◌≡◌, ◌∷◌, ◌++◌, ◌+◌, ◌≤◌, ◌∙◌, ℕ, List, [], Some, add-one, ap, arith, drop, length, length-append, map, slice_get, subst, sym}
use Rattle.std.proofs.lemmas.List.{at_drop_more, drop_all}
use Rattle.cp_model.specs.Declarations.{declarations}
use Rattle.cp_model.specs.Erase as erase
use Rattle.cp_model.specs.View as tree
use Rattle.cp_model.specs.declared.tree.Expression.{Expression}
use Rattle.cp_model_program.specs.CodedTerms.{CodedArguments, init_argument, init_arguments, with_argument}
use Rattle.cp_compile_emit.specs.Emission.{coded_call}
use Rattle.cp_compile_lower.proofs.ArgumentsMade.{Finishes, all_made, declared_at, got, no_init_parameters, none_made, one_made, parameters_past}
use Rattle.cp_compile_lower.proofs.Initialising.{parameters_represent}
use Rattle.cp_compile_lower.proofs.translator.Translator.init_arguments.Goals as goal

pub loop-e-init : goal.loop-e-init
loop-e-init c =
    let made = c.no_arguments-made.result in
    let calls = c.args.calls.now.items in
    let es = erase.expressions (tree.expressions_of (map tree.expression c.args.es.now)) in record {
      count = ap length c.no_arguments-made.ensures.arguments;
      so_far = λ s y scope is.
          let ps = declarations s.globals y.parameters in
          subst (λ n. Finishes (map coded_call calls) calls made (init_arguments s y es ps n) (init_arguments s y es ps c.args.low))
          (sym c.no_arguments-made.ensures.temps) (none_made calls made (init_arguments s y es ps c.args.low) c.no_arguments-made.ensures.arguments);
    }

pub loop-e-preserved : goal.loop-e-preserved
loop-e-preserved c =
    let types = c.args.self.now.scope.tables.now.types in
    let k = c.loop-e.e-index in
    let all = c.args.es.now in
    let o = c.e-item.result in
    let e = erase.expression (tree.expression o) in
    let made = c.loop-e.made in
    let next = c.in_ok-next.next in
    let after = c.init_argument.new.calls.items in
    let longer : length c.push.new.self.items ≡ length (made.arguments.items ++ next.argument ∷ []) = ap length c.in_ok-push.ensures.items in
    let list = c.deref.result.now in
    let read = got list c.len.result c.get.result c.in-Some.parameter c.get.ensures.lookup.3 c.in-Some.is in
    let same : k ≡ c.len.result = omega (arith, c.len.ensures, c.loop-e.invariant.count, made.arguments.ok.0) in
    let there : slice_get c.args.table.now.parameters.items k ≡ Some c.in-Some.parameter.now =
    ap (λ xs. slice_get xs k) (sym c.deref.ensures.value) ∙ (ap (slice_get list) same ∙ read) in record {
      count = omega (arith, longer, length-append made.arguments.items (next.argument ∷ []), c.loop-e.invariant.count);
      so_far = λ s y scope is.
          let ps = declarations s.globals y.parameters in
          let declared = parameters_represent s.globals types c.args.table.now y is in
          let p = declared_at types c.args.table.now.parameters.items ps k c.in-Some.parameter.now declared there in
          let v = p.declared in
          let split : drop k ps ≡ v ∷ drop (k + 1) ps = p.split ∙ ap (λ n. v ∷ drop n ps) (sym (add-one k)) in
          let one = c.in_ok-next.ensures s y v scope is p.name p.type in
          let x = init_argument s y v e made.temps in
          let rest : ℕ → CodedArguments =
          λ low. init_arguments s y (erase.expressions (tree.expressions_of (map tree.expression (drop (k + 1) all)))) (drop (k + 1) ps) low in
          let left : List Expression → CodedArguments =
          λ es. init_arguments s y (erase.expressions (tree.expressions_of (map tree.expression es))) (drop k ps) made.temps in
          let step : left (drop k all) ≡ with_argument x (rest next.temps) =
          at_drop_more left all k o c.loop-e-test.true
          ∙ (ap (λ (q : Expression). left (q ∷ drop (k + 1) all)) (sym c.e-item.is)
          ∙ (ap (λ qs. init_arguments s y (erase.expressions (tree.expressions_of (map tree.expression (o ∷ drop (k + 1) all)))) qs made.temps) split
          ∙ ap (λ n. with_argument x (rest n)) (sym one.temps))) in
          let whole = init_arguments s y (erase.expressions (tree.expressions_of (map tree.expression all))) ps c.args.low in
          one_made (map coded_call c.args.calls.now.items) c.loop-e.calls.items after made (record { arguments = c.push.new.self; temps = next.temps }) next x
          (rest next.temps) whole
          (subst (λ r. Finishes (map coded_call c.args.calls.now.items) c.loop-e.calls.items made r whole) step (c.loop-e.invariant.so_far s y scope is)) one
          c.in_ok-push.ensures.items;
    }

pub returns : goal.returns
returns c = λ s y scope is.
    let k = c.loop-e.e-index in
    let all = c.args.es.now in
    let made = c.loop-e.made in
    let ps = declarations s.globals y.parameters in
    let before = map coded_call c.args.calls.now.items in
    let whole = init_arguments s y (erase.expressions (tree.expressions_of (map tree.expression all))) ps c.args.low in
    let left : List Expression → CodedArguments =
    λ es. init_arguments s y (erase.expressions (tree.expressions_of (map tree.expression es))) (drop k ps) made.temps in
    all_made before c.loop-e.calls.items made whole
    (subst (λ es. Finishes before c.loop-e.calls.items made (left es) whole) (drop_all k all c.loop-e-test.false)
    (c.loop-e.invariant.so_far s y scope is))

pub returns-in_default : goal.returns-in_default
returns-in_default c = λ s y scope is.
    let k = c.loop-e.e-index in
    let all = c.args.es.now in
    let made = c.loop-e.made in
    let types = c.args.self.now.scope.tables.now.types in
    let table = c.args.table.now in
    let ps = declarations s.globals y.parameters in
    let before = map coded_call c.args.calls.now.items in
    let es = erase.expressions (tree.expressions_of (map tree.expression (drop k all))) in
    let whole = init_arguments s y (erase.expressions (tree.expressions_of (map tree.expression all))) ps c.args.low in
    let none : length c.deref.result.now ≤ c.len.result = rw c.in_default.is at c.get.ensures.lookup.3 in
    let same = ap length c.deref.ensures.value in
    let past : length table.parameters.items ≤ k = omega (arith, none, same, c.len.ensures, c.loop-e.invariant.count, made.arguments.ok.0) in
    all_made before c.loop-e.calls.items made whole
    (subst (λ r. Finishes before c.loop-e.calls.items made r whole)
    (ap (λ qs. init_arguments s y es qs made.temps) (parameters_past types table.parameters.items ps k (parameters_represent s.globals types table y is) past)
    ∙ no_init_parameters s y es made.temps) (c.loop-e.invariant.so_far s y scope is))
