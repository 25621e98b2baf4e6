use Rattle.std.proofs.Common.{◌≡◌, ◌+◌, ◌∷◌, ◌∙◌, List, [], ap, drop, map, refl, subst, sym}
use Rattle.std.proofs.lemmas.List.{at_drop_more, drop_all}
use Rattle.cp_model.specs.Abstract.{Definition}
use Rattle.cp_model.specs.Erase as erase
use Rattle.cp_model.specs.View as tree
use Rattle.cp_model.specs.declared.tree.TypeDefinition.{TypeDefinition}
use Rattle.cp_compile_emit.specs.Planning.{known_of}
use Rattle.cp_compile.proofs.TextsCompiled.{PartlyDefined, all_defined, more_defined}
use Rattle.cp_compile.proofs.definitions.TextCompiler.types.Goals as goal

abbrev definitions : List TypeDefinition → List Definition
definitions ds = map erase.type_definition (map tree.type_definition ds)

pub loop-d-init : goal.loop-d-init
loop-d-init c = λ g m text named are. record { so_far = m; are = are; named = named; rest = refl }

pub loop-d-preserved : goal.loop-d-preserved
loop-d-preserved c = λ g m text named are.
    let all = c.args.list.now in
    let k = c.loop-d.d-index in
    let d = c.d-item.result in
    let step : drop k all ≡ d ∷ drop (k + 1) all =
    at_drop_more (λ (ds : List TypeDefinition). ds) all k d c.loop-d-test.true ∙ ap (λ (e : TypeDefinition). e ∷ drop (k + 1) all) (sym c.d-item.is) in
    let some =
    subst (λ (ds : List TypeDefinition). PartlyDefined (known_of c.args.self.now.planner.now) g (definitions ds) (definitions all) m c.loop-d.emitter c.loop-d.firsts) step
    (c.loop-d.invariant g m text named are) in
    more_defined (known_of c.args.self.now.planner.now) g (definitions (d ∷ [])) (definitions (drop (k + 1) all)) (definitions all) m c.loop-d.emitter c.definition.new.emitter c.loop-d.firsts
    c.definition.new.firsts some (λ n here so. c.in_ok-definition.ensures g n text here.0 so)

pub returns : goal.returns
returns c = λ g m text named are.
    let all = c.args.list.now in
    all_defined (known_of c.args.self.now.planner.now) g (definitions (drop c.loop-d.d-index all)) (definitions all) m c.loop-d.emitter c.loop-d.firsts
    (ap (λ (ds : List TypeDefinition). definitions ds) (drop_all c.loop-d.d-index all c.loop-d-test.false)) (c.loop-d.invariant g m text named are)
