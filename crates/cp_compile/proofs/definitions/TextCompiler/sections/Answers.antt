use Rattle.std.proofs.Common.{◌≡◌, ◌+◌, ◌∷◌, ◌∙◌, List, ap, drop, map, refl, subst, sym}
use Rattle.std.proofs.lemmas.List.{at_drop_more, drop_all}
use Rattle.cp_model.specs.Abstract.{Definition}
use Rattle.cp_model.specs.Erase as erase
use Rattle.cp_model.specs.View as tree
use Rattle.cp_model.specs.declared.tree.Section.{Section}
use Rattle.cp_compile_emit.specs.Planning.{known_of}
use Rattle.cp_compile.proofs.TextsCompiled.{PartlyDefined, all_defined, more_defined}
use Rattle.cp_compile.proofs.definitions.TextCompiler.sections.Goals as goal

abbrev definitions : List Section → List Definition
definitions xs = erase.sections (map tree.section_of xs)

pub loop-section-init : goal.loop-section-init
loop-section-init c = λ g m text named are. record { so_far = m; are = are; named = named; rest = refl }

pub loop-section-preserved : goal.loop-section-preserved
loop-section-preserved c = λ g m text named are.
    let all = c.args.sections.now in
    let k = c.loop-section.section-index in
    let x = c.section-item.result in
    let step : drop k all ≡ x ∷ drop (k + 1) all =
    at_drop_more (λ (xs : List Section). xs) all k x c.loop-section-test.true ∙ ap (λ (y : Section). y ∷ drop (k + 1) all) (sym c.section-item.is) in
    let some =
    subst (λ (xs : List Section). PartlyDefined (known_of c.args.self.now.planner.now) g (definitions xs) (definitions all) m c.loop-section.emitter c.loop-section.firsts) step
    (c.loop-section.invariant g m text named are) in
    more_defined (known_of c.args.self.now.planner.now) g (erase.section (tree.section_of x)) (definitions (drop (k + 1) all)) (definitions all) m c.loop-section.emitter c.section.new.emitter
    c.loop-section.firsts c.section.new.firsts some (λ n here so. c.in_ok-section.ensures g n text here so)

pub returns : goal.returns
returns c = λ g m text named are.
    let all = c.args.sections.now in
    all_defined (known_of c.args.self.now.planner.now) g (definitions (drop c.loop-section.section-index all)) (definitions all) m c.loop-section.emitter c.loop-section.firsts
    (ap (λ (xs : List Section). definitions xs) (drop_all c.loop-section.section-index all c.loop-section-test.false)) (c.loop-section.invariant g m text named are)
