use Rattle.std.proofs.Common.{◌≡◌, ◌++◌, ◌∷◌, ◌+◌, ◌∙◌, List, [], ap, drop, map, refl, subst, sym}
use Rattle.std.proofs.lemmas.List.{at_drop_all, at_drop_more}
use Rattle.cp_model.specs.Abstract as a
use Rattle.cp_model.specs.Declarations.{define, define_all}
use Rattle.cp_model.specs.Erase as erase
use Rattle.cp_model.specs.View as view
use Rattle.cp_model.specs.Types.{GlobalScope}
use Rattle.cp_model.specs.declared.tree.Section.{Section}
use Rattle.cp_compile_symbols.specs.Outer.{OuterRepresents}
use Rattle.cp_compile_symbols.proofs.outer.Outer.define_sections.Goals as goal

abbrev definitions : List Section → List a.Definition
definitions ss = erase.sections (map view.section_of ss)

define_both : (g : GlobalScope) (ds es : List a.Definition) → define_all g (ds ++ es) ≡ define_all (define_all g ds) es
define_both g [] es = refl
define_both g (d ∷ ds) es = define_both (define g d) ds es

pub loop-section-preserved : goal.loop-section-preserved
loop-section-preserved c = λ g scope.
    let all = c.args.sections.now in
    let i = c.loop-section.section-index in
    let d = c.section-item.result in
    let before = c.loop-section.invariant g scope in
    let own = erase.section (view.section_of d) in
    let rest = definitions (drop (i + 1) all) in
    let step : define_all before.0 (definitions (drop i all)) ≡ define_all (define_all before.0 own) rest =
    at_drop_more (λ ds. define_all before.0 (definitions ds)) all i d c.loop-section-test.true
    ∙ ap (λ (e : Section). define_all before.0 (definitions (e ∷ drop (i + 1) all))) (sym c.section-item.is)
    ∙ define_both before.0 own rest in
    (define_all before.0 own, c.in_ok-define_section.ensures before.0 before.1, sym step ∙ before.2)

pub returns : goal.returns
returns c = λ g scope.
    let all = c.args.sections.now in
    let before = c.loop-section.invariant g scope in
    let none = at_drop_all (λ ds. define_all before.0 (definitions ds)) all c.loop-section.section-index c.loop-section-test.false in
    subst (OuterRepresents c.loop-section.self) (sym none ∙ before.2) before.1
