use Rattle.std.proofs.Common.{◌≡◌, ◌∷◌, ◌++◌, ◌∙◌, [], ap, drop, length, map, sym}
use Rattle.cp_model_program.specs.CodeNeeds.{need_of_all}
use Rattle.cp_model_program.specs.CodedStatements as statements
use Rattle.cp_model_program.specs.Compile.{code_unit}
use Rattle.cp_compile_emit.specs.Emission.{operations_of, place_of, units_of}
use Rattle.cp_program.specs.View as view
use Rattle.cp_compile.specs.Compiles.{body_of}
use Rattle.cp_compile.proofs.UnitsCompiled.{unit_compiled}
use Rattle.cp_compile.proofs.unit.compile_unit.Goals as goal

pub returns-clause-code : goal.returns-clause-code
returns-clause-code c = λ known s d i is.
    let e0 = c.args.emitter.now in
    let e1 = c.begin.new.self in
    let e2 = c.push.new.self in
    let e3 = c.statements.new.emitter in
    let e4 = c.end.new.self in
    let last = view.operation c.args.last in
    let starts = view.plan_of known c.args.starts.items in
    let entry = c.in_ok-entry.entry in
    let emitted = c.in_ok-entry.ensures s i in
    let pushed : operations_of e2 ≡ operations_of e0 ++ last ∷ [] =
    c.in_ok-at.ensures.emits.operations_are ∙ ap (λ xs. xs ++ last ∷ []) c.begin.ensures.operations in
    let units : units_of known e3 ≡ units_of known e0 =
    ap (λ v. map (view.code_unit known) v.items) (emitted.emits.units_are ∙ c.in_ok-at.ensures.emits.units_are ∙ c.begin.ensures.units) in
    unit_compiled known s starts last (body_of c.args.body.now) e0 e4 d (place_of e2) c.in_ok-at.at entry e3.first e3.words
    (c.in_ok-at.ensures.place ∙ ap length c.begin.ensures.operations)
    (ap length pushed)
    (emitted.emits.first_is ∙ c.in_ok-at.ensures.emits.first_is ∙ c.begin.ensures.first)
    (emitted.emits.words_are ∙ c.in_ok-at.ensures.emits.words_are ∙ c.begin.ensures.words ∙ c.in_ok-words.ensures s i)
    emitted.entry
    (c.in_ok-end.ensures.operations ∙ emitted.emits.operations_are ∙ ap (λ xs. xs ++ (statements.emitted s (body_of c.args.body.now) 0 (place_of e2) c.in_ok-at.at).operations) pushed)
    (c.in_ok-end.ensures.unit known
    ∙ ap (λ us. us ++ code_unit entry starts (need_of_all us e3.words (drop e3.first (operations_of e3))) ∷ []) units
    ∙ ap (λ os. units_of known e0 ++ code_unit entry starts (need_of_all (units_of known e0) e3.words (drop e3.first os)) ∷ [])
    (sym c.in_ok-end.ensures.operations))
    is

pub returns-clause-origin : goal.returns-clause-origin
returns-clause-origin c = λ s i.
    let more = (c.in_ok-entry.ensures s i).emits.origins_continue in
    let first = c.in_ok-at.ensures.origin ∙ ap (λ v. v.items ++ c.args.translator.origin ∷ []) c.begin.ensures.origins in
    (more.0, ap (λ v. v.items) c.in_ok-end.ensures.origins ∙ more.1 ∙ ap (λ xs. xs ++ more.0) first)
