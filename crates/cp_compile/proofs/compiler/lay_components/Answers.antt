use Rattle.std.proofs.Common.{rules, ◌≡◌, ◌+◌, ◌++◌, ◌∷◌, ◌∙◌, List, [], ap, length, refl, subst, sym}
use Rattle.cp_model.specs.Declarations.{declarations, globals}
use Rattle.cp_model_program.specs.Compile as code
use Rattle.cp_compile.specs.declared.components.Owner.{Owner}
use Rattle.cp_compile.specs.CompiledComponents.{AreOwners}
use Rattle.cp_compile.specs.CompiledPrograms.{monitor_owners, process_owners, text_of, text_types}
use Rattle.cp_compile.proofs.ProgramsCompiled.{initial_known, initial_owner}
use Rattle.cp_compile.proofs.compiler.lay_components.Goals as goal

pub returns : goal.returns
returns c = λ known represents made plans.
    let tree = c.args.tree.now in
    let t = text_of tree in
    let g = globals t in
    let types = text_types t in
    let vs = declarations g t.initial.variables in
    let body : c.in_ok-body.body ≡ c.args.code.now.first + c.in_ok-routines.routines = search rules in
    let routines : c.in_ok-routines.routines ≡ length tree.routines.items = search rules in
    let monitors : AreOwners known g c.add_owners.new.owners.items (monitor_owners t) =
    c.in_ok-add_owners.ensures known g types.firsts t.initial.variables vs [] (initial_known _ known tree c.args.code.now c.args.plans refl refl represents made plans)
    (subst (λ (os : List Owner). AreOwners known g os []) (sym c.new-monitors.ensures.items) tt) in
    let o = c.in_ok-of.field-0 in
    let x : code.Owner = record { system = t.initial; body = length types.compiled.units + length t.initial.routines } in
    let own = initial_owner c.args.tables.now known tree c.args.code.now c.args.plans c.in_ok-body.body c.in_ok-routines.routines o represents made plans body routines c.in_ok-of.ensures in
    let pushed : c.push.new.self.items ≡ o ∷ [] = c.in_ok-push.ensures.items ∙ ap (λ (os : List Owner). os ++ o ∷ []) c.new-processes.ensures.items in
    let processes : AreOwners known g c.add_owners-2.new.owners.items (process_owners t) =
    c.in_ok-add_owners-2.ensures known g types.firsts t.initial.variables vs (x ∷ []) (initial_known _ known tree c.args.code.now c.args.plans refl refl represents made plans)
    (subst (λ (os : List Owner). AreOwners known g os (x ∷ [])) (sym pushed) (own, tt)) in
    let laid = (rw c.deref.ensures.value at c.in_ok-monitors.ensures) known g (monitor_owners t) monitors in
    let behind = (rw c.deref-2.ensures.value at c.in_ok-processes.ensures) known g (process_owners t) processes in
    record {
      monitors = laid.monitors;
      processes = behind.processes ∙ ap (λ n. code.processes_at g n (process_owners t)) laid.words;
      shared = behind.end ∙ ap (λ n. n + code.sum_words (code.waiting_words g) (process_owners t)) laid.words;
    }
