use Rattle.std.proofs.Common.{◌≡◌, ◌++◌, ◌∷◌, [], Some, length, refl, ap, subst, sym, ◌∙◌}
use Rattle.std.specs.Prelude.{option_map}
use Rattle.std.proofs.lemmas.Result.{on_ok_weaker}
use Rattle.cp_model.specs.Erase as erase
use Rattle.cp_model.specs.View as view
use Rattle.cp_compile_symbols.specs.Representing.{row_at}
use Rattle.cp_compile_symbols.specs.declared.types.TypeRow.TheVariants as row
use Rattle.cp_inspect.specs.Sinks.{held_by, visit_into}
use Rattle.cp_inspect.specs.Walks.{HeadIs, cursor}
use Rattle.cp_inspect.proofs.Sinks.{held_kept}
use Rattle.cp_inspect.proofs.Entering.{array_enters, class_enters, elsewhere_enters, record_enters}
use Rattle.cp_inspect.proofs.walk.Walk.enter.Goals as goal

pub returns-in-Some-Array : goal.returns-in-Some-Array
returns-in-Some-Array c =
    let there : row_at c.args.tables.now.types c.args.row ≡ Some (row.Array c.in-Some-Array.field-0-0 c.in-Some-Array.field-0-1 c.in-Some-Array.field-0-2) =
    sym c.row.ensures ∙ (ap (option_map (λ r. r.now)) c.in-Some-Array.is ∙ ap (λ r. Some r) c.in-Some-Array.field-0-is) in
    on_ok_weaker c.open.result
    (λ stack s.
    let old = c.args.self.now in
    let new = c.open.new.self in
    let out = c.args.out.now.items in
    array_enters c.args.tables.now (visit_into s c.args.walk_output.now) c.args.row old new (held_by s old out) (held_by s new out) (held_kept s old new out c.open.ensures.leaves)
    c.in-Some-Array.field-0-0 c.in-Some-Array.field-0-1 c.in-Some-Array.field-0-2 there stack (ap (λ p. p.items) c.open.ensures.path) c.open.ensures.place)
    c.open.ensures.stack

pub returns-in-Some-Record : goal.returns-in-Some-Record
returns-in-Some-Record c =
    let there : row_at c.args.tables.now.types c.args.row ≡ Some (row.Record c.in-Some-Record.field-0-0) =
    sym c.row.ensures ∙ (ap (option_map (λ r. r.now)) c.in-Some-Record.is ∙ ap (λ r. Some r) c.in-Some-Record.field-0-is) in
    on_ok_weaker c.open-in-Some-Record.result
    (λ stack s.
    let old = c.args.self.now in
    let new = c.open-in-Some-Record.new.self in
    let out = c.args.out.now.items in
    record_enters c.args.tables.now (visit_into s c.args.walk_output.now) c.args.row old new (held_by s old out) (held_by s new out)
    (held_kept s old new out c.open-in-Some-Record.ensures.leaves) c.in-Some-Record.field-0-0 there stack
    (ap (λ p. p.items) c.open-in-Some-Record.ensures.path) c.open-in-Some-Record.ensures.place)
    c.open-in-Some-Record.ensures.stack

pub returns-in_ok-pass-in-Some : goal.returns-in_ok-pass-in-Some
returns-in_ok-pass-in-Some c =
    let tables = c.args.tables.now in
    let old = c.args.self.now in
    let there : row_at tables.types c.args.row ≡ Some (row.Component c.in-Some-Component.system c.in-Some-Component.field-0-1) =
    sym c.row.ensures ∙ (ap (option_map (λ r. r.now)) c.in-Some-Component.is ∙ ap (λ r. Some r) c.in-Some-Component.field-0-is) in
    on_ok_weaker c.open-in-Some.result
    (λ stack s.
    let new = c.open-in-Some.new.self in
    let out = c.args.out.now.items in
    class_enters tables (visit_into s c.args.walk_output.now) c.args.row old new (held_by s old out) (held_by s new out)
    (held_kept s old new out (c.open-in-Some.ensures.leaves ∙ c.pass.ensures.leaves)) c.in-Some-Component.system c.in-Some.head c.in-Some-Component.field-0-1 there
    (λ g y scope is. subst (HeadIs g (erase.system (view.system y.now))) c.in-Some.is (c.in_ok-head-in-Some-Component.ensures g y scope is))
    (stack ∙ (λ i. (c.pass.ensures.stack i).items ++ cursor c.args.row 0 (length (c.pass.ensures.path i).items) ∷ []))
    (ap (λ p. p.items) (c.open-in-Some.ensures.path ∙ c.pass.ensures.path)) (c.open-in-Some.ensures.place ∙ c.in_ok-pass-in-Some.ensures.place))
    c.open-in-Some.ensures.stack

pub returns-in-None-2 : goal.returns-in-None-2
returns-in-None-2 c =
    λ s.
    let held = held_by s c.args.self.now c.args.out.now.items in
    let tables = c.args.tables.now in
    let there : row_at tables.types c.args.row ≡ Some (row.Component c.in-Some-Component.system c.in-Some-Component.field-0-1) =
    sym c.row.ensures ∙ (ap (option_map (λ r. r.now)) c.in-Some-Component.is ∙ ap (λ r. Some r) c.in-Some-Component.field-0-is) in
    elsewhere_enters tables (visit_into s c.args.walk_output.now) c.args.row c.args.self.now c.args.self.now held held refl c.in-Some-Component.system c.in-Some-Component.field-0-1 there
    (λ g y scope is. subst (HeadIs g (erase.system (view.system y.now))) c.in-None-2.is (c.in_ok-head-in-Some-Component.ensures g y scope is))
