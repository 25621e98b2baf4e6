use Rattle.std.proofs.Common.{rules, ◌≡◌, ◌∙◌, Some, ap}
use Rattle.cp_model.proofs.Results.{if_ok}
use Rattle.cp_model_program.specs.Plans.{plan, plan_of_word}
use Rattle.cp_compile_symbols.specs.Representing.{row_at}
use Rattle.cp_compile_symbols.specs.declared.types.TypeRow.TheVariants as row
use Rattle.cp_program.proofs.Wide.{narrow}
use Rattle.cp_compile_emit.specs.Drafts.{plan_of}
use Rattle.cp_compile_emit.specs.Planning.{known_of, types_of}
use Rattle.cp_compile_emit.proofs.TypesPlanned.{as_array, as_queue, as_record, as_simple}
use Rattle.cp_compile_emit.proofs.plan.Planner.plan_type.Goals as goal

pub returns-in-Some-Simple : goal.returns-in-Some-Simple
returns-in-Some-Simple c =
    let types = types_of c.args.self.now in
    let known = known_of c.args.self.now in
    let s = c.in-Some-Simple.simple in
    let at : row_at types c.args.of ≡ Some (row.Simple s) = search rules in
    let same : narrow s.start ≡ s.start = search rules in
    if_ok c.plan_word.result
    (λ draft made g t knows represents.
    as_simple types c.args.of (λ u. plan_of known draft ≡ plan c.args.zeros g u) s at (λ u is. made known ∙ ap (plan_of_word c.args.zeros) same ∙ ap (plan c.args.zeros g) is) t represents)
    c.plan_word.ensures

pub returns-in-Some-Array : goal.returns-in-Some-Array
returns-in-Some-Array c =
    let types = types_of c.args.self.now in
    let known = known_of c.args.self.now in
    let low = narrow c.in-Some-Array.low in
    let high = narrow c.in-Some-Array.high in
    let element = c.in-Some-Array.element in
    let at : row_at types c.args.of ≡ Some (row.Array low high element) = search rules in
    if_ok c.plan_array.result
    (λ draft made g t knows represents.
    as_array types c.args.of (λ u. plan_of known draft ≡ plan c.args.zeros g u) low high element at (λ u one. made g u knows one) t represents)
    c.plan_array.ensures

pub returns-in-Some-Record : goal.returns-in-Some-Record
returns-in-Some-Record c =
    let types = types_of c.args.self.now in
    let known = known_of c.args.self.now in
    let fields = c.in-Some-Record.fields in
    let at : row_at types c.args.of ≡ Some (row.Record fields) = search rules in
    if_ok c.plan_members.result
    (λ draft made g t knows represents.
    as_record types c.args.of (λ u. plan_of known draft ≡ plan c.args.zeros g u) fields at (λ ms all. (rw c.deref.ensures.value at made) g ms knows all) t represents)
    c.plan_members.ensures

pub returns-in-Some-Queue : goal.returns-in-Some-Queue
returns-in-Some-Queue c =
    let types = types_of c.args.self.now in
    let known = known_of c.args.self.now in
    let at : row_at types c.args.of ≡ Some row.Queue = search rules in
    if_ok c.plan_word-in-Some-Queue.result
    (λ draft made g t knows represents. as_queue types c.args.of (λ u. plan_of known draft ≡ plan c.args.zeros g u) at (made known) t represents)
    c.plan_word-in-Some-Queue.ensures
