use Rattle.std.proofs.Common.{rules, ◌≡◌, ◌+◌, ◌++◌, ◌<◌, [], suc, drop, length, map, sym, subst, ap, ◌∙◌, arith}
use Rattle.std.specs.Prelude.{slice_index_or}
use Rattle.cp_model_machine.specs.Passing as plain
use Rattle.cp_model_machine.specs.Reports.{queue_visit, queues_text}
use Rattle.cp_compile_symbols.specs.Representing.{entry}
use Rattle.cp_compile_symbols.specs.declared.types.Field.{Field}
use Rattle.cp_program.specs.View as view
use Rattle.cp_inspect.proofs.MembersReported.{drop_first}
use Rattle.cp_inspect.proofs.QueuesReported.{QueuesToReport, one_searched}
use Rattle.cp_inspect.specs.Sinks.{IntoText}
use Rattle.cp_inspect.specs.Walks.{ReportsComponent}
use Rattle.cp_inspect.proofs.status.push_queue.Goals as goal

pub loop-index-preserved : goal.loop-index-preserved
loop-index-preserved c =
    λ g vs scope h.
    let program = view.program c.args.program.now in
    let place = c.args.place in
    let tables = c.args.tables.now in
    let xs = c.args.monitors.now in
    let i = c.loop-index.index in
    let out = c.loop-index.out.items in
    let after = c.component.new.out.items in
    let text = c.args.out.now.items ++ queues_text g program place 1 vs in
    let below : i < length xs = search rules in
    let none : Field = record { name = record { ref_ptr = (0, 0); now = [] }; of = 0 } in
    let before = subst (λ es. QueuesToReport g program place tables.types (suc i) es out text) (drop_first entry xs i none below) (c.loop-index.invariant g vs scope h) in
    let next : suc i ≡ i + 1 = omega arith in
    let start : c.monitor_start-start.result ≡ plain.monitor_start program (suc i) = c.monitor_start-start.ensures.start ∙ ap (plain.monitor_start program) (sym next) in
    let reports = subst (λ at. ReportsComponent tables (queue_visit place) (slice_index_or xs i none).of at out after) start (c.in_ok-component.ensures IntoText) in
    subst (λ n. QueuesToReport g program place tables.types (suc n) (map entry (drop n xs)) after text) next
    (one_searched g program place tables (suc i) (entry (slice_index_or xs i none)) (map entry (drop (suc i) xs)) out after text scope before reports)
