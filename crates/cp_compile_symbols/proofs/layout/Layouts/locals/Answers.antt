use Rattle.std.proofs.Common.{◌≡◌, ◌∷◌, ◌+◌, List, [], false, drop, get_or, map, refl, subst}
use Rattle.std.proofs.lemmas.List.{at_drop_all, at_drop_more}
use Rattle.cp_compile_symbols.specs.declared.locals.Locals.{Locals}
use Rattle.cp_compile_symbols.specs.declared.variables.Declared.{Declared}
use Rattle.cp_compile_symbols.specs.Variables.{declared_entry}
use Rattle.cp_compile_symbols.proofs.LocalsLaid.{PartlyLaid, all_laid, none_laid, one_laid}
use Rattle.cp_compile_symbols.proofs.layout.Layouts.locals.Goals as goal

pub loop-d-init : goal.loop-d-init
loop-d-init c = λ g types at vs laid represent counts.
    none_laid g types at vs (map declared_entry c.args.list.now) (record { words = c.args.head; names = c.new.result }) c.new.ensures counts represent

-- A placeholder for an index past the end of a list of declared names.
abbrev nothing : Declared
nothing = record { name = record { ref_ptr = (0, 0); now = [] }; by_reference = false; of = 0 }

pub loop-d-preserved : goal.loop-d-preserved
loop-d-preserved c = λ g types at vs laid represent counts.
    let all = c.args.list.now in
    let i = c.loop-d.d-index in
    let d = get_or all i nothing in
    let before = c.loop-d.locals in
    let after : Locals = record { words = c.sum-locals.result; names = c.add_first.new.table } in
    let step : map declared_entry (drop i all) ≡ declared_entry d ∷ map declared_entry (drop (i + 1) all) =
    at_drop_more (λ (ds : List Declared). map declared_entry ds) all i nothing c.loop-d-test.true in
    let partly = subst (λ ds. PartlyLaid g types at vs ds before) step (c.loop-d.invariant g types at vs laid represent counts) in
    one_laid g types at vs (declared_entry d) (map declared_entry (drop (i + 1) all)) before after
    (record { at = before.words; by_reference = d.by_reference; of = d.of }) c.in_ok-size.size
    (λ v way represents. c.in_ok-size.ensures g types v laid way represents) c.sum-locals.ensures refl refl refl c.in_ok-add_first.ensures partly

pub returns : goal.returns
returns c = λ g types at vs laid represent counts.
    all_laid g types at vs (map declared_entry (drop c.loop-d.d-index c.args.list.now)) c.loop-d.locals
    (at_drop_all (λ (ds : List Declared). map declared_entry ds) c.args.list.now c.loop-d.d-index c.loop-d-test.false)
    (c.loop-d.invariant g types at vs laid represent counts)
