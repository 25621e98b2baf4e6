use Rattle.std.proofs.Common.{◌≡◌, ◌-◌, List, None, Some, slice_get, ap, sym, ◌∙◌}
use Rattle.std.proofs.lemmas.Option.{slice_get-get_or, slice_get_past}
use Rattle.cp_program.specs.View as view
use Rattle.cp_law_search.specs.Calls.{way_on}
use Rattle.cp_private.specs.declared.private.Private.{Private}
use Rattle.cp_kernel.specs.KernelOf.{kernel_of}
use Rattle.cp_search_states.proofs.Places.{no_part_of, part_of}
use Rattle.cp_search_states.proofs.state.SearchState.way.Goals as goal

pub returns-in-Some : goal.returns-in-Some
returns-in-Some c = λ inputs.
    let p = c.args.p in
    let xs = c.args.self.now.privates.items in
    let x = c.private.result.now in
    let lookup = c.in-Some.ensures.lookup in
    let here : slice_get xs (p - 1) ≡ Some x =
    ap (λ (zs : List Private). slice_get zs (p - 1)) (sym c.deref.ensures.value)
    ∙ (slice_get-get_or c.deref.result.now (p - 1) c.in-Some.private.now lookup.3.0 ∙ ap (λ (z : Private). Some z) (sym (c.private.ensures ∙ lookup.1))) in
    c.way_of.ensures (inputs p)
    ∙ ap (way_on (view.program c.args.program.now) (kernel_of c.args.self.now.kernel)) (sym (part_of inputs xs p x c.requires here))

pub returns-in-None : goal.returns-in-None
returns-in-None c = λ inputs.
    let p = c.args.p in
    let xs = c.args.self.now.privates.items in
    let lookup = c.in-None.ensures.lookup in
    let none : slice_get xs (p - 1) ≡ None =
    ap (λ (zs : List Private). slice_get zs (p - 1)) (sym c.deref.ensures.value) ∙ slice_get_past c.deref.result.now (p - 1) lookup.3 in
    ap (way_on (view.program c.args.program.now) (kernel_of c.args.self.now.kernel)) (sym (no_part_of inputs xs p none))
