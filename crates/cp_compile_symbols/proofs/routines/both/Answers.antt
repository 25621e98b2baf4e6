use Rattle.std.proofs.Common.{◌++◌, ◌∙◌, List, ap, map}
use Rattle.std.proofs.lemmas.List.{map-append}
use Rattle.cp_compile_symbols.specs.declared.variables.Declared.{Declared}
use Rattle.cp_compile_symbols.specs.Variables.{declared_entry}
use Rattle.cp_compile_symbols.proofs.routines.both.Goals as goal

pub returns : goal.returns
returns c =
    ap (map declared_entry) c.in_ok-extend_from_slice.ensures.items
    ∙ map-append declared_entry c.in_ok-all.all.items c.args.variables.now
    ∙ ap (λ (ds : List Declared). map declared_entry ds ++ map declared_entry c.args.variables.now) c.in_ok-all.ensures.items
