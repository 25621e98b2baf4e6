use Rattle.std.proofs.Common.{◌≡◌, ◌∷◌, ◌++◌, ◌+◌, ◌∙◌, List, [], ap, drop, false, get_or, sym}
use Rattle.std.proofs.lemmas.List.{append-nil, at_drop_all, at_drop_more}
use Rattle.cp_compile_symbols.specs.declared.variables.Declared.{Declared}
use Rattle.cp_compile_emit.specs.Members.{own_of}
use Rattle.cp_compile_emit.proofs.Membership.{keeps_one}
use Rattle.cp_compile_emit.proofs.members.own_parameters.Goals as goal

-- A placeholder for an index past the end of a list of declared names.
abbrev nothing : Declared
nothing = record { name = record { ref_ptr = (0, 0); now = [] }; by_reference = false; of = 0 }

pub loop-d-init : goal.loop-d-init
loop-d-init c = ap (λ (ds : List Declared). ds ++ own_of c.args.types.now c.args.list.now) c.new-kept.ensures.items

pub loop-d-preserved : goal.loop-d-preserved
loop-d-preserved c =
    let types = c.args.types.now in
    let all = c.args.list.now in
    let i = c.loop-d.d-index in
    let d = get_or all i nothing in
    let before = c.loop-d.kept.items in
    let rest = drop (i + 1) all in
    let step : own_of types (drop i all) ≡ own_of types (d ∷ rest) = at_drop_more (λ (ds : List Declared). own_of types ds) all i nothing c.loop-d-test.true in
    keeps_one types before c.keep.new.kept.items d rest c.in_ok-keep.ensures
    ∙ (ap (λ ds. before ++ ds) (sym step) ∙ c.loop-d.invariant)

pub returns : goal.returns
returns c =
    let left = at_drop_all (λ (ds : List Declared). own_of c.args.types.now ds) c.args.list.now c.loop-d.d-index c.loop-d-test.false in
    sym (append-nil c.loop-d.kept.items) ∙ (ap (λ ds. c.loop-d.kept.items ++ ds) (sym left) ∙ c.loop-d.invariant)
