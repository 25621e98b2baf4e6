use Rattle.std.proofs.Common.{rules, ◌≡◌, ◌∷◌, ◌+◌, List, [], drop, false, get_or, refl, subst}
use Rattle.std.proofs.lemmas.List.{at_drop_all, at_drop_more}
use Rattle.cp_compile_symbols.specs.declared.variables.Declared.{Declared}
use Rattle.cp_compile_emit.specs.Planning.{types_of}
use Rattle.cp_compile_emit.proofs.Membership.{PartlyCounted, all_counted, one_counted}
use Rattle.cp_compile_emit.proofs.plan.Planner.first_variable.Goals as goal

-- A placeholder for an index past the end of a list of declared names.
abbrev nothing : Declared
nothing = record { name = record { ref_ptr = (0, 0); now = [] }; by_reference = false; of = 0 }

pub loop-d-init : goal.loop-d-init
loop-d-init c = λ g vs knows represent. record { others = vs; represent = represent; counts = refl }

pub loop-d-preserved : goal.loop-d-preserved
loop-d-preserved c = λ g vs knows represent.
    let types = types_of c.args.self.now in
    let all = c.args.parameters.now in
    let i = c.loop-d.d-index in
    let d = get_or all i nothing in
    let now = c.loop-d.next in
    let step : drop i all ≡ d ∷ drop (i + 1) all = at_drop_more (λ (ds : List Declared). ds) all i nothing c.loop-d-test.true in
    let some = subst (PartlyCounted g types vs c.args.at now) step (c.loop-d.invariant g vs knows represent) in
    let sum : c.in_ok-next.next ≡ now + c.in_ok-words.words = search rules in
    one_counted g types vs c.args.at now c.in_ok-next.next c.in_ok-words.words d (drop (i + 1) all) sum
    (λ v by_reference represents. c.in_ok-words.ensures g v knows by_reference represents) some

pub returns : goal.returns
returns c = λ g vs knows represent.
    all_counted g (types_of c.args.self.now) vs c.args.at c.loop-d.next (drop c.loop-d.d-index c.args.parameters.now)
    (at_drop_all (λ (ds : List Declared). ds) c.args.parameters.now c.loop-d.d-index c.loop-d-test.false)
    (c.loop-d.invariant g vs knows represent)
