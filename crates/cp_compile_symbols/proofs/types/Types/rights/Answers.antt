use Rattle.std.proofs.Common.{◌≡◌, ◌∷◌, ◌+◌, ◌∙◌, Bool, true, false, List, [], ap, arith, drop, filter, length, map, refl, subst, sym, if◌then◌else◌}
use Rattle.std.proofs.lemmas.List.{at_drop_all, at_drop_more}
use Rattle.cp_model.specs.Abstract.{Name}
use Rattle.cp_model.specs.Declarations.{Variable, declared_group, is_component}
use Rattle.cp_model.specs.Erase as erase
use Rattle.cp_model.specs.Types.{ResolvedType}
use Rattle.cp_model.specs.declared.tree.Identifier.{Identifier}
use Rattle.cp_model.specs.declared.tree.Parameters.{Parameters}
use Rattle.cp_compile_symbols.specs.Layouts.{Counts, rights_among, rights_of}
use Rattle.cp_compile_symbols.specs.Representing.{name_type}
use Rattle.cp_compile_symbols.proofs.types.Types.rights.Goals as goal

group_counted : (r b : Bool) (t : ResolvedType) → is_component t ≡ b → (xs : List Identifier) (vs : List (Name × Variable))
    → length (filter (λ v. is_component v.1.type) (declared_group r t (map erase.name xs) vs))
    ≡ (if b then length xs else 0) + length (filter (λ v. is_component v.1.type) vs)
group_counted r true t is [] vs = omega arith
group_counted r false t is [] vs = omega arith
group_counted r true t is (x ∷ xs) vs = rw is (let more = group_counted r true t is xs vs in omega (arith, more))
group_counted r false t is (x ∷ xs) vs = rw is (group_counted r false t is xs vs)

pub loop-group-preserved : goal.loop-group-preserved
loop-group-preserved c = λ g scope.
    let all = c.args.groups.now in
    let i = c.loop-group.group-index in
    let p = c.group-item.result in
    let rest = drop (i + 1) all in
    let before = c.loop-group.invariant g scope in
    let own = rights_among g p in
    let step : rights_of g (drop i all) ≡ own + rights_of g rest =
    at_drop_more (λ (ps : List Parameters). rights_of g ps) all i p c.loop-group-test.true
    ∙ ap (λ (q : Parameters). rights_of g (q ∷ rest)) (sym c.group-item.is)
    ∙ group_counted _ (is_component (name_type p.of.name g)) (name_type p.of.name g) refl p.names.items _ in
    (before.0 + own, c.sum-count.ensures before.0 own before.1 (c.rights_among.ensures g scope), omega (arith, step, before.2))

pub returns : goal.returns
returns c = λ g scope.
    let before = c.loop-group.invariant g scope in
    let none = at_drop_all (λ (ps : List Parameters). rights_of g ps) c.args.groups.now c.loop-group.group-index c.loop-group-test.false in
    subst (Counts c.loop-group.count) (omega (arith, none, before.2)) before.1
