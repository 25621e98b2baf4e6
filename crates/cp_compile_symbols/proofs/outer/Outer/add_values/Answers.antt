use Rattle.std.proofs.Common.{◌≡◌, ◌∷◌, ◌≤◌, ◌∙◌, ◌-◌, ◌+◌, ℕ, ℤ, pos, List, add-one, ap, arith, drop, get_or, length, subst, sym}
use Rattle.std.proofs.lemmas.List.{at_drop_more, drop_all}
use Rattle.cp_model.specs.Abstract.{BaseType, Name}
use Rattle.cp_model.specs.Types.{GlobalScope}
use Rattle.cp_model.specs.declared.tree.Identifier.{Identifier}
use Rattle.cp_compile_symbols.specs.declared.outer.Outer.{Outer}
use Rattle.cp_compile_symbols.specs.Outer.{Defines, OuterRepresents, with_value, with_values}
use Rattle.cp_compile_symbols.specs.Representing.{base_of}
use Rattle.cp_compile_symbols.proofs.outer.Outer.add_values.Goals as goal

pub loop-left-init : goal.loop-left-init
loop-left-init c = record {
  within = omega arith;
  defines = λ g scope.
      subst (λ (xs : List Identifier). OuterRepresents c.args.self.now (with_values (base_of c.args.base) (length c.args.values.now) xs g))
      (sym (drop_all (length c.args.values.now) c.args.values.now (omega arith))) scope;
}

-- One value more, before the others.
value_in_front : (new : Outer) (b : BaseType) (all : List Identifier) (j k : ℕ) (x : Identifier) (name : Name) (v : BaseType × ℤ) (g : GlobalScope) → k ≡ j + 1
    → k ≤ length all → x ≡ get_or all j x → name ≡ x.name → v ≡ (b, pos j)
    → OuterRepresents new (with_value name v (with_values b k (drop k all) g)) → OuterRepresents new (with_values b j (drop j all) g)
value_in_front new b all j k x name v g next within is named valued scope =
    subst (λ (xs : List Identifier). OuterRepresents new (with_values b j xs g)) (sym step)
    (subst (λ m. OuterRepresents new (with_value x.name (b, pos j) (with_values b m (drop k all) g))) (next ∙ add-one j)
    (rw (← named, ← valued) scope))
  where
    step : drop j all ≡ x ∷ drop k all
    step =
        at_drop_more (λ (ts : List Identifier). ts) all j x (omega (arith, next, within))
        ∙ ap (λ (y : Identifier). y ∷ drop (j + 1) all) (sym is) ∙ ap (λ m. x ∷ drop m all) (sym next)

pub loop-left-preserved : goal.loop-left-preserved
loop-left-preserved c =
    let k = c.loop-left.left in
    let x = c.index-values-left.result in
    let b = base_of c.args.base in
    let before = c.loop-left.invariant in
    record {
      within = omega (arith, before.within);
      defines = λ g scope.
          value_in_front c.add_constant.new.self b c.args.values.now (k - 1) k x c.as_bytes.result.now _ g (omega (arith, c.loop-left-test.true)) before.within
          c.index-values-left.is (c.as_bytes.ensures ∙ ap (λ (z : Identifier). z.name) (sym c.index-values-left.is)) c.in_ok-value.ensures
          (c.in_ok-add_constant.ensures (with_values b k (drop k c.args.values.now) g) (before.defines g scope));
    }

pub returns : goal.returns
returns c =
    let none : c.loop-left.left ≡ 0 = omega (arith, c.loop-left-test.false) in
    subst (λ k. Defines c.args.self.now c.loop-left.self (with_values (base_of c.args.base) k (drop k c.args.values.now))) none c.loop-left.invariant.defines
