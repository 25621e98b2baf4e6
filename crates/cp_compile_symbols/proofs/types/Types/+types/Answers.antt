-- Rows of types are only added, so what represented a type before a call represents it after
-- (`still_represents`). Each answer puts the rows made by the calls under the new one. The loops
-- over groups and indices keep what was added so far, and that the definition's list is this
-- followed by what the rest adds.
use Rattle.std.proofs.Common.{◌≡◌, ◌++◌, ◌∷◌, ◌≤◌, ◌∙◌, ◌-◌, ◌+◌, ℕ, List, [], drop, get_or, map, length, ap, arith, refl, sym, subst}
use Rattle.cp_model.specs.declared.tree.TypeExpression.{TypeExpression}
use Rattle.std.proofs.lemmas.List.{append-nil, at_drop_more, drop_all}
use Rattle.cp_model.specs.Types.{NoMembers}
use Rattle.cp_model.specs.declared.tree.Fields.{Fields}
use Rattle.cp_model.proofs.Results.{if_ok}
use Rattle.cp_compile_symbols.specs.Representing.{AreMembers, MakesIndexed, entries_of, entry, with_group, with_groups, type_from}
use Rattle.cp_compile_symbols.proofs.Representing.{grows_more, indexed_more, indexed_none, still_scope, still_represents}
use Rattle.cp_compile_symbols.specs.declared.types.Field.{Field}
use Rattle.cp_compile_symbols.proofs.Groups.{GroupsAdded, all_added, none_added, one_added}
use Rattle.cp_compile_symbols.proofs.Written.{array_written, groups_written, names_written, record_written}
use Rattle.cp_compile_symbols.proofs.types.Types.+types.Goals as goal

pub group-returns : goal.group-returns
group-returns t c =
    let old = c.args.self.now in
    let new = c.resolve.new.self in
    let n = c.in_ok-of.of in
    let xs = c.args.group.now.names.items in
    record {
      grows = c.in_ok-of.ensures.grows;
      added = entries_of xs n;
      all = rw c.deref.ensures.value at c.in_ok-add_fields.ensures;
      represents = λ g later rest ms scope grows r.
          names_written later xs n (type_from c.args.group.now.of g) rest ms
          (still_represents new later grows n (type_from c.args.group.now.of g) (c.in_ok-of.ensures.represents g scope)) r;
    }

pub fields-loop-group-init : goal.fields-loop-group-init
fields-loop-group-init t c = ([], none_added AreMembers with_groups c.args.names.now c.args.self.now (map entry c.args.fields.now.items) c.args.groups.now)

pub fields-loop-group-preserved : goal.fields-loop-group-preserved
fields-loop-group-preserved t c =
    let all = c.args.groups.now in
    let i = c.loop-group.group-index in
    let f = c.group-item.result in
    let rest = drop (i + 1) all in
    let names = c.args.names.now in
    let before = map entry c.args.fields.now.items in
    let now = map entry c.loop-group.fields.items in
    let step : drop i all ≡ f ∷ rest =
    at_drop_more (λ (fs : List Fields). fs) all i f c.loop-group-test.true ∙ ap (λ (h : Fields). h ∷ rest) (sym c.group-item.is) in
    let some = subst (GroupsAdded names c.args.self.now c.loop-group.self before now c.loop-group.invariant.0 all) step c.loop-group.invariant.1 in (
      _,
      one_added AreMembers with_groups names c.args.self.now c.loop-group.self c.group.new.self before now (map entry c.group.new.fields.items)
          c.loop-group.invariant.0 all rest f (with_group f) (λ g ms. refl) some c.in_ok-group.ensures,
    )

pub fields-returns : goal.fields-returns
fields-returns t c =
    let all = c.args.groups.now in
    all_added AreMembers with_groups c.args.names.now c.args.self.now c.loop-group.self (map entry c.args.fields.now.items) (map entry c.loop-group.fields.items)
    c.loop-group.invariant.0 all (drop c.loop-group.group-index all) (drop_all c.loop-group.group-index all c.loop-group-test.false) (λ g ms. refl) c.loop-group.invariant.1

pub record-returns : goal.record-returns
record-returns t c =
    let all = c.args.groups.now in
    let fields = c.fields.new.fields in
    let last = c.fields.new.self in
    let new = c.add.new.self in
    let made = c.in_ok-fields.ensures in
    if_ok c.add.result
    (λ n adds. record {
      grows = grows_more c.args.self.now last new made.grows adds.grows;
      represents = λ g scope.
          let members : AreMembers new (made.added ++ []) (with_groups all g NoMembers) = made.represents g new [] NoMembers scope adds.grows tt in
          let same : map entry fields.items ≡ made.added ++ [] =
          made.all ∙ ap (λ (fs : List Field). map entry fs ++ made.added) c.new-fields.ensures.items ∙ sym (append-nil made.added) in
          (fields, adds.added, rw (same, ← groups_written g all) members);
    })
    c.add.ensures

pub arrays-loop-left-init : goal.arrays-loop-left-init
arrays-loop-left-init t c = record {
  within = omega arith;
  made = subst (λ is. MakesIndexed c.args.names.now c.args.self.now c.args.self.now is c.args.element c.args.element)
      (sym (drop_all (length c.args.indices.now) c.args.indices.now (omega arith)))
      (indexed_none c.args.names.now c.args.self.now c.args.element);
}

pub arrays-loop-left-preserved : goal.arrays-loop-left-preserved
arrays-loop-left-preserved t c =
    let all = c.args.indices.now in
    let k = c.loop-left.left in
    let x = c.index-indices-left.result in
    let names = c.args.names.now in
    let before = c.loop-left.invariant in
    record {
      within = omega (arith, before.within);
      made = subst (λ is. MakesIndexed names c.args.self.now c.array.new.self is c.args.element c.in_ok-of.of)
          (sym (last_of all (k - 1) k x (omega (arith, c.loop-left-test.true)) before.within c.index-indices-left.is))
          (indexed_more names c.args.self.now c.loop-left.self c.resolve.new.self c.array.new.self x (drop k all) c.args.element c.loop-left.of
          c.in_ok-index.index c.in_ok-of.of before.made c.in_ok-index.ensures c.in_ok-of.ensures);
    }
  where
    last_of : (all : List TypeExpression) (j k : ℕ) (x : TypeExpression) → k ≡ j + 1 → k ≤ length all → x ≡ get_or all j x
        → drop j all ≡ x ∷ drop k all
    last_of all j k x next within is =
        at_drop_more (λ (ts : List TypeExpression). ts) all j x (omega (arith, next, within))
        ∙ ap (λ (y : TypeExpression). y ∷ drop (j + 1) all) (sym is) ∙ ap (λ m. x ∷ drop m all) (sym next)

pub arrays-returns : goal.arrays-returns
arrays-returns t c =
    let none : c.loop-left.left ≡ 0 = omega (arith, c.loop-left-test.false) in
    subst (λ k. MakesIndexed c.args.names.now c.args.self.now c.loop-left.self (drop k c.args.indices.now) c.args.element c.loop-left.of) none
    c.loop-left.invariant.made

pub resolve-returns-in_ok-of-in-Array : goal.resolve-returns-in_ok-of-in-Array
resolve-returns-in_ok-of-in-Array t c =
    let names = c.args.names.now in
    let old = c.args.self.now in
    let e = c.in-Array.element in
    let is = c.in-Array.indices in
    let element = rw c.deref-in-Array.ensures at c.in_ok-of-in-Array.ensures in
    let arrays = rw (c.deref-in-Array-3.ensures.value, c.deref-in-Array-2.ensures) at c.arrays.ensures in
    if_ok c.arrays.result
    (λ n makes. rw c.in-Array.is
    (record {
      grows = grows_more old c.resolve.new.self c.arrays.new.self element.grows makes.grows;
      represents = λ g scope.
          rw (← array_written g c.in-Array.at is e)
          (makes.represents g (type_from e.value g) (still_scope old c.resolve.new.self element.grows names g scope) (element.represents g scope));
    }))
    arrays

pub resolve-returns-in-Record : goal.resolve-returns-in-Record
resolve-returns-in-Record t c =
    let records = rw (c.deref-in-Record-2.ensures.value, c.deref-in-Record.ensures) at c.record.ensures in
    if_ok c.record.result
    (λ n makes. rw c.in-Record.is
    (record { grows = makes.grows; represents = λ g scope. rw (← record_written g c.in-Record.at c.in-Record.groups) (makes.represents g scope) }))
    records
