-- The code makes the rows of a written type from its parts and reports to one place; the definition returns rows and
-- violations. Each answer rewrites the tree's node to the definition's, and joins what the calls made in the same order.
-- Loops over fields and indices go from the left, where the definition goes by recursion: FieldsMade says it's the same.
use Rattle.std.proofs.Common.{◌≡◌, ◌+◌, ◌∷◌, ◌++◌, ℕ, List, drop, map, ap, sym, ◌∙◌}
use Rattle.std.proofs.lemmas.List.{at_drop_more, drop_all}
use Rattle.cp_model.specs.Syntax as s
use Rattle.cp_model.specs.RulesJudged.{both}
use Rattle.cp_model.specs.RulesTypes as ty
use Rattle.cp_model.specs.View as view
use Rattle.cp_model.specs.declared.tree.Fields.{Fields}
use Rattle.cp_model.proofs.TypeViews.{view_array, view_fields, view_subrange}
use Rattle.cp_model.proofs.Results.{if_ok}
use Rattle.cp_rules.specs.Checking.{first_of}
use Rattle.cp_rules.specs.Records as records
use Rattle.cp_rules.specs.Records.{or_first}
use Rattle.cp_rules.specs.Types.{with_groups, with_indices}
use Rattle.cp_rules.proofs.ArraysMade.{array_made, row_made}
use Rattle.cp_rules.proofs.TypesMade.{Added, group_added, groups_first, groups_made, groups_members, indices_answers, indices_made, record_made}
use Rattle.cp_rules.proofs.Fields.{or_nothing}
use Rattle.cp_rules.proofs.checker.Checker.+types.Goals as goal

pub type_of-returns-in-Subrange : goal.type_of-returns-in-Subrange
type_of-returns-in-Subrange t c =
    let old = c.args.self.now in
    let bounds = c.in-Subrange.bounds in
    let low = bounds.value.0 in
    let high = bounds.value.1 in
    let v : view.type_expression c.args.written.now ≡ s.Subrange low high = rw c.in-Subrange.is (view_subrange bounds) in
    let row = rw (c.deref.ensures, c.deref-in-Subrange.ensures) at c.subrange-row.ensures in
    if_ok c.make_type.result
    (λ of known. rw v (row_made old c.subrange-row.new.self c.make_type.new.self
    (both (ty.constant old.env low) (ty.constant old.env high) (ty.c2_c3_subrange (ty.constant_at high))) c.subrange-row.result of row known))
    c.make_type.ensures

pub type_of-returns-in_ok-of-in-Array : goal.type_of-returns-in_ok-of-in-Array
type_of-returns-in_ok-of-in-Array t c =
    let at = c.in-Array.at in
    let is = view.types_of (map view.type_expression c.in-Array.indices.value.items) in
    let e = view.type_expression c.in-Array.element.value in
    let v : view.type_expression c.args.written.now ≡ s.Array at is e = rw c.in-Array.is (view_array at c.in-Array.indices c.in-Array.element) in
    let indices = rw (c.deref-in-Array-2.ensures.value, c.deref-in-Array.ensures) at c.in_ok-indices-in-Array.ensures in
    let element = rw c.deref-in-Array-3.ensures at c.in_ok-of-in-Array.ensures in
    let placed = rw c.deref-in-Array-4.ensures at c.judge_position-of.ensures in
    if_ok c.arrays.result
    (λ answer known. rw v (array_made c.args.self.now c.index_types.new.self c.type_of.new.self c.judge_position-of.new.self c.arrays.new.self
    at is e c.in_ok-indices-in-Array.indices.items c.in_ok-of-in-Array.of c.judge_position-of.result answer indices element placed known))
    c.arrays.ensures

pub index_types-loop-t-preserved : goal.index_types-loop-t-preserved
index_types-loop-t-preserved t c =
    let all = c.args.list.now in
    let i = c.loop-t.t-index in
    let old = c.loop-t.self in
    let one = view.type_expression c.t-item.result in
    let rest = view.types_of (map view.type_expression (drop (i + 1) all)) in
    let step : view.types_of (map view.type_expression (drop i all)) ≡ s.MoreTypes one rest =
    at_drop_more (λ ts. view.types_of (map view.type_expression ts)) all i c.t-item.result c.loop-t-test.true
    ∙ ap (λ f. view.types_of (map view.type_expression (f ∷ drop (i + 1) all))) (sym c.t-item.is) in
    let made = indices_made old c.type_of.new.self c.index_type.new.self one rest c.in_ok-of.of c.index_type.result c.in_ok-of.ensures c.index_type.ensures in
    let answers = indices_answers old c.type_of.new.self c.index_type.new.self one rest c.in_ok-of.of c.index_type.result c.in_ok-of.ensures c.index_type.ensures in
    record {
      made = made ∙ sym (ap (λ ts. with_indices old (ty.index_types old.env ts)) step) ∙ c.loop-t.invariant.made;
      answers = ap (λ rs. rs ++ map first_of (ty.index_types c.index_type.new.self.env rest).of) c.in_ok-push.ensures.items
          ∙ answers c.loop-t.answers.items ∙ sym (ap (λ ts. c.loop-t.answers.items ++ map first_of (ty.index_types old.env ts).of) step)
          ∙ c.loop-t.invariant.answers;
    }

added : (t : ℕ) (c : goal.field_group-After-note t)
    → let g : s.Variables = record { names = c.args.group.now.names.items; of = view.type_expression c.args.group.now.of } in
    Added c.args.self.now c.add_fields.new.self g c.args.fields.now.members c.note.new.self.members
    c.args.fields.now.first c.note.new.self.first
added t c =
    let g : s.Variables = record { names = c.args.group.now.names.items; of = view.type_expression c.args.group.now.of } in
    group_added c.args.self.now c.type_of.new.self c.judge_position-of.new.self c.add_fields.new.self g
    c.args.fields.now.members c.note.new.self.members c.args.fields.now.first c.add_fields.new.fields.first c.note.new.self.first
    c.in_ok-of.of c.judge_position-of.result c.number_or_any.result c.in_ok-of.ensures c.judge_position-of.ensures c.number_or_any.ensures
    (rw c.deref.ensures.value at c.in_ok-add_fields.ensures.diagnostics)
    (ap (λ f. f.members) c.note.ensures ∙ (rw c.deref.ensures.value at c.in_ok-add_fields.ensures.members))
    (rw c.deref.ensures.value at c.in_ok-add_fields.ensures.first) (ap (λ f. f.first) c.note.ensures)

pub field_group-returns-clause-state : goal.field_group-returns-clause-state
field_group-returns-clause-state t c = rw (view_fields c.args.group.now) (added t c).made

pub field_group-returns-clause-members : goal.field_group-returns-clause-members
field_group-returns-clause-members t c = rw (view_fields c.args.group.now) (added t c).members

pub field_group-returns-clause-first : goal.field_group-returns-clause-first
field_group-returns-clause-first t c = rw (view_fields c.args.group.now) (added t c).first

pub record_type-loop-group-preserved : goal.record_type-loop-group-preserved
record_type-loop-group-preserved t c =
    let all = c.args.groups.now in
    let i = c.loop-group.group-index in
    let old = c.loop-group.self in
    let new = c.field_group.new.self in
    let ms = c.loop-group.fields.members in
    let ns = c.field_group.new.fields.members in
    let g = view.variables c.group-item.result in
    let gs = map view.variables (drop (i + 1) all) in
    let step : map view.variables (drop i all) ≡ g ∷ gs =
    at_drop_more (map view.variables) all i c.group-item.result c.loop-group-test.true
    ∙ ap (λ f. map view.variables (f ∷ drop (i + 1) all)) (sym c.group-item.is) in
    let one : Added old new g ms ns c.loop-group.fields.first c.field_group.new.fields.first = record {
      made = c.in_ok-field_group.ensures.state;
      members = c.in_ok-field_group.ensures.members;
      first = c.in_ok-field_group.ensures.first;
    } in
    let f = c.loop-group.fields.first in
    let h = c.field_group.new.fields.first in
    record {
      made = groups_made old new g gs ms ns f h one ∙ sym (ap (λ hs. with_groups old (records.groups old.env ms hs)) step) ∙ c.loop-group.invariant.made;
      members = groups_members old new g gs ms ns f h one ∙ sym (ap (λ hs. (records.groups old.env ms hs).members) step) ∙ c.loop-group.invariant.members;
      first = groups_first old new g gs ms ns f h one ∙ sym (ap (λ hs. or_first f (records.groups old.env ms hs).violations) step) ∙ c.loop-group.invariant.first;
    }

pub record_type-returns : goal.record_type-returns
record_type-returns t c =
    let all = c.args.groups.now in
    let i = c.loop-group.group-index in
    let old = c.loop-group.self in
    let ms = c.loop-group.fields.members in
    let none = drop_all i all c.loop-group-test.false in
    let rest = λ (gs : List Fields). records.groups old.env ms (map view.variables gs) in
    if_ok c.make_record.result
    (λ answer known. record_made c.args.self.now old c.make_record.new.self c.args.at (map view.variables all) ms c.loop-group.fields.first answer
    (sym (ap (λ (gs : List Fields). with_groups old (rest gs)) none) ∙ c.loop-group.invariant.made)
    (sym (ap (λ (gs : List Fields). (rest gs).members) none) ∙ c.loop-group.invariant.members)
    (sym (ap (λ (gs : List Fields). or_first c.loop-group.fields.first (rest gs).violations) none ∙ or_nothing c.loop-group.fields.first) ∙ c.loop-group.invariant.first) known)
    c.make_record.ensures
