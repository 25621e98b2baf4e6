use Rattle.std.proofs.Common.{◌≡◌, ◌∙◌, ◌&&◌, ◌++◌, ap, false, nat_eq, not, of_z, rules, subst, sym, to_z, true, w32}
use Rattle.std.proofs.Math.Bool.{and-false}
use Rattle.std.proofs.lemmas.Bool.{ne_eqb, true≢false}
use Rattle.std.specs.List.{list_any}
use Rattle.std.specs.Ordering.{int_eq}
use Rattle.cp_model.specs.RulesStatements.{is_among, with_label}
use Rattle.cp_rules_body.specs.Labels.{IsGreatest, SameLabels, labels_of}
use Rattle.cp_rules_body.proofs.LabelsReported.{among_others, ascending_added, found, greater_is_new, none_added, not_found, other_added, seen_again, seen_ascending}
use Rattle.cp_rules_body.proofs.labels.Labels.add.Goals as goal
use Rattle.cp_rules_body.proofs.labels.Labels.add.Goals.{then-label-self+else-is_greatest+else-is_ok, else-label-self}

-- ---- a greater label that is new

ordinal_is : (c : goal.In_ok-push) → to_z w32 (of_z w32 c.args.label.1) ≡ c.args.label.1
ordinal_is c = search rules

pub returns-then-is_greatest-clause-new : goal.returns-then-is_greatest-clause-new
returns-then-is_greatest-clause-new c =
    let label = c.args.label in
    let s = c.self.inside in
    let above = ((rw (c.deref.ensures.value, ordinal_is c) at c.is_greatest.ensures) c.self.invariant.0).0 c.if-is_greatest.true in
    sym (ap not (ap (is_among label) (sym c.self.view_is) ∙ greater_is_new label s.base s.ascending.items s.others.keys c.if-label-self.true above c.self.invariant.1))

pub returns-then-is_greatest-clause-added : goal.returns-then-is_greatest-clause-added
returns-then-is_greatest-clause-added c =
    let label = c.args.label in
    let s = c.self.inside in
    rw (c.in_ok-push.ensures.items, ordinal_is c, ← c.self.view_is)
    (ascending_added label s.base s.ascending.items s.others.keys c.if-label-self.true)

-- ---- a label that is found in ascending order

seen_before : (c : goal.Then-is_ok) → is_among c.args.label c.args.self.now ≡ true
seen_before c =
    let label = c.args.label in
    let s = c.self.inside in
    let all = c.deref-then-label-self.ensures.value in
    let there = found s.ascending.items label.1 c.binary_search.result (rw all at c.binary_search.ensures.bound) (rw all at c.binary_search.ensures.position)
    (sym c.is_ok.ensures.value ∙ c.if-is_ok.true) in
    ap (is_among label) (sym c.self.view_is) ∙ seen_ascending label s.base s.ascending.items s.others.keys c.if-label-self.true there

pub returns-then-is_ok-clause-new : goal.returns-then-is_ok-clause-new
returns-then-is_ok-clause-new c = sym (ap not (seen_before c))

pub returns-then-is_ok-clause-added : goal.returns-then-is_ok-clause-added
returns-then-is_ok-clause-added c = seen_again c.args.label c.args.self.now (seen_before c)

-- ---- another label

inserted_is : (c : goal.In_ok-insert) → to_z w32 (of_z w32 c.args.label.1) ≡ c.args.label.1
inserted_is c = search rules

not_ascending : (c : goal.In_ok-insert) → nat_eq c.args.label.0 c.self.inside.base && list_any (int_eq c.args.label.1) c.self.inside.ascending.items ≡ false
not_ascending c =
    let label = c.args.label in
    let s = c.self.inside in
    elim c.if-label-self.branch [
      | then-label-self+else-is_greatest+else-is_ok w ↦
          let all = w.deref-then-label-self.ensures.value in
          let absent = not_found s.ascending.items label.1 w.binary_search.result c.self.invariant.0 (rw all at w.binary_search.ensures.position)
          (sym w.is_ok.ensures.value ∙ w.if-is_ok.false) in
          ap (λ b. nat_eq label.0 s.base && b) absent ∙ and-false (nat_eq label.0 s.base)
      | else-label-self w ↦ ap (λ b. b && list_any (int_eq label.1) s.ascending.items) (ne_eqb label.0 s.base w.if-label-self.false)
    ]

not_greater : (c : goal.In_ok-insert) → c.args.label.0 ≡ c.self.inside.base → IsGreatest c.args.label.1 c.self.inside.ascending.items → ⊥
not_greater c of above =
    elim c.if-label-self.branch [
      | then-label-self+else-is_greatest+else-is_ok w ↦
          let greater = ((rw (w.deref.ensures.value, inserted_is c) at w.is_greatest.ensures) c.self.invariant.0).1 above in
          true≢false (sym greater ∙ w.if-is_greatest.false)
      | else-label-self w ↦ w.if-label-self.false of
    ]

pub invariant_of-self-2 : goal.invariant_of-self-2
invariant_of-self-2 c =
    let s = c.self.inside in (
      c.self.invariant.0,
      none_added c.args.label s.base s.ascending.items s.others.keys c.insert.new.self.keys (not_greater c) c.in_ok-insert.ensures.updates.0 c.self.invariant.1,
    )

pub returns-clause-new : goal.returns-clause-new
returns-clause-new c =
    let label = c.args.label in
    let s = c.self.inside in
    c.in_ok-insert.ensures.added
    ∙ ap not (among_others label s.base s.ascending.items s.others.keys (not_ascending c) ∙ ap (is_among label) c.self.view_is)

pub returns-clause-added : goal.returns-clause-added
returns-clause-added c =
    let label = c.args.label in
    let s = c.self.inside in
    let new = c.insert.new.self.keys in
    subst (λ labels. SameLabels (labels_of s.base s.ascending.items ++ new) (with_label labels label)) c.self.view_is
    (other_added label s.base s.ascending.items s.others.keys new c.in_ok-insert.ensures.updates.0)
