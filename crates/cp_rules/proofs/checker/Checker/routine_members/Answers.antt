use Rattle.std.proofs.Common.{◌≡◌, ◌<◌, ◌≤◌, ap, arith, length, slice_get, sym, subst, ◌∙◌}
use Rattle.cp_model.specs.RulesEnvironment.{Text}
use Rattle.cp_model.specs.declared.rules.Entity.{Entity}
use Rattle.cp_base_names.specs.Tables.{AreDistinct}
use Rattle.cp_rules.specs.Checking.{State}
use Rattle.cp_rules.proofs.RoutinesAmong.{next_added, none_within}
use Rattle.cp_rules.proofs.checker.Checker.routine_members.Goals as goal
use Rattle.cp_rules.proofs.checker.Checker.routine_members.Goals.{in-Some+in_ok-add_member-in-Some, in-None}

pub loop-number-preserved : goal.loop-number-preserved
loop-number-preserved c =
    let names = c.args.self.now.env.names in
    let i = c.loop-number.number in
    let ms = c.loop-number.members in
    let opened : c.self.inside.environment.names ≡ names = ap (λ (z : State). z.env.names) c.self.view_is in
    let within : i < length names = subst (λ n. i < n) (c.name_count-count.ensures.count ∙ ap length opened) c.loop-number-test.true in
    let distinct : AreDistinct names = subst AreDistinct opened c.name_count-count.ensures.distinct in
    elim c.match-name.branch [
      | in-Some+in_ok-add_member-in-Some w ↦
          let e : Text × Entity = (w.in-Some.name.now, w.in-Some.entity) in
          let now = w.members-is ∙ w.in_ok-add_member-in-Some.ensures in
          let next = next_added ms c.match-name.members names i e distinct (sym (w.in-Some.ensures ∙ ap (λ ns. slice_get ns i) opened)) now c.loop-number.invariant.absent in
          record { members = next.members ∙ c.loop-number.invariant.members; absent = next.absent }
      | in-None w ↦ absurd (none_within names i within (w.in-None.ensures ∙ ap (λ ns. slice_get ns i) opened))
    ]

pub add_member-requires : goal.add_member-requires
add_member-requires c =
    let i = c.loop-number.number in
    let here : i ≤ i = omega arith in
    let e : Text × Entity = (c.in-Some.name.now, c.in-Some.entity) in
    let opened = ap (λ (z : State). slice_get z.env.names i) c.self.view_is in
    c.loop-number.invariant.absent i here e (sym (c.in-Some.ensures ∙ opened))
