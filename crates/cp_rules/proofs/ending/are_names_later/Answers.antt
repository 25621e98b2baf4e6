use Rattle.std.proofs.Common.{◌<◌, ◌&&◌, ◌+◌, Bool, ap, drop, length, sym, ◌∙◌}
use Rattle.cp_rules_cutoff.specs.Later.{names_later}
use Rattle.cp_rules.proofs.EarlyEnds.{names_from, no_name}
use Rattle.cp_rules.proofs.ending.are_names_later.Goals as goal
use Rattle.cp_rules.proofs.ending.are_names_later.Goals.{in-Some+else-not-is_entity_later, in_default}

pub returns-then-not-is_entity_later : goal.returns-then-not-is_entity_later
returns-then-not-is_entity_later c =
    let names = c.args.environment.now.names in
    let n = c.loop-number.number in
    let step = names_from c.args.first names n c.name.result (c.in-Some.field-0-0, c.in-Some.entity) c.name.ensures c.in-Some.is in
    sym (ap (λ (b : Bool). b && names_later c.args.first (drop (n + 1) names)) (sym c.is_entity_later.ensures ∙ c.if-not-is_entity_later.true))
    ∙ sym step ∙ c.loop-number.invariant

pub loop-number-preserved : goal.loop-number-preserved
loop-number-preserved c =
    let names = c.args.environment.now.names in
    let n = c.loop-number.number in
    let within : n < length names = rw c.name_count-number-end.ensures.count at c.loop-number-test.true in
    elim c.match-name.branch [
      | in-Some+else-not-is_entity_later w ↦
          sym (ap (λ (b : Bool). b && names_later c.args.first (drop (n + 1) names)) (sym w.is_entity_later.ensures ∙ w.if-not-is_entity_later.false))
          ∙ sym (names_from c.args.first names n c.name.result (w.in-Some.field-0-0, w.in-Some.entity) c.name.ensures w.in-Some.is)
          ∙ c.loop-number.invariant
      | in_default w ↦ absurd (no_name names n c.name.result within c.name.ensures w.in_default.is)
    ]
