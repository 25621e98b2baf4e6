use Rattle.std.proofs.Common.{◌≡◌, ◌≤◌, ◌++◌, ℕ, None, Some, drop, slice_get}
use Rattle.cp_model.specs.Names.{lookup}
use Rattle.cp_model.specs.Rules.{routine_members}
use Rattle.cp_model.specs.RulesEnvironment.{Text}
use Rattle.cp_model.specs.declared.rules.Entity.{Entity}
use Rattle.cp_rules.proofs.checker.Checker.routine_members.Given as goal

-- with the routines among the rest, the members are complete; none of the rest is among them
abbrev pub invariant-loop-number : goal.invariant-loop-number
invariant-loop-number l =
    let names = l.fn.self.env.names in
    record {
      members : l.members ++ routine_members (drop l.number names) ≡ routine_members (drop l.fn.mark names);
      absent : (j : ℕ) → l.number ≤ j → (e : Text × Entity) → slice_get names j ≡ Some e → lookup e.0 l.members ≡ None;
    }
