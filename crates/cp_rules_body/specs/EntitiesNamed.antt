-- What the names of a designator represent, whatever its indices are.
use Rattle.std.specs.Prelude.{ℕ, Bool, true, false, Option, Some, None}
use Rattle.cp_model.specs.Syntax as s
use Rattle.cp_model.specs.declared.rules.Entity.{Entity}
use Rattle.cp_model.specs.declared.rules.Entity.TheVariants as entity
use Rattle.cp_model.specs.declared.rules.ArrayPart.{ArrayPart}
use Rattle.cp_model.specs.declared.tree.Identifier.{Identifier}
use Rattle.cp_model.specs.RulesJudged.{meaning_of}
use Rattle.cp_model.specs.RulesEnvironment.{Environment, c1_named}
use Rattle.cp_model.specs.RulesNames.{c2_array, member_of}

abbrev pub is_routine : Option Entity → Bool
is_routine (Some (entity.Routine r)) = true
is_routine (Some (entity.Entry r)) = true
is_routine e = false

abbrev pub element_of : Option ArrayPart → Option Entity
element_of (Some part) = Some (entity.Variable part.element part.access)
element_of None = None

abbrev pub element : Environment → ℕ → Option Entity → Option Entity
element env at (Some e) = element_of (meaning_of (c2_array env at e))
element env at None = None

abbrev pub elements : Environment → Option Entity → s.Indices → Option Entity
elements env e s.NoIndices = e
elements env e (s.MoreIndices at i is) = elements env (element env at e) is

abbrev pub member : Environment → ℕ → Identifier → Option Entity → Option Entity
member env at x (Some e) = meaning_of (member_of env at x e)
member env at x None = None

abbrev pub part : Environment → Option Entity → s.Selector → Option Entity
part env e (s.Field at x) = member env at x e
part env e (s.Indexed is) = elements env e is

abbrev pub parts : Environment → Option Entity → s.Selectors → Option Entity
parts env e s.NoSelectors = e
parts env e (s.MoreSelectors y ys) = parts env (part env e y) ys

abbrev pub designated_entity : Environment → s.Designator → Option Entity
designated_entity env (s.Designate x ss) = parts env (meaning_of (c1_named env x)) ss
