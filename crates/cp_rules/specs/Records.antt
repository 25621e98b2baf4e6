-- Records: their fields, collected group by group from the left, and what is made of them.
use Rattle.std.specs.Prelude.{◌+◌, ◌++◌, ◌∷◌, [], ℕ, Bool, true, false, not, List, Option, None, Some, Result, Ok, Err, is_some, length}
use Rattle.cp_model.specs.Names.{lookup}
use Rattle.cp_model.specs.Syntax as s
use Rattle.cp_model.specs.declared.tree.Identifier.{Identifier}
use Rattle.cp_model.specs.declared.rules.Member.{Member}
use Rattle.cp_model.specs.declared.rules.Member.TheVariants as member
use Rattle.cp_model.specs.declared.rules.Position.TheVariants as position
use Rattle.cp_model.specs.declared.rules.Rule.TheVariants.{C1, C13}
use Rattle.cp_model.specs.declared.rules.Structure.TheVariants as structure
use Rattle.cp_model.specs.declared.rules.TypeRow.{TypeRow}
use Rattle.cp_model.specs.declared.rules.Violation.{Violation}
use Rattle.cp_model.specs.RulesJudged.{Judged, Sound, Broken, Violations, unless, violation, violations_of}
use Rattle.cp_model.specs.RulesEnvironment.{Environment, Members, Text, row_of}
use Rattle.cp_model.specs.RulesTypes as ty
use Rattle.cp_base_names.specs.Tables.{with_new}
use Rattle.cp_rules.specs.Outer.{Known}

-- ---- names of fields

-- A field with a name that is there already adds nothing: the first one counts.
abbrev pub with_field : Members → Identifier → ℕ → Members
with_field ms x t = with_new x.name (member.Field t) ms (lookup x.name ms)

abbrev pub is_new : Members → Identifier → Bool
is_new ms x = not (is_some (lookup x.name ms))

-- Fields, and the violations in their names.
pub record Fields : Type 0 where
  pub members : Members
  pub violations : Violations

abbrev pub with_fields : Members → ℕ → List Identifier → Fields
with_fields ms t [] = record { members = ms; violations = [] }
with_fields ms t (x ∷ xs) =
    let rest = with_fields (with_field ms x t) t xs in
    record { members = rest.members; violations = unless (is_new ms x) C1 x.at ++ rest.violations }

-- ---- the first violation

abbrev pub first_in : Violations → Option Violation
first_in [] = None
first_in (v ∷ vs) = Some v

abbrev pub or_first : Option Violation → Violations → Option Violation
or_first None vs = first_in vs
or_first (Some v) vs = Some v

abbrev pub broken_in : Result ℕ Violation → Violations
broken_in (Ok t) = []
broken_in (Err v) = v ∷ []

-- ---- groups

-- The environment with the types of fields, the fields, and the violations in them.
pub record Grouped : Type 0 where
  pub env : Environment
  pub members : Members
  pub violations : Violations

-- A broken type counts as any type, since the record isn't made.
abbrev pub type_or_any : Judged ℕ → ℕ
type_or_any (Sound t) = t
type_or_any (Broken v vs) = 0

abbrev pub number_or_any : Result ℕ Violation → ℕ
number_or_any (Ok t) = t
number_or_any (Err v) = 0

abbrev pub type_of_group : Environment → s.TypeExpression → Judged ℕ
type_of_group env t = let m = ty.type_of env t in ty.judge_in_position m.env position.Field t m.of

abbrev pub group : Environment → Members → s.Variables → Grouped
group env ms g =
    let one = with_fields ms (type_or_any (type_of_group env g.of)) g.names in
    record {
      env = (ty.type_of env g.of).env;
      members = one.members;
      violations = one.violations ++ violations_of (type_of_group env g.of);
    }

abbrev pub groups : Environment → Members → List s.Variables → Grouped
groups env ms [] = record { env = env; members = ms; violations = [] }
groups env ms (g ∷ gs) =
    let one = group env ms g in
    let rest = groups one.env one.members gs in
    record { env = rest.env; members = rest.members; violations = one.violations ++ rest.violations }

-- ---- the record

abbrev pub words_of_member : Environment → Member → ℕ
words_of_member env (member.Field t) = (row_of env t).words
words_of_member env (member.Routine r) = 0

abbrev pub words_if : Environment → Option (Text × Member) → ℕ
words_if env None = 0
words_if env (Some m) = words_of_member env m.1

abbrev pub words_of_members : Environment → Members → ℕ
words_of_members env [] = 0
words_of_members env (m ∷ ms) = words_of_member env m.1 + words_of_members env ms

abbrev pub row : Environment → Members → TypeRow
row env ms = record { structure = structure.Record (length env.members); words = ty.cap_words (words_of_members env ms); has_queues = false }

abbrev pub record_if : Environment → ℕ → Members → Bool → Known
record_if env at ms true = record {
  env = record (ty.add_type env (row env ms)) { members = env.members ++ ms ∷ [] };
  violations = [];
  of = Ok (length env.types);
}
record_if env at ms false = record { env = env; violations = violation C13 at ∷ []; of = Err (violation C13 at) }

-- The record with these fields, unless something is broken in them. C13: it has too many words.
abbrev pub record_of : Environment → ℕ → Members → Option Violation → Known
record_of env at ms None = record_if env at ms (ty.is_within (row env ms).words)
record_of env at ms (Some v) = record { env = env; violations = []; of = Err v }
