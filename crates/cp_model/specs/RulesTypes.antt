-- Constants and written types: what they represent, their words, and the rules inside them.
use Rattle.std.specs.Prelude.{ℕ, suc, ◌+◌, ◌*◌, ℤ, pos, negsuc, neg_ℤ, Bool, true, false, ◌||◌, not, List, [], ◌∷◌, ◌++◌, nat_eq, nat_lt, min, length, map}
use Rattle.std.specs.Str.{bytes_eq}
use Rattle.cp_model.specs.Syntax as s
use Rattle.cp_model.specs.declared.tree.Identifier.{Identifier}
use Rattle.cp_model.specs.declared.tree.Constant.{Constant}
use Rattle.cp_model.specs.declared.tree.Constant.TheVariants as written
use Rattle.cp_model.specs.declared.tree.Sort.{Sort}
use Rattle.cp_model.specs.declared.tree.Sort.TheVariants as sort
use Rattle.cp_model.specs.declared.rules.Rule.TheVariants.{C1, C2, C3, C4, C6, C8, C13}
use Rattle.cp_model.specs.declared.rules.Entity.{Entity}
use Rattle.cp_model.specs.declared.rules.Entity.TheVariants as entity
use Rattle.cp_model.specs.declared.rules.Structure.{Structure}
use Rattle.cp_model.specs.declared.rules.Structure.TheVariants as structure
use Rattle.cp_model.specs.declared.rules.TypeRow.{TypeRow}
use Rattle.cp_model.specs.declared.rules.Member.TheVariants as member
use Rattle.cp_model.specs.declared.rules.Position.{Position}
use Rattle.cp_model.specs.declared.rules.Position.TheVariants as position
use Rattle.cp_model.specs.RulesJudged.{Judged, Sound, Broken, Violations, violation, unless, breaks, also, both, then_judge, guard}
use Rattle.cp_model.specs.RulesEnvironment.{Environment, Text, Members, integer, char, row_of, is_simple, system_row, c1_named, c4_unfinished}
use Rattle.cp_model.specs.Integers.{count_between}

-- ---- words, counted to one above the limit

abbrev pub word_limit : ℕ
word_limit = 65536

abbrev pub cap_words : ℕ → ℕ
cap_words n = min n (suc word_limit)

abbrev pub is_within : ℕ → Bool
is_within words = not (nat_lt word_limit words)

abbrev pub at_most : ℤ → ℤ → Bool
at_most (pos a) (pos b) = not (nat_lt b a)
at_most (pos a) (negsuc b) = false
at_most (negsuc a) (pos b) = true
at_most (negsuc a) (negsuc b) = not (nat_lt a b)

abbrev pub values_in : Structure → ℕ
values_in (structure.Simple base low high) = count_between low high
values_in _ = 0

-- ---- constants

-- C2: a constant is wanted, but the name is of another sort
abbrev pub c2_constant : Identifier → Entity → Judged (ℕ × ℤ)
c2_constant x (entity.Constant base n) = Sound (base, n)
c2_constant x entity.UnfinishedConstant = breaks C4 x.at
c2_constant x e = also (c4_unfinished x e) (breaks C2 x.at)

-- the base type and the ordinal
abbrev pub constant : Environment → Constant → Judged (ℕ × ℤ)
constant env (written.Number at n) = Sound (integer, pos n)
constant env (written.Negative at n) = Sound (integer, neg_ℤ (pos n))
constant env (written.Character at n) = Sound (char, pos n)
constant env (written.Named x) = then_judge (c1_named env x) (c2_constant x)

abbrev pub constant_at : Constant → ℕ
constant_at (written.Number at n) = at
constant_at (written.Negative at n) = at
constant_at (written.Character at n) = at
constant_at (written.Named x) = x.at

-- ---- where a type may be

abbrev pub is_class : Sort → Bool
is_class sort.Class = true
is_class _ = false

-- whether a variable at this position may be of such a system type
abbrev pub allows_system : Position → Sort → Bool
allows_system position.InitialVariable y = true
allows_system position.MonitorVariable y = is_class y
allows_system position.ComponentVariable y = is_class y
allows_system _ y = false

abbrev pub allows_structure : Environment → Position → Structure → Bool
allows_structure env p (structure.System y) = allows_system p (system_row env y).sort
allows_structure env p _ = true

abbrev pub allows_queues : Position → Bool
allows_queues position.Definition = true
allows_queues position.Element = true
allows_queues position.MonitorVariable = true
allows_queues _ = false

-- C6: a system type as the type of a field, an array element, a routine's variable, or of `NAME =
-- NAME`; a process or monitor type for a variable of a system type. C8: a queue, or an array with
-- queues, anywhere but in a type definition, as an element of an array, or as a permanent variable
-- of a monitor
abbrev pub c6_c8_placed : Environment → Position → ℕ → ℕ → Judged ℕ
c6_c8_placed env p at t =
    also (unless (allows_structure env p (row_of env t).structure) C6 at)
    (guard (allows_queues p || not (row_of env t).has_queues) C8 at t)

-- ---- types

-- the place of a written type's first token
abbrev pub type_at : s.TypeExpression → ℕ
type_at (s.Named x) = x.at
type_at (s.Subrange a b) = constant_at a
type_at (s.Array at is e) = at
type_at (s.Record at gs) = at

-- C2: a type is wanted, but the name is of another sort
abbrev pub c2_type : Identifier → Entity → Judged ℕ
c2_type x (entity.Type t) = Sound t
c2_type x entity.UnfinishedType = breaks C4 x.at
c2_type x e = also (c4_unfinished x e) (breaks C2 x.at)

abbrev pub named_type : Environment → Identifier → Judged ℕ
named_type env x = then_judge (c1_named env x) (c2_type x)

-- whether a written type has queues, as far as that is known if something is broken inside it
abbrev pub has_queues : Environment → Judged ℕ → Bool
has_queues env (Sound t) = (row_of env t).has_queues
has_queues env (Broken v vs) = false

abbrev pub holds_queues : Environment → s.TypeExpression → Bool
holds_queues env (s.Named x) = has_queues env (named_type env x)
holds_queues env (s.Array at is e) = holds_queues env e
holds_queues env t = false

-- what was made of a written type, and the environment with the rows that were added for it
pub record Made (A : Type 0) : Type 0 where
  pub env : Environment
  pub of : A

abbrev pub add_type : Environment → TypeRow → Environment
add_type env r = record env { types = env.types ++ r ∷ [] }

-- the new row is the last
abbrev pub made_type : Environment → Judged TypeRow → Made (Judged ℕ)
made_type env (Sound r) = record { env = add_type env r; of = Sound (length env.types) }
made_type env (Broken v vs) = record { env = env; of = Broken v vs }

-- C2: the base types of a subrange's constants differ. C3: the lower bound is above the upper bound
abbrev pub c2_c3_subrange : ℕ → (ℕ × ℤ) → (ℕ × ℤ) → Judged TypeRow
c2_c3_subrange at a b =
    also (unless (nat_eq a.0 b.0) C2 at)
    (guard (not (nat_eq a.0 b.0) || at_most a.1 b.1) C3 at (record { structure = structure.Simple a.0 a.1 b.1; words = 1; has_queues = false }))

-- C2: an array's index type isn't simple
abbrev pub c2_index_type : Environment → ℕ → Judged ℕ → Judged ℕ
c2_index_type env at j = then_judge j (λ t. guard (is_simple env t) C2 at t)

-- C2: an array or a record written as an index type isn't simple, whatever is broken inside it
abbrev pub c2_written_index : s.TypeExpression → Judged ℕ → Violations
c2_written_index (s.Array at is e) (Broken v vs) = violation C2 at ∷ []
c2_written_index (s.Record at gs) (Broken v vs) = violation C2 at ∷ []
c2_written_index t j = []

-- C8: a written array with queues has them, whatever is broken inside it
abbrev pub c8_written : Environment → Position → s.TypeExpression → Judged ℕ → Violations
c8_written env p (s.Array at is e) (Broken v vs) = unless (allows_queues p || not (holds_queues env e)) C8 at
c8_written env p t j = []

-- a type at its position
abbrev pub judge_in_position : Environment → Position → s.TypeExpression → Judged ℕ → Judged ℕ
judge_in_position env p t j = also (c8_written env p t j) (then_judge j (c6_c8_placed env p (type_at t)))

abbrev pub array_row : Environment → ℕ → ℕ → TypeRow
array_row env i e = record {
  structure = structure.Array i e;
  words = cap_words (values_in (row_of env i).structure * (row_of env e).words);
  has_queues = (row_of env e).has_queues;
}

-- C13: a written type of more than 65,536 words
abbrev pub c13_type : ℕ → TypeRow → Judged TypeRow
c13_type at r = guard (is_within r.words) C13 at r

-- an array of arrays, one level for each index type
abbrev pub arrays : Environment → ℕ → List (Judged ℕ) → Judged ℕ → Made (Judged ℕ)
arrays env at [] e = record { env = env; of = e }
arrays env at (i ∷ is) e =
    let inner = arrays env at is e in
    made_type inner.env (both i inner.of (λ a b. c13_type at (array_row inner.env a b)))

-- the fields of a record so far: their names and types
abbrev pub FieldList : Type 0
FieldList = List (Text × ℕ)

abbrev pub has_name : Text → List Text → Bool
has_name x [] = false
has_name x (y ∷ ys) = bytes_eq x y || has_name x ys

-- C1: a name occurs twice in one record
abbrev pub c1_fields : List Text → List Identifier → Violations
c1_fields seen [] = []
c1_fields seen (x ∷ xs) = unless (not (has_name x.name seen)) C1 x.at ++ c1_fields (seen ++ x.name ∷ []) xs

abbrev pub name_of : Identifier → Text
name_of x = x.name

abbrev pub fields_of_type : List Identifier → ℕ → FieldList
fields_of_type xs t = map (λ x. (name_of x, t)) xs

abbrev pub words_of_fields : Environment → FieldList → ℕ
words_of_fields env [] = 0
words_of_fields env (f ∷ fs) = (row_of env f.1).words + words_of_fields env fs

abbrev pub record_row : Environment → FieldList → TypeRow
record_row env fs = record { structure = structure.Record (length env.members); words = cap_words (words_of_fields env fs); has_queues = false }

abbrev pub field_members : FieldList → Members
field_members fs = map (λ f. (f.0, member.Field f.1)) fs

abbrev pub c13_record : Environment → ℕ → FieldList → Judged FieldList
c13_record env at fs = guard (is_within (record_row env fs).words) C13 at fs

abbrev pub made_record : Environment → Judged FieldList → Made (Judged ℕ)
made_record env (Broken v vs) = record { env = env; of = Broken v vs }
made_record env (Sound fs) = record {
  env = record (add_type env (record_row env fs)) { members = env.members ++ field_members fs ∷ [] };
  of = Sound (length env.types);
}

abbrev pub append_fields : FieldList → FieldList → Judged FieldList
append_fields fs gs = Sound (fs ++ gs)

abbrev mutual
  pub type_of : Environment → s.TypeExpression → Made (Judged ℕ)
  type_of env (s.Named x) = record { env = env; of = named_type env x }
  type_of env (s.Subrange a b) = made_type env (both (constant env a) (constant env b) (c2_c3_subrange (constant_at b)))
  type_of env (s.Array at is e) =
      let index = index_types env is in
      let element = type_of index.env e in
      arrays element.env at index.of (judge_in_position element.env position.Element e element.of)
  type_of env (s.Record at gs) = let fields = fields_of env [] gs in made_record fields.env (then_judge fields.of (c13_record fields.env at))

  pub index_types : Environment → s.TypeExpressions → Made (List (Judged ℕ))
  index_types env s.NoTypes = record { env = env; of = [] }
  index_types env (s.MoreTypes t ts) =
      let one = type_of env t in
      let rest = index_types one.env ts in
      record { env = rest.env; of = also (c2_written_index t one.of) (c2_index_type one.env (type_at t) one.of) ∷ rest.of }

  -- the fields, after the names that were seen before
  pub fields_of : Environment → List Text → s.FieldGroups → Made (Judged FieldList)
  fields_of env seen s.NoFields = record { env = env; of = Sound [] }
  fields_of env seen (s.MoreFields xs t gs) =
      let one = type_of env t in
      let rest = fields_of one.env (seen ++ map name_of xs) gs in
      record {
        env = rest.env;
        of = also (c1_fields seen xs)
            (both (judge_in_position one.env position.Field t one.of) rest.of (λ u fs. append_fields (fields_of_type xs u) fs));
      }

abbrev pub type_placed : Environment → Position → s.TypeExpression → Made (Judged ℕ)
type_placed env p t =
    let m = type_of env t in
    record { env = m.env; of = judge_in_position m.env p t m.of }
