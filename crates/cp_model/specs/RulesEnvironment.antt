-- The environment of a part of a text: what each visible name represents, and the tables of types
-- and routines.
use Rattle.std.specs.Prelude.{ℕ, ℤ, pos, negsuc, Bool, true, false, ◌&&◌, not, List, [], ◌∷◌, ◌++◌, Option, None, Some, nat_eq, take, drop, get_or, codes, is_some}
use Rattle.cp_model.specs.declared.rules.Rule.TheVariants.{C1, C4, C9}
use Rattle.cp_model.specs.declared.rules.Entity.{Entity}
use Rattle.cp_model.specs.declared.rules.Entity.TheVariants as entity
use Rattle.cp_model.specs.declared.rules.Structure.{Structure}
use Rattle.cp_model.specs.declared.rules.Structure.TheVariants as structure
use Rattle.cp_model.specs.declared.rules.TypeRow.{TypeRow}
use Rattle.cp_model.specs.declared.rules.Returns.TheVariants as returns
use Rattle.cp_model.specs.declared.rules.RoutineRow.{RoutineRow}
use Rattle.cp_model.specs.declared.rules.ParameterRow.{ParameterRow}
use Rattle.cp_model.specs.declared.rules.SystemRow.{SystemRow}
use Rattle.cp_model.specs.declared.rules.Member.{Member}
use Rattle.cp_model.specs.declared.rules.Standard.{Standard}
use Rattle.cp_model.specs.declared.rules.Standard.TheVariants as standard
use Rattle.cp_model.specs.declared.rules.Region.{Region}
use Rattle.cp_model.specs.declared.rules.Part.{Part}
use Rattle.cp_model.specs.declared.rules.Part.TheVariants as part
use Rattle.cp_model.specs.declared.tree.Sort.{Sort}
use Rattle.cp_model.specs.declared.tree.Sort.TheVariants as sort
use Rattle.cp_model.specs.declared.tree.Identifier.{Identifier}
use Rattle.cp_model.specs.RulesJudged.{Judged, Sound, Broken, Violations, violation, unless, breaks}
use Rattle.cp_model.specs.Names.{lookup}

abbrev pub Text : Type 0
Text = List ℕ

-- the visible names, in order of declaration
abbrev pub Names : Type 0
Names = List (Text × Entity)

-- the fields of a record type, or the routines of a system type, by their names
abbrev pub Members : Type 0
Members = List (Text × Member)

pub record Environment : Type 0 where
  pub names : Names
  pub types : List TypeRow
  pub members : List Members
  pub routines : List RoutineRow
  pub parameters : List ParameterRow
  pub systems : List SystemRow
  -- the number of processes and monitors so far
  pub processes : ℕ
  pub monitors : ℕ
  -- where the statements are
  pub region : Region

-- ---- types

-- the numbers of the standard types
abbrev pub integer : ℕ
integer = 0

abbrev pub boolean : ℕ
boolean = 1

abbrev pub char : ℕ
char = 2

abbrev pub queue : ℕ
queue = 3

abbrev pub queue_row : TypeRow
queue_row = record { structure = structure.Queue; words = 1; has_queues = true }

abbrev pub row_of : Environment → ℕ → TypeRow
row_of env t = get_or env.types t queue_row

abbrev pub base_in : Structure → Option ℕ
base_in (structure.Simple base low high) = Some base
base_in _ = None

-- the base type of a simple type
abbrev pub base_of : Environment → ℕ → Option ℕ
base_of env t = base_in (row_of env t).structure

abbrev pub is_base : ℕ → Option ℕ → Bool
is_base b (Some c) = nat_eq b c
is_base b None = false

abbrev pub is_simple : Environment → ℕ → Bool
is_simple env t = is_some (base_of env t)

abbrev pub is_structured : Structure → Bool
is_structured (structure.Array index element) = true
is_structured (structure.Record k) = true
is_structured _ = false

abbrev pub system_in : Structure → Option ℕ
system_in (structure.System s) = Some s
system_in _ = None

-- the system type of a component
abbrev pub system_of : Environment → ℕ → Option ℕ
system_of env t = system_in (row_of env t).structure

abbrev pub is_component : Environment → ℕ → Bool
is_component env t = is_some (system_of env t)

abbrev pub bases_agree : Option ℕ → Option ℕ → Bool → Bool
bases_agree (Some a) (Some b) same = nat_eq a b
bases_agree _ _ same = same

-- simple types of one base, or the very same array type or record type
abbrev pub agree : Environment → ℕ → ℕ → Bool
agree env a b = bases_agree (base_of env a) (base_of env b) (nat_eq a b && is_structured (row_of env a).structure)

-- ---- rows

abbrev pub no_routine : RoutineRow
no_routine = record { entry = false; first = 0; count = 0; returns = returns.Nothing; need = 0 }

abbrev pub routine_of : Environment → ℕ → RoutineRow
routine_of env r = get_or env.routines r no_routine

abbrev pub no_system : SystemRow
no_system = record { sort = sort.Process; first = 0; count = 0; words = 0; body_need = 0; members = 0 }

abbrev pub system_row : Environment → ℕ → SystemRow
system_row env s = get_or env.systems s no_system

abbrev pub parameters_from : Environment → ℕ → ℕ → List ParameterRow
parameters_from env first count = take count (drop first env.parameters)

-- the members of a record or a component
abbrev pub members_in : Environment → Structure → Option Members
members_in env (structure.Record k) = Some (get_or env.members k [])
members_in env (structure.System y) = Some (get_or env.members (system_row env y).members [])
members_in env _ = None

-- ---- names that are used

abbrev pub resolve : Identifier → Option Entity → Judged Entity
resolve x None = breaks C1 x.at
resolve x (Some entity.Hidden) = breaks C1 x.at
-- the violation is reported at its declaration
resolve x (Some (entity.Broken v)) = Broken v []
resolve x (Some e) = Sound e

-- C1: a name that is neither visible nor being defined
abbrev pub c1_named : Environment → Identifier → Judged Entity
c1_named env x = resolve x (lookup x.name env.names)

-- C4: a constant, type or routine is named inside its own definition
abbrev pub c4_unfinished : Identifier → Entity → Violations
c4_unfinished x entity.UnfinishedConstant = violation C4 x.at ∷ []
c4_unfinished x entity.UnfinishedType = violation C4 x.at ∷ []
c4_unfinished x (entity.UnfinishedRoutine r) = violation C4 x.at ∷ []
c4_unfinished x _ = []

abbrev pub is_monitor : Sort → Bool
is_monitor sort.Monitor = true
is_monitor _ = false

abbrev pub is_process : Sort → Bool
is_process sort.Process = true
is_process _ = false

abbrev pub is_in_routine : Part → Bool
is_in_routine part.Body = false
is_in_routine _ = true

abbrev pub is_in_entry : Part → Bool
is_in_entry part.EntryRoutine = true
is_in_entry _ = false

abbrev pub is_allowed : Region → Standard → Bool
is_allowed region standard.Delay = is_monitor region.sort && is_in_routine region.part
is_allowed region standard.Empty = is_monitor region.sort && is_in_routine region.part
is_allowed region standard.Continue = is_monitor region.sort && is_in_entry region.part
is_allowed region standard.Wait = is_process region.sort
is_allowed region _ = true

-- C9: `delay` or `empty` outside a monitor's routine; `continue` anywhere but in the body of a
-- monitor's entry routine; `wait` anywhere but in the body or a routine of a process type or of the
-- initial process
abbrev pub c9_standard : Environment → Identifier → Entity → Violations
c9_standard env x (entity.Standard s) = unless (is_allowed env.region s) C9 x.at
c9_standard env x _ = []

-- what is judged of a name wherever it is
abbrev pub c4_c9_named : Environment → Identifier → Entity → Violations
c4_c9_named env x e = c4_unfinished x e ++ c9_standard env x e

-- ---- names that are declared

abbrev pub declare_if_new : Identifier → Entity → Names → Option Entity → Names
declare_if_new x e names None = names ++ (x.name, e) ∷ []
-- the first declaration is
declare_if_new x e names (Some old) = names

abbrev pub with_names : Names → Environment → Environment
with_names names env = record env { names = names }

abbrev pub declare : Identifier → Entity → Environment → Environment
declare x e env = with_names (declare_if_new x e env.names (lookup x.name env.names)) env

-- C1: a name is declared that is already visible or being defined, or twice in one scope
abbrev pub c1_declared : Environment → Identifier → Violations
c1_declared env x = unless (not (is_some (lookup x.name env.names))) C1 x.at

-- what a declared name represents. If its declaration is broken, nothing more is reported of it
abbrev pub entity_of : {A : Type 0} → (A → Entity) → Judged A → Entity
entity_of f (Sound x) = f x
entity_of f (Broken v vs) = entity.Broken v

-- ---- names that are visible everywhere

abbrev pub simple_row : ℕ → ℤ → ℤ → TypeRow
simple_row base low high = record { structure = structure.Simple base low high; words = 1; has_queues = false }

abbrev pub standard_names : Names
standard_names =
    (codes "integer", entity.Type integer) ∷ (codes "boolean", entity.Type boolean) ∷ (codes "char", entity.Type char) ∷ (codes "queue", entity.Type queue)
    ∷ (codes "false", entity.Constant boolean (pos 0)) ∷ (codes "true", entity.Constant boolean (pos 1))
    ∷ (codes "abs", entity.Standard standard.Abs) ∷ (codes "succ", entity.Standard standard.Succ) ∷ (codes "pred", entity.Standard standard.Pred)
    ∷ (codes "ord", entity.Standard standard.Ord) ∷ (codes "chr", entity.Standard standard.Chr) ∷ (codes "empty", entity.Standard standard.Empty)
    ∷ (codes "delay", entity.Standard standard.Delay) ∷ (codes "continue", entity.Standard standard.Continue)
    ∷ (codes "display", entity.Standard standard.Display) ∷ (codes "accept", entity.Standard standard.Accept)
    ∷ (codes "realtime", entity.Standard standard.Realtime) ∷ (codes "wait", entity.Standard standard.Wait) ∷ []

abbrev pub process_body : Region
process_body = record { sort = sort.Process; part = part.Body }

-- process 1 is the initial process
abbrev pub standard_environment : Environment
standard_environment = record {
  names = standard_names;
  types = simple_row integer (negsuc 32767) (pos 32767) ∷ simple_row boolean (pos 0) (pos 1) ∷ simple_row char (pos 0) (pos 127) ∷ queue_row ∷ [];
  members = [];
  routines = [];
  parameters = [];
  systems = [];
  processes = 1;
  monitors = 0;
  region = process_body;
}
