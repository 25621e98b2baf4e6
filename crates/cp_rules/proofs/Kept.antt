-- What declarations keep of an environment: earlier names stay at the front, and types add no names
-- and no routines.
use Rattle.std.proofs.Common.{◌≡◌, ◌∷◌, ◌++◌, Bool, ℕ, List, [], Option, None, Some, length, map, take, refl, ap, sym, ◌∙◌, append_assoc, append-nil}
use Rattle.cp_model.specs.Syntax as s
use Rattle.cp_model.specs.declared.tree.Identifier.{Identifier}
use Rattle.cp_model.specs.declared.tree.Sort.{Sort}
use Rattle.cp_model.specs.declared.tree.Sort.TheVariants as sort
use Rattle.cp_model.specs.declared.rules.Entity.{Entity}
use Rattle.cp_model.specs.declared.rules.Entity.TheVariants as entity
use Rattle.cp_model.specs.declared.rules.Structure.{Structure}
use Rattle.cp_model.specs.declared.rules.Structure.TheVariants as structure
use Rattle.cp_model.specs.declared.rules.SystemRow.{SystemRow}
use Rattle.cp_model.specs.declared.rules.Position.{Position}
use Rattle.cp_model.specs.declared.rules.TypeRow.{TypeRow}
use Rattle.cp_model.specs.declared.rules.Position.TheVariants as position
use Rattle.cp_model.specs.RulesJudged.{Judged, Sound, Broken}
use Rattle.cp_model.specs.RulesEnvironment.{Environment, Names, Text, declare, declare_if_new, entity_of, row_of, system_row, with_names}
use Rattle.cp_model.specs.Names.{lookup}
use Rattle.cp_model.specs.RulesTypes as ty
use Rattle.cp_model.specs.RulesDeclarations as d

-- ---- earlier names stay at the front

abbrev pub Begins : Names → Names → Type 0
Begins xs ys = (zs : Names) × (ys ≡ xs ++ zs)

pub begins_same : (xs : Names) → Begins xs xs
begins_same xs = ([], sym (append-nil xs))

pub begins_trans : (xs ys zs : Names) → Begins xs ys → Begins ys zs → Begins xs zs
begins_trans xs ys zs a b = (a.0 ++ b.0, b.1 ∙ ap (λ (ws : Names). ws ++ b.0) a.1 ∙ append_assoc xs a.0 b.0)

begins_at : (xs ys zs : Names) → Begins xs ys → zs ≡ ys → Begins xs zs
begins_at xs ys zs b same = (b.0, same ∙ b.1)

take_front : (xs ys : Names) → take (length xs) (xs ++ ys) ≡ xs
take_front [] ys = refl
take_front (x ∷ xs) ys = ap (λ (zs : Names). x ∷ zs) (take_front xs ys)

-- removing the names after a mark
pub left_names : (xs ys : Names) → Begins xs ys → take (length xs) ys ≡ xs
left_names xs ys b = ap (λ (zs : Names). take (length xs) zs) b.1 ∙ take_front xs b.0

-- ---- declarations

new_begins : (x : Identifier) (e : Entity) (names : Names) (o : Option Entity) → Begins names (declare_if_new x e names o)
new_begins x e names None = ((x.name, e) ∷ [], refl)
new_begins x e names (Some old) = begins_same names

declare_begins : (x : Identifier) (e : Entity) (env : Environment) → Begins env.names (declare x e env).names
declare_begins x e env = new_begins x e env.names (lookup x.name env.names)

pub declare_each_begins : (env : Environment) (ds : List (Identifier × Entity)) → Begins env.names (d.declare_each env ds).env.names
declare_each_begins env [] = begins_same env.names
declare_each_begins env (e ∷ es) =
    begins_trans env.names (declare e.0 e.1 env).names (d.declare_each (declare e.0 e.1 env) es).env.names
    (declare_begins e.0 e.1 env) (declare_each_begins (declare e.0 e.1 env) es)

declare_all_begins : (env : Environment) (e : Entity) (xs : List Identifier) → Begins env.names (d.declare_all env e xs).env.names
declare_all_begins env e xs = declare_each_begins env (map (λ x. (x, e)) xs)

-- they change only names
declare_each_is : (env : Environment) (ds : List (Identifier × Entity))
    → (d.declare_each env ds).env ≡ with_names (d.declare_each env ds).env.names env
declare_each_is env [] = refl
declare_each_is env (e ∷ es) = declare_each_is (declare e.0 e.1 env) es

pub declare_all_is : (env : Environment) (e : Entity) (xs : List Identifier)
    → (d.declare_all env e xs).env ≡ with_names (d.declare_all env e xs).env.names env
declare_all_is env e xs = declare_each_is env (map (λ x. (x, e)) xs)

-- ---- types

-- the same names, and the same routines
pub record Keeps (before after : Environment) : Type 0 where
  pub names : after.names ≡ before.names
  pub routines : after.routines ≡ before.routines

keeps_all : (env : Environment) → Keeps env env
keeps_all env = record { names = refl; routines = refl }

keeps_trans : (a b c : Environment) → Keeps a b → Keeps b c → Keeps a c
keeps_trans a b c h g = record { names = g.names ∙ h.names; routines = g.routines ∙ h.routines }

made_keeps : (env : Environment) (j : Judged TypeRow) → Keeps env (ty.made_type env j).env
made_keeps env (Sound r) = record { names = refl; routines = refl }
made_keeps env (Broken v vs) = keeps_all env

record_keeps : (env : Environment) (j : Judged ty.FieldList) → Keeps env (ty.made_record env j).env
record_keeps env (Sound fs) = record { names = refl; routines = refl }
record_keeps env (Broken v vs) = keeps_all env

arrays_keep : (env : Environment) (at : ℕ) (is : List (Judged ℕ)) (e : Judged ℕ) → Keeps env (ty.arrays env at is e).env
arrays_keep env at [] e = keeps_all env
arrays_keep env at (i ∷ is) e =
    keeps_trans env (ty.arrays env at is e).env (ty.arrays env at (i ∷ is) e).env
    (arrays_keep env at is e) (made_keeps (ty.arrays env at is e).env _)

mutual
  pub type_keeps : (env : Environment) (t : s.TypeExpression) → Keeps env (ty.type_of env t).env
  type_keeps env (s.Named x) = keeps_all env
  type_keeps env (s.Subrange a b) = made_keeps env _
  type_keeps env (s.Array at is e) =
      let index : Environment = (ty.index_types env is).env in
      let element : Environment = (ty.type_of index e).env in
      keeps_trans env index _ (indices_keep env is)
      (keeps_trans index element _ (type_keeps index e)
      (arrays_keep element at (ty.index_types env is).of (ty.judge_in_position element position.Element e (ty.type_of index e).of)))
  type_keeps env (s.Record at gs) =
      let fields : Environment = (ty.fields_of env [] gs).env in
      keeps_trans env fields _ (fields_keep env [] gs) (record_keeps fields _)

  indices_keep : (env : Environment) (ts : s.TypeExpressions) → Keeps env (ty.index_types env ts).env
  indices_keep env s.NoTypes = keeps_all env
  indices_keep env (s.MoreTypes t ts) =
      let one : Environment = (ty.type_of env t).env in
      keeps_trans env one (ty.index_types one ts).env (type_keeps env t) (indices_keep one ts)

  fields_keep : (env : Environment) (seen : List Text) (gs : s.FieldGroups) → Keeps env (ty.fields_of env seen gs).env
  fields_keep env seen s.NoFields = keeps_all env
  fields_keep env seen (s.MoreFields xs t gs) =
      let one : Environment = (ty.type_of env t).env in
      keeps_trans env one _ (type_keeps env t) (fields_keep one _ gs)

pub placed_keeps : (env : Environment) (p : Position) (t : s.TypeExpression) → Keeps env (ty.type_placed env p t).env
placed_keeps env p t = type_keeps env t

-- ---- headings

parameter_group_is : (env : Environment) (of : Option Sort) (is_function : Bool) (g : s.Parameters)
    → (d.parameter_group env of is_function g).env ≡ with_names (d.parameter_group env of is_function g).env.names env
parameter_group_is env of is_function g = declare_all_is env entity.Hidden g.names

-- they change only names
heading_is : (env : Environment) (of : Option Sort) (is_function : Bool) (gs : List s.Parameters)
    → (d.heading env of is_function gs).env ≡ with_names (d.heading env of is_function gs).env.names env
heading_is env of is_function [] = refl
heading_is env of is_function (g ∷ gs) =
    let one = (d.parameter_group env of is_function g).env in
    let names = (d.heading one of is_function gs).env.names in
    heading_is one of is_function gs ∙ ap (with_names names) (parameter_group_is env of is_function g)

heading_begins : (env : Environment) (of : Option Sort) (is_function : Bool) (gs : List s.Parameters)
    → Begins env.names (d.heading env of is_function gs).env.names
heading_begins env of is_function [] = begins_same env.names
heading_begins env of is_function (g ∷ gs) =
    let one = (d.parameter_group env of is_function g).env in
    begins_trans env.names one.names (d.heading one of is_function gs).env.names
    (declare_all_begins env entity.Hidden g.names) (heading_begins one of is_function gs)

-- headings whose names are removed again
pub heading_left : (env : Environment) (of : Option Sort) (is_function : Bool) (gs : List s.Parameters)
    → let head : Environment = (d.heading env of is_function gs).env in with_names (take (length env.names) head.names) head ≡ env
heading_left env of is_function gs =
    let head = (d.heading env of is_function gs).env in
    ap (λ (ns : Names). with_names ns head) (left_names env.names head.names (heading_begins env of is_function gs))
    ∙ ap (with_names env.names) (heading_is env of is_function gs)

-- ---- variables

-- new names, and the same routines
pub record Grows (before after : Environment) : Type 0 where
  pub names : Begins before.names after.names
  pub routines : after.routines ≡ before.routines

pub grows_trans : (a b c : Environment) → Grows a b → Grows b c → Grows a c
grows_trans a b c h g = record { names = begins_trans a.names b.names c.names h.names g.names; routines = g.routines ∙ h.routines }

grows_at : (a b c : Environment) → Grows a b → Keeps b c → Grows a c
grows_at a b c h g = record { names = begins_at a.names b.names c.names h.names g.names; routines = g.routines ∙ h.routines }

pub declare_each_grows : (env : Environment) (ds : List (Identifier × Entity)) → Grows env (d.declare_each env ds).env
declare_each_grows env ds = record { names = declare_each_begins env ds; routines = ap (λ (e : Environment). e.routines) (declare_each_is env ds) }

owner_keeps : (env : Environment) (y : Sort) → Keeps env (d.with_owner env y)
owner_keeps env sort.Process = record { names = refl; routines = refl }
owner_keeps env sort.Monitor = record { names = refl; routines = refl }
owner_keeps env sort.Class = keeps_all env

owners_of_keep : (env : Environment) (y : SystemRow) (xs : List Identifier) → Keeps env (d.owners_of env y xs).env
owners_of_keep env y [] = keeps_all env
owners_of_keep env y (x ∷ xs) =
    keeps_trans env (d.with_owner env y.sort) (d.owners_of (d.with_owner env y.sort) y xs).env
    (owner_keeps env y.sort) (owners_of_keep (d.with_owner env y.sort) y xs)

owners_in_keep : (env : Environment) (t : Structure) (xs : List Identifier) → Keeps env (d.owners_in env t xs).env
owners_in_keep env (structure.System y) xs = owners_of_keep env (system_row env y) xs
owners_in_keep env (structure.Simple base low high) xs = keeps_all env
owners_in_keep env (structure.Array index element) xs = keeps_all env
owners_in_keep env (structure.Record k) xs = keeps_all env
owners_in_keep env structure.Queue xs = keeps_all env

owners_keep : (env : Environment) (p : Position) (j : Judged ℕ) (xs : List Identifier) → Keeps env (d.owners env p j xs).env
owners_keep env position.InitialVariable (Sound t) xs = owners_in_keep env (row_of env t).structure xs
owners_keep env position.InitialVariable (Broken v vs) xs = keeps_all env
owners_keep env position.Definition j xs = keeps_all env
owners_keep env position.Element j xs = keeps_all env
owners_keep env position.Field j xs = keeps_all env
owners_keep env position.MonitorVariable j xs = keeps_all env
owners_keep env position.ComponentVariable j xs = keeps_all env
owners_keep env position.RoutineVariable j xs = keeps_all env

group_grows : (env : Environment) (p : Position) (g : s.Variables) → Grows env (d.variable_group env p g).env
group_grows env p g =
    let defined = (d.declare_all env d.unfinished_variable g.names).env in
    let made = ty.type_placed defined p g.of in
    let base = with_names env.names made.env in
    let e = entity_of d.own_variable made.of in
    let visible = (d.declare_all base e g.names).env in
    let first : Grows env base = record {
      names = begins_same env.names;
      routines = (placed_keeps defined p g.of).routines ∙ ap (λ (v : Environment). v.routines) (declare_all_is env d.unfinished_variable g.names);
    } in
    grows_at env visible (d.owners visible p made.of g.names).env
    (grows_trans env base visible first (declare_each_grows base (map (λ x. (x, e)) g.names)))
    (owners_keep visible p made.of g.names)

pub variables_grow : (env : Environment) (p : Position) (gs : List s.Variables) → Grows env (d.variables env p gs).env
variables_grow env p [] = record { names = begins_same env.names; routines = refl }
variables_grow env p (g ∷ gs) =
    let one = (d.variable_group env p g).env in
    grows_trans env one (d.variables one p gs).env (group_grows env p g) (variables_grow one p gs)

-- ---- routines

routine_begins : (env : Environment) (y : Sort) (r : s.Routine) → Begins env.names (d.routine env y r).env.names
routine_begins env y r = new_begins r.name _ env.names (lookup r.name.name env.names)

pub routines_begin : (env : Environment) (y : Sort) (rs : List s.Routine) → Begins env.names (d.routines env y rs).env.names
routines_begin env y [] = begins_same env.names
routines_begin env y (r ∷ rs) =
    let one = (d.routine env y r).env in
    begins_trans env.names one.names (d.routines one y rs).env.names (routine_begins env y r) (routines_begin one y rs)
