-- Declared names: what they add to the environment of the rules, and which names stay known.
use Rattle.std.proofs.Common.{◌≡◌, ◌≤◌, ℕ, Bool, true, false, ◌||◌, not, List, [], ◌∷◌, ◌++◌, Option, Some, None, if◌then◌else◌, get_or, length, map, refl, ap, sym, subst, ◌∙◌, arith, append_assoc, append-nil, bytes_eq, is_some}
use Rattle.std.specs.Option.{option_or}
use Rattle.std.proofs.lemmas.Bool.{true≢false}
use Rattle.cp_model.specs.Abstract as a
use Rattle.cp_model.specs.Erase as erase
use Rattle.cp_model.specs.declared.tree.Identifier.{Identifier}
use Rattle.cp_model.specs.declared.tree.Sort.{Sort}
use Rattle.cp_model.specs.declared.tree.Sort.TheVariants as sort
use Rattle.cp_model.specs.declared.rules.Rule.TheVariants.{C1}
use Rattle.cp_model.specs.declared.rules.Entity.{Entity}
use Rattle.cp_model.specs.declared.rules.Entity.TheVariants as entity
use Rattle.cp_model.specs.declared.rules.Structure.{Structure}
use Rattle.cp_model.specs.declared.rules.Structure.TheVariants as structure
use Rattle.cp_model.specs.declared.rules.SystemRow.{SystemRow}
use Rattle.cp_model.specs.declared.rules.Position.{Position}
use Rattle.cp_model.specs.declared.rules.Position.TheVariants as position
use Rattle.cp_model.specs.RulesJudged.{Judged, Sound, Broken}
use Rattle.cp_model.specs.RulesEnvironment.{Environment, Names, Text, c1_declared, declare, declare_if_new, queue_row, row_of, system_row, with_names}
use Rattle.cp_model.specs.RulesTypes.{allows_queues, allows_system}
use Rattle.cp_model.specs.RulesDeclarations.{declare_all, owners, owners_in, owners_of, with_owner, declare_each}
use Rattle.cp_model.specs.Types.{ComponentOf, GlobalScope, Members, ResolvedType}
use Rattle.cp_model.specs.Declarations.{Variable}
use Rattle.cp_model.specs.Names.{lookup}
use Rattle.cp_law_typing.specs.Judgement.{has_queues}
use Rattle.cp_law_typing.proofs.Names.{NewNames, bytes_same, keys, keys-append, lookup-append, lookup_none, none_has}
use Rattle.cp_model.proofs.Judging.{first_empty, rest_empty, unless_holds}
use Rattle.cp_law_typing.proofs.TableMeanings.{GlobalAs, Grows, NamesAs, RowAs, Tables, Types, grows_on, grows_same, row_kept}
use Rattle.cp_law_typing.proofs.Visible.{some_same}
use Rattle.cp_law_typing.proofs.LayerNames.{VariablesAs}

-- ---- names that are declared

abbrev pub text_of : Identifier → Text
text_of x = x.name

-- names with the entities beside them
abbrev pub names_of : List (Identifier × Entity) → Names
names_of [] = []
names_of (b ∷ bs) = (b.0.name, b.1) ∷ names_of bs

pub names_of-append : (bs cs : List (Identifier × Entity)) → names_of (bs ++ cs) ≡ names_of bs ++ names_of cs
names_of-append [] cs = refl
names_of-append (b ∷ bs) cs = ap (λ l. (b.0.name, b.1) ∷ l) (names_of-append bs cs)

abbrev pub entries : Entity → List Identifier → Names
entries e xs = names_of (map (λ x. (x, e)) xs)

pub keys-entries : (e : Entity) (xs : List Identifier) → keys (entries e xs) ≡ map text_of xs
keys-entries e [] = refl
keys-entries e (x ∷ xs) = ap (λ l. x.name ∷ l) (keys-entries e xs)

pub none_of : {A : Type 0} (o : Option A) → not (is_some o) ≡ true → o ≡ None
none_of None h = refl
none_of (Some x) h = absurd (true≢false (sym h))

-- a name that is declared without a violation wasn't visible
pub declared_new : (env : Environment) (x : Identifier) → c1_declared env x ≡ [] → lookup x.name env.names ≡ None
declared_new env x h = none_of (lookup x.name env.names) (unless_holds (not (is_some (lookup x.name env.names))) C1 x.at h)

pub declare_new : (env : Environment) (x : Identifier) (e : Entity) → lookup x.name env.names ≡ None
    → declare x e env ≡ with_names (env.names ++ (x.name, e) ∷ []) env
declare_new env x e h = ap (λ o. with_names (declare_if_new x e env.names o) env) h

pub each_new : (ds : List (Identifier × Entity)) (env : Environment) → (declare_each env ds).violations ≡ [] → NewNames (keys env.names) (keys (names_of ds))
each_new [] env h = tt
each_new (d ∷ ds) env h =
    let none : lookup d.0.name env.names ≡ None = declared_new env d.0 (first_empty (c1_declared env d.0) _ h) in
    let rest : NewNames (keys (declare d.0 d.1 env).names) (keys (names_of ds)) = each_new ds (declare d.0 d.1 env) (rest_empty (c1_declared env d.0) _ h) in
    let behind : keys (declare d.0 d.1 env).names ≡ keys env.names ++ d.0.name ∷ [] =
    ap (λ z. keys z.names) (declare_new env d.0 d.1 none) ∙ keys-append env.names ((d.0.name, d.1) ∷ []) in
    (none_has d.0.name env.names none, subst (λ ks. NewNames ks (keys (names_of ds))) behind rest)

pub each_declared : (ds : List (Identifier × Entity)) (env : Environment) → NewNames (keys env.names) (keys (names_of ds))
    → (declare_each env ds).env ≡ with_names (env.names ++ names_of ds) env
each_declared [] env h = ap (λ ns. with_names ns env) (sym (append-nil env.names))
each_declared (d ∷ ds) env h =
    let one : declare d.0 d.1 env ≡ with_names (env.names ++ (d.0.name, d.1) ∷ []) env = declare_new env d.0 d.1 (lookup_none d.0.name env.names h.0) in
    ap (λ e. (declare_each e ds).env) one
    ∙ each_declared ds (with_names (env.names ++ (d.0.name, d.1) ∷ []) env)
    (subst (λ ks. NewNames ks (keys (names_of ds))) (sym (keys-append env.names ((d.0.name, d.1) ∷ []))) h.1)
    ∙ ap (λ ns. with_names ns env) (append_assoc env.names ((d.0.name, d.1) ∷ []) (names_of ds))

pub all_new : (env : Environment) (e : Entity) (xs : List Identifier) → (declare_all env e xs).violations ≡ [] → NewNames (keys env.names) (map text_of xs)
all_new env e xs h = subst (NewNames (keys env.names)) (keys-entries e xs) (each_new (map (λ x. (x, e)) xs) env h)

pub all_declared : (env : Environment) (e : Entity) (xs : List Identifier) → NewNames (keys env.names) (map text_of xs)
    → (declare_all env e xs).env ≡ with_names (env.names ++ entries e xs) env
all_declared env e xs h = each_declared (map (λ x. (x, e)) xs) env (subst (NewNames (keys env.names)) (sym (keys-entries e xs)) h)

-- ---- more names

-- what a new name represents is known, and the old names are kept
pub names_more : (G : GlobalScope → Type 0) (rs : Types) (names : Names) (x : Text) (e : Entity) → NamesAs G rs names → GlobalAs G rs x e → NamesAs G rs (names ++ (x, e) ∷ [])
names_more G rs names x e h new y f found = go (lookup y names) refl (sym (lookup-append y names ((x, e) ∷ [])) ∙ found)
  where
    last : (b : Bool) → bytes_eq y x ≡ b → (if b then Some e else None) ≡ Some f → GlobalAs G rs y f
    last true is g = subst (GlobalAs G rs y) (some_same (Some e) e f refl g) (subst (λ z. GlobalAs G rs z e) (sym (bytes_same y x is)) new)
    last false is g = absurd (cc)

    go : (o : Option Entity) → lookup y names ≡ o → option_or o (if bytes_eq y x then Some e else None) ≡ Some f → GlobalAs G rs y f
    go (Some k) is g = h y f (is ∙ g)
    go None is g = last (bytes_eq y x) refl g

pub names_added : (G : GlobalScope → Type 0) (rs : Types) (names : Names) (e : Entity) (xs : List Identifier) → NamesAs G rs names → ((x : Text) → GlobalAs G rs x e)
    → NamesAs G rs (names ++ entries e xs)
names_added G rs names e [] h new = subst (NamesAs G rs) (sym (append-nil names)) h
names_added G rs names e (x ∷ xs) h new =
    subst (NamesAs G rs) (append_assoc names ((x.name, e) ∷ []) (entries e xs))
    (names_added G rs (names ++ (x.name, e) ∷ []) e xs (names_more G rs names x.name e h (new x.name)) new)

-- equal tables represent the same types
pub tables_same : (G : GlobalScope → Type 0) (env after : Environment) (rs : Types) → env.types ≡ after.types → env.members ≡ after.members → env.routines ≡ after.routines
    → env.systems ≡ after.systems → env.parameters ≡ after.parameters → Tables G env rs → Tables G after rs
tables_same G env after rs t m r y p tables =
    let grows : Grows env after rs rs = grows_same env after rs t m r y p in
    record {
      rows = λ i q h. subst (λ z. RowAs G after rs z q) (ap (λ l. get_or l i queue_row) t) (row_kept G env after rs rs grows (row_of env i) q (tables.rows i q h));
      lengths = ap length (sym t) ∙ tables.lengths;
      integer = tables.integer;
      boolean = tables.boolean;
      char = tables.char;
      queue = tables.queue;
    }

-- no types were added
pub tables_grown : (G : GlobalScope → Type 0) (env after : Environment) (rs : Types) → env.types ≡ after.types → Grows env after rs rs → Tables G env rs → Tables G after rs
tables_grown G env after rs t grows tables = record {
  rows = λ i q h. subst (λ z. RowAs G after rs z q) (ap (λ l. get_or l i queue_row) t) (row_kept G env after rs rs grows (row_of env i) q (tables.rows i q h));
  lengths = ap length (sym t) ∙ tables.lengths;
  integer = tables.integer;
  boolean = tables.boolean;
  char = tables.char;
  queue = tables.queue;
}

-- variables aren't global names
pub names_local : (G : GlobalScope → Type 0) (q : Bool) (rs : Types) (names vs : Names) (ds : List (Text × Variable)) → NamesAs G rs names → VariablesAs q rs vs ds → NamesAs G rs (names ++ vs)
names_local G q rs names [] [] h k = subst (NamesAs G rs) (sym (append-nil names)) h
names_local G q rs names ((x, entity.Variable t acc) ∷ vs) (d ∷ ds) h k =
    subst (NamesAs G rs) (append_assoc names ((x, entity.Variable t acc) ∷ []) vs)
    (names_local G q rs (names ++ (x, entity.Variable t acc) ∷ []) vs ds (names_more G rs names x (entity.Variable t acc) h tt) k.2)
names_local G q rs names [] (d ∷ ds) h k = absurd k
names_local G q rs names (x ∷ vs) [] h k = absurd k
names_local G q rs names ((x, e) ∷ vs) (d ∷ ds) h k = absurd k.1

-- the tables stay the same before and after a step in which they grow
pub grows_between : (env b c after : Environment) (rs more : Types) → length b.types ≤ length c.types → Grows b c rs more
    → env.types ≡ b.types → env.members ≡ b.members → env.routines ≡ b.routines → env.systems ≡ b.systems → env.parameters ≡ b.parameters
    → c.types ≡ after.types → c.members ≡ after.members → c.routines ≡ after.routines → c.systems ≡ after.systems → c.parameters ≡ after.parameters → Grows env after rs more
grows_between env b c after rs more l g t m r y p t' m' r' y' p' =
    grows_on env b after rs rs more (omega (arith, ap length t)) (grows_same env b rs t m r y p)
    (grows_on b c after rs more more l g (grows_same c after more t' m' r' y' p'))

-- ---- owners change no more than counts

abbrev pub with_counts : Environment → Environment → Environment
with_counts env after = record env { processes = after.processes; monitors = after.monitors }

pub one_counted : (env : Environment) (y : Sort) → with_owner env y ≡ with_counts env (with_owner env y)
one_counted env sort.Process = refl
one_counted env sort.Monitor = refl
one_counted env sort.Class = refl

pub owners_counted : (env : Environment) (y : SystemRow) (xs : List Identifier) → (owners_of env y xs).env ≡ with_counts env (owners_of env y xs).env
owners_counted env y [] = refl
owners_counted env y (x ∷ xs) =
    owners_counted (with_owner env y.sort) y xs ∙ ap (λ e. with_counts e (owners_of (with_owner env y.sort) y xs).env) (one_counted env y.sort)

pub in_counted : (env : Environment) (st : Structure) (xs : List Identifier) → (owners_in env st xs).env ≡ with_counts env (owners_in env st xs).env
in_counted env (structure.System n) xs = owners_counted env (system_row env n) xs
in_counted env (structure.Simple base low high) xs = refl
in_counted env (structure.Array i e) xs = refl
in_counted env (structure.Record k) xs = refl
in_counted env structure.Queue xs = refl

pub all_counted : (env : Environment) (p : Position) (j : Judged ℕ) (xs : List Identifier) → (owners env p j xs).env ≡ with_counts env (owners env p j xs).env
all_counted env position.InitialVariable (Sound t) xs = in_counted env (row_of env t).structure xs
all_counted env position.InitialVariable (Broken w ws) xs = refl
all_counted env position.Definition j xs = refl
all_counted env position.Element j xs = refl
all_counted env position.Field j xs = refl
all_counted env position.MonitorVariable j xs = refl
all_counted env position.ComponentVariable j xs = refl
all_counted env position.RoutineVariable j xs = refl

-- ---- where types may be

abbrev pub AllowsSort : Position → a.Sort → Type 0
AllowsSort p y = (z : Sort) × (erase.sort_of z ≡ y) × (allows_system p z ≡ true)

abbrev pub PlacedAs : Position → ResolvedType → Type 0
PlacedAs p r = ((y : a.System) (inner : Members) → r ≡ ComponentOf y inner → AllowsSort p y.sort) × ((allows_queues p || not (has_queues r)) ≡ true)

abbrev pub AllPlaced : Position → List (Text × Variable) → Type 0
AllPlaced p [] = Unit {0}
AllPlaced p (d ∷ ds) = PlacedAs p d.1.type × AllPlaced p ds
