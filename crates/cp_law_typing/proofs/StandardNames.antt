-- The scope before the first definition: the standard names, by the rules and by the meaning.
use Rattle.std.proofs.Common.{◌≡◌, ℕ, zero, suc, pos, Bool, true, false, List, [], ◌∷◌, Some, None, if◌then◌else◌, slice_get, arith, refl, ap, sym, subst, codes, bytes_eq}
use Rattle.cp_model.specs.Abstract as a
use Rattle.cp_model.specs.declared.rules.Entity.{Entity}
use Rattle.cp_model.specs.declared.rules.Entity.TheVariants as entity
use Rattle.cp_model.specs.RulesEnvironment.{Names, Text, queue_row, row_of, standard_environment, standard_names}
use Rattle.cp_model.specs.Types.{ComponentOf, GlobalScope, Members, Queue, ResolvedType, first_ordinal, full_range, last_ordinal, standard_scope}
use Rattle.cp_model.specs.Places.{within}
use Rattle.cp_model.specs.Names.{lookup}
use Rattle.cp_law_typing.specs.WellTyped.{Later}
use Rattle.cp_law_typing.proofs.Names.{bytes_same}
use Rattle.cp_law_typing.proofs.TableMeanings.{GlobalAs, NamesAs, RowAs, StructureAs, TypeAt, Types, data_row, queue_data, simple_data}
use Rattle.cp_law_typing.proofs.Layers.{IsOuter}
use Rattle.cp_law_typing.proofs.Visible.{some_same}
use Rattle.cp_law_typing.proofs.Stages.{SchedulingState}

abbrev pub standard_types : Types
standard_types = full_range a.Integer ∷ full_range a.Boolean ∷ full_range a.Char ∷ Queue ∷ []

abbrev EachAs : (GlobalScope → Type 0) → Types → Names → Type 0
EachAs G rs [] = Unit {0}
EachAs G rs (n ∷ ns) = GlobalAs G rs n.0 n.1 × EachAs G rs ns

abbrev EachOuter : Names → Type 0
EachOuter [] = Unit {0}
EachOuter (n ∷ ns) = IsOuter n.1 × EachOuter ns

each_as : (G : GlobalScope → Type 0) (rs : Types) (ns : Names) → EachAs G rs ns → NamesAs G rs ns
each_as G rs [] h x e f = absurd (cc)
each_as G rs (n ∷ ns) h x e f = go (bytes_eq x n.0) refl f (each_as G rs ns h.1 x e)
  where
    go : (b : Bool) → bytes_eq x n.0 ≡ b → (if b then Some n.1 else lookup x ns) ≡ Some e → (lookup x ns ≡ Some e → GlobalAs G rs x e) → GlobalAs G rs x e
    go true is f rest = subst (GlobalAs G rs x) (some_same (Some n.1) n.1 e refl f) (subst (λ z. GlobalAs G rs z n.1) (sym (bytes_same x n.0 is)) h.0)
    go false is f rest = rest f

each_outer : (ns : Names) → EachOuter ns → (x : Text) (e : Entity) → lookup x ns ≡ Some e → IsOuter e
each_outer [] h x e f = absurd (cc)
each_outer (n ∷ ns) h x e f = go (bytes_eq x n.0) f (each_outer ns h.1 x e)
  where
    go : (b : Bool) → (if b then Some n.1 else lookup x ns) ≡ Some e → (lookup x ns ≡ Some e → IsOuter e) → IsOuter e
    go true f rest = subst IsOuter (some_same (Some n.1) n.1 e refl f) h.0
    go false f rest = rest f

abbrev S : GlobalScope → Type 0
S = Later standard_scope

-- a type and a constant of the language
a_type : (x : Text) (t : ℕ) (r : ResolvedType) → TypeAt standard_types t r → lookup x standard_scope.types ≡ Some r → GlobalAs S standard_types x (entity.Type t)
a_type x t r there found = (r, there, λ g l. l.types x r found)

truth : (x : Text) (n : ℕ) → lookup x standard_scope.constants ≡ Some (a.Boolean, pos n) → GlobalAs S standard_types x (entity.Constant 1 (pos n))
truth x n found = (a.Boolean, refl, λ g l. l.constants x (a.Boolean, pos n) found)

standards_as : EachAs S standard_types standard_names
standards_as = (
  a_type (codes "integer") 0 (full_range a.Integer) refl refl,
  (
    a_type (codes "boolean") 1 (full_range a.Boolean) refl refl,
    (
      a_type (codes "char") 2 (full_range a.Char) refl refl,
      (
        a_type (codes "queue") 3 Queue refl refl,
        (
          truth (codes "false") 0 refl,
          (
            truth (codes "true") 1 refl,
            (refl, (refl, (refl, (refl, (refl, (refl, (refl, (refl, (refl, (refl, (refl, (refl, tt)))))))))))),
          ),
        ),
      ),
    ),
  ),
)

abbrev AllIn : {A : Type 0} → List (Text × A) → Names → Type 0
AllIn [] ns = Unit {0}
AllIn (v ∷ vs) ns = ((e : Entity) × (lookup v.0 ns ≡ Some e)) × AllIn vs ns

none_too : {A : Type 0} (x : Text) (vs : List (Text × A)) (ns : Names) → AllIn vs ns → lookup x ns ≡ None → lookup x vs ≡ None
none_too x [] ns h none = refl
none_too x (v ∷ vs) ns h none = go (bytes_eq x v.0) refl (none_too x vs ns h.1 none)
  where
    go : (b : Bool) → bytes_eq x v.0 ≡ b → lookup x vs ≡ None → (if b then Some v.1 else lookup x vs) ≡ None
    go false is rest = rest
    go true is rest = absurd (cc (ap (λ z. lookup z ns) (bytes_same x v.0 is), none, h.0.1))

no_scope : (x : Text) → lookup x standard_names ≡ None → (lookup x standard_scope.constants ≡ None) × (lookup x standard_scope.types ≡ None)
no_scope x h = (
  none_too x standard_scope.constants standard_names ((entity.Constant 1 (pos 0), refl), ((entity.Constant 1 (pos 1), refl), tt)) h,
  none_too x standard_scope.types standard_names
      ((entity.Type 0, refl), ((entity.Type 1, refl), ((entity.Type 2, refl), ((entity.Type 3, refl), tt)))) h,
)

standard_row : (t : ℕ) (b : a.BaseType) → (row_of standard_environment t).words ≡ 1
    → StructureAs S standard_environment standard_types (row_of standard_environment t).structure (full_range b) → (row_of standard_environment t).has_queues ≡ false
    → RowAs S standard_environment standard_types (row_of standard_environment t) (full_range b)
standard_row t b words structure queues = data_row S standard_environment standard_types (row_of standard_environment t) (full_range b) structure
    (simple_data S (row_of standard_environment t) b (first_ordinal b) (last_ordinal b) (pos 0) words queues (starts_within b))
  where
    starts_within : (b : a.BaseType) → within (first_ordinal b) (last_ordinal b) (pos 0) ≡ true
    starts_within a.Integer = refl
    starts_within a.Char = refl
    starts_within a.Boolean = refl
    starts_within (a.Enumeration x n) = grind arith

standard_rows : (t : ℕ) (r : ResolvedType) → TypeAt standard_types t r → RowAs S standard_environment standard_types (row_of standard_environment t) r
standard_rows zero r h = subst (RowAs S standard_environment standard_types (row_of standard_environment 0)) (some_same (Some (full_range a.Integer)) (full_range a.Integer) r refl h)
    (standard_row 0 a.Integer refl (refl, refl, refl) refl)
standard_rows (suc zero) r h = subst (RowAs S standard_environment standard_types (row_of standard_environment 1)) (some_same (Some (full_range a.Boolean)) (full_range a.Boolean) r refl h)
    (standard_row 1 a.Boolean refl (refl, refl, refl) refl)
standard_rows (suc (suc zero)) r h = subst (RowAs S standard_environment standard_types (row_of standard_environment 2)) (some_same (Some (full_range a.Char)) (full_range a.Char) r refl h)
    (standard_row 2 a.Char refl (refl, refl, refl) refl)
standard_rows (suc (suc (suc zero))) r h = subst (RowAs S standard_environment standard_types (row_of standard_environment 3)) (some_same (Some Queue) Queue r refl h)
    (data_row S standard_environment standard_types queue_row Queue tt (queue_data S))
standard_rows (suc (suc (suc (suc t)))) r h = absurd (cc)

no_components : (t : ℕ) (w : a.System) (i : Members) → TypeAt standard_types t (ComponentOf w i) → (j : ℕ) × (slice_get {X = a.System} [] j ≡ Some w)
no_components zero w i h = absurd (cc)
no_components (suc zero) w i h = absurd (cc)
no_components (suc (suc zero)) w i h = absurd (cc)
no_components (suc (suc (suc zero))) w i h = absurd (cc)
no_components (suc (suc (suc (suc t)))) w i h = absurd (cc)

nothing : (j : ℕ) (w : a.System) → slice_get {X = a.System} [] j ≡ Some w → ⊥
nothing j w h = absurd (cc)

pub standard_stage : SchedulingState standard_environment standard_scope standard_types []
standard_stage = record {
  globals = each_as S standard_types standard_names standards_as;
  tables = record { rows = standard_rows; lengths = refl; integer = refl; boolean = refl; char = refl; queue = refl };
  is_outer = each_outer standard_names (tt, (tt, (tt, (tt, (tt, (tt, (tt, (tt, (tt, (tt, (tt, (tt, (tt, (tt, (tt, (tt, (tt, (tt, tt))))))))))))))))));
  distinct = (refl, (refl, (refl, (refl, (refl, (refl, (refl, (refl, (refl, (refl, (refl, (refl, (refl, (refl, (refl, (refl, (refl, (refl, tt))))))))))))))))));
  clock = refl;
  region = refl;
  seen = no_scope;
  systems = no_components;
  earlier = λ t n w i h e. absurd (nothing (no_components t w i h).0 w (no_components t w i h).1);
  processes = refl;
  monitors = refl;
  types = λ h l. ((λ e. (refl, omega arith), tt), ((λ e. (refl, omega arith), tt), ((λ e. (refl, omega arith), tt), ((λ e. (tt, omega arith), tt), tt))));
}
