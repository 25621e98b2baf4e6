-- Processes and monitors: the rules count them up to 255 as they are declared.
use Rattle.std.proofs.Common.{◌≡◌, ◌≤◌, ℕ, suc, ◌+◌, Bool, true, false, ◌&&◌, not, List, [], ◌∷◌, ◌++◌, if◌then◌else◌, nat_eq, map, refl, ap, sym, subst, ◌∙◌, arith}
use Rattle.std.proofs.lemmas.Bool.{true≢false, and_parts}
use Rattle.cp_model.specs.Abstract as a
use Rattle.cp_model.specs.Erase as erase
use Rattle.cp_model.specs.declared.tree.Identifier.{Identifier}
use Rattle.cp_model.specs.declared.tree.Sort.{Sort}
use Rattle.cp_model.specs.declared.tree.Sort.TheVariants as sort
use Rattle.cp_model.specs.declared.rules.Rule.TheVariants.{C13}
use Rattle.cp_model.specs.declared.rules.Structure.{Structure}
use Rattle.cp_model.specs.declared.rules.Structure.TheVariants as structure
use Rattle.cp_model.specs.declared.rules.SystemRow.{SystemRow}
use Rattle.cp_model.specs.declared.rules.Position.{Position}
use Rattle.cp_model.specs.declared.rules.Position.TheVariants as position
use Rattle.cp_model.specs.RulesEnvironment.{Environment, Text, row_of, system_row}
use Rattle.cp_model.specs.RulesTypes.{is_within, word_limit}
use Rattle.cp_model.specs.RulesJudged.{Sound, unless}
use Rattle.cp_model.specs.RulesDeclarations.{c13_owner, one_too_many, owners, owners_in, owners_of, with_owner}
use Rattle.cp_model.specs.Rules.{variable_position}
use Rattle.cp_model.specs.Types.{ArrayOf, ComponentOf, GlobalScope, Members, NoType, Queue, RecordOf, ResolvedType, Simple}
use Rattle.cp_model.specs.Declarations.{Variable, declared_group, is_component}
use Rattle.cp_model.specs.Components.{is_component_of, same_sort}
use Rattle.cp_model.specs.States.{count_components}
use Rattle.cp_law_typing.specs.Needs.{AllOwnersFit, OwnerFits, owner_words, words_as_owner}
use Rattle.cp_model.proofs.Judging.{first_empty, rest_empty}
use Rattle.cp_law_typing.proofs.Bounds.{is_within_true}
use Rattle.cp_law_typing.proofs.TypeRows.{holds, not_is}
use Rattle.cp_law_typing.proofs.TableMeanings.{StructureAs, Types}

-- `p` more processes and `m` more monitors, and at most 255 of each
pub record CountsMore (env after : Environment) (p m : ℕ) : Type 0 where
  pub processes : after.processes ≡ env.processes + p
  pub monitors : after.monitors ≡ env.monitors + m
  pub processes_fit : after.processes ≤ 255
  pub monitors_fit : after.monitors ≤ 255

abbrev pub Counts : Environment → Environment → ℕ → ℕ → Type 0
Counts env after p m = env.processes ≤ 255 → env.monitors ≤ 255 → CountsMore env after p m

pub counts_none : (env : Environment) → Counts env env 0 0
counts_none env h k = record { processes = omega arith; monitors = omega arith; processes_fit = h; monitors_fit = k }

pub counts_on : (env mid after : Environment) (p m q n : ℕ) → Counts env mid p m → Counts mid after q n → Counts env after (p + q) (m + n)
counts_on env mid after p m q n f g h k =
    let one : CountsMore env mid p m = f h k in
    let two : CountsMore mid after q n = g one.processes_fit one.monitors_fit in
    record {
      processes = omega (arith, one.processes, two.processes);
      monitors = omega (arith, one.monitors, two.monitors);
      processes_fit = two.processes_fit;
      monitors_fit = two.monitors_fit;
    }

-- ---- one owner

abbrev one_if : Bool → ℕ
one_if b = if b then 1 else 0

abbrev one_of : a.Sort → a.Sort → ℕ
one_of s z = one_if (same_sort s z)

room : (n : ℕ) (b : Bool) (at : ℕ) → unless (not (nat_eq (suc n) one_too_many) && b) C13 at ≡ [] → nat_eq (suc n) one_too_many ≡ false
room n b at h = not_is (nat_eq (suc n) one_too_many) (and_parts (not (nat_eq (suc n) one_too_many)) b (holds _ C13 at h)).0

one_counted : (env : Environment) (x : Identifier) (y : SystemRow) (z : Sort) → c13_owner env x y z ≡ []
    → Counts env (with_owner env z) (one_of a.Process (erase.sort_of z)) (one_of a.Monitor (erase.sort_of z))
one_counted env x y sort.Process h f g =
    let more : nat_eq (suc env.processes) one_too_many ≡ false = room env.processes (is_within y.words) x.at h in
    record { processes = grind (arith, more, f); monitors = omega arith; processes_fit = grind (arith, more, f); monitors_fit = g }
one_counted env x y sort.Monitor h f g =
    let more : nat_eq (suc env.monitors) one_too_many ≡ false = room env.monitors (is_within y.words) x.at h in
    record { processes = omega arith; monitors = grind (arith, more, g); processes_fit = f; monitors_fit = grind (arith, more, g) }
one_counted env x y sort.Class h f g = record { processes = omega arith; monitors = omega arith; processes_fit = f; monitors_fit = g }

-- ---- a group of names

abbrev pub named_group : ResolvedType → List Identifier → List (Text × Variable)
named_group r xs = declared_group false r (map erase.name xs) []

count_first : (s : a.Sort) (x : Text) (v : Variable) (vs : List (Text × Variable)) → one_if (is_component_of s v.type) + count_components s vs ≡ count_components s ((x, v) ∷ vs)
count_first s x v vs = go (is_component_of s v.type)
  where
    go : (b : Bool) → one_if b + count_components s vs ≡ (if b then suc (count_components s vs) else count_components s vs)
    go true = omega arith
    go false = omega arith

pub count_append : (s : a.Sort) (ds es : List (Text × Variable)) → count_components s (ds ++ es) ≡ count_components s ds + count_components s es
count_append s [] es = omega arith
count_append s (d ∷ ds) es =
    sym (count_first s d.0 d.1 (ds ++ es)) ∙ ap (λ n. one_if (is_component_of s d.1.type) + n) (count_append s ds es)
    ∙ omega (arith, count_first s d.0 d.1 ds)

all_counted : (env : Environment) (y : SystemRow) (w : a.System) (inner : Members) (xs : List Identifier) → erase.sort_of y.sort ≡ w.sort → (owners_of env y xs).violations ≡ []
    → Counts env (owners_of env y xs).env (count_components a.Process (named_group (ComponentOf w inner) xs)) (count_components a.Monitor (named_group (ComponentOf w inner) xs))
all_counted env y w inner [] is h = counts_none env
all_counted env y w inner (x ∷ xs) is h =
    let next : Environment = with_owner env y.sort in
    let v : Variable = record { by_reference = false; type = ComponentOf w inner } in
    let vs : List (Text × Variable) = named_group (ComponentOf w inner) xs in
    let one : Counts env next (one_of a.Process w.sort) (one_of a.Monitor w.sort) =
    subst (λ z. Counts env next (one_of a.Process z) (one_of a.Monitor z)) is (one_counted env x y y.sort (first_empty (c13_owner env x y y.sort) _ h)) in
    let rest : Counts next (owners_of next y xs).env (count_components a.Process vs) (count_components a.Monitor vs) =
    all_counted next y w inner xs is (rest_empty (c13_owner env x y y.sort) _ h) in
    subst (λ n. Counts env (owners_of next y xs).env n (count_components a.Monitor ((x.name, v) ∷ vs))) (count_first a.Process x.name v vs)
    (subst (Counts env (owners_of next y xs).env (one_of a.Process w.sort + count_components a.Process vs)) (count_first a.Monitor x.name v vs)
    (counts_on env next _ _ _ _ _ one rest))

none_counted : (s : a.Sort) (r : ResolvedType) (xs : List Identifier) → is_component r ≡ false → count_components s (named_group r xs) ≡ 0
none_counted s r [] h = refl
none_counted s r (x ∷ xs) h =
    sym (count_first s x.name (record { by_reference = false; type = r }) (named_group r xs)) ∙ omega (arith, not_of r h, none_counted s r xs h)
  where
    not_of : (r : ResolvedType) → is_component r ≡ false → one_if (is_component_of s r) ≡ 0
    not_of (ComponentOf w inner) h = absurd (true≢false h)
    not_of (Simple b low high start) h = refl
    not_of (ArrayOf low high q) h = refl
    not_of (RecordOf ps) h = refl
    not_of Queue h = refl
    not_of NoType h = refl

-- ---- what a declaration counts

abbrev pub CountsAll : Environment → Environment → List (Text × Variable) → Type 0
CountsAll env after ds = Counts env after (count_components a.Process ds) (count_components a.Monitor ds)

-- only the initial process has owners
abbrev pub CountedIn : Position → Environment → Environment → List (Text × Variable) → Type 0
CountedIn position.InitialVariable env after ds = CountsAll env after ds
CountedIn _ env after ds = (after.processes ≡ env.processes) × (after.monitors ≡ env.monitors)

pub counted_append : (p : Position) (env mid after : Environment) (ds es : List (Text × Variable)) → CountedIn p env mid ds → CountedIn p mid after es → CountedIn p env after (ds ++ es)
counted_append position.InitialVariable env mid after ds es f g =
    subst (λ n. Counts env after n (count_components a.Monitor (ds ++ es))) (sym (count_append a.Process ds es))
    (subst (Counts env after (count_components a.Process ds + count_components a.Process es)) (sym (count_append a.Monitor ds es))
    (counts_on env mid after _ _ _ _ f g))
counted_append position.Definition env mid after ds es f g = (g.0 ∙ f.0, g.1 ∙ f.1)
counted_append position.Element env mid after ds es f g = (g.0 ∙ f.0, g.1 ∙ f.1)
counted_append position.Field env mid after ds es f g = (g.0 ∙ f.0, g.1 ∙ f.1)
counted_append position.MonitorVariable env mid after ds es f g = (g.0 ∙ f.0, g.1 ∙ f.1)
counted_append position.ComponentVariable env mid after ds es f g = (g.0 ∙ f.0, g.1 ∙ f.1)
counted_append position.RoutineVariable env mid after ds es f g = (g.0 ∙ f.0, g.1 ∙ f.1)

pub counted_elsewhere : (z : Sort) (env after : Environment) (ds : List (Text × Variable)) → CountedIn (variable_position z) env after ds
    → (after.processes ≡ env.processes) × (after.monitors ≡ env.monitors)
counted_elsewhere sort.Process env after ds h = h
counted_elsewhere sort.Monitor env after ds h = h
counted_elsewhere sort.Class env after ds h = h

pub counted_none : (p : Position) (env : Environment) → CountedIn p env env []
counted_none position.InitialVariable env = counts_none env
counted_none position.Definition env = (refl, refl)
counted_none position.Element env = (refl, refl)
counted_none position.Field env = (refl, refl)
counted_none position.MonitorVariable env = (refl, refl)
counted_none position.ComponentVariable env = (refl, refl)
counted_none position.RoutineVariable env = (refl, refl)

-- ---- owners fit

owner_fits : (env : Environment) (x : Identifier) (y : SystemRow) (z : Sort) (m : ℕ) → (y.words ≤ word_limit → m ≤ y.words) → c13_owner env x y z ≡ []
    → words_as_owner (erase.sort_of z) m ≤ word_limit
owner_fits env x y sort.Process m f h =
    let fits : y.words ≤ word_limit = is_within_true y.words (and_parts (not (nat_eq (suc env.processes) one_too_many)) _ (holds _ C13 x.at h)).1 in
    omega (arith, fits, f fits)
owner_fits env x y sort.Monitor m f h =
    let fits : y.words ≤ word_limit = is_within_true y.words (and_parts (not (nat_eq (suc env.monitors) one_too_many)) _ (holds _ C13 x.at h)).1 in
    omega (arith, fits, f fits)
owner_fits env x y sort.Class m f h = omega arith

-- in the initial process, each process and each monitor fits
abbrev pub OwnersFitIn : Position → (GlobalScope → Type 0) → List (Text × Variable) → Type 0
OwnersFitIn position.InitialVariable G ds = (n : ℕ) (g : GlobalScope) → G g → AllOwnersFit n g ds
OwnersFitIn _ G ds = Unit {0}

pub owners_append : (p : Position) (G : GlobalScope → Type 0) (ds es : List (Text × Variable)) → OwnersFitIn p G ds → OwnersFitIn p G es → OwnersFitIn p G (ds ++ es)
owners_append position.InitialVariable G ds es f g = λ n h i. all n h ds (f n h i) (g n h i)
  where
    all : (n : ℕ) (h : GlobalScope) (ds : List (Text × Variable)) → AllOwnersFit n h ds → AllOwnersFit n h es → AllOwnersFit n h (ds ++ es)
    all n h [] f g = g
    all n h (d ∷ ds) f g = (f.0, all n h ds f.1 g)
owners_append position.Definition G ds es f g = tt
owners_append position.Element G ds es f g = tt
owners_append position.Field G ds es f g = tt
owners_append position.MonitorVariable G ds es f g = tt
owners_append position.ComponentVariable G ds es f g = tt
owners_append position.RoutineVariable G ds es f g = tt

pub owners_none : (p : Position) (G : GlobalScope → Type 0) → OwnersFitIn p G []
owners_none position.InitialVariable G = λ n h i. tt
owners_none position.Definition G = tt
owners_none position.Element G = tt
owners_none position.Field G = tt
owners_none position.MonitorVariable G = tt
owners_none position.ComponentVariable G = tt
owners_none position.RoutineVariable G = tt

module _ (G : GlobalScope → Type 0) (env : Environment) (rs : Types) where
  all_fit : (n : ℕ) (g : GlobalScope) (y : SystemRow) (w : a.System) (inner : Members) → erase.sort_of y.sort ≡ w.sort → (y.words ≤ word_limit → owner_words n g w ≤ y.words)
      → (xs : List Identifier) (env : Environment) → (owners_of env y xs).violations ≡ [] → AllOwnersFit n g (named_group (ComponentOf w inner) xs)
  all_fit n g y w inner is f [] env h = tt
  all_fit n g y w inner is f (x ∷ xs) env h = (
    subst (λ z. words_as_owner z (owner_words n g w) ≤ word_limit) is (owner_fits env x y y.sort (owner_words n g w) f (first_empty (c13_owner env x y y.sort) _ h)),
    all_fit n g y w inner is f xs (with_owner env y.sort) (rest_empty (c13_owner env x y y.sort) _ h),
  )

  none_fit : (n : ℕ) (g : GlobalScope) (r : ResolvedType) → OwnerFits n g r → (xs : List Identifier) → AllOwnersFit n g (named_group r xs)
  none_fit n g r h [] = tt
  none_fit n g r h (x ∷ xs) = (h, none_fit n g r h xs)

  owners_fit_in : (st : Structure) (r : ResolvedType) (xs : List Identifier) → StructureAs G env rs st r → (owners_in env st xs).violations ≡ []
      → (n : ℕ) (g : GlobalScope) → G g → AllOwnersFit n g (named_group r xs)
  owners_fit_in (structure.System k) (ComponentOf w inner) xs s h n g i = all_fit n g (system_row env k) w inner s.sort (s.words n g i) xs env h
  owners_fit_in (structure.Simple base low high) (Simple b lo hi start) xs k h n g i = none_fit n g (Simple b lo hi start) tt xs
  owners_fit_in (structure.Array j e) (ArrayOf lo hi r) xs k h n g i = none_fit n g (ArrayOf lo hi r) tt xs
  owners_fit_in (structure.Record m) (RecordOf ps) xs k h n g i = none_fit n g (RecordOf ps) tt xs
  owners_fit_in structure.Queue Queue xs k h n g i = none_fit n g Queue tt xs
  owners_fit_in (structure.System m) _ xs k h n g i = absurd k
  owners_fit_in (structure.Simple base low high) _ xs k h n g i = absurd k
  owners_fit_in (structure.Array j e) _ xs k h n g i = absurd k
  owners_fit_in (structure.Record m) _ xs k h n g i = absurd k
  owners_fit_in structure.Queue _ xs k h n g i = absurd k

  pub group_fits : (p : Position) (t : ℕ) (r : ResolvedType) (xs : List Identifier) → StructureAs G env rs (row_of env t).structure r
      → (owners env p (Sound t) xs).violations ≡ [] → OwnersFitIn p G (named_group r xs)
  group_fits position.InitialVariable t r xs k h = λ n g i. owners_fit_in (row_of env t).structure r xs k h n g i
  group_fits position.Definition t r xs k h = tt
  group_fits position.Element t r xs k h = tt
  group_fits position.Field t r xs k h = tt
  group_fits position.MonitorVariable t r xs k h = tt
  group_fits position.ComponentVariable t r xs k h = tt
  group_fits position.RoutineVariable t r xs k h = tt

  data_counted : (r : ResolvedType) (xs : List Identifier) → is_component r ≡ false → CountsAll env env (named_group r xs)
  data_counted r xs alone =
      subst (λ n. Counts env env n (count_components a.Monitor (named_group r xs))) (sym (none_counted a.Process r xs alone))
      (subst (Counts env env 0) (sym (none_counted a.Monitor r xs alone)) (counts_none env))

  in_counted : (st : Structure) (r : ResolvedType) (xs : List Identifier) → StructureAs G env rs st r → (owners_in env st xs).violations ≡ []
      → CountsAll env (owners_in env st xs).env (named_group r xs)
  in_counted (structure.System n) (ComponentOf w inner) xs k h = all_counted env (system_row env n) w inner xs k.sort h
  in_counted (structure.Simple base low high) (Simple b lo hi start) xs k h = data_counted (Simple b lo hi start) xs refl
  in_counted (structure.Array i e) (ArrayOf lo hi r) xs k h = data_counted (ArrayOf lo hi r) xs refl
  in_counted (structure.Record n) (RecordOf ps) xs k h = data_counted (RecordOf ps) xs refl
  in_counted structure.Queue Queue xs k h = data_counted Queue xs refl
  in_counted (structure.System n) _ xs k h = absurd k
  in_counted (structure.Simple base low high) _ xs k h = absurd k
  in_counted (structure.Array i e) _ xs k h = absurd k
  in_counted (structure.Record n) _ xs k h = absurd k
  in_counted structure.Queue _ xs k h = absurd k

  pub group_counted : (p : Position) (t : ℕ) (r : ResolvedType) (xs : List Identifier) → StructureAs G env rs (row_of env t).structure r
      → (owners env p (Sound t) xs).violations ≡ [] → CountedIn p env (owners env p (Sound t) xs).env (named_group r xs)
  group_counted position.InitialVariable t r xs k h = in_counted (row_of env t).structure r xs k h
  group_counted position.Definition t r xs k h = (refl, refl)
  group_counted position.Element t r xs k h = (refl, refl)
  group_counted position.Field t r xs k h = (refl, refl)
  group_counted position.MonitorVariable t r xs k h = (refl, refl)
  group_counted position.ComponentVariable t r xs k h = (refl, refl)
  group_counted position.RoutineVariable t r xs k h = (refl, refl)
