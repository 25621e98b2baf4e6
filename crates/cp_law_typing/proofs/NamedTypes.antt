-- The written types of variables that are components: only a name represents a system type, so the
-- row of such a variable is that of the name.
use Rattle.std.proofs.Common.{◌≡◌, ℕ, Bool, true, false, List, [], ◌∷◌, ◌++◌, Option, Some, None, if◌then◌else◌, map, refl, ap, sym, subst, ◌∙◌, bytes_eq}
use Rattle.std.specs.Option.{option_or}
use Rattle.std.proofs.lemmas.Bool.{true≢false}
use Rattle.cp_model.specs.Syntax as s
use Rattle.cp_model.specs.Abstract as a
use Rattle.cp_model.specs.Erase as erase
use Rattle.cp_model.specs.declared.tree.Identifier.{Identifier}
use Rattle.cp_model.specs.declared.rules.Access.{Access}
use Rattle.cp_model.specs.declared.rules.Entity.{Entity}
use Rattle.cp_model.specs.declared.rules.Entity.TheVariants as entity
use Rattle.cp_model.specs.declared.rules.Position.TheVariants as position
use Rattle.cp_model.specs.RulesJudged.{Sound, then_judge}
use Rattle.cp_model.specs.RulesEnvironment.{Environment, Names, Text, resolve, row_of}
use Rattle.cp_model.specs.RulesTypes.{Made, c2_type, c6_c8_placed, judge_in_position, named_type, type_at, type_of}
use Rattle.cp_model.specs.RulesDeclarations.{own_variable}
use Rattle.cp_model.specs.Names.{lookup}
use Rattle.cp_model.specs.Types.{ArrayOf, ComponentOf, GlobalScope, Members, NoType, Queue, RecordOf, ResolvedType, Simple, array_type, subrange_type}
use Rattle.cp_model.specs.Declarations.{is_component}
use Rattle.cp_law_typing.proofs.Names.{lookup-append}
use Rattle.cp_model.proofs.Judging.{sound_same}
use Rattle.cp_law_typing.proofs.TableMeanings.{TypeAt, Types}
use Rattle.cp_law_typing.proofs.TypeRows.{TypeMade}
use Rattle.cp_law_typing.proofs.TypesMade.{alone_in, placed_allows, placed_inner}
use Rattle.cp_law_typing.proofs.DeclaredNames.{entries}
use Rattle.cp_law_typing.proofs.Visible.{some_same}
use Rattle.cp_law_typing.proofs.MonitorPlaces.{group_types}

-- ---- Entries and their written types

-- If the variable is a component, its type is written as a name that represents the same row.
abbrev pub EntryNamed : Names → Types → Entity → a.TypeExpression → Type 0
EntryNamed names rs (entity.Variable t acc) te =
    (y : a.System) (inner : Members) → TypeAt rs t (ComponentOf y inner) → (n : Text) × (te ≡ a.TypeName n) × (lookup n names ≡ Some (entity.Type t))
EntryNamed names rs _ te = ⊥

abbrev pub AllNamed : Names → Types → Names → List (Text × a.TypeExpression) → Type 0
AllNamed names rs [] [] = Unit {0}
AllNamed names rs (e ∷ es) (w ∷ ws) = (e.0 ≡ w.0) × EntryNamed names rs e.1 w.1 × AllNamed names rs es ws
AllNamed names rs _ _ = ⊥

module _ (names : Names) (rs : Types) where
  pub named_append : (es fs : Names) (ws vs : List (Text × a.TypeExpression)) → AllNamed names rs es ws → AllNamed names rs fs vs → AllNamed names rs (es ++ fs) (ws ++ vs)
  named_append [] fs [] vs h k = k
  named_append (e ∷ es) fs (w ∷ ws) vs h k = (h.0, h.1, named_append es fs ws vs h.2 k)
  named_append [] fs (w ∷ ws) vs h k = absurd h
  named_append (e ∷ es) fs [] vs h k = absurd h

  -- The type of a variable, by its name.
  pub written_type : (es : Names) (ws : List (Text × a.TypeExpression)) (x : Text) (t : ℕ) (acc : Access) → AllNamed names rs es ws → lookup x es ≡ Some (entity.Variable t acc)
      → (te : a.TypeExpression) × (lookup x ws ≡ Some te) × EntryNamed names rs (entity.Variable t acc) te
  written_type [] [] x t acc h k = absurd (cc)
  written_type (e ∷ es) (w ∷ ws) x t acc h k = go (bytes_eq x e.0) (ap (bytes_eq x) (sym h.0)) k (written_type es ws x t acc h.2) refl
    where
      go : (b : Bool) → bytes_eq x w.0 ≡ bytes_eq x e.0 → (if b then Some e.1 else lookup x es) ≡ Some (entity.Variable t acc)
          → (lookup x es ≡ Some (entity.Variable t acc) → (te : a.TypeExpression) × (lookup x ws ≡ Some te) × EntryNamed names rs (entity.Variable t acc) te)
          → bytes_eq x e.0 ≡ b → (te : a.TypeExpression) × (lookup x (w ∷ ws) ≡ Some te) × EntryNamed names rs (entity.Variable t acc) te
      go true same k rest is = (
        w.1,
        ap (λ b. if b then Some w.1 else lookup x ws) (same ∙ is),
        subst (λ f. EntryNamed names rs f w.1) (some_same (Some e.1) e.1 (entity.Variable t acc) refl k) h.1,
      )
      go false same k rest is = let r = rest k in (r.0, ap (λ b. if b then Some w.1 else lookup x ws) (same ∙ is) ∙ r.1, r.2)
  written_type [] (w ∷ ws) x t acc h k = absurd h
  written_type (e ∷ es) [] x t acc h k = absurd h

-- Where more types add no component, and more names only variables, the entries keep their names.
pub named_kept : (before names : Names) (rs more : Types) → ((n : Text) (t : ℕ) → lookup n names ≡ Some (entity.Type t) → lookup n before ≡ Some (entity.Type t))
    → ((t : ℕ) (y : a.System) (inner : Members) → TypeAt more t (ComponentOf y inner) → TypeAt rs t (ComponentOf y inner))
    → (es : Names) (ws : List (Text × a.TypeExpression)) → AllNamed names rs es ws → AllNamed before more es ws
named_kept before names rs more back components [] [] h = tt
named_kept before names rs more back components (e ∷ es) (w ∷ ws) h = (h.0, one e.1 h.1, named_kept before names rs more back components es ws h.2)
  where
    one : (e : Entity) → EntryNamed names rs e w.1 → EntryNamed before more e w.1
    one (entity.Variable t acc) k = λ y inner there. let r = k y inner (components t y inner there) in (r.0, r.1, back r.0 t r.2)
    one _ k = absurd k
named_kept before names rs more back components [] (w ∷ ws) h = absurd h
named_kept before names rs more back components (e ∷ es) [] h = absurd h

pub group_named : (names : Names) (rs : Types) (t : ℕ) (te : a.TypeExpression) → EntryNamed names rs (own_variable t) te → (xs : List Identifier)
    → AllNamed names rs (entries (own_variable t) xs) (group_types te (map erase.name xs) [])
group_named names rs t te h [] = tt
group_named names rs t te h (x ∷ xs) = (refl, h, group_named names rs t te h xs)

pub types_append : (te : a.TypeExpression) (xs : List Text) (rest : List (Text × a.TypeExpression)) → group_types te xs rest ≡ group_types te xs [] ++ rest
types_append te [] rest = refl
types_append te (x ∷ xs) rest = ap (λ l. (x, te) ∷ l) (types_append te xs rest)

-- A type that is found behind variables was found before them.
pub found_before : (names : Names) (e : Entity) (xs : List Identifier) → ((t : ℕ) → e ≡ entity.Type t → ⊥) → (n : Text) (t : ℕ)
    → lookup n (names ++ entries e xs) ≡ Some (entity.Type t) → lookup n names ≡ Some (entity.Type t)
found_before names e xs other n t h = go (lookup n names) (sym (lookup-append n names (entries e xs)) ∙ h)
  where
    no_entry : (xs : List Identifier) → lookup n (entries e xs) ≡ Some (entity.Type t) → ⊥
    no_entry [] k = absurd (cc)
    no_entry (x ∷ xs) k = by (bytes_eq n x.name) k (no_entry xs)
      where
        by : (b : Bool) → (if b then Some e else lookup n (entries e xs)) ≡ Some (entity.Type t) → (lookup n (entries e xs) ≡ Some (entity.Type t) → ⊥) → ⊥
        by true k rest = other t (some_same (Some e) e (entity.Type t) refl k)
        by false k rest = rest k

    go : (o : Option Entity) → option_or o (lookup n (entries e xs)) ≡ Some (entity.Type t) → o ≡ Some (entity.Type t)
    go None k = absurd (no_entry xs k)
    go (Some f) k = k

-- ---- Names alone represent system types

pub type_found : (x : Identifier) (o : Option Entity) (n : ℕ) → then_judge (resolve x o) (c2_type x) ≡ Sound n → o ≡ Some (entity.Type n)
type_found x (Some (entity.Type t)) n h = ap (λ k. Some (entity.Type k)) (sound_same t n h)
type_found x None n h = absurd (cc)
type_found x (Some (entity.Constant b v)) n h = absurd (cc)
type_found x (Some (entity.Variable t q)) n h = absurd (cc)
type_found x (Some (entity.Routine t)) n h = absurd (cc)
type_found x (Some (entity.Entry t)) n h = absurd (cc)
type_found x (Some (entity.Standard t)) n h = absurd (cc)
type_found x (Some entity.UnfinishedConstant) n h = absurd (cc)
type_found x (Some entity.UnfinishedType) n h = absurd (cc)
type_found x (Some (entity.UnfinishedRoutine r)) n h = absurd (cc)
type_found x (Some entity.Hidden) n h = absurd (cc)
type_found x (Some (entity.Broken v)) n h = absurd (cc)

no_subrange : (o p : Option (a.BaseType × _)) (y : a.System) (inner : Members) → subrange_type o p ≡ ComponentOf y inner → ⊥
no_subrange (Some v) (Some w) y inner h = absurd (cc)
no_subrange None p y inner h = absurd (cc)
no_subrange (Some v) None y inner h = absurd (cc)

no_array : (q r : ResolvedType) (y : a.System) (inner : Members) → array_type q r ≡ ComponentOf y inner → ⊥
no_array (Simple b low high start) r y inner h = absurd (cc)
no_array (ArrayOf low high q) r y inner h = absurd (cc)
no_array (RecordOf ps) r y inner h = absurd (cc)
no_array Queue r y inner h = absurd (cc)
no_array (ComponentOf z k) r y inner h = absurd (cc)
no_array NoType r y inner h = absurd (cc)

module _ (G : GlobalScope → Type 0) (env : Environment) (rs : Types) (g : GlobalScope) (in_scope : G g) where
  pub only_names : (te : s.TypeExpression) (n : ℕ) → (type_of env te).of ≡ Sound n → (m : TypeMade G env rs (type_of env te).env n (erase.type_expression te))
      → (y : a.System) (inner : Members) → m.type ≡ ComponentOf y inner → (x : Identifier) × (te ≡ s.Named x)
  only_names (s.Named x) n h m y inner is = (x, refl)
  only_names (s.Subrange b c) n h m y inner is = absurd (no_subrange _ _ y inner (m.resolves g in_scope ∙ is))
  only_names (s.Array at (s.MoreTypes t ts) e) n h m y inner is = absurd (no_array _ _ y inner (m.resolves g in_scope ∙ is))
  only_names (s.Array at s.NoTypes e) n h m y inner is =
      let one : Made _ = type_of env e in
      let k : (x : ℕ) × (one.of ≡ Sound x) × (c6_c8_placed one.env position.Element (type_at e) x ≡ Sound n) = placed_inner G one.env position.Element e one.of n h in
      absurd (true≢false (ap is_component (sym is) ∙ alone k.0 k.2))
    where
      alone : (x : ℕ) → c6_c8_placed (type_of env e).env position.Element (type_at e) x ≡ Sound n → is_component m.type ≡ false
      alone x k = alone_in G (type_of env e).env m.made.more position.Element (λ y. refl) (row_of (type_of env e).env n).structure m.type (m.made.tables.rows n m.type m.there).structure
          (subst (λ j. Rattle.cp_model.specs.RulesTypes.allows_structure (type_of env e).env position.Element (row_of (type_of env e).env j).structure ≡ true) (Rattle.cp_law_typing.proofs.TypesMade.placed_sound G (type_of env e).env position.Element (type_at e) x n k)
          (placed_allows G (type_of env e).env position.Element (type_at e) x n k).0)
  only_names (s.Record at gs) n h m y inner is = absurd (no_record _ (m.resolves g in_scope ∙ is))
    where
      no_record : (ps : Members) → RecordOf ps ≡ ComponentOf y inner → ⊥
      no_record ps h = absurd (cc)
