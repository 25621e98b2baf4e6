-- Tables are made for one routine after another, and what holds of them stays true.
use Rattle.std.proofs.Common.{◌≡◌, ◌≤◌, ◌++◌, ◌∷◌, ◌∙◌, ⊎_elim, arith, Bor, ℕ, List, [], Option, None, Some, ap, append_assoc, length, slice_get, subst, sym}
use Rattle.std.proofs.lemmas.List.{append-nil}
use Rattle.cp_model.specs.Declarations.{Variable}
use Rattle.cp_model.specs.Types.{GlobalScope}
use Rattle.cp_model.specs.declared.tree.Routine as tree
use Rattle.cp_compile_symbols.specs.declared.components.Right.{Right}
use Rattle.cp_compile_symbols.specs.declared.layout.Layout.{Layout}
use Rattle.cp_compile_symbols.specs.declared.names.Names.{Names}
use Rattle.cp_compile_symbols.specs.declared.routines.RoutineTable.{RoutineTable}
use Rattle.cp_compile_symbols.specs.declared.types.Types.{Types}
use Rattle.cp_compile_symbols.specs.Components.{RightIs}
use Rattle.cp_compile_symbols.specs.Layouts.{AreLaid}
use Rattle.cp_compile_symbols.specs.Routines.{Builds, MakesRoutine}
use Rattle.cp_model.specs.Abstract.{Name}
use Rattle.cp_compile_symbols.specs.declared.numbering.Numbered.{Numbered}
use Rattle.cp_compile_symbols.specs.Numbering.{NumberedIs}
use Rattle.cp_compile_symbols.specs.Representing.{Grows, ScopeRepresents}
use Rattle.cp_compile_symbols.specs.Systems.{AreRoutines, MakesRoutines, routines_of}
use Rattle.std.proofs.lemmas.Option.{same_Some, slice_get_cases, slice_get_within}
use Rattle.cp_model.specs.declared.tree.System.{System}
use Rattle.cp_compile_symbols.specs.declared.systems.SystemTable.{SystemTable}
use Rattle.cp_compile_symbols.specs.Representing.{system_at}
use Rattle.cp_compile_symbols.specs.Texts.{AreSystems, TableIs}
use Rattle.cp_compile_symbols.proofs.Laying.{last_or_before}
use Rattle.cp_compile_symbols.proofs.Representing.{grows_more, grows_not, still_scope, still_represents}

pub builds_nothing : (names : Names) (types : Types) (ls : List Layout) → Builds names types types ls ls
builds_nothing names types ls = record { grows = grows_not types; laid = λ g scope laid. laid }

pub builds_more : (names : Names) (a b c : Types) (ls ms ns : List Layout) → Builds names a b ls ms → Builds names b c ms ns → Builds names a c ls ns
builds_more names a b c ls ms ns one two = record {
  grows = grows_more a b c one.grows two.grows;
  laid = λ g scope laid. two.laid g (still_scope a b one.grows names g scope) (one.laid g scope laid);
}

-- The tables made so far and those of the remaining routines are the tables of all routines.
pub record PartlyMade (names : Names) (old new : Types) (before after : List Layout) (all left : List tree.Routine) (tables : List RoutineTable) : Type 0 where
  pub builds : Builds names old new before after
  pub represents : (g : GlobalScope) (later : Types) (rest : List RoutineTable) → ScopeRepresents names old g → AreLaid g old before → Grows new later
      → AreRoutines g later rest (routines_of left) → AreRoutines g later (tables ++ rest) (routines_of all)

pub one_made : (names : Names) (a b c : Types) (ls ms ns : List Layout) (all left : List tree.Routine) (text : tree.Routine) (tables : List RoutineTable) (table : RoutineTable)
    → PartlyMade names a b ls ms all (text ∷ left) tables → MakesRoutine names b c ms ns text table → PartlyMade names a c ls ns all left (tables ++ table ∷ [])
one_made names a b c ls ms ns all left text tables table some one = record {
  builds = builds_more names a b c ls ms ns some.builds one.builds;
  represents = λ g later rest scope laid grows r.
      subst (λ ts. AreRoutines g later ts (routines_of all)) (sym (append_assoc tables (table ∷ []) rest))
      (some.represents g later (table ∷ rest) scope laid (grows_more b c later one.builds.grows grows)
      (one.represents g later (still_scope a b some.builds.grows names g scope) (some.builds.laid g scope laid) grows, r));
}

pub all_made : (names : Names) (a b : Types) (ls ms : List Layout) (all left : List tree.Routine) (tables : List RoutineTable) → left ≡ []
    → PartlyMade names a b ls ms all left tables → MakesRoutines names a b ls ms all tables
all_made names a b ls ms all left tables none some = record {
  builds = some.builds;
  represents = λ g later scope laid grows.
      subst (λ ts. AreRoutines g later ts (routines_of all)) (append-nil tables)
      (some.represents g later [] scope laid grows (subst (λ (rs : List tree.Routine). AreRoutines g later [] (routines_of rs)) (sym none) tt));
}

pub right_still : (old new : Types) → Grows old new → (r : Option Right) (q : Option (ℕ × Variable)) → RightIs old r q → RightIs new r q
right_still old new grows None None h = tt
right_still old new grows (Some r) (Some q) h = (h.0, still_represents old new grows r.of q.1.type h.1)
right_still old new grows None (Some q) h = absurd h
right_still old new grows (Some r) None h = absurd h

-- ---- System types

-- The table of each number is that of the system type of that number.
abbrev pub AreTables : GlobalScope → Types → List SystemTable → Type 0
AreTables g types tables = (k : ℕ) (y : Bor System) (table : SystemTable) → system_at types k ≡ Some y → slice_get tables k ≡ Some table → TableIs g types table y.now

pub no_tables : (g : GlobalScope) (types : Types) (tables : List SystemTable) → tables ≡ [] → AreTables g types tables
no_tables g types tables none k y table at there =
    absurd (nothing k (subst (λ (ts : List SystemTable). slice_get ts k ≡ Some table) none there))
  where
    nothing : (i : ℕ) → slice_get {X = SystemTable} [] i ≡ Some table → ⊥
    nothing i h = absurd (cc)

-- One table more.
pub one_table : (g : GlobalScope) (types : Types) (tables : List SystemTable) (table : SystemTable) (y : Bor System) → system_at types (length tables) ≡ Some y
    → TableIs g types table y.now → AreTables g types tables
    → AreTables g types (tables ++ table ∷ [])
one_table g types tables table y at represents all k z other here there =
    ⊎_elim
    (λ before. all k z other here before)
    (λ last.
    let same : y ≡ z = same_Some y z (sym at ∙ ap (system_at types) (sym last.0) ∙ here) in
    subst (λ (w : Bor System). TableIs g types other w.now) same
    (subst (λ (t : SystemTable). TableIs g types t y.now) last.1 represents))
    (last_or_before tables table k other there)

-- The tables of the first system types.
pub record SystemsSoFar (names : Names) (old new : Types) (before after : List Layout) (tables : List SystemTable) : Type 0 where
  pub builds : Builds names old new before after
  pub represents : (g : GlobalScope) (later : Types) → ScopeRepresents names old g → AreLaid g old before → Grows new later → AreTables g later tables

pub all_tables : (g : GlobalScope) (types : Types) (tables : List SystemTable) → length types.systems.items ≤ length tables → AreTables g types tables
    → AreSystems g types tables
all_tables g types tables enough are k y at =
    ⊎_elim
    (λ found. (found.0, found.2, are k y found.0 at found.2))
    (λ past. absurd (omega (arith, enough, past.0, slice_get_within types.systems.items k y at)))
    (slice_get_cases tables k).1

-- The table that a look-up finds is that of the system type with this number.
pub has_table : (g : GlobalScope) (types : Types) (tables : List SystemTable) (k : ℕ) (y : Bor System) (table : SystemTable) → AreSystems g types tables
    → system_at types k ≡ Some y → slice_get tables k ≡ Some table → TableIs g types table y.now
has_table g types tables k y table all at there =
    let found = all k y at in
    subst (λ (t : SystemTable). TableIs g types t y.now) (same_Some found.0 table (sym found.1 ∙ there)) found.2

-- The look-up fails for no system type.
pub lacks_no_table : (g : GlobalScope) (types : Types) (tables : List SystemTable) (k : ℕ) (y : Bor System) → AreSystems g types tables
    → system_at types k ≡ Some y → slice_get tables k ≡ None → ⊥
lacks_no_table g types tables k y all at none = (let found = all k y at in let both : Some found.0 ≡ None = sym found.1 ∙ none in cc)

pub numbered_still : (old new : Types) (vs : List (Name × Variable)) (x : Name) → Grows old new → (n : Option Numbered) (v : Option Variable)
    → NumberedIs old vs x n v → NumberedIs new vs x n v
numbered_still old new vs x grows None None h = tt
numbered_still old new vs x grows (Some n) (Some v) h = record { type = still_represents old new grows n.of v.type h.type; monitors = h.monitors; processes = h.processes }
numbered_still old new vs x grows None (Some v) h = absurd h
numbered_still old new vs x grows (Some n) None h = absurd h
