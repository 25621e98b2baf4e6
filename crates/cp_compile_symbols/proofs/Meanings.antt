-- What names mean in a scope.
use Rattle.std.proofs.Common.{◌≡◌, ◌++◌, ◌∷◌, ◌+◌, ◌∙◌, Bool, true, false, ℕ, List, [], Option, None, Some, ap, append_assoc, if◌then◌else◌, option_map, refl, subst, sym}
use Rattle.std.specs.Option.{option_or}
use Rattle.std.specs.Str.{bytes_eq}
use Rattle.cp_model.specs.Abstract.{Name, Routine, System}
use Rattle.cp_model.specs.Declarations.{Variable, declarations}
use Rattle.cp_model.specs.Environments.{Meaning, local_variables, meaning, permanent_variables, result_variable, variable_or}
use Rattle.cp_model.specs.Locations.{Owner, Path}
use Rattle.cp_model.specs.Names.{lookup}
use Rattle.cp_model.specs.Types.{GlobalScope}
use Rattle.cp_law_typing.specs.Needs.{result_words, some_environment}
use Rattle.cp_model_program.specs.Layout.{local, local_at, local_words, locals}
use Rattle.cp_model_program.specs.Scopes as code
use Rattle.cp_compile_symbols.specs.declared.locals.Local.{Local}
use Rattle.cp_compile_symbols.specs.declared.numbering.Numbered.{Numbered}
use Rattle.cp_compile_symbols.specs.declared.scope.Meaning.TheVariants as means
use Rattle.cp_compile_symbols.specs.declared.scope.Scope.{Scope}
use Rattle.cp_compile_symbols.specs.declared.types.Types.{Types}
use Rattle.cp_compile_symbols.specs.Locals.{LocalIs}
use Rattle.cp_compile_symbols.specs.Numbering.{NumberedIs}
use Rattle.cp_compile_symbols.specs.Scopes.{IsScope, MeaningIs, VariableIs, locals_of, results_of}
use Rattle.cp_compile_symbols.specs.Variables.{parameters_of, variables_of}

looked_up : (x : Name) (vs ws : List (Name × Variable)) → lookup x (vs ++ ws) ≡ option_or (lookup x vs) (lookup x ws)
looked_up x [] ws = refl
looked_up x (v ∷ vs) ws = go (bytes_eq x v.0) (looked_up x vs ws)
  where
    go : (b : Bool) → lookup x (vs ++ ws) ≡ option_or (lookup x vs) (lookup x ws)
        → (if b then Some v.1 else lookup x (vs ++ ws)) ≡ option_or (if b then Some v.1 else lookup x vs) (lookup x ws)
    go true h = refl
    go false h = h

-- ---- Locals

lies_as : (g : GlobalScope) (at : ℕ) (vs : List (Name × Variable)) (x : Name) → option_map (λ q. q.1) (local_at g at vs x) ≡ lookup x vs
lies_as g at [] x = refl
lies_as g at (v ∷ vs) x = go (bytes_eq x v.0) (lies_as g (at + local_words g v.1) vs x)
  where
    go : (b : Bool) → option_map (λ q. q.1) (local_at g (at + local_words g v.1) vs x) ≡ lookup x vs
        → option_map (λ q. q.1) (if b then Some (at, v.1) else local_at g (at + local_words g v.1) vs x) ≡ (if b then Some v.1 else lookup x vs)
    go true h = refl
    go false h = h

local_typed : (types : Types) (f : Option Local) (q : Option (ℕ × Variable)) → LocalIs types f q
    → VariableIs types (option_map (λ l. l.of) f) (option_map (λ v. v.1) q)
local_typed types None None h = tt
local_typed types (Some f) (Some q) h = h.2
local_typed types None (Some q) h = absurd h
local_typed types (Some f) None h = absurd h

either_typed : (types : Types) (f k : Option ℕ) (v w : Option Variable) → VariableIs types f v → VariableIs types k w
    → VariableIs types (option_or f k) (option_or v w)
either_typed types None k None w one two = two
either_typed types (Some f) k (Some v) w one two = one
either_typed types None k (Some v) w one two = absurd one
either_typed types (Some f) k None w one two = absurd one

-- What a name means among the parameters, the variables and the result of a routine.
local_or_result : (g : GlobalScope) (r : Routine) (x : Name)
    → option_or (option_map (λ q. q.1) (local g r x)) (lookup x (result_variable g r.name r.result)) ≡ lookup x (local_variables g r)
local_or_result g r x =
    let ps = declarations g r.parameters in
    let vs = declarations g r.variables in
    let of = result_variable g r.name r.result in
    ap (λ o. option_or o (lookup x of)) (lies_as g (result_words r.result) (locals g r) x) ∙ sym (looked_up x (ps ++ vs) of)
    ∙ ap (lookup x) (append_assoc ps vs of)

-- A local comes before the result.
pub local_first : (types : Types) (g : GlobalScope) (r : Option Routine) (x : Name) (f : Local)
    → LocalIs types (Some f) (elim r [ None ↦ None | Some q ↦ local g q x ]) → VariableIs types (Some f.of) (lookup x (locals_of g r))
local_first types g None x f h = absurd h
local_first types g (Some r) x f h =
    subst (VariableIs types (Some f.of)) (local_or_result g r x)
    (first (option_map (λ q. q.1) (local g r x)) (local_typed types (Some f) (local g r x) h))
  where
    first : (v : Option Variable) → VariableIs types (Some f.of) v → VariableIs types (Some f.of) (option_or v (lookup x (result_variable g r.name r.result)))
    first (Some v) h = h
    first None h = absurd h

pub local_or_else : (types : Types) (g : GlobalScope) (r : Option Routine) (x : Name) (k : Option ℕ)
    → LocalIs types None (elim r [ None ↦ None | Some q ↦ local g q x ]) → VariableIs types k (lookup x (results_of g r))
    → VariableIs types k (lookup x (locals_of g r))
local_or_else types g None x k h result = result
local_or_else types g (Some r) x k h result =
    subst (VariableIs types k) (local_or_result g r x)
    (either_typed types None k (option_map (λ q. q.1) (local g r x)) (lookup x (result_variable g r.name r.result))
    (local_typed types None (local g r x) h) result)

-- A name that is found among the locals means that local.
pub local_meant : (types : Types) (g : GlobalScope) (y : System) (r : Option Routine) (x : Name) (of : ℕ) → VariableIs types (Some of) (lookup x (locals_of g r))
    → MeaningIs types (means.Variable of) (meaning (some_environment g y r) x)
local_meant types g y None x of h = absurd h
local_meant types g y (Some r) x of h = go _ _ _ (lookup x (local_variables g r)) h
  where
    go : (o : Owner) (p : Path) (other : Meaning) (v : Option Variable) → VariableIs types (Some of) v → MeaningIs types (means.Variable of) (variable_or v o p x other)
    go o p other (Some v) h = h
    go o p other None h = absurd h

-- ---- Permanent variables

numbered_typed : (types : Types) (vs : List (Name × Variable)) (x : Name) (n : Option Numbered) (v : Option Variable) → NumberedIs types vs x n v
    → VariableIs types (option_map (λ k. k.of) n) v
numbered_typed types vs x None None h = tt
numbered_typed types vs x (Some n) (Some v) h = h.type
numbered_typed types vs x None (Some v) h = absurd h
numbered_typed types vs x (Some n) None h = absurd h

pub permanent_found : (scope : Scope) (s : code.Scope) → IsScope scope s → (x : Name)
    → VariableIs scope.tables.now.types
    (option_or (option_map (λ k. k.of) (lookup x scope.system.now.parameter_names)) (option_map (λ k. k.of) (lookup x scope.system.now.variable_names)))
    (lookup x (permanent_variables s.globals s.system))
permanent_found scope s i x =
    let types = scope.tables.now.types in
    let ps = parameters_of s.globals i.parameters in
    let vs = variables_of s.globals i.variables in
    let found =
    either_typed types _ _ (lookup x ps) (lookup x vs) (numbered_typed types ps x _ (lookup x ps) (i.system.parameter_names x))
    (numbered_typed types vs x _ (lookup x vs) (i.system.variable_names x)) in
    let all : lookup x (ps ++ vs) ≡ lookup x (permanent_variables s.globals s.system) =
    ap (λ ps'. lookup x (declarations s.globals ps' ++ vs)) (sym i.written.parameters)
    ∙ ap (λ vs'. lookup x (declarations s.globals s.system.parameters ++ declarations s.globals vs')) (sym i.written.variables) in
    subst (VariableIs types _) (sym (looked_up x ps vs) ∙ all) found
