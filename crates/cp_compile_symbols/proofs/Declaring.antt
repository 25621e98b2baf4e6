-- Names are declared one after another.
use Rattle.std.proofs.Common.{◌≡◌, ◌∙◌, subst, ◌++◌, ◌∷◌, Bool, false, ℕ, List, [], Option, None, Some, ap, map, refl, sym}
use Rattle.std.proofs.lemmas.List.{append-nil}
use Rattle.cp_model.specs.Abstract.{Name}
use Rattle.cp_model.specs.Declarations.{Variable, declared_group}
use Rattle.cp_model.specs.Erase as erase
use Rattle.cp_model.specs.Types.{GlobalScope, ResolvedType, named_type}
use Rattle.cp_model.specs.declared.tree.Fields.{Fields}
use Rattle.cp_model.specs.declared.tree.Identifier.{Identifier}
use Rattle.cp_model.specs.declared.tree.Parameters.{Parameters}
use Rattle.cp_model.proofs.TypeViews.{view_fields}
use Rattle.cp_compile_symbols.specs.declared.names.Names.{Names}
use Rattle.cp_compile_symbols.specs.declared.types.Types.{Types}
use Rattle.cp_compile_symbols.specs.Variables.{AreDeclared, Declares, Entry, declared_entries, parameters_of, variables_of, with_declared_groups, with_declared_parameters}
use Rattle.cp_compile_symbols.specs.Routines.{ResultIs}
use Rattle.cp_compile_symbols.specs.Representing.{Grows, ScopeRepresents, Represents, type_from}
use Rattle.cp_compile_symbols.proofs.Representing.{still_represents}

pub each_declared : (types : Types) (xs : List Identifier) (r : Bool) (n : ℕ) (t : ResolvedType) (rest : List Entry) (vs : List (Name × Variable)) → Represents types n t
    → AreDeclared types rest vs → AreDeclared types (declared_entries xs r n ++ rest) (declared_group r t (map erase.name xs) vs)
each_declared types [] r n t rest vs s d = d
each_declared types (x ∷ xs) r n t rest vs s d = (refl, refl, s, each_declared types xs r n t rest vs s d)

group_behind : (r : Bool) (t : ResolvedType) (xs : List Name) (us vs : List (Name × Variable)) → declared_group r t xs us ++ vs ≡ declared_group r t xs (us ++ vs)
group_behind r t [] us vs = refl
group_behind r t (x ∷ xs) us vs = ap (λ ws. (x, record { by_reference = r; type = t }) ∷ ws) (group_behind r t xs us vs)

pub parameters_declared : (g : GlobalScope) (ps : List Parameters) (vs : List (Name × Variable)) → with_declared_parameters ps g vs ≡ parameters_of g ps ++ vs
parameters_declared g [] vs = refl
parameters_declared g (p ∷ ps) vs = rw (parameters_declared g ps vs) (sym (group_behind _ _ _ (parameters_of g ps) vs))

pub variables_declared : (g : GlobalScope) (fs : List Fields) (vs : List (Name × Variable)) → with_declared_groups fs g vs ≡ variables_of g fs ++ vs
variables_declared g [] vs = refl
variables_declared g (f ∷ fs) vs =
    rw (variables_declared g fs vs, view_fields f) (sym (group_behind false (type_from f.of g) (map erase.name f.names.items) (variables_of g fs) vs))

pub result_still : (g : GlobalScope) (old new : Types) → Grows old new → (r : Option ℕ) (x : Option Name) → ResultIs g old r x → ResultIs g new r x
result_still g old new grows None None h = tt
result_still g old new grows (Some n) (Some x) h = still_represents old new grows n (named_type g x) h
result_still g old new grows None (Some x) h = absurd h
result_still g old new grows (Some n) None h = absurd h

-- ---- Lists that were begun

pub parameters_listed : (names : Names) (a b later : Types) (before after : List Entry) (ps : List Parameters) (g : GlobalScope)
    → Declares names a b before after (with_declared_parameters ps) → before ≡ [] → ScopeRepresents names a g → Grows b later
    → AreDeclared later after (parameters_of g ps)
parameters_listed names a b later before after ps g one none scope grows =
    let own : after ≡ one.added ++ [] = one.all ∙ ap (λ ds. ds ++ one.added) none ∙ sym (append-nil one.added) in
    subst (AreDeclared later after) (parameters_declared g ps [] ∙ append-nil (parameters_of g ps)) (rw own (one.represents g later [] [] scope grows tt))

pub variables_listed : (names : Names) (a b later : Types) (before after : List Entry) (fs : List Fields) (g : GlobalScope)
    → Declares names a b before after (with_declared_groups fs) → before ≡ [] → ScopeRepresents names a g → Grows b later
    → AreDeclared later after (variables_of g fs)
variables_listed names a b later before after fs g one none scope grows =
    let own : after ≡ one.added ++ [] = one.all ∙ ap (λ ds. ds ++ one.added) none ∙ sym (append-nil one.added) in
    subst (AreDeclared later after) (variables_declared g fs [] ∙ append-nil (variables_of g fs)) (rw own (one.represents g later [] [] scope grows tt))

pub both_declared : (types : Types) (ds es : List Entry) (vs ws : List (Name × Variable)) → AreDeclared types ds vs → AreDeclared types es ws
    → AreDeclared types (ds ++ es) (vs ++ ws)
both_declared types [] es [] ws one two = two
both_declared types (d ∷ ds) es (v ∷ vs) ws one two = (one.0, one.1, one.2, both_declared types ds es vs ws one.3 two)
both_declared types [] es (v ∷ vs) ws one two = absurd one
both_declared types (d ∷ ds) es [] ws one two = absurd one
