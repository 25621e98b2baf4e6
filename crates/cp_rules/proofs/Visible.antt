-- Which names are visible, and so what is reported of names that are declared, doesn't depend on
-- what the names represent.
use Rattle.std.proofs.Common.{◌≡◌, ◌∷◌, ◌++◌, Bool, true, false, not, if◌then◌else◌, List, [], Option, None, Some, map, refl, ap, sym, ◌∙◌}
use Rattle.std.specs.Option.{is_some}
use Rattle.std.specs.Str.{bytes_eq}
use Rattle.std.proofs.lemmas.List.{map-append}
use Rattle.cp_model.specs.Names.{lookup}
use Rattle.cp_model.specs.declared.tree.Identifier.{Identifier}
use Rattle.cp_model.specs.declared.rules.Entity.{Entity}
use Rattle.cp_model.specs.declared.rules.Rule.TheVariants.{C1}
use Rattle.cp_model.specs.RulesEnvironment.{Environment, Names, Text, declare, declare_if_new}
use Rattle.cp_model.specs.RulesJudged.{Violations, unless}
use Rattle.cp_model.specs.RulesDeclarations as d

abbrev pub keys : Names → List Text
keys = map (λ n. n.0)

abbrev pub seen : Text → List Text → Bool
seen x [] = false
seen x (k ∷ ks) = if bytes_eq x k then true else seen x ks

seen_first : (same : Bool) (e : Entity) (o : Option Entity) (s : Bool) → is_some o ≡ s
    → is_some (if same then Some e else o) ≡ (if same then true else s)
seen_first true e o s h = refl
seen_first false e o s h = h

pub seen_is : (x : Text) (ns : Names) → is_some (lookup x ns) ≡ seen x (keys ns)
seen_is x [] = refl
seen_is x (n ∷ ns) = seen_first (bytes_eq x n.0) n.1 (lookup x ns) (seen x (keys ns)) (seen_is x ns)

abbrev with_key : Text → Bool → List Text → List Text
with_key k true ks = ks
with_key k false ks = ks ++ k ∷ []

keys_new : (x : Identifier) (e : Entity) (ns : Names) (o : Option Entity)
    → keys (declare_if_new x e ns o) ≡ with_key x.name (is_some o) (keys ns)
keys_new x e ns None = map-append (λ (n : Text × Entity). n.0) ns ((x.name, e) ∷ [])
keys_new x e ns (Some old) = refl

keys_declared : (x : Identifier) (e : Entity) (env : Environment)
    → keys (declare x e env).names ≡ with_key x.name (seen x.name (keys env.names)) (keys env.names)
keys_declared x e env =
    keys_new x e env.names (lookup x.name env.names)
    ∙ ap (λ was. with_key x.name was (keys env.names)) (seen_is x.name env.names)

abbrev reported_of : List Text → List (Identifier × Entity) → Violations
reported_of ks [] = []
reported_of ks (e ∷ es) =
    unless (not (seen e.0.name ks)) C1 e.0.at ++ reported_of (with_key e.0.name (seen e.0.name ks) ks) es

reported_is : (env : Environment) (es : List (Identifier × Entity)) → (d.declare_each env es).violations ≡ reported_of (keys env.names) es
reported_is env [] = refl
reported_is env (e ∷ es) =
    let first : Violations = unless (not (seen e.0.name (keys env.names))) C1 e.0.at in
    ap (λ was. unless (not was) C1 e.0.at ++ (d.declare_each (declare e.0 e.1 env) es).violations) (seen_is e.0.name env.names)
    ∙ ap (λ (vs : Violations). first ++ vs) (reported_is (declare e.0 e.1 env) es)
    ∙ ap (λ (ks : List Text). first ++ reported_of ks es) (keys_declared e.0 e.1 env)

-- what is reported of names after another name was declared, whatever that one represents
pub reported_alike : (x : Identifier) (e f : Entity) (env : Environment) (es : List (Identifier × Entity))
    → (d.declare_each (declare x e env) es).violations ≡ (d.declare_each (declare x f env) es).violations
reported_alike x e f env es =
    reported_is (declare x e env) es ∙ ap (λ (ks : List Text). reported_of ks es) (keys_declared x e env ∙ sym (keys_declared x f env))
    ∙ sym (reported_is (declare x f env) es)
