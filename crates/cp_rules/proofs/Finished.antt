-- Names that were declared as one entity and then represent another are visible as if they had been
-- declared as that one.
use Rattle.std.proofs.Common.{◌≡◌, ◌≤◌, ◌++◌, ◌∷◌, [], ℕ, zero, suc, List, Option, None, Some, length, refl, ap, sym, ◌∙◌, arith}
use Rattle.std.proofs.lemmas.List.{length-append}
use Rattle.std.specs.Option.{is_some}
use Rattle.cp_model.specs.Names.{lookup}
use Rattle.cp_model.specs.declared.tree.Identifier.{Identifier}
use Rattle.cp_model.specs.declared.rules.Entity.{Entity}
use Rattle.cp_model.specs.RulesEnvironment.{Environment, Names, Text, declare, declare_if_new, with_names}
use Rattle.cp_model.specs.RulesDeclarations as d
use Rattle.cp_base_names.specs.Tables.{with_values_from}
use Rattle.cp_base_names.proofs.Named.{no_values_left}
use Rattle.cp_rules.specs.Headings.{Bound, bound_as}
use Rattle.cp_rules.proofs.Kept.{declare_all_is}
use Rattle.cp_rules.proofs.Visible.{keys, seen, seen_is}

-- ---- what is visible doesn't change

same_keys : (n : ℕ) (e : Entity) (ns : Names) → keys (with_values_from n e ns) ≡ keys ns
same_keys n e [] = refl
same_keys zero e (d ∷ ns) = ap (λ ks. d.0 ∷ ks) (same_keys zero e ns)
same_keys (suc n) e (d ∷ ns) = ap (λ ks. d.0 ∷ ks) (same_keys n e ns)

same_seen : (x : Text) (n : ℕ) (e : Entity) (ns : Names) → is_some (lookup x (with_values_from n e ns)) ≡ is_some (lookup x ns)
same_seen x n e ns = seen_is x (with_values_from n e ns) ∙ ap (seen x) (same_keys n e ns) ∙ sym (seen_is x ns)

-- ---- one name

set_more : (n : ℕ) (e : Entity) (ns : Names) (d : Text × Entity) → n ≤ length ns
    → with_values_from n e (ns ++ d ∷ []) ≡ with_values_from n e ns ++ (d.0, e) ∷ []
set_more zero e [] d within = refl
set_more (suc n) e [] d within = absurd (omega (arith, within))
set_more zero e (c ∷ ns) d within = ap (λ (rest : Names). (c.0, e) ∷ rest) (set_more zero e ns d (omega (arith)))
set_more (suc n) e (c ∷ ns) d within = ap (λ (rest : Names). c ∷ rest) (set_more n e ns d (omega (arith, within)))

set_new : (n : ℕ) (x : Identifier) (u e : Entity) (ns : Names) → n ≤ length ns
    → with_values_from n e (declare_if_new x u ns (lookup x.name ns))
    ≡ declare_if_new x e (with_values_from n e ns) (lookup x.name (with_values_from n e ns))
set_new n x u e ns within = go (lookup x.name ns) (lookup x.name (with_values_from n e ns)) (same_seen x.name n e ns)
  where
    go : (old new : Option Entity) → is_some new ≡ is_some old
        → with_values_from n e (declare_if_new x u ns old) ≡ declare_if_new x e (with_values_from n e ns) new
    go None None same = set_more n e ns (x.name, u) within
    go (Some a) (Some b) same = refl
    go None (Some b) same = absurd (cc)
    go (Some a) None same = absurd (cc)

-- ---- one after another

abbrev names_after : Names → Bound → Names
names_after ns [] = ns
names_after ns (b ∷ bs) = names_after (declare_if_new b.0 b.1 ns (lookup b.0.name ns)) bs

each_after : (env : Environment) (bs : Bound) → (d.declare_each env bs).env.names ≡ names_after env.names bs
each_after env [] = refl
each_after env (b ∷ bs) = each_after (declare b.0 b.1 env) bs

within_more : (n : ℕ) (x : Identifier) (u : Entity) (ns : Names) (old : Option Entity) → n ≤ length ns → n ≤ length (declare_if_new x u ns old)
within_more n x u ns None within = let more = length-append ns ((x.name, u) ∷ []) in omega (arith, within, more)
within_more n x u ns (Some a) within = within

set_each : (n : ℕ) (u e : Entity) (ns : Names) (xs : List Identifier) → n ≤ length ns
    → with_values_from n e (names_after ns (bound_as u xs)) ≡ names_after (with_values_from n e ns) (bound_as e xs)
set_each n u e ns [] within = refl
set_each n u e ns (x ∷ xs) within =
    set_each n u e (declare_if_new x u ns (lookup x.name ns)) xs (within_more n x u ns (lookup x.name ns) within)
    ∙ ap (λ (ms : Names). names_after ms (bound_as e xs)) (set_new n x u e ns within)

pub set_names : (u e : Entity) (ns : Names) (xs : List Identifier)
    → with_values_from (length ns) e (names_after ns (bound_as u xs)) ≡ names_after ns (bound_as e xs)
set_names u e ns xs =
    set_each (length ns) u e ns xs (omega (arith))
    ∙ ap (λ (ms : Names). names_after ms (bound_as e xs)) (no_values_left (length ns) e ns (omega (arith)))

-- the environment in which names were declared, and perhaps types were made since
pub set_in : (env now : Environment) (u e : Entity) (xs : List Identifier) → now.names ≡ (d.declare_all env u xs).env.names
    → with_names (with_values_from (length env.names) e now.names) now ≡ (d.declare_all (with_names env.names now) e xs).env
set_in env now u e xs same =
    let base : Environment = with_names env.names now in
    let names : with_values_from (length env.names) e now.names ≡ (d.declare_all base e xs).env.names =
    ap (with_values_from (length env.names) e) (same ∙ each_after env (bound_as u xs))
    ∙ set_names u e env.names xs ∙ sym (each_after base (bound_as e xs)) in
    ap (λ (ns : Names). with_names ns now) names ∙ sym (declare_all_is base e xs)
