-- Components and variables by the names that mean them.
use Rattle.std.proofs.Common.{◌≡◌, ◌⊎◌, inl, inr, List, [], ◌∷◌, ◌++◌, if◌then◌else◌, Option, Some, None, refl, ap, sym, subst, ◌∙◌, Bool, true, false, bytes_eq}
use Rattle.std.specs.Option.{option_or}
use Rattle.cp_model.specs.Abstract.{Name}
use Rattle.cp_model.specs.Names.{lookup}
use Rattle.cp_model.specs.Types.{ArrayOf, ComponentOf, Members, NoType, Queue, RecordOf, ResolvedType, Simple}
use Rattle.cp_model.specs.Declarations.{Variable, declarations}
use Rattle.cp_model.specs.Environments.{Environment}
use Rattle.cp_model.specs.Components.{Component, as_component, component_named}
use Rattle.cp_law_typing.specs.Declared.{Each}

named_as : (x : Name) (b : Bool) (t : ResolvedType) (r : Bool) (n : Component) → as_component x b (Some (record { by_reference = r; type = t })) ≡ Some n
    → (n.name ≡ x) × (n.is_parameter ≡ b) × ((inner : Members) × (t ≡ ComponentOf n.system inner))
named_as x b (ComponentOf s inner) r n h =
    let same : record { name = x; system = s; is_parameter = b } ≡ n = ap (λ o. elim o [ None ↦ record { name = x; system = s; is_parameter = b } | Some z ↦ z ]) h in
    (sym (ap (λ z. z.name) same), sym (ap (λ z. z.is_parameter) same), (inner, ap (λ z. ComponentOf z.system inner) same))
named_as x b (Simple c low high start) r n h = absurd (cc)
named_as x b (ArrayOf low high t) r n h = absurd (cc)
named_as x b (RecordOf ms) r n h = absurd (cc)
named_as x b Queue r n h = absurd (cc)
named_as x b NoType r n h = absurd (cc)

-- A component has the name by which it is found, and the declaration of that name.
pub record IsNamed (env : Environment) (x : Name) (n : Component) : Type 0 where
  pub name : n.name ≡ x
  pub variable : Variable
  pub inner : Members
  pub type : variable.type ≡ ComponentOf n.system inner
  pub parameter : n.is_parameter ≡ true → lookup x (declarations env.globals env.system.parameters) ≡ Some variable
  pub own : n.is_parameter ≡ false → lookup x (declarations env.globals env.system.variables) ≡ Some variable

module _ (env : Environment) (x : Name) (n : Component) where
  from_variables : (o : Option Variable) → lookup x (declarations env.globals env.system.variables) ≡ o → as_component x false o ≡ Some n → IsNamed env x n
  from_variables None is h = absurd (cc)
  from_variables (Some v) is h =
      let k = named_as x false v.type v.by_reference n h in
      record {
        name = k.0;
        variable = v;
        inner = k.2.0;
        type = k.2.1;
        parameter = λ e. absurd (cc (e, k.1));
        own = λ e. is;
      }

  from_both : (o w : Option Variable) → lookup x (declarations env.globals env.system.parameters) ≡ o → lookup x (declarations env.globals env.system.variables) ≡ w
      → (c : Option Component) → as_component x true o ≡ c → option_or c (as_component x false w) ≡ Some n → IsNamed env x n
  from_both o w io iw None e h = from_variables w iw h
  from_both None w io iw (Some m) e h = absurd (cc)
  from_both (Some v) w io iw (Some m) e h =
      let k = named_as x true v.type v.by_reference n (e ∙ h) in
      record {
        name = k.0;
        variable = v;
        inner = k.2.0;
        type = k.2.1;
        parameter = λ f. io;
        own = λ f. absurd (cc (f, k.1));
      }

  pub is_named : component_named env x ≡ Some n → IsNamed env x n
  is_named h =
      from_both (lookup x (declarations env.globals env.system.parameters)) (lookup x (declarations env.globals env.system.variables)) refl refl
      (as_component x true (lookup x (declarations env.globals env.system.parameters))) refl h

pub each_found : (P : Variable → Type 0) (vs : List (Name × Variable)) (x : Name) (v : Variable) → Each (λ w. P w.1) vs → lookup x vs ≡ Some v → P v
each_found P [] x v h is = absurd (cc)
each_found P (w ∷ vs) x v h is = go (bytes_eq x w.0) is (each_found P vs x v h.1)
  where
    go : (b : Bool) → (if b then Some w.1 else lookup x vs) ≡ Some v → (lookup x vs ≡ Some v → P v) → P v
    go true is rest = subst P (ap (or_first w.1) is) h.0
      where
        or_first : Variable → Option Variable → Variable
        or_first z None = z
        or_first z (Some y) = y
    go false is rest = rest is

-- What is found in two lists that follow one another is found in one of them.
pub found_either : {A : Type 0} (vs ws : List (Name × A)) (x : Name) (v : A) → lookup x (vs ++ ws) ≡ Some v → (lookup x vs ≡ Some v) ⊎ (lookup x ws ≡ Some v)
found_either [] ws x v h = inr h
found_either (u ∷ vs) ws x v h = go (bytes_eq x u.0) h (found_either vs ws x v)
  where
    go : (b : Bool) → (if b then Some u.1 else lookup x (vs ++ ws)) ≡ Some v → (lookup x (vs ++ ws) ≡ Some v → (lookup x vs ≡ Some v) ⊎ (lookup x ws ≡ Some v))
        → ((if b then Some u.1 else lookup x vs) ≡ Some v) ⊎ (lookup x ws ≡ Some v)
    go true h more = inl h
    go false h more = more h
