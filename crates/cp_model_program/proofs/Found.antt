-- A variable that is found by its name is in the activation or component that declares it.
use Rattle.std.proofs.Common.{◌≡◌, ℕ, suc, ◌+◌, List, [], ◌∷◌, ◌++◌, Option, Some, None, refl, ap, sym, ◌∙◌, if◌then◌else◌, Bool, true, false, not, filter, bytes_eq, arith}
use Rattle.cp_model.specs.Abstract.{Name, System}
use Rattle.cp_model.specs.Names.{lookup}
use Rattle.cp_model.specs.Types.{ArrayOf, ComponentOf, GlobalScope, Members, MoreMembers, NoMembers, NoType, Queue, RecordOf, ResolvedType, Simple}
use Rattle.cp_model.specs.Declarations.{Variable, declarations, is_component, members_from}
use Rattle.cp_model.specs.Environments.{permanent_variables}
use Rattle.cp_law_typing.specs.Words.{words}
use Rattle.cp_law_typing.proofs.Names.{lookup_first, lookup_later}
use Rattle.cp_model_program.specs.Layout.{farther, head_words, local_at, local_words, member, member_part, part, right_at}

pub part_whole : (g : GlobalScope) (t : ResolvedType) → part g t [] ≡ Some (0, t)
part_whole g (Simple b low high start) = refl
part_whole g (ArrayOf low high t) = refl
part_whole g (RecordOf ms) = refl
part_whole g Queue = refl
part_whole g (ComponentOf s inner) = refl
part_whole g NoType = refl

module _ (g : GlobalScope) (x : Name) where
  pub local_found : (n : ℕ) (vs : List (Name × Variable)) (v : Variable) → lookup x vs ≡ Some v
      → (k : ℕ) × (local_at g n vs x ≡ Some (k, v))
  local_found n [] v h = absurd (cc)
  local_found n (w ∷ vs) v h = go (bytes_eq x w.0) h (local_found (n + local_words g w.1) vs v)
    where
      go : (b : Bool) → (if b then Some w.1 else lookup x vs) ≡ Some v
          → (lookup x vs ≡ Some v → (k : ℕ) × (local_at g (n + local_words g w.1) vs x ≡ Some (k, v)))
          → (k : ℕ) × ((if b then Some (n, w.1) else local_at g (n + local_words g w.1) vs x) ≡ Some (k, v))
      go true h rest = (n, cc)
      go false h rest = rest h

  pub local_none : (n : ℕ) (vs : List (Name × Variable)) → lookup x vs ≡ None → local_at g n vs x ≡ None
  local_none n [] h = refl
  local_none n (w ∷ vs) h = go (bytes_eq x w.0) h (local_none (n + local_words g w.1) vs)
    where
      go : (b : Bool) → (if b then Some w.1 else lookup x vs) ≡ None
          → (lookup x vs ≡ None → local_at g (n + local_words g w.1) vs x ≡ None)
          → (if b then Some (n, w.1) else local_at g (n + local_words g w.1) vs x) ≡ None
      go true h rest = absurd (cc)
      go false h rest = rest h

  whole : (n : ℕ) (t : ResolvedType) → farther n (part g t []) ≡ Some (n, t)
  whole n t = ap (farther n) (part_whole g t) ∙ ap (λ k. Some (k, t)) (nothing_more n)
    where
      nothing_more : (k : ℕ) → k + 0 ≡ k
      nothing_more k = omega arith

  pub member_found : (n : ℕ) (vs : List (Name × Variable)) (v : Variable) → lookup x vs ≡ Some v
      → (k : ℕ) × (member_part g n (members_from vs NoMembers) x [] ≡ Some (k, v.type))
  member_found n [] v h = absurd (cc)
  member_found n (w ∷ vs) v h = go (bytes_eq x w.0) h (member_found (n + words g w.1.type) vs v)
    where
      go : (b : Bool) → (if b then Some w.1 else lookup x vs) ≡ Some v
          → (lookup x vs ≡ Some v → (k : ℕ) × (member_part g (n + words g w.1.type) (members_from vs NoMembers) x [] ≡ Some (k, v.type)))
          → (k : ℕ)
          × ((if b then farther n (part g w.1.type []) else member_part g (n + words g w.1.type) (members_from vs NoMembers) x []) ≡ Some (k, v.type))
      go true h rest = (n, whole n w.1.type ∙ cc)
      go false h rest = rest h

  pub member_none : (n : ℕ) (vs : List (Name × Variable)) → lookup x vs ≡ None → member_part g n (members_from vs NoMembers) x [] ≡ None
  member_none n [] h = refl
  member_none n (w ∷ vs) h = go (bytes_eq x w.0) h (member_none (n + words g w.1.type) vs)
    where
      go : (b : Bool) → (if b then Some w.1 else lookup x vs) ≡ None
          → (lookup x vs ≡ None → member_part g (n + words g w.1.type) (members_from vs NoMembers) x [] ≡ None)
          → (if b then farther n (part g w.1.type []) else member_part g (n + words g w.1.type) (members_from vs NoMembers) x []) ≡ None
      go true h rest = absurd (cc)
      go false h rest = rest h

  pub right_found : (n : ℕ) (vs : List (Name × Variable)) (v : Variable) → lookup x vs ≡ Some v
      → (k : ℕ) × (right_at n vs x ≡ Some (k, v))
  right_found n [] v h = absurd (cc)
  right_found n (w ∷ vs) v h = go (bytes_eq x w.0) h (right_found (suc n) vs v)
    where
      go : (b : Bool) → (if b then Some w.1 else lookup x vs) ≡ Some v
          → (lookup x vs ≡ Some v → (k : ℕ) × (right_at (suc n) vs x ≡ Some (k, v)))
          → (k : ℕ) × ((if b then Some (n, w.1) else right_at (suc n) vs x) ≡ Some (k, v))
      go true h rest = (n, cc)
      go false h rest = rest h

-- ---- Some of the declarations

module _ (x : Name) (keep : Name × Variable → Bool) where
  pub kept_found : (vs : List (Name × Variable)) (v : Variable) → lookup x vs ≡ Some v → ((y : Name) → keep (y, v) ≡ true)
      → lookup x (filter keep vs) ≡ Some v
  kept_found [] v h k = absurd (cc)
  kept_found (w ∷ vs) v h k = go (bytes_eq x w.0) refl (keep w) refl (kept_found vs v)
    where
      here : bytes_eq x w.0 ≡ true → w.1 ≡ v
      here e = ap (λ o. elim o [ None ↦ v | Some z ↦ z ]) (sym (ap (λ b. if b then Some w.1 else lookup x vs) e) ∙ h)

      after : bytes_eq x w.0 ≡ false → lookup x vs ≡ Some v
      after e = sym (ap (λ b. if b then Some w.1 else lookup x vs) e) ∙ h

      go : (b : Bool) → bytes_eq x w.0 ≡ b → (c : Bool) → keep w ≡ c
          → (lookup x vs ≡ Some v → ((y : Name) → keep (y, v) ≡ true) → lookup x (filter keep vs) ≡ Some v)
          → lookup x (if c then w ∷ filter keep vs else filter keep vs) ≡ Some v
      go true e true f rest = ap (λ b. if b then Some w.1 else lookup x (filter keep vs)) e ∙ ap (λ z. Some z) (here e)
      go true e false f rest = absurd (cc (f, ap (λ z. keep (w.0, z)) (here e), k w.0))
      go false e true f rest = ap (λ b. if b then Some w.1 else lookup x (filter keep vs)) e ∙ rest (after e) k
      go false e false f rest = rest (after e) k

  pub kept_none : (vs : List (Name × Variable)) → lookup x vs ≡ None → lookup x (filter keep vs) ≡ None
  kept_none [] h = refl
  kept_none (w ∷ vs) h = go (bytes_eq x w.0) refl (keep w) (kept_none vs)
    where
      after : bytes_eq x w.0 ≡ false → lookup x vs ≡ None
      after e = sym (ap (λ b. if b then Some w.1 else lookup x vs) e) ∙ h

      go : (b : Bool) → bytes_eq x w.0 ≡ b → (c : Bool) → (lookup x vs ≡ None → lookup x (filter keep vs) ≡ None)
          → lookup x (if c then w ∷ filter keep vs else filter keep vs) ≡ None
      go true e c rest = absurd (cc (sym (ap (λ b. if b then Some w.1 else lookup x vs) e) ∙ h))
      go false e true rest = ap (λ b. if b then Some w.1 else lookup x (filter keep vs)) e ∙ rest (after e)
      go false e false rest = rest (after e)

members_joined : (vs ws : List (Name × Variable)) (rest : Members) → members_from vs (members_from ws rest) ≡ members_from (vs ++ ws) rest
members_joined [] ws rest = refl
members_joined (v ∷ vs) ws rest = ap (λ ms. MoreMembers v.0 v.1.type ms) (members_joined vs ws rest)

-- ---- The members of a component

module _ (g : GlobalScope) (s : System) (x : Name) where
  abbrev is_own : Name × Variable → Bool
  is_own v = not (is_component v.1.type)

  abbrev own : List (Name × Variable)
  own = filter is_own (declarations g s.parameters) ++ declarations g s.variables

  of_own : member g s x ≡ member_part g (head_words g s) (members_from own NoMembers) x []
  of_own = ap (λ ms. member_part g (head_words g s) ms x []) (members_joined (filter is_own (declarations g s.parameters)) (declarations g s.variables) NoMembers)

  -- one of the variables, which isn't hidden by a parameter
  pub variable_is_member : (v : Variable) → lookup x (declarations g s.parameters) ≡ None → lookup x (declarations g s.variables) ≡ Some v
      → (k : ℕ) × (member g s x ≡ Some (k, v.type))
  variable_is_member v none found =
      let h : lookup x own ≡ Some v =
      lookup_later x (filter is_own (declarations g s.parameters)) (declarations g s.variables) (kept_none x is_own (declarations g s.parameters) none) ∙ found in
      let k : (k : ℕ) × (member_part g (head_words g s) (members_from own NoMembers) x [] ≡ Some (k, v.type)) = member_found g x (head_words g s) own v h in
      (k.0, of_own ∙ k.1)

  pub parameter_is_member : (v : Variable) → lookup x (declarations g s.parameters) ≡ Some v → is_component v.type ≡ false
      → (k : ℕ) × (member g s x ≡ Some (k, v.type))
  parameter_is_member v found is_data =
      let h : lookup x own ≡ Some v =
      lookup_first x (filter is_own (declarations g s.parameters)) (declarations g s.variables) v
      (kept_found x is_own (declarations g s.parameters) v found (λ y. ap not is_data)) in
      let k : (k : ℕ) × (member_part g (head_words g s) (members_from own NoMembers) x [] ≡ Some (k, v.type)) = member_found g x (head_words g s) own v h in
      (k.0, of_own ∙ k.1)

  -- a parameter or variable that isn't a component
  pub is_member : (v : Variable) → lookup x (permanent_variables g s) ≡ Some v → is_component v.type ≡ false
      → (k : ℕ) × (member g s x ≡ Some (k, v.type))
  is_member v found is_data = go (lookup x (declarations g s.parameters)) refl
    where
      go : (o : Option Variable) → lookup x (declarations g s.parameters) ≡ o → (k : ℕ) × (member g s x ≡ Some (k, v.type))
      go None e =
          variable_is_member v e (sym (lookup_later x (declarations g s.parameters) (declarations g s.variables) e) ∙ found)
      go (Some w) e =
          let same : Some w ≡ Some v = sym (lookup_first x (declarations g s.parameters) (declarations g s.variables) w e) ∙ found in
          parameter_is_member v (e ∙ same) is_data

  -- among neither its own parameters nor its variables
  pub not_a_member : lookup x (filter is_own (declarations g s.parameters)) ≡ None → lookup x (declarations g s.variables) ≡ None → member g s x ≡ None
  not_a_member no_parameter no_variable =
      of_own ∙ member_none g x (head_words g s) own
      (lookup_later x (filter is_own (declarations g s.parameters)) (declarations g s.variables) no_parameter ∙ no_variable)

  pub no_member : lookup x (permanent_variables g s) ≡ None → member g s x ≡ None
  no_member none = go (lookup x (declarations g s.parameters)) refl
    where
      go : (o : Option Variable) → lookup x (declarations g s.parameters) ≡ o → member g s x ≡ None
      go None e =
          of_own ∙ member_none g x (head_words g s) own
          (lookup_later x (filter is_own (declarations g s.parameters)) (declarations g s.variables) (kept_none x is_own (declarations g s.parameters) e)
          ∙ sym (lookup_later x (declarations g s.parameters) (declarations g s.variables) e) ∙ none)
      go (Some w) e = absurd (cc (lookup_first x (declarations g s.parameters) (declarations g s.variables) w e, none))
