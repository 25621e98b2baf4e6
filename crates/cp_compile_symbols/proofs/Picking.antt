-- The components among parameters, and the rights to them, one after another.
use Rattle.std.proofs.Common.{◌≡◌, ◌++◌, ◌∷◌, ◌∙◌, Bool, true, false, ℕ, suc, List, [], Option, None, Some, ap, append_assoc, filter, refl, subst, sym, if◌then◌else◌}
use Rattle.std.proofs.lemmas.List.{append-nil}
use Rattle.std.specs.Str.{bytes_eq}
use Rattle.cp_model.specs.Abstract.{Name}
use Rattle.cp_model.specs.Declarations.{Variable, is_component}
use Rattle.cp_model.specs.Names.{lookup}
use Rattle.cp_model_program.specs.Layout.{right_at}
use Rattle.cp_compile_symbols.specs.declared.components.Right.{Right}
use Rattle.cp_compile_symbols.specs.declared.types.Types.{Types}
use Rattle.cp_compile_symbols.specs.Components.{Picks, RightIs}
use Rattle.cp_compile_symbols.specs.Representing.{Represents}
use Rattle.cp_compile_symbols.specs.Tables.{Behind, or_last}
use Rattle.cp_compile_symbols.specs.Variables.{AreDeclared, Entry}

abbrev pub own : List (Name × Variable) → List (Name × Variable)
own vs = filter (λ v. is_component v.1.type) vs

-- ---- Components

-- The picked entries and the components that remain are all components.
pub record PartlyPicked (types : Types) (vs : List (Name × Variable)) (left picked : List Entry) : Type 0 where
  pub others : List (Name × Variable)
  pub represent : AreDeclared types left others
  pub all : (rest : List Entry) → AreDeclared types rest (own others) → AreDeclared types (picked ++ rest) (own vs)

pub one_picked : (types : Types) (vs : List (Name × Variable)) (d : Entry) (left picked more : List Entry) → Picks types d picked more
    → PartlyPicked types vs (d ∷ left) picked → PartlyPicked types vs left more
one_picked types vs d left picked more picks partly = go partly.others partly.represent partly.all
  where
    go : (others : List (Name × Variable)) → AreDeclared types (d ∷ left) others
        → ((rest : List Entry) → AreDeclared types rest (own others) → AreDeclared types (picked ++ rest) (own vs)) → PartlyPicked types vs left more
    go [] represent all = absurd represent
    go (v ∷ vs') represent all = record {
      others = vs';
      represent = represent.3;
      all = λ rest r. more_all rest r (is_component v.1.type) refl (picks v.1 represent.2);
    }
      where
        more_all : (rest : List Entry) → AreDeclared types rest (own vs') → (b : Bool) → is_component v.1.type ≡ b
            → more ≡ (if is_component v.1.type then picked ++ d ∷ [] else picked) → AreDeclared types (more ++ rest) (own vs)
        more_all rest r true is more_is =
            let here : AreDeclared types (d ∷ rest) (own (v ∷ vs')) = rw is (represent.0, represent.1, represent.2, r) in
            let added : more ≡ picked ++ d ∷ [] = more_is ∙ ap (λ b. if b then picked ++ d ∷ [] else picked) is in
            subst (λ ds. AreDeclared types ds (own vs)) (sym (ap (λ ds. ds ++ rest) added ∙ append_assoc picked (d ∷ []) rest)) (all (d ∷ rest) here)
        more_all rest r false is more_is =
            let here : AreDeclared types rest (own (v ∷ vs')) = rw is r in
            let same : more ≡ picked = more_is ∙ ap (λ b. if b then picked ++ d ∷ [] else picked) is in
            subst (λ ds. AreDeclared types (ds ++ rest) (own vs)) (sym same) (all rest here)

pub all_picked : (types : Types) (vs : List (Name × Variable)) (left picked : List Entry) → left ≡ [] → PartlyPicked types vs left picked
    → AreDeclared types picked (own vs)
all_picked types vs left picked none partly = go partly.others (subst (λ ds. AreDeclared types ds partly.others) none partly.represent) partly.all
  where
    go : (others : List (Name × Variable)) → AreDeclared types [] others
        → ((rest : List Entry) → AreDeclared types rest (own others) → AreDeclared types (picked ++ rest) (own vs)) → AreDeclared types picked (own vs)
    go (v ∷ vs') represent all = absurd represent
    go [] represent all = subst (λ ds. AreDeclared types ds (own vs)) (append-nil picked) (all [] tt)

-- ---- Rights

abbrev pub RightFound : Types → Option Right → Option (ℕ × Variable) → Option (ℕ × Variable) → Type 0
RightFound types None wanted left = wanted ≡ left
RightFound types (Some r) wanted left = RightIs types (Some r) wanted

-- The remaining rights are after those that are laid out.
pub record PartlyLaid (types : Types) (vs : List (Name × Variable)) (at : ℕ) (left : List Entry) (rights : List (Name × Right)) : Type 0 where
  pub others : List (Name × Variable)
  pub represent : AreDeclared types left others
  pub found : (x : Name) → RightFound types (lookup x rights) (right_at 1 vs x) (right_at at others x)

pub one_right : (types : Types) (vs : List (Name × Variable)) (at : ℕ) (d : Entry) (left : List Entry) (rights more : List (Name × Right)) (r : Right)
    → r.at ≡ at → r.of ≡ d.1.1 → Behind d.0 r rights more → PartlyLaid types vs at (d ∷ left) rights → PartlyLaid types vs (suc at) left more
one_right types vs at d left rights more r at_is of_is behind partly = go partly.others partly.represent partly.found
  where
    go : (others : List (Name × Variable)) → AreDeclared types (d ∷ left) others
        → ((x : Name) → RightFound types (lookup x rights) (right_at 1 vs x) (right_at at others x)) → PartlyLaid types vs (suc at) left more
    go [] represent found = absurd represent
    go (v ∷ rest) represent found = record {
      others = rest;
      represent = represent.3;
      found = λ z.
          subst (λ o. RightFound types o (right_at 1 vs z) (right_at (suc at) rest z)) (sym (behind z))
          (each z (lookup z rights) (bytes_eq z d.0) (subst (λ w. RightFound types (lookup z rights) (right_at 1 vs z)
          (if bytes_eq z w then Some (at, v.1) else right_at (suc at) rest z)) (sym represent.0) (found z)));
    }
      where
        each : (z : Name) (o : Option Right) (b : Bool) → RightFound types o (right_at 1 vs z) (if b then Some (at, v.1) else right_at (suc at) rest z)
            → RightFound types (or_last o b r) (right_at 1 vs z) (right_at (suc at) rest z)
        each z (Some q) b h = h
        each z None true h = subst (RightIs types (Some r)) (sym h) (at_is, subst (λ k. Represents types k v.1.type) (sym of_is) represent.2)
        each z None false h = h

pub all_rights : (types : Types) (vs : List (Name × Variable)) (at : ℕ) (left : List Entry) (rights : List (Name × Right)) → left ≡ []
    → PartlyLaid types vs at left rights → (x : Name) → RightIs types (lookup x rights) (right_at 1 vs x)
all_rights types vs at left rights none partly x = go partly.others (subst (λ ds. AreDeclared types ds partly.others) none partly.represent) (partly.found x)
  where
    each : (r : Option Right) (q : Option (ℕ × Variable)) → RightFound types r q None → RightIs types r q
    each None q h = subst (RightIs types None) (sym h) tt
    each (Some r) q h = h

    go : (others : List (Name × Variable)) → AreDeclared types [] others → RightFound types (lookup x rights) (right_at 1 vs x) (right_at at others x)
        → RightIs types (lookup x rights) (right_at 1 vs x)
    go (v ∷ rest) represent found = absurd represent
    go [] represent found = each (lookup x rights) _ found
