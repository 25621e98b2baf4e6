-- The fields of groups, one group after another.
use Rattle.std.proofs.Common.{◌≡◌, ◌++◌, ◌∷◌, ◌∙◌, ℕ, List, [], ap, append_assoc, subst, sym}
use Rattle.std.proofs.lemmas.List.{append-nil}
use Rattle.cp_model.specs.Abstract.{Name}
use Rattle.cp_model.specs.Types.{GlobalScope}
use Rattle.cp_model.specs.declared.tree.Fields.{Fields}
use Rattle.cp_model.specs.declared.tree.Parameters.{Parameters}
use Rattle.cp_compile_symbols.specs.declared.types.Types.{Types}
use Rattle.cp_compile_symbols.specs.declared.names.Names.{Names}
use Rattle.cp_compile_symbols.specs.Representing.{AreMembers, Grows, MakesList, ScopeRepresents, with_groups, with_parameters}
use Rattle.cp_compile_symbols.proofs.Representing.{grows_more, grows_not, still_scope}

-- For any kind of group, and anything that groups make.
module _ {A E M : Type 0} (are : Types → List E → M → Type 0) (with_all : List A → GlobalScope → M → M) where
  -- Placed before what the remaining groups make, the added entries represent what all groups make.
  pub record Added (names : Names) (old new : Types) (before after added : List E) (all left : List A) : Type 0 where
    pub grows : Grows old new
    pub ends : after ≡ before ++ added
    pub represents : (g : GlobalScope) (later : Types) (rest : List E) (ms : M) → ScopeRepresents names old g → Grows new later
        → are later rest (with_all left g ms) → are later (added ++ rest) (with_all all g ms)

  pub none_added : (names : Names) (types : Types) (before : List E) (all : List A) → Added names types types before before [] all all
  none_added names types before all = record {
    grows = grows_not types;
    ends = sym (append-nil before);
    represents = λ g later rest ms scope grows r. r;
  }

  pub one_added : (names : Names) (a b c : Types) (before after last added : List E) (all left : List A) (f : A) (make : GlobalScope → M → M)
      → ((g : GlobalScope) (ms : M) → with_all (f ∷ left) g ms ≡ make g (with_all left g ms))
      → Added names a b before after added all (f ∷ left) → (one : MakesList are names b c after last make)
      → Added names a c before last (added ++ one.added) all left
  one_added names a b c before after last added all left f make is some one = record {
    grows = grows_more a b c some.grows one.grows;
    ends = one.all ∙ ap (λ fs. fs ++ one.added) some.ends ∙ append_assoc before added one.added;
    represents = λ g later rest ms scope grows r.
        subst (λ fs. are later fs (with_all all g ms)) (sym (append_assoc added one.added rest))
        (some.represents g later (one.added ++ rest) ms scope (grows_more b c later one.grows grows)
        (subst (are later (one.added ++ rest)) (sym (is g ms))
        (one.represents g later rest (with_all left g ms) (still_scope a b some.grows names g scope) grows r)));
  }

  pub all_added : (names : Names) (a b : Types) (before after added : List E) (all left : List A) → left ≡ []
      → ((g : GlobalScope) (ms : M) → with_all [] g ms ≡ ms) → Added names a b before after added all left → MakesList are names a b before after (with_all all)
  all_added names a b before after added all left none is some = record {
    grows = some.grows;
    added = added;
    all = some.ends;
    represents = λ g later rest ms scope grows r.
        some.represents g later rest ms scope grows
        (subst (λ (fs : List A). are later rest (with_all fs g ms)) (sym none) (subst (are later rest) (sym (is g ms)) r));
  }

abbrev pub GroupsAdded : Names → Types → Types → List (Name × ℕ) → List (Name × ℕ) → List (Name × ℕ) → List Fields → List Fields → Type 0
GroupsAdded = Added AreMembers with_groups

abbrev pub ParametersAdded : Names → Types → Types → List (Name × ℕ) → List (Name × ℕ) → List (Name × ℕ) → List Parameters → List Parameters → Type 0
ParametersAdded = Added AreMembers with_parameters
