-- What it means for the variables of a routine that their names are distinct.
use Rattle.std.proofs.Common.{◌≡◌, ℕ, ◌+◌, List, [], ◌∷◌, ◌++◌, Bool, true, false, Some, None, refl, ap, sym, subst, ◌∙◌, if◌then◌else◌, append_assoc}
use Rattle.std.specs.Str.{bytes_eq}
use Rattle.cp_model.specs.Abstract.{Name, Routine, System}
use Rattle.cp_model.specs.Declarations.{Variable, declarations}
use Rattle.cp_model.specs.Environments.{local_variables, permanent_variables, result_variable}
use Rattle.cp_model.specs.Names.{lookup}
use Rattle.cp_model.specs.Types.{GlobalScope, named_type}
use Rattle.cp_law_typing.proofs.Names.{bytes_eq-refl, bytes_same}
use Rattle.cp_law_typing.specs.Declared.{Distinct}
use Rattle.cp_law_typing.specs.Needs.{result_words}
use Rattle.cp_model_program.specs.Layout.{local, local_at, local_words, locals}
use Rattle.cp_model_machine.proofs.Finding.{some_is_not_none}

-- A name that is in a list is found there.
there_is_found : (x : Name) (vs ws : List (Name × Variable)) (v : Variable) → lookup x (vs ++ (x, v) ∷ ws) ≡ None → ⊥
there_is_found x [] ws v h = some_is_not_none v (sym (ap (λ b. if b then Some v else lookup x ws) (bytes_eq-refl x)) ∙ h)
there_is_found x (w ∷ vs) ws v h = by (bytes_eq x w.0) h (there_is_found x vs ws v)
  where
    by : (b : Bool) → (if b then Some w.1 else lookup x (vs ++ (x, v) ∷ ws)) ≡ None → (lookup x (vs ++ (x, v) ∷ ws) ≡ None → ⊥) → ⊥
    by true h go = some_is_not_none w.1 h
    by false h go = go h

-- So, if names are distinct, a name isn't among those before it.
pub distinct_before : (x : Name) (vs ws : List (Name × Variable)) (v : Variable) → Distinct (vs ++ (x, v) ∷ ws) → lookup x vs ≡ None
distinct_before x [] ws v h = refl
distinct_before x (w ∷ vs) ws v h = by (bytes_eq x w.0) refl (distinct_before x vs ws v h.1)
  where
    by : (b : Bool) → bytes_eq x w.0 ≡ b → lookup x vs ≡ None → (if b then Some w.1 else lookup x vs) ≡ None
    by true e rest = absurd (there_is_found x vs ws v (ap (λ y. lookup y (vs ++ (x, v) ∷ ws)) (bytes_same x w.0 e) ∙ h.0))
    by false e rest = rest

pub not_local_at : (g : GlobalScope) (at : ℕ) (vs : List (Name × Variable)) (x : Name) → lookup x vs ≡ None → local_at g at vs x ≡ None
not_local_at g at [] x h = refl
not_local_at g at (w ∷ vs) x h = by (bytes_eq x w.0) h (not_local_at g (at + local_words g w.1) vs x)
  where
    by : (b : Bool) → (if b then Some w.1 else lookup x vs) ≡ None → (lookup x vs ≡ None → local_at g (at + local_words g w.1) vs x ≡ None)
        → (if b then Some (at, w.1) else local_at g (at + local_words g w.1) vs x) ≡ None
    by true h go = absurd (some_is_not_none w.1 h)
    by false h go = go h

-- A name that isn't found in two lists together is found in neither. If the names of both together
-- are distinct, so are those of each.
pub absent_first : (y : Name) (vs ws : List (Name × Variable)) → lookup y (vs ++ ws) ≡ None → lookup y vs ≡ None
absent_first y [] ws h = refl
absent_first y (v ∷ vs) ws h = by (bytes_eq y v.0) h (absent_first y vs ws)
  where
    by : (b : Bool) → (if b then Some v.1 else lookup y (vs ++ ws)) ≡ None → (lookup y (vs ++ ws) ≡ None → lookup y vs ≡ None) → (if b then Some v.1 else lookup y vs) ≡ None
    by true h go = absurd (some_is_not_none v.1 h)
    by false h go = go h

pub absent_later : (y : Name) (vs ws : List (Name × Variable)) → lookup y (vs ++ ws) ≡ None → lookup y ws ≡ None
absent_later y [] ws h = h
absent_later y (v ∷ vs) ws h = by (bytes_eq y v.0) h (absent_later y vs ws)
  where
    by : (b : Bool) → (if b then Some v.1 else lookup y (vs ++ ws)) ≡ None → (lookup y (vs ++ ws) ≡ None → lookup y ws ≡ None) → lookup y ws ≡ None
    by true h go = absurd (some_is_not_none v.1 h)
    by false h go = go h

pub distinct_first : (vs ws : List (Name × Variable)) → Distinct (vs ++ ws) → Distinct vs
distinct_first [] ws h = tt
distinct_first (v ∷ vs) ws h = (absent_first v.0 vs ws h.0, distinct_first vs ws h.1)

pub distinct_later : (vs ws : List (Name × Variable)) → Distinct (vs ++ ws) → Distinct ws
distinct_later [] ws h = h
distinct_later (v ∷ vs) ws h = distinct_later vs ws h.1

-- No parameter or variable has the name of its function.
pub result_unnamed : (g : GlobalScope) (s : System) (r : Routine) (t : Name) → Distinct (local_variables g r ++ permanent_variables g s) → r.result ≡ Some t
    → lookup r.name (locals g r) ≡ None
result_unnamed g s r t distinct is =
    distinct_before r.name (locals g r) (permanent_variables g s) (record { by_reference = false; type = named_type g t })
    (subst Distinct (same (declarations g r.parameters) (declarations g r.variables) (permanent_variables g s)) distinct)
  where
    one : List (Name × Variable)
    one = (r.name, record { by_reference = false; type = named_type g t }) ∷ []

    same : (a b c : List (Name × Variable)) → (a ++ (b ++ result_variable g r.name r.result)) ++ c ≡ (a ++ b) ++ (one ++ c)
    same a b c =
        ap (λ z. (a ++ (b ++ result_variable g r.name z)) ++ c) is
        ∙ (ap (λ z. z ++ c) (sym (append_assoc a b one)) ∙ append_assoc (a ++ b) one c)

pub no_local_result : (g : GlobalScope) (s : System) (r : Routine) (t : Name) → Distinct (local_variables g r ++ permanent_variables g s) → r.result ≡ Some t
    → local g r r.name ≡ None
no_local_result g s r t distinct is = not_local_at g (result_words r.result) (locals g r) r.name (result_unnamed g s r t distinct is)
