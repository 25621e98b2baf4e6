-- Names are numbered one after another.
use Rattle.std.proofs.Common.{◌≡◌, ◌+◌, ◌∷◌, ◌∙◌, Bool, true, false, ℕ, suc, List, [], Option, None, Some, ap, arith, refl, subst, sym, if◌then◌else◌}
use Rattle.std.specs.Str.{bytes_eq}
use Rattle.cp_model.specs.Abstract.{Monitor, Name, Process, Sort}
use Rattle.cp_model.specs.Components.{count_before, is_component_of}
use Rattle.cp_model.specs.Declarations.{Variable}
use Rattle.cp_model.specs.Names.{lookup}
use Rattle.cp_model.specs.Types.{ResolvedType}
use Rattle.cp_compile_symbols.specs.declared.numbering.Numbered.{Numbered}
use Rattle.cp_compile_symbols.specs.declared.variables.Declared.{Declared}
use Rattle.cp_compile_symbols.specs.declared.types.Types.{Types}
use Rattle.cp_compile_symbols.specs.Numbering.{NumberedIs}
use Rattle.cp_compile_symbols.specs.Representing.{Represents}
use Rattle.cp_compile_symbols.specs.Tables.{Behind, or_last}
use Rattle.cp_compile_symbols.specs.Variables.{AreDeclared, Entry}

-- A placeholder for an index past the end of a list of declared names.
abbrev pub nothing : Declared
nothing = record { name = record { ref_ptr = (0, 0); now = [] }; by_reference = false; of = 0 }

-- A name that isn't in the table yet is among the remaining ones, after the components counted so
-- far.
pub record IsLeft (vs others : List (Name × Variable)) (x : Name) (monitors processes : ℕ) : Type 0 where
  pub means : lookup x vs ≡ lookup x others
  pub monitors_are : count_before Monitor x vs ≡ monitors + count_before Monitor x others
  pub processes_are : count_before Process x vs ≡ processes + count_before Process x others

abbrev pub Found : Types → List (Name × Variable) → List (Name × Variable) → Name → ℕ → ℕ → Option Numbered → Type 0
Found types vs others x monitors processes None = IsLeft vs others x monitors processes
Found types vs others x monitors processes (Some n) = NumberedIs types vs x (Some n) (lookup x vs)

pub record PartlyNumbered (types : Types) (vs : List (Name × Variable)) (left : List Entry) (monitors processes : ℕ) (names : List (Name × Numbered)) : Type 0 where
  pub others : List (Name × Variable)
  pub represent : AreDeclared types left others
  pub found : (x : Name) → Found types vs others x monitors processes (lookup x names)

pub none_numbered : (types : Types) (vs : List (Name × Variable)) (left : List Entry) (names : List (Name × Numbered)) → names ≡ [] → AreDeclared types left vs
    → PartlyNumbered types vs left 0 0 names
none_numbered types vs left names none represent = record {
  others = vs;
  represent = represent;
  found = λ x. subst (λ (ns : List (Name × Numbered)). Found types vs vs x 0 0 (lookup x ns)) (sym none)
      (record { means = refl; monitors_are = omega arith; processes_are = omega arith });
}

pub all_numbered : (types : Types) (vs : List (Name × Variable)) (left : List Entry) (monitors processes : ℕ) (names : List (Name × Numbered)) → left ≡ []
    → PartlyNumbered types vs left monitors processes names → (x : Name) → NumberedIs types vs x (lookup x names) (lookup x vs)
all_numbered types vs left monitors processes names none partly x =
    go partly.others (subst (λ ds. AreDeclared types ds partly.others) none partly.represent) (lookup x names) (partly.found x)
  where
    go : (others : List (Name × Variable)) → AreDeclared types [] others → (n : Option Numbered) → Found types vs others x monitors processes n
        → NumberedIs types vs x n (lookup x vs)
    go (v ∷ rest) represent n found = absurd represent
    go [] represent (Some n) found = found
    go [] represent None found = subst (NumberedIs types vs x None) (sym found.means) tt

-- The count of components of a sort before a name, after one more variable that doesn't have the
-- name.
counted_on : (s : Sort) (x : Name) (v : Name × Variable) (rest : List (Name × Variable)) (total before one : ℕ) → bytes_eq x v.0 ≡ false
    → one ≡ (if is_component_of s v.1.type then 1 else 0) → total ≡ before + count_before s x (v ∷ rest) → total ≡ (before + one) + count_before s x rest
counted_on s x v rest total before one other is h = go (is_component_of s v.1.type) refl
  where
    go : (b : Bool) → is_component_of s v.1.type ≡ b → total ≡ (before + one) + count_before s x rest
    go true b =
        let more : count_before s x (v ∷ rest) ≡ suc (count_before s x rest) = rw (other, b) refl in
        let single : one ≡ 1 = is ∙ rw b refl in
        omega (arith, h, more, single)
    go false b =
        let same : count_before s x (v ∷ rest) ≡ count_before s x rest = rw (other, b) refl in
        let nothing : one ≡ 0 = is ∙ rw b refl in
        omega (arith, h, same, nothing)

pub one_numbered : (types : Types) (vs : List (Name × Variable)) (d : Entry) (left : List Entry) (monitors processes m p : ℕ) (names more : List (Name × Numbered))
    (n : Numbered) → n.of ≡ d.1.1 → n.monitors ≡ monitors → n.processes ≡ processes
    → ((t : ResolvedType) → Represents types d.1.1 t → m ≡ (if is_component_of Monitor t then 1 else 0))
    → ((t : ResolvedType) → Represents types d.1.1 t → p ≡ (if is_component_of Process t then 1 else 0))
    → Behind d.0 n names more → PartlyNumbered types vs (d ∷ left) monitors processes names → PartlyNumbered types vs left (monitors + m) (processes + p) more
one_numbered types vs d left monitors processes m p names more n of_is monitors_is processes_is ms ps behind partly = go partly.others partly.represent partly.found
  where
    go : (others : List (Name × Variable)) → AreDeclared types (d ∷ left) others
        → ((x : Name) → Found types vs others x monitors processes (lookup x names)) → PartlyNumbered types vs left (monitors + m) (processes + p) more
    go [] represent found = absurd represent
    go (v ∷ rest) represent found = record {
      others = rest;
      represent = represent.3;
      found = λ z. subst (Found types vs rest z (monitors + m) (processes + p)) (sym (behind z)) (each z (lookup z names) (bytes_eq z d.0) refl (found z));
    }
      where
        each : (z : Name) (o : Option Numbered) (b : Bool) → bytes_eq z d.0 ≡ b → Found types vs (v ∷ rest) z monitors processes o
            → Found types vs rest z (monitors + m) (processes + p) (or_last o b n)
        each z (Some q) b is h = h
        each z None true is h =
            let here : bytes_eq z v.0 ≡ true = ap (bytes_eq z) (sym represent.0) ∙ is in
            let found' : lookup z vs ≡ Some v.1 = h.means ∙ rw here refl in
            let no_monitor : count_before Monitor z (v ∷ rest) ≡ 0 = rw here refl in
            let no_process : count_before Process z (v ∷ rest) ≡ 0 = rw here refl in
            subst (NumberedIs types vs z (Some n)) (sym found')
            (record {
              type = subst (λ k. Represents types k v.1.type) (sym of_is) represent.2;
              monitors = omega (arith, h.monitors_are, no_monitor, monitors_is);
              processes = omega (arith, h.processes_are, no_process, processes_is);
            })
        each z None false is h =
            let other : bytes_eq z v.0 ≡ false = ap (bytes_eq z) (sym represent.0) ∙ is in
            record {
              means = h.means ∙ rw other refl;
              monitors_are = counted_on Monitor z v rest _ monitors m other (ms v.1.type represent.2) h.monitors_are;
              processes_are = counted_on Process z v rest _ processes p other (ps v.1.type represent.2) h.processes_are;
            }

-- ---- Processes before a name

-- The remaining variables are counted after those counted so far.
pub record PartlyCounted (types : Types) (vs : List (Name × Variable)) (left : List Entry) (x : Name) (count : ℕ) : Type 0 where
  pub others : List (Name × Variable)
  pub represent : AreDeclared types left others
  pub counted : count_before Process x vs ≡ count + count_before Process x others

pub one_counted : (types : Types) (vs : List (Name × Variable)) (d : Entry) (left : List Entry) (x : Name) (count one : ℕ) → bytes_eq x d.0 ≡ false
    → ((t : ResolvedType) → Represents types d.1.1 t → one ≡ (if is_component_of Process t then 1 else 0)) → PartlyCounted types vs (d ∷ left) x count
    → PartlyCounted types vs left x (count + one)
one_counted types vs d left x count one other ones partly = go partly.others partly.represent partly.counted
  where
    go : (others : List (Name × Variable)) → AreDeclared types (d ∷ left) others → count_before Process x vs ≡ count + count_before Process x others
        → PartlyCounted types vs left x (count + one)
    go [] represent h = absurd represent
    go (v ∷ rest) represent h = record {
      others = rest;
      represent = represent.3;
      counted = counted_on Process x v rest _ count one (ap (bytes_eq x) (sym represent.0) ∙ other) (ones v.1.type represent.2) h;
    }

-- The count ends at the name, or with the last variable.
pub counted_here : (types : Types) (vs : List (Name × Variable)) (d : Entry) (left : List Entry) (x : Name) (count : ℕ) → bytes_eq x d.0 ≡ true
    → PartlyCounted types vs (d ∷ left) x count → count ≡ count_before Process x vs
counted_here types vs d left x count here partly = go partly.others partly.represent partly.counted
  where
    go : (others : List (Name × Variable)) → AreDeclared types (d ∷ left) others → count_before Process x vs ≡ count + count_before Process x others
        → count ≡ count_before Process x vs
    go [] represent h = absurd represent
    go (v ∷ rest) represent h =
        let found : bytes_eq x v.0 ≡ true = ap (bytes_eq x) (sym represent.0) ∙ here in
        let none : count_before Process x (v ∷ rest) ≡ 0 = rw found refl in
        omega (arith, h, none)

pub counted_all : (types : Types) (vs : List (Name × Variable)) (left : List Entry) (x : Name) (count : ℕ) → left ≡ [] → PartlyCounted types vs left x count
    → count ≡ count_before Process x vs
counted_all types vs left x count none partly = go partly.others (subst (λ ds. AreDeclared types ds partly.others) none partly.represent) partly.counted
  where
    go : (others : List (Name × Variable)) → AreDeclared types [] others → count_before Process x vs ≡ count + count_before Process x others
        → count ≡ count_before Process x vs
    go [] represent h = omega (arith, h)
    go (v ∷ rest) represent h = absurd represent
