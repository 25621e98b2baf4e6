-- The component that a name means is found among numbered parameters and variables.
use Rattle.std.proofs.Common.{◌≡◌, Bool, Bor, true, false, List, Option, None, Some, refl, subst, sym}
use Rattle.std.specs.Option.{option_or}
use Rattle.cp_model.specs.Abstract.{Name}
use Rattle.cp_model.specs.Components as c
use Rattle.cp_model.specs.Declarations.{Variable}
use Rattle.cp_model.specs.Names.{lookup}
use Rattle.cp_model.specs.Types.{ArrayOf, ComponentOf, NoType, Queue, RecordOf, ResolvedType, Simple}
use Rattle.cp_compile_symbols.specs.declared.numbering.Numbered.{Numbered}
use Rattle.cp_compile_symbols.specs.declared.systems.Component.{Component}
use Rattle.cp_compile_symbols.specs.declared.types.Types.{Types}
use Rattle.cp_compile_symbols.specs.Numbering.{IsNumbered, NumberedIs}
use Rattle.cp_compile_symbols.specs.Representing.{Represents}
use Rattle.cp_compile_symbols.specs.Systems.{ComponentIs, component_among, component_of_name}

-- The parameters or the variables.
abbrev pub among : Bool → List (Name × Variable) → List (Name × Variable) → List (Name × Variable)
among true ps vs = ps
among false ps vs = vs

abbrev pub named_in : Name → Bool → ResolvedType → Option c.Component
named_in x b (ComponentOf s ms) = Some (record { name = x; system = s; is_parameter = b })
named_in x b _ = None

named_as : (x : Name) (b : Bool) (v : Variable) (t : ResolvedType) → v.type ≡ t → c.as_component x b (Some v) ≡ named_in x b t
named_as x b v (Simple k l h s) is = rw is refl
named_as x b v (ArrayOf l h t) is = rw is refl
named_as x b v (RecordOf ms) is = rw is refl
named_as x b v Queue is = rw is refl
named_as x b v (ComponentOf s ms) is = rw is refl
named_as x b v NoType is = rw is refl

module _ (types : Types) (ps vs : List (Name × Variable)) (name : Bor Name) where
  one_found : (b : Bool) (n : Numbered) (v : Variable) (t : ResolvedType) → v.type ≡ t → IsNumbered types (among b ps vs) name.now n v → Represents types n.of t
      → ComponentIs types ps vs (component_of_name types name b (Some n)) (named_in name.now b t)
  one_found b n v (Simple k l h s) is number st = rw st.1 tt
  one_found b n v (ArrayOf l h t) is number st = rw st.1 tt
  one_found b n v (RecordOf ms) is number st = rw st.1 tt
  one_found b n v Queue is number st = rw st tt
  one_found b n v NoType is number st = rw st tt
  one_found true n v (ComponentOf s ms) is number st =
      rw st.3
      (record { name = refl; text = st.2; there = st.4; system = st.5; parameter = refl; monitors = number.monitors; processes = number.processes })
  one_found false n v (ComponentOf s ms) is number st =
      rw st.3
      (record { name = refl; text = st.2; there = st.4; system = st.5; parameter = refl; monitors = number.monitors; processes = number.processes })

  found_one : (b : Bool) (n : Option Numbered) (v : Option Variable) → NumberedIs types (among b ps vs) name.now n v
      → ComponentIs types ps vs (component_of_name types name b n) (c.as_component name.now b v)
  found_one b None None h = tt
  found_one b (Some n) (Some v) h =
      subst (ComponentIs types ps vs (component_of_name types name b (Some n))) (sym (named_as name.now b v v.type refl)) (one_found b n v v.type refl h h.type)
  found_one b None (Some v) h = absurd h
  found_one b (Some n) None h = absurd h

  both_found : (f g : Option Component) (m n : Option c.Component) → ComponentIs types ps vs f m → ComponentIs types ps vs g n
      → ComponentIs types ps vs (option_or f g) (option_or m n)
  both_found None g None n one two = two
  both_found (Some f) g (Some m) n one two = one
  both_found None g (Some m) n one two = absurd one
  both_found (Some f) g None n one two = absurd one

  pub component_found : (p v : Option Numbered) → NumberedIs types ps name.now p (lookup name.now ps) → NumberedIs types vs name.now v (lookup name.now vs)
      → ComponentIs types ps vs (option_or (component_of_name types name true p) (component_of_name types name false v)) (component_among ps vs name.now)
  component_found p v one two =
      both_found (component_of_name types name true p) (component_of_name types name false v) (c.as_component name.now true (lookup name.now ps)) (c.as_component name.now false (lookup name.now vs))
      (found_one true p (lookup name.now ps) one) (found_one false v (lookup name.now vs) two)
