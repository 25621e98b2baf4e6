-- Components are listed one after another.
use Rattle.std.proofs.Common.{◌≡◌, ℕ, Bool, true, false, List, [], ◌∷◌, ◌++◌, refl, ap, sym, subst, ◌∙◌}
use Rattle.std.specs.Prelude.{filter, if◌then◌else◌}
use Rattle.std.proofs.lemmas.List.{append_assoc}
use Rattle.cp_model.specs.Abstract.{Name, Sort}
use Rattle.cp_model.specs.Components.{is_component_of}
use Rattle.cp_model.specs.Declarations.{Variable}
use Rattle.cp_compile_symbols.specs.Variables.{AreDeclared, Entry}
use Rattle.cp_compile_symbols.specs.declared.types.Types.{Types}
use Rattle.cp_inspect.specs.Lists.{AreListed, Picks}

-- Some components are listed, and the others are picked from the variables that are left.
pub record Listing (types : Types) (z : Sort) (left : List Entry) (es : List (Name × ℕ)) (whole : List (Name × Variable)) : Type 0 where
  pub done : List (Name × Variable)
  pub rest : List (Name × Variable)
  pub declared : AreDeclared types left rest
  pub listed : AreListed types es done
  pub whole_is : whole ≡ done ++ filter (λ v. is_component_of z v.1.type) rest

one_more : (types : Types) (es : List (Name × ℕ)) (vs : List (Name × Variable)) (e : Name × ℕ) (v : Name × Variable) → AreListed types es vs → AreListed types (e ∷ []) (v ∷ [])
    → AreListed types (es ++ e ∷ []) (vs ++ v ∷ [])
one_more types [] [] e v h g = g
one_more types (d ∷ es) (u ∷ vs) e v h g = (h.0, h.1, one_more types es vs e v h.2 g)
one_more types [] (u ∷ vs) e v h g = absurd h
one_more types (d ∷ es) [] e v h g = absurd h

pub none_listed : (types : Types) (z : Sort) (ds : List Entry) (vs : List (Name × Variable)) → AreDeclared types ds vs → Listing types z ds [] (filter (λ v. is_component_of z v.1.type) vs)
none_listed types z ds vs h = record { done = []; rest = vs; declared = h; listed = tt; whole_is = refl }

pub next_listed : (types : Types) (z : Sort) (d : Entry) (left : List Entry) (es fs : List (Name × ℕ)) (whole : List (Name × Variable)) → Listing types z (d ∷ left) es whole → Picks types z d es fs
    → Listing types z left fs whole
next_listed types z d left es fs whole L picks = by L.rest L.declared L.whole_is
  where
    by : (vs : List (Name × Variable)) → AreDeclared types (d ∷ left) vs → whole ≡ L.done ++ filter (λ v. is_component_of z v.1.type) vs → Listing types z left fs whole
    by [] h e = absurd h
    by (v ∷ vs) h e = of (is_component_of z v.1.type) refl
      where
        of : (b : Bool) → is_component_of z v.1.type ≡ b → Listing types z left fs whole
        of true is = record {
          done = L.done ++ v ∷ [];
          rest = vs;
          declared = h.3;
          listed = subst (λ gs. AreListed types gs (L.done ++ v ∷ [])) (sym (picks v.1.type h.2 ∙ ap (λ b. if b then es ++ (d.0, d.1.1) ∷ [] else es) is))
              (one_more types es L.done (d.0, d.1.1) v L.listed (h.0, h.2, tt));
          whole_is = e ∙ (ap (λ b. L.done ++ (if b then v ∷ filter (λ w. is_component_of z w.1.type) vs else filter (λ w. is_component_of z w.1.type) vs)) is
              ∙ sym (append_assoc L.done (v ∷ []) (filter (λ w. is_component_of z w.1.type) vs)));
        }
        of false is = record {
          done = L.done;
          rest = vs;
          declared = h.3;
          listed = subst (λ gs. AreListed types gs L.done) (sym (picks v.1.type h.2 ∙ ap (λ b. if b then es ++ (d.0, d.1.1) ∷ [] else es) is)) L.listed;
          whole_is = e ∙ ap (λ b. L.done ++ (if b then v ∷ filter (λ w. is_component_of z w.1.type) vs else filter (λ w. is_component_of z w.1.type) vs)) is;
        }
