-- Fields and elements.
use Rattle.std.proofs.Common.{◌≡◌, ◌∷◌, ◌++◌, ◌∙◌, ℕ, List, [], Option, None, Some, ap, append_assoc, map, refl, subst, sym, ℤ}
use Rattle.std.proofs.lemmas.Option.{same_Some}
use Rattle.cp_model.specs.Abstract as a
use Rattle.cp_model.specs.Abstract.{Name}
use Rattle.cp_model.specs.Locations.{ByName}
use Rattle.cp_model.specs.Places.{field_type}
use Rattle.cp_model.specs.Types.{ArrayOf, ComponentOf, GlobalScope, NoType, Queue, RecordOf, ResolvedType, Simple}
use Rattle.cp_law_typing.specs.StaticTypes.{element_type, place_type}
use Rattle.cp_law_typing.specs.Words.{words}
use Rattle.cp_model_program.specs.CodedTerms as coded
use Rattle.cp_model_program.specs.CodedTerms.{coded_place_expression, coded_term, element_part}
use Rattle.cp_model_program.specs.Layout.{part}
use Rattle.cp_model_program.specs.Scopes as code
use Rattle.cp_model_program.specs.Scopes.{environment, part_start}
use Rattle.cp_model_program.specs.Terms as plain
use Rattle.cp_model_program.specs.TermsFor.{move_place_expression}
use Rattle.cp_compile_emit.specs.Emission.{coded_call}
use Rattle.cp_compile_emit.specs.declared.call.MadeTerm.{MadeTerm}
use Rattle.cp_compile_emit.specs.declared.emitter.CodedCall.{CodedCall}
use Rattle.cp_compile_symbols.specs.declared.places.Elements.{Elements}
use Rattle.cp_compile_symbols.specs.declared.scope.Scope.{Scope}
use Rattle.cp_compile_symbols.specs.declared.types.Types.{Types}
use Rattle.cp_compile_symbols.specs.Places.{TypeIs, elements_of}
use Rattle.cp_compile_symbols.specs.Representing.{Represents, row_at}
use Rattle.cp_program.specs.View as view
use Rattle.cp_compile_lower.specs.declared.made.MadePlaceExpression.{MadePlaceExpression}
use Rattle.cp_compile_lower.specs.Translated.{IsPlace, IsPlaceExpression, IsTerm, elements_at}

-- ---- Fields

pub field_made : (scope : Scope) (s : code.Scope) (low : ℕ) (before : List coded.CodedCall) (calls : List CodedCall) (d : a.Designator) (x : Name)
    (of made : MadePlaceExpression) (n : ℕ) → n ≡ part_start (part s.globals (place_type (environment s) d) (ByName x ∷ []))
    → view.place_expression made.place_expression ≡ move_place_expression n (view.place_expression of.place_expression) → made.temps ≡ of.temps
    → TypeIs scope.tables.now.types made.of (field_type x (place_type (environment s) d))
    → IsPlace scope s low before calls d of → IsPlace scope s low before calls (a.Part d x) made
field_made scope s low before calls d x of made n begins place_expression temps typed place = record {
  place_expression = record {
    place_expression = place_expression ∙ (λ i. move_place_expression (begins i) (place.place_expression.place_expression i));
    calls = place.place_expression.calls;
    temps = temps ∙ place.place_expression.temps;
  };
  typed = typed;
}

-- ---- Elements

-- A type that has elements is an array type with these elements.
pub record IsArray (types : Types) (e : Elements) (t : ResolvedType) : Type 0 where
  pub element : ResolvedType
  pub is : t ≡ ArrayOf e.low e.high element
  pub represents : Represents types e.of element

pub array_of : (types : Types) (n : ℕ) (e : Elements) (t : ResolvedType) → Represents types n t → elements_of (row_at types n) ≡ Some e → IsArray types e t
array_of types n e (Simple b low high start) h is = absurd (let none : None ≡ Some e = rw h.1 at is in cc)
array_of types n e (ArrayOf low high t) h is =
    let whole : Elements = record { low = low; high = high; of = h.0 } in
    let found : Some whole ≡ Some e = rw h.1 at is in
    let same : whole ≡ e = same_Some whole e found in
    record { element = t; is = λ i. ArrayOf (same i).low (same i).high t; represents = subst (λ (o : Elements). Represents types o.of t) same h.2 }
array_of types n e (RecordOf ms) h is = absurd (let none : None ≡ Some e = rw h.1 at is in cc)
array_of types n e Queue h is = absurd (let none : None ≡ Some e = rw h at is in cc)
array_of types n e (ComponentOf s ms) h is = absurd (let none : None ≡ Some e = rw h.3 at is in cc)
array_of types n e NoType h is = absurd (let none : None ≡ Some e = rw h at is in cc)

pub element_made : (g : GlobalScope) (before : List coded.CodedCall) (middle after : List CodedCall) (of made : MadePlaceExpression) (index : MadeTerm)
    (c : coded.CodedPlaceExpression) (f : ℕ → coded.CodedTerm) (t element : ResolvedType) (low high : ℤ) (size : ℕ)
    → t ≡ ArrayOf low high element → size ≡ words g element
    → view.place_expression made.place_expression ≡ plain.Element (view.place_expression of.place_expression) low high size 0 (view.term index.term) → made.temps ≡ index.temps
    → IsPlaceExpression before middle of c → IsTerm (map coded_call middle) after index (f of.temps)
    → IsPlaceExpression before after made (element_part g t c (f c.temps))
element_made g before middle after of made index c f t element low high size is long place_expression temps array term =
    let there = subst (λ n. IsTerm (map coded_call middle) after index (f n)) array.temps term in
    subst (λ u. IsPlaceExpression before after made (element_part g u c (f c.temps))) (sym is)
    (record {
      place_expression = place_expression ∙ (λ i. plain.Element (array.place_expression i) low high (long i) 0 (there.term i));
      calls = there.calls ∙ (ap (λ cs. cs ++ (f c.temps).calls) array.calls ∙ append_assoc before c.calls (f c.temps).calls);
      temps = temps ∙ there.temps;
    })

-- The elements of a value with this type number are those of its type.
pub elements_there : (types : Types) (o : Option ℕ) (e : Elements) (t : ResolvedType) → TypeIs types o t → elements_at types o ≡ Some e → IsArray types e t
elements_there types None e t typed is = absurd (cc)
elements_there types (Some n) e t typed is = array_of types n e t typed is

-- A value that has no elements is no array.
no_array : (types : Types) (n : ℕ) (t : ResolvedType) → Represents types n t → elements_of (row_at types n) ≡ None
    → (g : GlobalScope) (c : coded.CodedPlaceExpression) (i : coded.CodedTerm) → (element_part g t c i ≡ c) × (element_type t ≡ NoType)
no_array types n (Simple b low high start) h none g c i = (refl, refl)
no_array types n (ArrayOf low high t) h none g c i = absurd (let some = ap elements_of h.1 in cc)
no_array types n (RecordOf ms) h none g c i = (refl, refl)
no_array types n Queue h none g c i = (refl, refl)
no_array types n (ComponentOf s ms) h none g c i = (refl, refl)
no_array types n NoType h none g c i = (refl, refl)

pub no_elements : (types : Types) (o : Option ℕ) (t : ResolvedType) → TypeIs types o t → elements_at types o ≡ None
    → (g : GlobalScope) (c : coded.CodedPlaceExpression) (i : coded.CodedTerm) → (element_part g t c i ≡ c) × (element_type t ≡ NoType)
no_elements types None t typed none g c i = rw typed (refl, refl)
no_elements types (Some n) t typed none g c i = no_array types n t typed none g c i
