-- Arguments one by one, and calls with them.
use Rattle.std.proofs.Common.{◌≡◌, ◌∷◌, ◌++◌, ◌∙◌, ◌<◌, ◌≤◌, Bor, ℕ, zero, suc, List, [], Option, Some, false, ap, append_assoc, arith, drop, length, map, refl, slice_get, subst, sym}
use Rattle.std.proofs.lemmas.List.{append-nil, map-append}
use Rattle.std.specs.List.{HoldsAt}
use Rattle.std.specs.Option.{MatchOption}
use Rattle.std.proofs.lemmas.Option.{same_Some, slice_get-get_or}
use Rattle.cp_model.specs.Abstract.{Expressions, MoreExpressions, Name, NoExpression, System}
use Rattle.cp_model.specs.Declarations.{Variable}
use Rattle.cp_model.specs.Types.{ArrayOf, ComponentOf, GlobalScope, NoType, Queue, RecordOf, ResolvedType, Simple}
use Rattle.cp_law_typing.specs.Words.{words}
use Rattle.cp_model_program.specs.CodedTerms as coded
use Rattle.cp_model_program.specs.CodedTerms.{by_value, with_argument}
use Rattle.cp_model_program.specs.Programs as code
use Rattle.cp_model_program.specs.Scopes.{Scope}
use Rattle.cp_model_program.specs.Terms as plain
use Rattle.cp_compile_emit.specs.Emission.{coded_call}
use Rattle.cp_compile_emit.specs.declared.call.MadeTerm.{MadeTerm}
use Rattle.cp_compile_emit.specs.declared.emitter.CodedCall.{CodedCall}
use Rattle.cp_compile_symbols.specs.declared.types.Types.{Types}
use Rattle.cp_compile_symbols.specs.declared.variables.Declared.{Declared}
use Rattle.cp_compile_symbols.specs.Expressions.{is_simple}
use Rattle.cp_compile_symbols.specs.Representing.{Represents}
use Rattle.cp_compile_symbols.specs.Variables.{AreDeclared, declared_entry}
use Rattle.cp_program.specs.View as view
use Rattle.cp_compile_lower.specs.declared.made.MadeArgument.{MadeArgument}
use Rattle.cp_compile_lower.specs.declared.made.MadeArguments.{MadeArguments}
use Rattle.cp_compile_lower.specs.declared.made.MadePlaceExpression.{MadePlaceExpression}
use Rattle.cp_compile_lower.specs.Translated.{AreArguments, IsArgument, IsPlaceExpression, IsTerm}

-- The arguments so far and the remaining ones are all arguments.
pub record Finishes (before : List coded.CodedCall) (after : List CodedCall) (made : MadeArguments) (rest whole : coded.CodedArguments) : Type 0 where
  pub arguments : map view.argument made.arguments.items ++ rest.arguments ≡ whole.arguments
  pub calls : map coded_call after ++ rest.calls ≡ before ++ whole.calls
  pub temps : rest.temps ≡ whole.temps

pub none_made : (calls : List CodedCall) (made : MadeArguments) (rest : coded.CodedArguments) → made.arguments.items ≡ []
    → Finishes (map coded_call calls) calls made rest rest
none_made calls made rest none = record {
  arguments = ap (λ xs. map view.argument xs ++ rest.arguments) none;
  calls = refl;
  temps = refl;
}

pub one_made : (before : List coded.CodedCall) (middle after : List CodedCall) (made next : MadeArguments) (one : MadeArgument) (x : coded.CodedArgument)
    (rest whole : coded.CodedArguments) → Finishes before middle made (with_argument x rest) whole → IsArgument (map coded_call middle) after one x
    → next.arguments.items ≡ made.arguments.items ++ one.argument ∷ [] → Finishes before after next rest whole
one_made before middle after made next one x rest whole so_far is more = record {
  arguments =
      ap (λ xs. map view.argument xs ++ rest.arguments) more
      ∙ (ap (λ xs. xs ++ rest.arguments) (map-append view.argument made.arguments.items (one.argument ∷ []))
      ∙ (append_assoc (map view.argument made.arguments.items) (view.argument one.argument ∷ []) rest.arguments
      ∙ ((λ i. map view.argument made.arguments.items ++ is.argument i ∷ rest.arguments) ∙ so_far.arguments)));
  calls =
      ap (λ cs. cs ++ rest.calls) is.calls
      ∙ (append_assoc (map coded_call middle) x.calls rest.calls ∙ so_far.calls);
  temps = so_far.temps;
}

pub all_made : (before : List coded.CodedCall) (after : List CodedCall) (made : MadeArguments) (whole : coded.CodedArguments)
    → Finishes before after made (coded.no_arguments made.temps) whole → AreArguments before after made whole
all_made before after made whole so_far = record {
  arguments = sym (append-nil (map view.argument made.arguments.items)) ∙ so_far.arguments;
  calls = sym (append-nil (map coded_call after)) ∙ so_far.calls;
  temps = so_far.temps;
}

-- The item at a place of a list is the first one of the rest.
pub got : {X : Type 0} (xs : List X) (i : ℕ) (r : Option (Bor X)) (x : Bor X)
    → MatchOption r (length xs ≤ i) (λ y. (i < length xs) × HoldsAt (λ z. y.now ≡ z) xs i) → r ≡ Some x → slice_get xs i ≡ Some x.now
got xs i r x h is = let there = rw is at h in slice_get-get_or xs i x.now there.0 ∙ ap Some (sym (there.1 x.now))

-- The parameter with this number represents the variable with this number.
pub record DeclaredAt (types : Types) (d : Declared) (vs : List (Name × Variable)) (k : ℕ) : Type 0 where
  pub declared : Name × Variable
  pub split : drop k vs ≡ declared ∷ drop (suc k) vs
  pub name : d.name.now ≡ declared.0
  pub reference : d.by_reference ≡ declared.1.by_reference
  pub type : Represents types d.of declared.1.type

pub declared_at : (types : Types) (ds : List Declared) (vs : List (Name × Variable)) (k : ℕ) (d : Declared)
    → AreDeclared types (map declared_entry ds) vs → slice_get ds k ≡ Some d → DeclaredAt types d vs k
declared_at types [] vs k d are there = absurd (cc)
declared_at types (e ∷ ds) [] k d are there = absurd are
declared_at types (e ∷ ds) (v ∷ vs) zero d are there =
    let same : e ≡ d = same_Some e d there in record {
      declared = v;
      split = refl;
      name = ap (λ (f : Declared). f.name.now) (sym same) ∙ are.0;
      reference = ap (λ (f : Declared). f.by_reference) (sym same) ∙ are.1;
      type = subst (λ (f : Declared). Represents types f.of v.1.type) same are.2;
    }
declared_at types (e ∷ ds) (v ∷ vs) (suc k) d are there =
    let more = declared_at types ds vs k d are.3 there in
    record { declared = more.declared; split = more.split; name = more.name; reference = more.reference; type = more.type }

-- Past the parameters there are no variables.
pub parameters_past : (types : Types) (ds : List Declared) (vs : List (Name × Variable)) (k : ℕ) → AreDeclared types (map declared_entry ds) vs
    → length ds ≤ k → drop k vs ≡ []
parameters_past types [] [] zero are past = refl
parameters_past types [] [] (suc k) are past = refl
parameters_past types [] (v ∷ vs) k are past = absurd are
parameters_past types (d ∷ ds) [] k are past = absurd are
parameters_past types (d ∷ ds) (v ∷ vs) zero are past = absurd (omega (arith, past))
parameters_past types (d ∷ ds) (v ∷ vs) (suc k) are past = parameters_past types ds vs k are.3 (omega (arith, past))

pub no_parameters : (s : Scope) (es : Expressions) (at low : ℕ) → coded.coded_arguments s es [] at low ≡ coded.no_arguments low
no_parameters s NoExpression at low = refl
no_parameters s (MoreExpressions e es) at low = refl

pub no_init_parameters : (s : Scope) (y : System) (es : Expressions) (low : ℕ) → coded.init_arguments s y es [] low ≡ coded.no_arguments low
no_init_parameters s y NoExpression low = refl
no_init_parameters s y (MoreExpressions e es) low = refl

-- A call whose value goes to the next temp.
pub call_made : (before : List coded.CodedCall) (middle after : List CodedCall) (xs : MadeArguments) (ys : coded.CodedArguments) (made : MadeTerm)
    (f : List plain.Argument → code.Call) → AreArguments before middle xs ys
    → map coded_call after ≡ map coded_call middle ++ record { call = f (map view.argument xs.arguments.items); into = xs.temps } ∷ []
    → view.term made.term ≡ plain.Made xs.temps → made.temps ≡ suc xs.temps
    → IsTerm before after made
    (record { term = plain.Made ys.temps; calls = ys.calls ++ (record { call = f ys.arguments; into = ys.temps } ∷ []); temps = suc ys.temps })
call_made before middle after xs ys made f are more term temps =
    let last : List coded.CodedCall = record { call = f ys.arguments; into = ys.temps } ∷ [] in record {
      term = term ∙ ap plain.Made are.temps;
      calls =
          more
          ∙ ((λ i. are.calls i ++ (record { call = f (are.arguments i); into = are.temps i } ∷ []))
          ∙ append_assoc before ys.calls last);
      temps = temps ∙ ap suc are.temps;
    }

-- A variable whose type isn't simple is copied.
module _ (g : GlobalScope) (before : List coded.CodedCall) (after : List CodedCall) (at size : ℕ) (made : MadePlaceExpression) (one : MadeArgument)
    (t : coded.CodedTerm) (c : coded.CodedPlaceExpression) (place : IsPlaceExpression before after made c) (temps : one.temps ≡ made.temps)
    (is : view.argument one.argument ≡ plain.Copy at size (view.place_expression made.place_expression)) where
  copies : (type : ResolvedType) → size ≡ words g type
      → IsArgument before after one (record { argument = plain.Copy at (words g type) c.place_expression; calls = c.calls; temps = c.temps })
  copies type long = record { argument = is ∙ (λ i. plain.Copy at (long i) (place.place_expression i)); calls = place.calls; temps = temps ∙ place.temps }

  pub copied_made : (type : ResolvedType) → is_simple type ≡ false → size ≡ words g type → IsArgument before after one (by_value g type at t c)
  copied_made (Simple b low high start) other long = absurd (cc)
  copied_made (ArrayOf low high e) other long = copies (ArrayOf low high e) long
  copied_made (RecordOf ms) other long = copies (RecordOf ms) long
  copied_made Queue other long = copies Queue long
  copied_made (ComponentOf s ms) other long = copies (ComponentOf s ms) long
  copied_made NoType other long = copies NoType long
