-- What is read as a declaration or as a whole text is allowed by the grammar.
use Rattle.std.proofs.Common.{◌≡◌, ℕ, Bool, true, false, cond, List, [], ◌∷◌, Option, Some, None, refl}
use Rattle.cp_model.specs.Languages.{Language, symbol, identifier, ◌⋅◌, optional, each, separated_list}
use Rattle.cp_model.specs.Syntax as s
use Rattle.cp_model.specs.GrammarTypes.{type_expression}
use Rattle.cp_model.specs.Grammar.{body, variable_group, variables, parameter_group, parameters, routine_word, result_type, routine, sort_symbol, system, definition, constant_definition, type_definition, section}
use Rattle.cp_model.specs.Tokens.{Token}
use Rattle.cp_model.specs.Tokens.{Kind}
use Rattle.cp_model.specs.Tokens as kind
use Rattle.cp_model.specs.declared.token.Symbol.TheVariants as symbol
use Rattle.cp_model.specs.declared.tree.Identifier.{Identifier}
use Rattle.cp_model.specs.declared.tree.ConstantDefinition.{ConstantDefinition}
use Rattle.cp_model.specs.declared.tree.Sort.{Sort}
use Rattle.cp_model.specs.declared.tree.Sort.TheVariants as sort
use Rattle.cp_model_grammar.specs.Kinds.{is_symbol, is_name}
use Rattle.cp_model_grammar.specs.Reading.{Reader, pure, refuse, kind_at, place_at, tail, repeat_while}
use Rattle.cp_model_grammar.specs.Types.{group_of}
use Rattle.cp_model_grammar.specs.Statements.{Deeper, block_of}
use Rattle.cp_model_grammar.specs.Declarations.{constant_definition_of, parameter_group_of, some_parameters_of, parameters_of, result_type_of, Heading, heading_from, heading_of, begins_routine, variable_group_of, some_variables_of, variables_of, body_of, routine_of, routines_of, system_from, system_type, enumeration_of, written_type, defined_by, defined_of, type_definition_of, section_by, section_of, begins_section}
use Rattle.cp_model_grammar.proofs.Tokens.{head, head_symbol, is_symbol_is}
use Rattle.cp_model_grammar.proofs.Ensures.{Ensures, Sound, ensures_then, ensures_weaker, expect_sound, optional_sound, SoundInner, separated_sound, each_sound, some, some_sound}
use Rattle.cp_model_grammar.proofs.NamesSound.{identifier_sound, names_sound, constant_sound}
use Rattle.cp_model_grammar.proofs.TypesSound.{group, group_sound, SoundType}
use Rattle.cp_model_grammar.proofs.StatementsSound.{SoundDeeper, block_sound}

-- ---- constants

constant_definition_sound : Sound constant_definition_of constant_definition
unfolding constant_definition_of
constant_definition_sound ts = ensures_then _ _ _ _ (identifier_sound ts) (λ x t1 h1.
    ensures_then _ _ _ _ (expect_sound symbol.Equal t1) (λ p2 t2 h2.
    ensures_then _ _ _ _ (constant_sound t2) (λ c t3 h3.
    ensures_then _ _ _ _ (expect_sound symbol.Semicolon t3) (λ p4 t4 h4.
    let made : constant_definition (record { name = x; value = c }) ts t4 = (t1, h1, (t2, (p2, h2), (t3, h3, (p4, h4)))) in made))))

-- ---- parameters and headings

parameter_group_sound : Sound parameter_group_of parameter_group
unfolding parameter_group_of
parameter_group_sound ts = ensures_then _ _ _ _ (optional_sound symbol.Var ts) (λ v t1 h1.
    ensures_then _ _ _ _ (names_sound t1) (λ xs t2 h2.
    ensures_then _ _ _ _ (expect_sound symbol.Colon t2) (λ p3 t3 h3.
    ensures_then _ _ _ _ (identifier_sound t3) (λ t t4 h4.
    let made : parameter_group (record { by_reference = v; names = xs; of = t }) ts t4 = (t1, h1, (t2, h2, (t3, (p3, h3), h4))) in made))))

pub between_parentheses : (ps : List s.Parameters) (ts rest : List Token)
    → (symbol symbol.OpenParenthesis ⋅ separated_list symbol.Semicolon parameter_group ps ⋅ symbol symbol.CloseParenthesis) ts rest → parameters ps ts rest
between_parentheses [] ts rest h = absurd h.2.1
between_parentheses (p ∷ ps) ts rest h = h

some_parameters_sound : (ts : List Token) → is_symbol symbol.OpenParenthesis (kind_at ts) ≡ true
    → Ensures (some_parameters_of ts) (λ ps rest. parameters ps ts rest)
unfolding some_parameters_of
some_parameters_sound ts k = ensures_then _ _ _ _ (separated_sound parameter_group symbol.Semicolon parameter_group_of parameter_group_sound
    (tail ts)) (λ ps t1 h1.
    ensures_then _ _ _ _ (expect_sound symbol.CloseParenthesis t1) (λ p2 t2 h2.
    between_parentheses ps ts t2 (tail ts, (place_at ts, head_symbol ts symbol.OpenParenthesis k), (t1, h1, (p2, h2)))))

parameters_sound : Sound parameters_of parameters
unfolding parameters_of
parameters_sound ts = go (is_symbol symbol.OpenParenthesis (kind_at ts)) refl
  where
    go : (b : Bool) → is_symbol symbol.OpenParenthesis (kind_at ts) ≡ b
        → Ensures (cond b some_parameters_of (pure []) ts) (λ ps rest. parameters ps ts rest)
    go true e = some_parameters_sound ts e
    go false e = refl

-- a function has a result, and a procedure none
abbrev pub Returns : Bool → Option Identifier → Type 0
Returns true (Some t) = Unit {0}
Returns true None = ⊥
Returns false (Some t) = ⊥
Returns false None = Unit {0}

result_type_sound : (b : Bool) (ts : List Token) → Ensures (result_type_of b ts) (λ t rest. result_type t ts rest × Returns b t)
unfolding result_type_of
result_type_sound true ts = ensures_then _ _ _ _ (expect_sound symbol.Colon ts) (λ p1 t1 h1.
    ensures_then _ _ _ _ (identifier_sound t1) (λ t t2 h2.
    let made : result_type (Some t) ts t2 × Unit {0} = ((t1, (p1, h1), h2), tt) in made))
result_type_sound false ts = (refl, tt)

abbrev pub heading : Heading → Language
heading h =
    routine_word h.result_type ⋅ optional symbol.Entry h.entry ⋅ identifier h.name ⋅ parameters h.parameters ⋅ result_type h.result_type ⋅ symbol symbol.Semicolon

-- the word before a routine with this result type or none
abbrev WordAt : Bool → List Token → Type 0
WordAt b ts = (t : Option Identifier) → Returns b t → routine_word t ts (tail ts)

heading_from_sound : (b : Bool) (ts : List Token) → WordAt b ts → Ensures (heading_from b ts) (λ h rest. heading h ts rest)
unfolding heading_from
heading_from_sound b ts word = ensures_then _ _ _ _ (optional_sound symbol.Entry (tail ts)) (λ e t1 h1.
    ensures_then _ _ _ _ (identifier_sound t1) (λ x t2 h2.
    ensures_then _ _ _ _ (parameters_sound t2) (λ ps t3 h3.
    ensures_then _ _ (λ t rest. result_type t t3 rest × Returns b t) _ (result_type_sound b t3) (λ t t4 h4.
    ensures_then _ _ _ _ (expect_sound symbol.Semicolon t4) (λ p5 t5 h5.
    let made : heading (record { entry = e; name = x; parameters = ps; result_type = t }) ts t5 =
    (tail ts, word t h4.1, (t1, h1, (t2, h2, (t3, h3, (t4, h4.0, (p5, h5)))))) in made)))))

procedure_word : (ts : List Token) → kind_at ts ≡ Some (kind.Symbol symbol.Procedure) → WordAt false ts
procedure_word ts k (Some t) r = absurd r
procedure_word ts k None r = (place_at ts, head ts (kind.Symbol symbol.Procedure) k)

function_word : (ts : List Token) → kind_at ts ≡ Some (kind.Symbol symbol.Function) → WordAt true ts
function_word ts k (Some t) r = (place_at ts, head ts (kind.Symbol symbol.Function) k)
function_word ts k None r = absurd r

heading_by_sound : (ts : List Token) (k : Option Kind) → kind_at ts ≡ k → begins_routine k ≡ true
    → Ensures (heading_from (is_symbol symbol.Function k) ts) (λ h rest. heading h ts rest)
unfolding is_symbol
heading_by_sound ts (Some (kind.Symbol symbol.Procedure)) k b = heading_from_sound false ts (procedure_word ts k)
heading_by_sound ts (Some (kind.Symbol symbol.Function)) k b = heading_from_sound true ts (function_word ts k)
heading_by_sound ts _ k b = absurd cc

heading_sound : (ts : List Token) → begins_routine (kind_at ts) ≡ true → Ensures (heading_of ts) (λ h rest. heading h ts rest)
unfolding heading_of
heading_sound ts b = heading_by_sound ts (kind_at ts) refl b

-- ---- variables and bodies

pub behind_var : (limit : ℕ) (gs : List s.Variables) (ts mid rest : List Token) → symbol symbol.Var ts mid → some (variable_group limit) gs mid rest
    → variables limit gs ts rest
behind_var limit [] ts mid rest v h = absurd h
behind_var limit (g ∷ gs) ts mid rest v h = (mid, v, h)

pub constants_section : (limit : ℕ) (ds : List ConstantDefinition) (ts mid rest : List Token) → symbol symbol.Const ts mid
    → some constant_definition ds mid rest
    → section limit (s.Constants ds) ts rest
constants_section limit [] ts mid rest w h = absurd h
constants_section limit (d ∷ ds) ts mid rest w h = (mid, w, h)

pub types_section : (limit : ℕ) (ds : List s.TypeDefinition) (ts mid rest : List Token) → symbol symbol.Type ts mid
    → some (type_definition limit) ds mid rest
    → section limit (s.Types ds) ts rest
types_section limit [] ts mid rest w h = absurd h
types_section limit (d ∷ ds) ts mid rest w h = (mid, w, h)

module _ (limit : ℕ) (p : Reader s.TypeExpression) (ok : SoundType limit p) where
  variable_group_sound : Sound (variable_group_of p) (variable_group limit)
  unfolding variable_group_of
  variable_group_sound ts = ensures_then (group_of p ts) _ (λ g rest. group limit g ts rest) _ (group_sound limit p ok ts) (λ g t1 h1.
      ensures_then _ _ _ _ (expect_sound symbol.Semicolon t1) (λ p2 t2 h2.
      let made : variable_group limit g ts t2 = (h1.0, h1.1, (h1.2.0, h1.2.1, (t1, h1.2.2, (p2, h2)))) in made))

  some_variables_sound : (ts : List Token) → is_symbol symbol.Var (kind_at ts) ≡ true
      → Ensures (some_variables_of p ts) (λ gs rest. variables limit gs ts rest)
  unfolding some_variables_of
  some_variables_sound ts k = ensures_weaker _ _ _ (some_sound (variable_group limit) is_name (variable_group_of p) variable_group_sound (tail ts))
      (λ gs rest h. behind_var limit gs ts (tail ts) rest (place_at ts, head_symbol ts symbol.Var k) h)

  pub variables_sound : Sound (variables_of p) (variables limit)
  unfolding variables_of
  variables_sound ts = go (is_symbol symbol.Var (kind_at ts)) refl
    where
      go : (b : Bool) → is_symbol symbol.Var (kind_at ts) ≡ b
          → Ensures (cond b (some_variables_of p) (pure []) ts) (λ gs rest. variables limit gs ts rest)
      go true e = some_variables_sound ts e
      go false e = refl

pub body_sound : (limit : ℕ) (deeper : Option Deeper) → SoundInner SoundDeeper limit deeper → Sound (body_of deeper) (body limit)
unfolding body_of
body_sound limit deeper ok ts = go (is_symbol symbol.Begin (kind_at ts)) refl
  where
    go : (b : Bool) → is_symbol symbol.Begin (kind_at ts) ≡ b → Ensures (cond b (block_of deeper) refuse ts) (λ x rest. body limit x ts rest)
    go true e = block_sound limit deeper ok ts (is_symbol_is symbol.Begin (kind_at ts) e)
    go false e = tt

-- ---- routines and types

module _ (limit : ℕ) (p : Reader s.TypeExpression) (ok : SoundType limit p) (deeper : Option Deeper) (okd : SoundInner SoundDeeper limit deeper) where
  routine_sound : (ts : List Token) → begins_routine (kind_at ts) ≡ true → Ensures (routine_of p deeper ts) (λ r rest. routine limit r ts rest)
  unfolding routine_of
  routine_sound ts k = ensures_then (heading_of ts) _ (λ h rest. heading h ts rest) _ (heading_sound ts k) (λ h t1 h1.
      ensures_then _ _ _ _ (variables_sound limit p ok t1) (λ vs t2 h2.
      ensures_then _ _ _ _ (body_sound limit deeper okd t2) (λ b t3 h3.
      ensures_then _ _ _ _ (expect_sound symbol.Semicolon t3) (λ p4 t4 h4.
      let a = h1.2 in let b' = a.2 in let c = b'.2 in let d = c.2 in
      let made : routine limit (record {
        entry = h.entry;
        name = h.name;
        parameters = h.parameters;
        result_type = h.result_type;
        variables =
            vs;
        body = b;
      }) ts t4 =
      (h1.0, h1.1, (a.0, a.1, (b'.0, b'.1, (c.0, c.1, (d.0, d.1, (t1, d.2, (t2, h2, (t3, h3, (p4, h4))))))))) in made))))

  pub routines_sound : Sound (routines_of p deeper) (each (routine limit))
  unfolding routines_of
  routines_sound = each_sound (routine limit) begins_routine (routine_of p deeper) routine_sound

  system_sound : (sort : Sort) (ts : List Token) → kind_at ts ≡ Some (kind.Symbol (sort_symbol sort))
      → Ensures (system_from p deeper sort ts) (λ y rest. system limit y ts rest)
  unfolding system_from
  system_sound sort ts k = ensures_then _ _ _ _ (parameters_sound (tail ts)) (λ ps t1 h1.
      ensures_then _ _ _ _ (expect_sound symbol.Semicolon t1) (λ p2 t2 h2.
      ensures_then _ _ _ _ (variables_sound limit p ok t2) (λ vs t3 h3.
      ensures_then _ _ _ _ (routines_sound t3) (λ rs t4 h4.
      ensures_then _ _ _ _ (body_sound limit deeper okd t4) (λ b t5 h5.
      let made : system limit (record { sort = sort; parameters = ps; variables = vs; routines = rs; body = b }) ts t5 =
      (tail ts, (place_at ts, head ts (kind.Symbol (sort_symbol sort)) k), (t1, h1, (t2, (p2, h2), (t3, h3, (t4, h4, h5))))) in made)))))

  system_type_sound : (sort : Sort) (ts : List Token) → kind_at ts ≡ Some (kind.Symbol (sort_symbol sort))
      → Ensures (system_type p deeper sort ts) (λ d rest. definition limit d ts rest)
  unfolding system_type
  system_type_sound sort ts k = ensures_then (system_from p deeper sort ts) (λ y. pure (s.SystemType y)) (λ y rest. system limit y ts rest) _
      (system_sound sort ts k) (λ y rest h. h)

  enumeration_sound : (ts : List Token) → kind_at ts ≡ Some (kind.Symbol symbol.OpenParenthesis)
      → Ensures (enumeration_of p deeper ts) (λ d rest. definition limit d ts rest)
  unfolding enumeration_of
  enumeration_sound ts k = ensures_then _ _ _ _ (names_sound (tail ts)) (λ xs t1 h1.
      ensures_then _ _ _ _ (expect_sound symbol.CloseParenthesis t1) (λ p2 t2 h2.
      let made : definition limit (s.Enumeration xs) ts t2 =
      (tail ts, (place_at ts, head ts (kind.Symbol symbol.OpenParenthesis) k), (t1, h1, (p2, h2))) in made))

  written_sound : (ts : List Token) → Ensures (written_type p deeper ts) (λ d rest. definition limit d ts rest)
  unfolding written_type
  written_sound ts = ensures_then (p ts) (λ t. pure (s.Written t)) (λ t rest. type_expression limit t ts rest) _ (ok ts) (λ t rest h. h)

  defined_by_sound : (ts : List Token) (k : Option Kind) → kind_at ts ≡ k → Ensures (defined_by p deeper k ts) (λ d rest. definition limit d ts rest)
  unfolding defined_by
  defined_by_sound ts (Some (kind.Symbol symbol.Process)) k = system_type_sound sort.Process ts k
  defined_by_sound ts (Some (kind.Symbol symbol.Monitor)) k = system_type_sound sort.Monitor ts k
  defined_by_sound ts (Some (kind.Symbol symbol.Class)) k = system_type_sound sort.Class ts k
  defined_by_sound ts (Some (kind.Symbol symbol.OpenParenthesis)) k = enumeration_sound ts k
  defined_by_sound ts _ k = written_sound ts

  defined_sound : Sound (defined_of p deeper) (definition limit)
  unfolding defined_of
  defined_sound ts = defined_by_sound ts (kind_at ts) refl

  type_definition_sound : Sound (type_definition_of p deeper) (type_definition limit)
  unfolding type_definition_of
  type_definition_sound ts = ensures_then _ _ _ _ (identifier_sound ts) (λ x t1 h1.
      ensures_then _ _ _ _ (expect_sound symbol.Equal t1) (λ p2 t2 h2.
      ensures_then _ _ _ _ (defined_sound t2) (λ d t3 h3.
      ensures_then _ _ _ _ (expect_sound symbol.Semicolon t3) (λ p4 t4 h4.
      let made : type_definition limit (record { name = x; defined = d }) ts t4 = (t1, h1, (t2, (p2, h2), (t3, h3, (p4, h4)))) in made))))

  -- ---- sections

  section_by_sound : (ts : List Token) (k : Option Kind) → kind_at ts ≡ k → Ensures (section_by p deeper k ts) (λ x rest. section limit x ts rest)
  unfolding section_by
  section_by_sound ts (Some (kind.Symbol symbol.Const)) k =
      ensures_then _ _ _ _ (some_sound constant_definition is_name constant_definition_of constant_definition_sound (tail ts)) (λ ds rest h.
      constants_section limit ds ts (tail ts) rest (place_at ts, head ts (kind.Symbol symbol.Const) k) h)
  section_by_sound ts (Some (kind.Symbol symbol.Type)) k =
      ensures_then _ _ _ _ (some_sound (type_definition limit) is_name (type_definition_of p deeper) type_definition_sound (tail ts)) (λ ds rest h.
      types_section limit ds ts (tail ts) rest (place_at ts, head ts (kind.Symbol symbol.Type) k) h)
  section_by_sound ts _ k = tt

  pub sections_sound : Sound (repeat_while begins_section (section_of p deeper) []) (each (section limit))
  unfolding section_of
  sections_sound = each_sound (section limit) begins_section (section_of p deeper) (λ ts k. section_by_sound ts (kind_at ts) refl)
