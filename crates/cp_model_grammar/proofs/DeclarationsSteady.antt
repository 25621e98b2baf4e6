-- Declarations are read steadily.
use Rattle.std.proofs.Common.{◌≡◌, ℕ, ◌<◌, Bool, true, false, cond, List, [], ◌∷◌, ◌++◌, length, Option, Some, None, refl, ap, ◌∙◌, append_assoc, arith, length-append}
use Rattle.cp_model.specs.Syntax as s
use Rattle.cp_model.specs.Levels.{each_levels, names_levels, type_levels, body_levels, variable_group_levels, variables_levels, optional_levels, parameter_group_levels, parameters_levels, result_type_levels, routine_levels, system_levels, defined_levels, constant_definition_levels, type_definition_levels, section_levels}
use Rattle.cp_model.specs.Tokens.{Kind}
use Rattle.cp_model.specs.Tokens as kind
use Rattle.cp_model.specs.declared.token.Symbol.TheVariants as symbol
use Rattle.cp_model.specs.declared.tree.Sort.{Sort}
use Rattle.cp_model.specs.declared.tree.Sort.TheVariants as sort
use Rattle.cp_model_grammar.specs.Kinds.{is_symbol, is_name}
use Rattle.cp_model_grammar.specs.Reading.{Reader, pure, refuse, repeat_while}
use Rattle.cp_model_grammar.specs.Statements.{Deeper, block_of}
use Rattle.cp_model_grammar.specs.Declarations.{constant_definition_of, parameter_group_of, some_parameters_of, parameters_of, result_type_of, Heading, heading_from, heading_of, begins_routine, variable_group_of, some_variables_of, variables_of, body_of, routine_of, routines_of, system_from, system_type, enumeration_of, written_type, defined_by, defined_of, type_definition_of, section_by, section_of, begins_section}
use Rattle.cp_model_grammar.proofs.Steady.{Cut, Mode, Anywhere, Before, start_of, Steady, Has, imply, before, then, then_any, finish, pure_steady, refuse_steady, take_steady, kind_steady, kind_before, symbol_steady, expect_steady, optional_steady, SteadyInner}
use Rattle.cp_model_grammar.proofs.SteadyLists.{each_steady, SomeHas, some_has, some_steady, SeparatedHas, separated_some}
use Rattle.cp_model_grammar.proofs.NamesSteady.{identifier_steady, names_steady, constant_steady}
use Rattle.cp_model_grammar.proofs.TypesSteady.{TypesRelated, group_steady}
use Rattle.cp_model_grammar.proofs.StatementsSteady.{DeeperRelated, block_steady}

-- a routine up to the `;` before its variables
abbrev heading_levels : Heading → List ℕ
heading_levels h = 0 ∷ (optional_levels h.entry ++ (0 ∷ (parameters_levels h.parameters ++ (result_type_levels h.result_type ++ (0 ∷ [])))))

behind_heading : (h : Heading) (l : List ℕ) → (heading_levels h ++ l) ≡ 0 ∷
    (optional_levels h.entry ++ (0 ∷ (parameters_levels h.parameters ++ (result_type_levels h.result_type ++ (0 ∷ l)))))
behind_heading h l =
    let e = optional_levels h.entry in let p = parameters_levels h.parameters in let r = result_type_levels h.result_type in
    ap (λ (l : List ℕ). 0 ∷ l) (append_assoc e (0 ∷ (p ++ (r ++ (0 ∷ [])))) l
    ∙ ap (λ (l : List ℕ). e ++ (0 ∷ l)) (append_assoc p (r ++ (0 ∷ [])) l ∙ ap (λ (l : List ℕ). p ++ l) (append_assoc r (0 ∷ []) l)))

some_parameters_have : (ps : List s.Parameters) (l : List ℕ) → SeparatedHas parameter_group_levels ps l → (0 ∷ (l ++ (0 ∷ []))) ≡ parameters_levels ps
some_parameters_have [] l h = absurd h
some_parameters_have (p ∷ ps) l h = ap (λ (l : List ℕ). 0 ∷ (l ++ (0 ∷ []))) h

some_variables_have : (gs : List s.Variables) (l : List ℕ) → SomeHas variable_group_levels gs l → (0 ∷ l) ≡ variables_levels gs
some_variables_have [] l h = absurd h
some_variables_have (g ∷ gs) l h = ap (λ (l : List ℕ). 0 ∷ l) h

some_section : (x : s.Section) → 0 < length (section_levels x)
some_section (s.Constants ds) = omega arith
some_section (s.Types ds) = omega arith

module _ {c : Cut} {m : Mode} where
  constant_definition_steady : Steady c m Anywhere (Has constant_definition_levels) constant_definition_of constant_definition_of
  unfolding constant_definition_of
  constant_definition_steady = then identifier_steady
      (λ x. then (expect_steady symbol.Equal) (λ _. then constant_steady
      (λ v. finish (λ _. record { name = x; value = v }) (expect_steady symbol.Semicolon) (λ _. refl))))

  parameter_group_steady : Steady c m Anywhere (Has parameter_group_levels) parameter_group_of parameter_group_of
  unfolding parameter_group_of
  parameter_group_steady = then (optional_steady symbol.Var) (λ v. then names_steady (λ xs. then (expect_steady symbol.Colon) (λ _.
      finish (λ t. record { by_reference = v; names = xs; of = t }) identifier_steady (λ t. refl))))

  some_parameters_steady : Steady c m Before (Has parameters_levels) some_parameters_of some_parameters_of
  unfolding some_parameters_of
  some_parameters_steady = then (take_steady 0) (λ _. then_any (separated_some parameter_group_levels symbol.Semicolon parameter_group_steady)
      (λ ps l h.
      finish (λ _. ps) (expect_steady symbol.CloseParenthesis) (λ _. some_parameters_have ps l h)))

  parameters_steady : Steady c m Anywhere (Has parameters_levels) parameters_of parameters_of
  unfolding parameters_of
  parameters_steady = symbol_steady symbol.OpenParenthesis (λ b. cond b some_parameters_of (pure []))
      (λ b. cond b some_parameters_of (pure [])) some_parameters_steady (pure_steady [] refl)

  result_type_steady : (b : Bool) → Steady c m Anywhere (Has result_type_levels) (result_type_of b) (result_type_of b)
  unfolding result_type_of
  result_type_steady true = then (expect_steady symbol.Colon) (λ _. finish (λ t. Some t) identifier_steady (λ t. refl))
  result_type_steady false = pure_steady None refl

  heading_from_steady : (b : Bool) → Steady c m Before (Has heading_levels) (heading_from b) (heading_from b)
  unfolding heading_from
  heading_from_steady b = then (take_steady 0) (λ _. then (optional_steady symbol.Entry)
      (λ e. then identifier_steady (λ x. then parameters_steady (λ ps. then (result_type_steady b) (λ t.
      finish (λ _. record { entry = e; name = x; parameters = ps; result_type = t }) (expect_steady symbol.Semicolon) (λ _. refl))))))

  heading_steady : Steady c m Before (Has heading_levels) heading_of heading_of
  unfolding heading_of
  heading_steady = kind_before (λ k. heading_from (is_symbol symbol.Function k)) (λ k. heading_from (is_symbol symbol.Function k))
      (λ k. heading_from_steady (is_symbol symbol.Function (Some k)))

module _ {c : Cut} {m : Mode} {p q : Reader s.TypeExpression} (r : TypesRelated c m 0 p q) where
  variable_group_steady : Steady c m Anywhere (Has variable_group_levels) (variable_group_of p) (variable_group_of q)
  unfolding variable_group_of
  variable_group_steady = then (group_steady 0 r) (λ g. finish (λ _. g) (expect_steady symbol.Semicolon)
      (λ _. append_assoc (names_levels g.names) (0 ∷ type_levels 0 g.of) (0 ∷ [])))

  some_variables_steady : Steady c m Before (Has variables_levels) (some_variables_of p) (some_variables_of q)
  unfolding some_variables_of
  some_variables_steady = then (take_steady 0) (λ _. imply (λ gs l. (0 ∷ l) ≡ variables_levels gs)
      (some_steady variable_group_levels is_name refl
      (λ g. omega (arith, length-append (names_levels g.names) (0 ∷ (type_levels 0 g.of ++ (0 ∷ []))))) variable_group_steady
      (before variable_group_steady)) some_variables_have)

  pub variables_steady : Steady c m Anywhere (Has variables_levels) (variables_of p) (variables_of q)
  unfolding variables_of
  variables_steady = symbol_steady symbol.Var (λ b. cond b (some_variables_of p) (pure []))
      (λ b. cond b (some_variables_of q) (pure [])) some_variables_steady (pure_steady [] refl)

module _ {c : Cut} (m : Mode) (d d' : Option Deeper) (rd : SteadyInner c (DeeperRelated c) m 0 d d') where
  pub body_steady : Steady c m Anywhere (Has body_levels) (body_of d) (body_of d')
  unfolding body_of
  body_steady = symbol_steady symbol.Begin (λ b. cond b (block_of d) refuse) (λ b. cond b (block_of d') refuse)
      (block_steady m 0 d d' rd) refuse_steady

  module _ {p q : Reader s.TypeExpression} (r : TypesRelated c m 0 p q) where
    routine_steady : Steady c m Before (Has routine_levels) (routine_of p d) (routine_of q d')
    unfolding routine_of
    routine_steady = then heading_steady (λ h. then (variables_steady r) (λ vs. then body_steady (λ b.
        finish (λ _. record { entry = h.entry; name = h.name; parameters = h.parameters; result_type = h.result_type; variables = vs; body = b })
        (expect_steady symbol.Semicolon)
        (λ _. behind_heading h (variables_levels vs ++ (body_levels b ++ (0 ∷ [])))))))

    pub routines_steady : Steady c m Anywhere (Has (each_levels routine_levels)) (routines_of p d) (routines_of q d')
    unfolding routines_of
    routines_steady = each_steady routine_levels begins_routine refl (λ r. omega arith) routine_steady

    system_steady : (x : Sort) → Steady c m Before (Has system_levels) (system_from p d x) (system_from q d' x)
    unfolding system_from
    system_steady x = then (take_steady 0) (λ _. then parameters_steady
        (λ ps. then (expect_steady symbol.Semicolon) (λ _. then (variables_steady r) (λ vs. then routines_steady (λ rs.
        finish (λ b. record { sort = x; parameters = ps; variables = vs; routines = rs; body = b }) body_steady (λ b. refl))))))

    system_type_steady : (x : Sort) → Steady c m Before (Has defined_levels) (system_type p d x) (system_type q d' x)
    unfolding system_type
    system_type_steady x = finish (λ y. s.SystemType y) (system_steady x) (λ y. refl)

    enumeration_steady : Steady c m Before (Has defined_levels) (enumeration_of p d) (enumeration_of q d')
    unfolding enumeration_of
    enumeration_steady = then (take_steady 0) (λ _. then names_steady
        (λ xs. finish (λ _. s.Enumeration xs) (expect_steady symbol.CloseParenthesis) (λ _. refl)))

    written_steady : Steady c m Anywhere (Has defined_levels) (written_type p d) (written_type q d')
    unfolding written_type
    written_steady = finish (λ t. s.Written t) r (λ t. refl)

    defined_by_steady : (k : Option Kind) → Steady c m (start_of k) (Has defined_levels) (defined_by p d k) (defined_by q d' k)
    unfolding defined_by
    defined_by_steady (Some (kind.Symbol symbol.Process)) = system_type_steady sort.Process
    defined_by_steady (Some (kind.Symbol symbol.Monitor)) = system_type_steady sort.Monitor
    defined_by_steady (Some (kind.Symbol symbol.Class)) = system_type_steady sort.Class
    defined_by_steady (Some (kind.Symbol symbol.OpenParenthesis)) = enumeration_steady
    defined_by_steady None = written_steady
    defined_by_steady _ = before written_steady

    type_definition_steady : Steady c m Anywhere (Has type_definition_levels) (type_definition_of p d) (type_definition_of q d')
    unfolding type_definition_of defined_of
    type_definition_steady = then identifier_steady (λ x. then (expect_steady symbol.Equal) (λ _. then (kind_steady defined_by_steady) (λ t.
        finish (λ _. record { name = x; defined = t }) (expect_steady symbol.Semicolon) (λ _. refl))))

    section_by_steady : (k : Option Kind) → Steady c m (start_of k) (Has section_levels) (section_by p d k) (section_by q d' k)
    unfolding section_by
    section_by_steady (Some (kind.Symbol symbol.Const)) = then (take_steady 0) (λ _. finish (λ ds. s.Constants ds)
        (imply (Has (each_levels constant_definition_levels))
        (some_steady constant_definition_levels is_name refl (λ x. omega arith) constant_definition_steady (before constant_definition_steady))
        (some_has constant_definition_levels)) (λ ds. refl))
    section_by_steady (Some (kind.Symbol symbol.Type)) = then (take_steady 0) (λ _. finish (λ ds. s.Types ds)
        (imply (Has (each_levels type_definition_levels))
        (some_steady type_definition_levels is_name refl (λ x. omega arith) type_definition_steady (before type_definition_steady))
        (some_has type_definition_levels)) (λ ds. refl))
    section_by_steady _ = refuse_steady

    pub sections_steady : Steady c m Anywhere (Has (each_levels section_levels)) (repeat_while begins_section (section_of p d) [])
        (repeat_while begins_section (section_of q d') [])
    unfolding section_of
    sections_steady = each_steady section_levels begins_section refl some_section (before (kind_steady section_by_steady))
