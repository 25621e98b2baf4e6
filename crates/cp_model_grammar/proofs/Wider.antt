-- What the grammar allows within some number of levels, it allows within more.
use Rattle.std.proofs.Common.{ℕ, zero, suc, ◌≤◌, List, [], ◌∷◌, arith}
use Rattle.cp_model.specs.Languages.{Language, opens, each, each_behind, separated_list}
use Rattle.cp_model.specs.Syntax as s
use Rattle.cp_model.specs.GrammarExpressions.{expression, expressions, more_expressions, designator, selectors, selector, indices, more_indices, arguments}
use Rattle.cp_model.specs.GrammarTypes.{type_expression, types, more_types, fields, more_fields}
use Rattle.cp_model.specs.GrammarStatements.{init_item, statement, statements, more_statements, arms, more_arms}
use Rattle.cp_model.specs.Grammar.{body, variable_group, variables, routine, system, definition, type_definition, section, text}
use Rattle.cp_model.specs.Tokens.{Token}
use Rattle.cp_model.specs.declared.token.Symbol.{Symbol}

opens_wider : (room wide : ℕ) (f : ℕ → Language) (ts rest : List Token) → room ≤ wide → ((r w : ℕ) → r ≤ w → f r ts rest → f w ts rest)
    → opens room f ts rest → opens wide f ts rest
opens_wider zero wide f ts rest le k h = absurd h
opens_wider (suc room) zero f ts rest le k h = absurd (omega arith)
opens_wider (suc room) (suc wide) f ts rest le k h = k room wide (omega arith) h

module _ {A : Type 0} (f g : A → Language) (k : (a : A) (ts rest : List Token) → f a ts rest → g a ts rest) where
  each_wider : (items : List A) (ts rest : List Token) → each f items ts rest → each g items ts rest
  each_wider [] ts rest h = h
  each_wider (a ∷ items) ts rest h = (h.0, k a ts h.0 h.1, each_wider items h.0 rest h.2)

  behind_wider : (x : Symbol) (items : List A) (ts rest : List Token) → each_behind x f items ts rest → each_behind x g items ts rest
  behind_wider x [] ts rest h = h
  behind_wider x (a ∷ items) ts rest h = (h.0, h.1, (h.2.0, k a h.0 h.2.0 h.2.1, behind_wider x items h.2.0 rest h.2.2))

  separated_wider : (x : Symbol) (items : List A) (ts rest : List Token) → separated_list x f items ts rest → separated_list x g items ts rest
  separated_wider x [] ts rest h = h
  separated_wider x (a ∷ items) ts rest h = (h.0, k a ts h.0 h.1, behind_wider x items h.0 rest h.2)

-- ---- expressions

mutual
  expression_wider : (e : s.Expression) (room wide : ℕ) → room ≤ wide → (ts rest : List Token) → expression room e ts rest → expression wide e ts rest
  expression_wider (s.Number at value) room wide le ts rest h = h
  expression_wider (s.Character at ordinal) room wide le ts rest h = h
  expression_wider (s.Designated d) room wide le ts rest h = designator_wider d room wide le ts rest h
  expression_wider (s.Call d es) room wide le ts rest h = (
    h.0,
    designator_wider d room wide le ts h.0 h.1,
    opens_wider room wide _ h.0 rest le (λ r w le g. (g.0, g.1, (g.2.0, expressions_wider es r w le g.0 g.2.0 g.2.1, g.2.2))) h.2,
  )
  expression_wider (s.Parenthesized at e) room wide le ts rest h =
      opens_wider room wide _ ts rest le (λ r w le g. (g.0, g.1, (g.2.0, expression_wider e r w le g.0 g.2.0 g.2.1, g.2.2))) h
  expression_wider (s.Not at e) room wide le ts rest h =
      (h.0, opens_wider room wide _ ts rest le (λ r w le g. (g.0, g.1, expression_wider e r w le g.0 rest g.2)) h.1)
  expression_wider (s.Signed x at e) room wide le ts rest h = (h.0, (h.1.0, h.1.1, expression_wider e room wide le h.1.0 rest h.1.2))
  expression_wider (s.Binary a o at b) room wide le ts rest h =
      let g = h.1.1 in (
        h.0,
        (
          h.1.0,
          (
            g.0,
            expression_wider a room wide le ts g.0 g.1,
            (g.2.0, g.2.1, expression_wider b room wide le g.2.0 rest g.2.2),
          ),
        ),
      )

  expressions_wider : (es : s.Expressions) (room wide : ℕ) → room ≤ wide → (ts rest : List Token) → expressions room es ts rest
      → expressions wide es ts rest
  expressions_wider s.NoExpressions room wide le ts rest h = h
  expressions_wider (s.MoreExpressions e es) room wide le ts rest h =
      (h.0, expression_wider e room wide le ts h.0 h.1, more_expressions_wider es room wide le h.0 rest h.2)

  more_expressions_wider : (es : s.Expressions) (room wide : ℕ) → room ≤ wide → (ts rest : List Token) → more_expressions room es ts rest
      → more_expressions wide es ts rest
  more_expressions_wider s.NoExpressions room wide le ts rest h = h
  more_expressions_wider (s.MoreExpressions e es) room wide le ts rest h =
      (h.0, h.1, (h.2.0, expression_wider e room wide le h.0 h.2.0 h.2.1, more_expressions_wider es room wide le h.2.0 rest h.2.2))

  designator_wider : (d : s.Designator) (room wide : ℕ) → room ≤ wide → (ts rest : List Token) → designator room d ts rest → designator wide d ts rest
  designator_wider (s.Designate x xs) room wide le ts rest h = (h.0, h.1, selectors_wider xs room wide le h.0 rest h.2)

  selectors_wider : (xs : s.Selectors) (room wide : ℕ) → room ≤ wide → (ts rest : List Token) → selectors room xs ts rest → selectors wide xs ts rest
  selectors_wider s.NoSelectors room wide le ts rest h = h
  selectors_wider (s.MoreSelectors x xs) room wide le ts rest h =
      (h.0, selector_wider x room wide le ts h.0 h.1, selectors_wider xs room wide le h.0 rest h.2)

  selector_wider : (x : s.Selector) (room wide : ℕ) → room ≤ wide → (ts rest : List Token) → selector room x ts rest → selector wide x ts rest
  selector_wider (s.Field at x) room wide le ts rest h = h
  selector_wider (s.Indexed is) room wide le ts rest h =
      opens_wider room wide _ ts rest le (λ r w le g. (g.0, indices_wider is r w le ts g.0 g.1, g.2)) h

  indices_wider : (is : s.Indices) (room wide : ℕ) → room ≤ wide → (ts rest : List Token) → indices room is ts rest → indices wide is ts rest
  indices_wider s.NoIndices room wide le ts rest h = h
  indices_wider (s.MoreIndices at e is) room wide le ts rest h =
      (h.0, h.1, (h.2.0, expression_wider e room wide le h.0 h.2.0 h.2.1, more_indices_wider is room wide le h.2.0 rest h.2.2))

  more_indices_wider : (is : s.Indices) (room wide : ℕ) → room ≤ wide → (ts rest : List Token) → more_indices room is ts rest
      → more_indices wide is ts rest
  more_indices_wider s.NoIndices room wide le ts rest h = h
  more_indices_wider (s.MoreIndices at e is) room wide le ts rest h =
      (h.0, h.1, (h.2.0, expression_wider e room wide le h.0 h.2.0 h.2.1, more_indices_wider is room wide le h.2.0 rest h.2.2))

arguments_wider : (es : s.Expressions) (room wide : ℕ) → room ≤ wide → (ts rest : List Token) → arguments room es ts rest → arguments wide es ts rest
arguments_wider s.NoExpressions room wide le ts rest h = h
arguments_wider (s.MoreExpressions e es) room wide le ts rest h =
    opens_wider room wide _ ts rest le (λ r w le g. (g.0, g.1, (g.2.0, expressions_wider (s.MoreExpressions e es) r w le g.0 g.2.0 g.2.1, g.2.2))) h

-- ---- types

mutual
  type_wider : (t : s.TypeExpression) (room wide : ℕ) → room ≤ wide → (ts rest : List Token) → type_expression room t ts rest
      → type_expression wide t ts rest
  type_wider (s.Named x) room wide le ts rest h = h
  type_wider (s.Subrange low high) room wide le ts rest h = h
  type_wider (s.Array at is e) room wide le ts rest h = opens_wider room wide _ ts rest le (λ r w le g.
      let h1 = g.2 in let h2 = h1.2 in let h3 = h2.2 in let h4 = h3.2 in
      (g.0, g.1, (h1.0, h1.1, (h2.0, types_wider is r w le h1.0 h2.0 h2.1, (h3.0, h3.1, (h4.0, h4.1, type_wider e r w le h4.0 rest h4.2)))))) h
  type_wider (s.Record at gs) room wide le ts rest h =
      opens_wider room wide _ ts rest le (λ r w le g. (g.0, g.1, (g.2.0, fields_wider gs r w le g.0 g.2.0 g.2.1, g.2.2))) h

  types_wider : (xs : s.TypeExpressions) (room wide : ℕ) → room ≤ wide → (ts rest : List Token) → types room xs ts rest → types wide xs ts rest
  types_wider s.NoTypes room wide le ts rest h = h
  types_wider (s.MoreTypes x xs) room wide le ts rest h = (h.0, type_wider x room wide le ts h.0 h.1, more_types_wider xs room wide le h.0 rest h.2)

  more_types_wider : (xs : s.TypeExpressions) (room wide : ℕ) → room ≤ wide → (ts rest : List Token) → more_types room xs ts rest
      → more_types wide xs ts rest
  more_types_wider s.NoTypes room wide le ts rest h = h
  more_types_wider (s.MoreTypes x xs) room wide le ts rest h =
      (h.0, h.1, (h.2.0, type_wider x room wide le h.0 h.2.0 h.2.1, more_types_wider xs room wide le h.2.0 rest h.2.2))

  fields_wider : (gs : s.FieldGroups) (room wide : ℕ) → room ≤ wide → (ts rest : List Token) → fields room gs ts rest → fields wide gs ts rest
  fields_wider s.NoFields room wide le ts rest h = h
  fields_wider (s.MoreFields xs t gs) room wide le ts rest h =
      let g = h.2 in (h.0, h.1, (g.0, g.1, (g.2.0, type_wider t room wide le g.0 g.2.0 g.2.1, more_fields_wider gs room wide le g.2.0 rest g.2.2)))

  more_fields_wider : (gs : s.FieldGroups) (room wide : ℕ) → room ≤ wide → (ts rest : List Token) → more_fields room gs ts rest
      → more_fields wide gs ts rest
  more_fields_wider s.NoFields room wide le ts rest h = h
  more_fields_wider (s.MoreFields xs t gs) room wide le ts rest h =
      let f = h.2 in let g = f.2 in (
        h.0,
        h.1,
        (
          f.0,
          f.1,
          (g.0, g.1, (g.2.0, type_wider t room wide le g.0 g.2.0 g.2.1, more_fields_wider gs room wide le g.2.0 rest g.2.2)),
        ),
      )

-- ---- statements

init_item_wider : (room wide : ℕ) → room ≤ wide → (i : s.InitItem) (ts rest : List Token) → init_item room i ts rest → init_item wide i ts rest
init_item_wider room wide le i ts rest h = (h.0, h.1, arguments_wider i.arguments room wide le h.0 rest h.2)

mutual
  statement_wider : (x : s.Statement) (room wide : ℕ) → room ≤ wide → (ts rest : List Token) → statement room x ts rest → statement wide x ts rest
  statement_wider s.Empty room wide le ts rest h = h
  statement_wider (s.Assign d at e) room wide le ts rest h =
      (h.0, designator_wider d room wide le ts h.0 h.1, (h.2.0, h.2.1, expression_wider e room wide le h.2.0 rest h.2.2))
  statement_wider (s.Perform d es) room wide le ts rest h =
      (h.0, designator_wider d room wide le ts h.0 h.1, arguments_wider es room wide le h.0 rest h.2)
  statement_wider (s.Compound l) room wide le ts rest h =
      opens_wider room wide _ ts rest le (λ r w le g. (g.0, g.1, (g.2.0, statements_wider l r w le g.0 g.2.0 g.2.1, g.2.2))) h
  statement_wider (s.If c x) room wide le ts rest h = opens_wider room wide _ ts rest le (λ r w le g.
      (g.0, g.1, (g.2.0, expression_wider c r w le g.0 g.2.0 g.2.1, (g.2.2.0, g.2.2.1, statement_wider x r w le g.2.2.0 rest g.2.2.2)))) h
  statement_wider (s.IfElse c x y) room wide le ts rest h = (
    h.0,
    opens_wider room wide _ ts rest le (λ r w le g.
        let h1 = g.2 in let h2 = h1.2 in let h3 = h2.2 in let h4 = h3.2 in (
          g.0,
          g.1,
          (
            h1.0,
            expression_wider c r w le g.0 h1.0 h1.1,
            (h2.0, h2.1, (h3.0, statement_wider x r w le h2.0 h3.0 h3.1, (h4.0, h4.1, statement_wider y r w le h4.0 rest h4.2))),
          ),
        )) h.1,
  )
  statement_wider (s.Case e a) room wide le ts rest h = opens_wider room wide _ ts rest le (λ r w le g.
      let h1 = g.2 in let h2 = h1.2 in let h3 = h2.2 in
      (g.0, g.1, (h1.0, expression_wider e r w le g.0 h1.0 h1.1, (h2.0, h2.1, (h3.0, arms_wider a r w le h2.0 h3.0 h3.1, h3.2))))) h
  statement_wider (s.While c x) room wide le ts rest h = opens_wider room wide _ ts rest le (λ r w le g.
      (g.0, g.1, (g.2.0, expression_wider c r w le g.0 g.2.0 g.2.1, (g.2.2.0, g.2.2.1, statement_wider x r w le g.2.2.0 rest g.2.2.2)))) h
  statement_wider (s.Repeat l c) room wide le ts rest h = opens_wider room wide _ ts rest le (λ r w le g.
      (g.0, g.1, (g.2.0, statements_wider l r w le g.0 g.2.0 g.2.1, (g.2.2.0, g.2.2.1, expression_wider c r w le g.2.2.0 rest g.2.2.2)))) h
  statement_wider (s.For v a d b x) room wide le ts rest h = opens_wider room wide _ ts rest le (λ r w le g.
      let h1 = g.2 in let h2 = h1.2 in let h3 = h2.2 in let h4 = h3.2 in let h5 = h4.2 in let h6 = h5.2 in (
        g.0,
        g.1,
        (
          h1.0,
          h1.1,
          (
            h2.0,
            h2.1,
            (
              h3.0,
              expression_wider a r w le h2.0 h3.0 h3.1,
              (h4.0, h4.1, (h5.0, expression_wider b r w le h4.0 h5.0 h5.1, (h6.0, h6.1, statement_wider x r w le h6.0 rest h6.2))),
            ),
          ),
        ),
      )) h
  statement_wider (s.Cycle l) room wide le ts rest h =
      opens_wider room wide _ ts rest le (λ r w le g. (g.0, g.1, (g.2.0, statements_wider l r w le g.0 g.2.0 g.2.1, g.2.2))) h
  statement_wider (s.Init at is) room wide le ts rest h =
      (h.0, h.1, separated_wider (init_item room) (init_item wide) (init_item_wider room wide le) _ is h.0 rest h.2)

  statements_wider : (xs : s.Statements) (room wide : ℕ) → room ≤ wide → (ts rest : List Token) → statements room xs ts rest
      → statements wide xs ts rest
  statements_wider s.NoStatements room wide le ts rest h = h
  statements_wider (s.MoreStatements x xs) room wide le ts rest h =
      (h.0, statement_wider x room wide le ts h.0 h.1, more_statements_wider xs room wide le h.0 rest h.2)

  more_statements_wider : (xs : s.Statements) (room wide : ℕ) → room ≤ wide → (ts rest : List Token) → more_statements room xs ts rest
      → more_statements wide xs ts rest
  more_statements_wider s.NoStatements room wide le ts rest h = h
  more_statements_wider (s.MoreStatements x xs) room wide le ts rest h =
      (h.0, h.1, (h.2.0, statement_wider x room wide le h.0 h.2.0 h.2.1, more_statements_wider xs room wide le h.2.0 rest h.2.2))

  arms_wider : (a : s.Arms) (room wide : ℕ) → room ≤ wide → (ts rest : List Token) → arms room a ts rest → arms wide a ts rest
  arms_wider s.NoArms room wide le ts rest h = h
  arms_wider (s.MoreArms labels x a) room wide le ts rest h =
      let g = h.2 in (h.0, h.1, (g.0, g.1, (g.2.0, statement_wider x room wide le g.0 g.2.0 g.2.1, more_arms_wider a room wide le g.2.0 rest g.2.2)))

  more_arms_wider : (a : s.Arms) (room wide : ℕ) → room ≤ wide → (ts rest : List Token) → more_arms room a ts rest → more_arms wide a ts rest
  more_arms_wider s.NoArms room wide le ts rest h = h
  more_arms_wider (s.MoreArms labels x a) room wide le ts rest h =
      let f = h.2 in let g = f.2 in (
        h.0,
        h.1,
        (
          f.0,
          f.1,
          (g.0, g.1, (g.2.0, statement_wider x room wide le g.0 g.2.0 g.2.1, more_arms_wider a room wide le g.2.0 rest g.2.2)),
        ),
      )

-- ---- declarations

module _ (limit wide : ℕ) (le : limit ≤ wide) where
  body_wider : (b : s.Body) (ts rest : List Token) → body limit b ts rest → body wide b ts rest
  body_wider b ts rest h = opens_wider limit wide _ ts rest le
      (λ r w le g. (g.0, g.1, (g.2.0, statements_wider b.list r w le g.0 g.2.0 g.2.1, g.2.2))) h

  variable_group_wider : (g : s.Variables) (ts rest : List Token) → variable_group limit g ts rest → variable_group wide g ts rest
  variable_group_wider g ts rest h = let h1 = h.2 in let h2 = h1.2 in
      (h.0, h.1, (h1.0, h1.1, (h2.0, type_wider g.of limit wide le h1.0 h2.0 h2.1, h2.2)))

  variables_wider : (gs : List s.Variables) (ts rest : List Token) → variables limit gs ts rest → variables wide gs ts rest
  variables_wider [] ts rest h = h
  variables_wider (g ∷ gs) ts rest h = (h.0, h.1, each_wider (variable_group limit) (variable_group wide) variable_group_wider (g ∷ gs) h.0 rest h.2)

  routine_wider : (r : s.Routine) (ts rest : List Token) → routine limit r ts rest → routine wide r ts rest
  routine_wider r ts rest h =
      let h1 = h.2 in let h2 = h1.2 in let h3 = h2.2 in let h4 = h3.2 in let h5 = h4.2 in let h6 = h5.2 in let h7 = h6.2 in (
        h.0,
        h.1,
        (
          h1.0,
          h1.1,
          (
            h2.0,
            h2.1,
            (
              h3.0,
              h3.1,
              (h4.0, h4.1, (h5.0, h5.1, (h6.0, variables_wider r.variables h5.0 h6.0 h6.1, (h7.0, body_wider r.body h6.0 h7.0 h7.1, h7.2)))),
            ),
          ),
        ),
      )

  system_wider : (y : s.System) (ts rest : List Token) → system limit y ts rest → system wide y ts rest
  system_wider y ts rest h =
      let h1 = h.2 in let h2 = h1.2 in let h3 = h2.2 in let h4 = h3.2 in (
        h.0,
        h.1,
        (
          h1.0,
          h1.1,
          (
            h2.0,
            h2.1,
            (
              h3.0,
              variables_wider y.variables h2.0 h3.0 h3.1,
              (h4.0, each_wider (routine limit) (routine wide) routine_wider y.routines h3.0 h4.0 h4.1, body_wider y.body h4.0 rest h4.2),
            ),
          ),
        ),
      )

  defined_wider : (d : s.Defined) (ts rest : List Token) → definition limit d ts rest → definition wide d ts rest
  defined_wider (s.Written t) ts rest h = type_wider t limit wide le ts rest h
  defined_wider (s.Enumeration values) ts rest h = h
  defined_wider (s.SystemType y) ts rest h = system_wider y ts rest h

  type_definition_wider : (d : s.TypeDefinition) (ts rest : List Token) → type_definition limit d ts rest → type_definition wide d ts rest
  type_definition_wider d ts rest h = let h1 = h.2 in let h2 = h1.2 in (h.0, h.1, (h1.0, h1.1, (h2.0, defined_wider d.defined h1.0 h2.0 h2.1, h2.2)))

  section_wider : (x : s.Section) (ts rest : List Token) → section limit x ts rest → section wide x ts rest
  section_wider (s.Constants []) ts rest h = h
  section_wider (s.Constants (d ∷ ds)) ts rest h = h
  section_wider (s.Types []) ts rest h = h
  section_wider (s.Types (d ∷ ds)) ts rest h = (
    h.0,
    h.1,
    each_wider (type_definition limit) (type_definition wide) type_definition_wider (d ∷ ds) h.0 rest h.2,
  )

  pub text_grammar_wider : (t : s.Tree) (ts rest : List Token) → text limit t ts rest → text wide t ts rest
  text_grammar_wider t ts rest h =
      let h1 = h.2 in let h2 = h1.2 in let h3 = h2.2 in (
        h.0,
        each_wider (section limit) (section wide) section_wider t.sections ts h.0 h.1,
        (
          h1.0,
          variables_wider t.variables h.0 h1.0 h1.1,
          (
            h2.0,
            each_wider (routine limit) (routine wide) routine_wider t.routines h1.0 h2.0 h2.1,
            (h3.0, body_wider t.body h2.0 h3.0 h3.1, h3.2),
          ),
        ),
      )
