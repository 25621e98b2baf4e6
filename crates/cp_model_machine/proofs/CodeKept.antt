-- Code that represents a statement still represents it if as much is known of its temps.
use Rattle.std.proofs.Common.{ℕ, List, [], ◌∷◌, arith}
use Rattle.cp_model.specs.Abstract as a
use Rattle.cp_model.specs.Abstract.{Char, Name, System}
use Rattle.cp_model.specs.Components.{Component}
use Rattle.cp_model.specs.Declarations as declared
use Rattle.cp_model.specs.Types.{Queue, Simple}
use Rattle.cp_model_program.specs.Terms.{Argument, Right, Value}
use Rattle.cp_model_program.specs.Programs as op
use Rattle.cp_model_program.specs.Programs.{Operation}
use Rattle.cp_model_program.specs.Sites.{Site, first_parameter, parameters}
use Rattle.cp_model_program.specs.TermsFor.{Knowns, nothing_known}
use Rattle.cp_model_program.specs.StatementsFor.{AssignsBy, CodeFor, InitArgumentsFor, InitsBy, PerformsBy}
use Rattle.cp_model_machine.proofs.CallsKept.{Keeps, arguments_kept, narrowed, place_expression_kept, term_kept}

-- If nothing is known, nothing needs to be kept.
pub none_kept : (L : Knowns) (low high : ℕ) → Keeps nothing_known L low high
none_kept L low high s m p q h = absurd h

module _ (site : Site) (K L : Knowns) where
  assigns_kept : (d : a.Designator) (e : a.Expression) (x : Operation) (place last next low : ℕ) → Keeps K L low site.unit.temps
      → AssignsBy site K d e x place last next low → AssignsBy site L d e x place last next low
  assigns_kept d e (op.Set to lower upper value n) place last next low k h = (
    h.0,
    h.1,
    h.2,
    h.3,
    h.4,
    h.5,
    h.6,
    h.7,
    place_expression_kept site K L d to (Simple h.0 lower upper h.2) place h.3 low h.4 (narrowed K L low site.unit.temps low h.4 (omega arith) h.7 k) h.8,
    term_kept site K L e value h.1 h.3 last h.4 site.unit.temps (narrowed K L low site.unit.temps h.4 site.unit.temps h.6 (omega arith) k) h.9,
  )
  assigns_kept (a.Plain x) e (op.SetResult lower upper value n) place last next low k h =
      (h.0, h.1, h.2, term_kept site K L e value h.0 place last low site.unit.temps k h.3)
  assigns_kept d (a.Use e) (op.CopyWords to from size n) place last next low k h = (
    h.0,
    h.1,
    h.2,
    h.3,
    h.4,
    h.5,
    h.6,
    h.7,
    h.8,
    h.9,
    place_expression_kept site K L d to h.0 place h.1 low h.2 (narrowed K L low site.unit.temps low h.2 (omega arith) h.5 k) h.10,
    place_expression_kept site K L e from h.0 h.1 last h.2 site.unit.temps (narrowed K L low site.unit.temps h.2 site.unit.temps h.4 (omega arith) k) h.11,
  )
  assigns_kept d e _ place last next low k h = absurd h

  performs_kept : (d : a.Designator) (es : a.Expressions) (x : Operation) (place last next low : ℕ) → Keeps K L low site.unit.temps
      → PerformsBy site K d es x place last next low → PerformsBy site L d es x place last next low
  performs_kept d es (op.Procedure call n) place last next low k h = (
    h.0,
    h.1,
    h.2,
    h.3,
    h.4,
    h.5,
    arguments_kept site K L (parameters site h.0) es call.arguments (first_parameter h.0) place last low h.1
        (narrowed K L low site.unit.temps low h.1 (omega arith) h.5 k) h.6,
  )
  performs_kept (a.Plain x) (a.MoreExpressions e a.NoExpression) (op.Display value as_byte n) place last next low k h =
      (h.0, h.1, h.2, h.3, term_kept site K L e value h.0 place last low site.unit.temps k h.4)
  performs_kept (a.Plain x) (a.MoreExpressions (a.Use d) a.NoExpression) (op.Accept to lower upper n) place last next low k h =
      (h.0, h.1, h.2, h.3, place_expression_kept site K L d to (Simple Char lower upper h.0) place last low site.unit.temps k h.4)
  performs_kept (a.Plain x) (a.MoreExpressions (a.Use d) a.NoExpression) (op.Delay queue n) place last next low k h =
      (h.0, h.1, h.2, place_expression_kept site K L d queue Queue place last low site.unit.temps k h.3)
  performs_kept (a.Plain x) (a.MoreExpressions (a.Use d) a.NoExpression) (op.Continue queue function) place last next low k h =
      (h.0, h.1, place_expression_kept site K L d queue Queue place last low site.unit.temps k h.2, h.3)
  performs_kept (a.Plain x) a.NoExpression (op.Wait n) place last next low k h = h
  performs_kept d es _ place last next low k h = absurd h

  pub init_kept : (s : System) (ps : List (Name × declared.Variable)) (es : a.Expressions) (xs : List Argument) (place next low high : ℕ) → Keeps K L low high
      → InitArgumentsFor site K s ps es xs place next low high → InitArgumentsFor site L s ps es xs place next low high
  init_kept s [] a.NoExpression [] place next low high k h = h
  init_kept s (p ∷ ps) (a.MoreExpressions e es) (Value to lower upper c ∷ xs) place next low high k h = (
    h.0,
    h.1,
    h.2,
    h.3,
    h.4,
    h.5,
    h.6,
    h.7,
    term_kept site K L e c h.0 place h.2 low h.3 (narrowed K L low high low h.3 (omega arith) h.7 k) h.8,
    init_kept s ps es xs h.2 next h.3 high (narrowed K L low high h.3 high h.6 (omega arith) k) h.9,
  )
  init_kept s (p ∷ ps) (a.MoreExpressions (a.Use (a.Plain x)) es) (Right to t ∷ xs) place next low high k h =
      (h.0, h.1, h.2, h.3, h.4, h.5, h.6, h.7, init_kept s ps es xs place next low high k h.8)
  init_kept s _ _ _ place next low high k h = absurd h

  inits_kept : (n : Component) (es : a.Expressions) (x : Operation) (place last next low : ℕ) → Keeps K L low site.unit.temps
      → InitsBy site K n es x place last next low → InitsBy site L n es x place last next low
  inits_kept n es (op.InitClass call m) place last next low k h =
      (h.0, h.1, h.2, init_kept n.system _ es _ place last low site.unit.temps k h.3)
  inits_kept n es (op.InitMonitor call m) place last next low k h =
      (h.0, h.1, h.2, init_kept n.system _ es _ place last low site.unit.temps k h.3)
  inits_kept n es (op.InitProcess r xs count m) place last next low k h =
      (h.0, h.1, h.2, h.3, h.4, init_kept n.system _ es _ place last low site.unit.temps k h.5)
  inits_kept n es _ place last next low k h = absurd h

  pub code_kept : (s : a.Statement) (place next low : ℕ) → Keeps K L low site.unit.temps → CodeFor site K s place next low → CodeFor site L s place next low
  code_kept a.Nothing place next low k h = h
  code_kept (a.Seq s t) place next low k h = h
  code_kept (a.Assign d e) place next low k h = (h.0, h.1, h.2, assigns_kept d e h.1 place h.0 next low k h.3)
  code_kept (a.Perform d es) place next low k h = (h.0, h.1, h.2, performs_kept d es h.1 place h.0 next low k h.3)
  code_kept (a.If e s t) place next low k h =
      (h.0, h.1, h.2, h.3, h.4, h.5, term_kept site K L e h.1 h.2 place h.0 low site.unit.temps k h.6, h.7, h.8)
  code_kept (a.Case e arms) place next low k h =
      (h.0, h.1, h.2, h.3, h.4, term_kept site K L e h.1 h.2 place h.0 low site.unit.temps k h.5, h.6)
  code_kept (a.While e s) place next low k h = h
  code_kept (a.Repeat s e) place next low k h = h
  code_kept (a.For x down e f s) place next low k h = (
    h.0,
    h.1,
    h.2,
    h.3,
    h.4,
    h.5,
    h.6,
    h.7,
    h.8,
    h.9,
    h.10,
    h.11,
    h.12,
    term_kept site K L e h.2 h.4 place h.5 low h.6 (narrowed K L low site.unit.temps low h.6 (omega arith) h.12 k) h.13,
    term_kept site K L f h.3 h.4 h.5 h.0 h.6 site.unit.temps (narrowed K L low site.unit.temps h.6 site.unit.temps h.11 (omega arith) k) h.14,
    h.15,
  )
  code_kept (a.Cycle s) place next low k h = h
  code_kept (a.Init x es) place next low k h = (h.0, h.1, h.2, h.3, h.4, inits_kept h.2 es h.1 place h.0 next low k h.5)
