-- Names and constants are read steadily.
use Rattle.std.proofs.Common.{◌≡◌, ℕ, ◌∷◌, Option, Some, refl}
use Rattle.cp_model.specs.Levels.{identifier_levels, names_levels, constant_levels, constants_levels}
use Rattle.cp_model.specs.Tokens.{Kind}
use Rattle.cp_model.specs.Tokens as kind
use Rattle.cp_model.specs.declared.token.Symbol.TheVariants as symbol
use Rattle.cp_model.specs.declared.tree.Constant.TheVariants as written
use Rattle.cp_model_grammar.specs.Names.{identifier_by, identifier_of, names_of, negative_by, constant_by, constant_of, constants_of}
use Rattle.cp_model_grammar.proofs.Steady.{Cut, Mode, Anywhere, start_of, Steady, Has, then, finish, refuse_steady, take_steady, kind_steady}
use Rattle.cp_model_grammar.proofs.SteadyLists.{separated_steady}

module _ {c : Cut} {m : Mode} where
  identifier_by_steady : (k : Option Kind) → Steady c m (start_of k) (Has identifier_levels) (identifier_by k) (identifier_by k)
  identifier_by_steady (Some (kind.Name name)) = finish (λ at. record { name = name; at = at }) (take_steady 0) (λ at. refl)
  identifier_by_steady _ = refuse_steady

  pub identifier_steady : Steady c m Anywhere (Has identifier_levels) identifier_of identifier_of
  unfolding identifier_of
  identifier_steady = kind_steady identifier_by_steady

  pub names_steady : Steady c m Anywhere (Has names_levels) names_of names_of
  unfolding names_of
  names_steady = separated_steady identifier_levels symbol.Comma identifier_steady

  negative_steady : (at : ℕ) (k : Option Kind) → Steady c m (start_of k) (λ y l. (0 ∷ l) ≡ constant_levels y) (negative_by at k) (negative_by at k)
  negative_steady at (Some (kind.Number value)) = finish (λ _. written.Negative at value) (take_steady 0) (λ _. refl)
  negative_steady at _ = refuse_steady

  constant_by_steady : (k : Option Kind) → Steady c m (start_of k) (Has constant_levels) (constant_by k) (constant_by k)
  constant_by_steady (Some (kind.Number value)) = finish (λ at. written.Number at value) (take_steady 0) (λ at. refl)
  constant_by_steady (Some (kind.Character ordinal)) = finish (λ at. written.Character at ordinal) (take_steady 0) (λ at. refl)
  constant_by_steady (Some (kind.Name name)) = finish (λ at. written.Named (record { name = name; at = at })) (take_steady 0) (λ at. refl)
  constant_by_steady (Some (kind.Symbol symbol.Minus)) = then (take_steady 0) (λ at. kind_steady (negative_steady at))
  constant_by_steady _ = refuse_steady

  pub constant_steady : Steady c m Anywhere (Has constant_levels) constant_of constant_of
  unfolding constant_of
  constant_steady = kind_steady constant_by_steady

  pub constants_steady : Steady c m Anywhere (Has constants_levels) constants_of constants_of
  unfolding constants_of
  constants_steady = separated_steady constant_levels symbol.Comma constant_steady
