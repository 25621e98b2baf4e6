use Rattle.std.proofs.Common.{◌≡◌, ◌-◌, ℕ, suc, List, [], ◌∷◌, ap, length, map, pos, refl, subst}
use Rattle.std.proofs.lemmas.Result.{on_ok_weaker}
use Rattle.cp_model.specs.Abstract as a
use Rattle.cp_model.specs.Abstract.{Name}
use Rattle.cp_model.specs.Declarations.{define}
use Rattle.cp_model.specs.Erase as erase
use Rattle.cp_model.specs.Types.{GlobalScope, ResolvedType, Simple}
use Rattle.cp_model.specs.declared.tree.Identifier.{Identifier}
use Rattle.cp_compile_symbols.specs.Outer.{OuterRepresents, with_type, with_values}
use Rattle.cp_compile_symbols.proofs.outer.Outer.define_enumeration.Goals as goal

same_length : (xs : List Identifier) → length (map erase.name xs) ≡ length xs
same_length [] = refl
same_length (x ∷ xs) = ap suc (same_length xs)

enumeration_is : (g : GlobalScope) (x y : Name) (xs : List Identifier) (last : ℕ) (t : ResolvedType) → y ≡ x → last ≡ length xs - 1
    → t ≡ Simple (a.Enumeration y last) (pos 0) (pos last) (pos 0)
    → with_values (a.Enumeration y last) 0 xs (with_type y (λ h. t) g) ≡ define g (a.EnumDef x (map erase.name xs))
enumeration_is g x y xs last t named counted is = rw (is, named, counted, same_length xs) refl

pub returns : goal.returns
returns c =
    let x = c.args.identifier.now.name in
    let y = c.as_bytes-name.result.now in
    let last = c.saturating_sub-last.result in
    on_ok_weaker c.add_values.result
    (λ defines g scope.
    subst (OuterRepresents c.add_values.new.self)
    (enumeration_is g x y c.args.values.now last _ c.as_bytes-name.ensures c.saturating_sub-last.ensures c.in_ok-enumeration.ensures)
    (defines _ (c.in_ok-add_base.ensures g scope)))
    c.add_values.ensures
