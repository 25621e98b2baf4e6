-- Arguments that are moved into their component become its parameters.
use Rattle.std.proofs.Common.{List, Some, [], ap, arith, false, inl, inr, length, refl, subst, suc, sym, zero, ℕ, ℤ, ◌+◌, ◌-◌, ◌<◌, ◌∙◌, ◌∷◌, ◌≡◌, ◌≤◌, ◌⊎◌}
use Rattle.std.proofs.lemmas.Bool.{true≢false}
use Rattle.cp_model.specs.Abstract as a
use Rattle.cp_model.specs.Abstract.{Name, System}
use Rattle.cp_model.specs.Declarations.{Variable, declarations, is_component}
use Rattle.cp_model.specs.Locations.{Location}
use Rattle.cp_model.specs.Stores.{Store, Writes, put_all}
use Rattle.cp_model.specs.Types.{GlobalScope, ResolvedType}
use Rattle.cp_law_typing.specs.Declared.{Distinct}
use Rattle.cp_law_typing.specs.StartValues.{IsIn}
use Rattle.cp_law_typing.specs.Words.{words}
use Rattle.cp_model_program.specs.Terms.{Argument, Right, Value}
use Rattle.cp_model_program.specs.Layout.{member, right, rights}
use Rattle.cp_model_program.specs.Sites.{Site}
use Rattle.cp_model_program.specs.Starts.{block, paste, word}
use Rattle.cp_model_program.specs.StatementsFor.{InitArgumentsFor}
use Rattle.cp_model_program.specs.TermsFor.{Knowns}
use Rattle.cp_model_machine.specs.Means.{CellMeans}
use Rattle.cp_model_machine.specs.Addresses.{Activation, Ground, RightMeans, scope, whole}
use Rattle.cp_model_machine.proofs.Apart.{IsCell, cell_head}
use Rattle.cp_model_machine.proofs.Copying.{copied_outside, copied_word}
use Rattle.cp_model_machine.proofs.Heres.{member_lies}
use Rattle.cp_model_machine.proofs.InitOffsets.{Offset, offset_at, offset_within, right_is, right_of}
use Rattle.cp_model_machine.proofs.InitPassing.{InitBound}
use Rattle.cp_model_machine.proofs.Separate.{cell_inside}
use Rattle.cp_model_machine.proofs.Placing.{Placed}
use Rattle.cp_model_machine.proofs.Settling.{Settled, stored_at}
use Rattle.cp_model_machine.proofs.Stacks.{Stacked}

-- ---- parameters of an init

pub init_count : (site : Site) (K : Knowns) (s : System) (ps : List (Name × Variable)) (es : a.Expressions) (xs : List Argument) (place next low high : ℕ) → InitArgumentsFor site K s ps es xs place next low high → length xs ≡ length ps
init_count site K s [] a.NoExpression [] place next low high h = refl
init_count site K s (p ∷ ps) (a.MoreExpressions e es) (Value to lower upper x ∷ xs) place next low high h = ap suc (init_count site K s ps es xs h.2 next h.3 high h.9)
init_count site K s (p ∷ ps) (a.MoreExpressions (a.Use (a.Plain x)) es) (Right to t ∷ xs) place next low high h = ap suc (init_count site K s ps es xs place next low high h.8)
init_count site K s _ _ _ place next low high h = absurd h

-- A parameter that isn't a right is a simple value.
pub init_values : (site : Site) (K : Knowns) (s : System) (ps : List (Name × Variable)) (es : a.Expressions) (xs : List Argument) (place next low high : ℕ) → InitArgumentsFor site K s ps es xs place next low high
    → (g : GlobalScope) (p : Name × Variable) → IsIn p ps → is_component p.1.type ≡ false → (words g p.1.type ≡ 1) × IsCell p.1.type
init_values site K s [] a.NoExpression [] place next low high h g p i data' = absurd i
init_values site K s (q ∷ ps) (a.MoreExpressions e es) (Value to lower upper x ∷ xs) place next low high h g p (inr i) data' = init_values site K s ps es xs h.2 next h.3 high h.9 g p i data'
init_values site K s (q ∷ ps) (a.MoreExpressions e es) (Value to lower upper x ∷ xs) place next low high h g p (inl i) data' =
    subst (λ (t : ResolvedType). (words g t ≡ 1) × IsCell t) (sym (ap (λ (z : Name × Variable). z.1.type) i ∙ h.5)) (refl, tt)
init_values site K s (q ∷ ps) (a.MoreExpressions (a.Use (a.Plain x)) es) (Right to t ∷ xs) place next low high h g p (inr i) data' = init_values site K s ps es xs place next low high h.8 g p i data'
init_values site K s (q ∷ ps) (a.MoreExpressions (a.Use (a.Plain x)) es) (Right to t ∷ xs) place next low high h g p (inl i) data' =
    absurd (true≢false (sym (ap is_component (ap (λ (z : Name × Variable). z.1.type) i ∙ h.4)) ∙ data'))
init_values site K s _ _ _ place next low high h g p i data' = absurd h

-- Each parameter has its word.
pub init_offsets : (g : GlobalScope) (site : Site) (K : Knowns) (s : System) → site.env.globals ≡ g → (distinct : Distinct (declarations g s.parameters))
    → (one : (p : Name × Variable) → IsIn p (declarations g s.parameters) → is_component p.1.type ≡ false → (words g p.1.type ≡ 1) × IsCell p.1.type)
    → (ps : List (Name × Variable)) (es : a.Expressions) (xs : List Argument) (place next low high : ℕ) → InitArgumentsFor site K s ps es xs place next low high
    → ((p : Name × Variable) → IsIn p ps → IsIn p (declarations g s.parameters)) → (p : Name × Variable) → IsIn p ps → (k : ℕ) × Offset g s p k
init_offsets g site K s same distinct one [] a.NoExpression [] place next low high h all p i = absurd i
init_offsets g site K s same distinct one (q ∷ ps) (a.MoreExpressions e es) (Value to lower upper x ∷ xs) place next low high h all p (inr i) =
    init_offsets g site K s same distinct one ps es xs h.2 next h.3 high h.9 (λ z j. all z (inr j)) p i
init_offsets g site K s same distinct one (q ∷ ps) (a.MoreExpressions e es) (Value to lower upper x ∷ xs) place next low high h all p (inl i) =
    (to, subst (λ z. Offset g s z to) (sym i) (inr (ap is_component h.5, ap (λ y. member y s q.0) (sym same) ∙ h.4, subst IsCell (sym h.5) tt)))
init_offsets g site K s same distinct one (q ∷ ps) (a.MoreExpressions (a.Use (a.Plain x)) es) (Right to t ∷ xs) place next low high h all p (inr i) =
    init_offsets g site K s same distinct one ps es xs place next low high h.8 (λ z j. all z (inr j)) p i
init_offsets g site K s same distinct one (q ∷ ps) (a.MoreExpressions (a.Use (a.Plain x)) es) (Right to t ∷ xs) place next low high h all p (inl i) =
    let found : right g s q.0 ≡ Some (to, h.2) = ap (λ y. right y s q.0) (sym same) ∙ h.3 in
    (to, subst (λ z. Offset g s z to) (sym i) (inl (ap is_component h.4, found ∙ ap (λ z. Some (to, z)) (right_of g s distinct one q to h.2 (all q (inl refl)) found))))
init_offsets g site K s same distinct one _ _ _ place next low high h all p i = absurd h

-- ---- moved into the component

module _ (G : Ground) (xs : List Activation) (top : ℕ) (stack : Stacked G top xs) (at : Location) (c from : ℕ) (s : System) (L : Placed G xs top at c s) (distinct : Distinct (declarations (scope G) s.parameters))
    (one : (p : Name × Variable) → IsIn p (declarations (scope G) s.parameters) → is_component p.1.type ≡ false → (words (scope G) p.1.type ≡ 1) × IsCell p.1.type) where
  -- The words of the component's parameters are among those in reach.
  pub component_below : c + length (declarations (scope G) s.parameters) < whole G
  component_below = by (length (declarations (scope G) s.parameters)) refl
    where
      inner : (k : ℕ) (p : Name × Variable) → Offset (scope G) s p k → c + k < whole G
      inner k p (inl h) = L.inside k (omega (arith, (right_is 1 (rights (scope G) s) p.0 k p.1 h.1).1))
      inner k p (inr h) =
          let below : c + k + 0 < whole G = cell_inside G xs top stack (stored_at at p.0) (c + k) p.1.type 0 L.own (cell_head (scope G) p.1.type h.2) (member_lies G xs at s c p.0 k p.1.type L.there h.1) in
          omega (arith, below)

      by : (k : ℕ) → length (declarations (scope G) s.parameters) ≡ k → c + k < whole G
      by zero e =
          let below : c + 0 < whole G = L.inside 0 (omega arith) in
          omega (arith, below)
      by (suc k) e = let o = offset_at (scope G) s distinct one (suc k) (omega arith) (omega (arith, e)) in inner (suc k) o.0 o.2

  pub init_settled : (store : Store) (old us : List ℤ) (ws : Writes) → InitBound G s at c from distinct one (declarations (scope G) s.parameters) ws old us → from ≡ top
      → from + (1 + length (declarations (scope G) s.parameters)) ≤ G.own → length us ≡ whole G
      → Settled G top store (put_all ws store) old (paste (c + 1) (block us (from + 1) (length (declarations (scope G) s.parameters))) us) at c s
  init_settled store old us ws B start passes count = record {
    values = λ p k i component lying.
        subst (CellMeans p.1.type (put_all ws store (stored_at at p.0))) (sym (moved k (offset_within (scope G) s distinct one p k i (inr (component, lying, (one p i component).1)))))
        (B.values p k store i component lying);
    rights = λ p k i component lying.
        subst (RightMeans G p.1.type (put_all ws store (stored_at at p.0)) (c + k)) (sym (moved k (offset_within (scope G) s distinct one p k i (inl (component, lying)))))
        (B.rights p k store i component lying);
    given = λ p k i component lying. B.given p k store i component lying;
    outside = λ i below apart.
        copied_outside us us (c + 1) (from + 1) (length (declarations (scope G) s.parameters)) i apart
        ∙ B.outside i (λ p k j o e. elsewhere i k below e (offset_within (scope G) s distinct one p k j o));
    unwritten = λ l none. B.unwritten l store none;
  }
    where
      elsewhere : (i k : ℕ) → (i < top) ⊎ (G.own ≤ i) → i ≡ from + k → (1 ≤ k) × (k ≤ length (declarations (scope G) s.parameters)) → ⊥
      elsewhere i k (inl q) e inside = omega (arith, q, e, start)
      elsewhere i k (inr q) e inside = omega (arith, q, e, passes, inside.1)

      moved : (k : ℕ) → (1 ≤ k) × (k ≤ length (declarations (scope G) s.parameters)) → word (paste (c + 1) (block us (from + 1) (length (declarations (scope G) s.parameters))) us) (c + k) ≡ word us (from + k)
      moved k h =
          ap (word (paste (c + 1) (block us (from + 1) (length (declarations (scope G) s.parameters))) us)) (there k h.0)
          ∙ (copied_word us us (c + 1) (from + 1) (length (declarations (scope G) s.parameters)) (k - 1) (omega (arith, h)) (omega (arith, component_below, count))
          ∙ ap (word us) (back k h.0))
        where
          there : (k : ℕ) → 1 ≤ k → c + k ≡ c + 1 + (k - 1)
          there k h = omega (arith, h)

          back : (k : ℕ) → 1 ≤ k → from + 1 + (k - 1) ≡ from + k
          back k h = omega (arith, h)
