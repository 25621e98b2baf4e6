-- Judging what surrounds parts that were judged before: the further violations, and the meaning of
-- the whole or the first violation.
use Rattle.std.specs.Prelude.{◌≡◌, Bool, true, false, ◌++◌, ◌∷◌, ◌||◌, [], ℕ, List, Result, Ok, Err, length, not}
use Rattle.cp_model.specs.Syntax as s
use Rattle.cp_model.specs.declared.rules.Position.{Position}
use Rattle.cp_model.specs.declared.rules.Rule.TheVariants.{C2, C8}
use Rattle.cp_model.specs.declared.rules.TypeRow.{TypeRow}
use Rattle.cp_model.specs.declared.rules.Violation.{Violation}
use Rattle.cp_model.specs.RulesJudged.{Judged, Violations, least, guard, unless, violations_of}
use Rattle.cp_model.specs.RulesEnvironment.{Environment, is_simple}
use Rattle.cp_model.specs.RulesTypes as ty
use Rattle.cp_rules.specs.Checking.{State, first_of, reporting}

pub record Outer (A : Type 0) : Type 0 where
  pub violations : Violations
  pub of : Result A Violation

abbrev pub ReportsOuter : {A : Type 0} → State → State → Result A Violation → Outer A → Type 0
ReportsOuter old new answer o = (new ≡ reporting old o.violations) × (answer ≡ o.of)

abbrev pub outer_of : {A : Type 0} → Judged A → Outer A
outer_of j = record { violations = violations_of j; of = first_of j }

-- Nothing more is judged around what is broken.
abbrev pub broken_before : {A : Type 0} → Violation → Outer A
broken_before v = record { violations = []; of = Err v }

-- ---- around a part

-- If the part is broken, these violations are reported. Otherwise it is judged with `k`.
abbrev pub around : {A B : Type 0} → Violations → (A → Judged B) → Result A Violation → Outer B
around vs k (Ok x) = outer_of (k x)
around [] k (Err v) = broken_before v
around (w ∷ ws) k (Err v) = record { violations = w ∷ ws; of = Err w }

-- Two parts that are judged together with `k`, unless one of them is broken.
abbrev pub around_both : {A B C : Type 0} → Result A Violation → Result B Violation → (A → B → Judged C) → Outer C
around_both (Ok x) (Ok y) k = outer_of (k x y)
around_both (Ok x) (Err w) k = broken_before w
around_both (Err v) b k = broken_before v

-- ---- written types

abbrev pub is_written_structure : s.TypeExpression → Bool
is_written_structure (s.Array at is e) = true
is_written_structure (s.Record at gs) = true
is_written_structure t = false

abbrev pub misplaces_queues : Environment → Position → s.TypeExpression → Bool
misplaces_queues env p (s.Array at is e) = not (ty.allows_queues p || not (ty.holds_queues env e))
misplaces_queues env p t = false

-- C2: an array or a record where an index type is wanted.
abbrev pub written_index : s.TypeExpression → Violations
written_index t = unless (not (is_written_structure t)) C2 (ty.type_at t)

abbrev pub index_type : Environment → s.TypeExpression → Result ℕ Violation → Outer ℕ
index_type env t of = around (written_index t) (λ n. guard (is_simple env n) C2 (ty.type_at t) n) of

-- C8: an array with queues where none is allowed.
abbrev pub written_queues : Environment → Position → s.TypeExpression → Violations
written_queues env p t = unless (not (misplaces_queues env p t)) C8 (ty.type_at t)

abbrev pub judge_in_position : Environment → Position → s.TypeExpression → Result ℕ Violation → Outer ℕ
judge_in_position env p t of = around (written_queues env p t) (ty.c6_c8_placed env p (ty.type_at t)) of

-- ---- rows

-- What was made of a row: the environment with it, the violations, and the number of the type.
pub record Known : Type 0 where
  pub env : Environment
  pub violations : Violations
  pub of : Result ℕ Violation

abbrev pub make_known : Environment → Violations → Result TypeRow Violation → Known
make_known env vs (Ok r) = record { env = ty.add_type env r; violations = vs; of = Ok (length env.types) }
make_known env vs (Err v) = record { env = env; violations = vs; of = Err v }

abbrev pub Knows : State → State → Result ℕ Violation → Known → Type 0
Knows old new answer k = (new ≡ record { env = k.env; diagnostics = least old.diagnostics k.violations }) × (answer ≡ k.of)

-- An array type of these index and element types.
abbrev pub array : Environment → ℕ → Result ℕ Violation → Result ℕ Violation → Known
array env at i e =
    let o = around_both i e (λ a b. ty.c13_type at (ty.array_row env a b)) in
    make_known env o.violations o.of

-- An array of arrays, one for each index type.
abbrev pub arrays : Environment → ℕ → List (Result ℕ Violation) → Result ℕ Violation → Known
arrays env at [] e = record { env = env; violations = []; of = e }
arrays env at (i ∷ is) e =
    let inner = arrays env at is e in
    let whole = array inner.env at i inner.of in
    record { env = whole.env; violations = inner.violations ++ whole.violations; of = whole.of }
