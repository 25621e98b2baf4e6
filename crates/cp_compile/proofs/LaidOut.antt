-- Components are laid out one after another.
use Rattle.std.proofs.Common.{◌≡◌, ◌∷◌, ◌++◌, ◌+◌, ◌∙◌, ℕ, List, [], ap, append_assoc, arith, map, subst, sym}
use Rattle.std.proofs.lemmas.List.{append-nil, map-append}
use Rattle.cp_model.specs.Abstract.{System}
use Rattle.cp_model.specs.Types.{GlobalScope}
use Rattle.cp_model_program.specs.Compile as code
use Rattle.cp_model_program.specs.Compile.{monitors_at, processes_at, sum_words, waiting_words}
use Rattle.cp_model_program.specs.Layout.{component_words}
use Rattle.cp_model_program.specs.Plans.{plan_of_component}
use Rattle.cp_model_program.specs.Programs as program
use Rattle.cp_program.specs.View as view
use Rattle.cp_program.specs.declared.program.Monitor.{Monitor}
use Rattle.cp_model_program.specs.Programs.{StartPlan}
use Rattle.cp_program.specs.declared.program.Process.{Process}
use Rattle.cp_compile.specs.declared.components.Owner.{Owner}
use Rattle.cp_compile.specs.CompiledComponents.{AreOwners, OwnerIs}

-- The components laid out so far, and the remaining ones, which begin at the word `at`.
pub record PartlyLaid {A B : Type 0} (plans : List StartPlan) (g : GlobalScope) (shown : A → B) (from : ℕ → List code.Owner → List B) (f : System → ℕ)
    (left : List Owner) (laid : List A) (at start : ℕ) (xs : List code.Owner) : Type 0 where
  pub others : List code.Owner
  pub are : AreOwners plans g left others
  pub rest : map shown laid ++ from at others ≡ from start xs
  pub end : at + sum_words f others ≡ start + sum_words f xs

-- The component `x` is laid out as `z` at the word `at`, and the others are after it.
pub record IsFirst {A B : Type 0} (shown : A → B) (from : ℕ → List code.Owner → List B) (f : System → ℕ) (z : A) (at next : ℕ) (x : code.Owner) : Type 0 where
  pub laid : (others : List code.Owner) → from at (x ∷ others) ≡ shown z ∷ from next others
  pub next_is : next ≡ at + f x.system

pub one_laid : {A B : Type 0} (plans : List StartPlan) (g : GlobalScope) (shown : A → B) (from : ℕ → List code.Owner → List B) (f : System → ℕ)
    (o : Owner) (left : List Owner) (laid : List A) (z : A) (at next start : ℕ) (xs : List code.Owner)
    → PartlyLaid plans g shown from f (o ∷ left) laid at start xs → ((x : code.Owner) → OwnerIs plans g o x → IsFirst shown from f z at next x)
    → PartlyLaid plans g shown from f left (laid ++ z ∷ []) next start xs
one_laid plans g shown from f o left laid z at next start xs some one = go some.others some.are some.rest some.end
  where
    go : (others : List code.Owner) → AreOwners plans g (o ∷ left) others → map shown laid ++ from at others ≡ from start xs
        → at + sum_words f others ≡ start + sum_words f xs → PartlyLaid plans g shown from f left (laid ++ z ∷ []) next start xs
    go [] are rest end = absurd are
    go (x ∷ ys) are rest end =
        let first = one x are.0 in
        record {
          others = ys;
          are = are.1;
          rest =
              ap (λ zs. zs ++ from next ys) (map-append shown laid (z ∷ [])) ∙ append_assoc (map shown laid) (shown z ∷ []) (from next ys)
              ∙ ap (λ zs. map shown laid ++ zs) (sym (first.laid ys)) ∙ rest;
          end = omega (arith, end, first.next_is);
        }

-- Once no component remains, all are laid out.
pub record AllLaid {A B : Type 0} (shown : A → B) (from : ℕ → List code.Owner → List B) (f : System → ℕ) (laid : List A) (at start : ℕ) (xs : List code.Owner)
    : Type 0 where
  pub all : map shown laid ≡ from start xs
  pub end_is : at ≡ start + sum_words f xs

pub all_laid : {A B : Type 0} (plans : List StartPlan) (g : GlobalScope) (shown : A → B) (from : ℕ → List code.Owner → List B) (f : System → ℕ)
    (left : List Owner) (laid : List A) (at start : ℕ) (xs : List code.Owner) → ((n : ℕ) → from n [] ≡ []) → left ≡ []
    → PartlyLaid plans g shown from f left laid at start xs → AllLaid shown from f laid at start xs
all_laid plans g shown from f left laid at start xs nothing none some =
    go some.others (subst (λ os. AreOwners plans g os some.others) none some.are) some.rest some.end
  where
    go : (others : List code.Owner) → AreOwners plans g [] others → map shown laid ++ from at others ≡ from start xs
        → at + sum_words f others ≡ start + sum_words f xs → AllLaid shown from f laid at start xs
    go [] are rest end = record {
      all = sym (append-nil (map shown laid)) ∙ ap (λ zs. map shown laid ++ zs) (sym (nothing at)) ∙ rest;
      end_is = omega (arith, end);
    }
    go (x ∷ ys) are rest end = absurd are

-- ---- One component

pub monitor_first : (plans : List StartPlan) (g : GlobalScope) (o : Owner) (x : code.Owner) (at next : ℕ) → OwnerIs plans g o x → next ≡ at + o.words
    → IsFirst (view.monitor plans) (monitors_at g) (component_words g) (record { start = at; body = o.body; words = o.words; plan = o.plan }) at next x
monitor_first plans g o x at next is after =
    let z : Monitor = record { start = at; body = o.body; words = o.words; plan = o.plan } in
    let here : next ≡ at + component_words g x.system = after ∙ ap (λ n. at + n) is.words in
    let same : view.monitor plans z ≡ record { start = at; body = x.body; words = component_words g x.system; starts = plan_of_component g x.system } =
    ap (λ n. record { start = at; body = n; words = o.words; starts = view.plan_at plans o.plan }) is.body
    ∙ ap (λ n. record { start = at; body = x.body; words = n; starts = view.plan_at plans o.plan }) is.words
    ∙ ap (λ p. record { start = at; body = x.body; words = component_words g x.system; starts = p }) is.plan in
    record {
      laid = λ others.
          ap (λ m. m ∷ monitors_at g (at + component_words g x.system) others) (sym same) ∙ ap (λ n. view.monitor plans z ∷ monitors_at g n others) (sym here);
      next_is = here;
    }

pub process_first : (plans : List StartPlan) (g : GlobalScope) (o : Owner) (x : code.Owner) (at next : ℕ) → OwnerIs plans g o x → next ≡ at + o.waiting
    → IsFirst (view.process plans) (processes_at g) (waiting_words g)
    (record { body = o.body; words = o.words; parameters = at; waiting = o.waiting; plan = o.plan }) at next x
process_first plans g o x at next is after =
    let z : Process = record { body = o.body; words = o.words; parameters = at; waiting = o.waiting; plan = o.plan } in
    let here : next ≡ at + waiting_words g x.system = after ∙ ap (λ n. at + n) is.waiting in
    let p : program.StartPlan = view.plan_at plans o.plan in
    let same : view.process plans z
    ≡ record { body = x.body; words = component_words g x.system; parameters = at; waiting = waiting_words g x.system; starts = plan_of_component g x.system } =
    ap (λ n. record { body = n; words = o.words; parameters = at; waiting = o.waiting; starts = p }) is.body
    ∙ ap (λ n. record { body = x.body; words = n; parameters = at; waiting = o.waiting; starts = p }) is.words
    ∙ ap (λ n. record { body = x.body; words = component_words g x.system; parameters = at; waiting = n; starts = p }) is.waiting
    ∙ ap (λ s. record { body = x.body; words = component_words g x.system; parameters = at; waiting = waiting_words g x.system; starts = s }) is.plan in
    record {
      laid = λ others.
          ap (λ m. m ∷ processes_at g (at + waiting_words g x.system) others) (sym same) ∙ ap (λ n. view.process plans z ∷ processes_at g n others) (sym here);
      next_is = here;
    }
