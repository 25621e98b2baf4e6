-- Operations after others, and loops.
use Rattle.std.proofs.Common.{◌≡◌, ◌∷◌, ◌++◌, ◌∙◌, ◌+◌, ℕ, suc, List, [], ap, append_assoc, arith, length, length-append, refl, subst, sym}
use Rattle.std.proofs.lemmas.List.{append-nil}
use Rattle.cp_model.specs.Abstract as a
use Rattle.cp_model_program.specs.CodedStatements.{Emitted, behind, calls_at, emitted, with_calls}
use Rattle.cp_model_program.specs.CodedTerms.{CodedCall, CodedTerm}
use Rattle.cp_model_program.specs.Programs as op
use Rattle.cp_model_program.specs.Scopes.{Scope}
use Rattle.cp_compile_emit.specs.Emission.{Emits, IsEmitted, changed_at, operations_of, place_of}
use Rattle.cp_compile_emit.specs.declared.emitter.Emitter.{Emitter}
use Rattle.cp_compile_emit.proofs.Changing.{changed_between}
use Rattle.cp_compile_emit.proofs.Continuing.{continues_itself, continues_more}
use Rattle.cp_compile_emit.proofs.Loops.{loop_closed, place_of_body}
use Rattle.cp_compile_lower.specs.Statements.{Enters}

pub place_after : (old new : Emitter) (os : List op.Operation) → Emits old new os → place_of new ≡ place_of old + length os
place_after old new os emits = ap length emits.operations_are ∙ length-append (operations_of old) os

pub emits_nothing : (old : Emitter) → Emits old old []
emits_nothing old = record {
  operations_are = sym (append-nil (operations_of old));
  origins_continue = continues_itself old.origins.items;
  units_are = refl;
  first_is = refl;
  words_are = refl;
}

pub emits_both : (old middle new : Emitter) (os ps : List op.Operation) → Emits old middle os → Emits middle new ps → Emits old new (os ++ ps)
emits_both old middle new os ps first second = record {
  operations_are =
      second.operations_are ∙ (ap (λ qs. qs ++ ps) first.operations_are ∙ append_assoc (operations_of old) os ps);
  origins_continue = continues_more old.origins.items middle.origins.items new.origins.items first.origins_continue second.origins_continue;
  units_are = second.units_are ∙ first.units_are;
  first_is = second.first_is ∙ first.first_is;
  words_are = second.words_are ∙ first.words_are;
}

pub nothing_entered : (old : Emitter) (next : ℕ) → Enters old old next (record { operations = []; entry = next })
nothing_entered old next = record { entry = refl; emits = emits_nothing old }

-- Some operations, and then more after them.
pub then_entered : (old middle new : Emitter) (os : List op.Operation) (place : ℕ) (f : ℕ → Emitted) → Emits old middle os
    → Enters middle new place (f (place_of middle)) → Enters old new place (behind os (f (place_of old + length os)))
then_entered old middle new os place f first second =
    let there = subst (λ at. Enters middle new place (f at)) (place_after old middle os first) second in
    record { entry = there.entry; emits = emits_both old middle new os (f (place_of old + length os)).operations first there.emits }

pub seq_entered : (s : Scope) (x y : a.Statement) (low next between place : ℕ) (old middle new : Emitter)
    → Enters old middle between (emitted s y low (place_of old) next) → Enters middle new place (emitted s x low (place_of middle) between)
    → Enters old new place (emitted s (a.Seq x y) low (place_of old) next)
seq_entered s x y low next between place old middle new last first =
    let second = emitted s y low (place_of old) next in
    then_entered old middle new second.operations place (λ at. emitted s x low at second.entry) last.emits
    (subst (λ n. Enters middle new place (emitted s x low (place_of middle) n)) last.entry first)

-- A test before two statements.
pub if_entered : (s : Scope) (e : a.Expression) (c : CodedTerm) (x y : a.Statement) (low next false_at true_at place : ℕ) (old first second new : Emitter)
    → Enters old first false_at (emitted s y low (place_of old) next) → Enters first second true_at (emitted s x low (place_of first) next)
    → Enters second new place (with_calls c.calls (op.Test c.term true_at false_at) (place_of second))
    → Enters old new place
    (let other = emitted s y low (place_of old) next in
    let then = emitted s x low (place_of old + length other.operations) next in
    let both = other.operations ++ then.operations in
    behind both (with_calls c.calls (op.Test c.term then.entry other.entry) (place_of old + length both)))
if_entered s e c x y low next false_at true_at place old first second new last middle test =
    let other = emitted s y low (place_of old) next in
    let then = emitted s x low (place_of old + length other.operations) next in
    let both = other.operations ++ then.operations in
    let there = subst (λ at. Enters first second true_at (emitted s x low at next)) (place_after old first other.operations last.emits) middle in
    then_entered old second new both place (λ at. with_calls c.calls (op.Test c.term then.entry other.entry) at)
    (emits_both old first second other.operations then.operations last.emits there.emits)
    (subst (λ n. Enters second new place (with_calls c.calls (op.Test c.term n other.entry) (place_of second))) there.entry
    (subst (λ n. Enters second new place (with_calls c.calls (op.Test c.term true_at n) (place_of second))) last.entry test))

-- ---- Loops

-- A loop whose closing operation is emitted with its calls, and completed once the body is emitted.
pub record LoopClosed (f : op.Operation → op.Operation) (old new : Emitter) (cs : List CodedCall) (o : op.Operation) (entry first : ℕ)
    (body : ℕ → ℕ → Emitted) : Type 0 where
  pub entered : entry ≡ (calls_at cs (suc (place_of old)) (place_of old)).entry
  pub body_is : first
      ≡ (body (suc (place_of old) + length (calls_at cs (suc (place_of old)) (place_of old)).operations) (calls_at cs (suc (place_of old)) (place_of old)).entry).entry
  pub emits : Emits old new
      (f o ∷ ((calls_at cs (suc (place_of old)) (place_of old)).operations
      ++ (body (suc (place_of old) + length (calls_at cs (suc (place_of old)) (place_of old)).operations)
      (calls_at cs (suc (place_of old)) (place_of old)).entry).operations))

pub loop_made : (f : op.Operation → op.Operation) (old first second new : Emitter) (cs : List CodedCall) (o : op.Operation) (place entry start : ℕ)
    (body : ℕ → ℕ → Emitted) → place ≡ place_of old → Enters old first entry (with_calls cs o (place_of old))
    → Enters first second start (body (place_of first) entry) → IsEmitted second new (changed_at place f (operations_of second))
    → LoopClosed f old new cs o entry start body
loop_made f old first second new cs o place entry start body here head inner closed =
    let at = place_of old in
    let calls = calls_at cs (suc at) at in
    let b = body (suc at + length calls.operations) calls.entry in
    let there : place_of first ≡ suc at + length calls.operations =
    ap length head.emits.operations_are ∙ place_of_body (operations_of old) cs o in
    let inside = subst (λ p. Enters first second start (body p calls.entry)) there
    (subst (λ n. Enters first second start (body (place_of first) n)) head.entry inner) in
    let all = emits_both old first second (with_calls cs o at).operations b.operations head.emits inside.emits in record {
      entered = head.entry;
      body_is = inside.entry;
      emits = record {
        operations_are =
            closed.operations_are
            ∙ ((λ i. changed_at (here i) f (operations_of second))
            ∙ (ap (changed_at at f) (inside.emits.operations_are ∙ ap (λ os. os ++ b.operations) head.emits.operations_are)
            ∙ loop_closed f (operations_of old) cs o b.operations));
        origins_continue = continues_more old.origins.items second.origins.items new.origins.items all.origins_continue closed.origins_continue;
        units_are = closed.units_are ∙ all.units_are;
        first_is = closed.first_is ∙ all.first_is;
        words_are = closed.words_are ∙ all.words_are;
      };
    }

-- A loop whose closing operation has no calls.
pub record BodyClosed (f : op.Operation → op.Operation) (old new : Emitter) (o : op.Operation) (start : ℕ) (body : ℕ → ℕ → Emitted) : Type 0 where
  pub body_is : start ≡ (body (suc (place_of old)) (place_of old)).entry
  pub emits : Emits old new (f o ∷ (body (suc (place_of old)) (place_of old)).operations)

pub body_made : (f : op.Operation → op.Operation) (old first second new : Emitter) (o : op.Operation) (place start : ℕ) (body : ℕ → ℕ → Emitted)
    → place ≡ place_of old → Emits old first (o ∷ []) → Enters first second start (body (place_of first) place)
    → IsEmitted second new (changed_at place f (operations_of second)) → BodyClosed f old new o start body
body_made f old first second new o place start body here head inner closed =
    let at = place_of old in
    let b = body (suc at) at in
    let more : length (operations_of old ++ o ∷ []) ≡ suc at = length-append (operations_of old) (o ∷ []) ∙ omega arith in
    let there : place_of first ≡ suc at = ap length head.operations_are ∙ more in
    let inside = subst (λ p. Enters first second start (body p at)) there
    (subst (λ n. Enters first second start (body (place_of first) n)) here inner) in
    let all = emits_both old first second (o ∷ []) b.operations head inside.emits in record {
      body_is = inside.entry;
      emits = record {
        operations_are =
            closed.operations_are
            ∙ ((λ i. changed_at (here i) f (operations_of second))
            ∙ (ap (changed_at at f) all.operations_are ∙ changed_between f (operations_of old) o b.operations));
        origins_continue = continues_more old.origins.items second.origins.items new.origins.items all.origins_continue closed.origins_continue;
        units_are = closed.units_are ∙ all.units_are;
        first_is = closed.first_is ∙ all.first_is;
        words_are = closed.words_are ∙ all.words_are;
      };
    }
