-- The words of a system type: the rules count at least as many as a component takes, with the need
-- of a process's body.
use Rattle.std.proofs.Common.{◌≡◌, ◌≤◌, ap, ℕ, ◌+◌, List, None, Some, if◌then◌else◌, length, filter, arith}
use Rattle.cp_model.specs.Syntax as s
use Rattle.cp_model.specs.Abstract as a
use Rattle.cp_model.specs.Erase as erase
use Rattle.cp_model.specs.declared.tree.Sort.{Sort}
use Rattle.cp_model.specs.declared.tree.Sort.TheVariants as sort
use Rattle.cp_model.specs.RulesEnvironment.{Text, is_process}
use Rattle.cp_model.specs.RulesTypes.{cap_words, word_limit}
use Rattle.cp_model.specs.Types.{ComponentOf, GlobalScope}
use Rattle.cp_model.specs.Declarations.{Variable, declarations, reported_members}
use Rattle.cp_law_typing.specs.Words.{rights_in, words_of_members, words_of_variables, words as type_words}
use Rattle.cp_law_typing.specs.Needs.{owner_words, process_need, statement_need}
use Rattle.cp_law_typing.proofs.Bounds.{capped_within}
use Rattle.cp_law_typing.proofs.ExpressionNeeds.{Bounded}
use Rattle.cp_law_typing.proofs.Headings.{AllParameters}
use Rattle.cp_law_typing.proofs.Members.{component_most, component_total, is_right, members_of}

module _ (y : s.System) (h : GlobalScope) (heads variables : List (Text × Variable)) (rows own : ℕ) where
  abbrev meaning : a.System
  meaning = erase.system y

  -- The parameters take `rows` words, and the variables at most `own`.
  pub record Counted : Type 0 where
    pub declares : declarations h meaning.parameters ≡ heads
    pub members : reported_members h meaning ≡ members_of heads variables
    pub parameters : AllParameters (Some y.sort) heads
    pub count : rows ≡ length heads
    pub words : Bounded (words_of_variables h variables) own

  module _ (C : Counted) (need : ℕ) where
    -- What the rules add for the body.
    abbrev body : Sort → ℕ
    body z = if is_process z then need else 0

    abbrev counted : ℕ
    counted = cap_words (1 + rows + own + body y.sort)

    all_counted : counted ≤ word_limit → counted ≡ 1 + rows + own + body y.sort
    all_counted fits = capped_within (1 + rows + own + body y.sort) fits

    own_words : counted ≤ word_limit → 1 + rights_in h meaning + words_of_members h (reported_members h meaning) + body y.sort ≤ counted
    own_words fits = omega (
      arith,
      all_counted fits,
      ap (λ ds. length (filter is_right ds)) C.declares,
      ap (words_of_members h) C.members,
      component_total y.sort h heads variables C.parameters,
      C.count,
      C.words (omega (arith, all_counted fits, fits)),
    )

    pub owner_fits : (k : ℕ) → Bounded (statement_need k h meaning None meaning.body) need → Bounded (owner_words k h meaning) counted
    owner_fits k f fits = omega (arith, fits, all_counted fits, own_words fits, by_sort y.sort (omega (arith, fits, all_counted fits)))
      where
        by_sort : (z : Sort) → body z ≤ word_limit → process_need (erase.sort_of z) (statement_need k h meaning None meaning.body) ≤ body z
        by_sort sort.Process g = f g
        by_sort sort.Monitor g = omega arith
        by_sort sort.Class g = omega arith

    pub class_fits : Bounded (type_words h (ComponentOf meaning (reported_members h meaning))) counted
    class_fits fits = omega (arith, component_most meaning.sort (1 + rights_in h meaning + words_of_members h (reported_members h meaning)), own_words fits)
