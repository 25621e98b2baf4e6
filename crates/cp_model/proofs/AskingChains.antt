-- A chain that is computed within a bound is the asking chain, and there is only one.
use Rattle.std.specs.Prelude.{Bool, List, None, if◌then◌else◌, Option, Some, [], false, option_map, refl, suc, true, zero, ℕ, ◌++◌, ◌∷◌, ◌≡◌}
use Rattle.std.proofs.Common.{ap, arith, subst, sym, ◌∙◌}
use Rattle.cp_model.specs.States.{Setup, State, processes}
use Rattle.cp_model.specs.Chains.{IsAskingChain, chain_from, chain_within, holder_asked}
use Rattle.cp_model.specs.Report.{AreChainLines, BeginsWithChain, IsReportWithChains, Text, chain_lines_within, is_asking, report, report_with_chains_within, with_chain}
use Rattle.cp_model.proofs.Options.{same_some}

chain_begins : (s : State) (p q : ℕ) (rs : List ℕ) → IsAskingChain s p (q ∷ rs) → q ≡ p
chain_begins s p q [] h = h.0
chain_begins s p q (r ∷ rs) h = h.0

pub chain_within_is_asking_chain : (n : ℕ) (s : State) (p : ℕ) (ps : List ℕ) → chain_within n s p ≡ Some ps
    → IsAskingChain s p ps
chain_within_is_asking_chain n s p ps h = go n p ps (holder_asked s (s.status p)) refl h
  where
    longer : (p q : ℕ) (rs : List ℕ) → holder_asked s (s.status p) ≡ Some q → IsAskingChain s q rs
        → IsAskingChain s p (p ∷ rs)
    longer p q [] e c = absurd c
    longer p q (r ∷ rs) e c =
        let is = chain_begins s q r rs c in
        (refl, e ∙ ap Some (sym is), subst (λ x. IsAskingChain s x (r ∷ rs)) (sym is) c)

    go : (n p : ℕ) (ps : List ℕ) (o : Option ℕ) → holder_asked s (s.status p) ≡ o → chain_from n s p o ≡ Some ps
        → IsAskingChain s p ps
    go n p ps None e h = subst (λ l. IsAskingChain s p l) (same_some _ _ h) (refl, e)
    go zero p ps (Some q) e h = absurd (Prim.grind arith)
    go (suc n) p ps (Some q) e h =
        with_rest (chain_from n s q (holder_asked s (s.status q))) h (λ rs f. go n q rs (holder_asked s (s.status q)) refl f)
      where
        with_rest : (o : Option (List ℕ)) → option_map (λ rs. p ∷ rs) o ≡ Some ps
            → ((rs : List ℕ) → o ≡ Some rs → IsAskingChain s q rs) → IsAskingChain s p ps
        with_rest None h rest = absurd (Prim.grind arith)
        with_rest (Some rs) h rest = subst (λ l. IsAskingChain s p l) (same_some _ _ h) (longer p q rs e (rest rs refl))

pub asking_chain_is_one : (s : State) (p : ℕ) (ps qs : List ℕ) → IsAskingChain s p ps → IsAskingChain s p qs → ps ≡ qs
asking_chain_is_one s p [] qs c d = absurd c
asking_chain_is_one s p (a ∷ ps) [] c d = absurd d
asking_chain_is_one s p (a ∷ []) (b ∷ []) c d = ap (λ x. x ∷ []) (c.0 ∙ sym d.0)
asking_chain_is_one s p (a ∷ []) (b ∷ q ∷ qs) c d = let e = sym c.1 ∙ d.1 in absurd (Prim.grind arith)
asking_chain_is_one s p (a ∷ r ∷ rs) (b ∷ []) c d = let e = sym d.1 ∙ c.1 in absurd (Prim.grind arith)
asking_chain_is_one s p (a ∷ r ∷ rs) (b ∷ q ∷ qs) c d =
    let same : q ≡ r = same_some _ _ (sym d.1 ∙ c.1) in
    ap (λ x. x ∷ r ∷ rs) (c.0 ∙ sym d.0)
    ∙ ap (λ l. b ∷ l) (asking_chain_is_one s r (r ∷ rs) (q ∷ qs) c.2 (subst (λ x. IsAskingChain s x (q ∷ qs)) same d.2))

-- ---- The report

chain_lines_are : (n : ℕ) (s : State) (ps : List ℕ) (text : Text) → chain_lines_within n s ps ≡ Some text
    → AreChainLines s ps text
chain_lines_are n s [] text h = sym (same_some _ _ h)
chain_lines_are n s (p ∷ ps) text h = go (is_asking (s.status p)) h (chain_lines_are n s ps)
  where
    Rest : Option Text → Type 0
    Rest o = (rest : Text) → o ≡ Some rest → AreChainLines s ps rest

    joined : (c : Option (List ℕ)) (o : Option Text) → chain_within n s p ≡ c → Rest o
        → with_chain c o ≡ Some text → BeginsWithChain true s p (AreChainLines s ps) text
    joined None o e more h = absurd (Prim.grind arith)
    joined (Some chain) None e more h = absurd (Prim.grind arith)
    joined (Some chain) (Some rest) e more h =
        (chain, (rest, chain_within_is_asking_chain n s p chain e, more rest refl, sym (same_some _ _ h)))

    go : (b : Bool)
        → (if b then with_chain (chain_within n s p) (chain_lines_within n s ps) else chain_lines_within n s ps) ≡ Some text
        → Rest (chain_lines_within n s ps) → BeginsWithChain b s p (AreChainLines s ps) text
    go true h more = joined (chain_within n s p) (chain_lines_within n s ps) refl more h
    go false h more = more text h

pub report_within_is_report : (n : ℕ) (setup : Setup) (s : State) (text : Text)
    → report_with_chains_within n setup s ≡ Some text → IsReportWithChains setup s text
report_within_is_report n setup s text h = go (chain_lines_within n s (processes setup)) refl h
  where
    go : (o : Option Text) → chain_lines_within n s (processes setup) ≡ o
        → option_map (λ lines. report setup s ++ lines) o ≡ Some text → IsReportWithChains setup s text
    go None e h = absurd (Prim.grind arith)
    go (Some lines) e h = (lines, (chain_lines_are n s (processes setup) lines e, sym (same_some _ _ h)))
