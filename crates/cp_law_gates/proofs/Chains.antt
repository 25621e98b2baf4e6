-- In a state whose gates are in order, the asking chain of each process ends.
use Rattle.std.proofs.Common.{◌≡◌, ℕ, zero, suc, ◌<◌, ◌≤◌, List, [], ◌∷◌, length, drop, Bool, true, false, Some, None, refl, ap, sym, subst, ◌∙◌, arith}
use Rattle.std.specs.Prelude.{if◌then◌else◌, nat_eq}
use Rattle.std.proofs.lemmas.Bool.{eqb-true, true≢false}
use Rattle.cp_model.specs.Continuations.{marked_monitors}
use Rattle.cp_model.specs.Configurations.{Asking, Delayed, Ended, Faulted, Fresh, Ready, Status, Unstarted, Waiting, held_gates}
use Rattle.cp_model.specs.Report.{is_asking}
use Rattle.cp_model.specs.States.{Free, HeldBy, Holder, State, Unset, is_in, is_set}
use Rattle.cp_model.specs.Chains.{IsAskingChain, holder_asked, holding_process}
use Rattle.cp_law_gates.specs.Hierarchy.{AsksNoGateLast, Descends, EndingChain, Hierarchy, IsHeld, NoneTwice}
use Rattle.cp_law_gates.specs.Gates.{Gates, IsInnermost}
use Rattle.cp_law_gates.proofs.Lists.{AllWithin, all_above, bounded_length, descends_rest, first_once, found_above, not_in}

module _ (place : ℕ → ℕ) (monitors : ℕ) (s : State) (G : Gates place monitors s) where
  -- Each process of the list that asks for a gate asks for one with an earlier place.
  AllAskBelow : ℕ → List ℕ → Type 0
  AllAskBelow n [] = Unit {0}
  AllAskBelow n (p ∷ ps) = ((m : ℕ) → s.status p ≡ Asking m → place m < n) × AllAskBelow n ps

  record Found (p n : ℕ) : Type 0 where
    pub chain : List ℕ
    pub gates : List ℕ
    pub is : IsAskingChain s p chain
    pub first : (rest : List ℕ) × (chain ≡ p ∷ rest)
    pub below : AllAskBelow n chain
    pub distinct : NoneTwice chain
    pub ends : AsksNoGateLast s chain
    pub count : length chain ≡ suc (length gates)
    pub within : AllWithin monitors gates
    pub gates_below : (m : ℕ) → is_in m gates ≡ true → place m < n
    pub gates_distinct : NoneTwice gates

  below_more : (a b : ℕ) (ps : List ℕ) → a ≤ b → AllAskBelow a ps → AllAskBelow b ps
  unfolding AllAskBelow
  below_more a b [] h k = tt
  below_more a b (p ∷ ps) h k = ((λ m e. let x = k.0 m e in omega (arith, h, x)), below_more a b ps h k.1)

  -- Who asks for a gate at place n isn't among those who ask for earlier ones.
  asks_apart : (p m : ℕ) (ps : List ℕ) → s.status p ≡ Asking m → AllAskBelow (place m) ps → is_in p ps ≡ true → ⊥
  unfolding AllAskBelow
  asks_apart p m [] e k h = true≢false (sym h)
  asks_apart p m (q ∷ ps) e k h = go (nat_eq p q) refl h (asks_apart p m ps e k.1)
    where
      go : (b : Bool) → nat_eq p q ≡ b → (if b then true else is_in p ps) ≡ true → (is_in p ps ≡ true → ⊥) → ⊥
      go true x h more = let y = k.0 m (ap s.status (sym (eqb-true p q x)) ∙ e) in omega (arith, y)
      go false x h more = more h

  asked_of : Status → ℕ
  asked_of (Asking m) = m
  asked_of _ = 0

  asking_same : (m n : ℕ) → Asking m ≡ Asking n → m ≡ n
  unfolding asked_of
  asking_same m n e = ap asked_of e

  held_by : (h : Holder) → IsHeld h → (q : ℕ) × (h ≡ HeldBy q)
  held_by (HeldBy q) h = (q, refl)
  held_by Unset h = absurd h
  held_by Free h = absurd h

  -- The gates that a process holds have later places than the gate that it asks for.
  asks_earlier : (q m n : ℕ) → s.status q ≡ Asking n → is_in m (held_gates (s.status q) (s.continuation q)) ≡ true → place n < place m
  asks_earlier q m n e h = by (marked_monitors (s.continuation q)) refl
    where
      by : (ms : List ℕ) → marked_monitors (s.continuation q) ≡ ms → place n < place m
      by [] x = absurd (subst (IsInnermost n) x (G.stopped q n (subst (λ z. Rattle.cp_law_gates.specs.Gates.IsStoppedAt n z) (sym e) refl)))
      by (a ∷ ms) x =
          let same : a ≡ n = subst (IsInnermost n) x (G.stopped q n (subst (λ z. Rattle.cp_law_gates.specs.Gates.IsStoppedAt n z) (sym e) refl)) in
          let held : is_in m ms ≡ true = sym (ap (λ z. is_in m (drop 1 z)) x) ∙ (sym (ap (λ z. is_in m (held_gates z (s.continuation q))) e) ∙ h) in
          found_above place (place n) m ms (subst (λ z. Rattle.cp_law_gates.proofs.Lists.AllAbove place (place z) ms) same (all_above place a ms (subst (Descends place) x (G.descends q)))) held

  alone : (p n : ℕ) → is_asking (s.status p) ≡ false → Found p n
  unfolding AllAskBelow
  alone p n h = record {
    chain = p ∷ [];
    gates = [];
    is = (refl, none_asked (s.status p) h);
    first = ([], refl);
    below = ((λ m e. absurd (true≢false (sym (ap is_asking e) ∙ h))), tt);
    distinct = (refl, tt);
    ends = h;
    count = refl;
    within = tt;
    gates_below = λ m x. absurd (true≢false (sym x));
    gates_distinct = tt;
  }
    where
      none_asked : (x : Status) → is_asking x ≡ false → holder_asked s x ≡ None
      none_asked (Asking m) h = absurd (true≢false h)
      none_asked Unstarted h = refl
      none_asked Fresh h = refl
      none_asked Ready h = refl
      none_asked Ended h = refl
      none_asked Waiting h = refl
      none_asked (Delayed m q) h = refl
      none_asked (Faulted n) h = refl

  longer : (p q m : ℕ) → s.status p ≡ Asking m → (s.gates m).holder ≡ HeldBy q → Found q (place m) → Found p (suc (place m))
  unfolding AllAskBelow
  longer p q m e h F = record {
    chain = p ∷ F.chain;
    gates = m ∷ F.gates;
    is = joined F.chain F.first.0 F.first.1 F.is;
    first = (F.chain, refl);
    below = ((λ n x. let y : m ≡ n = asking_same m n (sym e ∙ x) in subst (λ z. place z < suc (place m)) y (omega arith)), below_more (place m) (suc (place m)) F.chain (omega arith) F.below);
    distinct = (not_in p F.chain (asks_apart p m F.chain e F.below), F.distinct);
    ends = ending F.chain F.first.0 F.first.1 F.ends;
    count = ap (λ n. suc n) F.count;
    within = let k = G.known m (ap is_set h) in (k.0, k.1, F.within);
    gates_below = λ n x. by n (nat_eq n m) refl x;
    gates_distinct = (not_in m F.gates (λ x. let y = F.gates_below m x in absurd (no m y)), F.gates_distinct);
  }
    where
      no : (m : ℕ) → place m < place m → ⊥
      no m x = omega (arith, x)

      by : (n : ℕ) (b : Bool) → nat_eq n m ≡ b → (if b then true else is_in n F.gates) ≡ true → place n < suc (place m)
      by n true x y = subst (λ z. place z < suc (place m)) (sym (eqb-true n m x)) (omega arith)
      by n false x y = let z = F.gates_below n y in omega (arith, z)

      joined : (c rest : List ℕ) → c ≡ q ∷ rest → IsAskingChain s q c → IsAskingChain s p (p ∷ c)
      joined [] rest x k = absurd k
      joined (a ∷ c) rest x k =
          let same : q ≡ a = sym (first_is a c k) in
          (refl, ap (holder_asked s) e ∙ ap holding_process h ∙ ap Some same, subst (λ z. IsAskingChain s z (a ∷ c)) same k)
        where
          first_is : (a : ℕ) (c : List ℕ) → IsAskingChain s q (a ∷ c) → a ≡ q
          first_is a [] k = k.0
          first_is a (b ∷ c) k = k.0

      ending : (c rest : List ℕ) → c ≡ q ∷ rest → AsksNoGateLast s c → AsksNoGateLast s (p ∷ c)
      ending [] rest x k = absurd k
      ending (a ∷ c) rest x k = k

  weaker : (p a b : ℕ) → a ≤ b → Found p a → Found p b
  weaker p a b h F = record {
    chain = F.chain;
    gates = F.gates;
    is = F.is;
    first = F.first;
    below = below_more a b F.chain h F.below;
    distinct = F.distinct;
    ends = F.ends;
    count = F.count;
    within = F.within;
    gates_below = λ m x. let y = F.gates_below m x in omega (arith, y, h);
    gates_distinct = F.gates_distinct;
  }

  -- The chain from a process that asks only for gates with places below b.
  AsksBelow : ℕ → ℕ → Type 0
  AsksBelow b p = (m : ℕ) → s.status p ≡ Asking m → place m < b

  find : (n b p : ℕ) → b ≤ n → AsksBelow b p → Found p b
  unfolding AsksBelow
  find zero b p l h = by (s.status p) refl
    where
      by : (x : Status) → s.status p ≡ x → Found p b
      by (Asking m) e = absurd (omega (arith, l, h m e))
      by Unstarted e = alone p b (ap is_asking e)
      by Fresh e = alone p b (ap is_asking e)
      by Ready e = alone p b (ap is_asking e)
      by Ended e = alone p b (ap is_asking e)
      by Waiting e = alone p b (ap is_asking e)
      by (Delayed m q) e = alone p b (ap is_asking e)
      by (Faulted k) e = alone p b (ap is_asking e)
  find (suc n) b p l h = by (s.status p) refl (λ m q x y. find n (place m) q x y)
    where
      by : (x : Status) → s.status p ≡ x → ((m q : ℕ) → place m ≤ n → AsksBelow (place m) q → Found q (place m)) → Found p b
      by (Asking m) e rest =
          let x = h m e in
          let H = held_by (s.gates m).holder (G.taken m p refl (G.listed m p e)) in
          weaker p (suc (place m)) b (omega (arith, x))
          (longer p H.0 m e H.1 (rest m H.0 (omega (arith, l, x)) (λ k y. asks_earlier H.0 m k y (G.marked m H.0 refl H.1))))
      by Unstarted e rest = alone p b (ap is_asking e)
      by Fresh e rest = alone p b (ap is_asking e)
      by Ready e rest = alone p b (ap is_asking e)
      by Ended e rest = alone p b (ap is_asking e)
      by Waiting e rest = alone p b (ap is_asking e)
      by (Delayed m q) e rest = alone p b (ap is_asking e)
      by (Faulted k) e rest = alone p b (ap is_asking e)

  bound : Status → ℕ
  bound (Asking m) = suc (place m)
  bound _ = 0

  chain_ends : (p : ℕ) → EndingChain monitors s p
  unfolding AsksBelow bound
  chain_ends p =
      let F = find (bound (s.status p)) (bound (s.status p)) p (omega arith) (λ m e. subst (λ x. place m < bound x) (sym e) (omega arith)) in
      let b = bounded_length monitors F.gates F.gates_distinct F.within in
      record { chain = F.chain; is = F.is; distinct = F.distinct; short = omega (arith, F.count, b); ends = F.ends }

  order : (p : ℕ) → Descends place (held_gates (s.status p) (s.continuation p))
  order p = by (s.status p)
    where
      rest : (ms : List ℕ) → Descends place ms → Descends place (drop 1 ms)
      rest [] h = tt
      rest (m ∷ ms) h = descends_rest place m ms h

      by : (x : Status) → Descends place (held_gates x (s.continuation p))
      by (Asking m) = rest (marked_monitors (s.continuation p)) (G.descends p)
      by (Delayed m q) = rest (marked_monitors (s.continuation p)) (G.descends p)
      by Unstarted = G.descends p
      by Fresh = G.descends p
      by Ready = G.descends p
      by Ended = G.descends p
      by Waiting = G.descends p
      by (Faulted n) = G.descends p

  pub hierarchy : Hierarchy place monitors s
  hierarchy = record {
    order = order;
    holders = λ m p h. G.marked m p refl h;
    apart = λ p m e. not_in m (held_gates (s.status p) (s.continuation p)) (λ h. no (place m) (asks_earlier p m m e h));
    taken = λ m p h. G.taken m p refl h;
    listed = G.listed;
    waiting = λ p e. ap (λ x. held_gates x (s.continuation p)) e ∙ G.waiting p e;
    chains = chain_ends;
  }
    where
      no : (n : ℕ) → n < n → ⊥
      no n x = omega (arith, x)
