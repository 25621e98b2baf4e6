-- The sections of several processes, one after another.
use Rattle.std.proofs.Common.{◌≡◌, ◌++◌, ◌∙◌, ◌∷◌, [], ℕ, List, append_assoc, append-nil, arith, length, refl, slice_index_or, subst, sym}
use Rattle.cp_rounds.specs.declared.machine.Machine.{Machine}
use Rattle.cp_outcome.specs.Transcripts.{AreSectionsOf, AreTranscriptsOf, IsSectionOf, IsTranscriptOf, heading}

pub made_section : (p : ℕ) (m : Machine) (name text bytes : List ℕ) → IsTranscriptOf p m text → bytes ≡ (heading p name ++ text) ++ 10 ∷ [] → IsSectionOf p m bytes
made_section p m name text bytes is made setup s I = (name, text, is setup s I, made ∙ append_assoc (heading p name) text (10 ∷ []))

-- The sections of those who are left make these bytes the sections of all.
abbrev pub LeadsTo : List ℕ → Machine → List ℕ → List ℕ → Type 0
LeadsTo all m left bytes = (rest : List ℕ) → AreSectionsOf left m rest → AreSectionsOf all m (bytes ++ rest)

pub none_yet : (all : List ℕ) (m : Machine) → LeadsTo all m all []
none_yet all m rest sections = sections

pub one_more : (all : List ℕ) (m : Machine) (p : ℕ) (left bytes section : List ℕ) → LeadsTo all m (p ∷ left) bytes → IsSectionOf p m section → LeadsTo all m left (bytes ++ section)
one_more all m p left bytes section before is rest sections =
    subst (λ (bs : List ℕ). AreSectionsOf all m bs) (sym (append_assoc bytes section rest))
    (before (section ++ rest) (λ setup s I. (section, rest, refl, is setup s I, sections setup s I)))

pub all_made : (all : List ℕ) (m : Machine) (bytes : List ℕ) → LeadsTo all m [] bytes → AreSectionsOf all m bytes
all_made all m bytes before = subst (λ (bs : List ℕ). AreSectionsOf all m bs) (append-nil bytes) (before [] (λ setup s I. refl))

-- ---- Transcripts of one process alone, or of several

pub alone : (all : List ℕ) (m : Machine) (bytes : List ℕ) → length all ≡ 1 → IsTranscriptOf (slice_index_or all 0 0) m bytes → AreTranscriptsOf all m bytes
alone [] m bytes one is setup s I = absurd (omega (arith, one))
alone (p ∷ []) m bytes one is setup s I = is setup s I
alone (p ∷ q ∷ ps) m bytes one is setup s I = absurd (omega (arith, one))

pub several : (all : List ℕ) (m : Machine) (bytes : List ℕ) → (length all ≡ 1 → ⊥) → AreSectionsOf all m bytes → AreTranscriptsOf all m bytes
several [] m bytes not_one sections setup s I = sections setup s I
several (p ∷ []) m bytes not_one sections setup s I = absurd (not_one refl)
several (p ∷ q ∷ ps) m bytes not_one sections setup s I = sections setup s I
