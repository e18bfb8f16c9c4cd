-- What a copy of a rule has of it.
--   SameAnswers   the two have the same numbers of states and of letters, the same start, and the same kept and next answers for every state and letter that is there
--   SameWords     they keep the same words; the same words separate two states; and each is related to any third rule, from either side, as the other is
use Rattle.std.specs.Prelude.{◌≡◌, ℕ, ◌<◌, ◌↔◌, List, Option}
use Rattle.automaton.specs.Automata.{Automaton}
use Rattle.automaton.specs.Languages.{Keeps}
use Rattle.register.specs.Pairs.{Separates, kept_alike}
use Rattle.search.specs.declared.relation.Relation.{Relation}
use Rattle.search.specs.Relations.{Related}

pub record SameAnswers (m n : Automaton) : Type 0 where
  pub count : n.count ≡ m.count
  pub letters : n.letters ≡ m.letters
  pub start : n.start ≡ m.start
  pub kept : (p : ℕ) → p < m.count → n.kept p ≡ m.kept p
  pub next : (p a : ℕ) → p < m.count → a < m.letters → n.next p a ≡ m.next p a

pub record SameWords (m n : Automaton) : Type 0 where
  -- the same words are kept
  pub kept : (w : List ℕ) → Keeps n w ↔ Keeps m w
  -- the same words separate any two states,
  pub separated : (p q : ℕ) → p < m.count → q < m.count → (w : List ℕ) → Separates n (kept_alike n) p q w ↔ Separates m (kept_alike m) p q w
  -- and the relation to any third rule is the same, of either side
  pub first : (o : Automaton) (r : Relation) (u v : Option (List ℕ)) → Related (Keeps n) (Keeps o) r u v ↔ Related (Keeps m) (Keeps o) r u v
  pub second : (o : Automaton) (r : Relation) (u v : Option (List ℕ)) → Related (Keeps o) (Keeps n) r u v ↔ Related (Keeps o) (Keeps m) r u v
