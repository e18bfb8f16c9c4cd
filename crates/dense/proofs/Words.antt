-- Rules with the same answers have the same words.
use Rattle.std.proofs.Common.{◌≡◌, ℕ, ◌<◌, ◌↔◌, List, [], ◌∷◌, refl, arith}
use Rattle.std.proofs.lemmas.Grind.{common_steps}
use Rattle.automaton.specs.Automata.{Automaton, Lawful}
use Rattle.automaton.specs.Languages.{Keeps}
use Rattle.automaton.specs.Words.{Over, walk}
use Rattle.automaton.proofs.Walks.{walk_below}
use Rattle.register.specs.Pairs.{Separates, kept_alike}
use Rattle.search.proofs.Relations.{related_alike}
use Rattle.dense.specs.Copies.{SameAnswers, SameWords}

module _ (m n : Automaton) (h : Lawful m) (same : SameAnswers m n) where
  -- a walk from a state that is there goes the same way in both
  same_walk : (w : List ℕ) (p : ℕ) → p < m.count → Over m.letters w → walk n p w ≡ walk m p w
  same_walk [] p hp o = refl
  same_walk (a ∷ w) p hp o = grind (arith, common_steps, same.next p a, same_walk w (m.next p a), h.stays p a)

  -- and it ends at a kept state of the one exactly if it does in the other
  same_end : (w : List ℕ) (p : ℕ) → p < m.count → Over m.letters w → n.kept (walk n p w) ≡ m.kept (walk m p w)
  same_end w p hp o = grind (arith, common_steps, same_walk w p hp o, same.kept (walk m p w), walk_below m h w p hp o)

  same_kept : (w : List ℕ) → Keeps n w ↔ Keeps m w
  same_kept w = grind (arith, common_steps, same_end w m.start, same.letters, same.start, h.begins)

  same_separated : (p q : ℕ) → p < m.count → q < m.count → (w : List ℕ) → Separates n (kept_alike n) p q w ↔ Separates m (kept_alike m) p q w
  same_separated p q hp hq w = grind (arith, common_steps, same_end w p, same_end w q, same.letters)

  pub same_words : SameWords m n
  same_words = record {
    kept = same_kept;
    separated = same_separated;
    first = λ o r u v. (related_alike _ _ _ _ same_kept (λ w. ((λ x. x), (λ x. x))) r u v, related_alike _ _ _ _ (λ w. ((same_kept w).1, (same_kept w).0)) (λ w. ((λ x. x), (λ x. x))) r u v);
    second = λ o r u v. (related_alike _ _ _ _ (λ w. ((λ x. x), (λ x. x))) same_kept r u v, related_alike _ _ _ _ (λ w. ((λ x. x), (λ x. x))) (λ w. ((same_kept w).1, (same_kept w).0)) r u v);
  }
