-- The words that a combination keeps.
use Rattle.std.proofs.Common.{◌≡◌, ℕ, ◌+◌, ◌*◌, ◌<◌, ◌↔◌, List, [], ◌∷◌, refl, arith}
use Rattle.std.proofs.lemmas.Grind.{common_steps}
use Rattle.std.proofs.lemmas.Nat.{div-mul-add, mod-mul-add}
use Rattle.automaton.specs.declared.rule.Rule.{Ghosts}
use Rattle.automaton.specs.Automata.{Automaton, Lawful}
use Rattle.automaton.specs.Languages.{Keeps}
use Rattle.automaton.specs.Meanings.{meaning}
use Rattle.automaton.specs.Words.{Over, walk}
use Rattle.automaton.proofs.Walks.{walk_below}
use Rattle.combine.specs.Combined.{beside, disjoint_union, intersection, product}
use Rattle.combine.specs.Laws.{Beside, FitSum, Intersects, Paired, Unites, begun_at}

-- The product: a walk of pairs is a walk in each.
record Walked (m n : Automaton) (w : List ℕ) (p q : ℕ) : Type 0 where
  is : walk (product m n) (p * n.count + q) w ≡ walk m p w * n.count + walk n q w
  below : walk n q w < n.count

walk_product : (m n : Automaton) → Lawful n → m.letters ≡ n.letters → (w : List ℕ) (p q : ℕ) → q < n.count → Over m.letters w → Walked m n w p q
walk_product m n k same [] p q hq o = record { is = refl; below = hq }
walk_product m n k same (a ∷ w) p q hq o =
    let there : a < n.letters = omega (arith, o.0) in
    grind (arith, common_steps, walk_product m n k same w (m.next p a) (n.next q a) (k.stays q a hq there) o.1, div-mul-add p n.count q hq, mod-mul-add p n.count q hq)

product_keeps : (m n : Automaton) → Lawful n → m.letters ≡ n.letters → (w : List ℕ) → Keeps (product m n) w ↔ (Keeps m w × Keeps n w)
product_keeps m n k same w = grind (arith, common_steps, walk_product m n k same w m.start n.start k.begins, div-mul-add, mod-mul-add)

paired : (m n : Automaton) → Paired m n (product m n)
paired m n = grind (arith, common_steps, div-mul-add, mod-mul-add)

intersects : (m n : Automaton) → Lawful n → Intersects m n (intersection m n)
intersects m n k = grind (arith, common_steps, product_keeps, paired)

pub rules_intersect : {S T : Type 0} (g : Ghosts S) (h : Ghosts T) (s : S) (t : T) → Intersects (meaning g s) (meaning h t) (intersection (meaning g s) (meaning h t))
rules_intersect g h s t = intersects (meaning g s) (meaning h t) (h.bounds t)

-- The disjoint union: a walk stays among the states of its own automaton.
walk_first : (m n : Automaton) → Lawful m → (w : List ℕ) (p : ℕ) → p < m.count → Over m.letters w → walk (beside m n) p w ≡ walk m p w
walk_first m n h [] p hp o = refl
walk_first m n h (a ∷ w) p hp o = grind (arith, common_steps, walk_first m n h w (m.next p a) (h.stays p a hp o.0) o.1)

walk_second : (m n : Automaton) (w : List ℕ) (q : ℕ) → walk (beside m n) (m.count + q) w ≡ m.count + walk n q w
walk_second m n [] q = refl
walk_second m n (a ∷ w) q = grind (arith, common_steps, walk_second m n w (n.next q a))

-- an automaton that is begun at another state walks the same
walk_begun : (p : ℕ) (m : Automaton) (w : List ℕ) (q : ℕ) → walk (begun_at p m) q w ≡ walk m q w
walk_begun p m w q = refl

keeps_first : (m n : Automaton) → Lawful m → (p : ℕ) → p < m.count → (w : List ℕ) → Keeps (begun_at p (beside m n)) w ↔ Keeps (begun_at p m) w
keeps_first m n h p hp w = grind (arith, common_steps, walk_begun p (beside m n) w p, walk_begun p m w p, walk_first m n h w p hp, walk_below m h w p hp)

keeps_second : (m n : Automaton) → m.letters ≡ n.letters → (q : ℕ) (w : List ℕ) → Keeps (begun_at (m.count + q) (beside m n)) w ↔ Keeps (begun_at q n) w
keeps_second m n same q w = grind (arith, common_steps, walk_begun (m.count + q) (beside m n) w (m.count + q), walk_begun q n w q, walk_second m n w q)

lies : (m n : Automaton) → Lawful m → m.letters ≡ n.letters → Beside m n (beside m n)
lies m n h same = grind (arith, common_steps, keeps_first, keeps_second)

made : (m n : Automaton) → FitSum m n → disjoint_union m n ≡ beside m n
made m n f = grind (arith, common_steps)

pub unites : (m n : Automaton) → Lawful m → Unites m n (disjoint_union m n)
unites m n h = record {
  means = refl;
  beside = λ f. rw (made m n f) (lies m n h f.same);
  keeps = λ f. rw (made m n f) ((lies m n h f.same).first m.start h.begins);
  misfit = grind (arith, common_steps);
}

pub rules_unite : {S T : Type 0} (g : Ghosts S) (h : Ghosts T) (s : S) (t : T) → Unites (meaning g s) (meaning h t) (disjoint_union (meaning g s) (meaning h t))
rules_unite g h s t = unites (meaning g s) (meaning h t) (g.bounds s)
