-- The subset construction keeps exactly the words that the diagram accepts, for every diagram.
use Rattle.std.proofs.Common.{◌≡◌, ℕ, ◌<◌, true, ◌↔◌, List, [], ◌∷◌, arith}
use Rattle.std.proofs.lemmas.Grind.{common_steps}
use Rattle.automaton.specs.Automata.{Automaton}
use Rattle.automaton.specs.Diagrams.{Accepts, Diagram, Leads}
use Rattle.automaton.specs.Languages.{Keeps}
use Rattle.automaton.specs.Words.{Over, walk}
use Rattle.automaton.proofs.Textbook.{run_less, run_more, run_none, run_nothing}
use Rattle.sheet.specs.Sets.{has}
use Rattle.sheet.specs.Subsets.{Subsets}

leads_from : (d : Diagram) (p : ℕ) (w : List ℕ) (q : ℕ) → Leads d p w q → p < d.count
leads_from d p [] q run = (run_nothing d p q run).0
leads_from d p (a ∷ w) q run = (run_less d p a w q run).1.state

-- a run of the word leads from the member p of s to q
pub record Comes (d : Diagram) (s : ℕ) (w : List ℕ) (q p : ℕ) : Type 0 where
  pub own : p < d.count
  pub member : has d.count s p ≡ true
  pub leads : Leads d p w q

-- the walk from the set s ends at a set that has the member q
pub record Ends (d : Diagram) (m : Automaton) (s : ℕ) (w : List ℕ) (q : ℕ) : Type 0 where
  pub over : Over m.letters w
  pub own : q < d.count
  pub member : has d.count (walk m s w) q ≡ true

module _ (d : Diagram) (m : Automaton) (h : Subsets d m) where
  walk_comes : (w : List ℕ) (s q : ℕ) → Ends d m s w q → (p : ℕ) × Comes d s w q p
  walk_comes [] s q e = (q, record { own = e.own; member = e.member; leads = run_none d q e.own })
  walk_comes (a ∷ w) s q e =
      let r = walk_comes w (m.next s a) q (grind (arith, common_steps, e)) in
      let f = (h.next s a r.0 r.1.own).0 r.1.member in
      (f.0, grind (arith, common_steps, f.1, run_more d f.0 a r.0 w q f.1.own (omega (arith, h.letters, e.over.0)) f.1.arrow r.1.leads))

  comes_walk : (w : List ℕ) (s q p : ℕ) → has d.count s p ≡ true → Leads d p w q → Ends d m s w q
  comes_walk [] s q p e run = grind (arith, common_steps, run_nothing d p q run)
  comes_walk (a ∷ w) s q p e run =
      let r = run_less d p a w q run in
      let next = (h.next s a r.0 (leads_from d r.0 w q r.1.rest)).1 (p, record { own = r.1.state; member = e; arrow = r.1.arrow }) in
      let f = comes_walk w (m.next s a) q r.0 next r.1.rest in
      grind (arith, common_steps, f, r.1.letter, h.letters)

  pub keeps_subsets : (w : List ℕ) → Keeps m w ↔ Accepts d w
  keeps_subsets w = (to, from)
    where
      to : Keeps m w → Accepts d w
      to k =
          let q = (h.kept (walk m m.start w)).0 k.kept in
          let p = walk_comes w m.start q.0 (grind (arith, common_steps, k, q.1)) in
          (p.0, q.0, grind (arith, common_steps, p.1, q.1, h.start p.0))

      from : Accepts d w → Keeps m w
      from (p, q, a) =
          let e = comes_walk w m.start q p (grind (arith, common_steps, h.start p, leads_from d p w q a.leads, a.starts)) a.leads in
          record { over = e.over; kept = (h.kept (walk m m.start w)).1 (q, grind (arith, common_steps, e, a.kept)) }
