-- Walking finds the textbook's run, so a rule keeps exactly the words that its diagram accepts.
use Rattle.std.proofs.Common.{◌≡◌, ℕ, suc, ◌-◌, ◌<◌, Bool, true, false, ◌↔◌, List, [], ◌∷◌, length, get_or, Ok, Result, refl, ap, arith}
use Rattle.std.proofs.lemmas.Grind.{common_steps}
use Rattle.automaton.specs.declared.fault.Fault.{Fault}
use Rattle.automaton.specs.declared.rule.Rule.{Ghosts}
use Rattle.automaton.specs.Automata.{Automaton, Lawful}
use Rattle.automaton.specs.Diagrams.{Accepts, Diagram, Leads, diagram}
use Rattle.automaton.specs.Languages.{Judged, Keeps, Walked, keeps_answer}
use Rattle.automaton.specs.Meanings.{meaning}
use Rattle.automaton.specs.Words.{Over, walk, walk_answer}
use Rattle.automaton.proofs.Walks.{walk_below, walk_joined, walk_later, walk_over, walk_refused, walk_told, walk_unknown}

-- A run of one letter more: an arrow, and a run from where it leads.
pub run_none : (d : Diagram) (p : ℕ) → p < d.count → Leads d p [] p
run_none d p h = (p ∷ [], grind (arith, common_steps))

pub run_more : (d : Diagram) (p a r : ℕ) (w : List ℕ) (q : ℕ) → p < d.count → a < d.letters → d.arrow p a r ≡ true → Leads d r w q → Leads d p (a ∷ w) q
run_more d p a r w q hp ha e (states, run) = (
  p ∷ states,
  record {
    letters = (ha, run.letters);
    inside = (hp, run.inside);
    long = ap suc run.long;
    first = refl;
    moves = λ i h. grind (arith, common_steps, run.moves (i - 1));
    last = run.last;
  },
)

pub record Split (d : Diagram) (p a : ℕ) (w : List ℕ) (q r : ℕ) : Type 0 where
  pub state : p < d.count
  pub letter : a < d.letters
  pub arrow : d.arrow p a r ≡ true
  pub rest : Leads d r w q

pub run_less : (d : Diagram) (p a : ℕ) (w : List ℕ) (q : ℕ) → Leads d p (a ∷ w) q → (r : ℕ) × Split d p a w q r
run_less d p a w q ([], run) = absurd (omega (arith, run.long))
run_less d p a w q (s ∷ states, run) = (
  get_or states 0 0,
  record {
    state = grind (arith, common_steps);
    letter = run.letters.0;
    arrow = grind (arith, common_steps, run.moves 0);
    rest = (states, grind (arith, common_steps));
  },
)

pub run_nothing : (d : Diagram) (p q : ℕ) → Leads d p [] q → (p < d.count) × (p ≡ q)
run_nothing d p q (states, run) = grind (arith, common_steps)

-- A run of an automaton's diagram is its walk.
pub record Followed (m : Automaton) (p : ℕ) (w : List ℕ) (q : ℕ) : Type 0 where
  pub state : p < m.count
  pub over : Over m.letters w
  pub end : walk m p w ≡ q

walk_leads : (m : Automaton) → Lawful m → (w : List ℕ) (p : ℕ) → p < m.count → Over m.letters w → Leads (diagram m) p w (walk m p w)
walk_leads m h [] p l o = run_none (diagram m) p l
walk_leads m h (a ∷ w) p l o =
    let r = m.next p a in
    grind (arith, common_steps, run_more (diagram m) p a r w (walk m r w), walk_leads m h w r, h.stays p a)

leads_walk : (m : Automaton) (w : List ℕ) (p q : ℕ) → Leads (diagram m) p w q → Followed m p w q
leads_walk m [] p q run = grind (arith, common_steps, run_nothing (diagram m) p q run)
leads_walk m (a ∷ w) p q run =
    let s = run_less (diagram m) p a w q run in
    grind (arith, common_steps, leads_walk m w s.0 q s.1.rest)

pub walked : (m : Automaton) → Lawful m → (p : ℕ) (w : List ℕ) (r : Result ℕ Fault) → r ≡ walk_answer m p w → Walked m p w r
walked m h p w r e = record {
  answer = e;
  textbook = λ q. (
    λ t. grind (arith, common_steps, walk_told m 0 p w q, walk_leads m h w p),
    λ run. grind (arith, common_steps, walk_over m 0 p w, leads_walk m w p q run),
  );
  joined = λ q v t. grind (arith, common_steps, walk_told m 0 p w q, walk_below m h w p, walk_joined m 0 p w q v, walk_later m (length w) 0 q v);
}

-- A rule keeps exactly the words that its diagram accepts.
pub keeps_accepts : (m : Automaton) → Lawful m → (w : List ℕ) → Keeps m w ↔ Accepts (diagram m) w
keeps_accepts m h w = (
  λ k. (m.start, walk m m.start w, grind (arith, common_steps, walk_leads m h w m.start h.begins k.over)),
  λ (p, q, a). grind (arith, common_steps, leads_walk m w p q a.leads),
)

-- What judging answers: where every letter is there, whether the walk ends at a kept state.
judged_over : (m : Automaton) → Lawful m → (w : List ℕ) → Over m.letters w → keeps_answer m w ≡ Ok (m.kept (walk m m.start w))
judged_over m h w o = grind (arith, common_steps, walk_over m 0 m.start w, walk_below m h w m.start, h.begins)

judged_told : (m : Automaton) (w : List ℕ) (b : Bool) → keeps_answer m w ≡ Ok b → Over m.letters w × (m.kept (walk m m.start w) ≡ b)
judged_told m w b e = grind (arith, common_steps, walk_told m 0 m.start w)

pub judged : (m : Automaton) → Lawful m → (w : List ℕ) (r : Result Bool Fault) → r ≡ keeps_answer m w → Judged m w r
judged m h w r e = record {
  answer = e;
  keeps = grind (arith, common_steps, judged_over m h w, judged_told m w true);
  drops = grind (arith, common_steps, judged_over m h w, judged_told m w false);
  unknown = λ i. grind (arith, common_steps, judged_over m h w, walk_unknown m 0 m.start w i, walk_refused m 0 m.start w i, h.begins);
  textbook = keeps_accepts m h w;
}

-- the same of any rule, whose bounds are its own
pub rule_walked : {S : Type 0} (g : Ghosts S) (s : S) (p : ℕ) (w : List ℕ) (r : Result ℕ Fault) → r ≡ walk_answer (meaning g s) p w → Walked (meaning g s) p w r
rule_walked g s = walked (meaning g s) (g.bounds s)

pub rule_judged : {S : Type 0} (g : Ghosts S) (s : S) (w : List ℕ) (r : Result Bool Fault) → r ≡ keeps_answer (meaning g s) w → Judged (meaning g s) w r
rule_judged g s = judged (meaning g s) (g.bounds s)

-- A walk from a state that is there ends at one.
walk_ends : (m : Automaton) → Lawful m → (p : ℕ) (w : List ℕ) (q : ℕ) → walk_answer m p w ≡ Ok q → q < m.count
walk_ends m h p w q e = grind (arith, common_steps, walk_told m 0 p w q, walk_below m h w p)

pub rule_ends : {S : Type 0} (g : Ghosts S) (s : S) (p : ℕ) (w : List ℕ) (q : ℕ) → walk_answer (meaning g s) p w ≡ Ok q → q < (meaning g s).count
rule_ends g s = walk_ends (meaning g s) (g.bounds s)
