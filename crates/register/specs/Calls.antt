-- What each call of a register promises: one relation between the register before, the arguments, the answer and the register after.
--   found             what the search over pairs gives from p and q on, over what is joined
--   found_in          the same over what a register has joined
--   rule_of           the automaton that the rule of a register means
--   joined_in         whether a register has joined two states
--   JoinedAfter       what is joined after comparing: after "same" what was, and the noted pairs; otherwise the register is as it was
--   Compared          comparing: its answer; the rule stays; what is joined then; the noted cells stand at the beginning of the cells, and a word that was found at the
--                     beginning of the buffer; a refusal leaves both
--   Asked             the joined-question: whether the register has joined the two states, or the refusal of a state that is not there
--   Counted           counting: the number of lowest states of classes; there are representatives, and every list of them has this length
--   Cleared           clearing: the rule stays, and no two different states are joined
use Rattle.std.specs.Prelude.{◌≡◌, ℕ, Bool, cond, List, [], length, Ok, Err, Result, ◌==◌, unwrap_or}
use Rattle.automaton.specs.declared.fault.Fault.{Fault}
use Rattle.automaton.specs.declared.kind.FaultKind.TheVariants.{NoSuchState}
use Rattle.automaton.specs.declared.rule.Rule.{Ghosts}
use Rattle.automaton.specs.Automata.{Automaton}
use Rattle.automaton.specs.Meanings.{meaning}
use Rattle.explore.specs.declared.pair_cell.PairCell.{PairCell}
use Rattle.explore.specs.Search.{Searched, explore}
use Rattle.explore.specs.Written.{if_answered, over}
use Rattle.register.specs.declared.register.Register.{Register}
use Rattle.register.specs.declared.verdict.Verdict.{Verdict}
use Rattle.register.specs.declared.verdict.Verdict.TheVariants.{Same, Differ}
use Rattle.register.specs.Labels.{same}
use Rattle.register.specs.Pairs.{joins, kept_alike, pairs}
use Rattle.register.specs.Refusals.{both_there, checked, refused}
use Rattle.register.specs.Relations.{Agree, HasClasses, Joins, classes}
use Rattle.register.specs.Verdicts.{verdict}

abbrev pub found : Automaton → (ℕ → ℕ → Bool) → ℕ → ℕ → Searched PairCell
found m J p q = explore (pairs m (kept_alike m) J) m.letters m.count (p, q)

abbrev pub joined_in : {R : Type 0} {g : Ghosts R} → Register R g → ℕ → ℕ → Bool
joined_in r = same r.classes.labels

module _ {R : Type 0} (g : Ghosts R) where
  abbrev pub rule_of : Register R g → Automaton
  rule_of r = meaning g r.rule

  abbrev pub found_in : Register R g → ℕ → ℕ → Searched PairCell
  found_in r p q = found (rule_of r) (joined_in r) p q

  abbrev pub JoinedAfter : Register R g → List PairCell → Result Verdict Fault → Register R g → Type 0
  JoinedAfter before noted (Ok (Same j)) after = Agree (rule_of before).count (joined_in after) (joins (joined_in before) noted)
  JoinedAfter before noted (Ok (Differ long keeper tried)) after = after ≡ before
  JoinedAfter before noted (Err f) after = after ≡ before

  pub record Compared (before : Register R g) (p q : ℕ) (cells : List PairCell) (word : List ℕ) (r : Result Verdict Fault) (after : Register R g) (cells_after : List PairCell) (word_after : List ℕ) : Type 0 where
    pub answer : r ≡ checked (rule_of before).count p q (length cells) (length word) (verdict (rule_of before) p q (found_in before p q))
    pub rule : after.rule ≡ before.rule
    pub joined : JoinedAfter before (found_in before p q).noted r after
    pub noted : cells_after ≡ if_answered r (over (found_in before p q).noted cells) cells
    pub written : word_after ≡ if_answered r (over (unwrap_or (found_in before p q).word []) word) word

  abbrev pub Asked : Register R g → ℕ → ℕ → Result Bool Fault → Type 0
  Asked reg p q r = r ≡ cond (both_there (rule_of reg).count p q) (Ok (joined_in reg p q)) (Err (refused NoSuchState))

  pub record Counted (reg : Register R g) (n : ℕ) : Type 0 where
    pub number : n ≡ classes (joined_in reg) (rule_of reg).count
    pub represented : HasClasses (rule_of reg).count (Joins (joined_in reg)) n

  pub record Cleared (before after : Register R g) : Type 0 where
    pub rule : after.rule ≡ before.rule
    pub apart : Agree (rule_of after).count (joined_in after) (λ x y. x == y)
