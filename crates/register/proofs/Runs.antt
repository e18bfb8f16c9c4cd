-- The law over runs: after any calls, what is joined is held by the tally's pairs.
use Rattle.std.proofs.Common.{◌≡◌, ℕ, ◌+◌, ◌<◌, ◌≤◌, Bool, true, false, cond, ◌&&◌, ◌==◌, List, [], ◌∷◌, length, None, Ok, Err, Result, refl, sym, subst, ap, ◌∙◌, arith}
use Rattle.std.specs.Prelude.{nat_lt, unwrap_or}
use Rattle.std.proofs.Math.Path.{subst⁻¹}
use Rattle.std.proofs.lemmas.Bool.{and_from, cond-true, le-ltb, lt-ltb, ltb-true}
use Rattle.automaton.specs.declared.fault.Fault.{Fault}
use Rattle.automaton.specs.declared.kind.FaultKind.TheVariants.{NoSuchState, TooFewCells, BufferTooShort}
use Rattle.automaton.specs.declared.rule.Rule.{Ghosts}
use Rattle.automaton.specs.Automata.{Automaton, Lawful}
use Rattle.automaton.specs.Faults.{and_then}
use Rattle.automaton.specs.Meanings.{meaning}
use Rattle.explore.specs.declared.pair_cell.PairCell.{PairCell}
use Rattle.explore.specs.Search.{Searched}
use Rattle.explore.specs.Written.{if_answered, over}
use Rattle.register.specs.declared.register.Register.{Register}
use Rattle.register.specs.declared.verdict.Verdict.TheVariants.{Same, Differ}
use Rattle.register.specs.Calls.{Counted, found, found_in, joined_in, rule_of}
use Rattle.register.specs.Refusals.{both_there, checked, refused}
use Rattle.register.specs.Pairs.{Agreeing, Found as Came, Held, joins, kept_alike}
use Rattle.register.specs.Relations.{Agree, HasClasses, classes}
use Rattle.register.specs.Runs.{EachRight, Event, IsSame, Law, OneRight, Run, JoinedBy, Step, Tally, asked, cleared, compared, counted, fresh, tallied, tally}
use Rattle.register.specs.Verdicts.{verdict, verdict_value}
use Rattle.register.proofs.Pairs.{pairs_law}
use Rattle.register.proofs.Right.{joins_noted, right, same_none}
use Rattle.register.proofs.Standing.{agree_law, apart_law, kept_law}

-- An answer's value.
abbrev Is : {T : Type 0} → Result T Fault → T → Type 0
Is (Ok x) v = v ≡ x
Is (Err f) v = ⊥

-- Both states of a comparing that was accepted are there,
checked_ok : {T : Type 0} (n p q c w : ℕ) (x v : T) → Ok v ≡ checked n p q c w x → (p < n) × (q < n) × (v ≡ x)
checked_ok {T} n p q c w x v e = go (nat_lt p n) refl (nat_lt q n) refl (nat_lt c n) (nat_lt w n) (subst (λ (r : Result T Fault). Is r v) e refl)
  where
    go : (a : Bool) → nat_lt p n ≡ a → (b : Bool) → nat_lt q n ≡ b → (d f : Bool) →
        Is (cond (a && b) (and_then (cond d (Err (refused TooFewCells)) (Ok (tt {0}))) (λ _. and_then (cond f (Err (refused BufferTooShort)) (Ok (tt {0}))) (λ _. Ok x))) (Err (refused NoSuchState))) v →
        (p < n) × (q < n) × (v ≡ x)
    go true i true j false false k = (ltb-true p n i, ltb-true q n j, k)
    go true i true j false true k = absurd k
    go true i true j true f k = absurd k
    go true i false j d f k = absurd k
    go false i b j d f k = absurd k

there : (n p q : ℕ) → p < n → q < n → both_there n p q ≡ true
there n p q hp hq = and_from (nat_lt p n) (nat_lt q n) (lt-ltb p n hp) (lt-ltb q n hq)

-- and it is accepted if both are there and there is room.
checked_all : {T : Type 0} (n p q c w : ℕ) (x : T) → p < n → q < n → n ≤ c → n ≤ w → checked n p q c w x ≡ Ok x
checked_all n p q c w x hp hq hc hw = cond-true (both_there n p q) _ _ (there n p q hp hq) ∙ rw (le-ltb c n hc, le-ltb w n hw) refl

-- What is joined is held by the tally's pairs, and its classes are with the tally's joins as many as the states.
record Good (m : Automaton) (J : ℕ → ℕ → Bool) (t : Tally) : Type 0 where
  pub held : Held m (kept_alike m) t.pairs J
  pub total : classes J m.count + t.sum ≡ m.count

module _ (m : Automaton) (l : Lawful m) where
  came : (J : ℕ → ℕ → Bool) (t : Tally) → Good m J t → (p q : ℕ) → p < m.count → q < m.count → Came m (kept_alike m) J p q (found m J p q)
  came J t h p q hp hq = pairs_law m l (kept_alike m) (kept_law.equivalence m) J h.held.standing p q hp hq

  good_apart : (J : ℕ → ℕ → Bool) → Agree m.count J (λ x y. x == y) → Good m J fresh
  good_apart J a =
      let h = apart_law m l (kept_alike m) (kept_law.equivalence m) J a in
      record { held = h.held; total = omega (arith, h.counted) }

  -- comparing two states that no word separates
  good_joined : (J L : ℕ → ℕ → Bool) (t : Tally) → Good m J t → (p q j : ℕ) → p < m.count → q < m.count → Same j ≡ verdict m p q (found m J p q) →
      Agree m.count L (joins J (found m J p q).noted) → Good m L (record { pairs = (p, q) ∷ t.pairs; sum = j + t.sum })
  good_joined J L t h p q j hp hq is a = record {
    held = carried.held ((p, q) ∷ t.pairs) (c.one_more none t.pairs h.held);
    total = omega (arith, carried.counted, c.counted, h.total, many);
  }
    where
      r : Searched PairCell
      r = found m J p q

      c : Came m (kept_alike m) J p q r
      c = came J t h p q hp hq

      none : r.word ≡ None
      none = same_none m p q (length r.noted) r.word (subst IsSame is tt)

      many : j ≡ length r.noted
      many = ap (λ v. (verdict_value v).joins) is ∙ joins_noted m p q (length r.noted) r.word

      carried : Agreeing m (kept_alike m) (joins J r.noted) L
      carried = agree_law m l (kept_alike m) (joins J r.noted) L (λ u v hu hv. sym (a u v hu hv))

module _ {R : Type 0} (g : Ghosts R) where
  abbrev GoodAt : Register R g → Tally → Type 0
  GoodAt reg t = Good (rule_of g reg) (joined_in reg) t

  abbrev Reached : Register R g → Register R g → Tally → Type 0
  Reached before after t = GoodAt after t × (after.rule ≡ before.rule)

  unmoved : (before : Register R g) (t : Tally) → GoodAt before t → (after : Register R g) → after ≡ before → Reached before after t
  unmoved before t h after e = subst⁻¹ (λ (z : Register R g). Reached before z t) e (h, refl)

  -- each call leads from what is good to what is good,
  step_good : (before : Register R g) (t : Tally) → GoodAt before t → (e : Event) (after : Register R g) → Step g before e after → Reached before after (tallied t e)
  step_good before t h (compared p q cells word (Ok (Same j)) cells_after word_after) after c =
      let k = checked_ok _ p q (length cells) (length word) _ (Same j) c.answer in
      let h' = good_joined (rule_of g before) (g.bounds before.rule) (joined_in before) (joined_in after) t h p q j k.0 k.1 k.2 c.joined in
      (subst⁻¹ (λ (x : R). Good (meaning g x) (joined_in after) (record { pairs = (p, q) ∷ t.pairs; sum = j + t.sum })) c.rule h', c.rule)
  step_good before t h (compared p q cells word (Ok (Differ long keeper tried)) cells_after word_after) after c = unmoved before t h after c.joined
  step_good before t h (compared p q cells word (Err f) cells_after word_after) after c = unmoved before t h after c.joined
  step_good before t h (asked p q r) after c = unmoved before t h after c.1
  step_good before t h (counted n) after c = unmoved before t h after c.1
  step_good before t h cleared after c = (good_apart (rule_of g after) (g.bounds after.rule) (joined_in after) c.apart, c.rule)

  -- and so does a run,
  run_good : (events : List Event) (before : Register R g) (t : Tally) → GoodAt before t → (after : Register R g) → Run g before events after → Reached before after (tally t events)
  run_good [] before t h after r = unmoved before t h after r
  run_good (e ∷ es) before t h after r =
      let s = step_good before t h e r.0 r.1 in
      let c = run_good es r.0 (tallied t e) s.0 after r.2 in
      (c.0, c.1 ∙ s.1)

  -- in which each comparing is right
  one_right : (before : Register R g) (t : Tally) → GoodAt before t → (e : Event) (after : Register R g) → Step g before e after → OneRight (rule_of g before) t e
  one_right before t h (compared p q cells word r cells_after word_after) after c = λ hp hq hc hw.
      let m = rule_of g before in
      let s = found_in g before p q in
      let is : r ≡ Ok (verdict m p q s) = c.answer ∙ checked_all m.count p q (length cells) (length word) (verdict m p q s) hp hq hc hw in (
        verdict m p q s,
        is,
        right m (g.bounds before.rule) t (joined_in before) h.held p q hp hq s refl (came m (g.bounds before.rule) (joined_in before) t h p q hp hq) cells_after word_after cells word
            (c.noted ∙ ap (λ z. if_answered z (over s.noted cells) cells) is)
            (c.written ∙ ap (λ z. if_answered z (over (unwrap_or s.word []) word) word) is),
      )
  one_right before t h (asked p q r) after c = tt
  one_right before t h (counted n) after c = tt
  one_right before t h cleared after c = tt

  each_right : (events : List Event) (before : Register R g) (t : Tally) → GoodAt before t → (after : Register R g) → Run g before events after → EachRight (rule_of g before) t events
  each_right [] before t h after r = tt
  each_right (e ∷ es) before t h after r =
      let s = step_good before t h e r.0 r.1 in
      (one_right before t h e r.0 r.1, subst (λ (x : R). EachRight (meaning g x) (tallied t e) es) s.1 (each_right es r.0 (tallied t e) s.0 after r.2))

  pub law : (opened : Register R g) → Agree 4096 (joined_in opened) (λ x y. x == y) → Law g opened
  law opened a = record {
    comparings = λ events reg run. each_right events opened fresh first reg run;
    asking = λ events reg run p q r c hp hq. (
      joined_in reg p q,
      c ∙ cond-true (both_there (rule_of g reg).count p q) _ _ (there (rule_of g reg).count p q (omega (arith, states events reg run, hp)) (omega (arith, states events reg run, hq))),
      (good events reg run).held.smallest p q hp hq,
    );
    counting = λ events reg run n c. subst⁻¹ (λ (k : ℕ). HasClasses m.count (JoinedBy m (tally fresh events)) k) (number events reg run n c) (good events reg run).held.counted;
    total = λ events reg run n c. omega (arith, number events reg run n c, (good events reg run).total);
  }
    where
      m : Automaton
      m = rule_of g opened

      l : Lawful m
      l = g.bounds opened.rule

      first : Good m (joined_in opened) fresh
      first = good_apart m l (joined_in opened) (λ u v hu hv. a u v (omega (arith, l.few_states)) (omega (arith, l.few_states)))

      rule : (events : List Event) (reg : Register R g) → Run g opened events reg → reg.rule ≡ opened.rule
      rule events reg run = (run_good events opened fresh first reg run).1

      good : (events : List Event) (reg : Register R g) → Run g opened events reg → Good m (joined_in reg) (tally fresh events)
      good events reg run = subst (λ (x : R). Good (meaning g x) (joined_in reg) (tally fresh events)) (rule events reg run) (run_good events opened fresh first reg run).0

      states : (events : List Event) (reg : Register R g) → Run g opened events reg → (rule_of g reg).count ≡ m.count
      states events reg run = ap g.count (rule events reg run)

      number : (events : List Event) (reg : Register R g) → Run g opened events reg → (n : ℕ) → Counted g reg n → n ≡ classes (joined_in reg) m.count
      number events reg run n c = c.number ∙ ap (classes (joined_in reg)) (states events reg run)
