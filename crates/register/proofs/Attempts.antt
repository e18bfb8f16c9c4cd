-- What a comparing under way keeps, with each pair that it notes.
use Rattle.std.proofs.Common.{◌≡◌, ℕ, zero, suc, ◌+◌, ◌<◌, ◌≤◌, Bool, false, List, [], ◌∷◌, ◌++◌, length, refl, sym, subst, Bor, Option, None, Some, ap, ◌∙◌, arith}
use Rattle.std.specs.Prelude.{slice_get}
use Rattle.std.proofs.lemmas.List.{length-take-le}
use Rattle.std.proofs.lemmas.Option.{get_or_from_slice_get, slice_get_within}
use Rattle.std.proofs.lemmas.List.Elements.{All-append}
use Rattle.automaton.specs.declared.rule.Rule.{Ghosts}
use Rattle.automaton.specs.Meanings.{meaning}
use Rattle.explore.specs.declared.pair_cell.PairCell.{PairCell}
use Rattle.explore.specs.declared.queue.Queue.{Queue}
use Rattle.explore.specs.Queues.{further_cells, noted_cells}
use Rattle.explore.specs.Search.{Kind, met, spread}
use Rattle.explore.specs.Underway.{progress}
use Rattle.explore.proofs.Underway.{grown_taken, grown_then, grown_yet, spread_more, spread_out}
use Rattle.register.specs.declared.attempt.Attempt.{Attempt}
use Rattle.register.specs.Attempts.{Goes, Stands, kind_of, next_cell, rule_in}
use Rattle.register.specs.Labels.{same}
use Rattle.register.specs.Pairs.{CellsBelow, joins, kept_alike, pairs}
use Rattle.register.specs.Relations.{Agree, classes, join}
use Rattle.register.proofs.Counting.{classes_agree, classes_few, classes_join}
use Rattle.register.proofs.Joins.{join_agrees}
use Rattle.register.proofs.Labelling.{same_equivalence}
use Rattle.register.proofs.CellJoins.{joins_end}

-- The pair joined last is the one noted last.
pub joined_one : (labels now : List ℕ) (J : ℕ → ℕ → Bool) (cells : List PairCell) (c : PairCell) → c.first < 4096 → c.second < 4096 →
    Agree 4096 (same labels) (joins J cells) → Agree 4096 (same now) (join (same labels) c.first c.second) → Agree 4096 (same now) (joins J (cells ++ (c ∷ [])))
joined_one labels now J cells c hx hy a b u v hu hv =
    rw (b u v hu hv, join_agrees 4096 (same labels) (joins J cells) c.first c.second hx hy a u v hu hv, joins_end J cells c)

-- It makes one class fewer.
pub one_fewer : (labels now : List ℕ) (n x y : ℕ) → n ≤ 4096 → x < n → y < n → same labels x y ≡ false → Agree 4096 (same now) (join (same labels) x y) →
    suc (classes (same now) n) ≡ classes (same labels) n
one_fewer labels now n x y h hx hy f a =
    ap suc (classes_agree n (same now) (join (same labels) x y) (λ u v hu hv. a u v (omega (arith, h)) (omega (arith, h))))
    ∙ classes_join n (same labels) (same_equivalence labels n) x y hx hy f

-- Its states are there.
pub one_below : (n : ℕ) (cells : List PairCell) (c : PairCell) → CellsBelow n cells → c.first < n → c.second < n → CellsBelow n (cells ++ (c ∷ []))
one_below n cells c i hx hy = All-append (λ (d : PairCell). (d.first < n) × (d.second < n)) cells (c ∷ []) i one
  where
    one : CellsBelow n (c ∷ [])
    one zero d h = (hx, hy)
    one (suc k) d h = absurd (omega arith)

pub cell_below : (n : ℕ) (cells : List PairCell) (h : ℕ) (cell : PairCell) → CellsBelow n cells → slice_get cells h ≡ Some cell → (cell.first < n) × (cell.second < n)
cell_below n cells h cell i e =
    subst (λ (c : PairCell). (c.first < n) × (c.second < n)) (get_or_from_slice_get cells h cell cell e) (i h cell (slice_get_within cells h cell e))

abbrev pair_of : PairCell → ℕ × ℕ
pair_of c = (c.first, c.second)

abbrev kind_by : {R : Type 0} → Ghosts R → Bor R → List ℕ → Kind
kind_by g r before = pairs (meaning g r.now) (kept_alike (meaning g r.now)) (same before)

-- A comparing that has gone on, and on again.
module _ {R : Type 0} where
  pub goes_yet : (a : Attempt R) (q : Queue PairCell) → Goes a a q q
  goes_yet a q = record { rule = refl; lent = refl; grown = grown_yet q }

  pub goes_then : (a b c : Attempt R) (q r s : Queue PairCell) → Goes a b q r → Goes b c r s → Goes a c q s
  goes_then a b c q r s f h = record { rule = h.rule ∙ f.rule; lent = h.lent ∙ f.lent; grown = grown_then q r s f.grown h.grown }

  -- a cell is taken
  pub goes_taken : (a b : Attempt R) (q r s : Queue PairCell) → Goes a b q r → s.cells.ghost_name ≡ r.cells.ghost_name → noted_cells s ≡ noted_cells r → further_cells s ≡ further_cells r →
      Goes a b q s
  goes_taken a b q r s f same noted further = record { rule = f.rule; lent = f.lent; grown = grown_taken q r s f.grown same noted further }

-- A search that has gone on: a and b are attempts, with their queues q and r.
module _ {R : Type 0} (g : Ghosts R) where
  -- at first nothing is noted
  pub stands_first : (a : Attempt R) (q : Queue PairCell) → a.classes.now.states ≡ (rule_in g a).count → noted_cells q ≡ [] → (rule_in g a).count ≤ length (further_cells q) →
      Stands g a a.classes.now.labels q
  stands_first a q states none room =
      let few = classes_few (same a.classes.now.labels) (rule_in g a).count in
      record {
        states = states;
        joined = λ u v hu hv. rw none refl;
        inside = λ k d h. absurd (omega (arith, h, ap length none));
        fewer = omega (arith, few, ap length none);
        room = omega (arith, room);
      }

  -- a cell is taken, and the noted ones stand
  pub stands_taken : (a : Attempt R) (before : List ℕ) (q r : Queue PairCell) → Stands g a before q → noted_cells r ≡ noted_cells q → further_cells r ≡ further_cells q →
      Stands g a before r
  stands_taken a before q r s noted further = record {
    states = s.states;
    joined = subst (λ (cells : List PairCell). Agree 4096 (same a.classes.now.labels) (joins (same before) cells)) (sym noted) s.joined;
    inside = subst (λ (cells : List PairCell). CellsBelow (rule_in g a).count cells) (sym noted) s.inside;
    fewer = omega (arith, s.fewer, ap length noted);
    room = omega (arith, s.room, ap length noted, ap length further);
  }

  -- no more cells are noted than there are states, nor taken
  pub few_noted : (a b : Attempt R) (before : List ℕ) (q r : Queue PairCell) → Goes a b q r → Stands g b before r → length (noted_cells r) ≤ g.count a.rule.now
  few_noted a b before q r f s = subst (λ (x : Bor R). length (noted_cells r) ≤ g.count x.now) f.rule (omega (arith, s.fewer))

  pub few_taken : (a b : Attempt R) (before : List ℕ) (q r : Queue PairCell) → Goes a b q r → Stands g b before r → r.taken ≤ g.count a.rule.now
  few_taken a b before q r f s = omega (arith, few_noted a b before q r f s, r.in_order, length-take-le r.noted r.cells.now r.in_room)

  -- what holds of the rule holds after it has gone on
  carried : (P : Bor R → Type 0) (a b : Attempt R) (q r : Queue PairCell) → Goes a b q r → P b.rule → P a.rule
  carried P a b q r f h = subst P f.rule h

  -- a pair is reached by the next letter,
  reached_on : (a b : Attempt R) (before : List ℕ) (q r s : Queue PairCell) (cell d : PairCell) (i letter : ℕ) (ended : Option (ℕ × ℕ)) → Goes a b q r → d ≡ next_cell (rule_in g a) cell i letter →
      met (kind_of g b before) (progress r None) (pair_of d) d.origin d.letter ≡ progress s ended →
      met (kind_of g a before) (progress r None) ((kind_of g a before).step (pair_of cell) letter) i letter ≡ progress s ended
  reached_on a b before q r s cell d i letter ended f is reached =
      subst (λ (e : PairCell). met (kind_of g a before) (progress r None) (pair_of e) e.origin e.letter ≡ progress s ended) is
      (carried (λ x. met (kind_by g x before) (progress r None) (pair_of d) d.origin d.letter ≡ progress s ended) a b q r f reached)

  pub spread_next : (a b : Attempt R) (before : List ℕ) (q r s : Queue PairCell) (cell d : PairCell) (i letter : ℕ) (ended : Option (ℕ × ℕ)) → Goes a b q r →
      spread (kind_of g a before) (progress q None) (pair_of cell) i letter ≡ progress r None → d ≡ next_cell (rule_in g a) cell i letter →
      met (kind_of g b before) (progress r None) (pair_of d) d.origin d.letter ≡ progress s ended →
      spread (kind_of g a before) (progress q None) (pair_of cell) i (letter + 1) ≡ progress s ended
  spread_next a b before q r s cell d i letter ended f so_far is reached =
      spread_more (kind_of g a before) q r s (pair_of cell) i letter ended so_far (reached_on a b before q r s cell d i letter ended f is reached)

  -- and it may have ended by that
  pub spread_over : (a b : Attempt R) (before : List ℕ) (q r s : Queue PairCell) (cell d : PairCell) (i letter k : ℕ) → Goes a b q r →
      spread (kind_of g a before) (progress q None) (pair_of cell) i letter ≡ progress r None → d ≡ next_cell (rule_in g a) cell i letter →
      met (kind_of g b before) (progress r None) (pair_of d) d.origin d.letter ≡ progress s (Some (i, letter)) → letter < k →
      spread (kind_of g a before) (progress q None) (pair_of cell) i k ≡ progress s (Some (i, letter))
  spread_over a b before q r s cell d i letter k f so_far is reached below =
      spread_out (kind_of g a before) q r s (pair_of cell) i letter k so_far (reached_on a b before q r s cell d i letter (Some (i, letter)) f is reached) below

  -- the letters of a cell, as the comparing stood when it was taken, are those of the beginning
  pub spread_on : (a b : Attempt R) (before : List ℕ) (q r s t : Queue PairCell) (cell : PairCell) (h : ℕ) (ended : Option (ℕ × ℕ)) → Goes a b q r →
      spread (kind_of g b before) (progress s None) (pair_of cell) h (g.letters b.rule.now) ≡ progress t ended → spread (kind_of g a before) (progress s None) (pair_of cell) h (g.letters a.rule.now) ≡ progress t ended
  spread_on a b before q r s t cell h ended f reached = carried (λ x. spread (kind_by g x before) (progress s None) (pair_of cell) h (g.letters x.now) ≡ progress t ended) a b q r f reached
