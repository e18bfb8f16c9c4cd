-- What a right verdict on the starts of the automata on two sheets says of the words that the sheets' diagrams accept.
use Rattle.std.proofs.Common.{◌≡◌, ℕ, ◌+◌, ◌==◌, ◌↔◌, List, length, take, Ok, Result, Some, ap, refl, sym, subst, ◌∙◌, arith}
use Rattle.std.specs.Prelude.{IfOk, option_map}
use Rattle.std.proofs.lemmas.List.{length-take-le}
use Rattle.automaton.specs.declared.fault.Fault.{Fault}
use Rattle.automaton.specs.Automata.{Automaton, Lawful}
use Rattle.automaton.specs.Diagrams.{Accepts, Diagram}
use Rattle.automaton.specs.Languages.{Keeps}
use Rattle.combine.specs.Bounds.{disjoint_union_lawful}
use Rattle.combine.specs.Combined.{disjoint_union}
use Rattle.combine.specs.Laws.{Beside, FitSum, begun_at}
use Rattle.combine.proofs.Kept.{unites}
use Rattle.explore.specs.declared.pair_cell.PairCell.{PairCell}
use Rattle.explore.specs.Search.{Searched}
use Rattle.register.specs.declared.verdict.Verdict.{Verdict}
use Rattle.register.specs.Pairs.{IsSmallest, kept_alike}
use Rattle.register.specs.Relations.{Holds}
use Rattle.register.specs.Runs.{Right, fresh, handed}
use Rattle.register.specs.Verdicts.{verdict_value}
use Rattle.register.proofs.Standing.{apart_law, kept_law}
use Rattle.settlement.specs.declared.settlement.Settlement.{Settlement}
use Rattle.settlement.specs.Settlements.{Settled, keeper_of, search_of, word_of}
use Rattle.settlement.specs.Openings.{OnSheet}
use Rattle.settlement.specs.Steps.{StartsCompared, Tells, VerdictRight}
use Rattle.settlement.proofs.Parting.{WordsOf, alike_none, none_alike, separates_tells, tells_separates}
use Rattle.settlement.proofs.Settling.{kept_by, same_length, same_said, same_word}
use Rattle.sheet.specs.Bounds.{tabled_lawful}
use Rattle.sheet.specs.Layout.{WellFormed, drawn, tabled}
use Rattle.sheet.proofs.Drawings.{keeps_drawn}

-- A diagram accepts the words of a state, if an automaton that keeps its words has those of the state.
words_of : {d : Diagram} {m c : Automaton} {p : ℕ} → ((w : List ℕ) → Keeps m w ↔ Accepts d w) → ((w : List ℕ) → Keeps (begun_at p c) w ↔ Keeps m w) → WordsOf d c p
words_of f g = record {
  are = λ w. (
    (λ x.
        let k = (g w).1 ((f w).1 x) in
        (k.over, k.kept)),
    (λ h. (f w).0 ((g w).0 (record { over = h.0; kept = h.1 }))),
  );
}

-- Two well-formed sheets whose rules fit, and a right verdict on the starts.
module _ (first second : List ℕ) (f : WellFormed first) (g : WellFormed second) (fit : FitSum (tabled first) (tabled second)) (v : Verdict) (buffer : List ℕ)
    (j : VerdictRight (tabled first) (tabled second) v buffer) where
  abbrev m : Automaton
  m = tabled first

  abbrev n : Automaton
  n = tabled second

  abbrev c : Automaton
  c = disjoint_union m n

  abbrev p : ℕ
  p = m.start

  abbrev q : ℕ
  q = m.count + n.start

  l : Lawful m
  l = tabled_lawful first f.closed

  k : Lawful n
  k = tabled_lawful second g.closed

  beside : Beside m n c
  beside = (unites m n l).beside fit

  first_words : WordsOf (drawn first) c p
  first_words = words_of (keeps_drawn first f.closed) (beside.first p l.begins)

  second_words : WordsOf (drawn second) c q
  second_words = words_of (keeps_drawn second g.closed) (beside.second n.start k.begins)

  -- where no two states are joined, the test joins what the smallest equivalence joins
  apart : IsSmallest c (Holds fresh.pairs) (λ x y. x == y)
  apart = (apart_law c (disjoint_union_lawful m n l k) (kept_alike c) (kept_law.equivalence c) (λ x y. x == y) (λ u v hu hv. refl)).held.smallest

  r : Right c fresh p q v j.cells buffer
  r = j.right

  searched : search_of m n ≡ record { noted = take (verdict_value v).joins j.cells; word = handed v buffer }
  searched = r.defined (λ x y. x == y) apart

  pub settled : (s : Settlement) → Tells v p s → Settled first second s buffer
  settled s t =
      let said = same_said v p s t in
      let word : word_of s buffer ≡ handed v buffer = same_word v p s buffer t in
      let is_handed : (w : List ℕ) → word_of s buffer ≡ Some w → handed v buffer ≡ Some w = λ w e. sym word ∙ e in
      record {
        first_formed = f;
        second_formed = g;
        fit = fit;
        same = ((λ x. none_alike first_words second_words (r.same.0 (said.0 x))), (λ x. said.1 (r.same.1 (alike_none first_words second_words x))));
        first_word = λ w e.
            let h = r.first w (is_handed w e) in
            (separates_tells first_words second_words w h.0, λ u x. h.1 u (tells_separates first_words second_words u x));
        shortest = λ w e u x. r.shortest w (is_handed w e) u (tells_separates first_words second_words u x);
        kept = λ side w e x.
            kept_by first_words second_words (λ z. omega (arith, z, l.begins)) v (keeper_of s) side w (r.first w (is_handed w x)).0.over (r.named w (is_handed w x)) t.keeper e;
        word = word ∙ sym (ap (λ (x : Searched PairCell). x.word) searched);
        long = same_length c p q v p s buffer t r.named ∙ sym (ap (λ (x : Searched PairCell). option_map length x.word) searched);
        joins = t.joins ∙ sym (length-take-le (verdict_value v).joins j.cells r.many) ∙ sym (ap (λ (x : Searched PairCell). length x.noted) searched);
      }

-- Two sheets that were opened, where the fit question said yes of their automata.
module _ (first second : List ℕ) (x y : Automaton) (a : OnSheet first x) (b : OnSheet second y) (m n : Automaton) (is_x : m ≡ x) (is_y : n ≡ y) (yes : FitSum m n) (word : List ℕ)
    (r : Result Verdict Fault) (buffer : List ℕ) (compared : StartsCompared m n word r buffer) where
  -- what holds of the two automata holds of those on the sheets
  moved : (P : Automaton → Automaton → Type 0) → P m n → P (tabled first) (tabled second)
  moved P h = subst (λ (z : Automaton). P (tabled first) z) (is_y ∙ b.means) (subst (λ (z : Automaton). P z n) (is_x ∙ a.means) h)

  fit : FitSum (tabled first) (tabled second)
  fit = moved FitSum yes

  starts : StartsCompared (tabled first) (tabled second) word r buffer
  starts = moved (λ d e. StartsCompared d e word r buffer) compared

  pub sheets_settled : (v : Verdict) → r ≡ Ok v → (start : ℕ) → start ≡ 0 → (s : Settlement) → Tells v start s → Settled first second s buffer
  sheets_settled v is start e s t =
      settled first second a.formed b.formed fit v buffer (subst (λ (z : Result Verdict Fault). IfOk z (λ v. VerdictRight (tabled first) (tabled second) v buffer)) is starts.right) s
      (subst (λ (z : ℕ). Tells v z s) e t)
