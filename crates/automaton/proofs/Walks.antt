-- Walks: one letter at a time, of joined words, and what an answered walk tells.
use Rattle.std.proofs.Common.{◌≡◌, ℕ, zero, suc, ◌+◌, ◌-◌, ◌<◌, ◌≤◌, cond, ltb, List, [], ◌∷◌, ◌++◌, length, get_or, drop, Ok, Err, refl, arith}
use Rattle.std.proofs.lemmas.Grind.{common_steps}
use Rattle.std.proofs.lemmas.List.{at_drop_more}
use Rattle.automaton.specs.declared.word.Word.{Word}
use Rattle.automaton.specs.Answers.{no_letter}
use Rattle.automaton.specs.Automata.{Automaton, Lawful}
use Rattle.automaton.specs.Languages.{Unknown}
use Rattle.automaton.specs.Words.{Over, bytes_of, letter_of, resumed, spelled, walk, walk_from}

-- Bytes spell one letter each, so a walk takes one byte at a time.
spelled_length : (w : Word) → length (spelled w) ≡ length (bytes_of w)
spelled_length w = grind (arith, common_steps)

spelled_at : (w : Word) (i : ℕ) → i < length (bytes_of w) → get_or (spelled w) i 0 ≡ letter_of w (get_or (bytes_of w) i 0)
spelled_at w i h = grind (arith, common_steps)

pub walk_on : (m : Automaton) (w : Word) (i p : ℕ) → i < length (bytes_of w) → let a = letter_of w (get_or (bytes_of w) i 0) in
    walk_from m i p (drop i (spelled w)) ≡ cond (ltb a m.letters) (walk_from m (i + 1) (m.next p a) (drop (i + 1) (spelled w))) (Err (no_letter i))
walk_on m w i p h = grind (arith, spelled_length w, spelled_at w i h, at_drop_more (walk_from m i p) (spelled w) i 0)

-- A walk is answered exactly where every letter is there, with the state where it ends.
pub walk_over : (m : Automaton) (i p : ℕ) (w : List ℕ) → Over m.letters w → walk_from m i p w ≡ Ok (walk m p w)
walk_over m i p [] o = refl
walk_over m i p (a ∷ w) o = grind (arith, common_steps, walk_over m (i + 1) (m.next p a) w)

pub walk_told : (m : Automaton) (i p : ℕ) (w : List ℕ) (q : ℕ) → walk_from m i p w ≡ Ok q → Over m.letters w × (walk m p w ≡ q)
walk_told m i p [] q e = grind (arith, common_steps)
walk_told m i p (a ∷ w) q e = grind (arith, common_steps, walk_told m (i + 1) (m.next p a) w q)

pub walk_below : (m : Automaton) → Lawful m → (w : List ℕ) (p : ℕ) → p < m.count → Over m.letters w → walk m p w < m.count
walk_below m h [] p l o = l
walk_below m h (a ∷ w) p l o = walk_below m h w (m.next p a) (h.stays p a l o.0) o.1

-- A walk that begins later names later positions.
pub walk_later : (m : Automaton) (i j q : ℕ) (v : List ℕ) → walk_from m (i + j) q v ≡ resumed i (walk_from m j q v)
walk_later m i j q [] = refl
walk_later m i j q (a ∷ v) = grind (arith, common_steps, walk_later m i (j + 1) (m.next q a) v)

-- The walk of a joined word.
pub walk_joined : (m : Automaton) (i p : ℕ) (w : List ℕ) (q : ℕ) (v : List ℕ) → walk_from m i p w ≡ Ok q → walk_from m i p (w ++ v) ≡ walk_from m (i + length w) q v
walk_joined m i p [] q v e = grind (arith, common_steps)
walk_joined m i p (a ∷ w) q v e = grind (arith, common_steps, walk_joined m (i + 1) (m.next p a) w q v)

-- A walk is refused exactly at the first letter that is not there.
unknown_rest : (m : Automaton) (a : ℕ) (w : List ℕ) (k : ℕ) → Unknown m (a ∷ w) (suc k) → (a < m.letters) × Unknown m w k
unknown_rest m a w k u = (u.before 0 (omega arith), record { within = omega (arith, u.within); off = u.off; before = λ j h. u.before (suc j) (omega arith) })

pub walk_unknown : (m : Automaton) (i p : ℕ) (w : List ℕ) (k : ℕ) → Unknown m w k → walk_from m i p w ≡ Err (no_letter (i + k))
walk_unknown m i p [] k u = grind (arith, common_steps)
walk_unknown m i p (a ∷ w) zero u = grind (arith, common_steps)
walk_unknown m i p (a ∷ w) (suc k) u = grind (arith, common_steps, unknown_rest m a w k u, walk_unknown m (i + 1) (m.next p a) w k)

pub walk_refused : (m : Automaton) (i p : ℕ) (w : List ℕ) (n : ℕ) → walk_from m i p w ≡ Err (no_letter n) → (i ≤ n) × Unknown m w (n - i)
walk_refused m i p [] n e = grind (arith, common_steps)
walk_refused m i p (a ∷ w) n e = grind (arith, common_steps, walk_refused m (i + 1) (m.next p a) w n)
