-- Where a text cannot go on as a lot line: a scanner that reads what follows the opening, and what it tells.
use Rattle.std.proofs.Common.{◌≡◌, ℕ, zero, suc, ◌+◌, ◌<◌, ◌≤◌, Bool, true, false, cond, not, ◌&&◌, eqb, ltb, List, [], ◌∷◌, ◌++◌, length, get_or, take, sym, refl, ap, ◌∙◌, subst, arith, take-suc}
use Rattle.std.proofs.lemmas.Bool.{lt-ltb, ne_eqb}
use Rattle.std.proofs.lemmas.List.Sums.{fold-append}
use Rattle.std.specs.List.{AllByRecursion, fold}
use Rattle.catalogue.specs.Lines.{Begins, IsLine, Mark, Number, Stuck, digit, letter, line, opened}

-- What was read after the opening: so many digits; a space and perhaps letters; the whole line; or what no line has.
pub data Phase : Type 0 where
  number : ℕ → Phase
  mark : Bool → Phase
  done : Phase
  dead : Phase

abbrev pub step : Phase → ℕ → Phase
step (number zero) b = cond (digit b && not (eqb b 48)) (number 1) dead
step (number (suc j)) b = cond (digit b && ltb (suc j) 6) (number (suc (suc j))) (cond (eqb b 32) (mark false) dead)
step (mark false) b = cond (letter b) (mark true) dead
step (mark true) b = cond (letter b) (mark true) (cond (eqb b 10) done dead)
step done b = dead
step dead b = dead

abbrev pub phase : Phase → List ℕ → Phase
phase s l = fold step s l

phase_dead : (l : List ℕ) → phase dead l ≡ dead
phase_dead [] = refl
phase_dead (b ∷ l) = phase_dead l

-- Digits are counted, letters are passed, and a whole line is done.
more_digits : (j : ℕ) (ds : List ℕ) → AllByRecursion (λ b. digit b ≡ true) ds → suc j + length ds ≤ 6 → phase (number (suc j)) ds ≡ number (suc j + length ds)
more_digits j [] a h = ap number (omega arith)
more_digits j (d ∷ ds) a h =
    let l : suc j < 6 = omega arith in
    let e : step (number (suc j)) d ≡ number (suc (suc j)) = rw (a.0, lt-ltb (suc j) 6 l) in
    let n : suc (suc j) + length ds ≡ suc j + suc (length ds) = omega arith in
    ap (λ (s : Phase). phase s ds) e ∙ more_digits (suc j) ds a.1 (omega arith) ∙ ap number n

pub all_digits : (ds : List ℕ) → Number ds → phase (number 0) ds ≡ number (length ds)
all_digits [] n = absurd (omega (arith, n.some))
all_digits (d ∷ ds) n =
    let e : step (number 0) d ≡ number 1 = rw (n.all.0, ne_eqb d 48 n.first) in
    let l : 1 + length ds ≡ suc (length ds) = omega arith in
    ap (λ (s : Phase). phase s ds) e ∙ more_digits 0 ds n.all.1 (omega (arith, n.few)) ∙ ap number l

more_letters : (m : List ℕ) → AllByRecursion (λ b. letter b ≡ true) m → phase (mark true) m ≡ mark true
more_letters [] a = refl
more_letters (b ∷ m) a =
    let e : step (mark true) b ≡ mark true = rw a.0 in
    ap (λ (s : Phase). phase s m) e ∙ more_letters m a.1

pub all_letters : (m : List ℕ) → Mark m → phase (mark false) m ≡ mark true
all_letters [] k = absurd (omega (arith, k.some))
all_letters (b ∷ m) k =
    let e : step (mark false) b ≡ mark true = rw k.all.0 in
    ap (λ (s : Phase). phase s m) e ∙ more_letters m k.all.1

-- after a number, a space is read
pub spaced : (n : ℕ) → 1 ≤ n → step (number n) 32 ≡ mark false
spaced zero h = absurd (omega arith)
spaced (suc j) h = refl

pub whole_line : (ds m : List ℕ) → Number ds → Mark m → phase (number 0) (ds ++ 32 ∷ (m ++ 10 ∷ [])) ≡ done
whole_line ds m n k =
    fold-append step (number 0) ds (32 ∷ (m ++ 10 ∷ []))
    ∙ ap (λ (s : Phase). phase (step s 32) (m ++ 10 ∷ [])) (all_digits ds n)
    ∙ ap (λ (s : Phase). phase s (m ++ 10 ∷ [])) (spaced (length ds) n.some)
    ∙ fold-append step (mark false) m (10 ∷ []) ∙ ap (λ (s : Phase). phase s (10 ∷ [])) (all_letters m k)

-- A line is read to its end, and what begins a line is not dead.
line_done : (x ds m : List ℕ) → IsLine (opened x) ds m → phase (number 0) x ≡ done
line_done x ds m l =
    let e : opened x ≡ line ds m = l.is in
    let f : x ≡ ds ++ 32 ∷ (m ++ 10 ∷ []) = cc in
    ap (phase (number 0)) f ∙ whole_line ds m l.number l.mark

begun_lives : (x : List ℕ) → Begins (opened x) → phase (number 0) x ≡ dead → ⊥
begun_lives x (more, ds, m, l) e =
    let f = line_done (x ++ more) ds m l in
    let g : phase (number 0) (x ++ more) ≡ dead = fold-append step (number 0) x more ∙ ap (λ (s : Phase). phase s more) e ∙ phase_dead more in
    cc

pub take_opened : (n : ℕ) (rest : List ℕ) → take (4 + n) (opened rest) ≡ opened (take n rest)
take_opened n rest = let e : 4 + n ≡ suc (suc (suc (suc n))) = omega arith in rw e

-- Where a text is stuck: x was read, the line is not done, and the next byte, if any, cannot be read.
pub stuck_here : (x rest : List ℕ) (s : Phase) → take (length x) rest ≡ x → length x ≤ length rest → phase (number 0) x ≡ s → (s ≡ done → ⊥) → Begins (opened x)
    → (length x < length rest → step s (get_or rest (length x) 0) ≡ dead) → Stuck (opened rest) (4 + length x)
stuck_here x rest s front within reads undone begun next = record {
  within = omega arith;
  begun = rw (take_opened (length x) rest, front) begun;
  unfinished = λ ds m l. undone (sym reads ∙ line_done x ds m (rw (take_opened (length x) rest, front) at l));
  bad = λ h b.
      let short : length x < length rest = omega arith in
      let e : suc (4 + length x) ≡ 4 + suc (length x) = omega arith in
      let t : take (suc (length x)) rest ≡ x ++ get_or rest (length x) 0 ∷ [] = take-suc rest (length x) 0 short ∙ ap (λ (y : List ℕ). y ++ get_or rest (length x) 0 ∷ []) front in
      let u : take (suc (4 + length x)) (opened rest) ≡ opened (x ++ get_or rest (length x) 0 ∷ []) =
      ap (λ (n : ℕ). take n (opened rest)) e ∙ take_opened (suc (length x)) rest ∙ ap opened t in
      begun_lives (x ++ get_or rest (length x) 0 ∷ []) (subst Begins u b)
      (fold-append step (number 0) x (get_or rest (length x) 0 ∷ []) ∙ ap (λ (p : Phase). step p (get_or rest (length x) 0)) reads ∙ next short);
}
