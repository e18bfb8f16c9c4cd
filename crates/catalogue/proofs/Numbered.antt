-- What follows the opening: digits, a space, letters and byte 10, or the place where it is stuck.
use Rattle.std.proofs.Common.{◌≡◌, ℕ, zero, suc, ◌+◌, ◌-◌, ◌<◌, ◌≤◌, Bool, true, false, ◌&&◌, ltb, ◌⊎◌, List, [], ◌∷◌, ◌++◌, length, get_or, take, drop, sym, refl, ap, ◌∙◌, subst, inl, inr, append_assoc, arith, take-suc}
use Rattle.std.proofs.lemmas.List.{drop_more, get_or-drop, get_or-take, length-append, length-drop, length-take-le, nil_from_length, take-append-drop}
use Rattle.std.proofs.Math.Seq.{take-append_seam}
use Rattle.std.proofs.lemmas.List.Sums.{fold-append}
use Rattle.std.proofs.lemmas.List.Elements.{All-from_get_or, recursion_from_All}
use Rattle.std.proofs.lemmas.Bool.{and_right, cases_lt, le-ltb, ne_eqb}
use Rattle.std.specs.List.{AllByRecursion}
use Rattle.catalogue.specs.Entries.{LotAt}
use Rattle.catalogue.specs.Lines.{Begins, LotValue, Mark, Number, Stuck, digit, letter, line, opened, value}
use Rattle.catalogue.specs.Reading.{Ran}
use Rattle.catalogue.proofs.Openings.{begun_by, mark_a}
use Rattle.catalogue.proofs.Scan.{Phase, all_digits, all_letters, dead, done, mark, number, phase, spaced, step, stuck_here, take_opened}

-- the answers of a test
abbrev pub Says : (ℕ → Bool) → ℕ → Bool → Type 0
Says test b r = r ≡ test b

pub ran_as : (text : List ℕ) (P Q : ℕ → Bool → Type 0) (most r : ℕ) → ((b : ℕ) (a : Bool) → P b a → Q b a) → Ran text P most r → Ran text Q most r
ran_as text P Q most r h ran = record {
  within = ran.within;
  few = ran.few;
  all = λ k l. h (get_or text k 0) true (ran.all k l);
  stops = λ l m. h (get_or text r 0) false (ran.stops l m);
}

-- the bytes that were counted pass the test
front_passes : (test : ℕ → Bool) (text : List ℕ) (most r : ℕ) → Ran text (Says test) most r → AllByRecursion (λ b. test b ≡ true) (take r text)
front_passes test text most r ran =
    let P : ℕ → Type 0 = λ b. test b ≡ true in
    recursion_from_All P (take r text) (All-from_get_or P (take r text) 0 (λ k h.
    let below : k < r = omega (arith, length-take-le r text ran.within) in
    rw (get_or-take r text k 0 below) (sym (ran.all k below))))

-- a text without a first digit
pub stuck_first : (rest : List ℕ) → (0 < length rest → (digit (get_or rest 0 0) ≡ false) ⊎ (get_or rest 0 0 ≡ 48)) → Stuck (opened rest) 4
stuck_first rest h =
    stuck_here [] rest (number 0) refl (omega arith) refl (λ e. cc) (begun_by (opened []) (49 ∷ 32 ∷ 97 ∷ 10 ∷ []) refl) (λ l. off (get_or rest 0 0) (h l))
  where
    off : (b : ℕ) → (digit b ≡ false) ⊎ (b ≡ 48) → step (number 0) b ≡ dead
    off b (inl e) = rw e
    off b (inr e) = rw e

module _ (rest : List ℕ) (d : ℕ) (ran : Ran rest (Says digit) 6 d) (some : 1 ≤ d) (first : get_or rest 0 0 ≡ 48 → ⊥) where
  abbrev digits : List ℕ
  digits = take d rest

  long : length digits ≡ d
  long = length-take-le d rest ran.within

  pub a_number : Number digits
  a_number = record {
    some = omega (arith, long);
    few = omega (arith, long, ran.few);
    all = front_passes digit rest 6 d ran;
    first = let l : 0 < d = omega arith in rw (get_or-take d rest 0 0 l) first;
  }

  a_number_reads : phase (number 0) digits ≡ number d
  a_number_reads = all_digits digits a_number ∙ ap number long

  -- a number that no space follows
  pub stuck_number : (d < length rest → get_or rest d 0 ≡ 32 → ⊥) → Stuck (opened rest) (4 + d)
  stuck_number h =
      subst (λ (n : ℕ). Stuck (opened rest) (4 + n)) long
      (stuck_here digits rest (number d) (ap (λ (n : ℕ). take n rest) long) (omega (arith, long, ran.within)) a_number_reads
      (λ e. cc)
      (32 ∷ 97 ∷ 10 ∷ [], digits, 97 ∷ [], record { number = a_number; mark = mark_a; is = refl })
      (λ l. off d (get_or rest (length digits) 0) some (known (omega (arith, long))) (λ e. h (omega (arith, long)) (ap (λ (n : ℕ). get_or rest n 0) (sym long) ∙ e))))
    where
      known : d < length rest → (digit (get_or rest (length digits) 0) ≡ false) ⊎ (6 ≤ d)
      known l = go (cases_lt d 6)
        where
          go : (d < 6) ⊎ (6 ≤ d) → (digit (get_or rest (length digits) 0) ≡ false) ⊎ (6 ≤ d)
          go (inl few) = inl (ap (λ (n : ℕ). digit (get_or rest n 0)) long ∙ sym (ran.stops l few))
          go (inr all) = inr all

      off : (n b : ℕ) → 1 ≤ n → (digit b ≡ false) ⊎ (6 ≤ n) → (b ≡ 32 → ⊥) → step (number n) b ≡ dead
      off zero b h k s = absurd (omega arith)
      off (suc j) b h (inl e) s = rw (e, ne_eqb b 32 s)
      off (suc j) b h (inr e) s = let t : (digit b && ltb (suc j) 6) ≡ false = and_right (digit b) (ltb (suc j) 6) (le-ltb (suc j) 6 e) in rw (t, ne_eqb b 32 s)

  module _ (more : d < length rest) (space : get_or rest d 0 ≡ 32) (most l : ℕ) (far : length rest ≤ most) (run : Ran (drop (d + 1) rest) (Says letter) most l) where
    abbrev after : List ℕ
    after = drop (d + 1) rest

    abbrev letters : List ℕ
    letters = take l after

    -- what was read after the opening
    abbrev read : List ℕ
    read = digits ++ 32 ∷ letters

    -- the rest is the digits, a space, the letters, and what follows
    tail_long : length letters ≡ l
    tail_long = length-take-le l after run.within

    room : d + 1 + l ≤ length rest
    room = omega (arith, run.within, length-drop (d + 1) rest)

    at_space : drop d rest ≡ 32 ∷ after
    at_space = drop_more rest d 0 more ∙ ap (λ (b : ℕ). b ∷ after) space

    parted : rest ≡ read ++ drop l after
    parted =
        sym (take-append-drop d rest) ∙ ap (λ (t : List ℕ). digits ++ t) (at_space ∙ ap (λ (t : List ℕ). 32 ∷ t) (sym (take-append-drop l after)))
        ∙ sym (append_assoc digits (32 ∷ letters) (drop l after))

    front_long : length read ≡ d + 1 + l
    front_long = length-append digits (32 ∷ letters) ∙ omega (arith, long, tail_long)

    front : take (length read) rest ≡ read
    front = ap (take (length read)) parted ∙ take-append_seam read (drop l after)

    after_space : phase (number 0) read ≡ phase (mark false) letters
    after_space =
        fold-append step (number 0) digits (32 ∷ letters)
        ∙ ap (λ (s : Phase). phase (step s 32) letters) a_number_reads
        ∙ ap (λ (s : Phase). phase s letters) (spaced d some)

    -- the byte after the letters is none
    no_letter : d + 1 + l < length rest → letter (get_or rest (d + 1 + l) 0) ≡ false
    no_letter h =
        ap letter (sym (get_or-drop (d + 1) rest l 0)) ∙ sym (run.stops (omega (arith, length-drop (d + 1) rest)) (omega (arith, length-drop (d + 1) rest)))

    pub a_mark : 1 ≤ l → Mark letters
    a_mark h = record { some = omega (arith, tail_long); all = front_passes letter after most l run }

    -- letters that byte 10 does not follow, or none
    stuck_there : (s : Phase) → phase (mark false) letters ≡ s → (s ≡ done → ⊥) → Begins (opened read)
        → (d + 1 + l < length rest → step s (get_or rest (d + 1 + l) 0) ≡ dead) → Stuck (opened rest) (4 + (d + 1 + l))
    stuck_there s reads undone begun next =
        subst (λ (n : ℕ). Stuck (opened rest) (4 + n)) front_long
        (stuck_here read rest s front (omega (arith, front_long, room)) (after_space ∙ reads) undone begun
        (λ h. ap (λ (n : ℕ). step s (get_or rest n 0)) front_long ∙ next (omega (arith, front_long))))

    pub stuck_mark : (1 ≤ l → d + 1 + l < length rest → get_or rest (d + 1 + l) 0 ≡ 10 → ⊥) → Stuck (opened rest) (4 + (d + 1 + l))
    stuck_mark h = go (cases_lt 0 l)
      where
        go : (0 < l) ⊎ (l ≤ 0) → Stuck (opened rest) (4 + (d + 1 + l))
        go (inl k) =
            let k : 1 ≤ l = omega arith in
            stuck_there (mark true) (all_letters letters (a_mark k)) (λ e. cc)
            (10 ∷ [], digits, letters, record { number = a_number; mark = a_mark k; is = ap opened (append_assoc digits (32 ∷ letters) (10 ∷ [])) })
            (λ m. rw (no_letter m, ne_eqb (get_or rest (d + 1 + l) 0) 10 (h k m)))
        go (inr k) =
            let none : letters ≡ [] = nil_from_length letters (omega (arith, tail_long)) in
            stuck_there (mark false) (ap (phase (mark false)) none) (λ e. cc) (
              97 ∷ 10 ∷ [],
              digits,
              97 ∷ [],
              record { number = a_number; mark = mark_a; is = ap (λ (t : List ℕ). opened ((digits ++ 32 ∷ t) ++ 97 ∷ 10 ∷ [])) none ∙ ap opened (append_assoc digits (32 ∷ []) (97 ∷ 10 ∷ [])) },
            )
            (λ m. rw (no_letter m))

    -- a whole line
    pub whole : (lot : LotValue) → lot.number ≡ value digits → lot.mark ≡ letters → 1 ≤ l → d + 1 + l < length rest → get_or rest (d + 1 + l) 0 ≡ 10
        → LotAt (opened rest) 0 lot (5 + (d + 1 + l)) digits
    whole lot n m k h e =
        let six : 5 + (d + 1 + l) - 0 ≡ 4 + suc (d + 1 + l) = omega arith in
        let last : take (suc (d + 1 + l)) rest ≡ read ++ 10 ∷ [] =
        take-suc rest (d + 1 + l) 0 h ∙ ap (λ (b : ℕ). take (d + 1 + l) rest ++ b ∷ []) e ∙ ap (λ (t : List ℕ). t ++ 10 ∷ []) (ap (λ (n : ℕ). take n rest) (sym front_long) ∙ front) in
        let mark_long : length lot.mark ≡ l = ap length m ∙ tail_long in
        let five : 0 + 5 + length digits ≡ suc (suc (suc (suc (d + 1)))) = omega (arith, long) in
        record {
          line = record {
            line = record {
              number = a_number;
              mark = rw m (a_mark k);
              is = ap (λ (n : ℕ). take n (opened rest)) six ∙ take_opened (suc (d + 1 + l)) rest ∙ ap opened (last ∙ append_assoc digits (32 ∷ letters) (10 ∷ []))
                  ∙ ap (line digits) (sym m);
            };
            number = n;
          };
          mark = m ∙ ap (λ (n : ℕ). take n after) (sym mark_long) ∙ ap (λ (n : ℕ). take (length lot.mark) (drop n (opened rest))) (sym five);
          ends = omega (arith, long, mark_long);
          within = omega arith;
        }
